-- `order::header::places_hold` meets its contract.
-- Assumes nothing.
use native.Mathlib.Omega.{arith}
use Rattle.std.proofs.lemmas.Bool.Decides.{nat_tests}
use Rattle.order_slot.proofs.TellsLaws.{tells_by, denied}
use Rattle.order.proofs.header.places_hold.Goals as goal

pub returns-then-t-slots-4 : goal.returns-then-t-slots-4
returns-then-t-slots-4 c =
    tells_by _
    (λ e. record {
      issued_most = grind arith;
      front_in = grind arith;
      count_most = grind arith;
      free_most = grind arith;
      fast_below = grind (arith, nat_tests);
    })
    (λ p. grind (arith, nat_tests))

pub returns-else-t-slots-4 : goal.returns-else-t-slots-4
returns-else-t-slots-4 c = denied (cc) (λ p. grind arith)
