-- `order_slot::record::counts_hold` meets its contract.
-- Assumes nothing.
use native.Mathlib.Omega.{arith}
use Rattle.std.proofs.lemmas.Bool.Decides.{nat_tests}
use Rattle.order_slot.proofs.TellsLaws.{tells_by, denied}
use Rattle.order_slot.proofs.record.counts_hold.Goals as goal

pub returns-then-l-2 : goal.returns-then-l-2
returns-then-l-2 c =
    tells_by _
    (λ e. record {
      cached_is = grind arith;
      unreleased_is = grind (arith, nat_tests);
      unreleased_below = grind arith;
      window_most = grind arith;
      burst_most = grind arith;
    })
    (λ p. grind (arith, nat_tests))

pub returns-else-l-2 : goal.returns-else-l-2
returns-else-l-2 c = denied (cc) (λ p. grind arith)
