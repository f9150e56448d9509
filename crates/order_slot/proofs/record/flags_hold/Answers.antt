-- `order_slot::record::flags_hold` meets its contract.
-- Assumes nothing.
use native.Mathlib.Omega.{arith}
use Rattle.std.proofs.lemmas.Bool.Decides.{nat_tests}
use Rattle.order_slot.proofs.TellsLaws.{tells_by, denied}
use Rattle.order_slot.proofs.record.flags_hold.Goals as goal

pub returns-then-l-le1-4 : goal.returns-then-l-le1-4
returns-then-l-le1-4 c =
    tells_by _
    (λ e. record {
      pending_flag = grind arith;
      queued_flag = grind arith;
      paused_flag = grind arith;
      registered_flag = grind arith;
      living_flag = grind (arith, nat_tests);
    })
    (λ p. grind (arith, nat_tests))

pub returns-else-l-le1-4 : goal.returns-else-l-le1-4
returns-else-l-le1-4 c = denied (cc) (λ p. grind arith)
