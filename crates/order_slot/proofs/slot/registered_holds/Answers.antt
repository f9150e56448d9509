-- `order_slot::slot::registered_holds` meets its contract.
-- Assumes nothing.
use native.Mathlib.Omega.{arith}
use Rattle.order_slot.proofs.TellsLaws.{told, tells_true, tells_by, denied, untold}
use Rattle.order_slot.proofs.slot.registered_holds.Goals as goal

pub returns-then-window_holds : goal.returns-then-window_holds
returns-then-window_holds c =
    tells_by _
    (λ e. record {
      lane = told c.lane_holds.ensures e;
      queued_is = grind (arith, told);
      unpaused = λ h. grind (arith, told);
      not_free = grind arith;
      is_marked = λ x y z. grind (arith, told);
      window = grind (arith, told);
    })
    (λ p. tells_true c.lane_holds.ensures p.lane)

pub returns-else-window_holds : goal.returns-else-window_holds
returns-else-window_holds c = denied (cc) (λ p. grind (arith, untold, p))
