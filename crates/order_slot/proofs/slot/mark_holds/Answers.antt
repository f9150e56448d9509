-- `order_slot::slot::mark_holds` meets its contract.
-- Assumes nothing.
use mathlib.Core.Path.{◌∙◌, sym, ap}
use Prim.Native.Nat.{◌%◌}
use native.Mathlib.Omega.{arith}
use Rattle.ready.specs.declared.ready.Page.{Page}
use Rattle.ready.specs.Bits.{bit}
use Rattle.order_slot.proofs.TellsLaws.{tells_eq, allowed}
use Rattle.order_slot.proofs.slot.mark_holds.Goals as goal

pub returns-then-queued-ne0 : goal.returns-then-queued-ne0
returns-then-queued-ne0 c = allowed (cc) (λ p q z. absurd (grind (arith, c.if-queued-ne0.either)))

pub returns-else-queued-ne0 : goal.returns-else-queued-ne0
returns-else-queued-ne0 c =
    let w = ap (λ (p : Page). bit p.bits (c.args.slot % 64)) c.load.ensures in
    let k = c.if-queued-ne0.false in
    tells_eq _ _ (λ e p q z. sym w ∙ e) (λ p. w ∙ p k.0 k.1 k.2)
