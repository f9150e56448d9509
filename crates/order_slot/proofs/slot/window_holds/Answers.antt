-- `order_slot::slot::window_holds` meets its contract.
-- Assumes nothing.
use native.Mathlib.Omega.{arith}
use Rattle.std.proofs.lemmas.Bool.Decides.{nat_tests}
use Rattle.order_slot.proofs.TellsLaws.{tells_by, denied}
use Rattle.order_slot.proofs.SlotLaws.{front_alone, front_is}
use Rattle.order_slot.proofs.slot.window_holds.Goals as goal

pub returns-then-window-eq0 : goal.returns-then-window-eq0
returns-then-window-eq0 c = tells_by _ (λ e h. absurd (omega arith)) (λ p. grind (arith, nat_tests))

pub returns-then-front_slot-slot : goal.returns-then-front_slot-slot
returns-then-front_slot-slot c =
    tells_by _
    (λ e h. record {
      at_fast = grind arith;
      in_front = front_alone _ c.requires (grind arith) (grind arith);
      within = grind (arith, nat_tests);
    })
    (λ p. let f = p (omega (arith, c.if-window-eq0.false)) in grind (arith, nat_tests, f.within))

pub returns-else-front_slot-slot : goal.returns-else-front_slot-slot
returns-else-front_slot-slot c =
    denied (cc)
    (λ p.
    let f = p (omega (arith, c.if-window-eq0.false)) in
    let q = front_is _ c.requires f.in_front in
    grind (arith, f.at_fast, q))
