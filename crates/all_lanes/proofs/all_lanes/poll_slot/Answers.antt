-- `all_lanes::all_lanes::poll_slot` meets its contract.
-- Assumes nothing.
use Rattle.all_lanes.proofs.SlotLoops.{wants_queue}
use Rattle.all_lanes.specs.AllLanes.{may_queue, poll_slot}
use Rattle.ready.proofs.OfferLaws.{wants_room}
use native.Mathlib.Omega.{arith}
use mathlib.Core.Path.{sym, ap, ◌∙◌}
use Rattle.all_lanes.proofs.all_lanes.poll_slot.Goals as goal

pub enqueue-requires : goal.enqueue-requires
enqueue-requires c =
    let s = c.requires.0 in
    let w = wants_queue _ _ c.requires.2 (ap may_queue (sym c.load.ensures) ∙ sym c.may_queue.ensures ∙ c.if-may_queue.true) in
    (s, omega (arith, s.issued_most, w.is_issued), wants_room _ _ s c.requires.1 w)

pub returns-then-may_queue : goal.returns-then-may_queue
unfolding poll_slot
returns-then-may_queue c = simp (← c.load.ensures, ← c.may_queue.ensures, c.if-may_queue.true) (cc)

pub returns-else-may_queue : goal.returns-else-may_queue
unfolding poll_slot
returns-else-may_queue c = simp (← c.load.ensures, ← c.may_queue.ensures, c.if-may_queue.false)
