-- `sender::sender::register_slot` meets its contract.
-- Assumes nothing.
use mathlib.Core.Path.{◌∙◌, sym}
use Rattle.store.specs.Words.{unless_refused}
use Rattle.sender.specs.Sender.{register_slot}
use Rattle.sender.proofs.SenderBounds.{free_issued, register_room, due_in}
use Rattle.sender.proofs.sender.register_slot.Goals as goal

pub slot_verdict-requires : goal.slot_verdict-requires
slot_verdict-requires c = c.requires.stores.shaped

pub due_key-key-requires : goal.due_key-key-requires
due_key-key-requires c = (c.requires.stores.shaped, free_issued _ _ c.requires)

pub register_lane-requires : goal.register_lane-requires
register_lane-requires c =
    let room = register_room _ _ c.requires _ (sym c.slot_verdict.ensures ∙ c.in-Ok.is) in
    (room, rw c.due_key-key.ensures (due_in _ _ c.requires.stores.shaped (free_issued _ _ c.requires) room.due))

pub returns-in-Err : goal.returns-in-Err
unfolding register_slot unless_refused
returns-in-Err c = rw (sym c.slot_verdict.ensures ∙ c.in-Err.is)

pub returns-in-Ok : goal.returns-in-Ok
unfolding register_slot unless_refused
returns-in-Ok c = rw (sym c.slot_verdict.ensures ∙ c.in-Ok.is, c.register_lane.ensures, c.due_key-key.ensures)
