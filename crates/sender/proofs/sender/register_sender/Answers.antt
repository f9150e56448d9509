-- `sender::sender::register_sender` meets its contract.
-- Assumes nothing.
use mathlib.Core.Path.{◌∙◌, sym}
use Rattle.store.specs.Words.{unless_refused}
use Rattle.sender.specs.Sender.{register_sender}
use Rattle.sender.proofs.SenderBounds.{free_issued}
use Rattle.sender.proofs.sender.register_sender.Goals as goal

pub lanes_verdict-requires : goal.lanes_verdict-requires
lanes_verdict-requires c = c.requires.stores.shaped

pub passed_over-d-requires : goal.passed_over-d-requires
passed_over-d-requires c = (c.requires.stores.shaped, free_issued _ _ c.requires)

pub returns-in-Err : goal.returns-in-Err
unfolding register_sender unless_refused
returns-in-Err c = rw (sym c.lanes_verdict.ensures ∙ c.in-Err.is)

pub returns-in-Ok : goal.returns-in-Ok
unfolding register_sender unless_refused
returns-in-Ok c = rw (sym c.lanes_verdict.ensures ∙ c.in-Ok.is, ← c.passed_over-d.ensures) c.register_slot.ensures
