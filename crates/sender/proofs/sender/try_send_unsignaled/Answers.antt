-- `sender::sender::try_send_unsignaled` meets its contract.
-- Assumes nothing.
use mathlib.Core.Path.{◌∙◌, sym}
use Rattle.store.specs.Words.{unless_refused}
use Rattle.sender.specs.Sender.{try_send_unsignaled}
use Rattle.sender.proofs.SenderBounds.{send_room}
use Rattle.sender.proofs.sender.try_send_unsignaled.Goals as goal

pub send_unsignaled-requires : goal.send_unsignaled-requires
send_unsignaled-requires c = send_room _ _ _ c.requires (sym c.send_verdict.ensures ∙ c.in-Ok.is)

pub returns-in-Err : goal.returns-in-Err
unfolding try_send_unsignaled unless_refused
returns-in-Err c = rw (sym c.send_verdict.ensures ∙ c.in-Err.is)

pub returns-in-Ok : goal.returns-in-Ok
unfolding try_send_unsignaled unless_refused
returns-in-Ok c = rw (sym c.send_verdict.ensures ∙ c.in-Ok.is) c.send_unsignaled.ensures
