-- `sender::sender::try_send` meets its contract.
-- Assumes nothing.
use borrow.Author.Rules.{rules}
use mathlib.Core.Path.{◌∙◌, sym}
use Rattle.store.specs.Words.{unless_refused}
use Rattle.sender.specs.Sender.{try_send}
use Rattle.sender.proofs.SenderBounds.{send_room}
use Rattle.sender.proofs.sender.try_send.Goals as goal

pub send_signaled-requires : goal.send_signaled-requires
send_signaled-requires c = send_room _ _ _ c.requires (sym c.send_verdict.ensures ∙ c.in-Ok.is)

pub returns-in-Err : goal.returns-in-Err
unfolding try_send unless_refused
returns-in-Err c = rw (sym c.send_verdict.ensures ∙ c.in-Err.is)

pub returns-in-Ok : goal.returns-in-Ok
unfolding try_send unless_refused
returns-in-Ok c = rw (sym c.send_verdict.ensures ∙ c.in-Ok.is) (search rules)
