-- `control::lane_control::close_receiver` meets its contract.
-- Assumes nothing.
use Rattle.control.specs.Control.{close_receiver}
use Rattle.store.specs.Words.{unless_refused}
use mathlib.Core.Path.{◌∙◌, sym}
use Rattle.control.proofs.lane_control.close_receiver.Goals as goal

pub returns-in-Err : goal.returns-in-Err
unfolding close_receiver unless_refused
returns-in-Err c = rw (sym c.receiver_verdict.ensures ∙ c.in-Err.is)

pub returns-in-Ok : goal.returns-in-Ok
unfolding close_receiver unless_refused
returns-in-Ok c = rw (sym c.receiver_verdict.ensures ∙ c.in-Ok.is)
