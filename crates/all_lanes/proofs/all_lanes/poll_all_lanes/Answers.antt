-- `all_lanes::all_lanes::poll_all_lanes` meets its contract.
-- Assumes nothing.
use Rattle.all_lanes.specs.AllLanes.{poll_all_lanes}
use Rattle.store.specs.Words.{unless_refused}
use mathlib.Core.Path.{◌∙◌, sym}
use Rattle.all_lanes.proofs.all_lanes.poll_all_lanes.Goals as goal

pub returns-in-Err : goal.returns-in-Err
unfolding poll_all_lanes unless_refused
returns-in-Err c = rw (sym c.receiver_verdict.ensures ∙ c.in-Err.is)

pub returns-in-Ok : goal.returns-in-Ok
unfolding poll_all_lanes unless_refused
returns-in-Ok c = rw (sym c.receiver_verdict.ensures ∙ c.in-Ok.is, c.poll_slots.ensures)
