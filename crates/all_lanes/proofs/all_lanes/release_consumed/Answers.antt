-- `all_lanes::all_lanes::release_consumed` meets its contract.
-- Assumes nothing.
use Rattle.all_lanes.proofs.ControlBounds.{all_refundable}
use Rattle.all_lanes.specs.AllLanes.{release_consumed}
use Rattle.store.specs.Words.{unless_refused}
use mathlib.Core.Path.{◌∙◌, sym}
use Rattle.all_lanes.proofs.all_lanes.release_consumed.Goals as goal

pub release_all-requires : goal.release_all-requires
release_all-requires c = (c.requires.stores.shaped, all_refundable _ _ c.requires)

pub returns-in-Err : goal.returns-in-Err
unfolding release_consumed unless_refused
returns-in-Err c = rw (sym c.receiver_verdict.ensures ∙ c.in-Err.is)

pub returns-in-Ok : goal.returns-in-Ok
unfolding release_consumed unless_refused
returns-in-Ok c = rw (sym c.receiver_verdict.ensures ∙ c.in-Ok.is, c.release_all.ensures)
