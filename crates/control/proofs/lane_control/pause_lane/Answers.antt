-- `control::lane_control::pause_lane` meets its contract.
-- Assumes nothing.
use Rattle.all_lanes.proofs.SlotLoops.{key_released}
use Rattle.control.specs.Control.{pause_lane, paused_lane}
use Rattle.lane.proofs.TableLaws.{frames}
use native.Mathlib.Omega.{arith}
use Rattle.control.proofs.lane_control.pause_lane.Goals as goal

pub store-requires : goal.store-requires
store-requires c = simp (c.with_turn.ensures, c.release_pending-done.ensures, key_released) (omega arith)

pub remove-requires : goal.remove-requires
remove-requires c = rw c.store.ensures (simp frames c.requires.0)

pub returns : goal.returns
unfolding pause_lane paused_lane
returns c = simp (c.remove.ensures, c.store.ensures, c.with_turn.ensures, c.release_pending-done.ensures)
