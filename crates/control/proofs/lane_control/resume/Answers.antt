-- `control::lane_control::resume` meets its contract.
-- Assumes nothing.
use native.Mathlib.Omega.{arith}
use Rattle.lane.proofs.TableLaws.{slot_of_lane}
use Rattle.store.proofs.RefusalLaws.{id_passes}
use Rattle.control.proofs.WithLane.{by_verdict}
use Rattle.all_lanes.proofs.ControlBounds.{paused_room}
use Rattle.control.specs.Control.{resume}
use Rattle.control.proofs.lane_control.resume.Goals as goal

pub with_lane-requires-clause-callable : goal.with_lane-requires-clause-callable
with_lane-requires-clause-callable c = λ a e v.
    let s = c.requires.stores.shaped in
    let p = (id_passes _ _ v).1 in
    rw (e, slot_of_lane) (s, omega (arith, p.is_issued, s.issued_most), λ q. paused_room _ _ c.requires _ p.is_issued q)

pub returns : goal.returns
unfolding resume
returns c =
    by_verdict _ c.with_lane.ensures.refused
    (λ v. let d = c.with_lane.ensures.done v in cc)
