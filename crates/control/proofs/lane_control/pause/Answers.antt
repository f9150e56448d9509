-- `control::lane_control::pause` meets its contract.
-- Assumes nothing.
use native.Mathlib.Omega.{arith}
use Rattle.lane.proofs.TableLaws.{slot_of_lane}
use Rattle.store.proofs.RefusalLaws.{id_passes}
use Rattle.control.proofs.WithLane.{by_verdict}
use Rattle.all_lanes.proofs.ControlBounds.{all_refundable}
use Rattle.control.specs.Control.{pause}
use Rattle.control.proofs.lane_control.pause.Goals as goal

pub with_lane-requires-clause-callable : goal.with_lane-requires-clause-callable
with_lane-requires-clause-callable c = λ a e v.
    let s = c.requires.stores.shaped in
    let p = (id_passes _ _ v).1 in
    rw e (s, rw (slot_of_lane _ _) (omega (arith, p.is_issued, s.issued_most)), all_refundable _ _ c.requires _ p.is_issued p.registered)

pub returns : goal.returns
unfolding pause
returns c =
    by_verdict _ c.with_lane.ensures.refused
    (λ v. let d = c.with_lane.ensures.done v in cc)
