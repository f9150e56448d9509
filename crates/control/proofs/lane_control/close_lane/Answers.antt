-- `control::lane_control::close_lane` meets its contract.
-- Assumes nothing.
use native.Mathlib.Omega.{arith}
use Rattle.lane.proofs.TableLaws.{slot_of_lane}
use Rattle.store.proofs.RefusalLaws.{id_passes}
use Rattle.control.proofs.WithLane.{by_verdict}
use Rattle.store.proofs.StoreLaws.{lane_counted, room_in_free}
use Rattle.control.specs.Control.{close_lane}
use Rattle.control.proofs.lane_control.close_lane.Goals as goal

pub with_lane-requires-clause-callable : goal.with_lane-requires-clause-callable
with_lane-requires-clause-callable c = λ a e v.
    let o = c.requires.stores in
    let p = (id_passes _ _ v).1 in
    rw (e, slot_of_lane)
    (o.shaped, omega (arith, p.is_issued, o.shaped.issued_most), room_in_free _ _ o _ p.is_issued p.registered c.requires.ordered, lane_counted _ _ o _ p.is_issued p.registered)

pub returns : goal.returns
unfolding close_lane
returns c =
    by_verdict _ c.with_lane.ensures.refused
    (λ v. let d = c.with_lane.ensures.done v in cc)
