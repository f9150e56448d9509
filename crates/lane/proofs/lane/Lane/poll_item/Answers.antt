-- `lane::lane::Lane::poll_item` meets its contract.
-- Assumes nothing.
use Rattle.lane.proofs.OrderLaws.{pop_targeted_keeps}
use Rattle.lane.specs.Lane.{poll_item, polled}
use native.Mathlib.Omega.{arith}
use Rattle.lane.proofs.lane.Lane.poll_item.Goals as goal

pub add_burst-lane-requires : goal.add_burst-lane-requires
add_burst-lane-requires c = rw c.pop_targeted-taken.ensures (omega (arith, (pop_targeted_keeps c.args.ring c.requires.0.power.most c.args.store.now c.args.self c.requires.1).counts.burst_most))

pub returns : goal.returns
unfolding poll_item polled
returns c = simp (c.end_burst.ensures, c.add_burst-lane.ensures, c.pop_targeted-taken.ensures)
