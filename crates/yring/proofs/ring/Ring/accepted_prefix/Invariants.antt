-- `yring::ring::Ring::accepted_prefix` meets its contract. The loop's invariant: all items passed so far are admitted.
-- Assumes nothing.
use Rattle.std.proofs.Common.{◌≡◌, ◌-◌, ◌≤◌}
use Rattle.yring.specs.Ring.{items, accepted_prefix}
use Rattle.yring.proofs.ring.Ring.accepted_prefix.Given as goal

abbrev pub invariant-loop-accepted : goal.invariant-loop-accepted
invariant-loop-accepted l = (l.accepted ≤ l.count) × (accepted_prefix l.bound (items l.self l.store l.head l.accepted) ≡ l.accepted)

abbrev pub decreases-loop-accepted : goal.decreases-loop-accepted
decreases-loop-accepted l = l.count - l.accepted
