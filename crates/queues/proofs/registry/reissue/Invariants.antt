-- `queues::registry::reissue` meets its contract.
-- Assumes nothing.
use mathlib.Core.Path.{◌≡◌}
use Rattle.queues.specs.Registry.{moved_down}
use Rattle.queues.proofs.registry.reissue.Given as goal

-- the first i have moved
abbrev pub invariant-loop-i : goal.invariant-loop-i
invariant-loop-i l = l.t ≡ moved_down l.initial.t l.gap l.i
