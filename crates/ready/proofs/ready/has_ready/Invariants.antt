-- `ready::ready::has_ready` meets its contract.
-- Assumes nothing.
use Rattle.std.proofs.Common.{◌≡◌}
use Rattle.queues.specs.Header.{issued}
use Rattle.ready.specs.Ready.{group_count, has_ready}
use Rattle.ready.proofs.ready.has_ready.Given as goal

abbrev pub invariant-loop-group : goal.invariant-loop-group
invariant-loop-group l = has_ready (group_count (issued l.t)) l.t ≡ has_ready l.group l.t
