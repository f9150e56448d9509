-- `ready::ready::collect_group` meets its contract.
-- Assumes nothing.
use Prim.Native.Nat.{◌*◌, ◌<◌}
use Rattle.queues.specs.Header.{issued}
use Rattle.ready.specs.Ready.{collect_page}
use Rattle.ready.proofs.Walk.{Walk}
use Rattle.ready.proofs.ready.collect_group.Given as goal

abbrev pub invariant-loop-bits : goal.invariant-loop-bits
invariant-loop-bits l = Walk collect_page (λ x. 64 * x < issued l.initial.t) (64 * l.id) l.initial.t l.initial.bits l.t l.bits

abbrev pub decreases-loop-bits : goal.decreases-loop-bits
decreases-loop-bits l = l.bits
