-- `ready::ready::collect_page` meets its contract.
-- Assumes nothing.
use Prim.Native.Nat.{◌*◌, ◌≤◌}
use Rattle.ready.specs.Ready.{offer}
use Rattle.ready.proofs.Walk.{Walk}
use Rattle.ready.proofs.ready.collect_page.Given as goal

abbrev pub invariant-loop-bits : goal.invariant-loop-bits
invariant-loop-bits l = Walk offer (λ x. 64 * l.id ≤ x) (64 * l.id) l.initial.t l.initial.bits l.t l.bits

abbrev pub decreases-loop-bits : goal.decreases-loop-bits
decreases-loop-bits l = l.bits
