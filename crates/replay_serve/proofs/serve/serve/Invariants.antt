-- `replay_serve::serve::serve` meets its contract.
-- Assumes nothing.
use Prim.Native.Nat.{◌-◌}
use lib.ListN.{length}
use Rattle.replay_serve.proofs.ServeLaws.{Serving}
use Rattle.replay_serve.proofs.serve.serve.Given as goal

abbrev pub invariant-loop-at : goal.invariant-loop-at
invariant-loop-at l = Serving l.input l.from l.initial.stores l.stores l.initial.text l.text l.at l.end

abbrev pub decreases-loop-at : goal.decreases-loop-at
decreases-loop-at l = length l.input - l.at
