-- `replay::run` meets its contract.
-- Assumes nothing.
use Rattle.replay.proofs.RunLaws.{Running}
use Rattle.replay.proofs.run.Given as goal

abbrev pub invariant-loop-turn : goal.invariant-loop-turn
invariant-loop-turn g l = Running l._turn l.stores l.buffer l.place.0 l.place.1.0 l.place.1.1.0 l.place.1.1.1.0
