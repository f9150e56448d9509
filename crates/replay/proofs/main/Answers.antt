-- `replay::main` meets its contract.
-- Assumes nothing.
use mathlib.Core.Path.{refl}
use Rattle.replay_serve.specs.Calls.{started}
use Rattle.replay.proofs.main.Goals as goal

-- the stores are zeros at the start
pub run-requires : goal.run-requires
unfolding started
run-requires c = refl
