-- `wraparound::show` meets its contract.
-- Assumes nothing.
use native.Mathlib.Omega.{arith}
use Rattle.wraparound.proofs.show.Goals as goal

pub rounds-run-requires : goal.rounds-run-requires
rounds-run-requires g c = rw c.new.ensures (record { power = c.requires.0; fits = omega (arith, c.requires.1) })

pub returns : goal.returns
returns g c = rw c.new.ensures at c.rounds-run.ensures
