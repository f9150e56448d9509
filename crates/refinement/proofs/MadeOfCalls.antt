-- What lists of calls are made of (specs/Runs.antt), proved: of the inner calls and, in crate `fanring`, of the checked calls.
-- Assumes nothing.
use mathlib.Core.Path.{refl}
use Rattle.refinement.specs.Runs.{StoreCalls, MadeOfCalls}

pub made_of_calls : (M : StoreCalls) → MadeOfCalls M
made_of_calls M = record { opening = λ o t r. refl; call = λ t r c. refl; output_left = λ t r c out. refl }
