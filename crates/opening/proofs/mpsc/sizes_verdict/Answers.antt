-- `opening::mpsc::sizes_verdict` meets its contract.
-- Assumes nothing.
use native.Mathlib.Omega.{arith}
use Rattle.std.proofs.lemmas.Bool.Decides.{nat_tests}
use Rattle.opening.specs.Opening.{sizes_verdict}
use Rattle.opening.proofs.mpsc.sizes_verdict.Goals as goal

pub returns-then-not-contains : goal.returns-then-not-contains
unfolding sizes_verdict
returns-then-not-contains c = grind (arith, nat_tests)

pub returns-then-not-contains-2 : goal.returns-then-not-contains-2
unfolding sizes_verdict
returns-then-not-contains-2 c = grind (arith, nat_tests)

pub returns : goal.returns
unfolding sizes_verdict
returns c = grind (arith, nat_tests)
