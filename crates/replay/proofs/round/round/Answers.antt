-- `replay::round::round` meets its contract.
-- Assumes nothing.
use native.Mathlib.Omega.{arith}
use Rattle.replay.proofs.PlaceLaws.{next_same, next_differs, last_rounded, answer_rounded}
use Rattle.replay.proofs.round.round.Goals as goal

pub returns-then-eq : goal.returns-then-eq
returns-then-eq c = last_rounded (omega arith) (omega arith) (omega arith) (next_same c.if-eq.ensures) c.finish.ensures

pub returns : goal.returns
returns c = answer_rounded (next_differs c.if-eq.ensures) c.answer_more.ensures
