-- `replay::input::fetch` meets its contract.
-- Assumes nothing.
use native.Mathlib.Omega.{arith}
use borrow.Author.Rules.{rules}
use Rattle.replay.proofs.input.fetch.Goals as goal

-- written out, so that bytes that do not fit are numbers that show it
pub invariant_of-result-clause-in_buffer : goal.invariant_of-result-clause-in_buffer
invariant_of-result-clause-in_buffer g c = (omega arith, search rules)
