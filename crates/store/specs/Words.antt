-- What a call leaves: its answer and every word of the two stores. A refused call leaves them as they were.
-- Assumes nothing.
use Rattle.std.specs.Prelude.{List, ℕ}
use Rattle.model.specs.declared.Answer.{Answer}
use Rattle.model.specs.declared.Answer.TheVariants.{Refused}
use Rattle.store.specs.Refusal.{Verdict}
use Rattle.std.specs.Prelude.{Ok, Err}

-- the answer, the table store and the ring store
abbrev pub Words : Type 0
Words = Answer × List ℕ × List ℕ

-- "a refusal leaves state, both stores and the output unchanged"
unfoldable pub unless_refused : Verdict → List ℕ → List ℕ → Words → Words
unless_refused (Ok u) t r w = w
unless_refused (Err why) t r w = (Refused why, t, r)

-- an answer with the ring store beside it, which the call does not change
abbrev pub with_rings : List ℕ → Answer × List ℕ → Words
with_rings r o = (o.0, o.1, r)
