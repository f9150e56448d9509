-- What a call comes to: the items that it hands out, its answer, and the state that it leaves.
-- Assumes nothing.
use Rattle.std.specs.Prelude.{Bool, List, [], ◌∷◌, ℕ}
use Rattle.model.specs.declared.LaneKey.{LaneKey}
use Rattle.model.specs.declared.Refusal.{Refusal}
use Rattle.model.specs.declared.Answer.{Answer}
use Rattle.model.specs.declared.Answer.TheVariants.{Refused}
use Rattle.model.specs.Lists.{if}
use Rattle.model.specs.State.{State}

-- Each item with its lane's key, in order; the answer; the next state.
abbrev pub Outcome : Type 0
Outcome = List (LaneKey × ℕ) × (Answer × State)

-- An answer that hands out no item.
abbrev pub says : Answer → State → Outcome
says a s = ([], (a, s))

-- "The first that applies is given." "a refusal leaves state, both stores and the output unchanged"
unfoldable pub unless : List (Bool × Refusal) → State → Outcome → Outcome
unless [] s r = r
unless (c ∷ cs) s r = if c.0 ([], (Refused c.1, s)) (unless cs s r)
