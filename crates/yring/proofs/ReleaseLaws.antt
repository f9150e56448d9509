-- The release batch: its bounds, that the table is what the formula makes, at every capacity, and document 01's examples.
-- Assumes nothing.
use Rattle.std.proofs.Common.{◌≡◌, ℕ, zero, suc, ◌+◌, ◌<◌, ◌≤◌, Bool, true, false, leb, List, [], ◌∷◌, refl, arith, le-leb}
use mathlib.Core.Option.{none, some}
use Rattle.model.specs.Lists.{if}
use Rattle.model.specs.State.{release_batch}
use Rattle.model.specs.Opening.{doubled_until}
use Rattle.yring.specs.Release.{entries, entry_for, AsTheTable, examples, agree}

-- the release batch is at most the capacity
pub batch_most : (C : ℕ) → release_batch C ≤ C
unfolding release_batch
batch_most C = omega arith

pub batch_some : (C : ℕ) → 0 < C → 0 < release_batch C
unfolding release_batch
batch_some C h = omega arith

-- ---- the table

-- what the formula makes: an entry for C and one for each of its next n doublings
made : ℕ → ℕ → List (ℕ × ℕ)
made zero C = (C, release_batch C) ∷ []
made (suc n) C = (C, release_batch C) ∷ made n (C + C)

-- the last C of these
last : ℕ → ℕ → ℕ
last zero C = C
last (suc n) C = last n (C + C)

-- "the formula it was made from"
made_from : entries ≡ made 16 1
unfolding entries made release_batch
made_from = refl

-- the first entry that is not below a capacity is where the doublings that round it up end
looked_up : (n C c : ℕ) → c ≤ last n C → entry_for c (made n C) ≡ some (doubled_until n C c, release_batch (doubled_until n C c))
unfolding made last entry_for doubled_until
looked_up zero C c h = rw (le-leb c C h) refl
looked_up (suc n) C c h = go (leb c C) (looked_up n (C + C) c h)
  where
    go : (b : Bool) → entry_for c (made n (C + C)) ≡ some (doubled_until n (C + C) c, release_batch (doubled_until n (C + C) c))
        → if b (some (C, release_batch C)) (entry_for c (made n (C + C)))
        ≡ some (if b C (doubled_until n (C + C) c), release_batch (if b C (doubled_until n (C + C) c)))
    go true e = refl
    go false e = e

pub as_the_table : AsTheTable
unfolding last
as_the_table c h m = rw made_from (looked_up 16 1 c m)

-- ---- examples

-- in a table that no formula makes: the first entry that is not below a capacity, and none where all are
others : List (ℕ × ℕ)
others = (4, 9) ∷ (6, 1) ∷ (8, 3) ∷ []

looks_up : (entry_for 3 others ≡ some (4, 9)) × (entry_for 4 others ≡ some (4, 9)) × (entry_for 5 others ≡ some (6, 1)) × (entry_for 9 others ≡ none)
unfolding others entry_for
looks_up = (refl, refl, refl, refl)

pub examples_agree : agree examples ≡ true
unfolding doubled_until release_batch
examples_agree = refl
