-- Header words by name, and those beside a set of them.
-- Assumes nothing.
use mathlib.Core.Path.{◌≡◌, refl, ap, ◌∙◌}
use mathlib.Core.Bool.{Bool, true, false}
use mathlib.Core.List.{List}
use Prim.Native.Nat.{ℕ, zero, suc}
use borrow.Author.Tests.{eqb-true}
use lib.Dec.{eqb, ltb}
use Rattle.model.specs.Lists.{if}
use Rattle.demands.proofs.Counting.{no}
use Rattle.yring.specs.Lists.{tab}
use Rattle.lane.specs.Table.{header_words}

-- The place by what was read in the table of `place_of`. Beyond the table's end 0 is read: then it is no place of the header, and laws that ask for one refuse it.
abbrev place_by : ℕ → ℕ
place_by zero = header_words
place_by (suc k) = k

-- the place of a header word, by what reads it: each word of this table is its place and one. It ends before the header does: one as long slows the check
abbrev pub place_of : (List ℕ → ℕ) → ℕ
place_of word = place_by (word (tab 32 (λ i. suc i)))

-- a word of the header that is none of a set
pub record Beside (set : ℕ → Bool) (j : ℕ) : Type 0 where
  pub in_header : ltb j header_words ≡ true
  pub not_one : set j ≡ false

pub beside : {set : ℕ → Bool} {j : ℕ} → ltb j header_words ≡ true → set j ≡ false → Beside set j
beside h n = record { in_header = h; not_one = n }

-- each of the set is another
pub apart : {set : ℕ → Bool} {j : ℕ} → Beside set j → (k : ℕ) → set k ≡ true → eqb k j ≡ false
apart {set = set} {j = j} n k e = go (eqb k j) refl
  where
    go : (b : Bool) → eqb k j ≡ b → b ≡ false
    go true i = absurd (no e (ap set (eqb-true k j i) ∙ n.not_one))
    go false i = refl

-- a header, by places, with one word changed
abbrev pub with_word : (List ℕ → ℕ) → ℕ → (ℕ → ℕ) → ℕ → ℕ
with_word word v h j = if (eqb (place_of word) j) v (h j)
