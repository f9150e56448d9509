-- `lane::lane::Lane::load` meets its contract.
-- Assumes nothing.
use mathlib.Core.Path.{◌≡◌, ◌∙◌}
use mathlib.Core.Bool.{true}
use mathlib.Core.List.{List}
use Prim.Native.Nat.{ℕ, ◌+◌, ◌-◌, ◌*◌, ◌≤◌}
use native.Mathlib.Omega.{arith}
use borrow.Author.Tests.{ltb-true}
use lib.Dec.{ltb}
use lib.ListN.{get_or, take, drop}
use lib.Seq.{get_or-drop, get_or-take}
use Rattle.lane.specs.Table.{header_words, row_words, lane_words, cell, of_words, lane_at}
use Rattle.lane.proofs.lane.Lane.load.Goals as goal

-- where a slot's row begins
abbrev row_at : ℕ → ℕ
row_at slot = header_words + row_words * slot

module _ (t : List ℕ) (slot n : ℕ) (enough : lane_words ≤ n) where
  -- the words of a part that begins where the row does
  word : (i : ℕ) → ltb i lane_words ≡ true → get_or (take n (drop (row_at slot) t)) i 0 ≡ cell t i slot
  word i l = get_or-take n (drop (row_at slot) t) i 0 (omega (arith, ltb-true i lane_words l)) ∙ get_or-drop (row_at slot) t i 0

  lane_of_part : of_words slot (λ i. get_or (take n (drop (row_at slot) t)) i 0) ≡ lane_at t slot
  unfolding lane_at
  lane_of_part = simp word

pub returns : goal.returns
returns c =
    let a = c.args in
    let at = row_at a.slot in
    c.of_words.ensures ∙ lane_of_part a.table.now a.slot (at + lane_words - at) (omega arith)
