-- The ledger's laws: what a change to one lane does to a look-up, and to the number of items held.
-- Assumes nothing.
use mathlib.Core.Path.{◌≡◌, refl, ap, sym, ◌∙◌}
use mathlib.Core.Logic.{◌≢◌}
use mathlib.Core.Bool.{Bool, true, false}
use mathlib.Core.Option.{Option, none, some}
use mathlib.Core.List.{List, [], ◌∷◌, map}
use Prim.Native.Nat.{ℕ, ◌+◌, ◌≤◌}
use native.Mathlib.Omega.{arith}
use lib.Dec.{eqb}
use borrow.Author.Tests.{eqb-true, eqb-false}
use Rattle.model.specs.declared.LaneKey.{LaneKey}
use Rattle.model.specs.Lists.{if}
use Rattle.model.specs.Runs.{same_key}
use Rattle.model.specs.Ledger.{Lane}
use Rattle.model.specs.Held.{held_by, held_by_lanes}

-- two keys are the same, or not
pub data Keys (i j : LaneKey) : Type 0 where
  alike : i ≡ j → same_key i j ≡ true → Keys i j
  unlike : i ≢ j → same_key i j ≡ false → Keys i j

key_path : (i j : LaneKey) → i.slot ≡ j.slot → i.generation ≡ j.generation → i ≡ j
key_path i j p q = λ t. record { slot = p t; generation = q t }

pub keys? : (i j : LaneKey) → Keys i j
unfolding same_key
keys? i j = go (eqb i.slot j.slot) refl (eqb i.generation j.generation) refl
  where
    go : (a : Bool) → eqb i.slot j.slot ≡ a → (b : Bool) → eqb i.generation j.generation ≡ b → Keys i j
    go true p true q = alike (key_path i j (eqb-true _ _ p) (eqb-true _ _ q)) (rw (p, q))
    go true p false q = unlike (λ e. eqb-false _ _ q (ap (λ (k : LaneKey). k.generation) e)) (rw (p, q))
    go false p b q = unlike (λ e. eqb-false _ _ p (ap (λ (k : LaneKey). k.slot) e)) (rw p)

-- a look-up by key, how often a key stands in a list, and a change, as the ledger makes it
unfoldable pub look : LaneKey → List Lane → Option Lane
look k [] = none
look k (l ∷ ls) = if (same_key l.key k) (some l) (look k ls)

unfoldable pub times : LaneKey → List Lane → ℕ
times k [] = 0
times k (l ∷ ls) = if (same_key l.key k) 1 0 + times k ls

abbrev pub change_in : LaneKey → (Lane → Lane) → List Lane → List Lane
change_in k f ls = map (λ l. if (same_key l.key k) (f l) l) ls

some_path : {a b : Lane} → some a ≡ some b → a ≡ b
some_path e = cc

module _ (k : LaneKey) (f : Lane → Lane) (keeps : (l : Lane) → (f l).key ≡ l.key) where
  -- the test on a changed lane's key (to rewrite by `keeps m` itself would rewrite the field of `f m` too: records have η)
  kept : (j : LaneKey) (m : Lane) → same_key (f m).key j ≡ same_key m.key j
  kept j m = ap (λ (i : LaneKey). same_key i j) (keeps m)

  pub look_changed : (ls : List Lane) (l : Lane) → look k ls ≡ some l → look k (change_in k f ls) ≡ some (f l)
  unfolding look
  look_changed [] l h = let z : ◌≡◌ {A = ℕ} 0 1 = cc in absurd (omega arith)
  look_changed (m ∷ ls) l h = elim (keys? m.key k) [
    | alike p e ↦ rw (e, kept k m ∙ e) (ap (λ (n : Lane). some (f n)) (some_path (rw e at h)))
    | unlike d e ↦ rw (e, e) (look_changed ls l (rw e at h))
  ]

  pub look_other : (j : LaneKey) → j ≢ k → (ls : List Lane) → look j (change_in k f ls) ≡ look j ls
  unfolding look
  look_other j d [] = refl
  look_other j d (m ∷ ls) = elim (keys? m.key k) [
    | alike p e ↦ rw (e, kept j m) (elim (keys? m.key j) [ alike q c ↦ absurd (d (sym q ∙ p)) | unlike q c ↦ rw c (look_other j d ls) ])
    | unlike g e ↦ rw (e, look_other j d ls)
  ]

  pub times_changed : (j : LaneKey) (ls : List Lane) → times j (change_in k f ls) ≡ times j ls
  unfolding times
  times_changed j [] = refl
  times_changed j (m ∷ ls) = elim (keys? m.key k) [
    | alike p e ↦ rw (e, kept j m, times_changed j ls)
    | unlike g e ↦ rw (e, times_changed j ls)
  ]

  -- a lane that is not there is not changed
  held_absent : (ls : List Lane) → times k ls ≡ 0 → held_by_lanes (change_in k f ls) ≡ held_by_lanes ls
  unfolding times held_by_lanes
  held_absent [] h = refl
  held_absent (m ∷ ls) h = elim (keys? m.key k) [
    | alike p e ↦ absurd (omega (arith, rw e at h))
    | unlike g e ↦ rw (e, held_absent ls (omega (arith, rw e at h)))
  ]

  -- the number of items held moves with the one lane
  pub held_changed : (ls : List Lane) (l : Lane) → look k ls ≡ some l → times k ls ≤ 1 → held_by_lanes (change_in k f ls) + held_by l ≡ held_by_lanes ls + held_by (f l)
  unfolding look times held_by_lanes
  held_changed [] l h o = let z : ◌≡◌ {A = ℕ} 0 1 = cc in absurd (omega arith)
  held_changed (m ∷ ls) l h o = elim (keys? m.key k) [
    | alike p e ↦
        let q : m ≡ l = some_path (rw e at h) in
        rw e (omega (arith, held_absent ls (omega (arith, rw e at o)), ap held_by q, ap (λ (n : Lane). held_by (f n)) q))
    | unlike g e ↦ rw e (omega (arith, held_changed ls l (rw e at h) (omega (arith, rw e at o))))
  ]
