-- R: the ledger's live lanes are at least the live ones of any list of distinct registered lanes.
-- Assumes nothing.
use mathlib.Core.Path.{◌≡◌, refl, ap, ◌∙◌}
use mathlib.Core.Bool.{Bool, true, false}
use mathlib.Core.Option.{some}
use mathlib.Core.List.{List, [], ◌∷◌}
use Prim.Native.Nat.{ℕ, ◌+◌, ◌*◌, ◌≤◌}
use native.Mathlib.Omega.{arith}
use lib.Dec.{eqb}
use Rattle.model.specs.declared.LaneKey.{LaneKey}
use Rattle.model.specs.Lists.{if, count, same}
use Rattle.model.specs.State.{State, key_of}
use Rattle.model.specs.Ledger.{Lane, Ledger, is_live, live_lanes}
use Rattle.demands.proofs.Counting.{Same, equal, other, same?, self}
use Rattle.demands.proofs.OrderKept.{first_own, first_other}
use Rattle.demands.proofs.Ahead.{weigh, Few}
use Rattle.demands.proofs.LedgerLaws.{alike, unlike, keys?, look}
use Rattle.demands.proofs.LedgerAgrees.{Agrees}
use Rattle.demands.proofs.LiveLane.{live_matches}

-- live entries of slot y
live_lanes_at : ℕ → List Lane → ℕ
live_lanes_at y [] = 0
live_lanes_at y (l ∷ ls) = if (eqb l.key.slot y) (if (is_live l) 1 0) 0 + live_lanes_at y ls

look_live_lanes : (k : LaneKey) (ls : List Lane) (l : Lane) → look k ls ≡ some l → if {A = ℕ} (is_live l) 1 0 ≤ live_lanes_at k.slot ls
unfolding look live_lanes_at
look_live_lanes k [] l e = let z : ◌≡◌ {A = ℕ} 0 1 = cc in absurd (omega arith)
look_live_lanes k (m ∷ ls) l e = elim (keys? m.key k) [
  | alike p b ↦
      let q : m ≡ l = same_some (rw b at e) in
      let s : eqb m.key.slot k.slot ≡ true = ap (λ (i : LaneKey). eqb i.slot k.slot) p ∙ self k.slot in
      rw s (omega (arith, ap (λ (n : Lane). if {A = ℕ} (is_live n) 1 0) q))
  | unlike d b ↦ omega (arith, look_live_lanes k ls l (rw b at e))
]
  where
    same_some : {a b : Lane} → some a ≡ some b → a ≡ b
    same_some e = cc

sum_at : List ℕ → List Lane → ℕ
sum_at [] ls = 0
sum_at (y ∷ q) ls = live_lanes_at y ls + sum_at q ls

sum_nil : (q : List ℕ) → sum_at q [] ≡ 0
unfolding sum_at live_lanes_at
sum_nil [] = refl
sum_nil (y ∷ q) = omega (arith, sum_nil q)

sum_cons : (q : List ℕ) (l : Lane) (ls : List Lane) → sum_at q (l ∷ ls) ≤ (if (is_live l) 1 0) * count l.key.slot q + sum_at q ls
unfolding sum_at live_lanes_at count
sum_cons [] l ls = omega arith
sum_cons (y ∷ q) l ls = go (is_live l) (sum_cons q l ls) (same? l.key.slot y)
  where
    go : (b : Bool) → sum_at q (l ∷ ls) ≤ (if b 1 0) * count l.key.slot q + sum_at q ls → Same l.key.slot y
        → if (eqb l.key.slot y) (if b 1 0) 0 + live_lanes_at y ls + sum_at q (l ∷ ls) ≤ (if b 1 0) * (same l.key.slot y + count l.key.slot q) + (live_lanes_at y ls + sum_at q ls)
    go true h (equal p e i) = rw e (omega arith)
    go true h (other d e i) = rw e (omega arith)
    go false h (equal p e i) = rw e (omega arith)
    go false h (other d e i) = rw e (omega arith)

sum_le : (q : List ℕ) (ls : List Lane) → ((y : ℕ) → count y q ≤ 1) → sum_at q ls ≤ live_lanes ls
unfolding live_lanes
sum_le q [] o = omega (arith, sum_nil q)
sum_le q (l ∷ ls) o = go (is_live l) (sum_cons q l ls) (sum_le q ls o)
  where
    go : (b : Bool) → sum_at q (l ∷ ls) ≤ (if b 1 0) * count l.key.slot q + sum_at q ls → sum_at q ls ≤ live_lanes ls → sum_at q (l ∷ ls) ≤ if b 1 0 + live_lanes ls
    go true h k = omega (arith, o l.key.slot)
    go false h k = omega arith

weigh_sum : (L : Ledger) (s : State) (q : List ℕ) → Agrees L s → ((y : ℕ) → 1 ≤ count y q → (s.slot_of y).registered ≡ true) → weigh s.slot_of q ≤ sum_at q L.lanes
unfolding weigh sum_at
weigh_sum L s [] h r = omega arith
weigh_sum L s (y ∷ q) h r =
    let f = h.lane_of y (r y (omega (arith, first_own y q))) in
    omega (
      arith,
      look_live_lanes (key_of s y) L.lanes f.entry f.looked,
      ap (λ (b : Bool). if {A = ℕ} b 1 0) (live_matches f.entry (s.slot_of y) f.matches),
      weigh_sum L s q h (λ z c. r z (omega (arith, more z))),
    )
  where
    more : (z : ℕ) → count z q ≤ count z (y ∷ q)
    more z = elim (same? y z) [ equal p e i ↦ rw p (omega (arith, first_own z q)) | other d e i ↦ omega (arith, first_other y z q d) ]

pub agrees_few : (R : ℕ) (L : Ledger) (s : State) → Agrees L s → live_lanes L.lanes ≤ R → Few R s.slot_of
agrees_few R L s h b = record { few = λ q o r. omega (arith, weigh_sum L s q h r, sum_le q L.lanes o) }
