-- What the live lanes before lane x may still give; how often lane y stands before x; the group cursor's distance.
-- Assumes nothing.
use mathlib.Core.Path.{◌≡◌, refl, ap, sym, ◌∙◌}
use mathlib.Core.Logic.{◌≢◌}
use mathlib.Core.Bool.{Bool, true, false}
use mathlib.Core.List.{List, [], ◌∷◌, ◌++◌}
use Prim.Native.Nat.{ℕ, ◌+◌, ◌*◌, ◌-◌, ◌≤◌, ◌<◌}
use native.Mathlib.Omega.{arith}
use lib.ListN.{length}
use lib.Dec.{eqb, leb}
use borrow.Author.Tests.{ne_eqb, leb-true, leb-false}
use Rattle.model.specs.Lists.{if, either, same, count, keep, non_empty, without}
use Rattle.model.specs.State.{Slot, State}
use Rattle.demands.proofs.Counting.{equal, other, same?, no}
use Rattle.demands.proofs.OrderKept.{first_own, first_other}
use Rattle.demands.proofs.Quiet.{Quiet, stays, goes, Quietly}

-- live: it holds an item, or its sender is not dropped
abbrev pub live : Slot → Bool
live l = either (non_empty l.ring) l.living

unfoldable pub share_of : Bool → ℕ → ℕ
share_of true b = 64 - b
share_of false b = 0

abbrev pub share : Slot → ℕ
share l = share_of (live l) l.burst

abbrev pub bit : Bool → ℕ
bit b = if b 1 0

unfoldable pub ahead : (ℕ → Slot) → List ℕ → ℕ → ℕ
ahead f [] x = 0
ahead f (y ∷ q) x = if (eqb x y) 0 (share (f y) + ahead f q x)

unfoldable pub weigh : (ℕ → Slot) → List ℕ → ℕ
weigh f [] = 0
weigh f (y ∷ q) = bit (live (f y)) + weigh f q

pub share_le : (l : Slot) → share l ≤ 64 * bit (live l)
unfolding share_of
share_le l = go (live l)
  where
    go : (b : Bool) → share_of b l.burst ≤ 64 * bit b
    go true = omega arith
    go false = omega arith

-- a lane that holds an item is live
pub live_ring : (l : Slot) → 1 ≤ length l.ring → live l ≡ true
live_ring l h = go l.ring h
  where
    go : (r : List ℕ) → 1 ≤ length r → either (non_empty r) l.living ≡ true
    go [] h = absurd (omega arith)
    go (v ∷ r) h = refl

pub live_living : (l : Slot) → l.living ≡ true → live l ≡ true
live_living l e = rw e (go l.ring)
  where
    go : (r : List ℕ) → either (non_empty r) true ≡ true
    go [] = refl
    go (v ∷ r) = refl

pub share_live : (l : Slot) → live l ≡ true → share l ≡ 64 - l.burst
unfolding share_of
share_live l e = rw e

pub share_most : (l : Slot) → share l ≤ 64 - l.burst
unfolding share_of
share_most l = go (live l)
  where
    go : (b : Bool) → share_of b l.burst ≤ 64 - l.burst
    go true = omega arith
    go false = omega arith

pub ahead_weigh : (f : ℕ → Slot) (q : List ℕ) (x : ℕ) → 1 ≤ count x q → ahead f q x + 64 * bit (live (f x)) ≤ 64 * weigh f q
unfolding ahead weigh count
ahead_weigh f [] x h = absurd (omega arith)
ahead_weigh f (y ∷ q) x h = elim (same? x y) [
  | equal p e i ↦ rw e (omega (arith, ap (λ (z : ℕ). bit (live (f z))) p))
  | other d e i ↦ rw e (omega (arith, share_le (f y), ahead_weigh f q x (omega arith)))
]

pub ahead_append : (f : ℕ → Slot) (q r : List ℕ) (x : ℕ) → 1 ≤ count x q → ahead f (q ++ r) x ≡ ahead f q x
unfolding ahead count
ahead_append f [] r x h = absurd (omega arith)
ahead_append f (y ∷ q) r x h = elim (same? x y) [
  | equal p e i ↦ rw e
  | other d e i ↦ rw (e, ahead_append f q r x (omega arith))
]

pub ahead_without : (f : ℕ → Slot) (y : ℕ) (q : List ℕ) (x : ℕ) → x ≢ y → ahead f (without y q) x ≤ ahead f q x
unfolding ahead without keep
ahead_without f y [] x d = omega arith
ahead_without f y (z ∷ q) x d = elim (same? y z) [
  | equal p e i ↦ rw (e, ne_eqb x z (λ r. d (r ∙ sym p))) (omega (arith, ahead_without f y q x d))
  | other n e i ↦ rw e (elim (same? x z) [ equal r c j ↦ rw c (omega arith) | other r c j ↦ rw c (omega (arith, ahead_without f y q x d)) ])
]

-- less to give, lane by lane
pub ahead_le : (f g : ℕ → Slot) (q : List ℕ) (x : ℕ) → ((y : ℕ) → x ≢ y → 1 ≤ count y q → share (g y) ≤ share (f y)) → ahead g q x ≤ ahead f q x
unfolding ahead
ahead_le f g [] x h = omega arith
ahead_le f g (y ∷ q) x h = elim (same? x y) [
  | equal p e i ↦ rw e (omega arith)
  | other d e i ↦ rw e (omega (arith, h y d (omega (arith, first_own y q)), ahead_le f g q x (λ z n c. h z n (omega (arith, more z y q)))))
]
  where
    more : (z y : ℕ) (q : List ℕ) → count z q ≤ count z (y ∷ q)
    more z y q = elim (same? y z) [ equal p e i ↦ rw p (omega (arith, first_own z q)) | other d e i ↦ omega (arith, first_other y z q d) ]

-- R: no list of distinct registered lanes has more than R live ones
pub record Few (R : ℕ) (f : ℕ → Slot) : Type 0 where
  pub few : (q : List ℕ) → ((y : ℕ) → count y q ≤ 1) → ((y : ℕ) → 1 ≤ count y q → (f y).registered ≡ true) → weigh f q ≤ R

weigh_le : (f g : ℕ → Slot) (q : List ℕ) → ((y : ℕ) → 1 ≤ count y q → live (g y) ≡ live (f y)) → weigh g q ≡ weigh f q
unfolding weigh
weigh_le f g [] h = refl
weigh_le f g (y ∷ q) h = omega (arith, ap bit (h y (omega (arith, first_own y q))), weigh_le f g q (λ z c. h z (omega (arith, more z y q))))
  where
    more : (z y : ℕ) (q : List ℕ) → count z q ≤ count z (y ∷ q)
    more z y q = elim (same? y z) [ equal p e i ↦ rw p (omega (arith, first_own z q)) | other d e i ↦ omega (arith, first_other y z q d) ]

pub few_quiet : {R : ℕ} {s u : State} → Quietly s u → Few R s.slot_of → Few R u.slot_of
few_quiet {R} {s} {u} q w = record {
  few = λ l o r.
      omega (arith, w.few l o (λ y c. (go y (q.each y) (r y c)).0), weigh_le s.slot_of u.slot_of l (λ y c. (go y (q.each y) (r y c)).1));
}
  where
    go : (y : ℕ) → Quiet (s.slot_of y) (u.slot_of y) → (u.slot_of y).registered ≡ true → ((s.slot_of y).registered ≡ true) × (live (u.slot_of y) ≡ live (s.slot_of y))
    go y (stays a) r = (sym a.registers ∙ r, ap (λ (l : List ℕ). either (non_empty l) (u.slot_of y).living) a.rings ∙ ap (λ (b : Bool). either (non_empty (s.slot_of y).ring) b) a.livings)
    go y (goes e n g) r = absurd (no r n)

-- how often y stands before x
unfoldable pub before : ℕ → List ℕ → ℕ → ℕ
before y [] x = 0
before y (z ∷ q) x = if (eqb x z) 0 (same y z + before y q x)

pub before_append : (y : ℕ) (q r : List ℕ) (x : ℕ) → 1 ≤ count x q → before y (q ++ r) x ≡ before y q x
unfolding before count
before_append y [] r x h = absurd (omega arith)
before_append y (z ∷ q) r x h = elim (same? x z) [
  | equal p e i ↦ rw e
  | other d e i ↦ rw (e, before_append y q r x (omega arith))
]

pub before_count : (y : ℕ) (q : List ℕ) (x : ℕ) → before y q x ≤ count y q
unfolding before count
before_count y [] x = omega arith
before_count y (z ∷ q) x = elim (same? x z) [ equal p e i ↦ rw e (omega arith) | other d e i ↦ rw e (omega (arith, before_count y q x)) ]

pub before_without : (y z : ℕ) (q : List ℕ) (x : ℕ) → x ≢ z → before y (without z q) x ≤ before y q x
unfolding before without keep
before_without y z [] x d = omega arith
before_without y z (w ∷ q) x d = elim (same? z w) [
  | equal p e i ↦ rw (e, ne_eqb x w (λ r. d (r ∙ sym p))) (omega (arith, before_without y z q x d))
  | other n e i ↦ rw e (elim (same? x w) [ equal r c j ↦ rw c (omega arith) | other r c j ↦ rw c (omega (arith, before_without y z q x d)) ])
]

-- how far the cursor c is from group g, where there will be E groups
unfoldable pub away : ℕ → ℕ → ℕ → ℕ
away E c g = if (leb c g) (g - c) (g + E - c)

pub away_up : (E c g : ℕ) → c ≤ g → away E c g ≡ g - c
unfolding away
away_up E c g h = go (leb c g) refl
  where
    go : (b : Bool) → leb c g ≡ b → if b (g - c) (g + E - c) ≡ g - c
    go true e = refl
    go false e = absurd (omega (arith, leb-false c g e))

pub away_round : (E c g : ℕ) → g < c → away E c g ≡ g + E - c
unfolding away
away_round E c g h = go (leb c g) refl
  where
    go : (b : Bool) → leb c g ≡ b → if b (g - c) (g + E - c) ≡ g + E - c
    go true e = absurd (omega (arith, leb-true c g e))
    go false e = refl
