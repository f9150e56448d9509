-- How often a number stands in a list: `count` adds up, so that `omega` does the rest. And small laws of tests.
-- Assumes nothing.
use mathlib.Core.Path.{◌≡◌, refl, ap, sym, ◌∙◌}
use mathlib.Core.Logic.{◌≢◌}
use mathlib.Core.Bool.{Bool, true, false, not}
use mathlib.Core.List.{List, [], ◌∷◌, ◌++◌}
use Prim.Native.Nat.{ℕ, zero, suc, ◌+◌, ◌≤◌, ◌<◌}
use native.Mathlib.Omega.{arith}
use lib.Dec.{eqb, leb}
use borrow.Author.Tests.{eqb-true, eqb-false, eq-eqb, ne_eqb, leb-false}
use Rattle.model.specs.Lists.{if, both, either, same, count, keep, from, without}

pub data Same (x y : ℕ) : Type 0 where
  equal : x ≡ y → eqb x y ≡ true → same x y ≡ 1 → Same x y
  other : x ≢ y → eqb x y ≡ false → same x y ≡ 0 → Same x y

pub same? : (x y : ℕ) → Same x y
unfolding same
same? x y = go (eqb x y) refl
  where
    go : (b : Bool) → eqb x y ≡ b → Same x y
    go true e = equal (eqb-true x y e) e (rw e)
    go false e = other (eqb-false x y e) e (rw e)

pub same_self : (x : ℕ) → same x x ≡ 1
unfolding same
same_self x = rw (eq-eqb x x refl)

pub self : (x : ℕ) → eqb x x ≡ true
self x = eq-eqb x x refl

pub no : {b : Bool} → b ≡ true → b ≡ false → ⊥
no p q = let z : ◌≡◌ {A = ℕ} 0 1 = cc in omega arith

pub both_true : (a b : Bool) → both a b ≡ true → (a ≡ true) × (b ≡ true)
both_true true b e = (refl, e)
both_true false b e = absurd (no e refl)

pub either_false : (a b : Bool) → either a b ≡ false → (a ≡ false) × (b ≡ false)
either_false true b e = absurd (no refl e)
either_false false b e = (refl, e)

pub both_intro : {a b : Bool} → a ≡ true → b ≡ true → both a b ≡ true
both_intro p q = rw (p, q)

pub not_true : {a : Bool} → not a ≡ true → a ≡ false
not_true {a = true} e = absurd (no e refl)
not_true {a = false} e = refl

pub not_false : {a : Bool} → not a ≡ false → a ≡ true
not_false {a = true} e = refl
not_false {a = false} e = absurd (no refl e)

pub not_intro : {a : Bool} → a ≡ false → not a ≡ true
not_intro p = rw p

pub count_append : (x : ℕ) (a b : List ℕ) → count x (a ++ b) ≡ count x a + count x b
unfolding count
count_append x [] b = omega arith
count_append x (y ∷ a) b = omega (arith, count_append x a b)

pub keep_in : (p : ℕ → Bool) (x : ℕ) (l : List ℕ) → p x ≡ true → count x (keep p l) ≡ count x l
unfolding count keep
keep_in p x [] e = refl
keep_in p x (y ∷ l) e = elim (same? x y) [
  | equal q b i ↦ rw (ap p (sym q) ∙ e) (omega (arith, keep_in p x l e))
  | other d b i ↦ omega (arith, skipped p x y l i (p y), keep_in p x l e)
]
  where
    skipped : (p : ℕ → Bool) (x y : ℕ) (l : List ℕ) → same x y ≡ 0 → (b : Bool) → count x (if b (y ∷ keep p l) (keep p l)) ≡ count x (keep p l)
    skipped p x y l i true = omega arith
    skipped p x y l i false = refl

pub keep_out : (p : ℕ → Bool) (x : ℕ) (l : List ℕ) → p x ≡ false → count x (keep p l) ≡ 0
unfolding count keep
keep_out p x [] e = refl
keep_out p x (y ∷ l) e = elim (same? x y) [
  | equal q b i ↦ rw (ap p (sym q) ∙ e) (keep_out p x l e)
  | other d b i ↦ omega (arith, skipped p x y l i (p y), keep_out p x l e)
]
  where
    skipped : (p : ℕ → Bool) (x y : ℕ) (l : List ℕ) → same x y ≡ 0 → (b : Bool) → count x (if b (y ∷ keep p l) (keep p l)) ≡ count x (keep p l)
    skipped p x y l i true = omega arith
    skipped p x y l i false = refl

pub without_own : (x : ℕ) (q : List ℕ) → count x (without x q) ≡ 0
unfolding without
without_own x q = keep_out (λ y. not (eqb x y)) x q (rw (self x))

pub without_other : (x y : ℕ) (q : List ℕ) → x ≢ y → count y (without x q) ≡ count y q
unfolding without
without_other x y q d = keep_in (λ y. not (eqb x y)) y q (rw (ne_eqb x y d))

-- from a, n numbers
pub from_out : (y a n : ℕ) → y < a → count y (from a n) ≡ 0
unfolding count from
from_out y a zero h = refl
from_out y a (suc n) h = elim (same? y a) [ equal p b i ↦ absurd (omega arith) | other d b i ↦ omega (arith, from_out y (suc a) n (omega arith)) ]

pub from_once : (y a n : ℕ) → count y (from a n) ≤ 1
unfolding count from
from_once y a zero = omega arith
from_once y a (suc n) = elim (same? y a) [ equal p b i ↦ omega (arith, from_out y (suc a) n (omega arith)) | other d b i ↦ omega (arith, from_once y (suc a) n) ]

pub from_in : (y a n : ℕ) → a ≤ y → y < a + n → count y (from a n) ≡ 1
unfolding count from
from_in y a zero l h = absurd (omega arith)
from_in y a (suc n) l h = elim (same? y a) [
  | equal p b i ↦ omega (arith, from_out y (suc a) n (omega arith))
  | other d b i ↦ omega (arith, from_in y (suc a) n (omega arith) (omega arith))
]

pub unqueued : (n : ℕ) → n ≡ 0 → not (leb 1 n) ≡ true
unqueued n e = rw e

pub unqueued_zero : (n : ℕ) → not (leb 1 n) ≡ true → n ≡ 0
unqueued_zero n e = omega (arith, leb-false 1 n (not_true e))

pub both_3 : (a b c : Bool) → both a (both b c) ≡ true → (a ≡ true) × (b ≡ true) × (c ≡ true)
both_3 true true c e = (refl, refl, e)
both_3 true false c e = absurd (no e refl)
both_3 false b c e = absurd (no e refl)
