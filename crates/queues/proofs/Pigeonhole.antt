-- Numbers below n, each at most once, are at most n.
-- Assumes nothing.
use mathlib.Core.Path.{◌≡◌, refl, ap, ◌∙◌}
use mathlib.Core.Bool.{not}
use mathlib.Core.List.{List, [], ◌∷◌}
use Prim.Native.Nat.{ℕ, zero, suc, ◌+◌, ◌≤◌, ◌<◌}
use native.Mathlib.Decide.{ℕ_discrete}
use native.Mathlib.Omega.{arith}
use lib.Dec.{eqb}
use lib.ListN.{length}
use Rattle.model.specs.Lists.{if, count, same, keep, without}
use Rattle.demands.proofs.Counting.{Same, equal, other, same?, same_self, without_own, without_other}

pub length_without : (x : ℕ) (l : List ℕ) → length (without x l) + count x l ≡ length l
unfolding without keep count
length_without x [] = refl
length_without x (y ∷ l) = go (same? x y) (length_without x l)
  where
    go : Same x y → length (without x l) + count x l ≡ length l
        → length (if (not (eqb x y)) (y ∷ without x l) (without x l)) + (same x y + count x l) ≡ suc (length l)
    go (equal p e i) h = rw (e, i) (omega arith)
    go (other n e i) h = rw (e, i) (omega arith)

pub count_first : (x : ℕ) (l : List ℕ) → count x (x ∷ l) ≡ suc (count x l)
unfolding count
count_first x l = omega (arith, same_self x)

pub pigeonhole : (n : ℕ) (l : List ℕ) → ((x : ℕ) → count x l ≤ 1) → ((x : ℕ) → n ≤ x → count x l ≡ 0) → length l ≤ n
pigeonhole zero [] a b = omega arith
pigeonhole zero (x ∷ l) a b = absurd (omega (arith, b x (omega arith), count_first x l))
pigeonhole (suc n) l a b =
    omega (arith, length_without n l, a n, pigeonhole n (without n l) (λ x. most x (ℕ_discrete n x)) (λ x h. past x h (ℕ_discrete n x)))
  where
    most : (x : ℕ) → Dec (n ≡ x) → count x (without n l) ≤ 1
    most x (yes e) = rw (← e, without_own n l) (omega arith)
    most x (no d) = rw (without_other n x l d) (a x)

    past : (x : ℕ) → n ≤ x → Dec (n ≡ x) → count x (without n l) ≡ 0
    past x h (yes e) = rw (← e) (without_own n l)
    past x h (no d) = without_other n x l d ∙ b x (omega arith)

-- with a number below n that is not among them, fewer
pub pigeonhole_less : (n : ℕ) (l : List ℕ) (x : ℕ) → ((y : ℕ) → count y l ≤ 1) → ((y : ℕ) → 1 ≤ count y l → y < n) → x < n → count x l ≡ 0
    → length l < n
unfolding count
pigeonhole_less n l x a b h z =
    pigeonhole n (x ∷ l) (λ y. elim (same? y x) [ equal e p i ↦ omega (arith, i, ap (λ (n : ℕ). count n l) e ∙ z) | other d p i ↦ omega (arith, a y) ])
    (λ y g. elim (same? y x) [ equal e p i ↦ absurd (omega arith) | other d p i ↦ omega (arith, none y g) ])
  where
    none : (y : ℕ) → n ≤ y → count y l ≡ 0
    none y g = go (count y l) (b y)
      where
        go : (k : ℕ) → (1 ≤ k → y < n) → k ≡ 0
        go zero f = refl
        go (suc k) f = absurd (omega (arith, f (omega arith)))
