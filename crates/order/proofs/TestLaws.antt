-- Laws of tests that compute: what `every`, `implies`, `all_below` and `some_below` tell if their parts tell it.
-- Assumes nothing.
use mathlib.Core.Path.{◌≡◌, refl}
use mathlib.Core.Bool.{Bool, not}
use Prim.Native.Nat.{ℕ, zero, suc, ◌≤◌, ◌<◌}
use native.Mathlib.Omega.{arith}
use lib.Dec.{ltb, leb, eqb}
use Rattle.model.specs.Lists.{both, either}
use Rattle.demands.proofs.Counting.{equal, other, same?}
use Rattle.order_slot.specs.Tells.{Tells, yes, no}
use Rattle.order_slot.proofs.TellsLaws.{tells_of, tells_lt, tells_le, tells_eq}
use Rattle.order.specs.InOrder.{implies, all_below, some_below}

-- two tests of the same have the same answer
pub tells_same : {P : Type 0} {a b : Bool} → Tells P a → Tells P b → a ≡ b
tells_same (yes p) (yes q) = refl
tells_same (yes p) (no f) = absurd (f p)
tells_same (no f) (yes p) = absurd (f p)
tells_same (no f) (no g) = refl

-- ---- numbers

pub tells_less : (m n : ℕ) → Tells (m < n) (ltb m n)
tells_less m n = tells_lt m n (λ h. h) (λ h. h)

pub tells_most : (m n : ℕ) → Tells (m ≤ n) (leb m n)
tells_most m n = tells_le m n (λ h. h) (λ h. h)

pub tells_equal : (m n : ℕ) → Tells (m ≡ n) (eqb m n)
tells_equal m n = tells_eq m n (λ e. e) (λ e. e)

-- ---- tests put together

pub tells_not : {P : Type 0} {a : Bool} → Tells P a → Tells (P → ⊥) (not a)
tells_not (yes p) = no (λ f. f p)
tells_not (no f) = yes f

pub tells_both : {P Q : Type 0} {a b : Bool} → Tells P a → Tells Q b → Tells (P × Q) (both a b)
tells_both (yes p) (yes q) = yes (p, q)
tells_both (yes p) (no g) = no (λ h. g h.1)
tells_both (no f) q = no (λ h. f h.0)

-- one more test of `every`, of a field f of R; the tests after it may use what it tells
pub tells_field : {P R : Type 0} {a b : Bool} → Tells P a → (R → P) → (P → Tells R b) → Tells R (both a b)
tells_field (yes p) f k = k p
tells_field (no n) f k = no (λ r. n (f r))

pub tells_implies : {P Q : Type 0} {a b : Bool} → Tells P a → Tells Q b → Tells (P → Q) (implies a b)
tells_implies (yes p) (yes q) = yes (λ h. q)
tells_implies (yes p) (no g) = no (λ h. g (h p))
tells_implies (no f) q = yes (λ p. absurd (f p))

module _ {P : ℕ → Type 0} {p : ℕ → Bool} where
  -- a test of every number below n
  pub tells_all_below : (n : ℕ) → ((k : ℕ) → k < n → Tells (P k) (p k)) → Tells ((k : ℕ) → k < n → P k) (all_below n p)
  unfolding all_below
  tells_all_below zero t = yes (λ k h. absurd (omega arith))
  tells_all_below (suc n) t =
      tells_of
      (λ h k l. elim (same? k n) [ equal e b i ↦ rw e h.1 | other d b i ↦ h.0 k (omega (arith, d)) ])
      (λ h. (λ k l. h k (omega arith), h n (omega arith)))
      (tells_both (tells_all_below n (λ k h. t k (omega arith))) (t n (omega arith)))

  -- the same, where what is asked about is bounded by other words
  pub tells_all_where : {B : ℕ → Type 0} (n : ℕ) → ((k : ℕ) → k < n → B k) → ((k : ℕ) → B k → k < n) → ((k : ℕ) → Tells (P k) (p k))
      → Tells ((k : ℕ) → B k → P k) (all_below n p)
  tells_all_where n f g t = tells_of (λ h k b. h k (g k b)) (λ h k l. h k (f k l)) (tells_all_below n (λ k l. t k))

  -- a test of some number below n
  pub tells_some_below : (n : ℕ) → ((k : ℕ) → Tells (P k) (p k)) → Tells ((k : ℕ) × (k < n) × P k) (some_below n p)
  unfolding some_below
  tells_some_below zero t = no (λ h. omega (arith, h.1))
  tells_some_below (suc n) t = more (tells_some_below n t) (t n)
    where
      more : {a b : Bool} → Tells ((k : ℕ) × (k < n) × P k) a → Tells (P n) b → Tells ((k : ℕ) × (k < suc n) × P k) (either a b)
      more (yes h) u = yes (h.0, omega (arith, h.1), h.2)
      more (no f) (yes q) = yes (n, omega arith, q)
      more (no f) (no g) = no (λ h. elim (same? h.0 n) [ equal e b i ↦ g (rw e at h.2) | other d b i ↦ f (h.0, omega (arith, h.1, d), h.2) ])
