-- Laws of tests: what an answer tells, and tests put together.
-- Assumes nothing.
use mathlib.Core.Path.{◌≡◌, refl}
use mathlib.Core.Bool.{Bool, true, false}
use Prim.Native.Nat.{ℕ, ◌≤◌, ◌<◌}
use native.Mathlib.Omega.{arith}
use borrow.Author.Tests.{ltb-true, ltb-false, leb-true, leb-false, eqb-true, eqb-false}
use lib.Dec.{ltb, leb, eqb}
use Rattle.demands.proofs.Counting as counting
use Rattle.order_slot.specs.Tells.{Tells, yes, no}

pub told : {P : Type 0} {a : Bool} → Tells P a → a ≡ true → P
told (yes p) e = p
told (no f) e = absurd (counting.no e refl)

pub untold : {P : Type 0} {a : Bool} → Tells P a → a ≡ false → P → ⊥
untold (no f) e = f
untold (yes p) e = absurd (counting.no refl e)

-- the answer to what holds
pub tells_true : {P : Type 0} {a : Bool} → Tells P a → P → a ≡ true
tells_true (yes p) q = refl
tells_true (no f) q = absurd (f q)

-- a test in another's words
pub tells_of : {P Q : Type 0} {a : Bool} → (P → Q) → (Q → P) → Tells P a → Tells Q a
tells_of f g (yes p) = yes (f p)
tells_of f g (no n) = no (λ q. n (g q))

pub tells_lt : {P : Type 0} (m n : ℕ) → (m < n → P) → (P → m < n) → Tells P (ltb m n)
tells_lt {P} m n f g = go (ltb m n) refl
  where
    go : (a : Bool) → ltb m n ≡ a → Tells P a
    go true e = yes (f (ltb-true m n e))
    go false e = no (λ p. omega (arith, g p, ltb-false m n e))

pub tells_le : {P : Type 0} (m n : ℕ) → (m ≤ n → P) → (P → m ≤ n) → Tells P (leb m n)
tells_le {P} m n f g = go (leb m n) refl
  where
    go : (a : Bool) → leb m n ≡ a → Tells P a
    go true e = yes (f (leb-true m n e))
    go false e = no (λ p. omega (arith, g p, leb-false m n e))

pub tells_eq : {P : Type 0} (m n : ℕ) → (m ≡ n → P) → (P → m ≡ n) → Tells P (eqb m n)
tells_eq {P} m n f g = go (eqb m n) refl
  where
    go : (a : Bool) → eqb m n ≡ a → Tells P a
    go true e = yes (f (eqb-true m n e))
    go false e = no (λ p. eqb-false m n e (g p))

-- by what its answer says, each way
pub tells_by : {P : Type 0} (a : Bool) → (a ≡ true → P) → (P → a ≡ true) → Tells P a
tells_by true f g = yes (f refl)
tells_by false f g = no (λ p. absurd (counting.no (g p) refl))

pub denied : {P : Type 0} {a : Bool} → a ≡ false → (P → ⊥) → Tells P a
denied e f = rw e (no f)

pub allowed : {P : Type 0} {a : Bool} → a ≡ true → P → Tells P a
allowed e p = rw e (yes p)
