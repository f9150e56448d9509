-- Sums over numbers and over the issued slots, as one part changes or one more is there.
-- The counts of registered lanes, of living senders and of held items are such sums.
-- Assumes nothing.
use mathlib.Core.Path.{◌≡◌, refl, sym, ap, ◌∙◌}
use mathlib.Core.Logic.{◌≢◌}
use mathlib.Core.Bool.{Bool, true, false}
use mathlib.Core.List.{List, [], ◌∷◌}
use Prim.Native.Nat.{ℕ, zero, suc, ◌+◌, ◌≤◌, ◌<◌}
use native.Mathlib.Omega.{arith}
use Rattle.model.specs.Lists.{if, keep, from, total}
use Rattle.model.specs.State.{Slot, State}
use Rattle.demands.proofs.Counting.{equal, other, same?}

-- ---- over n numbers from a on

module _ (f : ℕ → ℕ) where
  total_first : (a n : ℕ) → total f (from a (suc n)) ≡ f a + total f (from (suc a) n)
  unfolding total from
  total_first a n = refl

  total_none : (a : ℕ) → total f (from a 0) ≡ 0
  unfolding total from
  total_none a = refl

  -- one more number
  pub total_more : (a n b : ℕ) → b ≡ a + n → total f (from a (suc n)) ≡ total f (from a n) + f b
  total_more a zero b e = let g : a ≡ b = omega arith in omega (arith, total_first a 0, total_none (suc a), total_none a, ap f g)
  total_more a (suc n) b e = omega (arith, total_first a (suc n), total_first a n, total_more (suc a) n b (omega arith))

  -- a part is at most the sum
  pub total_some : (x a n : ℕ) → a ≤ x → x < a + n → f x ≤ total f (from a n)
  total_some x a zero g l = absurd (omega arith)
  total_some x a (suc n) g l = elim (same? x a) [
    | equal e b i ↦ omega (arith, total_first a n, ap f e)
    | other d b i ↦ omega (arith, total_first a n, total_some x (suc a) n (omega arith) (omega arith))
  ]

  -- the sum over those that pass a test
  pub total_keep : (p : ℕ → Bool) (l : List ℕ) → total f (keep p l) ≡ total (λ x. if (p x) (f x) 0) l
  unfolding total keep
  total_keep p [] = refl
  total_keep p (x ∷ l) = go (p x) (total_keep p l)
    where
      go : (b : Bool) → total f (keep p l) ≡ total (λ x. if (p x) (f x) 0) l → total f (if b (x ∷ keep p l) (keep p l)) ≡ if b (f x) 0 + total (λ x. if (p x) (f x) 0) l
      go true e = omega arith
      go false e = omega arith

module _ (f g : ℕ → ℕ) where
  pub total_same : (a n : ℕ) → ((y : ℕ) → a ≤ y → y < a + n → f y ≡ g y) → total f (from a n) ≡ total g (from a n)
  total_same a zero h = total_none f a ∙ sym (total_none g a)
  total_same a (suc n) h =
      omega (arith, total_first f a n, total_first g a n, h a (omega arith) (omega arith), total_same (suc a) n (λ y k l. h y (omega arith) (omega arith)))

  -- where they differ at x alone
  pub total_but : (x a n : ℕ) → a ≤ x → x < a + n → ((y : ℕ) → x ≢ y → f y ≡ g y) → total f (from a n) + g x ≡ total g (from a n) + f x
  total_but x a zero k l h = absurd (omega arith)
  total_but x a (suc n) k l h = elim (same? x a) [
    | equal e b i ↦ omega (arith, total_first f a n, total_first g a n, ap f e, ap g e, total_same (suc a) n (λ y c m. h y (λ d. omega arith)))
    | other d b i ↦ omega (arith, total_first f a n, total_first g a n, h a d, total_but x (suc a) n (omega arith) (omega arith) h)
  ]

-- ---- over the issued slots

abbrev pub sum_of : (Slot → ℕ) → State → ℕ
sum_of f s = total (λ x. f (s.slot_of x)) (from 0 s.issued)

module _ (f : Slot → ℕ) (s u : State) where
  pub sum_same : u.issued ≡ s.issued → ((y : ℕ) → f (u.slot_of y) ≡ f (s.slot_of y)) → sum_of f u ≡ sum_of f s
  sum_same i e = rw i (total_same (λ x. f (u.slot_of x)) (λ x. f (s.slot_of x)) 0 s.issued (λ y g l. e y))

  -- one slot changes
  pub sum_but : u.issued ≡ s.issued → (x : ℕ) → x < s.issued → ((y : ℕ) → x ≢ y → f (u.slot_of y) ≡ f (s.slot_of y))
      → sum_of f u + f (s.slot_of x) ≡ sum_of f s + f (u.slot_of x)
  sum_but i x h e = rw i (total_but (λ y. f (u.slot_of y)) (λ y. f (s.slot_of y)) x 0 s.issued (omega arith) (omega arith) e)

  -- one slot more is issued
  pub sum_more : u.issued ≡ suc s.issued → ((y : ℕ) → f (u.slot_of y) ≡ f (s.slot_of y)) → sum_of f u ≡ sum_of f s + f (s.slot_of s.issued)
  sum_more i e =
      rw i
      (total_same (λ x. f (u.slot_of x)) (λ x. f (s.slot_of x)) 0 (suc s.issued) (λ y g l. e y)
      ∙ total_more (λ x. f (s.slot_of x)) 0 s.issued s.issued (omega arith))
