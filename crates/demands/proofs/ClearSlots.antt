-- The free slots without a living older sender: where the first of them stands in the free list, and the list without it.
-- Assumes nothing.
use mathlib.Core.Path.{◌≡◌, refl, ap, ◌∙◌}
use mathlib.Core.Bool.{Bool, true, false, not}
use mathlib.Core.List.{List, [], ◌∷◌, ◌++◌}
use Prim.Native.Nat.{ℕ, ◌≤◌}
use native.Mathlib.Omega.{arith}
use Rattle.model.specs.Lists.{if, Each, count, keep, without}
use Rattle.model.specs.State.{State}
use Rattle.model.specs.Sender.{clear_slots}
use Rattle.model.specs.Registration.{OlderLives, FirstClear}
use Rattle.demands.proofs.Counting.{equal, other, same?, same_self, self, not_true, not_false, count_append, keep_in, keep_out}
use Rattle.demands.proofs.OrderKept.{first_own}

-- ---- of any list

module _ (p : ℕ → Bool) where
  -- the first that passes stands in the list
  keep_first : (x : ℕ) (l k : List ℕ) → keep p l ≡ x ∷ k → (p x ≡ true) × (1 ≤ count x l)
  keep_first x l k e = go (p x) refl
    where
      some : 1 ≤ count x (keep p l)
      some = omega (arith, ap (count x) e, first_own x k)

      go : (b : Bool) → p x ≡ b → (p x ≡ true) × (1 ≤ count x l)
      go true h = (h, omega (arith, keep_in p x l h, some))
      go false h = absurd (omega (arith, keep_out p x l h, some))

  pub keep_none : (l : List ℕ) → Each (λ y. p y ≡ false) l → keep p l ≡ []
  unfolding keep Each
  keep_none [] e = refl
  keep_none (y ∷ l) e = rw e.0 (keep_none l e.1)

  pub none_kept : (l : List ℕ) → keep p l ≡ [] → Each (λ y. p y ≡ false) l
  unfolding keep Each
  none_kept [] e = tt
  none_kept (y ∷ l) e = go (p y) refl e (none_kept l)
    where
      go : (b : Bool) → p y ≡ b → if b (y ∷ keep p l) (keep p l) ≡ [] → (keep p l ≡ [] → Each (λ z. p z ≡ false) l) → (p y ≡ false) × Each (λ z. p z ≡ false) l
      go true h f g = let z : ◌≡◌ {A = ℕ} 0 1 = cc in absurd (omega arith)
      go false h f g = (h, g f)

  keep_behind : (l : List ℕ) (x : ℕ) (q : List ℕ) → Each (λ y. p y ≡ false) l → p x ≡ true → keep p (l ++ (x ∷ q)) ≡ x ∷ keep p q
  unfolding keep Each
  keep_behind [] x q e h = rw h
  keep_behind (y ∷ l) x q e h = rw e.0 (keep_behind l x q e.1 h)

-- a number that stands in a list once, taken out
without_none : (x : ℕ) (l : List ℕ) → count x l ≡ 0 → without x l ≡ l
unfolding without keep count
without_none x [] e = refl
without_none x (y ∷ l) e = elim (same? x y) [
  | equal p b i ↦ absurd (omega arith)
  | other d b i ↦ rw b (ap (λ (k : List ℕ). y ∷ k) (without_none x l (omega arith)))
]

pub without_once : (x : ℕ) (p q : List ℕ) → count x (p ++ (x ∷ q)) ≤ 1 → without x (p ++ (x ∷ q)) ≡ p ++ q
unfolding without keep count
without_once x [] q h = rw (self x) (without_none x q (omega (arith, same_self x)))
without_once x (y ∷ p) q h = elim (same? x y) [
  | equal e b i ↦ absurd (omega (arith, count_append x p (x ∷ q), same_self x))
  | other d b i ↦ rw b (ap (λ (k : List ℕ). y ∷ k) (without_once x p q (omega arith)))
]

-- ---- of the free list

-- a free slot without a living older sender
pub record ClearSlot (s : State) (x : ℕ) : Type 0 where
  pub listed : 1 ≤ count x s.free
  pub clear : (s.slot_of x).living ≡ false

pub clear_slot : (s : State) (x : ℕ) (f : List ℕ) → clear_slots s ≡ x ∷ f → ClearSlot s x
unfolding clear_slots
clear_slot s x f e = let p = keep_first (λ y. not (s.slot_of y).living) x s.free f e in record { listed = p.1; clear = not_true p.0 }

-- of a list of slots: each older sender lives exactly if each fails the test
each_lives : (s : State) (l : List ℕ) → Each (OlderLives s) l → Each (λ y. not (s.slot_of y).living ≡ false) l
unfolding Each
each_lives s [] e = tt
each_lives s (y ∷ l) e = (rw e.0, each_lives s l e.1)

lives_each : (s : State) (l : List ℕ) → Each (λ y. not (s.slot_of y).living ≡ false) l → Each (OlderLives s) l
unfolding Each
lives_each s [] e = tt
lives_each s (y ∷ l) e = (not_false e.0, lives_each s l e.1)

pub none_clear : (s : State) → Each (OlderLives s) s.free → clear_slots s ≡ []
unfolding clear_slots
none_clear s e = keep_none (λ y. not (s.slot_of y).living) s.free (each_lives s s.free e)

pub all_live : (s : State) → clear_slots s ≡ [] → Each (OlderLives s) s.free
unfolding clear_slots
all_live s e = lives_each s s.free (none_kept (λ y. not (s.slot_of y).living) s.free e)

pub first_clear : (s : State) (p : List ℕ) (x : ℕ) (q : List ℕ) → FirstClear s p x q → clear_slots s ≡ x ∷ keep (λ y. not (s.slot_of y).living) q
unfolding clear_slots
first_clear s p x q c =
    ap (keep (λ y. not (s.slot_of y).living)) c.list
    ∙ keep_behind (λ y. not (s.slot_of y).living) p x q (each_lives s p c.passed) (rw c.clear)
