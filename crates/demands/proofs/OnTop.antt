-- A free list with slots on top of another: none, or those of two steps.
-- Assumes nothing.
use mathlib.Core.Path.{◌≡◌, ap, sym, ◌∙◌}
use mathlib.Core.Bool.{false}
use mathlib.Core.List.{List, [], ◌∷◌, ◌++◌, append_assoc}
use Prim.Native.Nat.{ℕ}
use Rattle.model.specs.Lists.{Each}
use Rattle.model.specs.State.{State}
use Rattle.model.specs.Registration.{OnTop}

pub each_append : {A : Type 0} (P : A → Type 0) (a b : List A) → Each P a → Each P b → Each P (a ++ b)
unfolding Each
each_append P [] b e f = f
each_append P (x ∷ a) b e f = (e.0, each_append P a b e.1 f)

each_then : (P Q : ℕ → Type 0) → ((x : ℕ) → P x → Q x) → (a : List ℕ) → Each P a → Each Q a
unfolding Each
each_then P Q h [] e = tt
each_then P Q h (x ∷ a) e = (h x e.0, each_then P Q h a e.1)

pub none_freed : (s u : State) → u.free ≡ s.free → OnTop s u
unfolding Each
none_freed s u e = record { freed = []; list = e; retired = tt }

-- a slot that has no lane has none after the second step
pub freed_then : {s t u : State} → OnTop s t → OnTop t u → ((y : ℕ) → (t.slot_of y).registered ≡ false → (u.slot_of y).registered ≡ false) → OnTop s u
freed_then {s} {t} {u} a b h = record {
  freed = b.freed ++ a.freed;
  list = b.list ∙ ap (λ (l : List ℕ). b.freed ++ l) a.list ∙ sym (append_assoc b.freed a.freed s.free);
  retired =
      each_append (λ x. (u.slot_of x).registered ≡ false) b.freed a.freed b.retired
      (each_then (λ x. (t.slot_of x).registered ≡ false) (λ x. (u.slot_of x).registered ≡ false) h a.freed a.retired);
}
