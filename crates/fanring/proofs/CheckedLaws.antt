-- The two ways through a call that tests its stores first.
-- Assumes nothing.
use mathlib.Core.Path.{◌≡◌, ◌∙◌, sym, ap, ap₂}
use mathlib.Core.Bool.{Bool, true, false, cond}
use mathlib.Core.List.{List}
use Prim.Native.Nat.{ℕ}
use Rattle.model.specs.declared.ReceiveCall.{ReceiveCall}
use Rattle.model.specs.declared.Call.TheVariants.{Receive}
use Rattle.model.specs.declared.Refusal.TheVariants.{StoreNotInOrder}
use Rattle.model.specs.declared.Answer.{Answer}
use Rattle.model.specs.declared.Answer.TheVariants.{Refused}
use Rattle.demands.proofs.Counting as counting
use Rattle.store.specs.Order.{StoreInOrder}
use Rattle.store.specs.Words.{Words}
use Rattle.refinement.specs.Runs.{call_words, output_words, receive_into, inner_calls}
use Rattle.order.specs.InOrder.{in_order}
use Rattle.order.proofs.InOrderLaws.{in_order_passes, in_order_fails}
use Rattle.fanring.specs.Checked.{checked}
use Rattle.fanring.specs.Runs.{checked_words, checked_output, checked_calls}

module _ (t r : List ℕ) where
  -- on stores in order the first of two
  pub if_in_order : {A : Type 0} → StoreInOrder t r → (x y : A) → cond (in_order t r) x y ≡ x
  if_in_order {A} o x y = ap (λ (b : Bool). cond {A = A} b x y) (in_order_passes t r o)

  -- on others the second
  pub unless_in_order : {A : Type 0} → (StoreInOrder t r → ⊥) → (x y : A) → cond (in_order t r) x y ≡ y
  unless_in_order {A} n x y = ap (λ (b : Bool). cond {A = A} b x y) (in_order_fails t r n)

  pub checked_inner : StoreInOrder t r → (w : Words) → checked t r w ≡ w
  unfolding checked
  checked_inner o w = if_in_order o w _

  pub checked_five : (StoreInOrder t r → ⊥) → (w : Words) → checked t r w ≡ (Refused StoreNotInOrder, t, r)
  unfolding checked
  checked_five n w = unless_in_order n w _

-- what the test's answer tells
abbrev pub Exactly : List ℕ → List ℕ → Bool → Type 0
Exactly t r a = (a ≡ true → StoreInOrder t r) × (StoreInOrder t r → a ≡ true)

module _ {t r : List ℕ} {a : Bool} (x : Exactly t r a) where
  not_in_order : a ≡ false → StoreInOrder t r → ⊥
  not_in_order e o = counting.no (x.1 o) e

  -- a call returns its refusal
  pub refuses : a ≡ false → (w : Words) → (Refused StoreNotInOrder, t, r) ≡ checked t r w
  refuses e w = sym (checked_five t r (not_in_order e) w)

  -- a call returns what the inner one left
  pub passes : a ≡ true → {v w : Words} → v ≡ w → v ≡ checked t r w
  passes e i = i ∙ sym (checked_inner t r (x.0 e) _)

  -- the same of a receive with its output
  abbrev with_output : Words → List ℕ → Answer × List ℕ × List ℕ × List ℕ
  with_output w out = (w.0, w.1, w.2, out)

  pub refuses_into : a ≡ false → (c : ReceiveCall) (out : List ℕ) → (Refused StoreNotInOrder, t, r, out) ≡ receive_into checked_calls t r c out
  unfolding checked_words checked_output
  refuses_into e c out = ap₂ with_output (refuses e (call_words t r (Receive c))) (sym (unless_in_order t r (not_in_order e) (output_words t r c out) out))

  pub passes_into : a ≡ true → (c : ReceiveCall) (out : List ℕ) {v : Answer × List ℕ × List ℕ × List ℕ} → v ≡ receive_into inner_calls t r c out → v ≡ receive_into checked_calls t r c out
  unfolding checked_words checked_output
  passes_into e c out i = i ∙ ap₂ with_output (sym (checked_inner t r (x.0 e) (call_words t r (Receive c)))) (sym (if_in_order t r (x.0 e) (output_words t r c out) out))
