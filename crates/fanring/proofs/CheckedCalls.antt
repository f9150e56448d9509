-- Every checked call, on any two stores: on stores in order it is the inner call; refused, it leaves every word and the output as they were.
-- Assumes nothing.
use mathlib.Core.Path.{◌≡◌, refl}
use mathlib.Core.Bool.{Bool, true, false, cond}
use mathlib.Core.List.{List}
use Prim.Native.Nat.{ℕ}
use Rattle.model.specs.declared.ReceiveCall.{ReceiveCall}
use Rattle.model.specs.declared.Call.{Call}
use Rattle.model.specs.declared.Call.TheVariants.{Receive}
use Rattle.model.specs.declared.Refusal.{Refusal}
use Rattle.model.specs.declared.Refusal.TheVariants.{StoreNotInOrder}
use Rattle.model.specs.declared.Answer.TheVariants.{Refused}
use Rattle.model.specs.Demand2.{HasRoom}
use Rattle.store.specs.Words.{Words}
use Rattle.refinement.specs.Runs.{call_words, hands_words, output_words}
use Rattle.refinement.proofs.RefusedUnmoved.{Unmoved}
use Rattle.refinement.proofs.CallLaws.{call_unmoved, output_unmoved}
use Rattle.refinement.proofs.AsInner.{AsInner}
use Rattle.order.specs.InOrder.{in_order}
use Rattle.fanring.specs.Checked.{checked}
use Rattle.fanring.specs.Runs.{checked_words, checked_hands, checked_output, checked_calls}
use Rattle.fanring.proofs.CheckedLaws.{if_in_order, checked_inner}

-- ---- on stores in order

pub checked_as_inner : AsInner checked_calls
unfolding checked_words checked_hands checked_output
checked_as_inner = record {
  same_words = λ t r o c. checked_inner t r o (call_words t r c);
  same_hands = λ t r o c. if_in_order t r o (hands_words t r c) _;
  same_output = λ t r o c out. if_in_order t r o (output_words t r c out) _;
}

-- ---- refused, on any

module _ (t r : List ℕ) where
  pub words_unmoved : (c : Call) → Unmoved t r (checked_words t r c)
  unfolding checked_words checked
  words_unmoved c = go (in_order t r)
    where
      go : (b : Bool) → Unmoved t r (cond b (call_words t r c) (Refused StoreNotInOrder, t, r))
      go true = call_unmoved t r c
      go false = λ why e. refl

  pub output_left : (out : List ℕ) (c : ReceiveCall) (why : Refusal) → HasRoom c out → (checked_words t r (Receive c)).0 ≡ Refused why → checked_output t r c out ≡ out
  unfolding checked_words checked_output checked
  output_left out c why h = go (in_order t r)
    where
      go : (b : Bool) → (cond {A = Words} b (call_words t r (Receive c)) (Refused StoreNotInOrder, t, r)).0 ≡ Refused why → cond b (output_words t r c out) out ≡ out
      go true e = output_unmoved t r c out h why e
      go false e = refl
