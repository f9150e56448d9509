-- Calls that on stores in order are the inner calls: what is proved of the inner calls then holds of them, and their runs stay in order.
-- Assumes nothing.
use mathlib.Core.Path.{◌≡◌, refl, ap, ◌∙◌}
use mathlib.Core.List.{List, [], ◌∷◌}
use Prim.Native.Nat.{ℕ}
use Rattle.model.specs.declared.ReceiveCall.{ReceiveCall}
use Rattle.model.specs.declared.ControlCall.TheVariants.{CountHeld}
use Rattle.model.specs.declared.Call.{Call}
use Rattle.model.specs.declared.Call.TheVariants.{Control}
use Rattle.model.specs.Runs.{after_list}
use Rattle.model.specs.Receive.{receive_outcome}
use Rattle.model.specs.Rules.{outcome}
use Rattle.model.specs.Simulation.{runs_that_fit}
use Rattle.lane.specs.Table.{head, lane_at}
use Rattle.store.specs.View.{view}
use Rattle.store.specs.Order.{StoreInOrder}
use Rattle.store.specs.Words.{Words}
use Rattle.store.proofs.RefusalLaws.{seen}
use Rattle.store.proofs.HeldLaws.{held_walked}
use Rattle.all_lanes.proofs.CountHeldLaws.{count_held_as_walked}
use Rattle.control.specs.Calls.{control_words}
use Rattle.opening.proofs.OpeningLaws.{open_in_order}
use Rattle.refinement.specs.Runs.{hands_words, output_words, call_words, StoreCalls, lists_of, inner_calls, Run, opened_stores, stores_after}
use Rattle.refinement.specs.RulesOnWords.{StaysInOrder, QueuedKeysKept, HeldWordTrue, HeldAsWalked}
use Rattle.refinement.proofs.CallLaws as inner
use Rattle.refinement.proofs.HeaderSteps.{Unwritten}
use Rattle.refinement.proofs.HeaderKept.{call_leaves}

pub record AsInner (M : StoreCalls) : Type 0 where
  pub same_words : (t r : List ℕ) → StoreInOrder t r → (c : Call) → M.words t r c ≡ call_words t r c
  pub same_hands : (t r : List ℕ) → StoreInOrder t r → (c : ReceiveCall) → M.hands t r c ≡ hands_words t r c
  pub same_output : (t r : List ℕ) → StoreInOrder t r → (c : ReceiveCall) (out : List ℕ) → M.output t r c out ≡ output_words t r c out

pub inner_as_inner : AsInner inner_calls
inner_as_inner = record { same_words = λ t r o c. refl; same_hands = λ t r o c. refl; same_output = λ t r o c out. refl }

pub opened_in_order : (x : Run) → StoreInOrder (opened_stores x).0 (opened_stores x).1
unfolding runs_that_fit
opened_in_order x = open_in_order x.opening x.table x.rings x.fits x.accepted

module _ (M : StoreCalls) (i : AsInner M) where
  module _ (t r : List ℕ) (o : StoreInOrder t r) where
    pub words_alike : (c : Call) → seen (M.words t r c) ≡ (outcome (view t r) c).1
    words_alike c = ap seen (i.same_words t r o c) ∙ inner.call_alike t r o c

    pub words_keep : (c : Call) → StoreInOrder (M.words t r c).1 (M.words t r c).2
    words_keep c = rw (i.same_words t r o c) (inner.call_keeps t r o c)

    pub handed_alike : (c : ReceiveCall) → M.hands t r c ≡ (receive_outcome (view t r) c).0
    handed_alike c = i.same_hands t r o c ∙ inner.hands_alike t r o c

  calls_keep : (w : List ℕ × List ℕ) (calls : List Call) → StoreInOrder w.0 w.1
      → let end = after_list (lists_of M) w calls in StoreInOrder end.0 end.1
  unfolding after_list
  calls_keep w [] o = o
  calls_keep w (c ∷ cs) o = calls_keep ((lists_of M).step w c).1 cs (words_keep w.0 w.1 o c)

  pub stays_in_order : StaysInOrder M
  unfolding StaysInOrder
  stays_in_order x = calls_keep (opened_stores x) x.calls (opened_in_order x)

  -- a header word that no call writes, over lists of calls
  pub calls_leave : {j : ℕ} → Unwritten j → (w : List ℕ × List ℕ) (calls : List Call) → StoreInOrder w.0 w.1
      → head (after_list (lists_of M) w calls).0 j ≡ head w.0 j
  unfolding after_list
  calls_leave n w [] o = refl
  calls_leave {j = j} n w (c ∷ cs) o =
      calls_leave n ((lists_of M).step w c).1 cs (words_keep w.0 w.1 o c)
      ∙ ap (λ (z : Words). head z.1 j) (i.same_words w.0 w.1 o c) ∙ call_leaves n w.0 w.1 c

  pub held_word_true : HeldWordTrue M
  unfolding HeldWordTrue StaysInOrder
  held_word_true x = let end = stores_after M x in held_walked end.0 end.1 (stays_in_order x)

  pub held_as_walked : HeldAsWalked M
  unfolding HeldAsWalked call_words control_words
  held_as_walked t r o = (held_walked t r o, i.same_words t r o (Control CountHeld) ∙ count_held_as_walked t r o)

  pub queued_keys_kept : QueuedKeysKept M
  unfolding QueuedKeysKept
  queued_keys_kept t r o c x named = ap (λ (w : Words). (lane_at w.1 x).key) (i.same_words t r o c) ∙ inner.call_keeps_queued_key t r o c x named
