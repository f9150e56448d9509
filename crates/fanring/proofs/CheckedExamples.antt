-- Examples, computed: a table store of one word and no ring store are not in order, whatever is called on them.
-- Assumes nothing.
use mathlib.Core.Path.{◌≡◌, refl}
use mathlib.Core.List.{List, [], ◌∷◌}
use Prim.Native.Nat.{ℕ}
use native.Mathlib.Omega.{arith}
use Rattle.model.specs.declared.ReceiveCall.{ReceiveCall}
use Rattle.model.specs.declared.ControlCall.TheVariants.{CloseReceiver, CountHeld}
use Rattle.model.specs.declared.Call.{Call}
use Rattle.model.specs.declared.Call.TheVariants.{Control}
use Rattle.model.specs.declared.Refusal.TheVariants.{StoreNotInOrder}
use Rattle.model.specs.declared.Answer.TheVariants.{Done, Held, Refused}
use Rattle.model.specs.Runs.{ends, handed, ticks}
use Rattle.all_lanes.specs.AllLanes.{count_held}
use Rattle.store.specs.Refusal.{receiver_verdict}
use Rattle.store.specs.Words.{unless_refused}
use Rattle.store.specs.Held.{held_from}
use Rattle.control.specs.Control.{close_receiver}
use Rattle.control.specs.Calls.{control_words}
use Rattle.refinement.specs.Runs.{call_words}
use Rattle.order.specs.InOrder.{lengths_test, header_test, in_order}
use Rattle.order.proofs.InOrderExamples.{empty}
use Rattle.fanring.specs.Checked.{checked}
use Rattle.fanring.specs.Runs.{checked_words, checked_hands, checked_output}
use Rattle.fanring.proofs.Demands.{untrue_held_refused}
use Rattle.fanring.specs.Mixed.{as_checked, as_inner, calls_of, mixed_trace, mixed_after}

one : List ℕ
one = 1 ∷ []

-- refusal 5 goes ahead of every other: the receiver of this store would be closed
refused_five : (c : Call) → checked_words one [] c ≡ (Refused StoreNotInOrder, one, [])
unfolding checked_words checked in_order header_test lengths_test one
refused_five c = refl

-- nothing is handed out, and an output keeps its words
hands_none : (c : ReceiveCall) → checked_hands one [] c ≡ []
unfolding checked_hands in_order header_test lengths_test one
hands_none c = refl

leaves_output : (c : ReceiveCall) (out : List ℕ) → checked_output one [] c out ≡ out
unfolding checked_output in_order header_test lengths_test one
leaves_output c out = refl

-- Stores in order but for their held count, which is 9 where no slot is issued (with 0 they are in order: crate `order`, InOrderExamples.antt). Made checked, held
-- is refused for them; made inner it answers the word, where a walk would count nothing.
ways_differ :
    ((calls_of as_checked).words (empty 9) (0 ∷ []) (Control CountHeld) ≡ (Refused StoreNotInOrder, empty 9, 0 ∷ []))
    × ((calls_of as_inner).words (empty 9) (0 ∷ []) (Control CountHeld) ≡ (Held 9, empty 9, 0 ∷ []))
unfolding calls_of call_words control_words count_held held_from
ways_differ = (untrue_held_refused (empty 9) (0 ∷ []) (Control CountHeld) (λ e. let z : ◌≡◌ {A = ℕ} 9 0 = e in absurd (omega arith)), refl)

-- a table store of eight words, too short to be in order, whose receiver is open
opened : List ℕ
opened = 0 ∷ 0 ∷ 0 ∷ 0 ∷ 0 ∷ 0 ∷ 0 ∷ 1 ∷ []

-- In a mixed list each call is made in its own way, on the words as the last one left them: made checked, closing is refused for these stores; made inner it closes,
-- and held, made inner, answers.
ways_mixed :
    (mixed_trace (opened, []) ((as_checked, Control CloseReceiver) ∷ (as_inner, Control CloseReceiver) ∷ (as_inner, Control CountHeld) ∷ [])
    ≡ ends (Control CloseReceiver) (Refused StoreNotInOrder) ∷ ends (Control CloseReceiver) Done ∷ ends (Control CountHeld) (Held 0) ∷ [])
    × (◌≡◌ {A = List ℕ × List ℕ} (mixed_after (opened, []) ((as_checked, Control CloseReceiver) ∷ [])) (opened, []))
    × (◌≡◌ {A = List ℕ × List ℕ} (mixed_after (opened, []) ((as_inner, Control CloseReceiver) ∷ [])) (0 ∷ 0 ∷ 0 ∷ 0 ∷ 0 ∷ 0 ∷ 0 ∷ 0 ∷ [], []))
unfolding mixed_trace mixed_after handed ticks calls_of checked_words checked in_order header_test lengths_test opened call_words control_words close_receiver receiver_verdict unless_refused count_held
ways_mixed = (refl, refl, refl)
