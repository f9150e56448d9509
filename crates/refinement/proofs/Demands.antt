-- The demands, of every list of calls on the two stores: the words simulate the rules, and so the rules' theorems hold of them.
-- Assumes nothing.
use mathlib.Core.Path.{◌≡◌, refl, subst}
use mathlib.Core.Bool.{Bool, true, false, cond}
use mathlib.Core.List.{List, []}
use Prim.Native.Nat.{ℕ}
use lib.Dec.{eqb, ltb}
use Rattle.model.specs.declared.LaneKey.{LaneKey}
use Rattle.model.specs.Lists.{if, both}
use Rattle.model.specs.State as rules
use Rattle.model.specs.State.{vacant, has_lane}
use Rattle.model.specs.Demand2.{Demand2In}
use Rattle.demands.proofs.Demand3.{unstopped}
use Rattle.demands.proofs.Simulation.{words_demand2, words_demand3, words_stops_only_at_items, words_next_is_above, words_hands_only_admitted, words_equal_turns, words_free_places, words_not_full_before, words_openings_told_apart, words_saved_ids_refused, words_number_only_tells_ids, words_answers_as_before, words_none_after_close, words_held_as_counted, words_hands_as_answered, words_no_lost_wake, words_nothing_waits, words_keys_never_again, words_issued_as_answered}
use Rattle.yring.specs.Ring.{new_ring}
use Rattle.lane.specs.Lane.{held_items}
use Rattle.lane.specs.Table.{lane_at}
use Rattle.queues.specs.Header.{issued, capacity}
use Rattle.store.specs.View.{flag, slot_at, view}
use Rattle.opening.specs.Opening.{open_store}
use Rattle.refinement.specs.Runs.{call_words, viewed_of, inner_calls, the_stores}
use Rattle.refinement.specs.Demands.{items_in, runs, RefusalsChangeNothing, ItemsInOrder, AnswersTell, LanesWaitBounded, LanesWaitUnstopped, StopsOnlyAtItems, NextIsAbove, HandsOnlyAdmitted, LanesShareEqually, FreePlacesSaid, NotFullBefore, OpeningsToldApart, SavedIdsRefused, NumberOnlyTellsIds, AnswersAsBefore, NoneAfterClose, HeldIsCounted, NoLostWake, NothingWaits, KeysNeverAgain, IssuedAsAnswered, CallsSimulate, TraceAsRules, ExamplesHold, CreditByTable}
use Rattle.refinement.proofs.RefusedUnmoved.{all_left, open_unmoved}
use Rattle.refinement.proofs.CallLaws.{call_unmoved, output_unmoved}
use Rattle.refinement.proofs.AsInner.{inner_as_inner}
use Rattle.refinement.proofs.Simulation.{stores_simulate}
use Rattle.refinement.proofs.AsRules.{each_call_as_rules, lists_as_rules, examples_of, credit_of}

-- a lane's ring in the words is the ring that the rules see
pub ring_seen : (t r : List ℕ) (k : LaneKey) → rules.ring_of (view t r) k ≡ items_in t r k
unfolding rules.ring_of has_lane items_in view slot_at vacant
ring_seen t r k = go (ltb k.slot (issued t)) refl
  where
    vs : List ℕ
    vs = held_items (new_ring k.slot (capacity t)) r (lane_at t k.slot)

    both_alike : (a b : Bool) → if (both a b) vs [] ≡ cond a (cond b vs []) []
    both_alike true true = refl
    both_alike true false = refl
    both_alike false b = refl

    go : (b : Bool) → ltb k.slot (issued t) ≡ b → rules.ring_of (view t r) k ≡ items_in t r k
    go true e = rw e (both_alike (flag (lane_at t k.slot).registered) (eqb (lane_at t k.slot).key.generation k.generation))
    go false e = rw e

pub refusals_change_nothing : RefusalsChangeNothing
refusals_change_nothing = record {
  of_calls = λ t r c. all_left t r (call_words t r c) (call_unmoved t r c);
  of_outputs = λ t r out c why h. output_unmoved t r c out h why;
  of_openings = λ t r o. all_left t r (open_store o t r) (open_unmoved t r o);
}

pub items_in_order : ItemsInOrder
items_in_order = subst (Demand2In the_stores runs) (λ i w k. ring_seen w.0 w.1 k i) (words_demand2 (viewed_of inner_calls) stores_simulate)

pub answers_tell : AnswersTell
answers_tell = words_hands_as_answered (viewed_of inner_calls) stores_simulate

pub lanes_wait_bounded : LanesWaitBounded
lanes_wait_bounded = words_demand3 (viewed_of inner_calls) stores_simulate

pub lanes_wait_unstopped : LanesWaitUnstopped
lanes_wait_unstopped = unstopped the_stores runs lanes_wait_bounded

pub stops_only_at_items : StopsOnlyAtItems
stops_only_at_items = words_stops_only_at_items (viewed_of inner_calls) stores_simulate

pub next_is_above : NextIsAbove
next_is_above = words_next_is_above (viewed_of inner_calls) stores_simulate

pub hands_only_admitted : HandsOnlyAdmitted
hands_only_admitted = words_hands_only_admitted (viewed_of inner_calls) stores_simulate

pub lanes_share_equally : LanesShareEqually
lanes_share_equally = words_equal_turns (viewed_of inner_calls) stores_simulate

pub free_places_said : FreePlacesSaid
free_places_said = words_free_places (viewed_of inner_calls) stores_simulate

pub not_full_before : NotFullBefore
not_full_before = words_not_full_before (viewed_of inner_calls) stores_simulate

pub openings_told_apart : OpeningsToldApart
openings_told_apart = words_openings_told_apart (viewed_of inner_calls) stores_simulate

pub saved_ids_refused : SavedIdsRefused
saved_ids_refused = words_saved_ids_refused (viewed_of inner_calls) stores_simulate

pub number_only_tells_ids : NumberOnlyTellsIds
number_only_tells_ids = words_number_only_tells_ids (viewed_of inner_calls) stores_simulate

pub answers_as_before : AnswersAsBefore
answers_as_before = words_answers_as_before (viewed_of inner_calls) stores_simulate

pub none_after_close : NoneAfterClose
none_after_close = words_none_after_close (viewed_of inner_calls) stores_simulate

pub held_is_counted : HeldIsCounted
held_is_counted = words_held_as_counted (viewed_of inner_calls) stores_simulate

pub no_lost_wake : NoLostWake
no_lost_wake = words_no_lost_wake (viewed_of inner_calls) stores_simulate

pub nothing_waits : NothingWaits
nothing_waits = words_nothing_waits (viewed_of inner_calls) stores_simulate

pub keys_never_again : KeysNeverAgain
keys_never_again = words_keys_never_again (viewed_of inner_calls) stores_simulate

pub issued_as_answered : IssuedAsAnswered
unfolding view
issued_as_answered = words_issued_as_answered (viewed_of inner_calls) stores_simulate

pub calls_simulate : CallsSimulate
calls_simulate = each_call_as_rules inner_calls inner_as_inner

pub trace_as_rules : TraceAsRules
trace_as_rules = lists_as_rules inner_calls inner_as_inner

pub examples_hold : ExamplesHold
examples_hold = examples_of inner_calls inner_as_inner

pub credit_by_table : CreditByTable
credit_by_table = credit_of inner_calls inner_as_inner
