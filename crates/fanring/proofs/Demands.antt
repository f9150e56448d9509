-- What is claimed of the calls (specs/Demands.antt), proved.
-- Assumes nothing.
use mathlib.Core.Path.{◌≡◌, sym, subst, ap, ◌∙◌}
use mathlib.Core.List.{List}
use Prim.Native.Nat.{ℕ}
use native.Mathlib.Omega.{arith}
use Rattle.model.specs.declared.Call.{Call}
use Rattle.model.specs.declared.Refusal.TheVariants.{StoreNotInOrder}
use Rattle.model.specs.declared.Answer.TheVariants.{Refused}
use Rattle.model.specs.Simulation.{Simulation}
use Rattle.model.specs.Demand2.{Demand2In}
use Rattle.demands.proofs.Demand3.{unstopped}
use Rattle.demands.proofs.Simulation.{words_demand2, words_demand3, words_stops_only_at_items, words_next_is_above, words_hands_only_admitted, words_equal_turns, words_free_places, words_not_full_before, words_openings_told_apart, words_saved_ids_refused, words_number_only_tells_ids, words_answers_as_before, words_none_after_close, words_held_as_counted, words_hands_as_answered, words_no_lost_wake, words_nothing_waits, words_keys_never_again, words_issued_as_answered}
use Rattle.model.specs.Lists.{Each}
use Rattle.yring.proofs.ReleaseLaws.{batch_most}
use Rattle.queues.specs.Header.{capacity}
use Rattle.store.specs.View.{view}
use Rattle.store.specs.Order.{StoreInOrder}
use Rattle.store.specs.Words.{Words}
use Rattle.opening.specs.Opening.{open_store}
use Rattle.opening.proofs.OpeningLaws.{open_answers_alike, open_view, open_in_order}
use Rattle.demands.proofs.Demand2.{opens_as}
use Rattle.refinement.proofs.RefusedUnmoved.{all_left, open_unmoved}
use Rattle.refinement.specs.Runs.{viewed_of}
use Rattle.refinement.specs.RulesOnWords.{StaysInOrder}
use Rattle.refinement.specs.AsRules.{lent_of}
use Rattle.refinement.proofs.AsInner.{words_keep}
use Rattle.refinement.proofs.Demands.{ring_seen}
use Rattle.refinement.proofs.RulesKept.{keeps_rules}
use Rattle.refinement.proofs.Simulation.{simulates}
use Rattle.refinement.proofs.AsRules.{each_call_as_rules, lists_as_rules, examples_of, credit_of}
use Rattle.fanring.specs.Runs.{checked_words, checked_calls, the_calls}
use Rattle.fanring.specs.Demands.{RefusalsChangeNothing, FiveExactly, CallsSimulate, CallsKeepOrder, OpensAsRules, OpensInOrder, runs, NeverFive, ItemsInOrder, AnswersTell, LanesWaitBounded, LanesWaitUnstopped, StopsOnlyAtItems, NextIsAbove, HandsOnlyAdmitted, LanesShareEqually, FreePlacesSaid, NotFullBefore, OpeningsToldApart, SavedIdsRefused, NumberOnlyTellsIds, AnswersAsBefore, NoneAfterClose, HeldIsCounted, UntrueHeldRefused, ShortTableRefused, SmallCounts, CountsSmall, RulesKept, TraceAsRules, MixedAsChecked, ExamplesHold, CreditByTable, NoLostWake, NothingWaits, KeysNeverAgain, IssuedAsAnswered}
use Rattle.store.proofs.HeldLaws.{held_walked}
use Rattle.fanring.proofs.CheckedLaws.{checked_five}
use Rattle.fanring.proofs.CheckedCalls.{checked_as_inner, words_unmoved, output_left}
use Rattle.fanring.proofs.NeverFive.{never_five}
use Rattle.fanring.proofs.Mixed.{mixed_as}

-- ---- one call

pub refusals_change_nothing : RefusalsChangeNothing
refusals_change_nothing = record {
  of_calls = λ t r c. all_left t r (checked_words t r c) (words_unmoved t r c);
  of_outputs = output_left;
  of_openings = λ t r o. all_left t r (open_store o t r) (open_unmoved t r o);
}

only_not_in_order : (t r : List ℕ) (c : Call) → (checked_words t r c).0 ≡ Refused StoreNotInOrder → StoreInOrder t r → ⊥
only_not_in_order t r c e o = never_five t r c (sym (ap (λ (w : Words). w.0) (checked_as_inner.same_words t r o c)) ∙ e)

pub five_exactly : FiveExactly
unfolding checked_words
five_exactly = record {
  when = λ t r c n. ap (λ (w : Words). w.0) (checked_five t r n _);
  only_then = only_not_in_order;
}

pub untrue_held_refused : UntrueHeldRefused
unfolding checked_words
untrue_held_refused t r c n = checked_five t r (λ o. n (held_walked t r o)) _

pub short_table_refused : ShortTableRefused
unfolding checked_words
short_table_refused t r c n = checked_five t r (λ o. absurd (omega (arith, n, o.stores.shaped.room))) _

small_in_order : (t r : List ℕ) → StoreInOrder t r → SmallCounts t
unfolding Each
small_in_order t r o x h g =
    let k = o.stores.lanes x h g in
    let c = k.counts in
    let C = o.stores.power.most in (
      omega (arith, c.cached_is, k.cursors.known_on, C),
      (
        omega (arith, c.unreleased_below, batch_most (capacity t), C),
        (omega (arith, c.burst_most), (omega (arith, c.window_most, c.burst_most), tt)),
      ),
    )

pub calls_simulate : CallsSimulate
calls_simulate = each_call_as_rules checked_calls checked_as_inner

pub calls_keep_order : CallsKeepOrder
calls_keep_order t r c o = words_keep checked_calls checked_as_inner t r o c

pub opens_as_rules : OpensAsRules
opens_as_rules = record {
  answers = λ o t r. open_answers_alike o t r;
  leaves = λ o t r d. open_view o t r d ∙ sym (opens_as o (lent_of t r));
}

pub opens_in_order : OpensInOrder
opens_in_order o t r f d = open_in_order o t r f d

-- ---- lists of calls

pub rules_kept : RulesKept
rules_kept = keeps_rules checked_calls checked_as_inner

pub never_refused_five : NeverFive
unfolding StaysInOrder
never_refused_five x c e = only_not_in_order _ _ c e (rules_kept.stays_in_order x)

pub counts_small : CountsSmall
unfolding StaysInOrder
counts_small = record { in_runs = λ x. small_in_order _ _ (rules_kept.stays_in_order x); in_order = small_in_order }

pub checked_simulate : Simulation (viewed_of checked_calls)
checked_simulate = simulates checked_calls checked_as_inner

pub items_in_order : ItemsInOrder
items_in_order = subst (Demand2In the_calls runs) (λ i w k. ring_seen w.0 w.1 k i) (words_demand2 (viewed_of checked_calls) checked_simulate)

pub answers_tell : AnswersTell
answers_tell = words_hands_as_answered (viewed_of checked_calls) checked_simulate

pub lanes_wait_bounded : LanesWaitBounded
lanes_wait_bounded = words_demand3 (viewed_of checked_calls) checked_simulate

pub lanes_wait_unstopped : LanesWaitUnstopped
lanes_wait_unstopped = unstopped the_calls runs lanes_wait_bounded

pub stops_only_at_items : StopsOnlyAtItems
stops_only_at_items = words_stops_only_at_items (viewed_of checked_calls) checked_simulate

pub next_is_above : NextIsAbove
next_is_above = words_next_is_above (viewed_of checked_calls) checked_simulate

pub hands_only_admitted : HandsOnlyAdmitted
hands_only_admitted = words_hands_only_admitted (viewed_of checked_calls) checked_simulate

pub lanes_share_equally : LanesShareEqually
lanes_share_equally = words_equal_turns (viewed_of checked_calls) checked_simulate

pub free_places_said : FreePlacesSaid
free_places_said = words_free_places (viewed_of checked_calls) checked_simulate

pub not_full_before : NotFullBefore
not_full_before = words_not_full_before (viewed_of checked_calls) checked_simulate

pub openings_told_apart : OpeningsToldApart
openings_told_apart = words_openings_told_apart (viewed_of checked_calls) checked_simulate

pub saved_ids_refused : SavedIdsRefused
saved_ids_refused = words_saved_ids_refused (viewed_of checked_calls) checked_simulate

pub number_only_tells_ids : NumberOnlyTellsIds
number_only_tells_ids = words_number_only_tells_ids (viewed_of checked_calls) checked_simulate

pub answers_as_before : AnswersAsBefore
answers_as_before = words_answers_as_before (viewed_of checked_calls) checked_simulate

pub none_after_close : NoneAfterClose
none_after_close = words_none_after_close (viewed_of checked_calls) checked_simulate

pub held_is_counted : HeldIsCounted
held_is_counted = words_held_as_counted (viewed_of checked_calls) checked_simulate

pub trace_as_rules : TraceAsRules
trace_as_rules = lists_as_rules checked_calls checked_as_inner

pub mixed_as_checked : MixedAsChecked
mixed_as_checked = mixed_as

pub examples_hold : ExamplesHold
examples_hold = examples_of checked_calls checked_as_inner

pub credit_by_table : CreditByTable
credit_by_table = credit_of checked_calls checked_as_inner

pub no_lost_wake : NoLostWake
no_lost_wake = words_no_lost_wake (viewed_of checked_calls) checked_simulate

pub nothing_waits : NothingWaits
nothing_waits = words_nothing_waits (viewed_of checked_calls) checked_simulate

pub keys_never_again : KeysNeverAgain
keys_never_again = words_keys_never_again (viewed_of checked_calls) checked_simulate

pub issued_as_answered : IssuedAsAnswered
unfolding view
issued_as_answered = words_issued_as_answered (viewed_of checked_calls) checked_simulate
