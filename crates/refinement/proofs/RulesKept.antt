-- What specs/RulesOnWords.antt says, of the inner calls and of all that on stores in order are the inner calls: they simulate the rules.
-- Assumes nothing.
use mathlib.Core.Bool.{true, false}
use Rattle.model.specs.HeldCalls.{HeldAfterCall}
use Rattle.demands.proofs.Carried.{words_events_tell, words_budget_counts_items, words_at_most_64_in_one_turn, words_at_most_64_between_collections, words_ends_with_nothing_left, words_stopped_in_front, words_stops_exactly, words_stop_at_zero, words_only_bounded_stop, words_stop_keeps_paused, words_plain_where_admitted, words_refused_as_batch, words_disconnected_exactly, words_retires_empty_paused, words_empty_with_paused_items, words_only_paused_items_left, words_targeted_disconnected_exactly, words_thirteen_exactly, words_else_six_or_accepted, words_idle_only_when_empty, words_closed_signal_kept, words_takes_first_clear, words_takes_next_unused, words_eight_exactly, words_nine_exactly, words_refused_only_in_vain, words_freed_on_top, words_held_after_call, words_held_is_sum, words_collecting}
use Rattle.demands.proofs.WhileMarked.{words_at_most_64_while_marked, words_at_most_64_while_marked_in_batch, words_at_most_64_while_marked_in_while}
use Rattle.demands.proofs.BudgetAfterNothing.{words_budget_after_nothing, words_budget_after_stop, words_budget_as_events_set}
use Rattle.store.proofs.CollectedView.{view_collect_all, view_collect_group}
use Rattle.refinement.specs.Runs.{StoreCalls, viewed_of, inner_calls}
use Rattle.refinement.specs.RulesOnWords.{HeldWordKept, KeepsRules, after_collecting, WordsCollecting}
use Rattle.refinement.proofs.AsInner.{AsInner, inner_as_inner, words_keep, stays_in_order, queued_keys_kept, held_word_true, held_as_walked}
use Rattle.refinement.proofs.Simulation.{simulates, stores_simulate}
use Rattle.refinement.proofs.RegistrationOnWords.{eight_by_words, nine_by_words}
use Rattle.refinement.proofs.FirstCursorKept.{rings_start_at_first_cursor}

-- the word is the rules' number before the call and after it
held_word_kept : (M : StoreCalls) → AsInner M → HeldWordKept M
unfolding HeldWordKept HeldAfterCall
held_word_kept M i t r o c = rw ((words_keep M i t r o c).held_counted, o.held_counted) (words_held_after_call (viewed_of M) (simulates M i) (t, r) o c)

pub keeps_rules : (M : StoreCalls) → AsInner M → KeepsRules M
keeps_rules M i =
    let W = viewed_of M in
    let sim = simulates M i in
    record {
      stays_in_order = stays_in_order M i;
      events_tell = words_events_tell W sim;
      budget_is_count = words_budget_counts_items W sim;
      at_most_64_in_turn = words_at_most_64_in_one_turn W sim;
      at_most_64_between = words_at_most_64_between_collections W sim;
      at_most_64_while_marked = words_at_most_64_while_marked W sim;
      at_most_64_while_marked_in_batch = words_at_most_64_while_marked_in_batch W sim;
      at_most_64_while_marked_in_while = words_at_most_64_while_marked_in_while W sim;
      budget_after_nothing = words_budget_after_nothing W sim;
      budget_after_stop = words_budget_after_stop W sim;
      budget_as_events_set = words_budget_as_events_set W sim;
      ends_with_nothing_left = words_ends_with_nothing_left W sim;
      stopped_in_front = words_stopped_in_front W sim;
      stops_exactly = words_stops_exactly W sim;
      stop_at_zero = words_stop_at_zero W sim;
      only_bounded_stop = words_only_bounded_stop W sim;
      stop_keeps_paused = words_stop_keeps_paused W sim;
      plain_where_admitted = words_plain_where_admitted W sim;
      refused_as_batch = words_refused_as_batch W sim;
      disconnected_exactly = words_disconnected_exactly W sim;
      retires_empty_paused = words_retires_empty_paused W sim;
      empty_with_paused_items = words_empty_with_paused_items W sim;
      only_paused_items_left = words_only_paused_items_left W sim;
      targeted_disconnected_exactly = words_targeted_disconnected_exactly W sim;
      thirteen_exactly = words_thirteen_exactly W sim;
      else_six_or_accepted = words_else_six_or_accepted W sim;
      idle_only_when_empty = words_idle_only_when_empty W sim;
      closed_signal_kept = words_closed_signal_kept W sim;
      takes_first_clear = words_takes_first_clear W sim;
      takes_next_unused = words_takes_next_unused W sim;
      eight_exactly = words_eight_exactly W sim;
      nine_exactly = words_nine_exactly W sim;
      eight_by_words = eight_by_words M (words_eight_exactly W sim);
      nine_by_words = nine_by_words M (words_nine_exactly W sim);
      refused_only_in_vain = words_refused_only_in_vain W sim;
      freed_on_top = words_freed_on_top W sim;
      held_after_call = words_held_after_call W sim;
      held_is_sum = words_held_is_sum W sim;
      rings_start_at_first_cursor = rings_start_at_first_cursor M i;
      queued_keys_kept = queued_keys_kept M i;
      held_word_true = held_word_true M i;
      held_word_kept = held_word_kept M i;
      held_as_walked = held_as_walked M i;
    }

pub rules_kept : KeepsRules inner_calls
rules_kept = keeps_rules inner_calls inner_as_inner

pub words_collect : WordsCollecting
words_collect =
    words_collecting (viewed_of inner_calls) stores_simulate (after_collecting false) (after_collecting true)
    (λ w o. view_collect_group w.0 w.1 o.stores) (λ w o. view_collect_all w.0 w.1 o.stores)
