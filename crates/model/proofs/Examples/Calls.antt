-- Document 01's examples about runs hold of the rules: one computed test of their table, one law.
-- Assumes nothing.
use Rattle.std.specs.Prelude.{◌≡◌, refl, Bool, true, ℕ, zero, suc, ◌<◌, length, get_or, leb}
use Rattle.std.proofs.Common.{ap, arith}
use mathlib.Core.List.{List, [], ◌∷◌, map, tail}
use Rattle.model.specs.declared.ReceiveCall.TheVariants.{TryRecvBatchInto, TryRecvBatchIntoWhile}
use Rattle.model.specs.declared.Refusal.TheVariants.{CapacityOutOfRange, SlotsOutOfRange, RingStoreShort, TableStoreShort}
use Rattle.model.specs.declared.Answer.{Answer}
use Rattle.model.specs.declared.Answer.TheVariants.{Done, Refused}
use Rattle.model.specs.Lists.{both, same, count, keep, without, from, total}
use Rattle.model.specs.State.{vacant, may_queue, registered_lanes, living_senders, items_held, sender_lives, has_lane, has_lane_id, is_full, free_places, release_batch, ring_of}
use Rattle.model.specs.Ready.{group_of, groups_in, marks, is_ready, collect_marks, collect_group, start_group, groups_round, collect_first, collect_each, collect_ready_group, collect_ready}
use Rattle.model.specs.Turn.{retire_lane, retire_lane_if, settle_empty, refill, before_next_turn, run_down_from, run_down, unreleased_after_one, give_item, give_oldest, give_front, collect_if_due, collect_if_none_queued, polled, take_one, take_fair}
use Rattle.model.specs.Outcome.{unless}
use Rattle.model.specs.Runs.{answers, after_list}
use Rattle.model.specs.Sender.{clear_slots, issue_slot, all_issued, register_sender, try_send, try_send_unsignaled, drop_sender, sender_outcome}
use Rattle.model.specs.Receive.{retire_empty_paused_lanes, empty_or_drained, nothing_taken, answer_one, try_recv, try_recv_fair, queue_lane_if, take_from, try_recv_from, and_more, take_up_to, release_all, answer_items, try_recv_batch_into, admitted, halted, take_while, answer_while, try_recv_batch_into_while, written_to, receive_outcome, output_after}
use Rattle.model.specs.Control.{pause, resume_if, resume, close_lane, release_consumed, poll_all_lanes, close_receiver, count_held, control_outcome}
use Rattle.model.specs.Opening.{doubled_until, opened_state, opening_outcome}
use Rattle.model.specs.Rules.{outcome, the_rules}
use Rattle.model.specs.Examples.Pairs.{Reads}
use Rattle.model.specs.Examples.Example.{Example, opening_of, said_calls, said_answers, compute_examples, registers, sends}
use Rattle.model.specs.Examples.Stops.{stops}
use Rattle.model.specs.Examples.Table.{credit_after, table}

-- All definitions of the rules, for computing with them.
unfoldable pub compute : Unit {0}
unfolding same count keep without from total vacant may_queue registered_lanes living_senders items_held sender_lives has_lane has_lane_id is_full free_places release_batch ring_of group_of groups_in marks is_ready collect_marks collect_group start_group groups_round collect_first collect_each collect_ready_group collect_ready retire_lane retire_lane_if settle_empty refill before_next_turn run_down_from run_down unreleased_after_one give_item give_oldest give_front collect_if_due collect_if_none_queued polled take_one take_fair unless retire_empty_paused_lanes empty_or_drained nothing_taken answer_one try_recv try_recv_fair queue_lane_if take_from try_recv_from and_more take_up_to release_all answer_items try_recv_batch_into admitted halted take_while answer_while try_recv_batch_into_while receive_outcome pause resume_if resume close_lane release_consumed poll_all_lanes close_receiver count_held control_outcome clear_slots issue_slot all_issued register_sender try_send try_send_unsignaled drop_sender sender_outcome doubled_until opened_state opening_outcome outcome
compute = tt

-- what does come of an example: its answers, and the poll budget at the end
unfoldable pub Found : Example → List Answer × ℕ
Found e = let s = opened_state (opening_of e) in (answers the_rules s (said_calls e), (after_list the_rules s (said_calls e)).budget)

unfoldable pub expected : Example → List Answer × ℕ
expected e = (said_answers e, e.budget)

-- the computed test, over the whole table
pub table_computed : map Found table ≡ map expected table
unfolding compute compute_examples answers after_list Found expected credit_after stops table
table_computed = refl

-- an opening takes the sizes of each row: "1 to 65,536", "1 to 8,192"
unfoldable pub sizes_taken : Example → Bool
sizes_taken e = both (both (leb 1 e.capacity) (leb e.capacity 65536)) (both (leb 1 e.slots) (leb e.slots 8192))

pub sizes_computed : map sizes_taken table ≡ map (λ e. true) table
unfolding sizes_taken credit_after stops table
sizes_computed = refl

-- the law: at each row
row : ℕ → Example
row k = get_or table k record { capacity = 1; slots = 1; generation = 0; budget = 64; said = [] }

at_each : (l : List Example) → map Found l ≡ map expected l → (k : ℕ) (d : Example) → k < length l → Found (get_or l k d) ≡ expected (get_or l k d)
at_each [] e k d h = absurd (omega arith)
at_each (x ∷ l) e zero d h = cc
at_each (x ∷ l) e (suc k) d h = at_each l (ap tail e) k d (omega arith)

examples_hold : (k : ℕ) → k < length table → Found (row k) ≡ expected (row k)
unfolding row
examples_hold k h = at_each table table_computed k _ h

-- "A batch hands out its output in order": the output of 5 words after batches of limit 0, 2, 4 and 6, the last of which is refused, where lanes 0 and 1 hold three items
output_of : ℕ → List ℕ
output_of limit =
    output_after
    (after_list the_rules (opened_state record { capacity = 4; slots = 2; channel = 7; cursor = 0; generation = 0; number = 0 }) (registers ∷ registers ∷ sends 1 3 ∷ sends 0 1 ∷ sends 0 2 ∷ []))
    (TryRecvBatchInto limit 5) (90 ∷ 91 ∷ 92 ∷ 93 ∷ 94 ∷ [])

outputs_computed :
    Reads output_of
    ((0, 90 ∷ 91 ∷ 92 ∷ 93 ∷ 94 ∷ [])
    ∷ (2, 1 ∷ 2 ∷ 92 ∷ 93 ∷ 94 ∷ [])
    ∷ (4, 1 ∷ 2 ∷ 3 ∷ 93 ∷ 94 ∷ [])
    ∷ (6, 90 ∷ 91 ∷ 92 ∷ 93 ∷ 94 ∷ [])
    ∷ [])
unfolding compute compute_examples written_to output_after after_list output_of
outputs_computed = refl

-- the same lanes and output, by the bound: a batch of limit 4 that stops before the first item, the second, the third, and not at all
output_within : ℕ → List ℕ
output_within bound =
    output_after
    (after_list the_rules (opened_state record { capacity = 4; slots = 2; channel = 7; cursor = 0; generation = 0; number = 0 }) (registers ∷ registers ∷ sends 1 3 ∷ sends 0 1 ∷ sends 0 2 ∷ []))
    (TryRecvBatchIntoWhile 4 bound 5) (90 ∷ 91 ∷ 92 ∷ 93 ∷ 94 ∷ [])

outputs_within_computed :
    Reads output_within
    ((0, 90 ∷ 91 ∷ 92 ∷ 93 ∷ 94 ∷ [])
    ∷ (1, 1 ∷ 91 ∷ 92 ∷ 93 ∷ 94 ∷ [])
    ∷ (2, 1 ∷ 2 ∷ 92 ∷ 93 ∷ 94 ∷ [])
    ∷ (3, 1 ∷ 2 ∷ 3 ∷ 93 ∷ 94 ∷ [])
    ∷ [])
unfolding compute compute_examples written_to output_after after_list output_within
outputs_within_computed = refl

-- openings at the edge of each refusal: capacity, slots, words of the ring store and of the table store
opens : ℕ × ℕ × ℕ × ℕ → Answer
opens a = (opening_outcome record { capacity = a.0; slots = a.1; channel = 7; cursor = 0; generation = 0; number = 0 } record { rings = a.2; table = a.3 }).1.0

openings_computed :
    Reads opens
    (((0, 0, 0, 0), Refused CapacityOutOfRange)
    ∷ ((65537, 2, 0, 0), Refused CapacityOutOfRange)
    ∷ ((100, 0, 0, 0), Refused SlotsOutOfRange)
    ∷ ((100, 8193, 0, 0), Refused SlotsOutOfRange)
    ∷ ((100, 2, 255, 0), Refused RingStoreShort)
    ∷ ((100, 2, 256, 543), Refused TableStoreShort)
    ∷ ((100, 2, 256, 544), Done)
    ∷ ((65536, 8192, 536870912, 131584), Done)
    ∷ [])
unfolding compute opens
openings_computed = refl
