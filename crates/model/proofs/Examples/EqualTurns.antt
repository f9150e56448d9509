-- The words of `EqualTurnsIn` on one of each thing that can happen, computed; runs of the rules in which lanes 0 and 1 wait throughout; and, for each of the words
-- "never without", "ordinarily sent", "unpaused", "open", "of other lanes" and "only fair receives", a run that breaks the claim if the word is left out.
-- Each line is a case and what is expected of it.
-- Assumes nothing.
use Rattle.std.specs.Prelude.{◌≡◌, refl, Bool, true, false, not, List, [], ◌∷◌, ◌++◌, ℕ}
use Rattle.std.proofs.Common.{arith}
use Rattle.model.specs.declared.LaneKey.{LaneKey}
use Rattle.model.specs.declared.Opening.{Opening}
use Rattle.model.specs.declared.ReceiveCall.TheVariants.{TryRecv, TryRecvFair, TryRecvFrom, TryRecvBatchInto, TryRecvBatchIntoWhile}
use Rattle.model.specs.declared.ControlCall.TheVariants.{ReleaseConsumed, CloseReceiver}
use Rattle.model.specs.declared.Call.{Call}
use Rattle.model.specs.declared.Call.TheVariants.{Receive, Control}
use Rattle.model.specs.declared.Refusal.TheVariants.{ReceiverClosed, AtCapacity, NoSuchSender, NoSuchLane, Full, OutputShort}
use Rattle.model.specs.declared.Answer.TheVariants.{Done, Taken, Items, Stopped, Empty, Disconnected, Held, Refused}
use Rattle.model.specs.Lists.{if, both, non_empty}
use Rattle.model.specs.State.{State}
use Rattle.model.specs.Runs.{Lent, accepted, Tick, gives, ends, handed, ticks, trace, after_list, answers, same_key, count_ticks, of_lane}
use Rattle.model.specs.Opening.{opening_outcome}
use Rattle.model.specs.Rules.{the_rules}
use Rattle.model.specs.Ledger.{Lane, Ledger, at_opening, change_lane, add_item, remove_oldest, set_paused, set_closed, set_dropped, add_registered, apply_call, note, ledger_after, any_ordinary, waits_in, waits}
use Rattle.model.specs.EqualTurns.{out_of_turn, throughout, AtMostOneApart}
use Rattle.model.specs.Examples.Pairs.{Reads, Always}
use Rattle.model.proofs.Examples.Calls.{compute}
use Rattle.model.specs.Examples.Example.{compute_examples, repeat, key_at, id_at, registers, sends, sends_unsignalled, drops, plain, fair, batch, targeted, pauses, resumes, closes, polls_all, held, lane, gave}

unfoldable pub releases : Call
releases = Control ReleaseConsumed

closes_receiver : Call
closes_receiver = Control CloseReceiver

compute_turns : Unit {0}
unfolding compute compute_examples releases closes_receiver accepted handed ticks trace answers same_key count_ticks of_lane at_opening change_lane add_item remove_oldest set_paused set_closed set_dropped add_registered apply_call note ledger_after any_ordinary waits_in waits out_of_turn throughout
compute_turns = tt

-- ---- "only fair receives, targeted receives of other lanes": what is out of turn for lanes 0 and 1

-- other lanes are those of other slots, and those of the same slots and another generation
out_of_turn_read :
    Reads (out_of_turn (key_at 0 0) (key_at 1 0))
    ((gives TryRecvFair (key_at 0 0) 5, false)
    ∷ (gives TryRecvFair (key_at 1 0) 5, false)
    ∷ (gives TryRecvFair (key_at 2 0) 5, false)
    ∷ (gives TryRecvFair (key_at 0 1) 5, false)
    ∷ (gives TryRecvFair (key_at 1 1) 5, false)
    ∷ (gives (TryRecvFrom (id_at 0 0)) (key_at 0 0) 5, true)
    ∷ (gives (TryRecvFrom (id_at 1 0)) (key_at 1 0) 5, true)
    ∷ (gives (TryRecvFrom (id_at 2 0)) (key_at 2 0) 5, false)
    ∷ (gives (TryRecvFrom (id_at 0 1)) (key_at 0 1) 5, false)
    ∷ (gives (TryRecvFrom (id_at 1 1)) (key_at 1 1) 5, false)
    -- by the lane that it is asked of: the rules hand out no other's
    ∷ (gives (TryRecvFrom (id_at 2 0)) (key_at 0 0) 5, false)
    ∷ (gives (TryRecvFrom (id_at 1 0)) (key_at 2 0) 5, true)
    ∷ (gives TryRecv (key_at 0 0) 5, true)
    ∷ (gives TryRecv (key_at 1 0) 5, true)
    ∷ (gives TryRecv (key_at 2 0) 5, true)
    ∷ (gives (TryRecvBatchInto 2 2) (key_at 0 0) 5, true)
    ∷ (gives (TryRecvBatchInto 2 2) (key_at 1 0) 5, true)
    ∷ (gives (TryRecvBatchInto 2 2) (key_at 2 0) 5, true)
    ∷ (gives (TryRecvBatchIntoWhile 2 5 2) (key_at 0 0) 5, true)
    ∷ (gives (TryRecvBatchIntoWhile 2 5 2) (key_at 2 0) 5, true)
    ∷ [])
unfolding compute_turns
out_of_turn_read = refl

-- a call that ends hands nothing out, whatever it is and answers
ends_in_turn :
    Always (out_of_turn (key_at 0 0) (key_at 1 0)) false
    (ends registers (lane 2 0)
    ∷ ends registers (Refused AtCapacity)
    ∷ ends (sends 0 5) (Taken true 3)
    ∷ ends (sends 2 5) (Refused Full)
    ∷ ends (sends_unsignalled 1 5) (Taken false 3)
    ∷ ends (drops 0) Done
    ∷ ends (drops 2) (Refused NoSuchSender)
    ∷ ends fair (gave 5 0)
    ∷ ends fair Empty
    ∷ ends fair Disconnected
    ∷ ends plain (gave 5 0)
    ∷ ends plain (Refused ReceiverClosed)
    ∷ ends (batch 0 2) (Items 0)
    ∷ ends (batch 2 2) (Items 2)
    ∷ ends (Receive (TryRecvBatchIntoWhile 2 5 2)) (Stopped 0)
    ∷ ends (batch 3 2) (Refused OutputShort)
    ∷ ends (targeted 0) (gave 5 0)
    ∷ ends (targeted 2) Empty
    ∷ ends (targeted 0) (Refused NoSuchLane)
    ∷ ends (pauses 2) Done
    ∷ ends (resumes 2) Done
    ∷ ends (closes 2) Done
    ∷ ends (pauses 0) (Refused NoSuchLane)
    ∷ ends releases Done
    ∷ ends polls_all Done
    ∷ ends closes_receiver (Refused ReceiverClosed)
    ∷ ends held (Held 1)
    ∷ [])
unfolding compute_turns
ends_in_turn = refl

-- ---- "never without an ordinarily sent item, unpaused and open through a stretch", of lane 1

-- lanes 0 and 1 are registered, then comes what is before the stretch, then what happens in it
waits_in1 : List Tick × List Tick → Bool
waits_in1 e = throughout (waits (key_at 1 0)) (ledger_after at_opening (ends registers (lane 0 0) ∷ ends registers (lane 1 0) ∷ e.0)) e.1

sent : Tick
sent = ends (sends 1 5) (Taken true 3)

given : ℕ → Tick
given x = gives TryRecvFair (key_at x 0) 5

throughout_read :
    Reads waits_in1
    -- nothing happens; it waits where the one thing happens; it does not
    ((([], []), true)
    ∷ ((sent ∷ [], ends held (Held 1) ∷ []), true)
    ∷ (([], ends held (Held 0) ∷ []), false)
    ∷ (([], sent ∷ []), false)
    -- its last item may be the last thing, and it may be paused, closed, or the receiver closed by the last thing
    ∷ ((sent ∷ [], given 1 ∷ []), true)
    ∷ ((sent ∷ [], ends (pauses 1) Done ∷ []), true)
    ∷ ((sent ∷ [], ends (closes 1) Done ∷ []), true)
    ∷ ((sent ∷ [], ends closes_receiver Done ∷ []), true)
    -- not before it, though all is well again
    ∷ ((sent ∷ [], given 1 ∷ sent ∷ []), false)
    ∷ ((sent ∷ [], given 1 ∷ sent ∷ given 1 ∷ sent ∷ []), false)
    ∷ ((sent ∷ sent ∷ [], given 1 ∷ given 1 ∷ sent ∷ given 1 ∷ []), false)
    ∷ ((sent ∷ [], ends (pauses 1) Done ∷ ends (resumes 1) Done ∷ []), false)
    ∷ ((sent ∷ [], ends (closes 1) Done ∷ ends held (Held 0) ∷ []), false)
    ∷ ((sent ∷ [], ends closes_receiver Done ∷ ends held (Held 1) ∷ []), false)
    -- an item that was not ordinarily sent is not enough, and does no harm
    ∷ ((ends (sends_unsignalled 1 5) (Taken false 3) ∷ [], ends held (Held 1) ∷ []), false)
    ∷ ((ends (sends_unsignalled 1 5) (Taken false 3) ∷ sent ∷ [], given 1 ∷ given 1 ∷ []), true)
    ∷ ((sent ∷ ends (sends_unsignalled 1 5) (Taken false 3) ∷ [], given 1 ∷ given 1 ∷ []), false)
    -- refilled in time; its sender dropped; refused calls; what is done to lane 0
    ∷ ((sent ∷ [], sent ∷ given 1 ∷ sent ∷ given 1 ∷ given 1 ∷ []), true)
    ∷ ((sent ∷ sent ∷ [], ends (drops 1) Done ∷ given 1 ∷ given 1 ∷ []), true)
    ∷ ((sent ∷ [], ends (pauses 1) (Refused NoSuchLane) ∷ ends closes_receiver (Refused ReceiverClosed) ∷ given 1 ∷ []), true)
    ∷ ((sent ∷ [], given 0 ∷ ends (pauses 0) Done ∷ ends (closes 0) Done ∷ given 1 ∷ []), true)
    ∷ [])
unfolding compute_turns waits_in1 sent given
throughout_read = refl

-- ---- "the items handed out of the one and of the other differ by at most one"

-- they may differ, by one
one_apart : AtMostOneApart (key_at 0 0) (key_at 1 0) (given 0 ∷ []) × AtMostOneApart (key_at 0 0) (key_at 1 0) (given 1 ∷ [])
unfolding compute_turns given
one_apart = (record { first_most = omega arith; second_most = omega arith }, record { first_most = omega arith; second_most = omega arith })

-- and not by two, whoever hands them out
two_apart_first : AtMostOneApart (key_at 0 0) (key_at 1 0) (given 0 ∷ gives TryRecv (key_at 0 0) 5 ∷ []) → ⊥
unfolding compute_turns given
two_apart_first h = absurd (omega (arith, h.first_most))

two_apart_second : AtMostOneApart (key_at 0 0) (key_at 1 0) (given 1 ∷ given 1 ∷ []) → ⊥
unfolding compute_turns given
two_apart_second h = absurd (omega (arith, h.second_most))

-- nor where the other has given some: it is the difference that counts
three_and_one : AtMostOneApart (key_at 0 0) (key_at 1 0) (given 1 ∷ given 0 ∷ given 0 ∷ given 0 ∷ []) → ⊥
unfolding compute_turns given
three_and_one h = absurd (omega (arith, h.first_most))

one_and_three : AtMostOneApart (key_at 0 0) (key_at 1 0) (given 0 ∷ given 1 ∷ given 1 ∷ given 1 ∷ []) → ⊥
unfolding compute_turns given
one_and_three h = absurd (omega (arith, h.second_most))

-- items of third lanes between them, of slot 1's next lane too, do not make it less; nor does it matter that a targeted receive hands one out
apart_between_first : AtMostOneApart (key_at 0 0) (key_at 1 0) (given 0 ∷ given 2 ∷ gives TryRecvFair (key_at 1 1) 5 ∷ gives (TryRecvFrom (id_at 2 0)) (key_at 0 0) 5 ∷ []) → ⊥
unfolding compute_turns given
apart_between_first h = absurd (omega (arith, h.first_most))

apart_between_second : AtMostOneApart (key_at 0 0) (key_at 1 0) (given 1 ∷ given 2 ∷ gives TryRecvFair (key_at 0 1) 5 ∷ gives (TryRecvFrom (id_at 2 0)) (key_at 1 0) 5 ∷ []) → ⊥
unfolding compute_turns given
apart_between_second h = absurd (omega (arith, h.second_most))

-- of third lanes there may be any number
thirds_apart : AtMostOneApart (key_at 0 0) (key_at 1 0) (given 2 ∷ given 2 ∷ gives TryRecvFair (key_at 0 1) 5 ∷ gives TryRecvFair (key_at 0 1) 5 ∷ [])
unfolding compute_turns given
thirds_apart = record { first_most = omega arith; second_most = omega arith }

-- ---- runs of the rules: capacity 8, four slots, lanes 0, 1 and 2

unfoldable pub opening : Opening
opening = record { capacity = 8; slots = 4; channel = 7; cursor = 0; generation = 0; number = 0 }

unfoldable pub lent : Lent
lent = record { rings = 2048; table = 4096 }

accepted_opening : (opening_outcome opening lent).1.0 ≡ Done
unfolding compute opening lent
accepted_opening = refl

-- the calls before the stretch, and those in it
abbrev Parts : Type 0
Parts = List Call × List Call

state_before : Parts → State
state_before e = after_list the_rules (opening_outcome opening lent).1.1 (registers ∷ registers ∷ registers ∷ e.0)

ledger_before : Parts → Ledger
ledger_before e = ledger_after at_opening (trace the_rules (opening_outcome opening lent).1.1 (registers ∷ registers ∷ registers ∷ e.0))

stretch_of : Parts → List Tick
stretch_of e = trace the_rules (state_before e) e.1

-- how many items lane 0 gives in the stretch, and lane 1
items_given : Parts → ℕ × ℕ
items_given e = (count_ticks (of_lane (key_at 0 0)) (stretch_of e), count_ticks (of_lane (key_at 1 0)) (stretch_of e))

-- p of a lane holds of both throughout, and how much of the stretch passes q: with the words of the claim, p is `waits`, and q `out_of_turn`
asked : (LaneKey → Ledger → Bool) → (Tick → Bool) → Parts → Bool × ℕ
asked p q e = (both (throughout (p (key_at 0 0)) (ledger_before e) (stretch_of e)) (throughout (p (key_at 1 0)) (ledger_before e) (stretch_of e)), count_ticks q (stretch_of e))

-- as the claim asks
out_of_their_turn : Tick → Bool
out_of_their_turn = out_of_turn (key_at 0 0) (key_at 1 0)

as_claimed : Parts → Bool × ℕ
as_claimed e = asked waits out_of_their_turn e

-- lanes 0 and 1 hold two items each, or four
unfoldable pub two_each : List Call
two_each = repeat 2 (sends 0 5) ++ repeat 2 (sends 1 6)

unfoldable pub four_each : List Call
four_each = repeat 4 (sends 0 5) ++ repeat 4 (sends 1 6)

-- one of each call that may be made in the stretch: those of the request, refused ones, and others that hand nothing out
each_kind : Parts
each_kind = (
  sends 2 7 ∷ four_each,
  fair
      ∷ targeted 2
      ∷ registers
      ∷ sends 3 8
      ∷ sends 0 5
      ∷ sends_unsignalled 1 6
      ∷ fair
      ∷ drops 1
      ∷ drops 2
      ∷ held
      ∷ batch 3 2
      ∷ sends 2 7
      ∷ pauses 3
      ∷ resumes 3
      ∷ closes 3
      ∷ targeted 3
      ∷ releases
      ∷ polls_all
      ∷ batch 0 2
      ∷ fair
      ∷ [],
)

unfoldable pub compute_runs : Unit {0}
unfolding compute_turns opening lent state_before ledger_before stretch_of items_given asked out_of_their_turn as_claimed after_list two_each four_each each_kind
compute_runs = tt

each_kind_answers :
    answers the_rules (state_before each_kind) each_kind.1
    ≡ gave 5 0
    ∷ gave 7 2
    ∷ lane 3 0
    ∷ Taken true 7
    ∷ Taken false 3
    ∷ Taken false 3
    ∷ gave 6 1
    ∷ Done
    ∷ Done
    ∷ Held 9
    ∷ Refused OutputShort
    ∷ Refused NoSuchSender
    ∷ Done
    ∷ Done
    ∷ Done
    ∷ Refused NoSuchLane
    ∷ Done
    ∷ Done
    ∷ Items 0
    ∷ gave 5 0
    ∷ []
unfolding compute_runs
each_kind_answers = refl

-- all that is asked for is so, and the items differ by at most one
in_turn_read :
    Reads {A = Parts} {B = (Bool × ℕ) × (ℕ × ℕ)} (λ e. (as_claimed e, items_given e))
    (((four_each, []), ((true, 0), (0, 0)))
    ∷ ((four_each, fair ∷ []), ((true, 0), (1, 0)))
    ∷ ((four_each, fair ∷ fair ∷ []), ((true, 0), (1, 1)))
    ∷ ((four_each, fair ∷ fair ∷ fair ∷ []), ((true, 0), (2, 1)))
    ∷ ((four_each ++ (fair ∷ []), fair ∷ []), ((true, 0), (0, 1)))
    -- refilled while it goes on
    ∷ ((two_each, fair ∷ sends 0 5 ∷ fair ∷ sends 1 6 ∷ fair ∷ sends 0 5 ∷ fair ∷ sends 1 6 ∷ fair ∷ []), ((true, 0), (3, 2)))
    ∷ (each_kind, ((true, 0), (2, 1)))
    ∷ [])
unfolding compute_runs
in_turn_read = refl

-- ---- each word left out

-- "never without": both wait where the stretch begins, and lane 0 has no second item
at_first : Parts → Bool
at_first e = both (waits (key_at 0 0) (ledger_before e)) (waits (key_at 1 0) (ledger_before e))

never_without_left_out :
    Reads {A = Parts} {B = Bool × (Bool × ℕ) × (ℕ × ℕ)} (λ e. (at_first e, as_claimed e, items_given e))
    (((sends 0 5 ∷ repeat 4 (sends 1 6), fair ∷ fair ∷ fair ∷ fair ∷ []), (true, (false, 0), (1, 3)))
    ∷ [])
unfolding compute_runs at_first
never_without_left_out = refl

-- as `waits`, with p in the place of what is asked of the lane
lane_that : (Lane → Bool) → LaneKey → List Lane → Bool
lane_that p k [] = false
lane_that p k (l ∷ ls) = if (same_key l.key k) (p l) (lane_that p k ls)

waits_by : (Lane → Bool) → LaneKey → Ledger → Bool
waits_by p k L = both (not L.receiver_closed) (lane_that p k L.lanes)

-- without "ordinarily sent", without "unpaused", without "open"
any_item : LaneKey → Ledger → Bool
any_item k L = waits_by (λ l. both (not l.paused) (both (not l.closed) (non_empty l.holds))) k L

even_paused : LaneKey → Ledger → Bool
even_paused k L = waits_by (λ l. both (not l.closed) (any_ordinary l.holds)) k L

even_closed : LaneKey → Ledger → Bool
even_closed k L = waits_by (λ l. both (not l.paused) (any_ordinary l.holds)) k L

-- as `out_of_turn`: without "of other lanes", and without "only fair receives", so that nothing is asked of receives
of_any_lane : Tick → Bool
of_any_lane (gives (TryRecvFrom i) j v) = false
of_any_lane (gives TryRecv j v) = true
of_any_lane (gives TryRecvFair j v) = false
of_any_lane (gives (TryRecvBatchInto limit room) j v) = true
of_any_lane (gives (TryRecvBatchIntoWhile limit bound room) j v) = true
of_any_lane (ends c x) = false

by_any : Tick → Bool
by_any t = false

-- one unsignalled item of lane 0, and four ordinary ones of lane 1
one_unsignalled : List Call
one_unsignalled = sends_unsignalled 0 5 ∷ repeat 4 (sends 1 6)

-- what is asked for without the word is so; with it, it is not; and the items are two or three apart
left_out :
    Reads
    {A = (LaneKey → Ledger → Bool) × (Tick → Bool) × Parts}
    {B = (Bool × ℕ) × (Bool × ℕ) × (ℕ × ℕ)}
    (λ w. (asked w.0 w.1 w.2, as_claimed w.2, items_given w.2))
    (((any_item, out_of_their_turn, (one_unsignalled, fair ∷ fair ∷ fair ∷ [])), ((true, 0), (false, 0), (0, 3)))
    ∷ ((even_paused, out_of_their_turn, (four_each, pauses 0 ∷ fair ∷ fair ∷ [])), ((true, 0), (false, 0), (0, 2)))
    ∷ ((even_closed, out_of_their_turn, (four_each, closes 0 ∷ fair ∷ fair ∷ [])), ((true, 0), (false, 0), (0, 2)))
    ∷ ((waits, of_any_lane, (four_each, fair ∷ targeted 0 ∷ [])), ((true, 0), (true, 1), (2, 0)))
    ∷ ((waits, of_any_lane, (four_each, targeted 1 ∷ targeted 1 ∷ [])), ((true, 0), (true, 2), (0, 2)))
    ∷ ((waits, by_any, (four_each, plain ∷ plain ∷ [])), ((true, 0), (true, 2), (2, 0)))
    ∷ ((waits, by_any, (four_each, batch 2 2 ∷ [])), ((true, 0), (true, 2), (2, 0)))
    ∷ [])
unfolding compute_runs lane_that waits_by any_item even_paused even_closed of_any_lane by_any one_unsignalled
left_out = refl
