-- Rules of which `FreePlaces` or `NotFullBefore` does not hold (specs/ShutOut.antt), each by a computed run. Runs with much in them, so that a claim about runs with
-- less would not be broken here; and with little, so that neither would one about runs with more.
-- Assumes nothing.
use Rattle.std.specs.Prelude.{refl, true, false, List, [], ◌∷◌, ◌++◌, ℕ, ◌+◌, ◌-◌, ◌≤◌, length, take}
use Rattle.std.proofs.Common.{sym, ap, arith}
use Rattle.model.specs.declared.LaneKey.{LaneKey}
use Rattle.model.specs.declared.LaneId.{LaneId}
use Rattle.model.specs.declared.Opening.{Opening}
use Rattle.model.specs.declared.SenderCall.TheVariants.{RegisterSender, TrySend, TrySendUnsignaled, DropSender}
use Rattle.model.specs.declared.ReceiveCall.TheVariants.{TryRecv, TryRecvFrom, TryRecvBatchInto}
use Rattle.model.specs.declared.ControlCall.TheVariants.{Pause, Resume, CloseLane, ReleaseConsumed}
use Rattle.model.specs.declared.Call.{Call}
use Rattle.model.specs.declared.Call.TheVariants.{Sender, Receive, Control}
use Rattle.model.specs.declared.Refusal.TheVariants.{NoSuchSender}
use Rattle.model.specs.declared.Answer.TheVariants.{Done, Registered, Taken, Item, Items, Empty, Held, Refused}
use Rattle.model.specs.Lists.{if}
use Rattle.model.specs.State.{free_places}
use Rattle.model.specs.Runs.{Lent, accepted, Tick, gives, ends, trace, ticks, handed, after_list, same_key}
use Rattle.model.specs.Wake.{says_woken}
use Rattle.model.specs.Demand2.{values, into}
use Rattle.model.specs.FreePlaces.{Send, ordinary, unsignalled, send_to, taken_with, FreePlacesIn, FreePlaces, sent, registered, NotFullBeforeIn, NotFullBefore}
use Rattle.model.specs.ShutOut.{call_by, Said, said_instead, send_saying, sends_say, full_if, send_keeps_place, keeps_last_place, send_releases, refusal_releases, send_full_paused, paused_is_full, issued_unreleased, register_unreleased, new_lane_unreleased}
use Rattle.model.specs.Examples.Example.{compute_examples, repeat, key_at, id_on, registers, plain, fair, batch, polls_all, held}
use Rattle.model.proofs.Examples.Calls.{compute}
use Rattle.model.proofs.Examples.FreePlaces.{untrue}

-- cursors that pass 2^64, and generations from 4 on
opening : Opening
opening = record { capacity = 12; slots = 3; channel = 9; cursor = 18446744073709551613; generation = 4; number = 0 }

lent : Lent
lent = record { rings = 48; table = 584 }

id : ℕ → ℕ → LaneId
id x g = id_on 9 0 x g

-- the lane, in a slot that is issued again
k : LaneKey
k = key_at 1 5

sends : LaneKey → ℕ → Call
sends j v = Sender (TrySend j v)

posts : LaneKey → ℕ → Call
posts j v = Sender (TrySendUnsignaled j v)

-- one of each call, other lanes' sends, a refused one; then the lane is paused, its signal idle, with one item in its ring and one that is taken and not released
before : List Call
before =
    registers
    ∷ registers
    ∷ registers
    ∷ Sender (DropSender (key_at 1 4))
    ∷ plain
    ∷ registers
    ∷ sends k 1
    ∷ posts k 2
    ∷ sends (key_at 0 4) 3
    ∷ fair
    ∷ batch 1 1
    ∷ sends (key_at 9 5) 3
    ∷ plain
    ∷ fair
    ∷ polls_all
    ∷ held
    ∷ Control ReleaseConsumed
    ∷ Control (Pause (id 2 4))
    ∷ Control (Resume (id 2 4))
    ∷ Control (CloseLane (id 2 4))
    ∷ plain
    ∷ Control (Pause (id 1 5))
    ∷ posts k 10
    ∷ posts k 11
    ∷ Receive (TryRecvFrom (id 1 5))
    ∷ []

-- so many sends, the kinds by turns; the send before them leaves 13 places
some : ℕ → List Send
some n =
    take n
    (unsignalled 1 ∷ ordinary 2 ∷ unsignalled 3 ∷ ordinary 4 ∷ unsignalled 5 ∷ ordinary 6 ∷ unsignalled 7 ∷ ordinary 8 ∷ unsignalled 9 ∷ ordinary 10 ∷ unsignalled 11 ∷ ordinary 12
    ∷ unsignalled 13 ∷ ordinary 14 ∷ [])

-- all that these runs compute with
compute_miscounted : Unit {0}
unfolding compute compute_examples opening lent id k sends posts before some accepted handed ticks trace after_list same_key says_woken values into send_to taken_with call_by said_instead send_saying full_if send_keeps_place send_releases send_full_paused issued_unreleased register_unreleased
compute_miscounted = tt

-- ---- `FreePlaces`

-- one more than are free, as before the send: the one after 13 is refused
one_more : Said
one_more marks u x = free_places u x + 1

one_more_shut_out : FreePlaces (sends_say one_more) → ⊥
unfolding compute_miscounted one_more FreePlaces FreePlacesIn
one_more_shut_out h = untrue (sym ((h opening lent refl before k (ordinary 12) (some 13) (unsignalled 14) tt true 14 refl).taken_below (omega arith)))

-- two more: the one that is refused is not the last of so many
two_more : Said
two_more marks u x = free_places u x + 2

two_more_shut_out : FreePlaces (sends_say two_more) → ⊥
unfolding compute_miscounted two_more FreePlaces FreePlacesIn
two_more_shut_out h = untrue (sym ((h opening lent refl before k (ordinary 12) (some 13) (unsignalled 14) tt true 15 refl).taken_below (omega arith)))

-- one fewer: the one after 12 is accepted
one_less : Said
one_less marks u x = free_places u x - 1

one_less_shut_out : FreePlaces (sends_say one_less) → ⊥
unfolding compute_miscounted one_less FreePlaces FreePlacesIn
one_less_shut_out h = untrue (ap accepted ((h opening lent refl before k (ordinary 12) (some 12) (ordinary 13) tt true 12 refl).full_from (omega arith)))

-- the places with no item in them, released or not
ring_alone : Said
ring_alone marks u x = u.capacity - length (u.slot_of x).ring

ring_alone_shut_out : FreePlaces (sends_say ring_alone) → ⊥
unfolding compute_miscounted ring_alone FreePlaces FreePlacesIn
ring_alone_shut_out h = untrue (sym ((h opening lent refl before k (ordinary 12) (some 13) (ordinary 14) tt true 14 refl).taken_below (omega arith)))

-- 0 with every unsignalled send
none_unsignalled : Said
none_unsignalled marks u x = if marks (free_places u x) 0

none_unsignalled_shut_out : FreePlaces (sends_say none_unsignalled) → ⊥
unfolding compute_miscounted none_unsignalled FreePlaces FreePlacesIn
none_unsignalled_shut_out h = untrue (ap accepted ((h opening lent refl before k (unsignalled 12) [] (ordinary 13) tt false 0 refl).full_from (omega arith)))

-- the last place kept from sends of one kind: the 13th is refused, and then one of the other kind accepted
kept_from_unsignalled_shut_out : FreePlaces (keeps_last_place false) → ⊥
unfolding compute_miscounted FreePlaces FreePlacesIn
kept_from_unsignalled_shut_out h =
    untrue (ap accepted ((h opening lent refl before k (ordinary 12) (repeat 12 (ordinary 3) ++ (unsignalled 7 ∷ [])) (ordinary 8) tt true 13 refl).full_from (omega arith)))

kept_from_ordinary_shut_out : FreePlaces (keeps_last_place true) → ⊥
unfolding compute_miscounted FreePlaces FreePlacesIn
kept_from_ordinary_shut_out h =
    untrue (ap accepted ((h opening lent refl before k (unsignalled 12) (repeat 12 (unsignalled 3) ++ (ordinary 7 ∷ [])) (unsignalled 8) tt false 13 refl).full_from (omega arith)))

-- a refused send after which all credit is back: the one after it is accepted
refusal_releases_shut_out : FreePlaces refusal_releases → ⊥
unfolding compute_miscounted FreePlaces FreePlacesIn
refusal_releases_shut_out h = untrue (ap accepted ((h opening lent refl before k (ordinary 12) (some 14) (unsignalled 15) tt true 13 refl).full_from (omega arith)))

-- ---- `NotFullBefore`

-- a paused lane refused as full: the send said 13, and two more were accepted before the pause
paused_is_full_shut_out : NotFullBefore paused_is_full → ⊥
unfolding compute_miscounted NotFullBefore NotFullBeforeIn
paused_is_full_shut_out h =
    omega (arith, h opening lent refl calls tt k 13 (ends (sends k 3) (Taken false 13)) (sent (ordinary 3) false 13) (unsignalled 8) start since (ends held (Held 3) ∷ []) refl)
  where
    calls : List Call
    calls =
        registers
        ∷ registers
        ∷ registers
        ∷ Sender (DropSender (key_at 1 4))
        ∷ plain
        ∷ registers
        ∷ sends k 1
        ∷ posts k 2
        ∷ plain
        ∷ sends k 3
        ∷ sends k 4
        ∷ sends (key_at 0 4) 5
        ∷ batch 2 2
        ∷ sends (key_at 9 5) 6
        ∷ posts k 7
        ∷ Control (Pause (id 1 5))
        ∷ posts k 8
        ∷ held
        ∷ []

    start : List Tick
    start =
        ends registers (Registered (key_at 0 4))
        ∷ ends registers (Registered (key_at 1 4))
        ∷ ends registers (Registered (key_at 2 4))
        ∷ ends (Sender (DropSender (key_at 1 4))) Done
        ∷ ends plain Empty
        ∷ ends registers (Registered k)
        ∷ ends (sends k 1) (Taken true 15)
        ∷ ends (posts k 2) (Taken false 14)
        ∷ gives TryRecv k 1
        ∷ ends plain (Item 1 (id 1 5))
        ∷ []

    since : List Tick
    since =
        ends (sends k 4) (Taken false 12)
        ∷ ends (sends (key_at 0 4) 5) (Taken true 15)
        ∷ gives (TryRecvBatchInto 2 2) k 2
        ∷ gives (TryRecvBatchInto 2 2) k 3
        ∷ ends (batch 2 2) (Items 2)
        ∷ ends (sends (key_at 9 5) 6) (Refused NoSuchSender)
        ∷ ends (posts k 7) (Taken false 14)
        ∷ ends (Control (Pause (id 1 5))) Done
        ∷ []

-- a slot issued again without its last lane's credit: of 2 places one is missing
unreleased_shut_out : NotFullBefore new_lane_unreleased → ⊥
unfolding compute_miscounted NotFullBefore NotFullBeforeIn
unreleased_shut_out h =
    let two : 2 ≤ 1 = h small lent refl calls tt (key_at 0 5) 2 (ends registers (Registered (key_at 0 5))) (registered 9) (ordinary 3) start (ends (posts (key_at 0 5) 2) (Taken false 0) ∷ []) [] refl in
    omega (arith, two)
  where
    small : Opening
    small = record { capacity = 2; slots = 2; channel = 9; cursor = 18446744073709551615; generation = 4; number = 0 }

    calls : List Call
    calls =
        registers
        ∷ sends (key_at 0 4) 1
        ∷ plain
        ∷ Control (CloseLane (id 0 4))
        ∷ Sender (DropSender (key_at 0 4))
        ∷ registers
        ∷ posts (key_at 0 5) 2
        ∷ sends (key_at 0 5) 3
        ∷ []

    start : List Tick
    start =
        ends registers (Registered (key_at 0 4))
        ∷ ends (sends (key_at 0 4) 1) (Taken true 1)
        ∷ gives TryRecv (key_at 0 4) 1
        ∷ ends plain (Item 1 (id 0 4))
        ∷ ends (Control (CloseLane (id 0 4))) Done
        ∷ ends (Sender (DropSender (key_at 0 4))) Done
        ∷ []

-- ---- runs with little in them
tiny : Opening
tiny = record { capacity = 1; slots = 1; channel = 0; cursor = 0; generation = 0; number = 0 }

tiny_lent : Lent
tiny_lent = record { rings = 1; table = 536 }

lone : LaneKey
lone = key_at 0 0

two : Opening
two = record { capacity = 2; slots = 2; channel = 9; cursor = 0; generation = 0; number = 0 }

compute_tiny : Unit {0}
unfolding compute_miscounted tiny tiny_lent lone two
compute_tiny = tt

-- a new lane of one place, nothing received, nothing paused: it says 1, and the next send is refused
one_more_at_once : FreePlaces (sends_say one_more) → ⊥
unfolding compute_tiny one_more FreePlaces FreePlacesIn
one_more_at_once h =
    untrue (sym ((h tiny tiny_lent refl (Sender (RegisterSender 1) ∷ []) lone (ordinary 0) [] (unsignalled 0) tt true 1 refl).taken_below (omega arith)))

-- the same of `NotFullBefore`: nothing between, nothing after
one_more_full_at_once : NotFullBefore (sends_say one_more) → ⊥
unfolding compute_tiny one_more NotFullBefore NotFullBeforeIn
one_more_full_at_once h =
    let one : 1 ≤ 0 =
    h tiny tiny_lent refl (Sender (RegisterSender 1) ∷ sends lone 0 ∷ posts lone 0 ∷ []) tt lone 1 (ends (sends lone 0) (Taken true 1)) (sent (ordinary 0) true 1) (unsignalled 0)
    (ends (Sender (RegisterSender 1)) (Registered lone) ∷ []) [] [] refl in
    omega (arith, one)

-- a new lane of one place that takes none
none_taken : NotFullBefore (keeps_last_place true) → ⊥
unfolding compute_tiny NotFullBefore NotFullBeforeIn
none_taken h =
    let one : 1 ≤ 0 =
    h tiny tiny_lent refl (Sender (RegisterSender 1) ∷ sends lone 0 ∷ []) tt lone 1 (ends (Sender (RegisterSender 1)) (Registered lone)) (registered 1) (ordinary 0) [] [] [] refl in
    omega (arith, one)

-- a lane with one place free that is refused while paused, and takes the send after: what comes after the refusal, what other lanes take and what is refused
-- does not count
paused_then_taken : NotFullBefore paused_is_full → ⊥
unfolding compute_tiny NotFullBefore NotFullBeforeIn
paused_then_taken h =
    let one : 1 ≤ 0 =
    h two lent refl calls tt lone 1 (ends (posts lone 1) (Taken false 1)) (sent (unsignalled 1) false 1) (ordinary 2)
    (ends registers (Registered lone) ∷ ends registers (Registered (key_at 1 0)) ∷ [])
    (ends (sends (key_at 1 0) 3) (Taken true 1) ∷ ends (sends (key_at 0 9) 4) (Refused NoSuchSender) ∷ ends (Control (Pause (id 0 0))) Done ∷ [])
    (ends (Control (Resume (id 0 0))) Done ∷ ends (sends lone 5) (Taken false 0) ∷ []) refl in
    omega (arith, one)
  where
    calls : List Call
    calls =
        registers
        ∷ registers
        ∷ posts lone 1
        ∷ sends (key_at 1 0) 3
        ∷ sends (key_at 0 9) 4
        ∷ Control (Pause (id 0 0))
        ∷ sends lone 2
        ∷ Control (Resume (id 0 0))
        ∷ sends lone 5
        ∷ []

-- nor does what the lane took before the number was said: the send of 1, whose item is received and its credit back
taken_before : NotFullBefore paused_is_full → ⊥
unfolding compute_tiny NotFullBefore NotFullBeforeIn
taken_before h =
    omega (
      arith,
      h two lent refl (registers ∷ sends lone 1 ∷ plain ∷ plain ∷ sends lone 2 ∷ Control (Pause (id 0 0)) ∷ sends lone 3 ∷ []) tt lone 1
          (ends (sends lone 2) (Taken true 1)) (sent (ordinary 2) true 1) (ordinary 3)
          (ends registers (Registered lone) ∷ ends (sends lone 1) (Taken true 1) ∷ gives TryRecv lone 1 ∷ ends plain (Item 1 (id 0 0)) ∷ ends plain Empty ∷ [])
          (ends (Control (Pause (id 0 0))) Done ∷ []) [] refl,
    )

-- ---- other capacities: the largest, and one that is rounded up
large : Opening
large = record { capacity = 65536; slots = 8192; channel = 9; cursor = 0; generation = 0; number = 0 }

large_lent : Lent
large_lent = record { rings = 536870912; table = 197120 }

none_unsignalled_large : FreePlaces (sends_say none_unsignalled) → ⊥
unfolding compute_tiny large large_lent none_unsignalled FreePlaces FreePlacesIn
none_unsignalled_large h = untrue (ap accepted ((h large large_lent refl (registers ∷ []) lone (unsignalled 0) [] (ordinary 0) tt false 0 refl).full_from (omega arith)))

paused_large : NotFullBefore paused_is_full → ⊥
unfolding compute_tiny large large_lent NotFullBefore NotFullBeforeIn
paused_large h =
    let all : 65535 ≤ 0 =
    h large large_lent refl (registers ∷ sends lone 0 ∷ Control (Pause (id 0 0)) ∷ sends lone 1 ∷ []) tt lone 65535 (ends (sends lone 0) (Taken true 65535)) (sent (ordinary 0) true 65535)
    (ordinary 1) (ends registers (Registered lone) ∷ []) (ends (Control (Pause (id 0 0))) Done ∷ []) [] refl in
    omega (arith, all)

-- 3 places asked for are 4: the fourth send is refused
kept_rounded_up : NotFullBefore (keeps_last_place true) → ⊥
unfolding compute_tiny NotFullBefore NotFullBeforeIn
kept_rounded_up h =
    let four : 4 ≤ 3 =
    h record { capacity = 3; slots = 1; channel = 9; cursor = 0; generation = 0; number = 0 } lent refl (registers ∷ repeat 4 (sends lone 0)) tt lone 4 (ends registers (Registered lone)) (registered 9)
    (ordinary 0) [] (ends (sends lone 0) (Taken true 3) ∷ ends (sends lone 0) (Taken false 2) ∷ ends (sends lone 0) (Taken false 1) ∷ []) [] refl in
    omega (arith, four)
