-- The words of the claims on lane ids, and what the rules answer to ids of this and of another opening, computed.
-- Assumes nothing.
use Rattle.std.specs.Prelude.{◌≡◌, refl, true, false, List, [], ◌∷◌, ℕ, eqb}
use Rattle.std.proofs.Common.{ap, sym, ◌∙◌, subst, arith}
use Rattle.model.specs.declared.LaneId.{LaneId}
use Rattle.model.specs.declared.Opening.{Opening}
use Rattle.model.specs.declared.ReceiveCall.TheVariants.{TryRecvFrom}
use Rattle.model.specs.declared.ControlCall.TheVariants.{Pause, Resume, CloseLane, CloseReceiver}
use Rattle.model.specs.declared.Call.{Call}
use Rattle.model.specs.declared.Call.TheVariants.{Receive, Control}
use Rattle.model.specs.declared.Refusal.TheVariants.{ReceiverClosed, NoSuchLane}
use Rattle.model.specs.declared.Answer.{Answer}
use Rattle.model.specs.declared.Answer.TheVariants.{Done, Taken, Item, Refused}
use Rattle.model.specs.declared.Refusal.{Refusal}
use Rattle.model.specs.Answers.{bit, number}
use Rattle.model.specs.Lists.{either}
use Rattle.model.specs.State.{State, vacant, has_lane_id}
use Rattle.model.specs.Changes.{put, new_lane, with_open, retired}
use Rattle.model.specs.Opening.{opened_state, opening_outcome}
use Rattle.model.specs.Rules.{the_rules}
use Rattle.model.specs.Runs.{accepted, answers}
use Rattle.model.specs.Simulation.{numbers_of_id, numbers_of_call}
use Rattle.model.specs.LaneIds.{AllAgree, EqualExactly, NamesLane, NamesNoLane, ByLaneId, targets, pauses, resumes, closes, RefusedById, receiver_closed, no_such_lane}
use Rattle.model.specs.Examples.Pairs.{Reads}
use Rattle.model.specs.Examples.Example.{compute_examples, repeat, id_on, registers, sends, plain, fair, lane}
use Rattle.model.proofs.Examples.Calls.{compute}
use Rattle.model.proofs.Examples.FreePlaces.{untrue}

-- channel 7 with this opening number
opening : ℕ → Opening
opening n = record { capacity = 4; slots = 3; channel = 7; cursor = 0; generation = 0; number = n }

-- ---- which ids name a lane

-- lanes (0, 0) and (1, 3) are registered, and (2, 5) is closed
lanes : State
lanes = put 2 (retired (new_lane 5 vacant)) (put 1 (new_lane 3 vacant) (put 0 (new_lane 0 vacant) (opened_state (opening 2))))

compute_lanes : Unit {0}
unfolding compute compute_examples opening lanes
compute_lanes = tt

known_read :
    Reads (has_lane_id lanes)
    ((id_on 7 2 0 0, true)
    ∷ (id_on 7 2 1 3, true)
    -- another slot, another generation, a closed lane, a slot that was never issued
    ∷ (id_on 7 2 1 0, false)
    ∷ (id_on 7 2 0 3, false)
    ∷ (id_on 7 2 2 5, false)
    ∷ (id_on 7 2 3 0, false)
    -- another number, another channel, the two exchanged
    ∷ (id_on 7 1 0 0, false)
    ∷ (id_on 7 3 1 3, false)
    ∷ (id_on 7 0 0 0, false)
    ∷ (id_on 8 2 0 0, false)
    ∷ (id_on 2 7 1 3, false)
    ∷ [])
unfolding compute_lanes
known_read = refl

named : NamesLane lanes (id_on 7 2 1 3)
unfolding compute_lanes
named = record { slot = 1; registered = refl; same = refl }

other_number : NamesLane lanes (id_on 7 1 1 3) → ⊥
unfolding compute_lanes
other_number n = omega (arith, ap (λ (i : LaneId). i.channel.opening) n.same)

other_channel : NamesLane lanes (id_on 8 2 1 3) → ⊥
unfolding compute_lanes
other_channel n = omega (arith, ap (λ (i : LaneId). i.channel.id) n.same)

closed_lane : NamesLane lanes (id_on 7 2 2 5) → ⊥
unfolding compute_lanes
closed_lane n = omega (arith, ap bit n.registered, ap (λ (i : LaneId). bit (lanes.slot_of i.key.slot).registered) n.same)

-- the same two numbers, as channel and number of one id and as number and channel of the other
exchanged : AllAgree (id_on 7 2 1 3) (id_on 2 7 1 3) → ⊥
unfolding compute_lanes
exchanged a = omega (arith, a.opening)

-- so the two ids are not equal; and two ids with the same numbers are
exchanged_differ : EqualExactly → id_on 7 2 1 3 ≡ id_on 2 7 1 3 → ⊥
exchanged_differ t e = exchanged ((t _ _).0 e)

same_numbers : EqualExactly → {i j : LaneId} → numbers_of_id i ≡ numbers_of_id j → i ≡ j
unfolding numbers_of_id
same_numbers t e = (t _ _).1 (record { channel = cc; opening = cc; slot = cc; generation = cc })

-- ---- refusal 13

-- a call by id is given the id's four numbers
by_four_numbers : {i : LaneId} {c : Call} → ByLaneId i c → numbers_of_call c ≡ numbers_of_id i
unfolding numbers_of_call
by_four_numbers targets = refl
by_four_numbers pauses = refl
by_four_numbers resumes = refl
by_four_numbers closes = refl

pub not_accepted : {a : Answer} → RefusedById a → accepted a ≡ false
unfolding accepted
not_accepted receiver_closed = refl
not_accepted no_such_lane = refl

-- by 6 or 13, and by no other refusal
six_or_thirteen : {r : Refusal} → RefusedById (Refused r) → either (eqb (number r) 6) (eqb (number r) 13) ≡ true
unfolding number
six_or_thirteen receiver_closed = refl
six_or_thirteen no_such_lane = refl

-- 13 of an id that no lane has; of one that a lane has, or where the receiver is closed, not
refused_of : NamesNoLane lanes (Control (Pause (id_on 7 1 1 3)))
unfolding compute_lanes
refused_of = record { id = id_on 7 1 1 3; by_id = pauses; is_open = refl; no_lane = other_number }

same_id : {i j : LaneId} {c : Call} → ByLaneId i c → ByLaneId j c → i ≡ j
unfolding numbers_of_id
same_id {i} {j} a b =
    let e = sym (by_four_numbers a) ∙ by_four_numbers b in
    let p : i.channel.id ≡ j.channel.id = cc in
    let q : i.channel.opening ≡ j.channel.opening = cc in
    let r : i.key.slot ≡ j.key.slot = cc in
    let s : i.key.generation ≡ j.key.generation = cc in
    λ t. record { channel = record { id = p t; opening = q t }; key = record { slot = r t; generation = s t } }

pub not_of_a_lane : {s : State} {i : LaneId} {c : Call} → NamesLane s i → ByLaneId i c → NamesNoLane s c → ⊥
not_of_a_lane {s} l b n = n.no_lane (subst (NamesLane s) (same_id b n.by_id) l)

not_after_close : (c : Call) → NamesNoLane (with_open false lanes) c → ⊥
unfolding compute_lanes
not_after_close c n = untrue (sym n.is_open)

-- ---- openings of one channel

-- any number is taken
any_number :
    Reads (λ n. (opening_outcome (opening n) (record { rings = 12; table = 584 })).1.0)
    ((0, Done) ∷ (1, Done) ∷ (4294967296, Done) ∷ (18446744073709551615, Done) ∷ [])
unfolding compute_lanes
any_number = refl

-- the four calls on lane (0, 0), with this channel and opening number
four : ℕ → ℕ → List Call
four c n = Receive (TryRecvFrom (id_on c n 0 0)) ∷ Control (Pause (id_on c n 0 0)) ∷ Control (Resume (id_on c n 0 0)) ∷ Control (CloseLane (id_on c n 0 0)) ∷ []

-- what these calls answer from an opening on, after its registration and a send; by the key that every opening's first lane has, the send is taken in each
said_in : ℕ × List Call → List Answer
said_in a = answers the_rules (opened_state (opening a.0)) (registers ∷ sends 0 5 ∷ a.1)

first : List Answer → List Answer
first l = lane 0 0 ∷ Taken true 3 ∷ l

openings_read :
    Reads said_in
    (((1, four 7 1), first (Item 5 (id_on 7 1 0 0) ∷ Done ∷ Done ∷ Done ∷ []))
    -- "an id saved for the earlier patient"
    ∷ ((2, four 7 1), first (repeat 4 (Refused NoSuchLane)))
    ∷ ((2, four 7 2), first (Item 5 (id_on 7 2 0 0) ∷ Done ∷ Done ∷ Done ∷ []))
    ∷ ((2, four 8 2), first (repeat 4 (Refused NoSuchLane)))
    -- the first and the last number
    ∷ ((0, four 7 0), first (Item 5 (id_on 7 0 0 0) ∷ Done ∷ Done ∷ Done ∷ []))
    ∷ ((0, four 7 18446744073709551615), first (repeat 4 (Refused NoSuchLane)))
    ∷ ((18446744073709551615, four 7 0), first (repeat 4 (Refused NoSuchLane)))
    ∷ ((18446744073709551615, four 7 18446744073709551615), first (Item 5 (id_on 7 18446744073709551615 0 0) ∷ Done ∷ Done ∷ Done ∷ []))
    -- "receiver closed" comes first
    ∷ ((2, Control CloseReceiver ∷ four 7 1), first (Done ∷ repeat 4 (Refused ReceiverClosed)))
    -- the id of each single receive's item
    ∷ ((2, plain ∷ []), first (Item 5 (id_on 7 2 0 0) ∷ []))
    ∷ ((2, fair ∷ []), first (Item 5 (id_on 7 2 0 0) ∷ []))
    ∷ [])
unfolding compute_lanes answers four said_in first
openings_read = refl
