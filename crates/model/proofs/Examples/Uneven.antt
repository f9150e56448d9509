-- Rules of which `EqualTurns` does not hold (specs/ShutOut.antt), each by a computed run.
-- Assumes nothing.
use Rattle.std.specs.Prelude.{◌≡◌, refl, List, [], ◌∷◌, ◌++◌, ℕ, ◌≤◌, take, drop}
use Rattle.std.proofs.Common.{ap, sym, ◌∙◌, arith, take-append-drop}
use Rattle.model.specs.declared.LaneId.{LaneId}
use Rattle.model.specs.declared.Opening.{Opening}
use Rattle.model.specs.declared.SenderCall.TheVariants.{TrySend, TrySendUnsignaled, DropSender}
use Rattle.model.specs.declared.ReceiveCall.TheVariants.{TryRecvFrom}
use Rattle.model.specs.declared.ControlCall.TheVariants.{Pause, Resume, CloseLane}
use Rattle.model.specs.declared.Call.{Call}
use Rattle.model.specs.declared.Call.TheVariants.{Sender, Receive, Control}
use Rattle.model.specs.Runs.{Tick, trace}
use Rattle.model.specs.EqualTurns.{EqualTurnsIn, EqualTurns}
use Rattle.model.specs.ShutOut.{call_by, output_by, receive_of_front, fair_serves_front_only, front_to_back, receive_turns_round, targeted_turns_round}
use Rattle.model.specs.Examples.Example.{repeat, key_at, id_on, registers, sends, plain, fair, batch, targeted, polls_all, held}
use Rattle.model.proofs.Examples.EqualTurns.{releases, opening, lent, four_each, compute_runs}

-- what happens, cut in three: n things, m things, and the rest
cut : (n m : ℕ) (ts : List Tick) → ts ≡ take n ts ++ (take m (drop n ts) ++ drop m (drop n ts))
cut n m ts = sym (take-append-drop n ts) ∙ ap (λ (us : List Tick). take n ts ++ us) (sym (take-append-drop m (drop n ts)))

-- "a fair receive that serves only the front lane": lane 0 gives two items, and lane 1 none
front_only_uneven : EqualTurns fair_serves_front_only → ⊥
unfolding compute_runs EqualTurns EqualTurnsIn call_by output_by receive_of_front
front_only_uneven h =
    let two : 2 ≤ 1 = (h opening lent refl calls tt (take 11 run) (take 3 (drop 11 run)) (drop 3 (drop 11 run)) (cut 11 3 run) (key_at 0 0) (key_at 1 0) refl refl refl refl).first_most in
    omega (arith, two)
  where
    calls : List Call
    calls = registers ∷ registers ∷ registers ∷ four_each ++ (fair ∷ fair ∷ [])

    run : List Tick
    run = trace fair_serves_front_only (fair_serves_front_only.opens opening lent).1 calls

-- a targeted receive of lane 2 that sends lane 1, which is in front, to the back
turned_round_uneven : EqualTurns targeted_turns_round → ⊥
unfolding compute_runs EqualTurns EqualTurnsIn call_by output_by front_to_back receive_turns_round
turned_round_uneven h =
    let two : 2 ≤ 1 = (h opening lent refl calls tt (take 12 run) (take 5 (drop 12 run)) (drop 5 (drop 12 run)) (cut 12 5 run) (key_at 0 0) (key_at 1 0) refl refl refl refl).first_most in
    omega (arith, two)
  where
    calls : List Call
    calls = registers ∷ registers ∷ registers ∷ four_each ++ (sends 2 7 ∷ fair ∷ targeted 2 ∷ fair ∷ [])

    run : List Tick
    run = trace targeted_turns_round (targeted_turns_round.opens opening lent).1 calls

-- the same in a run with much in it, so that a claim about fewer runs would not be broken here: another opening; lanes of slots 2 and 0, of generations 4 and 5;
-- before the stretch items of both by fair and targeted receives, plain items, pauses and a close; after it a pause and a plain item. The stretch begins inside a
-- call and ends with the last item of its lane. In it are one of each call that may be, sends to both lanes, items that were not ordinarily sent, all three
-- senders' drops, a third lane's items by a targeted and by a fair receive, and a hundred calls more
front_only_uneven_amid_calls : EqualTurns fair_serves_front_only → ⊥
unfolding compute_runs EqualTurns EqualTurnsIn call_by output_by receive_of_front
front_only_uneven_amid_calls h =
    let three : 3 ≤ 1 = (h later lent refl calls tt (take 30 run) (take 128 (drop 30 run)) (drop 128 (drop 30 run)) (cut 30 128 run) (key_at 2 4) (key_at 0 5) refl refl refl refl).first_most in
    omega (arith, three)
  where
    later : Opening
    later = record { capacity = 16; slots = 8; channel = 9; cursor = 3; generation = 4; number = 0 }

    id : ℕ → ℕ → LaneId
    id x g = id_on 9 0 x g

    before : List Call
    before =
        registers
        ∷ registers
        ∷ registers
        ∷ registers
        ∷ Sender (DropSender (key_at 3 4))
        ∷ Control (CloseLane (id 3 4))
        ∷ Sender (DropSender (key_at 0 4))
        ∷ plain
        ∷ registers
        ∷ Sender (TrySend (key_at 0 5) 6)
        ∷ fair
        ∷ plain
        ∷ Sender (TrySend (key_at 1 4) 7)
        ∷ plain
        ∷ Sender (TrySend (key_at 1 4) 7)
        ∷ Sender (TrySend (key_at 2 4) 5)
        ∷ Sender (TrySendUnsignaled (key_at 2 4) 5)
        ∷ Sender (TrySend (key_at 2 4) 5)
        ∷ Control (Pause (id 2 4))
        ∷ Control (Resume (id 2 4))
        ∷ polls_all
        ∷ Sender (TrySend (key_at 0 5) 6)
        ∷ Sender (TrySendUnsignaled (key_at 0 5) 6)
        ∷ Control (Pause (id 0 5))
        ∷ Control (Resume (id 0 5))
        ∷ held
        ∷ releases
        -- the stretch begins between this one's item and its end
        ∷ Receive (TryRecvFrom (id 2 4))
        ∷ []

    stretch : List Call
    stretch =
        held
        ∷ registers
        ∷ Sender (TrySend (key_at 3 5) 8)
        ∷ Sender (TrySend (key_at 0 5) 6)
        ∷ Sender (TrySendUnsignaled (key_at 0 5) 6)
        ∷ Sender (TrySend (key_at 2 4) 5)
        ∷ Sender (DropSender (key_at 0 5))
        ∷ Sender (DropSender (key_at 2 4))
        ∷ Receive (TryRecvFrom (id 3 5))
        ∷ Sender (DropSender (key_at 3 5))
        ∷ batch 3 2
        ∷ Sender (DropSender (key_at 2 4))
        ∷ Control (Pause (id 3 5))
        ∷ Control (Resume (id 3 5))
        ∷ Control (CloseLane (id 3 5))
        ∷ Receive (TryRecvFrom (id 3 5))
        ∷ releases
        ∷ polls_all
        ∷ batch 0 2
        ∷ repeat 100 held
        ++ (fair
        ∷ fair
        ∷ fair
        -- and ends with this one's item
        ∷ fair
        ∷ [])

    after : List Call
    after = Control (Pause (id 0 5)) ∷ plain ∷ Control (Resume (id 0 5)) ∷ plain ∷ []

    calls : List Call
    calls = before ++ (stretch ++ after)

    run : List Tick
    run = trace fair_serves_front_only (fair_serves_front_only.opens later lent).1 calls
