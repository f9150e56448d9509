-- The words of the claims on free places, computed.
-- Assumes nothing.
use Rattle.std.specs.Prelude.{◌≡◌, refl, Bool, true, false, List, [], ◌∷◌, map, ℕ}
use Rattle.std.proofs.Common.{sym, ap, arith}
use Rattle.model.specs.declared.SenderCall.TheVariants.{TrySend, TrySendUnsignaled}
use Rattle.model.specs.declared.Call.{Call}
use Rattle.model.specs.declared.Call.TheVariants.{Sender}
use Rattle.model.specs.declared.Refusal.TheVariants.{NoSuchSender, Full}
use Rattle.model.specs.declared.Answer.{Answer}
use Rattle.model.specs.declared.Answer.TheVariants.{Done, Registered, Taken, Item, Items, Stopped, Empty, Disconnected, Held, Refused}
use Rattle.model.specs.Lists.{if}
use Rattle.model.specs.Runs.{accepted, answers, after_list}
use Rattle.model.specs.Opening.{opened_state}
use Rattle.model.specs.Rules.{the_rules}
use Rattle.model.specs.FreePlaces.{ordinary, unsignalled, send_to, taken_with, TakesSoMany}
use Rattle.model.specs.Examples.Pairs.{Reads}
use Rattle.model.specs.Examples.Example.{compute_examples, key_at, id_at, registers, sends, sends_unsignalled, plain, batch, pauses}
use Rattle.model.proofs.Examples.Calls.{compute}

unfoldable pub untrue : true ≡ false → ⊥
untrue e = let z : ◌≡◌ {A = ℕ} 1 0 = ap (λ (b : Bool). if b 1 0) e in omega (arith, z)

-- a send of either kind, to the lane with the key
sends_read : Reads (send_to (key_at 3 8)) ((ordinary 5, Sender (TrySend (key_at 3 8) 5)) ∷ (unsignalled 6, Sender (TrySendUnsignaled (key_at 3 8) 6)) ∷ [])
unfolding send_to
sends_read = refl

-- only an accepted send's answer, with just this number
taken_read :
    Reads (taken_with 2)
    ((Taken true 2, true)
    ∷ (Taken false 2, true)
    ∷ (Taken true 1, false)
    ∷ (Taken false 3, false)
    ∷ (Done, false)
    ∷ (Registered (key_at 2 2), false)
    ∷ (Item 2 (id_at 2 2), false)
    ∷ (Items 2, false)
    ∷ (Stopped 2, false)
    ∷ (Empty, false)
    ∷ (Disconnected, false)
    ∷ (Held 2, false)
    ∷ (Refused Full, false)
    ∷ (Refused NoSuchSender, false)
    ∷ [])
unfolding compute_examples taken_with
taken_read = refl

-- four places; what six sends of both kinds answer after these calls
six_more : List Call
six_more = map (send_to (key_at 0 0)) (unsignalled 5 ∷ ordinary 6 ∷ ordinary 7 ∷ unsignalled 8 ∷ ordinary 9 ∷ unsignalled 10 ∷ [])

answers_after : List Call → List Answer
answers_after calls =
    let s = after_list the_rules (opened_state record { capacity = 4; slots = 2; channel = 7; cursor = 0; generation = 0; number = 0 }) (registers ∷ registers ∷ calls) in answers the_rules s six_more

so_many_read :
    Reads answers_after
    (([], Taken false 3 ∷ Taken true 2 ∷ Taken false 1 ∷ Taken false 0 ∷ Refused Full ∷ Refused Full ∷ [])
    -- items in the ring, of both kinds
    ∷ (sends 0 1 ∷ sends_unsignalled 0 2 ∷ [], Taken false 1 ∷ Taken false 0 ∷ Refused Full ∷ Refused Full ∷ Refused Full ∷ Refused Full ∷ [])
    -- items taken whose credit is not back
    ∷ (sends 0 1 ∷ sends 0 2 ∷ plain ∷ plain ∷ [], Taken false 1 ∷ Taken false 0 ∷ Refused Full ∷ Refused Full ∷ Refused Full ∷ Refused Full ∷ [])
    -- and where it is: by a batch, by a pause
    ∷ (sends 0 1 ∷ sends 0 2 ∷ batch 1 1 ∷ [], Taken false 2 ∷ Taken false 1 ∷ Taken false 0 ∷ Refused Full ∷ Refused Full ∷ Refused Full ∷ [])
    ∷ (sends 0 1 ∷ sends 0 2 ∷ plain ∷ pauses 0 ∷ [], Taken false 2 ∷ Taken false 1 ∷ Taken false 0 ∷ Refused Full ∷ Refused Full ∷ Refused Full ∷ [])
    -- another lane's items take no place
    ∷ (sends 1 1 ∷ sends 1 2 ∷ plain ∷ [], Taken false 3 ∷ Taken true 2 ∷ Taken false 1 ∷ Taken false 0 ∷ Refused Full ∷ Refused Full ∷ [])
    ∷ [])
unfolding compute compute_examples answers after_list send_to six_more answers_after
so_many_read = refl

-- what is claimed of one answer, where the send before said 3: another number, no send's answer, a fourth that is accepted, a tenth
other_number : TakesSoMany 3 0 (Taken true 1) → ⊥
unfolding taken_with
other_number h = untrue (sym (h.taken_below (omega arith)))

no_send : TakesSoMany 3 1 Done → ⊥
unfolding taken_with
no_send h = untrue (sym (h.taken_below (omega arith)))

fourth_accepted : TakesSoMany 3 3 (Taken true 0) → ⊥
unfolding accepted
fourth_accepted h = untrue (ap accepted (h.full_from (omega arith)))

tenth_accepted : TakesSoMany 3 9 (Taken true 0) → ⊥
unfolding accepted
tenth_accepted h = untrue (ap accepted (h.full_from (omega arith)))

-- and of the largest number: the last place, and the one after it
last_refused : TakesSoMany 65535 65534 (Refused Full) → ⊥
unfolding taken_with
last_refused h = untrue (sym (h.taken_below (omega arith)))

after_all_accepted : TakesSoMany 65535 65535 (Taken true 0) → ⊥
unfolding accepted
after_all_accepted h = untrue (ap accepted (h.full_from (omega arith)))
