-- The words of the claim that an opening number does nothing but tell ids, computed; and rules of which it does not hold (specs/ShutOut.antt), each by a computed
-- run with little in it and by one with much, that of Mistaken.antt.
-- Assumes nothing.
use Rattle.std.specs.Prelude.{◌≡◌, refl, Bool, true, false, List, [], ◌∷◌, ◌++◌, map, ℕ, suc, ◌+◌, eqb}
use Rattle.std.proofs.Common.{ap, sym, ◌∙◌, eqb-true, eq-eqb}
use mathlib.Mathlib.Logic.Function.Defs.{Injective, LeftInverse-Injective}
use Rattle.std.proofs.lemmas.Bool.{eqb-false}
use Rattle.model.specs.declared.Opening.{Opening}
use Rattle.model.specs.declared.SenderCall.TheVariants.{RegisterSender, TrySend, TrySendUnsignaled, DropSender}
use Rattle.model.specs.declared.ReceiveCall.TheVariants.{TryRecv, TryRecvFrom, TryRecvBatchInto, TryRecvBatchIntoWhile}
use Rattle.model.specs.declared.ControlCall.TheVariants.{Pause, Resume, CloseLane, ReleaseConsumed, CloseReceiver}
use Rattle.model.specs.declared.Call.{Call}
use Rattle.model.specs.declared.Call.TheVariants.{Sender, Receive, Control}
use Rattle.model.specs.declared.Refusal.TheVariants.{NoSuchLane}
use Rattle.model.specs.declared.Answer.TheVariants.{Done, Registered, Taken, Item, Items, Stopped, Empty, Disconnected, Held, Refused}
use Rattle.model.specs.Answers.{number, line}
use Rattle.model.specs.Lists.{if, total}
use Rattle.model.specs.Runs.{Rules, accepted, Tick, gives, ends, handed, ticks, trace, after_list}
use Rattle.model.specs.Receive.{written_to}
use Rattle.model.specs.Rules.{the_rules}
use Rattle.model.specs.Demand2.{HasRoom}
use Rattle.model.specs.Renumbered.{renumbered_opening, renumbered_id, renumbered_receive, renumbered_control, renumbered_call, renumbered_answer, renumbered_tick, NumberOnlyTellsIdsIn, NumberOnlyTellsIds}
use Rattle.model.specs.ShutOut.{call_by, send_refused, receive_of_front, counts_none, as_it_is, number_ignored, taking, receive_otherwise, control_otherwise, takes_ids, if_numbered, numbered_send_full, numbered_fair_front, numbered_held_zero, issued_numbered, register_numbered, generations_numbered, later_for_this, numbered_writes_nothing, output_by, opens_unnumbered}
use Rattle.model.specs.Examples.Pairs.{Reads}
use Rattle.model.specs.Examples.Example.{compute_examples, key_at, id_on, registers, plain, fair, batch, held, polls_all}
use Rattle.model.proofs.Examples.Calls.{compute}
use Rattle.model.proofs.Examples.FreePlaces.{untrue}
use Rattle.model.proofs.Examples.Mistaken.{tiny, tiny_lent, N, opening, lent, id, paused, sends, calls, after}

compute_renumbered : Unit {0}
unfolding compute compute_examples number line tiny tiny_lent opening lent id paused sends calls after accepted handed ticks trace renumbered_receive renumbered_control renumbered_call renumbered_answer renumbered_tick call_by send_refused receive_of_front counts_none as_it_is number_ignored taking receive_otherwise control_otherwise if_numbered issued_numbered register_numbered later_for_this
compute_renumbered = tt

-- ---- the words

-- 3 for 2, all else stays: slots, generations, items and counts of 2 too
opening_read :
    renumbered_opening suc record { capacity = 2; slots = 2; channel = 2; cursor = 2; generation = 2; number = 2 }
    ≡ record { capacity = 2; slots = 2; channel = 2; cursor = 2; generation = 2; number = 3 }
opening_read = refl

id_read : renumbered_id suc (id_on 2 2 2 2) ≡ id_on 2 3 2 2
unfolding compute_renumbered
id_read = refl

calls_read :
    Reads (renumbered_call suc)
    ((Receive (TryRecvFrom (id_on 2 2 2 2)), Receive (TryRecvFrom (id_on 2 3 2 2)))
    ∷ (Control (Pause (id_on 2 2 2 2)), Control (Pause (id_on 2 3 2 2)))
    ∷ (Control (Resume (id_on 2 2 2 2)), Control (Resume (id_on 2 3 2 2)))
    ∷ (Control (CloseLane (id_on 2 2 2 2)), Control (CloseLane (id_on 2 3 2 2)))
    ∷ [])
unfolding compute_renumbered
calls_read = refl

-- those that have no id
others : List Call
others =
    Sender (RegisterSender 2)
    ∷ Sender (TrySend (key_at 2 2) 2)
    ∷ Sender (TrySendUnsignaled (key_at 2 2) 2)
    ∷ Sender (DropSender (key_at 2 2))
    ∷ plain
    ∷ fair
    ∷ batch 2 2
    ∷ Receive (TryRecvBatchIntoWhile 2 2 2)
    ∷ Control ReleaseConsumed
    ∷ polls_all
    ∷ Control CloseReceiver
    ∷ held
    ∷ []

others_read : map (renumbered_call suc) others ≡ others
unfolding compute_renumbered others
others_read = refl

answers_read :
    Reads (renumbered_answer suc)
    ((Item 2 (id_on 2 2 2 2), Item 2 (id_on 2 3 2 2))
    ∷ (Done, Done)
    ∷ (Registered (key_at 2 2), Registered (key_at 2 2))
    ∷ (Taken true 2, Taken true 2)
    ∷ (Items 2, Items 2)
    ∷ (Stopped 2, Stopped 2)
    ∷ (Empty, Empty)
    ∷ (Disconnected, Disconnected)
    ∷ (Held 2, Held 2)
    ∷ (Refused NoSuchLane, Refused NoSuchLane)
    ∷ [])
unfolding compute_renumbered
answers_read = refl

-- both the call and the answer
ticks_read :
    Reads (renumbered_tick suc)
    ((ends (Receive (TryRecvFrom (id_on 2 2 2 2))) (Item 2 (id_on 2 2 2 2)), ends (Receive (TryRecvFrom (id_on 2 3 2 2))) (Item 2 (id_on 2 3 2 2)))
    ∷ (gives (TryRecvFrom (id_on 2 2 2 2)) (key_at 2 2) 2, gives (TryRecvFrom (id_on 2 3 2 2)) (key_at 2 2) 2)
    ∷ (gives TryRecv (key_at 2 2) 2, gives TryRecv (key_at 2 2) 2)
    ∷ [])
unfolding compute_renumbered
ticks_read = refl

-- ---- 0 and another number exchanged

exchange : ℕ → ℕ → ℕ
exchange n m = if (eqb m 0) n (if (eqb m n) 0 m)

exchange_twice : (n m : ℕ) → exchange n (exchange n m) ≡ m
unfolding exchange
exchange_twice n m = go (eqb m 0) refl (eqb m n) refl (eqb n 0) refl
  where
    go : (a : Bool) → eqb m 0 ≡ a → (b : Bool) → eqb m n ≡ b → (c : Bool) → eqb n 0 ≡ c → exchange n (if a n (if b 0 m)) ≡ m
    go true p b q true r = rw r (eqb-true n 0 r ∙ sym (eqb-true m 0 p))
    go true p b q false r = rw (r, eq-eqb n n refl) (sym (eqb-true m 0 p))
    go false p true q c r = sym (eqb-true m n q)
    go false p false q c r = rw (p, q)

exchange_injective : (n : ℕ) → Injective (exchange n)
exchange_injective n = LeftInverse-Injective (exchange n) (exchange n) (exchange_twice n)

-- ---- runs

-- 0 and n exchanged before a run, in its opening and calls; and after it, in all that happened
abbrev exchanged : (R : Rules) → Opening → R.Stores → ℕ → List Call → List Tick
exchanged R o lent n calls = trace R (R.opens (renumbered_opening (exchange n) o) lent).1 (map (renumbered_call (exchange n)) calls)

abbrev as_it_was : (R : Rules) → Opening → R.Stores → ℕ → List Call → List Tick
as_it_was R o lent n calls = map (renumbered_tick (exchange n)) (trace R (R.opens o lent).1 calls)

-- the sum of all numbers on the lines of a run's answers
unfoldable pub numbers_in : List Tick → ℕ
numbers_in [] = 0
numbers_in (gives r k v ∷ ts) = numbers_in ts
numbers_in (ends c a ∷ ts) = total (λ n. n) (line a []).numbers + numbers_in ts

shut_out : (R : Rules) (o : Opening) (lent : R.Stores) (n : ℕ) (calls : List Call) → (R.opens o lent).0 ≡ Done
    → eqb (numbers_in (exchanged R o lent n calls)) (numbers_in (as_it_was R o lent n calls)) ≡ false → NumberOnlyTellsIds R → ⊥
unfolding NumberOnlyTellsIds NumberOnlyTellsIdsIn
shut_out R o lent n calls d e h =
    eqb-false (numbers_in (exchanged R o lent n calls)) (numbers_in (as_it_was R o lent n calls)) e
    (ap numbers_in ((h (exchange n) (exchange_injective n) o lent).same_run d calls tt tt))

-- lane (0, 0) of `tiny`, whose number is 0
little : List Call
little = registers ∷ sends 0 0 5 ∷ plain ∷ sends 0 0 6 ∷ held ∷ Control (Pause (id_on 0 1 0 0)) ∷ Receive (TryRecvFrom (id_on 0 0 0 0)) ∷ []

-- ids of the first and of the next number too; then both lanes hold two items, and a fair receive takes of each
much : List Call
much =
    calls N
    ++ (Control (Resume (paused 0))
    ∷ Control (Resume (paused (suc N)))
    ∷ sends 0 4 20
    ∷ Control (Resume (paused N))
    ∷ fair
    ∷ fair
    ∷ held
    ∷ Receive (TryRecvFrom (paused N))
    ∷ after)

compute_numbers : Unit {0}
unfolding compute_renumbered exchange numbers_in little much
compute_numbers = tt

-- what `little` comes to with number 1, by document 01's rules: the run with number 0, renumbered
numbered_one : List Tick
numbered_one =
    ends registers (Registered (key_at 0 0))
    ∷ ends (sends 0 0 5) (Taken true 0)
    ∷ gives TryRecv (key_at 0 0) 5
    ∷ ends plain (Item 5 (id_on 0 1 0 0))
    ∷ ends (sends 0 0 6) (Taken false 0)
    ∷ ends held (Held 1)
    ∷ ends (Control (Pause (id_on 0 0 0 0))) (Refused NoSuchLane)
    ∷ gives (TryRecvFrom (id_on 0 1 0 0)) (key_at 0 0) 6
    ∷ ends (Receive (TryRecvFrom (id_on 0 1 0 0))) (Item 6 (id_on 0 1 0 0))
    ∷ []

little_numbered : exchanged the_rules tiny tiny_lent 1 little ≡ numbered_one
unfolding compute_numbers numbered_one
little_numbered = refl

little_renumbered : as_it_was the_rules tiny tiny_lent 1 little ≡ numbered_one
unfolding compute_numbers numbered_one
little_renumbered = refl

-- ---- rules in which the number does something else

send_full_little : NumberOnlyTellsIds numbered_send_full → ⊥
unfolding compute_numbers
send_full_little = shut_out numbered_send_full tiny tiny_lent 1 little refl refl

send_full_much : NumberOnlyTellsIds numbered_send_full → ⊥
unfolding compute_numbers
send_full_much = shut_out numbered_send_full opening lent N much refl refl

-- two lanes, as `tiny` has one
fair_front_little : NumberOnlyTellsIds numbered_fair_front → ⊥
unfolding compute_numbers
fair_front_little =
    shut_out numbered_fair_front record { capacity = 2; slots = 2; channel = 0; cursor = 0; generation = 0; number = 0 } record { rings = 4; table = 560 } 1
    (registers ∷ registers ∷ sends 0 0 5 ∷ sends 0 0 6 ∷ sends 1 0 8 ∷ fair ∷ fair ∷ []) refl refl

fair_front_much : NumberOnlyTellsIds numbered_fair_front → ⊥
unfolding compute_numbers
fair_front_much = shut_out numbered_fair_front opening lent N much refl refl

held_zero_little : NumberOnlyTellsIds numbered_held_zero → ⊥
unfolding compute_numbers
held_zero_little = shut_out numbered_held_zero tiny tiny_lent 1 little refl refl

held_zero_much : NumberOnlyTellsIds numbered_held_zero → ⊥
unfolding compute_numbers
held_zero_much = shut_out numbered_held_zero opening lent N much refl refl

generations_little : NumberOnlyTellsIds generations_numbered → ⊥
unfolding compute_numbers
generations_little = shut_out generations_numbered tiny tiny_lent 1 little refl refl

generations_much : NumberOnlyTellsIds generations_numbered → ⊥
unfolding compute_numbers
generations_much = shut_out generations_numbered opening lent N much refl refl

later_little : NumberOnlyTellsIds (takes_ids as_it_is later_for_this as_it_is as_it_is) → ⊥
unfolding compute_numbers
later_little = shut_out (takes_ids as_it_is later_for_this as_it_is as_it_is) tiny tiny_lent 1 little refl refl

later_much : NumberOnlyTellsIds (takes_ids as_it_is as_it_is later_for_this as_it_is) → ⊥
unfolding compute_numbers
later_much = shut_out (takes_ids as_it_is as_it_is later_for_this as_it_is) opening lent N much refl refl

-- the first of the words that a batch leaves
unfoldable pub first_word : List ℕ → ℕ
first_word [] = 0
first_word (v ∷ vs) = v

-- a batch of one item after these calls, into two words
abbrev first_written : (R : Rules) → R.State → List Call → ℕ
first_written R s calls = first_word (R.output (after_list R s calls) (TryRecvBatchInto 1 2) (9 ∷ 9 ∷ []))

output_shut_out : (R : Rules) (o : Opening) (lent : R.Stores) (n : ℕ) (calls : List Call) → (R.opens o lent).0 ≡ Done
    → eqb (first_written R (R.opens (renumbered_opening (exchange n) o) lent).1 (map (renumbered_call (exchange n)) calls)) (first_written R (R.opens o lent).1 calls) ≡ false
    → NumberOnlyTellsIds R → ⊥
unfolding NumberOnlyTellsIds NumberOnlyTellsIdsIn HasRoom renumbered_receive
output_shut_out R o lent n calls d e h =
    eqb-false (first_written R (R.opens (renumbered_opening (exchange n) o) lent).1 (map (renumbered_call (exchange n)) calls)) (first_written R (R.opens o lent).1 calls) e
    (ap first_word ((h (exchange n) (exchange_injective n) o lent).same_output d calls tt tt (TryRecvBatchInto 1 2) (9 ∷ 9 ∷ []) refl))

writes_little : NumberOnlyTellsIds numbered_writes_nothing → ⊥
unfolding compute_numbers after_list output_by written_to first_word
writes_little = output_shut_out numbered_writes_nothing tiny tiny_lent 1 (registers ∷ sends 0 0 5 ∷ []) refl refl

writes_much : NumberOnlyTellsIds numbered_writes_nothing → ⊥
unfolding compute_numbers after_list output_by written_to first_word
writes_much = output_shut_out numbered_writes_nothing opening lent N much refl refl

opens_little : NumberOnlyTellsIds opens_unnumbered → ⊥
unfolding compute_numbers NumberOnlyTellsIds NumberOnlyTellsIdsIn
opens_little h = untrue (sym (ap accepted (h (exchange 1) (exchange_injective 1) tiny tiny_lent).same_opening))

opens_much : NumberOnlyTellsIds opens_unnumbered → ⊥
unfolding compute_numbers NumberOnlyTellsIds NumberOnlyTellsIdsIn
opens_much h = untrue (ap accepted (h (exchange N) (exchange_injective N) opening lent).same_opening)
