-- The words of crate `model`'s claims on keys, on one of each kind of answer, computed; and a run in which slots are issued again. Each line is a case and what is expected of it.
-- Assumes nothing.
use Rattle.std.specs.Prelude.{◌≡◌, refl, Bool, true, false, List, [], ◌∷◌, ℕ}
use Rattle.model.specs.declared.LaneKey.{LaneKey}
use Rattle.model.specs.declared.LaneId.{LaneId}
use Rattle.model.specs.declared.SenderCall.TheVariants.{RegisterSender, TrySend, DropSender}
use Rattle.model.specs.declared.ReceiveCall.TheVariants.{TryRecv, TryRecvBatchInto, TryRecvBatchIntoWhile}
use Rattle.model.specs.declared.ControlCall.TheVariants.{CountHeld}
use Rattle.model.specs.declared.Call.{Call}
use Rattle.model.specs.declared.Call.TheVariants.{Sender, Receive, Control}
use Rattle.model.specs.declared.Refusal.TheVariants.{NoFreeSlot}
use Rattle.model.specs.declared.Answer.TheVariants.{Done, Registered, Taken, Item, Items, Stopped, Empty, Disconnected, Held, Refused}
use Rattle.model.specs.Runs.{accepted, Tick, gives, ends, handed, ticks, trace, after_list, same_key, count_ticks}
use Rattle.model.specs.Opening.{opened_state}
use Rattle.model.specs.Rules.{the_rules}
use Rattle.model.specs.Ledger.{at_opening, change_lane, add_item, remove_oldest, set_paused, set_closed, set_dropped, add_registered, apply_call, note, ledger_after}
use Rattle.model.specs.Keys.{registers_as, answers_key_that, answers_key, answers_slot}
use Rattle.model.specs.Examples.Pairs.{Reads}
use Rattle.model.proofs.Examples.Calls.{compute}

key : ℕ → ℕ → LaneKey
key x g = record { slot = x; generation = g }

id : ℕ → LaneId
id x = record { channel = record { id = 7; opening = 0 }; key = key x 0 }

registers : Call
registers = Sender (RegisterSender 9)

drops : ℕ → ℕ → Call
drops x g = Sender (DropSender (key x g))

plain : Call
plain = Receive TryRecv

compute_keys : Unit {0}
unfolding compute key id registers drops plain accepted handed ticks trace after_list same_key count_ticks at_opening change_lane add_item remove_oldest set_paused set_closed set_dropped add_registered apply_call note ledger_after registers_as answers_key_that
compute_keys = tt

-- whether key (1, 2) is answered, and whether a key of slot 1 is
answers_read :
    Reads {B = Bool × Bool} (λ t. (answers_key (key 1 2) t, answers_slot 1 t))
    ((ends registers (Registered (key 1 2)), (true, true))
    ∷ (ends registers (Registered (key 1 3)), (false, true))
    ∷ (ends registers (Registered (key 2 2)), (false, false))
    ∷ (ends registers (Refused NoFreeSlot), (false, false))
    ∷ (ends (Sender (TrySend (key 1 2) 5)) (Taken true 3), (false, false))
    ∷ (ends (drops 1 2) Done, (false, false))
    ∷ (ends plain (Item 5 (id 1)), (false, false))
    ∷ (ends plain Empty, (false, false))
    ∷ (ends plain Disconnected, (false, false))
    ∷ (ends (Receive (TryRecvBatchInto 1 1)) (Items 1), (false, false))
    ∷ (ends (Receive (TryRecvBatchIntoWhile 1 5 1)) (Stopped 0), (false, false))
    ∷ (ends (Control CountHeld) (Held 1), (false, false))
    ∷ (gives TryRecv (key 1 2) 5, (false, false))
    ∷ [])
unfolding compute_keys
answers_read = refl

-- Three slots, first generation 4; slots 0 and 1 are registered, 0 is retired, issued again and retired again, and issued a third time.
calls : List Call
calls = registers ∷ registers ∷ drops 0 4 ∷ plain ∷ registers ∷ drops 0 5 ∷ plain ∷ registers ∷ []

run : List Tick
run = trace the_rules (opened_state record { capacity = 4; slots = 3; channel = 7; cursor = 0; generation = 4; number = 0 }) calls

-- how often each key was answered
keys_answered_read :
    Reads (λ k. count_ticks (answers_key k) run)
    ((key 0 4, 1)
    ∷ (key 1 4, 1)
    ∷ (key 0 5, 1)
    ∷ (key 0 6, 1)
    ∷ (key 0 7, 0)
    ∷ (key 1 5, 0)
    ∷ (key 2 4, 0)
    ∷ [])
unfolding compute_keys calls run
keys_answered_read = refl

-- how often a key of each slot was answered: of those below the number issued, which is 2 by the state and by the ledger
slots_answered_read :
    Reads (λ x. count_ticks (answers_slot x) run)
    ((0, 3)
    ∷ (1, 1)
    ∷ (2, 0)
    ∷ [])
unfolding compute_keys calls run
slots_answered_read = refl

issued_read :
    ((after_list the_rules (opened_state record { capacity = 4; slots = 3; channel = 7; cursor = 0; generation = 4; number = 0 }) calls).issued ≡ 2)
    × ((ledger_after at_opening run).issued ≡ 2)
unfolding compute_keys calls run
issued_read = (refl, refl)
