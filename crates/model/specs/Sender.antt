-- The sender calls.
-- Assumes nothing.
use Rattle.std.specs.Prelude.{Bool, false, not, List, [], ◌∷◌, ℕ, suc, ◌+◌, leb}
use Rattle.model.specs.declared.LaneKey.{LaneKey}
use Rattle.model.specs.declared.SenderCall.{SenderCall}
use Rattle.model.specs.declared.SenderCall.TheVariants.{RegisterSender, TrySend, TrySendUnsignaled, DropSender}
use Rattle.model.specs.declared.Refusal.TheVariants.{ReceiverClosed, AtCapacity, NoFreeSlot, OlderSenderLives, NoSuchSender, LaneClosed, Full}
use Rattle.model.specs.declared.Answer.TheVariants.{Done, Registered, Taken}
use Rattle.model.specs.Lists.{both, non_empty, keep, without}
use Rattle.model.specs.State.{State, registered_lanes, sender_lives, is_full, free_places}
use Rattle.model.specs.Changes.{with_free, with_issued, put, new_lane, signalled, pushed, sender_dropped}
use Rattle.model.specs.Outcome.{Outcome, says, unless}

-- Document 02, N4: registration "goes down the free list, most recently freed first, and takes the first slot without a living older sender".
-- The free slots without one, in the list's order. Reading: the next unused slot has none, whatever its words say.
unfoldable pub clear_slots : State → List ℕ
clear_slots s = keep (λ x. not (s.slot_of x).living) s.free

-- The first of these, with generation + 1; "failing that, the next unused slot", and "a slot's first lane has the first generation".
-- "The slots passed over stay in the list in their order."
unfoldable pub issue_slot : List ℕ → State → Outcome
issue_slot [] s =
    says (Registered record { slot = s.issued; generation = s.first_generation })
    (with_issued (suc s.issued) (put s.issued (new_lane s.first_generation (s.slot_of s.issued)) s))
issue_slot (x ∷ f) s =
    says (Registered record { slot = x; generation = (s.slot_of x).generation + 1 })
    (with_free (without x s.free) (put x (new_lane ((s.slot_of x).generation + 1) (s.slot_of x)) s))

-- "slot S - 1 has been issued"
unfoldable pub all_issued : State → Bool
all_issued s = leb s.slots s.issued

-- "receiver closed"; "registered lanes are as many as the most-lanes number, or more". Then, where slot S - 1 has been issued, refusal 8 if the free list is
-- empty, and refusal 9 if it is not and "all its slots have living older senders".
unfoldable pub register_sender : State → ℕ → Outcome
register_sender s most =
    unless
    ((not s.is_open, ReceiverClosed) ∷ (leb most (registered_lanes s), AtCapacity)
    ∷ (both (not (non_empty s.free)) (all_issued s), NoFreeSlot) ∷ (both (not (non_empty (clear_slots s))) (all_issued s), OlderSenderLives) ∷ [])
    s (issue_slot (clear_slots s) s)

-- What an accepted send comes to, where s has the item in slot x's ring. Document 02, N1: it "answers also how many further sends the ring would take".
abbrev pub says_taken : Bool → ℕ → State → Outcome
says_taken woken x s = says (Taken woken (free_places s x)) s

-- "no living sender has this key"; "lane closed, or the receiver (`Disconnected`)"; "ring full (`Full`)"
-- "answers whether the signal went from idle to pending"
unfoldable pub try_send : State → LaneKey → ℕ → Outcome
try_send s k v =
    unless
    ((not (sender_lives s k), NoSuchSender) ∷ (not (both s.is_open (s.slot_of k.slot).registered), LaneClosed)
    ∷ (is_full s k.slot, Full) ∷ [])
    s (says_taken (not (s.slot_of k.slot).pending) k.slot (put k.slot (signalled (pushed v (s.slot_of k.slot))) s))

-- "woken: 1 or 0; unsignalled always 0"
unfoldable pub try_send_unsignaled : State → LaneKey → ℕ → Outcome
try_send_unsignaled s k v =
    unless
    ((not (sender_lives s k), NoSuchSender) ∷ (not (both s.is_open (s.slot_of k.slot).registered), LaneClosed)
    ∷ (is_full s k.slot, Full) ∷ [])
    s (says_taken false k.slot (put k.slot (pushed v (s.slot_of k.slot)) s))

-- "Dropping a sender marks its lane (a closed lane's signal is kept while its sender lives) and lowers the living count"
unfoldable pub drop_sender : State → LaneKey → Outcome
drop_sender s k =
    unless ((not (sender_lives s k), NoSuchSender) ∷ []) s
    (says Done (put k.slot (signalled (sender_dropped (s.slot_of k.slot))) s))

unfoldable pub sender_outcome : State → SenderCall → Outcome
sender_outcome s (RegisterSender most) = register_sender s most
sender_outcome s (TrySend k v) = try_send s k v
sender_outcome s (TrySendUnsignaled k v) = try_send_unsignaled s k v
sender_outcome s (DropSender k) = drop_sender s k
