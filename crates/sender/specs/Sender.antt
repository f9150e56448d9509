-- The sender calls, as words.
-- Assumes nothing.
use Rattle.std.specs.Prelude.{false, cond, List, [], ◌∷◌, ◌≢◌, ℕ, suc, ◌+◌, ◌-◌, ◌≤◌, ◌<◌, eqb, leb, ltb, Option, Some, None}
use Rattle.model.specs.declared.LaneKey.{LaneKey}
use Rattle.model.specs.declared.Refusal.TheVariants as Refusal
use Rattle.model.specs.declared.SenderCall.{SenderCall}
use Rattle.model.specs.declared.SenderCall.TheVariants.{RegisterSender, TrySend, TrySendUnsignaled, DropSender}
use Rattle.model.specs.declared.Answer.{Answer}
use Rattle.model.specs.declared.Answer.TheVariants.{Done, Registered, Taken, Refused}
use Rattle.lane.specs.declared.lane.Lane.{Lane}
use Rattle.lane.specs.declared.producer.Sent.{Sent}
use Rattle.lane.specs.Lane.{with_flags, new_lane, push_and_flush_item}
use Rattle.yring.specs.Ring.{Within, new_ring}
use Rattle.lane.specs.Table.{lane_at, put_lane}
use Rattle.queues.specs.Header.{set_issued, set_lane_count, set_living_count, Shaped, issued, free_count, slots, capacity, first_cursor, first_generation, lane_count, living_count, held_more}
use Rattle.queues.specs.Registry.{free_of, freed_at, reissue}
use Rattle.ready.specs.Ready.{open_page}
use Rattle.store.specs.Refusal.{Verdict}
use Rattle.std.specs.Prelude.{Ok, Err}
use Rattle.store.specs.Refusal.{sender_verdict, send_verdict, receiver_verdict, and_then}
use Rattle.store.specs.Signal.{mark_if_idle}
use Rattle.store.specs.Words.{Words, unless_refused}

-- a lane with another signal and another sender
abbrev pub with_sender : ℕ → ℕ → Lane → Lane
with_sender pending living l = with_flags pending l.queued l.paused l.registered living l

-- "answers whether the signal went from idle to pending", and what the ring's push said of its free places
unfoldable pub take_signaled : List ℕ → Lane → ℕ → Answer × List ℕ
take_signaled t l free = (Taken (eqb l.pending 0) free, mark_if_idle (put_lane t (with_sender 1 l.living l)) l)

-- a send that is taken: one item more is held
unfoldable pub send_signaled : List ℕ → Option Sent × List ℕ → Words
send_signaled t (Some s, r) = let a = take_signaled t s.lane s.free in (a.0, held_more a.1, r)
send_signaled t (None, r) = (Refused Refusal.Full, t, r)

-- "unsignalled always 0"; one item more is held
unfoldable pub send_unsignaled : List ℕ → Option Sent × List ℕ → Words
send_unsignaled t (Some s, r) = (Taken false s.free, held_more (put_lane t s.lane), r)
send_unsignaled t (None, r) = (Refused Refusal.Full, t, r)

-- what the ring of a key's slot answers to an item
abbrev pub pushed : List ℕ → List ℕ → LaneKey → ℕ → Option Sent × List ℕ
pushed t r k v = push_and_flush_item (new_ring k.slot (capacity t)) r v (lane_at t k.slot)

-- what a push needs of the words: a slot of the table, and its ring within the ring store of so many words
pub record SendRoom (t : List ℕ) (words slot : ℕ) : Type 0 where
  pub shaped : Shaped t
  pub slot_in : slot < slots t
  pub ring_in : Within (new_ring slot (capacity t)) words

unfoldable pub try_send : List ℕ → List ℕ → LaneKey → ℕ → Words
try_send t r k v = unless_refused (send_verdict t k) t r (send_signaled t (pushed t r k v))

unfoldable pub try_send_unsignaled : List ℕ → List ℕ → LaneKey → ℕ → Words
try_send_unsignaled t r k v = unless_refused (send_verdict t k) t r (send_unsignaled t (pushed t r k v))

-- "Dropping a sender marks its lane [..] and lowers the living count"
unfoldable pub drop_lane : List ℕ → Lane → List ℕ
drop_lane t l = set_living_count (mark_if_idle (put_lane t (with_sender 1 0 l)) l) (living_count t - 1)

unfoldable pub drop_sender : List ℕ → List ℕ → LaneKey → Words
drop_sender t r k = unless_refused (sender_verdict t k) t r (Done, drop_lane t (lane_at t k.slot), r)

-- Document 02, N4: how many slots at the beginning of a list have a living older sender
unfoldable pub older_ahead : List ℕ → List ℕ → ℕ
older_ahead t [] = 0
older_ahead t (x ∷ f) = cond (eqb (lane_at t x).living 1) (suc (older_ahead t f)) 0

-- how many slots of the free list a registration passes over: below these is "the first slot without a living older sender", if there is one
abbrev pub passed_over : List ℕ → ℕ
passed_over t = older_ahead t (free_of t)

-- the free slots are issued ones, and had generations below the last
pub record FreeIssued (t : List ℕ) : Type 0 where
  pub freed_issued : (d : ℕ) → d < free_count t → freed_at t d < issued t
  pub freed_generation : (d : ℕ) → d < free_count t → (lane_at t (freed_at t d)).key.generation ≢ 18446744073709551615

-- there is a slot to issue, where d slots are passed over
abbrev pub SlotDue : List ℕ → ℕ → Type 0
SlotDue t d = free_count t ≤ d → issued t < slots t

-- and room for one more in the counts
pub record RegisterRoom (t : List ℕ) (d : ℕ) : Type 0 where
  pub shaped : Shaped t
  pub due : SlotDue t d
  pub lanes_most : lane_count t ≤ slots t
  pub living_most : living_count t ≤ slots t

-- "registered lanes are as many as the most-lanes number, or more"
unfoldable pub capacity_verdict : ℕ → ℕ → Verdict
capacity_verdict lanes most = cond (leb most lanes) (Err Refusal.AtCapacity) (Ok tt)

-- refusals 6 and 7
unfoldable pub lanes_verdict : List ℕ → ℕ → Verdict
lanes_verdict t most = and_then (receiver_verdict t) (capacity_verdict (lane_count t) most)

-- where d slots are passed over and these are all, and slot S - 1 has been issued: 8 if the list is empty, else 9
unfoldable pub slot_verdict : List ℕ → ℕ → Verdict
slot_verdict t d =
    cond (ltb d (free_count t)) (Ok tt)
    (cond (ltb (issued t) (slots t)) (Ok tt)
    (cond (eqb (free_count t) 0) (Err Refusal.NoFreeSlot) (Err Refusal.OlderSenderLives)))

-- the key that is due where d slots are passed over: of the slot below them, "with generation + 1"; else of "the next unused slot"
unfoldable pub due_key : List ℕ → ℕ → LaneKey
due_key t d =
    cond (ltb d (free_count t))
    (record { slot = freed_at t d; generation = (lane_at t (freed_at t d)).key.generation + 1 })
    (record { slot = issued t; generation = first_generation t })

-- its slot is taken out of the free list, or is one more issued, with a page and group of its own where it is their first
unfoldable pub take_slot : List ℕ → ℕ → List ℕ
take_slot t d = cond (ltb d (free_count t)) (reissue t d) (set_issued (open_page t (issued t)) (issued t + 1))

unfoldable pub register_lane : List ℕ → ℕ → LaneKey → List ℕ
register_lane t d k =
    set_living_count (set_lane_count (put_lane (take_slot t d) (new_lane k (first_cursor t))) (lane_count t + 1)) (living_count t + 1)

-- a registration that 6 and 7 let pass
unfoldable pub register_slot : List ℕ → List ℕ → ℕ → Words
register_slot t r d = unless_refused (slot_verdict t d) t r (Registered (due_key t d), register_lane t d (due_key t d), r)

unfoldable pub register_sender : List ℕ → List ℕ → ℕ → Words
register_sender t r most = unless_refused (lanes_verdict t most) t r (register_slot t r (passed_over t))

-- every sender call
unfoldable pub sender_words : List ℕ → List ℕ → SenderCall → Words
sender_words t r (RegisterSender most) = register_sender t r most
sender_words t r (TrySend k v) = try_send t r k v
sender_words t r (TrySendUnsignaled k v) = try_send_unsignaled t r k v
sender_words t r (DropSender k) = drop_sender t r k
