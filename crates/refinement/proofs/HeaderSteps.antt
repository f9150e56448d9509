-- A header word that no part of a call writes, and one that no call writes, stays what it is: every store of a lane, a mark, the queue, the free list or another header word, and what is made of
-- these for sender calls and control calls. Of any words, in order or not.
-- Assumes nothing.
use Rattle.std.specs.Prelude.{Option, Some, None}
use mathlib.Core.Path.{◌≡◌, refl, ◌∙◌}
use mathlib.Core.Bool.{Bool, true, false, cond}
use mathlib.Core.List.{List, [], ◌∷◌, foldl}
use Prim.Native.Nat.{ℕ, zero, suc, ◌+◌, ◌-◌, ◌*◌}
use lib.Dec.{eqb, ltb}
use Rattle.model.specs.Lists.{either}
use Rattle.model.specs.declared.LaneKey.{LaneKey}
use Rattle.model.specs.declared.SenderCall.{SenderCall}
use Rattle.model.specs.declared.SenderCall.TheVariants.{RegisterSender, TrySend, TrySendUnsignaled, DropSender}
use Rattle.model.specs.declared.ControlCall.{ControlCall}
use Rattle.model.specs.declared.ControlCall.TheVariants.{Pause, Resume, CloseLane, ReleaseConsumed, PollAllLanes, CloseReceiver, CountHeld}
use Rattle.lane.specs.declared.lane.Lane.{Lane}
use Rattle.lane.specs.declared.producer.Sent.{Sent}
use Rattle.lane.specs.Lane.{new_lane}
use Rattle.lane.specs.Table.{head, set_head, set_cell, lane_at, put_lane}
use Rattle.lane.proofs.OrderLaws.{cond_holds}
use Rattle.lane.proofs.TableLaws.{head_put_lane, head_set_cell, other_head_kept}
use Rattle.queues.specs.Header.{issued, queue_front, queue_count, free_count, budget, group_cursor, alive, first_cursor, fast_slot, lane_count, living_count, held_count, set_issued, set_group_cursor, set_lane_count, set_held_count}
use Rattle.ready.specs.Bits.{bits_from}
use Rattle.queues.specs.Queue.{push_back, remove}
use Rattle.queues.specs.Registry.{free, reissue}
use Rattle.ready.specs.Ready.{page_column, group_column, page_word, group_word, enqueue, wanted, offer, collect_page, collect_group, group_at, group_count, collected_from, collect_ready, open_page}
use Rattle.queues.proofs.QueueLaws.{head_pushed_back, head_removed}
use Rattle.queues.proofs.RegistryLaws.{head_freed, head_reissued}
use Rattle.store.specs.Refusal.{Verdict}
use Rattle.store.specs.Words.{Words, unless_refused}
use Rattle.store.specs.Registry.{retired, retire_lane}
use Rattle.store.specs.Signal.{mark_if_idle}
use Rattle.store.proofs.HeaderWords.{place_of, Beside, apart}
use Rattle.store.proofs.EnqueueLaws.{head_enqueued}
use Rattle.store.proofs.SignalFrames.{head_marked_if_idle}
use Rattle.store.proofs.RefusalLaws.{unless_refused_case}
use Rattle.store.proofs.RetireFrames.{freed_unless_last_is}
use Rattle.sender.specs.Sender.{with_sender, take_signaled, send_signaled, send_unsignaled, pushed, try_send, try_send_unsignaled, drop_lane, drop_sender, take_slot, register_lane, register_slot, register_sender, sender_words}
use Rattle.sender.proofs.IssueLaws.{head_opened_page}
use Rattle.all_lanes.specs.AllLanes.{for_slots, release_slot, release_all, release_consumed, may_queue, poll_slot, poll_slots, poll_all_lanes, count_held}
use Rattle.control.specs.Control.{with_turn, paused_lane, pause_lane, pause, resume_lane, resume, close, close_lane, close_receiver}
use Rattle.control.specs.Calls.{control_words}

-- the header words that the parts of some call write: all that calls write but the held count, which is changed where a call's answer is made
abbrev pub parts_write : ℕ → Bool
parts_write j =
    either (eqb (place_of issued) j) (either (eqb (place_of queue_front) j) (either (eqb (place_of queue_count) j) (either (eqb (place_of free_count) j)
    (either (eqb (place_of budget) j) (either (eqb (place_of group_cursor) j) (either (eqb (place_of alive) j) (either (eqb (place_of fast_slot) j)
    (either (eqb (place_of lane_count) j) (eqb (place_of living_count) j)))))))))

-- those that some call writes
abbrev pub calls_write : ℕ → Bool
calls_write j = either (eqb (place_of held_count) j) (parts_write j)

abbrev pub Unwritten : ℕ → Type 0
Unwritten j = Beside calls_write j

-- a header word that no part of a call writes, and a value
pub record KeptWord : Type 0 where
  pub word : ℕ
  pub value : ℕ
  pub unwritten : Beside parts_write word

-- and which is not the held count: no call writes it
abbrev pub NotHeld : KeptWord → Type 0
NotHeld c = eqb (place_of held_count) c.word ≡ false

-- the word of this table has the value
pub record At (c : KeptWord) (t : List ℕ) : Type 0 where
  pub holds : head t c.word ≡ c.value

module _ {c : KeptWord} (t : List ℕ) (h : At c t) where
  -- ---- one store

  pub at_by : (u : List ℕ) → head u c.word ≡ head t c.word → At c u
  at_by u e = record { holds = e ∙ h.holds }

  pub at_put : (l : Lane) → At c (put_lane t l)
  at_put l = at_by (put_lane t l) (head_put_lane t l c.word c.unwritten.in_header)

  pub at_head : (k v : ℕ) → parts_write k ≡ true → At c (set_head t k v)
  at_head k v e = at_by (set_head t k v) (other_head_kept t k v c.word (apart c.unwritten k e))

  -- the held count's word
  pub at_held : NotHeld c → (v : ℕ) → At c (set_held_count t v)
  at_held n v = at_by (set_held_count t v) (other_head_kept t (place_of held_count) v c.word n)

  pub at_cell : (column row v : ℕ) → At c (set_cell t column row v)
  at_cell column row v = at_by (set_cell t column row v) (head_set_cell t column row v c.word c.unwritten.in_header)

  pub at_pushed_back : (x : ℕ) → At c (push_back t x)
  at_pushed_back x = at_by (push_back t x) (head_pushed_back t x c.word c.unwritten.in_header (apart c.unwritten (place_of queue_count) refl))

  pub at_removed : (x : ℕ) → At c (remove t x)
  at_removed x = at_by (remove t x) (head_removed t x c.word c.unwritten.in_header (apart c.unwritten (place_of queue_count) refl))

  at_freed : (x : ℕ) → At c (free t x)
  at_freed x = at_by (free t x) (head_freed t x c.word c.unwritten.in_header (apart c.unwritten (place_of free_count) refl))

  at_enqueued : (x : ℕ) → At c (enqueue t x)
  at_enqueued x = at_by (enqueue t x) (head_enqueued t x c.word c.unwritten.in_header (apart c.unwritten (place_of queue_count) refl))

  pub at_marked_if_idle : (l : Lane) → At c (mark_if_idle t l)
  at_marked_if_idle l = at_by (mark_if_idle t l) (head_marked_if_idle t l c.word c.unwritten.in_header)

-- a lane retires
pub at_retired : {c : KeptWord} (t : List ℕ) → At c t → (l : Lane) → At c (retire_lane t l)
unfolding retire_lane
at_retired {c = c} t h l =
    let p = at_head (put_lane t (retired l)) (at_put t h (retired l)) (place_of lane_count) (lane_count t - 1) refl in
    freed_unless_last_is _ l (At c) p (at_freed _ p l.key.slot)

-- one thing done for slot after slot
pub at_slots : {c : KeptWord} (f : List ℕ → ℕ → List ℕ) → ((t : List ℕ) → At c t → (x : ℕ) → At c (f t x)) → (n x : ℕ) (t : List ℕ) → At c t → At c (for_slots f n x t)
unfolding for_slots
at_slots f k zero x t h = h
at_slots f k (suc n) x t h = at_slots f k n (x + 1) (f t x) (k t h x)

-- ---- collecting

at_fold : {c : KeptWord} (f : List ℕ → ℕ → List ℕ) → ((t : List ℕ) → At c t → (x : ℕ) → At c (f t x)) → (xs t : List ℕ) → At c t → At c (foldl f t xs)
at_fold f k [] t h = h
at_fold f k (x ∷ xs) t h = at_fold f k xs (f t x) (k t h x)

module _ {c : KeptWord} where
  at_offered : (t : List ℕ) → At c t → (x : ℕ) → At c (offer t x)
  unfolding offer
  at_offered t h x = cond_holds (At c) (wanted t x) (enqueue t x) t (λ e. at_enqueued t h x) (λ e. h)

  at_page : (t : List ℕ) → At c t → (page : ℕ) → At c (collect_page t page)
  unfolding collect_page
  at_page t h page = at_fold offer at_offered (bits_from 64 (64 * page) (page_word t page)) (set_cell t page_column page 0) (at_cell t h page_column page 0)

  at_group : (t : List ℕ) → At c t → (group : ℕ) → At c (collect_group t group)
  unfolding collect_group
  at_group t h group = at_fold collect_page at_page (bits_from 64 (64 * group) (group_word t group)) (set_cell t group_column group 0) (at_cell t h group_column group 0)

  at_from : (n k : ℕ) (all : Bool) (t : List ℕ) (next : ℕ) → At c t → At c (collected_from n k all t next)
  unfolding collected_from
  at_from n zero all t next h = h
  at_from n (suc k) all t next h =
      let g = group_at n next in
      let taken = set_group_cursor (collect_group t g) (g + 1) in
      let p : At c taken = at_head (collect_group t g) (at_group t h g) (place_of group_cursor) (g + 1) refl in
      cond_holds (At c) (eqb (group_word t g) 0) (collected_from n k all t (g + 1)) (cond all (collected_from n k all taken (g + 1)) taken)
      (λ e. at_from n k all t (g + 1) h)
      (λ e. cond_holds (At c) all (collected_from n k all taken (g + 1)) taken (λ f. at_from n k all taken (g + 1) p) (λ f. p))

  pub at_collected : (all : Bool) (t : List ℕ) → At c t → At c (collect_ready all t)
  unfolding collect_ready
  at_collected all t h = at_from (group_count (issued t)) (group_count (issued t)) all t (group_cursor t) h

-- ---- a call

module _ {c : KeptWord} (t : List ℕ) (h : At c t) where
  -- a refused call leaves every word
  pub unless_at : (v : Verdict) (r : List ℕ) (w : Words) → At c w.1 → At c (unless_refused v t r w).1
  unless_at v r w k = unless_refused_case (λ z. At c z.1) v t r w (λ why e. h) (λ e. k)

  -- ---- sender calls

  taken_at : (d : ℕ) → At c (take_slot t d)
  unfolding take_slot
  taken_at d =
      cond_holds (At c) (ltb d (free_count t)) (reissue t d) (set_issued (open_page t (issued t)) (issued t + 1))
      (λ e. at_by t h (reissue t d) (head_reissued t d c.word c.unwritten.in_header (apart c.unwritten (place_of free_count) refl)))
      (λ e.
      at_head (open_page t (issued t)) (at_by t h (open_page t (issued t)) (head_opened_page t (issued t) c.word c.unwritten.in_header)) (place_of issued) (issued t + 1) refl)

  pub registered_at : (d : ℕ) (k : LaneKey) → At c (register_lane t d k)
  unfolding register_lane
  registered_at d k =
      let u : List ℕ = put_lane (take_slot t d) (new_lane k (first_cursor t)) in
      let v : List ℕ = set_lane_count u (lane_count t + 1) in
      let p : At c v = at_head u (at_put (take_slot t d) (taken_at d) (new_lane k (first_cursor t))) (place_of lane_count) (lane_count t + 1) refl in
      at_head v p (place_of living_count) (living_count t + 1) refl

  pub take_signaled_at : (l : Lane) (free : ℕ) → At c (take_signaled t l free).1
  unfolding take_signaled
  take_signaled_at l free = at_marked_if_idle _ (at_put t h (with_sender 1 l.living l)) l

  signaled_at : NotHeld c → (s : Option Sent × List ℕ) → At c (send_signaled t s).1
  unfolding send_signaled
  signaled_at n (Some s, r) = at_held _ (take_signaled_at s.lane s.free) n _
  signaled_at n (None, r) = h

  unsignaled_at : NotHeld c → (s : Option Sent × List ℕ) → At c (send_unsignaled t s).1
  unfolding send_unsignaled
  unsignaled_at n (Some s, r) = at_held _ (at_put t h s.lane) n _
  unsignaled_at n (None, r) = h

  pub dropped_at : (l : Lane) → At c (drop_lane t l)
  unfolding drop_lane
  dropped_at l =
      let u : List ℕ = put_lane t (with_sender 1 0 l) in
      at_head (mark_if_idle u l) (at_marked_if_idle u (at_put t h (with_sender 1 0 l)) l) (place_of living_count) (living_count t - 1) refl

  pub sender_at : NotHeld c → (r : List ℕ) (s : SenderCall) → At c (sender_words t r s).1
  unfolding sender_words register_sender register_slot try_send try_send_unsignaled drop_sender
  sender_at n r (RegisterSender most) = unless_at _ r _ (unless_at _ r _ (registered_at _ _))
  sender_at n r (TrySend k v) = unless_at _ r _ (signaled_at n (pushed t r k v))
  sender_at n r (TrySendUnsignaled k v) = unless_at _ r _ (unsignaled_at n (pushed t r k v))
  sender_at n r (DropSender k) = unless_at _ r _ (dropped_at (lane_at t k.slot))

-- ---- control calls

module _ {c : KeptWord} where
  at_release_slot : (t : List ℕ) → At c t → (x : ℕ) → At c (release_slot t x)
  unfolding release_slot
  at_release_slot t h x = cond_holds (At c) (eqb (lane_at t x).registered 1) _ t (λ e. at_put t h _) (λ e. h)

  pub at_release_all : (t : List ℕ) → At c t → At c (release_all t)
  unfolding release_all
  at_release_all t h = at_slots release_slot at_release_slot (issued t) 0 t h

  at_poll_slot : (t : List ℕ) → At c t → (x : ℕ) → At c (poll_slot t x)
  unfolding poll_slot
  at_poll_slot t h x = cond_holds (At c) (may_queue (lane_at t x)) (enqueue t x) t (λ e. at_enqueued t h x) (λ e. h)

  pub at_poll_all : (t : List ℕ) → At c t → At c (poll_slots t)
  unfolding poll_slots
  at_poll_all t h = at_slots poll_slot at_poll_slot (issued t) 0 t h

module _ {c : KeptWord} (t : List ℕ) (h : At c t) where
  pub paused_at : (l : Lane) → At c (pause_lane t l)
  unfolding pause_lane
  paused_at l = at_removed _ (at_put t h (paused_lane l)) l.key.slot

  pub resumed_at : (l : Lane) → At c (resume_lane t l)
  unfolding resume_lane
  resumed_at l =
      cond_holds (At c) (eqb l.paused 1) (push_back (mark_if_idle (put_lane t (with_turn 1 1 0 l)) l) l.key.slot) t
      (λ e. at_pushed_back _ (at_marked_if_idle _ (at_put t h (with_turn 1 1 0 l)) l) l.key.slot) (λ e. h)

  -- a lane closed, before its items are taken off the held count
  pub gone_at : (l : Lane) → At c (retire_lane (remove t l.key.slot) l)
  gone_at l = at_retired _ (at_removed t h l.key.slot) l

  closed_at : NotHeld c → (l : Lane) → At c (close t l)
  unfolding close
  closed_at n l = at_held _ (gone_at l) n _

  pub control_at : NotHeld c → (r : List ℕ) (s : ControlCall) → At c (control_words t r s).1
  unfolding control_words pause resume close_lane release_consumed poll_all_lanes close_receiver count_held
  control_at n r (Pause i) = unless_at t h _ r _ (paused_at (lane_at t i.key.slot))
  control_at n r (Resume i) = unless_at t h _ r _ (resumed_at (lane_at t i.key.slot))
  control_at n r (CloseLane i) = unless_at t h _ r _ (closed_at n (lane_at t i.key.slot))
  control_at n r ReleaseConsumed = unless_at t h _ r _ (at_release_all t h)
  control_at n r PollAllLanes = unless_at t h _ r _ (at_poll_all t h)
  control_at n r CloseReceiver = unless_at t h _ r _ (at_head t h (place_of alive) 0 refl)
  control_at n r CountHeld = h
