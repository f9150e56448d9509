-- The two sends: what the rules see of the words after is the rules' step, and they leave `Stores`.
-- Assumes nothing.
use Rattle.std.specs.Prelude.{Option, Some, None}
use mathlib.Core.Path.{◌≡◌, refl, sym, ap, ◌∙◌, subst}
use mathlib.Core.Logic.{◌≢◌}
use mathlib.Core.Bool.{Bool, true, false, not}
use mathlib.Core.List.{List, [], ◌∷◌, ◌++◌}
use Prim.Native.Nat.{ℕ, ◌*◌, ◌≤◌, ◌<◌}
use native.Mathlib.Omega.{arith}
use borrow.Author.Tests.{eq-eqb, ne_eqb, eqb-true, eqb-false, le-leb, lt-leb}
use lib.Dec.{eqb, leb}
use lib.ListN.{length, set, length-set, length-append}
use Rattle.model.specs.declared.LaneKey.{LaneKey}
use Rattle.model.specs.declared.Refusal.{Refusal}
use Rattle.model.specs.declared.Refusal.TheVariants.{NoSuchSender, LaneClosed, Full}
use Rattle.model.specs.declared.Answer.{Answer}
use Rattle.model.specs.declared.Answer.TheVariants.{Taken}
use Rattle.model.specs.Lists.{both}
use Rattle.model.specs.State.{Slot, State, sender_lives, is_full, free_places}
use Rattle.model.specs.Changes as rules
use Rattle.model.specs.Changes.{put}
use Rattle.model.specs.Outcome.{Outcome, unless}
use Rattle.model.specs.Sender as rules_sender
use Rattle.lane.specs.declared.lane.Lane.{Lane}
use Rattle.yring.specs.declared.ring.Ring.{Ring}
use Rattle.lane.specs.declared.producer.Sent.{Sent}
use Rattle.yring.specs.Cursor.{after, distance}
use Rattle.yring.specs.Ring.{Within, new_ring, index, free_after, push_item}
use Rattle.lane.specs.Lane.{with_cursors, held_items, sent, push_and_flush_item}
use Rattle.lane.specs.Order.{InOrder, sent_lane}
use Rattle.lane.specs.Table.{head, NarrowLane, lane_at, put_lane}
use Rattle.lane.proofs.TableLaws.{frames, slot_of_lane, loaded_narrow}
use Rattle.yring.proofs.RingLaws.{length_items, free_after_is}
use Rattle.lane.proofs.OrderLaws.{push_and_flush_keeps}
use Rattle.queues.specs.Header.{issued, slots, budget, capacity, held_more}
use Rattle.queues.specs.Queue.{queue_of}
use Rattle.ready.specs.Ready.{page_bit}
use Rattle.queues.proofs.QueueLaws.{shaped_put_lane}
use Rattle.store.specs.View.{slot_of, slot_at, view}
use Rattle.store.specs.Order.{Stores, StoreInOrder}
use Rattle.store.specs.Refusal.{send_verdict}
use Rattle.store.specs.Words.{Words, unless_refused}
use Rattle.store.specs.Signal.{mark_if_idle}
use Rattle.sender.specs.Sender.{with_sender, take_signaled, send_signaled, send_unsignaled, pushed, try_send, try_send_unsignaled}
use Rattle.store.proofs.ViewLaws.{slot_in, view_sent, view_held_count}
use Rattle.store.proofs.RefusalLaws.{seen, unless_append, unless_refused_case, refused_alike, send_verdict_lem, Sends, send_passes}
use Rattle.store.proofs.StepLaws.{Step, step_start, step_put_lane}
use Rattle.store.proofs.StoreLaws.{issued_ring_in, span_is, Owes, stores_after_lem, windows_kept}
use Rattle.store.proofs.HeldLaws.{stores_held_count}
use Rattle.store.proofs.SignalFrames.{shaped_marked_if_idle}
use Rattle.store.proofs.SignalLaws.{idle_flag, view_put_marked_if_idle, step_marked_if_idle}

-- ---- what a push comes to

-- the lane with one more item published
abbrev grown : Lane → Lane
grown l = with_cursors (after l.tail 1) l.released l.head l.known l

module _ (ring : Ring) (r : List ℕ) (v : ℕ) (l : Lane) where
  push_full : distance l.tail l.released ≡ ring.capacity → push_and_flush_item ring r v l ≡ (None, r)
  unfolding push_and_flush_item sent push_item
  push_full e = rw (eq-eqb _ _ e)

  push_taken : distance l.tail l.released ≢ ring.capacity → push_and_flush_item ring r v l ≡ (Some (record { lane = grown l; free = free_after ring l.tail l.released }), set r (index ring l.tail) v)
  unfolding push_and_flush_item sent push_item
  push_taken n = rw (ne_eqb _ _ n)

-- a number within a bound has reached it exactly if it is the bound
reached : (d C : ℕ) → d ≤ C → leb C d ≡ eqb d C
reached d C h = go (eqb d C) refl
  where
    go : (b : Bool) → eqb d C ≡ b → leb C d ≡ b
    go true e = le-leb C d (omega (arith, eqb-true d C e))
    go false e = lt-leb C d (omega (arith, eqb-false d C e))

-- ---- a send to a lane that is open

module _ (t r : List ℕ) (k : LaneKey) (v : ℕ) (o : Stores t r) (p : Sends t k) where
  abbrev x : ℕ
  x = k.slot

  abbrev l : Lane
  l = lane_at t x

  abbrev C : ℕ
  C = capacity t

  abbrev s : State
  s = view t r

  is_issued : x < issued t
  is_issued = p.lives.is_issued

  order : InOrder C l
  order = o.lanes x is_issued p.registered

  ring_in : Within (new_ring x C) (length r)
  ring_in = issued_ring_in t r o x is_issued

  -- the rules' test of a full ring is the ring's
  full_alike : is_full s x ≡ eqb (distance l.tail l.released) C
  unfolding is_full view slot_at held_items
  full_alike =
      rw (slot_in t r x is_issued, length_items (new_ring x C) r l.head (distance l.tail l.head), ← span_is C o.power.most l order)
      (reached (distance l.tail l.released) C order.cursors.tail_within)

  -- what the ring says of its free places after one more item
  abbrev free : ℕ
  free = free_after (new_ring x C) l.tail l.released

  -- an item refused as full, or taken
  sent_case : (P : Option Sent × List ℕ → Bool → Type 0) → P (None, r) true
      → (distance l.tail l.released ≢ C → P (Some (record { lane = grown l; free = free }), set r (index (new_ring x C) l.tail) v) false) → P (pushed t r k v) (is_full s x)
  sent_case P f g = rw full_alike (go (eqb (distance l.tail l.released) C) refl)
    where
      go : (b : Bool) → eqb (distance l.tail l.released) C ≡ b → P (pushed t r k v) b
      go true e = rw (push_full (new_ring x C) r v l (eqb-true _ _ e)) f
      go false e = rw (push_taken (new_ring x C) r v l (eqb-false _ _ e)) (g (eqb-false _ _ e))

  module _ (n : distance l.tail l.released ≢ C) where
    abbrev q : List ℕ
    q = set r (index (new_ring x C) l.tail) v

    -- the lane with its item, whatever its signal
    view_taken : (m : Lane) → m.key.slot ≡ x → NarrowLane m → m.head ≡ l.head → m.tail ≡ after l.tail 1
        → view (put_lane t m) q ≡ put x (slot_of m (page_bit t x) (held_items (new_ring x C) r l ++ (v ∷ []))) s
    view_taken m e fits a b =
        let w : push_and_flush_item (new_ring x C) r v l ≡ (Some (record { lane = grown l; free = free }), q) = push_taken (new_ring x C) r v l n in
        ap (λ (z : Option Sent × List ℕ). view (put_lane t m) z.1) (sym w)
        ∙ view_sent t r o.shaped x is_issued ring_in v order n m e fits
        (a ∙ ap (λ (z : Option Sent × List ℕ). (sent_lane l z.0).head) (sym w)) (b ∙ ap (λ (z : Option Sent × List ℕ). (sent_lane l z.0).tail) (sym w))

    order_taken : InOrder C (grown l)
    order_taken =
        subst (λ (z : Option Sent × List ℕ). InOrder C (sent_lane l z.0)) (push_taken (new_ring x C) r v l n) (push_and_flush_keeps (new_ring x C) o.power.most r v l order)

    -- what a send owes for the lane, whatever its signal
    owes_taken : (pending : ℕ) → pending ≤ 1 → Owes t x (with_sender pending l.living (grown l)) (queue_of t) (head t)
    owes_taken pending h =
        let f = o.flags x is_issued in
        record {
          flags = record { pending_flag = h; queued_flag = f.queued_flag; paused_flag = f.paused_flag; registered_flag = f.registered_flag; living_flag = f.living_flag };
          order = λ e. record { cursors = order_taken.cursors; counts = order_taken.counts };
          fast_below = o.fast_below;
          once = o.named.once x;
          flagged = λ e. o.named.flagged x is_issued e;
          rest = λ y d. refl;
          window = λ e g. o.windows x is_issued e g;
          windows = windows_kept t r o x (budget t) (omega arith);
          lane_count = refl;
          living_count = refl;
        }

    long_enough : slots t * C ≤ length q
    long_enough = rw (length-set r (index (new_ring x C) l.tail) v) o.rings_room

    -- ---- the two kinds

    -- the ring's number is the rules', of the slot with the item in it
    free_alike : (z : Slot) → z.ring ≡ (s.slot_of x).ring ++ (v ∷ []) → z.unreleased ≡ (s.slot_of x).unreleased → free ≡ free_places (put x z s) x
    unfolding free_places view slot_at held_items
    free_alike z e f =
        free_after_is (new_ring x C) l.tail l.released o.power.most order.cursors.tail_within
        ∙ rw (eq-eqb x x refl, e, f, slot_in t r x is_issued, length-append, length_items (new_ring x C) r l.head (distance l.tail l.head), span_is C o.power.most l order) (omega arith)

    signaled_view : let u = put x (rules.signalled (rules.pushed v (s.slot_of x))) s in
        seen (send_signaled t (Some (record { lane = grown l; free = free }), q)) ≡ (Taken (not (s.slot_of x).pending) (free_places u x), u)
    unfolding send_signaled take_signaled slot_at
    signaled_view =
        let m : Lane = with_sender 1 l.living (grown l) in
        let at : l.key.slot ≡ x = slot_of_lane t x in
        let idle = idle_flag l.pending (o.flags x is_issued).pending_flag in
        let z : Slot = rules.signalled (rules.pushed v (s.slot_of x)) in
        let left : seen (send_signaled t (Some (record { lane = grown l; free = free }), q)) ≡ (Taken (not (s.slot_of x).pending) free, put x z s) =
        ap (λ (u : State). (Taken (eqb l.pending 0) free, u))
        (view_held_count (mark_if_idle (put_lane t m) (grown l)) q (shaped_marked_if_idle (put_lane t m) (grown l) (shaped_put_lane t o.shaped m)) _
        ∙ view_put_marked_if_idle (put_lane t m) q (shaped_put_lane t o.shaped m) (grown l) x at (simp frames is_issued) _ s (view_taken m at (loaded_narrow t x) refl refl))
        ∙ rw (slot_in t r x is_issued, idle)
        in left ∙ ap (λ (f : ℕ). (Taken (not (s.slot_of x).pending) f, put x z s)) (free_alike z refl refl)

    unsignaled_view : let u = put x (rules.pushed v (s.slot_of x)) s in seen (send_unsignaled t (Some (record { lane = grown l; free = free }), q)) ≡ (Taken false (free_places u x), u)
    unfolding send_unsignaled slot_at
    unsignaled_view =
        let z : Slot = rules.pushed v (s.slot_of x) in
        let left : seen (send_unsignaled t (Some (record { lane = grown l; free = free }), q)) ≡ (Taken false free, put x z s) =
        ap (λ (u : State). (Taken false free, u))
        (view_held_count (put_lane t (grown l)) q (shaped_put_lane t o.shaped (grown l)) _ ∙ view_taken (grown l) (slot_of_lane t x) (loaded_narrow t x) refl refl) ∙ rw (slot_in t r x is_issued)
        in left ∙ ap (λ (f : ℕ). (Taken false f, put x z s)) (free_alike z refl refl)

    start : Step t t x l (queue_of t) (head t)
    start = step_start t r o x

    signaled_stores : Stores (held_more (mark_if_idle (put_lane t (with_sender 1 l.living (grown l))) (grown l))) q
    signaled_stores =
        let m : Lane = with_sender 1 l.living (grown l) in
        let at : l.key.slot ≡ x = slot_of_lane t x in
        stores_held_count _ q _
        (stores_after_lem t r _ q o x is_issued m (queue_of t) (head t)
        (step_marked_if_idle (step_put_lane start m at (loaded_narrow t x) is_issued) (grown l) (rw at is_issued)) (owes_taken 1 (omega arith)) long_enough)

    unsignaled_stores : Stores (held_more (put_lane t (grown l))) q
    unsignaled_stores =
        stores_held_count _ q _
        (stores_after_lem t r _ q o x is_issued (grown l) (queue_of t) (head t)
        (step_put_lane start (grown l) (slot_of_lane t x) (loaded_narrow t x) is_issued) (owes_taken l.pending (o.flags x is_issued).pending_flag) long_enough)

  -- ---- full, or taken

  -- the rules' outcome where the lane is open
  abbrev unless_full : Bool → Slot → Answer × State
  unless_full w z = (unless ((is_full s x, Full) ∷ []) s (rules_sender.says_taken w x (put x z s))).1

  signaled_alike : seen (send_signaled t (pushed t r k v)) ≡ unless_full (not (s.slot_of x).pending) (rules.signalled (rules.pushed v (s.slot_of x)))
  unfolding send_signaled unless
  signaled_alike =
      sent_case
      (λ z b. seen (send_signaled t z) ≡ (unless ((b, Full) ∷ []) s (rules_sender.says_taken (not (s.slot_of x).pending) x (put x (rules.signalled (rules.pushed v (s.slot_of x))) s))).1)
      refl signaled_view

  unsignaled_alike : seen (send_unsignaled t (pushed t r k v)) ≡ unless_full false (rules.pushed v (s.slot_of x))
  unfolding send_unsignaled unless
  unsignaled_alike =
      sent_case (λ z b. seen (send_unsignaled t z) ≡ (unless ((b, Full) ∷ []) s (rules_sender.says_taken false x (put x (rules.pushed v (s.slot_of x)) s))).1) refl unsignaled_view

  signaled_keeps : Stores (send_signaled t (pushed t r k v)).1 (send_signaled t (pushed t r k v)).2
  unfolding send_signaled take_signaled
  signaled_keeps = sent_case (λ z b. Stores (send_signaled t z).1 (send_signaled t z).2) o signaled_stores

  unsignaled_keeps : Stores (send_unsignaled t (pushed t r k v)).1 (send_unsignaled t (pushed t r k v)).2
  unfolding send_unsignaled
  unsignaled_keeps = sent_case (λ z b. Stores (send_unsignaled t z).1 (send_unsignaled t z).2) o unsignaled_stores

-- ---- the calls

module _ (t r : List ℕ) (k : LaneKey) (v : ℕ) (o : StoreInOrder t r) where
  -- the tests that both sends share, and the ring's
  abbrev shared : List (Bool × Refusal)
  shared =
      (not (sender_lives (view t r) k), NoSuchSender)
      ∷ (not (both (view t r).is_open ((view t r).slot_of k.slot).registered), LaneClosed) ∷ []

  abbrev full : List (Bool × Refusal)
  full = (is_full (view t r) k.slot, Full) ∷ []

  -- a call with these tests, where it is as the rules say once the shared ones pass
  sends_alike : (w : Words) (a : Outcome) → (Sends t k → seen w ≡ (unless full (view t r) a).1)
      → seen (unless_refused (send_verdict t k) t r w) ≡ (unless (shared ++ full) (view t r) a).1
  sends_alike w a f =
      refused_alike (send_verdict t k) shared t r w (unless full (view t r) a) (send_verdict_lem t r k) (λ e. f (send_passes t k e))
      ∙ ap (λ (z : Outcome). z.1) (sym (unless_append shared full (view t r) a))

  sends_keep : (w : Words) → (Sends t k → Stores w.1 w.2) → Stores (unless_refused (send_verdict t k) t r w).1 (unless_refused (send_verdict t k) t r w).2
  sends_keep w f = unless_refused_case (λ z. Stores z.1 z.2) (send_verdict t k) t r w (λ why e. o.stores) (λ e. f (send_passes t k e))

  -- a send does what the rules say, and answers as they do
  pub try_send_alike : seen (try_send t r k v) ≡ (rules_sender.try_send (view t r) k v).1
  unfolding try_send rules_sender.try_send
  try_send_alike = sends_alike (send_signaled t (pushed t r k v)) _ (signaled_alike t r k v o.stores)

  pub try_send_unsignaled_alike : seen (try_send_unsignaled t r k v) ≡ (rules_sender.try_send_unsignaled (view t r) k v).1
  unfolding try_send_unsignaled rules_sender.try_send_unsignaled
  try_send_unsignaled_alike = sends_alike (send_unsignaled t (pushed t r k v)) _ (unsignaled_alike t r k v o.stores)

  -- and leaves a store in order
  pub try_send_keeps : Stores (try_send t r k v).1 (try_send t r k v).2
  unfolding try_send
  try_send_keeps = sends_keep (send_signaled t (pushed t r k v)) (signaled_keeps t r k v o.stores)

  pub try_send_unsignaled_keeps : Stores (try_send_unsignaled t r k v).1 (try_send_unsignaled t r k v).2
  unfolding try_send_unsignaled
  try_send_unsignaled_keeps = sends_keep (send_unsignaled t (pushed t r k v)) (unsignaled_keeps t r k v o.stores)
