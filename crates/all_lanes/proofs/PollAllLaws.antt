-- Poll all lanes does what the rules say, and leaves a store in order: slot by slot, then all of them.
-- Assumes nothing.
use mathlib.Core.Path.{◌≡◌, refl, sym, ap, ◌∙◌}
use mathlib.Core.Bool.{Bool, true, false, not, ◌&&◌}
use mathlib.Core.List.{List, [], ◌∷◌, ◌++◌, append_assoc, append-nil}
use Prim.Native.Nat.{ℕ, zero, suc, ◌+◌, ◌≤◌, ◌<◌}
use native.Mathlib.Omega.{arith}
use borrow.Author.Tests.{eqb-true, ne_eqb, le-leb}
use lib.Dec.{eqb, leb}
use Rattle.model.specs.declared.Answer.TheVariants.{Done}
use Rattle.model.specs.Lists.{if, both, count, keep, from}
use Rattle.model.specs.State as states
use Rattle.model.specs.State.{Slot, State}
use Rattle.model.specs.Changes.{with_queue}
use Rattle.model.specs.Outcome.{says}
use Rattle.model.specs.Control as rules
use Rattle.lane.specs.declared.lane.Lane.{Lane}
use Rattle.lane.specs.Table.{head, lane_at}
use Rattle.lane.proofs.TableLaws.{slot_of_lane, loaded_narrow}
use Rattle.queues.specs.Header.{issued, slots, queue_count}
use Rattle.queues.specs.Queue.{queue_of}
use Rattle.ready.specs.Ready.{queued_lane, enqueue}
use Rattle.queues.proofs.QueueLaws.{length_queue}
use Rattle.ready.proofs.OfferLaws.{Wants, wants_room, other_enqueued}
use Rattle.store.specs.View.{flag, slot_at, view}
use Rattle.store.specs.Order.{Stores, StoreInOrder}
use Rattle.store.specs.Refusal.{receiver_verdict}
use Rattle.all_lanes.specs.AllLanes.{for_slots, may_queue, poll_slot, poll_slots, poll_all_lanes}
use Rattle.store.proofs.ViewLaws.{slot_in, view_enqueued}
use Rattle.store.proofs.RefusalLaws.{seen, receiver_verdict_lem, refused_alike, unless_refused_case}
use Rattle.store.proofs.StepLaws.{Step, step_start, step_put_lane, step_pushed_back}
use Rattle.store.proofs.StoreLaws.{Owes, stores_after_lem, windows_pushed_back}
use Rattle.store.proofs.SignalLaws.{idle_flag}
use Rattle.store.proofs.EnqueueLaws.{head_enqueued}
use Rattle.all_lanes.proofs.SlotLoops.{wants_queue, poll_slot_is}
use Rattle.store.proofs.BackLaws.{back_own, back_other}

-- ---- one slot

module _ (t r : List ℕ) (o : Stores t r) (x : ℕ) (w : Wants t x) where
  abbrev old : Lane
  old = lane_at t x

  room : queue_count t < slots t
  room = wants_room t x o.shaped o.named w

  unnamed : count x (queue_of t) ≡ 0
  unnamed = sym (o.named.flagged x w.is_issued w.registered) ∙ w.unqueued

  step_enqueued : Step t (enqueue t x) x (queued_lane old) (queue_of t ++ (x ∷ [])) (head t)
  unfolding enqueue
  step_enqueued = step_pushed_back (step_put_lane (step_start t r o x) (queued_lane old) (slot_of_lane t x) (loaded_narrow t x) w.is_issued) x (rw (length_queue t) room)

  owes_enqueued : Owes t x (queued_lane old) (queue_of t ++ (x ∷ [])) (head t)
  owes_enqueued =
      let f = o.flags x w.is_issued in
      let k = o.lanes x w.is_issued w.registered in
      record {
        flags = record {
          pending_flag = f.pending_flag;
          queued_flag = omega arith;
          paused_flag = f.paused_flag;
          registered_flag = f.registered_flag;
          living_flag = f.living_flag;
        };
        order = λ e. record { cursors = k.cursors; counts = k.counts };
        fast_below = o.fast_below;
        once = omega (arith, back_own x (queue_of t) unnamed);
        flagged = λ e. sym (back_own x (queue_of t) unnamed);
        rest = λ y n. back_other x y (queue_of t) n;
        window = λ e v. windows_pushed_back t r o (suc x) x x (λ q. omega arith) w.is_issued w.registered v;
        windows = windows_pushed_back t r o x x;
        lane_count = refl;
        living_count = refl;
      }

  stores_enqueued : Stores (enqueue t x) r
  stores_enqueued = stores_after_lem t r (enqueue t x) r o x w.is_issued (queued_lane old) _ _ step_enqueued owes_enqueued o.rings_room

-- the words' test is the rules'
module _ (t r : List ℕ) (o : Stores t r) (x : ℕ) (h : x < issued t) where
  abbrev lane : Lane
  lane = lane_at t x

  none_queued : (n : ℕ) → eqb n 0 ≡ not (leb 1 n)
  none_queued zero = refl
  none_queued (suc n) = rw (ne_eqb (suc n) 0 (λ e. omega arith), le-leb 1 (suc n) (omega arith))

  pub may_queue_alike : may_queue (lane_at t x) ≡ states.may_queue (view t r) x
  unfolding may_queue states.may_queue slot_at view
  may_queue_alike =
      go (flag lane.registered) refl
      ∙ ap (λ (m : Slot). both m.registered (both (not m.paused) (not (leb 1 (count x (queue_of t)))))) (sym (slot_in t r x h))
    where
      and_alike : (a b : Bool) → (a && b) ≡ both a b
      and_alike true b = refl
      and_alike false b = refl

      go : (b : Bool) → flag lane.registered ≡ b
          → (flag lane.registered && (eqb lane.paused 0 && eqb lane.queued 0)) ≡ both (flag lane.registered) (both (not (flag lane.paused)) (not (leb 1 (count x (queue_of t)))))
      go false e = rw e
      go true e =
          rw (e, idle_flag lane.paused (o.flags x h).paused_flag, o.named.flagged x h (eqb-true _ 1 e), none_queued (count x (queue_of t)))
          (and_alike (not (flag lane.paused)) (not (leb 1 (count x (queue_of t)))))

-- ---- all slots

-- After some slots: what the rules see is the state before with another queue, and the lanes from slot k on are as they were.
record Polled (t r u : List ℕ) (k : ℕ) (q : List ℕ) : Type 0 where
  stores : Stores u r
  same_issued : issued u ≡ issued t
  sees : view u r ≡ with_queue q (view t r)
  later : (y : ℕ) → k ≤ y → lane_at u y ≡ lane_at t y

-- one slot passes the rules' test, or not
keep_next : (p : ℕ → Bool) (k n : ℕ) (q : List ℕ) (b : Bool) → p k ≡ b → (q ++ if b (k ∷ []) []) ++ keep p (from (suc k) n) ≡ q ++ keep p (from k (suc n))
unfolding keep from
keep_next p k n q true e = rw e (append_assoc q (k ∷ []) (keep p (from (suc k) n)))
keep_next p k n q false e = rw (e, append-nil q) refl

keep_none : (p : ℕ → Bool) (k : ℕ) (q : List ℕ) → q ++ keep p (from k 0) ≡ q
unfolding keep from
keep_none p k q = append-nil q

module _ (t r : List ℕ) (o : Stores t r) where
  abbrev test : ℕ → Bool
  test = states.may_queue (view t r)

  poll_next : (u : List ℕ) (k : ℕ) (q : List ℕ) → Polled t r u k q → k < issued t → Polled t r (poll_slot u k) (suc k) (q ++ if (test k) (k ∷ []) [])
  poll_next u k q p h =
      let alike : may_queue (lane_at u k) ≡ test k = ap may_queue (p.later k (omega arith)) ∙ may_queue_alike t r o k h in
      let here : k < issued u = rw p.same_issued h in
      poll_slot_is (λ v. Polled t r v (suc k) (q ++ if (test k) (k ∷ []) [])) u k
      (λ e.
      let w : Wants u k = wants_queue u k here e in
      rw (sym alike ∙ e)
      (record {
        stores = stores_enqueued u r p.stores k w;
        same_issued = head_enqueued u k 0 refl refl ∙ p.same_issued;
        sees = view_enqueued u r p.stores.shaped k here (room u r p.stores k w) ∙ ap (λ (s : State). with_queue (s.queue ++ (k ∷ [])) s) p.sees;
        later = λ y l. other_enqueued u k y (ne_eqb y k (λ d. omega arith)) ∙ p.later y (omega arith);
      }))
      (λ e.
      rw (sym alike ∙ e, append-nil q)
      (record { stores = p.stores; same_issued = p.same_issued; sees = p.sees; later = λ y l. p.later y (omega arith) }))

  poll_from : (n k : ℕ) (u : List ℕ) (q : List ℕ) → Polled t r u k q → k + n ≤ issued t → Polled t r (for_slots poll_slot n k u) (k + n) (q ++ keep test (from k n))
  unfolding for_slots
  poll_from zero k u q p h = let e : k + 0 ≡ k = omega arith in rw (e, keep_none test k q) p
  poll_from (suc n) k u q p h =
      let one : k + 1 ≡ suc k = omega arith in
      let sum : k + suc n ≡ suc k + n = omega arith in
      rw (one, sum, ← keep_next test k n q (test k) refl)
      (poll_from n (suc k) (poll_slot u k) (q ++ if (test k) (k ∷ []) []) (poll_next u k q p (omega arith)) (omega arith))

  polled_all : Polled t r (poll_slots t) (issued t) ((view t r).queue ++ keep test (from 0 (issued t)))
  unfolding poll_slots
  polled_all =
      let zero_sum : 0 + issued t ≡ issued t = omega arith in
      rw zero_sum at
      (poll_from (issued t) 0 t (view t r).queue (record { stores = o; same_issued = refl; sees = refl; later = λ y l. refl }) (omega arith))

pub poll_all_lanes_alike : (t r : List ℕ) → StoreInOrder t r → seen (poll_all_lanes t r) ≡ (rules.poll_all_lanes (view t r)).1
unfolding poll_all_lanes rules.poll_all_lanes view
poll_all_lanes_alike t r o =
    refused_alike (receiver_verdict t) _ t r (Done, poll_slots t, r) (says Done _) (receiver_verdict_lem t r)
    (λ e. ap (λ (s : State). (Done, s)) (polled_all t r o.stores).sees)

pub poll_all_lanes_keeps : (t r : List ℕ) → StoreInOrder t r → Stores (poll_all_lanes t r).1 (poll_all_lanes t r).2
unfolding poll_all_lanes
poll_all_lanes_keeps t r o =
    unless_refused_case (λ w. Stores w.1 w.2) (receiver_verdict t) t r (Done, poll_slots t, r) (λ why e. o.stores)
    (λ e. (polled_all t r o.stores).stores)
