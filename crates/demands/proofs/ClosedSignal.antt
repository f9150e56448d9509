-- A closed lane's signal is kept while its sender lives: no call touches the slot but a drop of that sender.
-- Assumes nothing.
use mathlib.Core.Path.{◌≡◌, refl, ap, sym, subst, ◌∙◌}
use mathlib.Core.Logic.{◌≢◌}
use mathlib.Core.Bool.{Bool, true, false, not}
use mathlib.Core.List.{List, [], ◌∷◌, ◌++◌}
use Prim.Native.Nat.{ℕ, zero, suc}
use native.Mathlib.Omega.{arith}
use lib.Dec.{eqb, leb}
use borrow.Author.Tests.{eqb-true, ne_eqb}
use Rattle.model.specs.declared.LaneKey.{LaneKey}
use Rattle.model.specs.declared.LaneId.{LaneId}
use Rattle.model.specs.declared.SenderCall.TheVariants.{RegisterSender, TrySend, TrySendUnsignaled, DropSender}
use Rattle.model.specs.declared.ReceiveCall.{ReceiveCall}
use Rattle.model.specs.declared.ReceiveCall.TheVariants.{TryRecv, TryRecvFair, TryRecvFrom, TryRecvBatchInto, TryRecvBatchIntoWhile}
use Rattle.model.specs.declared.ControlCall.{ControlCall}
use Rattle.model.specs.declared.ControlCall.TheVariants.{Pause, Resume, CloseLane, ReleaseConsumed, PollAllLanes, CloseReceiver, CountHeld}
use Rattle.model.specs.declared.Call.{Call}
use Rattle.model.specs.declared.Call.TheVariants.{Sender, Receive, Control}
use Rattle.model.specs.declared.Refusal.TheVariants.{NoSuchSender}
use Rattle.model.specs.declared.Answer.TheVariants.{Done, Empty, Refused}
use Rattle.model.specs.Lists.{if, both, either, non_empty, count, keep, from, without}
use Rattle.model.specs.State.{Slot, State, may_queue, living_senders, key_of, sender_lives, has_lane, same_opening, has_lane_id}
use Rattle.model.specs.Changes.{with_queue, with_budget, put, signalled, unmarked, sender_dropped}
use Rattle.model.specs.Ready.{group_of, marks, is_ready, collect_marks, collect_group, groups_round, collect_first, collect_each, collect_ready_group, collect_ready}
use Rattle.model.specs.Turn.{retire_lane, retire_lane_if, settle_empty, before_next_turn, run_down_from, run_down, give_item, give_oldest, give_front, collect_if_due, collect_if_none_queued, polled, take_one, take_fair}
use Rattle.model.specs.Outcome.{Outcome, says, unless}
use Rattle.model.specs.Runs.{same_key}
use Rattle.model.specs.Sender.{clear_slots, issue_slot, register_sender, try_send, try_send_unsignaled, drop_sender, sender_outcome}
use Rattle.model.specs.Receive.{retire_empty_paused_lanes, empty_or_drained, nothing_taken, answer_one, queue_lane_if, take_from, and_more, take_up_to, release_all, answer_items, receive_outcome, try_recv, try_recv_fair, try_recv_from, try_recv_batch_into, take_while, answer_while, try_recv_batch_into_while, halted}
use Rattle.model.specs.Control.{pause, resume_if, resume, close_lane, release_consumed, poll_all_lanes, close_receiver, count_held, control_outcome}
use Rattle.model.specs.Rules.{outcome}
use Rattle.model.specs.Order.{InOrder}
use Rattle.model.specs.Viewed.{rules_viewed}
use Rattle.model.specs.Signals.{drops_sender, ClosedAfter, ClosedSignalKept}
use Rattle.demands.proofs.Counting.{equal, other, same?, self, no, both_true, not_false, count_append, keep_out}
use Rattle.demands.proofs.LedgerLaws.{alike, unlike, keys?}
use Rattle.demands.proofs.ClearSlots.{clear_slot}
use Rattle.demands.proofs.Moves.{unless_law}
use Rattle.demands.proofs.StopLaws.{while_law}

module _ (x : ℕ) where
  -- no lane is registered in slot x, nor queued
  record Away (s : State) : Type 0 where
    unregistered : (s.slot_of x).registered ≡ false
    unqueued : count x s.queue ≡ 0

  -- what is kept of such a slot from s to u
  record Kept (s u : State) : Type 0 where
    away : Away u
    signal : (u.slot_of x).pending ≡ (s.slot_of x).pending
    lives : (u.slot_of x).living ≡ (s.slot_of x).living
    generation : (u.slot_of x).generation ≡ (s.slot_of x).generation

  abbrev Keeps : State → State → Type 0
  Keeps s u = Away s → Kept s u

  unchanged : (s : State) → Keeps s s
  unchanged s a = record { away = a; signal = refl; lives = refl; generation = refl }

  trans : {s t u : State} → Keeps s t → Keeps t u → Keeps s u
  trans f g a =
      let p = f a in
      let q = g p.away in
      record { away = q.away; signal = q.signal ∙ p.signal; lives = q.lives ∙ p.lives; generation = q.generation ∙ p.generation }

  -- the slot is as it was, and the queue does not name it
  keeps_slot : {s u : State} → u.slot_of x ≡ s.slot_of x → count x u.queue ≡ 0 → Keeps s u
  keeps_slot {s} {u} e n a = record {
    away = record { unregistered = ap (λ (l : Slot). l.registered) e ∙ a.unregistered; unqueued = n };
    signal = ap (λ (l : Slot). l.pending) e;
    lives = ap (λ (l : Slot). l.living) e;
    generation = ap (λ (l : Slot). l.generation) e;
  }

  put_other : (s : State) (y : ℕ) (l : Slot) → y ≢ x → (put y l s).slot_of x ≡ s.slot_of x
  put_other s y l d = rw (ne_eqb y x d)

  -- a registered lane is another
  not_it : (s : State) (y : ℕ) → Away s → (s.slot_of y).registered ≡ true → y ≢ x
  not_it s y a r e = no r (ap (λ (z : ℕ). (s.slot_of z).registered) e ∙ a.unregistered)

  -- the lane in front is another
  not_front : (y : ℕ) (q : List ℕ) → count x (y ∷ q) ≡ 0 → y ≢ x
  unfolding count
  not_front y q n = elim (same? x y) [ equal p e i ↦ absurd (omega arith) | other d e i ↦ λ e. d (sym e) ]

  not_behind : (y : ℕ) (q : List ℕ) → count x (y ∷ q) ≡ 0 → count x q ≡ 0
  unfolding count
  not_behind y q n = omega arith

  -- ---- retiring, settling, collecting

  retire_lane_if_keeps : (b : Bool) (y : ℕ) (s : State) → (b ≡ true → y ≢ x) → Keeps s (retire_lane_if b y s)
  unfolding retire_lane_if retire_lane
  retire_lane_if_keeps true y s d a = keeps_slot (put_other s y _ (d refl)) a.unqueued a
  retire_lane_if_keeps false y s d a = unchanged s a

  settle_empty_keeps : (y : ℕ) (q : List ℕ) (s : State) → y ≢ x → count x q ≡ 0 → Keeps s (settle_empty y q s)
  unfolding settle_empty
  settle_empty_keeps y q s d n = trans {t = with_queue q (put y _ s)} (keeps_slot (put_other s y _ d) n) (retire_lane_if_keeps (not (s.slot_of y).living) y _ (λ e. d))

  before_next_turn_keeps : (q : List ℕ) (s : State) → Keeps s (before_next_turn q s)
  unfolding before_next_turn
  before_next_turn_keeps [] s a = unchanged s a
  before_next_turn_keeps (y ∷ q) s a = keeps_slot refl a.unqueued a

  run_down_from_keeps : (q : List ℕ) (s : State) → count x q ≡ 0 → Keeps s (run_down_from q s)
  unfolding run_down_from
  run_down_from_keeps [] s n a = unchanged s a
  run_down_from_keeps (y ∷ q) s n a = go (non_empty (s.slot_of y).ring) (run_down_from_keeps q (before_next_turn q (settle_empty y q s)) (not_behind y q n)) a
    where
      t : State
      t = before_next_turn q (settle_empty y q s)

      go : (b : Bool) → Keeps t (run_down_from q t) → Keeps s (if b s (run_down_from q t))
      go true r a = unchanged s a
      go false r a = trans (trans (settle_empty_keeps y q s (not_front y q n) (not_behind y q n)) (before_next_turn_keeps q (settle_empty y q s))) r a

  run_down_keeps : (s : State) → Keeps s (run_down s)
  unfolding run_down
  run_down_keeps s a = run_down_from_keeps s.queue s a.unqueued a

  may_not_queue : (s : State) → Away s → may_queue s x ≡ false
  unfolding may_queue
  may_not_queue s a = rw a.unregistered

  not_ready : (s : State) → Away s → is_ready s x ≡ false
  unfolding is_ready
  not_ready s a = rw (may_not_queue s a) (never (s.slot_of x).pending)
    where
      never : (b : Bool) → both b false ≡ false
      never true = refl
      never false = refl

  collect_group_keeps : (s : State) (g : ℕ) → Keeps s (collect_group s g)
  unfolding collect_group collect_marks
  collect_group_keeps s g a = go (marks s g)
    where
      more : (l : List ℕ) → count x (s.queue ++ keep (is_ready s) l) ≡ 0
      more l = omega (arith, a.unqueued, count_append x s.queue (keep (is_ready s) l), keep_out (is_ready s) x l (not_ready s a))

      unmark : (b : Bool) (u : State) → u.slot_of x ≡ if b (unmarked (s.slot_of x)) (s.slot_of x) → count x u.queue ≡ 0 → Kept s u
      unmark true u e n = record {
        away = record { unregistered = ap (λ (l : Slot). l.registered) e ∙ a.unregistered; unqueued = n };
        signal = ap (λ (l : Slot). l.pending) e;
        lives = ap (λ (l : Slot). l.living) e;
        generation = ap (λ (l : Slot). l.generation) e;
      }
      unmark false u e n = keeps_slot e n a

      go : (m : List ℕ) → Kept s (collect_marks m s g)
      go [] = unchanged s a
      go (y ∷ m) = unmark (eqb (group_of x) g) _ refl (more (y ∷ m))

  collect_each_keeps : (gs : List ℕ) (s : State) → Keeps s (collect_each gs s)
  unfolding collect_each
  collect_each_keeps [] s a = unchanged s a
  collect_each_keeps (g ∷ gs) s a = trans (collect_group_keeps s g) (collect_each_keeps gs (collect_group s g)) a

  collect_ready_keeps : (s : State) → Keeps s (collect_ready s)
  unfolding collect_ready
  collect_ready_keeps s = collect_each_keeps (groups_round s) s

  collect_first_keeps : (gs : List ℕ) (s : State) → Keeps s (collect_first gs s)
  unfolding collect_first
  collect_first_keeps [] s a = unchanged s a
  collect_first_keeps (g ∷ gs) s a = go (non_empty (marks s g)) (collect_first_keeps gs s) a
    where
      go : (b : Bool) → Keeps s (collect_first gs s) → Keeps s (if b (collect_group s g) (collect_first gs s))
      go true r a = collect_group_keeps s g a
      go false r a = r a

  budget_keeps : (b : ℕ) (s : State) → Keeps s (with_budget b s)
  budget_keeps b s a = keeps_slot refl a.unqueued a

  collect_if_due_keeps : (n : ℕ) (q : List ℕ) (s : State) → Keeps s (collect_if_due n q s)
  unfolding collect_if_due collect_ready_group
  collect_if_due_keeps zero (y ∷ q) s a = trans (collect_first_keeps (groups_round s) s) (budget_keeps 64 _) a
  collect_if_due_keeps zero [] s a = unchanged s a
  collect_if_due_keeps (suc n) q s a = unchanged s a

  collect_if_none_keeps : (q : List ℕ) (s : State) → Keeps s (collect_if_none_queued q s)
  unfolding collect_if_none_queued
  collect_if_none_keeps [] s a = trans (collect_ready_keeps s) (run_down_keeps (collect_ready s)) a
  collect_if_none_keeps (y ∷ q) s a = unchanged s a

  polled_keeps : (s : State) → Keeps s (polled s)
  unfolding polled
  polled_keeps s = trans (trans (collect_if_due_keeps s.budget s.queue s) (run_down_keeps _)) (collect_if_none_keeps _ _)

  -- ---- items

  give_front_keeps : (f : Bool) (s : State) → Keeps s (give_front f s s.queue).1
  unfolding give_front give_oldest give_item count
  give_front_keeps f s a = front s.queue a.unqueued
    where
      front : (q : List ℕ) → count x q ≡ 0 → Kept s (give_front f s q).1
      front [] n = unchanged s a
      front (y ∷ q) n = item (s.slot_of y).ring
        where
          behind : (b : Bool) → count x (if b (q ++ (y ∷ [])) (y ∷ q)) ≡ 0
          behind true = omega (arith, n, count_append x q (y ∷ []))
          behind false = n

          item : (l : List ℕ) → Kept s (give_oldest s f y q l).1
          item [] = unchanged s a
          item (v ∷ vs) = keeps_slot (put_other s y _ (not_front y q n)) (behind (either f (leb 63 (s.slot_of y).burst))) a

  take_one_keeps : (s : State) → Keeps s (take_one s).1
  unfolding take_one
  take_one_keeps s = trans (polled_keeps s) (give_front_keeps false (polled s))

  take_fair_keeps : (s : State) → Keeps s (take_fair s).1
  unfolding take_fair
  take_fair_keeps s = trans (trans (trans (collect_ready_keeps s) (budget_keeps 64 (collect_ready s))) (run_down_keeps _)) (give_front_keeps true _)

  take_up_to_keeps : (m : ℕ) (s : State) → Keeps s (take_up_to m s).1
  unfolding take_up_to and_more
  take_up_to_keeps zero s a = unchanged s a
  take_up_to_keeps (suc m) s a = trans (take_one_keeps s) (go (take_one s).0 (take_up_to_keeps m (take_one s).1)) a
    where
      t : State
      t = (take_one s).1

      go : (l : List (LaneKey × ℕ)) → Keeps t (take_up_to m t).1 → Keeps t (and_more l t (take_up_to m t)).1
      go [] f a = unchanged t a
      go (g ∷ l) f a = f a

  release_all_keeps : (s : State) → Keeps s (release_all s)
  unfolding release_all
  release_all_keeps s a = record { away = record { unregistered = a.unregistered; unqueued = a.unqueued }; signal = refl; lives = refl; generation = refl }

  -- ---- nothing taken

  retire_empty_paused_keeps : (xs : List ℕ) (s : State) → Keeps s (retire_empty_paused_lanes xs s)
  unfolding retire_empty_paused_lanes
  retire_empty_paused_keeps [] s a = unchanged s a
  retire_empty_paused_keeps (y ∷ ys) s a = trans (retire_lane_if_keeps _ y s (λ e. not_it s y a (both_true (s.slot_of y).registered _ e).0)) (retire_empty_paused_keeps ys _) a

  nothing_taken_keeps : (s : State) → Keeps s (nothing_taken s).1.1
  unfolding nothing_taken empty_or_drained
  nothing_taken_keeps s = go (leb 1 (living_senders s))
    where
      go : (b : Bool) → Keeps s (if b (says Empty s) (empty_or_drained (retire_empty_paused_lanes (from 0 s.issued) s))).1.1
      go true a = unchanged s a
      go false a = retire_empty_paused_keeps (from 0 s.issued) s a

  answer_one_keeps : (l : List (LaneKey × ℕ)) (s : State) → Keeps s (answer_one l s).1.1
  unfolding answer_one
  answer_one_keeps [] s a = nothing_taken_keeps s a
  answer_one_keeps (g ∷ l) s a = unchanged s a

  answer_items_keeps : (m : ℕ) (l : List (LaneKey × ℕ)) (s : State) → Keeps s (answer_items m l s).1.1
  unfolding answer_items
  answer_items_keeps zero l s a = unchanged s a
  answer_items_keeps (suc m) [] s a = nothing_taken_keeps s a
  answer_items_keeps (suc m) (g ∷ l) s a = unchanged s a

  -- ---- calls by lane id

  has_lane_lem : (s : State) (i : LaneId) → Away s → has_lane_id s i ≡ true → i.key.slot ≢ x
  unfolding has_lane_id has_lane
  has_lane_lem s i a e = not_it s i.key.slot a (both_true (s.slot_of i.key.slot).registered _ (both_true (same_opening i.channel s.channel) _ e).1).0

  keep_none : (p : ℕ → Bool) (q : List ℕ) → count x q ≡ 0 → count x (keep p q) ≡ 0
  unfolding count keep
  keep_none p [] n = refl
  keep_none p (y ∷ q) n = go (p y) (keep_none p q (omega arith))
    where
      go : (b : Bool) → count x (keep p q) ≡ 0 → count x (if b (y ∷ keep p q) (keep p q)) ≡ 0
      go true r = omega (arith, n)
      go false r = r

  without_none : (y : ℕ) (q : List ℕ) → count x q ≡ 0 → count x (without y q) ≡ 0
  unfolding without
  without_none y q n = keep_none _ q n

  take_from_keeps : (l : List ℕ) (y : ℕ) (s : State) → y ≢ x → Keeps s (take_from l y s).1.1
  unfolding take_from queue_lane_if count
  take_from_keeps [] y s d a = settle_empty_keeps y (without y s.queue) s d (without_none y s.queue a.unqueued) a
  take_from_keeps (v ∷ vs) y s d a = trans {t = put y _ s} (keeps_slot (put_other s y _ d) a.unqueued) (queued (may_queue s y) (put y _ s)) a
    where
      queued : (b : Bool) (u : State) → Keeps u (queue_lane_if b y u)
      queued true u a = keeps_slot (put_other u y _ d) (omega (arith, a.unqueued, count_append x u.queue (y ∷ []), elsewhere)) a
        where
          elsewhere : count x (y ∷ []) ≡ 0
          elsewhere = elim (same? x y) [ equal p e i ↦ absurd (d (sym p)) | other n e i ↦ omega arith ]
      queued false u a = unchanged u a

  abbrev Leaves : State → Outcome → Type 0
  Leaves s o = Kept s o.1.1

  while_keeps : (b m : ℕ) (s : State) → let t = take_while b m s in Keeps s (answer_while m t.0 t.1.0 (release_all t.1.1)).1.1
  unfolding answer_while halted
  while_keeps b m s =
      while_law (λ t es. Keeps s (answer_while m t.0 t.1.0 (release_all t.1.1)).1.1) b m s
      (λ all. trans (trans (take_up_to_keeps m s) (release_all_keeps _)) (answer_items_keeps m _ _))
      (λ k w. trans (trans (trans (take_up_to_keeps k s) (polled_keeps (take_up_to k s).1)) (budget_keeps _ (polled (take_up_to k s).1))) (release_all_keeps _))

  receive_keeps : (s : State) (r : ReceiveCall) → Away s → Leaves s (receive_outcome s r)
  unfolding receive_outcome try_recv try_recv_fair try_recv_from try_recv_batch_into try_recv_batch_into_while
  receive_keeps s TryRecv a = unless_law (Leaves s) _ s _ (λ n. unchanged s a) (λ p. trans (take_one_keeps s) (answer_one_keeps _ _) a)
  receive_keeps s TryRecvFair a = unless_law (Leaves s) _ s _ (λ n. unchanged s a) (λ p. trans (take_fair_keeps s) (answer_one_keeps _ _) a)
  receive_keeps s (TryRecvFrom i) a = unless_law (Leaves s) _ s _ (λ n. unchanged s a) (λ p. take_from_keeps _ _ s (has_lane_lem s i a (not_false p.1.0)) a)
  receive_keeps s (TryRecvBatchInto m n) a = unless_law (Leaves s) _ s _ (λ n. unchanged s a) (λ p. trans (trans (take_up_to_keeps m s) (release_all_keeps _)) (answer_items_keeps m _ _) a)
  receive_keeps s (TryRecvBatchIntoWhile m b n) a = unless_law (Leaves s) _ s _ (λ n. unchanged s a) (λ p. while_keeps b m s a)

  control_keeps : (s : State) (c : ControlCall) → Away s → Leaves s (control_outcome s c)
  unfolding control_outcome pause resume resume_if close_lane release_consumed poll_all_lanes close_receiver count_held retire_lane count
  control_keeps s (Pause i) a = unless_law (Leaves s) _ s _ (λ n. unchanged s a) (λ p. keeps_slot (put_other s _ _ (has_lane_lem s i a (not_false p.1.0))) (without_none _ s.queue a.unqueued) a)
  control_keeps s (Resume i) a = unless_law (Leaves s) _ s _ (λ n. unchanged s a) (λ p. go (s.slot_of i.key.slot).paused (has_lane_lem s i a (not_false p.1.0)))
    where
      y : ℕ
      y = i.key.slot

      go : (b : Bool) → y ≢ x → Kept s (resume_if b y s)
      go true d = keeps_slot (put_other s y _ d) (omega (arith, a.unqueued, count_append x s.queue (y ∷ []), elsewhere)) a
        where
          elsewhere : count x (y ∷ []) ≡ 0
          elsewhere = elim (same? x y) [ equal p e i ↦ absurd (d (sym p)) | other n e i ↦ omega arith ]
      go false d = unchanged s a
  control_keeps s (CloseLane i) a = unless_law (Leaves s) _ s _ (λ n. unchanged s a) (λ p. keeps_slot (put_other s _ _ (has_lane_lem s i a (not_false p.1.0))) (without_none _ s.queue a.unqueued) a)
  control_keeps s ReleaseConsumed a = unless_law (Leaves s) _ s _ (λ n. unchanged s a) (λ p. release_all_keeps s a)
  control_keeps s PollAllLanes a =
      unless_law (Leaves s) _ s _ (λ n. unchanged s a)
      (λ p. keeps_slot refl (omega (arith, a.unqueued, count_append x s.queue (keep (may_queue s) (from 0 s.issued)), keep_out (may_queue s) x (from 0 s.issued) (may_not_queue s a))) a)
  control_keeps s CloseReceiver a = unless_law (Leaves s) _ s _ (λ n. unchanged s a) (λ p. keeps_slot refl a.unqueued a)
  control_keeps s CountHeld a = unchanged s a

-- ---- every call

away_of : (s : State) (x : ℕ) → InOrder s → (s.slot_of x).registered ≡ false → Away x s
away_of s x i r = record { unregistered = r; unqueued = go (count x s.queue) refl }
  where
    go : (n : ℕ) → count x s.queue ≡ n → n ≡ 0
    go zero e = refl
    go (suc n) e = absurd (no ((i.ordered.each_slot x).queued_registered (omega arith)) r)

-- a call that is no drop of this sender, and keeps the slot
kept_after : (s : State) (c : Call) (x : ℕ) → (s.slot_of x).living ≡ true → drops_sender (key_of s x) c ≡ false → Kept x s (outcome s c).1.1 → ClosedAfter rules_viewed s c x
kept_after s c x l e k = record {
  signal_kept = λ f. k.signal;
  drop_marks = λ f. absurd (no f e);
  stays_closed = λ f. k.away.unregistered;
  still_lives = λ f. k.lives ∙ l;
  same_key = ap (λ (g : ℕ). record { slot = x; generation = g }) k.generation;
}

register_keeps : (s : State) (x m : ℕ) → InOrder s → (s.slot_of x).living ≡ true → Away x s → Leaves x s (register_sender s m)
unfolding register_sender issue_slot
register_keeps s x m i l a = unless_law (Leaves x s) _ s _ (λ n. unchanged x s a) (λ p. go (clear_slots s) refl)
  where
    go : (f : List ℕ) → clear_slots s ≡ f → Leaves x s (issue_slot f s)
    go [] e = keeps_slot x (put_other x s s.issued _ (λ e. omega (arith, (i.ordered.each_slot x).living_issued l))) a.unqueued a
    go (y ∷ f) e = keeps_slot x (put_other x s y _ (λ q. no l (ap (λ (z : ℕ). (s.slot_of z).living) (sym q) ∙ (clear_slot s y f e).clear))) a.unqueued a

-- a send is to a registered lane
send_keeps : (s : State) (x : ℕ) (k : LaneKey) (v : ℕ) → Away x s → Leaves x s (try_send s k v)
unfolding try_send
send_keeps s x k v a =
    unless_law (Leaves x s) _ s _ (λ n. unchanged x s a)
    (λ p. keeps_slot x (put_other x s k.slot _ (not_it x s k.slot a (both_true s.is_open (s.slot_of k.slot).registered (not_false p.1.0)).1)) a.unqueued a)

send_unsignaled_keeps : (s : State) (x : ℕ) (k : LaneKey) (v : ℕ) → Away x s → Leaves x s (try_send_unsignaled s k v)
unfolding try_send_unsignaled
send_unsignaled_keeps s x k v a =
    unless_law (Leaves x s) _ s _ (λ n. unchanged x s a)
    (λ p. keeps_slot x (put_other x s k.slot _ (not_it x s k.slot a (both_true s.is_open (s.slot_of k.slot).registered (not_false p.1.0)).1)) a.unqueued a)

drop_other_keeps : (s : State) (x : ℕ) (k : LaneKey) → k ≢ key_of s x → Away x s → Leaves x s (drop_sender s k)
unfolding drop_sender sender_lives
drop_other_keeps s x k d a =
    unless_law (Leaves x s) _ s _ (λ n. unchanged x s a)
    (λ p. keeps_slot x (put_other x s k.slot _ (λ q. d (same_key_of q (both_true (s.slot_of k.slot).living _ (not_false p.0)).1))) a.unqueued a)
  where
    same_key_of : k.slot ≡ x → eqb (s.slot_of k.slot).generation k.generation ≡ true → k ≡ key_of s x
    same_key_of q e n = record { slot = q n; generation = (sym (eqb-true (s.slot_of k.slot).generation k.generation e) ∙ ap (λ (z : ℕ). (s.slot_of z).generation) q) n }

put_own : (s : State) (x : ℕ) (l : Slot) → (put x l s).slot_of x ≡ l
put_own s x l = rw (self x)

-- a drop of this sender, and of another
drop_after : (s : State) (x : ℕ) (k : LaneKey) → (s.slot_of x).living ≡ true → Away x s → ClosedAfter rules_viewed s (Sender (DropSender k)) x
unfolding outcome sender_outcome drop_sender drops_sender unless sender_lives
drop_after s x k l a = elim (keys? k (key_of s x)) [
  | alike p e ↦ subst (λ (j : LaneKey). ClosedAfter rules_viewed s (Sender (DropSender j)) x) (sym p) own
  | unlike d e ↦ kept_after s (Sender (DropSender k)) x l e (drop_other_keeps s x k d a)
]
  where
    accepted_drop : not (sender_lives s (key_of s x)) ≡ false
    accepted_drop = rw (l, self (s.slot_of x).generation)

    dropped : Slot
    dropped = signalled (sender_dropped (s.slot_of x))

    slot_after : (outcome s (Sender (DropSender (key_of s x)))).1.1.slot_of x ≡ dropped
    slot_after = ap (λ (b : Bool). (if b (says (Refused NoSuchSender) s) (says Done (put x dropped s))).1.1.slot_of x) accepted_drop ∙ put_own s x dropped

    itself : same_key (key_of s x) (key_of s x) ≡ true
    itself = elim (keys? (key_of s x) (key_of s x)) [ alike p e ↦ e | unlike d e ↦ absurd (d refl) ]

    own : ClosedAfter rules_viewed s (Sender (DropSender (key_of s x))) x
    own = record {
      signal_kept = λ f. absurd (no itself f);
      drop_marks = λ f. ap (λ (l : Slot). l.pending) slot_after;
      stays_closed = λ f. absurd (no itself f);
      still_lives = λ f. absurd (no itself f);
      same_key = ap (λ (l : Slot). record { slot = x; generation = l.generation }) slot_after;
    }

pub closed_signal_kept : ClosedSignalKept rules_viewed
unfolding ClosedSignalKept outcome drops_sender sender_outcome
closed_signal_kept s c x i r l = go c
  where
    a : Away x s
    a = away_of s x i r

    go : (c : Call) → ClosedAfter rules_viewed s c x
    go (Sender (RegisterSender m)) = kept_after s (Sender (RegisterSender m)) x l refl (register_keeps s x m i l a)
    go (Sender (TrySend k v)) = kept_after s (Sender (TrySend k v)) x l refl (send_keeps s x k v a)
    go (Sender (TrySendUnsignaled k v)) = kept_after s (Sender (TrySendUnsignaled k v)) x l refl (send_unsignaled_keeps s x k v a)
    go (Sender (DropSender k)) = drop_after s x k l a
    go (Receive c) = kept_after s (Receive c) x l refl (receive_keeps x s c a)
    go (Control c) = kept_after s (Control c) x l refl (control_keeps x s c a)
