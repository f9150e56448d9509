-- A plain, fair or non-zero batch receive answers Disconnected exactly if nothing is handed out and no sender and no lane is left;
-- empty paused lanes are retired first, and one that holds items is kept. A targeted one answers so of a drained lane.
-- Assumes nothing.
use mathlib.Core.Path.{◌≡◌, refl, ap, sym, ◌∙◌}
use mathlib.Core.Logic.{◌≢◌, ◌⊎◌, inl, inr}
use mathlib.Core.Bool.{Bool, true, false, not}
use mathlib.Core.List.{List, [], ◌∷◌}
use Prim.Native.Nat.{ℕ, zero, suc, ◌≤◌, ◌<◌}
use native.Mathlib.Omega.{arith}
use lib.ListN.{length}
use lib.Dec.{eqb, leb}
use borrow.Author.Tests.{leb-true, leb-false}
use Rattle.model.specs.declared.LaneKey.{LaneKey}
use Rattle.model.specs.declared.LaneId.{LaneId}
use Rattle.model.specs.declared.ReceiveCall.{ReceiveCall}
use Rattle.model.specs.declared.ReceiveCall.TheVariants.{TryRecv, TryRecvFair, TryRecvFrom, TryRecvBatchInto, TryRecvBatchIntoWhile}
use Rattle.model.specs.declared.Call.TheVariants.{Receive}
use Rattle.model.specs.declared.Refusal.{Refusal}
use Rattle.model.specs.declared.Answer.{Answer}
use Rattle.model.specs.declared.Answer.TheVariants.{Done, Registered, Taken, Item, Items, Stopped, Empty, Disconnected, Held, Refused}
use Rattle.model.specs.Lists.{if, both, same, count, keep, from, non_empty}
use Rattle.model.specs.State.{Slot, State, registered_lanes, living_senders, has_lane_id}
use Rattle.model.specs.Changes.{with_queue, with_budget, put, settled_empty, retired, unmarked}
use Rattle.model.specs.Ready.{group_of, marks, collect_marks, collect_group, groups_round, collect_first, collect_each, collect_ready_group, collect_ready}
use Rattle.model.specs.Turn.{retire_lane, retire_lane_if, settle_empty, before_next_turn, run_down_from, run_down, Took, collect_if_due, collect_if_none_queued, polled, take_one, take_fair}
use Rattle.model.specs.Outcome.{Outcome, says, unless}
use Rattle.model.specs.Runs.{accepted}
use Rattle.model.specs.Receive.{retire_empty_paused_lanes, empty_or_drained, nothing_taken, answer_one, take_from, and_more, take_up_to, release_all, answer_items, try_recv, try_recv_fair, try_recv_from, try_recv_batch_into, receive_outcome, take_while, answer_while, try_recv_batch_into_while, halted}
use Rattle.model.specs.Rules.{outcome}
use Rattle.model.specs.Order.{Ordered}
use Rattle.model.specs.Viewed.{rules_viewed, rules_on_any_state}
use Rattle.model.specs.Stretch.{looks, says_stopped}
use Rattle.model.specs.Disconnected.{NoSenderLives, NoLaneRegistered, DisconnectedExactly, EmptyOnesRetired, RetiresEmptyPaused, SameLane, EmptyWithPausedItems, PausedWithItems, OnlyPausedItemsLeft, LaneDrained, TargetedDisconnectedExactly}
use Rattle.demands.proofs.Counting.{Same, equal, other, same?, no, not_true, not_false, keep_in, from_in}
use Rattle.demands.proofs.OrderKept.{release_all_ordered, retire_empty_paused_ordered, front_registered, polled_ordered, take_up_to_ordered}
use Rattle.demands.proofs.Quiet.{Quiet, stays, goes, Quietly, trans, poll, poll_quiet, poll_ordered, release_all_quiet, retire_empty_paused_quiet}
use Rattle.demands.proofs.Signals.{Signal, SignalsKept, poll_signals, release_all_signals, run_signals, poll_unmarked}
use Rattle.demands.proofs.Moves.{NoneApplies, unless_law, TakeResult, took_none, took_one, take_one_taken, take_fair_taken}
use Rattle.demands.proofs.StopLaws.{while_law}

-- what keeps the living flags, and retires only lanes whose sender is dropped
record DroppedOnly (s u : State) : Type 0 where
  livings : (y : ℕ) → (u.slot_of y).living ≡ (s.slot_of y).living
  dropped : (y : ℕ) → (s.slot_of y).registered ≡ true → (u.slot_of y).registered ≡ false → (s.slot_of y).living ≡ false

dropped_none : (s : State) → DroppedOnly s s
dropped_none s = record { livings = λ y. refl; dropped = λ y r n. absurd (no r n) }

-- the slots are as they were, in what is looked at here
dropped_same : {s u : State} → ((y : ℕ) → (u.slot_of y).living ≡ (s.slot_of y).living) → ((y : ℕ) → (u.slot_of y).registered ≡ (s.slot_of y).registered) → DroppedOnly s u
dropped_same l r = record { livings = l; dropped = λ y a b. absurd (no a (sym (r y) ∙ b)) }

dropped_trans : {s t u : State} → DroppedOnly s t → DroppedOnly t u → DroppedOnly s u
dropped_trans {s} {t} {u} a b = record { livings = λ y. b.livings y ∙ a.livings y; dropped = λ y r n. go y (t.slot_of y).registered refl r n }
  where
    go : (y : ℕ) (c : Bool) → (t.slot_of y).registered ≡ c → (s.slot_of y).registered ≡ true → (u.slot_of y).registered ≡ false → (s.slot_of y).living ≡ false
    go y true e r n = sym (a.livings y) ∙ b.dropped y e n
    go y false e r n = a.dropped y r e

put_living : (s : State) (x : ℕ) (l : Slot) → l.living ≡ (s.slot_of x).living → (y : ℕ) → ((put x l s).slot_of y).living ≡ (s.slot_of y).living
put_living s x l h y = elim (same? x y) [ equal p e i ↦ rw (e, ← p) h | other d e i ↦ rw e ]

put_registered : (s : State) (x : ℕ) (l : Slot) → l.registered ≡ (s.slot_of x).registered → (y : ℕ) → ((put x l s).slot_of y).registered ≡ (s.slot_of y).registered
put_registered s x l h y = elim (same? x y) [ equal p e i ↦ rw (e, ← p) h | other d e i ↦ rw e ]

retire_if_dropped : (b : Bool) (x : ℕ) (s : State) → (b ≡ true → (s.slot_of x).living ≡ false) → DroppedOnly s (retire_lane_if b x s)
unfolding retire_lane_if retire_lane
retire_if_dropped false x s h = dropped_none s
retire_if_dropped true x s h = record { livings = put_living s x (retired (s.slot_of x)) refl; dropped = λ y r n. go y (same? x y) r n }
  where
    go : (y : ℕ) → Same x y → (s.slot_of y).registered ≡ true → ((put x (retired (s.slot_of x)) s).slot_of y).registered ≡ false → (s.slot_of y).living ≡ false
    go y (equal p e i) r n = ap (λ (z : ℕ). (s.slot_of z).living) (sym p) ∙ h refl
    go y (other d e i) r n = absurd (no r (rw e at n))

settle_empty_dropped : (x : ℕ) (q : List ℕ) (s : State) → DroppedOnly s (settle_empty x q s)
unfolding settle_empty
settle_empty_dropped x q s =
    let t = with_queue q (put x (settled_empty (s.slot_of x)) s) in
    dropped_trans {t = t} (dropped_same (put_living s x (settled_empty (s.slot_of x)) refl) (put_registered s x (settled_empty (s.slot_of x)) refl))
    (retire_if_dropped (not (s.slot_of x).living) x t (λ e. put_living s x (settled_empty (s.slot_of x)) refl x ∙ not_true e))

before_next_turn_dropped : (q : List ℕ) (s : State) → DroppedOnly s (before_next_turn q s)
unfolding before_next_turn
before_next_turn_dropped [] s = dropped_none s
before_next_turn_dropped (y ∷ q) s = dropped_same (λ y. refl) (λ y. refl)

run_down_from_dropped : (q : List ℕ) (s : State) → DroppedOnly s (run_down_from q s)
unfolding run_down_from
run_down_from_dropped [] s = dropped_none s
run_down_from_dropped (y ∷ q) s = go (non_empty (s.slot_of y).ring) (run_down_from_dropped q (before_next_turn q (settle_empty y q s)))
  where
    go : (b : Bool) → DroppedOnly (before_next_turn q (settle_empty y q s)) (run_down_from q (before_next_turn q (settle_empty y q s))) → DroppedOnly s (if b s (run_down_from q (before_next_turn q (settle_empty y q s))))
    go true r = dropped_none s
    go false r = dropped_trans (dropped_trans (settle_empty_dropped y q s) (before_next_turn_dropped q (settle_empty y q s))) r

collect_group_dropped : (s : State) (g : ℕ) → DroppedOnly s (collect_group s g)
unfolding collect_group collect_marks
collect_group_dropped s g = go (marks s g)
  where
    living_of : (b : Bool) (l : Slot) → (if b (unmarked l) l).living ≡ l.living
    living_of true l = refl
    living_of false l = refl

    registered_of : (b : Bool) (l : Slot) → (if b (unmarked l) l).registered ≡ l.registered
    registered_of true l = refl
    registered_of false l = refl

    go : (m : List ℕ) → DroppedOnly s (collect_marks m s g)
    go [] = dropped_none s
    go (x ∷ m) = dropped_same (λ y. living_of (eqb (group_of y) g) (s.slot_of y)) (λ y. registered_of (eqb (group_of y) g) (s.slot_of y))

collect_each_dropped : (gs : List ℕ) (s : State) → DroppedOnly s (collect_each gs s)
unfolding collect_each
collect_each_dropped [] s = dropped_none s
collect_each_dropped (g ∷ gs) s = dropped_trans (collect_group_dropped s g) (collect_each_dropped gs (collect_group s g))

collect_first_dropped : (gs : List ℕ) (s : State) → DroppedOnly s (collect_first gs s)
unfolding collect_first
collect_first_dropped [] s = dropped_none s
collect_first_dropped (g ∷ gs) s = go (non_empty (marks s g)) (collect_first_dropped gs s)
  where
    go : (b : Bool) → DroppedOnly s (collect_first gs s) → DroppedOnly s (if b (collect_group s g) (collect_first gs s))
    go true r = collect_group_dropped s g
    go false r = r

collect_if_due_dropped : (n : ℕ) (q : List ℕ) (s : State) → DroppedOnly s (collect_if_due n q s)
unfolding collect_if_due collect_ready_group
collect_if_due_dropped zero (y ∷ q) s = dropped_trans (collect_first_dropped (groups_round s) s) (dropped_same (λ y. refl) (λ y. refl))
collect_if_due_dropped zero [] s = dropped_none s
collect_if_due_dropped (suc n) q s = dropped_none s

run_down_dropped : (s : State) → DroppedOnly s (run_down s)
unfolding run_down
run_down_dropped s = run_down_from_dropped s.queue s

collect_if_none_dropped : (q : List ℕ) (s : State) → DroppedOnly s (collect_if_none_queued q s)
unfolding collect_if_none_queued collect_ready
collect_if_none_dropped [] s = dropped_trans (collect_each_dropped (groups_round s) s) (run_down_dropped _)
collect_if_none_dropped (y ∷ q) s = dropped_none s

poll_dropped : (f : Bool) (s : State) → DroppedOnly s (poll f s)
unfolding poll polled collect_ready
poll_dropped true s = dropped_trans (dropped_trans (collect_each_dropped (groups_round s) s) (dropped_same {u = with_budget 64 (collect_each (groups_round s) s)} (λ y. refl) (λ y. refl))) (run_down_dropped _)
poll_dropped false s = dropped_trans (dropped_trans (collect_if_due_dropped s.budget s.queue s) (run_down_dropped _)) (collect_if_none_dropped _ _)

release_all_dropped : (s : State) → DroppedOnly s (release_all s)
unfolding release_all
release_all_dropped s = dropped_same (λ y. refl) (λ y. refl)

retire_empty_paused_dropped : (xs : List ℕ) (s : State) → NoSenderLives s → DroppedOnly s (retire_empty_paused_lanes xs s)
unfolding retire_empty_paused_lanes NoSenderLives
retire_empty_paused_dropped [] s n = dropped_none s
retire_empty_paused_dropped (x ∷ xs) s n =
    let d = retire_if_dropped _ x s (λ e. n x) in
    dropped_trans d (retire_empty_paused_dropped xs _ (λ y. d.livings y ∙ n y))

no_living : {s u : State} → DroppedOnly s u → NoSenderLives s → NoSenderLives u
unfolding NoSenderLives
no_living d n = λ y. d.livings y ∙ n y

-- a number of slots that is 0, and no slot at all
none_kept : (p : ℕ → Bool) (l : List ℕ) → ((y : ℕ) → p y ≡ false) → length (keep p l) ≡ 0
unfolding keep
none_kept p [] h = refl
none_kept p (x ∷ l) h = rw (h x) (none_kept p l h)

kept_none : (p : ℕ → Bool) (n : ℕ) → length (keep p (from 0 n)) ≡ 0 → ((y : ℕ) → p y ≡ true → y < n) → (y : ℕ) → p y ≡ false
unfolding count
kept_none p n z low y = go (p y) refl
  where
    empty : (l : List ℕ) → length l ≡ 0 → count y l ≡ 0
    empty [] e = refl
    empty (x ∷ l) e = absurd (omega arith)

    go : (b : Bool) → p y ≡ b → b ≡ false
    go true e = absurd (omega (arith, from_in y 0 n (omega arith) (omega (arith, low y e)), keep_in p y (from 0 n) e, empty (keep p (from 0 n)) z))
    go false e = refl

no_sender_of : (s : State) → Ordered s → living_senders s ≡ 0 → NoSenderLives s
unfolding living_senders NoSenderLives
no_sender_of s o z = kept_none (λ x. (s.slot_of x).living) s.issued z (λ y e. (o.each_slot y).living_issued e)

senders_zero : (s : State) → NoSenderLives s → living_senders s ≡ 0
unfolding living_senders NoSenderLives
senders_zero s h = none_kept (λ x. (s.slot_of x).living) (from 0 s.issued) h

no_lane_of : (s : State) → Ordered s → registered_lanes s ≡ 0 → NoLaneRegistered s
unfolding registered_lanes NoLaneRegistered
no_lane_of s o z = kept_none (λ x. (s.slot_of x).registered) s.issued z (λ y e. (o.each_slot y).registered_issued e)

lanes_zero : (s : State) → NoLaneRegistered s → registered_lanes s ≡ 0
unfolding registered_lanes NoLaneRegistered
lanes_zero s h = none_kept (λ x. (s.slot_of x).registered) (from 0 s.issued) h

-- the empty paused lanes of a list of slots are retired
empty_paused : Slot → Bool
empty_paused l = both l.registered (both l.paused (not (non_empty l.ring)))

slot_or_retired : (xs : List ℕ) (s : State) (y : ℕ) → ((retire_empty_paused_lanes xs s).slot_of y ≡ s.slot_of y) ⊎ (((retire_empty_paused_lanes xs s).slot_of y).registered ≡ false)
unfolding retire_empty_paused_lanes retire_lane_if retire_lane
slot_or_retired [] s y = inl refl
slot_or_retired (x ∷ xs) s y = go (both (s.slot_of x).registered (both (s.slot_of x).paused (not (non_empty (s.slot_of x).ring)))) (slot_or_retired xs)
  where
    retire : (u : State) → (u.slot_of y ≡ (retire_lane x s).slot_of y) ⊎ ((u.slot_of y).registered ≡ false) → (u.slot_of y ≡ s.slot_of y) ⊎ ((u.slot_of y).registered ≡ false)
    retire u (inr r) = inr r
    retire u (inl r) = elim (same? x y) [ equal p g i ↦ inr (ap (λ (l : Slot). l.registered) r ∙ rw g) | other d g i ↦ inl (r ∙ rw g) ]

    go : (b : Bool) → ((u : State) (y : ℕ) → ((retire_empty_paused_lanes xs u).slot_of y ≡ u.slot_of y) ⊎ (((retire_empty_paused_lanes xs u).slot_of y).registered ≡ false))
        → ((retire_empty_paused_lanes xs (retire_lane_if b x s)).slot_of y ≡ s.slot_of y) ⊎ (((retire_empty_paused_lanes xs (retire_lane_if b x s)).slot_of y).registered ≡ false)
    go true ih = retire (retire_empty_paused_lanes xs (retire_lane x s)) (ih (retire_lane x s) y)
    go false ih = ih s y

none_left_of : (xs : List ℕ) (s : State) (y : ℕ) → 1 ≤ count y xs → ((retire_empty_paused_lanes xs s).slot_of y).registered ≡ true → empty_paused ((retire_empty_paused_lanes xs s).slot_of y) ≡ false
unfolding retire_empty_paused_lanes retire_lane_if retire_lane count empty_paused
none_left_of [] s y h r = absurd (omega arith)
none_left_of (x ∷ xs) s y h r = elim (same? x y) [
  | other d e i ↦ none_left_of xs _ y (omega (arith, flip d)) r
  | equal p e i ↦ go (empty_paused (s.slot_of x)) refl e p r
]
  where
    flip : x ≢ y → same y x ≡ 0
    flip d = elim (same? y x) [ equal p e i ↦ absurd (d (sym p)) | other n e i ↦ i ]

    go : (b : Bool) → empty_paused (s.slot_of x) ≡ b → eqb x y ≡ true → x ≡ y → ((retire_empty_paused_lanes xs (retire_lane_if b x s)).slot_of y).registered ≡ true
        → empty_paused ((retire_empty_paused_lanes xs (retire_lane_if b x s)).slot_of y) ≡ false
    go true g e p r = elim (slot_or_retired xs (retire_lane x s) y) [
      | inl q ↦ absurd (no r (ap (λ (l : Slot). l.registered) q ∙ rw e))
      | inr q ↦ absurd (no r q)
    ]
    go false g e p r = elim (slot_or_retired xs s y) [ inl q ↦ ap empty_paused q ∙ ap (λ (z : ℕ). empty_paused (s.slot_of z)) (sym p) ∙ g | inr q ↦ absurd (no r q) ]

-- nothing was taken, and the state is p
data Nothing (p : State) : Outcome → Type 0 where
  sender_lives : 1 ≤ living_senders p → Nothing p ([], (Empty, p))
  lane_left : living_senders p ≡ 0 → 1 ≤ registered_lanes (retire_empty_paused_lanes (from 0 p.issued) p) → Nothing p ([], (Empty, retire_empty_paused_lanes (from 0 p.issued) p))
  none_left : living_senders p ≡ 0 → registered_lanes (retire_empty_paused_lanes (from 0 p.issued) p) ≡ 0 → Nothing p ([], (Disconnected, retire_empty_paused_lanes (from 0 p.issued) p))

nothing : (p : State) → Nothing p (nothing_taken p)
unfolding nothing_taken empty_or_drained
nothing p = go (leb 1 (living_senders p)) refl (leb 1 (registered_lanes (retire_empty_paused_lanes (from 0 p.issued) p))) refl
  where
    q : State
    q = retire_empty_paused_lanes (from 0 p.issued) p

    go : (b : Bool) → leb 1 (living_senders p) ≡ b → (c : Bool) → leb 1 (registered_lanes q) ≡ c → Nothing p (if b (says Empty p) (says (if c Empty Disconnected) q))
    go true e c f = sender_lives (leb-true 1 (living_senders p) e)
    go false e true f = lane_left (omega (arith, leb-false 1 (living_senders p) e)) (leb-true 1 (registered_lanes q) f)
    go false e false f = none_left (omega (arith, leb-false 1 (living_senders p) e)) (omega (arith, leb-false 1 (registered_lanes q) f))

-- what is known of the state p in which nothing was taken
record Polled (s p : State) : Type 0 where
  quiet : Quietly s p
  only_dropped : DroppedOnly s p
  ordered : Ordered s → Ordered p
  signals : SignalsKept s p
  none_queued : p.queue ≡ []
  none_marked : Ordered s → (y : ℕ) → (p.slot_of y).marked ≡ false

poll_none : (f : Bool) (s : State) → (poll f s).queue ≡ [] → Polled s (poll f s)
poll_none f s e = record { quiet = poll_quiet f s; only_dropped = poll_dropped f s; ordered = poll_ordered f s; signals = poll_signals f s; none_queued = e; none_marked = λ o. poll_unmarked f s o e }

release_none : (s p : State) → Polled s p → Polled s (release_all p)
unfolding release_all
release_none s p h = record {
  quiet = trans h.quiet (release_all_quiet p);
  only_dropped = dropped_trans h.only_dropped (release_all_dropped p);
  ordered = λ o. release_all_ordered p (h.ordered o);
  signals = λ y g. release_all_signals p y (h.signals y g);
  none_queued = h.none_queued;
  none_marked = h.none_marked;
}

-- what comes of a plain, fair or non-zero batch receive
data Looked (s : State) : Outcome → Type 0 where
  turned_away : (n : Refusal) → Looked s ([], (Refused n, s))
  Found : (g : LaneKey × ℕ) (l : List (LaneKey × ℕ)) (a : Answer) (t : State) → a ≢ Disconnected → Looked s (g ∷ l, (a, t))
  stopped : (l : List (LaneKey × ℕ)) (n : ℕ) (t : State) (y : ℕ) → (Ordered s → (t.slot_of y).registered ≡ true) → Looked s (l, (Stopped n, t))
  found_nothing : {p : State} {o : Outcome} → Polled s p → Nothing p o → Looked s o

is_disconnected : Answer → Bool
is_disconnected Disconnected = true
is_disconnected Done = false
is_disconnected (Registered k) = false
is_disconnected (Taken w f) = false
is_disconnected (Item v i) = false
is_disconnected (Items n) = false
is_disconnected (Stopped n) = false
is_disconnected Empty = false
is_disconnected (Held n) = false
is_disconnected (Refused r) = false

-- an answer that is not Disconnected
not_disconnected : {a : Answer} → is_disconnected a ≡ false → a ≢ Disconnected
unfolding is_disconnected
not_disconnected e p = no (ap is_disconnected p) e

one_looked : (f : Bool) (s : State) (t : Took) → TakeResult f s t → Looked s (answer_one t.0 t.1)
unfolding answer_one is_disconnected
one_looked f s t (took_none e) = found_nothing (poll_none f s e) (nothing (poll f s))
one_looked f s t (took_one y v q vs e g) = Found _ _ _ _ (not_disconnected refl)

batch_looked : (m : ℕ) (s : State) → Looked s (answer_items (suc m) (take_up_to (suc m) s).0 (release_all (take_up_to (suc m) s).1))
unfolding take_up_to and_more answer_items is_disconnected
batch_looked m s = go (take_one s) (take_one_taken s)
  where
    go : (t : Took) → TakeResult false s t → Looked s (answer_items (suc m) (and_more t.0 t.1 (take_up_to m t.1)).0 (release_all (and_more t.0 t.1 (take_up_to m t.1)).1))
    go t (took_none e) = found_nothing (release_none s (poll false s) (poll_none false s e)) (nothing (release_all (poll false s)))
    go t (took_one y v q vs e g) = Found _ _ _ _ (not_disconnected refl)

while_looked : (b m : ℕ) (s : State) → let t = take_while b (suc m) s in Looked s (answer_while (suc m) t.0 t.1.0 (release_all t.1.1))
unfolding answer_while halted release_all
while_looked b m s =
    while_law (λ t es. Looked s (answer_while (suc m) t.0 t.1.0 (release_all t.1.1))) b (suc m) s (λ all. batch_looked m s)
    (λ n w. stopped _ _ _ w.up.lane (λ o. front_registered (polled (take_up_to n s).1) w.up.lane w.up.others w.up.first (polled_ordered (take_up_to n s).1 (take_up_to_ordered n s o))))

looked : (s : State) (r : ReceiveCall) → looks (Receive r) ≡ true → Looked s (receive_outcome s r)
unfolding receive_outcome try_recv try_recv_fair try_recv_batch_into try_recv_batch_into_while looks
looked s TryRecv e = unless_law (Looked s) _ s _ turned_away (λ p. one_looked false s (take_one s) (take_one_taken s))
looked s TryRecvFair e = unless_law (Looked s) _ s _ turned_away (λ p. one_looked true s (take_fair s) (take_fair_taken s))
looked s (TryRecvBatchInto zero n) e = absurd (no e refl)
looked s (TryRecvBatchInto (suc m) n) e = unless_law (Looked s) _ s _ turned_away (λ p. batch_looked m s)
looked s (TryRecvBatchIntoWhile zero b n) e = absurd (no e refl)
looked s (TryRecvBatchIntoWhile (suc m) b n) e = unless_law (Looked s) _ s _ turned_away (λ p. while_looked b m s)
looked s (TryRecvFrom i) e = absurd (no e refl)

-- the theorems, said of the outcome
record DrainedIn (o : Outcome) : Type 0 where
  no_item : o.0 ≡ []
  no_sender : NoSenderLives o.1.1
  no_lane : NoLaneRegistered o.1.1

clash : {g : LaneKey × ℕ} {l : List (LaneKey × ℕ)} → g ∷ l ≡ [] → ⊥
clash e = absurd (omega (arith, ap length e))

disconnected_then : {s : State} {o : Outcome} → Ordered s → Looked s o → o.1.0 ≡ Disconnected → DrainedIn o
unfolding is_disconnected
disconnected_then o (turned_away n) e = absurd (not_disconnected {a = Refused n} refl e)
disconnected_then o (Found g l a t h) e = absurd (h e)
disconnected_then o (stopped l n t y h) e = absurd (not_disconnected {a = Stopped n} refl e)
disconnected_then o (found_nothing {p} k m) e = go m e
  where
    go : {q : Outcome} → Nothing p q → q.1.0 ≡ Disconnected → DrainedIn q
    go (sender_lives z) e = absurd (not_disconnected {a = Empty} refl e)
    go (lane_left z l) e = absurd (not_disconnected {a = Empty} refl e)
    go (none_left z l) e =
        let n = no_sender_of p (k.ordered o) z in
        record {
          no_item = refl;
          no_sender = no_living (retire_empty_paused_dropped (from 0 p.issued) p n) n;
          no_lane = no_lane_of _ (retire_empty_paused_ordered (from 0 p.issued) p (k.ordered o)) l;
        }

lane_there : (t : State) (y : ℕ) → (t.slot_of y).registered ≡ true → NoLaneRegistered t → ⊥
unfolding NoLaneRegistered
lane_there t y r n = no r (n y)

only_then : {s : State} {o : Outcome} → Ordered s → Looked s o → accepted o.1.0 ≡ true → DrainedIn o → o.1.0 ≡ Disconnected
unfolding accepted
only_then w (turned_away n) a d = absurd (no a refl)
only_then w (Found g l b t h) a d = absurd (clash d.no_item)
only_then w (stopped l n t y h) a d = absurd (lane_there t y (h w) d.no_lane)
only_then w (found_nothing {p} k m) a d = go m d
  where
    go : {q : Outcome} → Nothing p q → DrainedIn q → q.1.0 ≡ Disconnected
    go (sender_lives z) d = absurd (omega (arith, senders_zero _ d.no_sender))
    go (lane_left z l) d = absurd (omega (arith, lanes_zero _ d.no_lane))
    go (none_left z l) d = refl

pub disconnected_exactly : DisconnectedExactly rules_viewed
unfolding DisconnectedExactly outcome
disconnected_exactly s r h = (
  λ e. let d = disconnected_then h.in_order.ordered (looked s r h.untargeted) e in record { no_item = d.no_item; no_sender = d.no_sender; no_lane = d.no_lane },
  λ d. only_then h.in_order.ordered (looked s r h.untargeted) h.not_refused record { no_item = d.no_item; no_sender = d.no_sender; no_lane = d.no_lane },
)

-- the empty paused lanes are retired
module _ (s p : State) (quiet : Quietly s p) (only : DroppedOnly s p) (o : Ordered p) (n : NoSenderLives p) where
  left : State
  left = retire_empty_paused_lanes (from 0 p.issued) p

  left_quiet : Quietly s left
  unfolding left
  left_quiet = trans quiet (retire_empty_paused_quiet (from 0 p.issued) p)

  empty_ones_retired : EmptyOnesRetired s left
  unfolding left empty_paused
  empty_ones_retired = record {
    none_left = λ x r h e.
        let low = ((retire_empty_paused_ordered (from 0 p.issued) p o).each_slot x).registered_issued r in
        let gone = none_left_of (from 0 p.issued) p x (omega (arith, from_in x 0 p.issued (omega arith) (omega (arith, low, (retire_empty_paused_quiet (from 0 p.issued) p).issues)))) r in
        no (all_three r h (ap (λ (l : List ℕ). not (non_empty l)) e)) gone;
    only_empty = λ x r h. go (left_quiet.each x) r h;
    only_dropped = (dropped_trans only (retire_empty_paused_dropped (from 0 p.issued) p n)).dropped;
  }
    where
      all_three : {a b c : Bool} → a ≡ true → b ≡ true → c ≡ true → both a (both b c) ≡ true
      all_three p q r = rw (p, q) r

      go : {l m : Slot} → Quiet l m → l.registered ≡ true → m.registered ≡ false → l.ring ≡ []
      go (stays a) r h = absurd (no r (sym a.registers ∙ h))
      go (goes e f g) r h = e

retires : {s : State} {o : Outcome} → Ordered s → Looked s o → accepted o.1.0 ≡ true → o.0 ≡ [] → says_stopped o.1.0 ≡ false → NoSenderLives o.1.1 → EmptyOnesRetired s o.1.1
unfolding accepted left says_stopped
retires o (turned_away n) a e w l = absurd (no a refl)
retires o (Found g k b t h) a e w l = absurd (clash e)
retires o (stopped k n t y h) a e w l = absurd (no refl w)
retires {s} o (found_nothing {p} k m) a e w l = go m l
  where
    go : {q : Outcome} → Nothing p q → NoSenderLives q.1.1 → EmptyOnesRetired s q.1.1
    go (sender_lives z) l = absurd (omega (arith, senders_zero _ l))
    go (lane_left z r) l = empty_ones_retired _ p k.quiet k.only_dropped (k.ordered o) (no_sender_of p (k.ordered o) z)
    go (none_left z r) l = empty_ones_retired _ p k.quiet k.only_dropped (k.ordered o) (no_sender_of p (k.ordered o) z)

pub retires_empty_paused : RetiresEmptyPaused rules_viewed
unfolding RetiresEmptyPaused outcome
retires_empty_paused s r h e l = retires h.in_order.ordered (looked s r h.untargeted) h.not_refused e.no_item e.not_stopped l

-- a lane that holds an item stays
same_lane : {l m : Slot} → Quiet l m → l.registered ≡ true → l.paused ≡ true → l.ring ≢ [] → SameLane l m
same_lane (stays a) r p h = record { still_registered = a.registers ∙ r; still_paused = a.pauses ∙ p; same_generation = a.generations; same_items = a.rings }
same_lane (goes e f g) r p h = absurd (h e)

keeps_paused : {s : State} {o : Outcome} → Ordered s → Looked s o → accepted o.1.0 ≡ true → o.0 ≡ [] → says_stopped o.1.0 ≡ false → NoSenderLives o.1.1
    → (x : ℕ) → (s.slot_of x).registered ≡ true → (s.slot_of x).paused ≡ true → (s.slot_of x).ring ≢ [] → (o.1.0 ≡ Empty) × SameLane (s.slot_of x) (o.1.1.slot_of x)
unfolding accepted left NoLaneRegistered says_stopped
keeps_paused o (turned_away n) a e w l x r h i = absurd (no a refl)
keeps_paused o (Found g k b t f) a e w l x r h i = absurd (clash e)
keeps_paused o (stopped k n t y f) a e w l x r h i = absurd (no refl w)
keeps_paused {s} o (found_nothing {p} k n) a e w l x r h i = go n l
  where
    go : {q : Outcome} → Nothing p q → NoSenderLives q.1.1 → (q.1.0 ≡ Empty) × SameLane (s.slot_of x) (q.1.1.slot_of x)
    go (sender_lives z) l = absurd (omega (arith, senders_zero _ l))
    go (lane_left z m) l = (refl, same_lane ((left_quiet _ p k.quiet k.only_dropped (k.ordered o) (no_sender_of p (k.ordered o) z)).each x) r h i)
    go (none_left z m) l =
        let j = same_lane ((left_quiet _ p k.quiet k.only_dropped (k.ordered o) (no_sender_of p (k.ordered o) z)).each x) r h i in
        absurd (no j.still_registered (no_lane_of _ (retire_empty_paused_ordered (from 0 p.issued) p (k.ordered o)) m x))

pub empty_with_paused_items : EmptyWithPausedItems rules_viewed
unfolding EmptyWithPausedItems outcome
empty_with_paused_items s r h e l x g p i = keeps_paused h.in_order.ordered (looked s r h.untargeted) h.not_refused e.no_item e.not_stopped l x g p i

left_paused : (s p : State) → Ordered s → ((y : ℕ) → Signal (s.slot_of y)) → Polled s p → living_senders p ≡ 0
    → (x : ℕ) → ((retire_empty_paused_lanes (from 0 p.issued) p).slot_of x).registered ≡ true → PausedWithItems ((retire_empty_paused_lanes (from 0 p.issued) p).slot_of x)
unfolding left NoSenderLives count
left_paused s p o g k z x r = go (slot_or_retired (from 0 p.issued) p x)
  where
    u : State
    u = retire_empty_paused_lanes (from 0 p.issued) p

    none_lives : NoSenderLives p
    none_lives = no_sender_of p (k.ordered o) z

    paused : (b c : Bool) → (p.slot_of x).paused ≡ b → (p.slot_of x).pending ≡ c → (p.slot_of x).registered ≡ true → (p.slot_of x).paused ≡ true
    paused true c e f h = e
    paused false true e f h = absurd (no (((k.ordered o).each_slot x).is_marked h e f (ap (count x) k.none_queued)) (k.none_marked o x))
    paused false false e f h = absurd (no ((k.signals x (g x)).signal h (none_lives x)) f)

    go : (u.slot_of x ≡ p.slot_of x) ⊎ ((u.slot_of x).registered ≡ false) → PausedWithItems (u.slot_of x)
    go (inr n) = absurd (no r n)
    go (inl e) =
        let h = ap (λ (l : Slot). l.paused) e ∙ paused (p.slot_of x).paused (p.slot_of x).pending refl refl (ap (λ (l : Slot). l.registered) (sym e) ∙ r) in
        record { is_paused = h; holds_items = (empty_ones_retired s p k.quiet k.only_dropped (k.ordered o) none_lives).none_left x r h }

-- in a run: an unpaused lane that is left would be pending, and so marked or queued
paused_left : {s : State} {o : Outcome} → Ordered s → ((y : ℕ) → Signal (s.slot_of y)) → Looked s o → accepted o.1.0 ≡ true → o.0 ≡ [] → says_stopped o.1.0 ≡ false → NoSenderLives o.1.1
    → (x : ℕ) → (o.1.1.slot_of x).registered ≡ true → PausedWithItems (o.1.1.slot_of x)
unfolding accepted says_stopped
paused_left o g (turned_away n) a e w l x r = absurd (no a refl)
paused_left o g (Found j k b t f) a e w l x r = absurd (clash e)
paused_left o g (stopped k n t y f) a e w l x r = absurd (no refl w)
paused_left {s} o g (found_nothing {p} k n) a e w l x r = go n l r
  where
    go : {q : Outcome} → Nothing p q → NoSenderLives q.1.1 → (q.1.1.slot_of x).registered ≡ true → PausedWithItems (q.1.1.slot_of x)
    go (sender_lives z) l r = absurd (omega (arith, senders_zero _ l))
    go (lane_left z m) l r = left_paused s p o g k z x r
    go (none_left z m) l r = left_paused s p o g k z x r

pub only_paused_items_left : OnlyPausedItemsLeft rules_viewed
unfolding OnlyPausedItemsLeft outcome
only_paused_items_left o lent a calls any s at r h e l x g =
    paused_left h.in_order.ordered (λ y. rw (← at) (run_signals o lent calls y)) (looked s r h.untargeted) h.not_refused e.no_item e.not_stopped l x g

-- targeted
take_from_empty : (s : State) (x : ℕ) → (take_from [] x s).1.0 ≡ Disconnected → (s.slot_of x).living ≡ false
unfolding take_from is_disconnected
take_from_empty s x = go (s.slot_of x).living
  where
    go : (b : Bool) → if b Empty Disconnected ≡ Disconnected → b ≡ false
    go true e = absurd (not_disconnected {a = Empty} refl e)
    go false e = refl

take_from_item : (s : State) (x v : ℕ) (vs : List ℕ) → (take_from (v ∷ vs) x s).1.0 ≢ Disconnected
unfolding take_from is_disconnected
take_from_item s x v vs e = not_disconnected refl e

targeted_then : (s : State) (i : LaneId) → (try_recv_from s i).1.0 ≡ Disconnected → LaneDrained s i
unfolding try_recv_from is_disconnected
targeted_then s i =
    unless_law (λ o. o.1.0 ≡ Disconnected → LaneDrained s i) _ s _ (λ n e. absurd (not_disconnected {a = Refused n} refl e))
    (λ p. go (s.slot_of i.key.slot).ring refl (not_false p.0) (not_false p.1.0))
  where
    go : (l : List ℕ) → (s.slot_of i.key.slot).ring ≡ l → s.is_open ≡ true → has_lane_id s i ≡ true → (take_from l i.key.slot s).1.0 ≡ Disconnected → LaneDrained s i
    go [] e r h d = record { receiver_open = r; known_lane = h; no_item = e; sender_dropped = take_from_empty s i.key.slot d }
    go (v ∷ vs) e r h d = absurd (take_from_item s i.key.slot v vs d)

-- no refusal applies
unless_none : (cs : List (Bool × Refusal)) (s : State) (r : Outcome) → NoneApplies cs → unless cs s r ≡ r
unfolding unless
unless_none [] s r p = refl
unless_none (c ∷ cs) s r p = rw p.0 (unless_none cs s r p.1)

targeted_only_then : (s : State) (i : LaneId) → LaneDrained s i → (try_recv_from s i).1.0 ≡ Disconnected
unfolding try_recv_from take_from
targeted_only_then s i d =
    ap (λ (o : Outcome). o.1.0) (unless_none _ s _ (ap not d.receiver_open, (ap not d.known_lane, tt)))
    ∙ ap (λ (l : List ℕ). (take_from l i.key.slot s).1.0) d.no_item ∙ dropped_so s i.key.slot d.sender_dropped
  where
    dropped_so : (s : State) (x : ℕ) → (s.slot_of x).living ≡ false → (take_from [] x s).1.0 ≡ Disconnected
    dropped_so s x e = ap (λ (b : Bool). if b Empty Disconnected) e

pub targeted_disconnected_exactly : TargetedDisconnectedExactly rules_on_any_state
unfolding TargetedDisconnectedExactly outcome receive_outcome
targeted_disconnected_exactly s any i = (targeted_then s i, targeted_only_then s i)
