-- A lane's signal goes back to idle only when a receive has found the lane empty.
-- Assumes nothing.
use mathlib.Core.Path.{◌≡◌, refl, ap, ◌∙◌}
use mathlib.Core.Logic.{◌⊎◌, inl, inr}
use mathlib.Core.Bool.{Bool, true, false}
use mathlib.Core.List.{List, [], ◌∷◌, ◌++◌, map}
use Prim.Native.Nat.{ℕ, ◌+◌, ◌≤◌}
use native.Mathlib.Omega.{arith}
use lib.ListN.{length}
use Rattle.model.specs.declared.LaneKey.{LaneKey}
use Rattle.model.specs.declared.SenderCall.{SenderCall}
use Rattle.model.specs.declared.ReceiveCall.{ReceiveCall}
use Rattle.model.specs.declared.ControlCall.{ControlCall}
use Rattle.model.specs.declared.Call.TheVariants.{Sender, Receive, Control}
use Rattle.model.specs.declared.Answer.{Answer}
use Rattle.model.specs.Lists.{Each, without}
use Rattle.model.specs.State.{Slot, State, may_queue, key_of}
use Rattle.model.specs.Changes.{with_queue, put, new_lane, signalled, pushed, popped, with_paused, credited, sender_dropped, retired}
use Rattle.model.specs.Turn.{retire_lane, give_item}
use Rattle.model.specs.Runs.{Tick, gives, ends, handed, ticks}
use Rattle.model.specs.Receive.{queue_lane_if, release_all, receive_outcome}
use Rattle.model.specs.Rules.{outcome, the_rules}
use Rattle.model.specs.Order.{Ordered}
use Rattle.model.specs.Events.{finds_empty, count_events, call_events}
use Rattle.model.specs.Viewed.{rules_viewed}
use Rattle.model.specs.Signals.{IdleOnlyWhenEmpty}
use Rattle.demands.proofs.Counting.{equal, other, same?, no}
use Rattle.demands.proofs.FoundEmpty.{call_found}
use Rattle.demands.proofs.Quiet.{Quiet, stays, goes, Quietly, poll, poll_quiet, release_all_quiet, settle_empty_quiet}
use Rattle.demands.proofs.Moves.{Moves, stays_put, credits, registers_new, registers_old, sends, posts, drops_it, pauses_it, resumes, resumes_not, closes_it, polls_all, shuts_it, takes, stops, halts, aims, aims_none, Chain, stay, move, sender_move, control_move, call_chain}
use Rattle.demands.proofs.StopLaws.{halts_quiet}

-- ---- receives: a slot is pending or has no items, from a pending one on

abbrev PendingOrEmpty : Slot → Type 0
PendingOrEmpty l = (l.pending ≡ true) ⊎ (l.ring ≡ [])

abbrev Kept : State → State → Type 0
Kept s u = (y : ℕ) → PendingOrEmpty (s.slot_of y) → PendingOrEmpty (u.slot_of y)

put_kept : (s : State) (x : ℕ) (l : Slot) → (PendingOrEmpty (s.slot_of x) → PendingOrEmpty l) → Kept s (put x l s)
put_kept s x l f y h = elim (same? x y) [ equal p e i ↦ rw e (f (rw p h)) | other d e i ↦ rw e h ]

quietly_kept : {s u : State} → Quietly s u → Kept s u
quietly_kept {s} {u} q y h = go (s.slot_of y).ring refl (q.each y) h
  where
    go : (l : List ℕ) → (s.slot_of y).ring ≡ l → Quiet (s.slot_of y) (u.slot_of y) → PendingOrEmpty (s.slot_of y) → PendingOrEmpty (u.slot_of y)
    go [] e a h = inr (q.held_same y ∙ e)
    go (v ∷ vs) e a (inr n) = inr (q.held_same y ∙ n)
    go (v ∷ vs) e (stays a) (inl p) = inl (a.signals (omega (arith, ap length e)) p)
    go (v ∷ vs) e (goes n r g) (inl p) = inr (q.held_same y ∙ n)

-- an item is taken of a lane that has one, so it is pending
item_kept : (s : State) (x v n b : ℕ) (vs : List ℕ) → (s.slot_of x).ring ≡ v ∷ vs → Kept s (put x (popped vs n b (s.slot_of x)) s)
item_kept s x v n b vs e = put_kept s x (popped vs n b (s.slot_of x)) has_item
  where
    has_item : PendingOrEmpty (s.slot_of x) → PendingOrEmpty (popped vs n b (s.slot_of x))
    has_item (inl p) = inl p
    has_item (inr z) = absurd (omega (arith, ap length e, ap length z))

queue_lane_kept : (b : Bool) (x : ℕ) (s : State) → Kept s (queue_lane_if b x s)
unfolding queue_lane_if
queue_lane_kept true x s y h = put_kept s x (signalled (s.slot_of x)) (λ g. inl refl) y h
queue_lane_kept false x s y h = h

-- what happens in a receive
Received : Tick → Type 0
Received (gives r k v) = Unit {0}
Received (ends (Receive r) a) = Unit {0}
Received (ends (Sender c) a) = ⊥
Received (ends (Control c) a) = ⊥

move_kept : {s u : State} {t : Tick} → Received t → Moves s t u → Kept s u
unfolding Received give_item
move_kept g (stays_put s c a h) y k = k
move_kept g (credits s c a h) y k = quietly_kept (release_all_quiet s) y k
move_kept g (registers_new s m lt) y k = absurd g
move_kept g (registers_old s m x i l) y k = absurd g
move_kept g (sends s j v w free a r nf) y k = absurd g
move_kept g (posts s j v w free a r nf) y k = absurd g
move_kept g (drops_it s j a) y k = absurd g
move_kept g (pauses_it s i c) y k = absurd g
move_kept g (resumes s i c p) y k = absurd g
move_kept g (resumes_not s i c p) y k = absurd g
move_kept g (closes_it s i c) y k = absurd g
move_kept g (polls_all s) y k = absurd g
move_kept g (shuts_it s) y k = absurd g
move_kept g (takes f r s x v q vs h e n) y k = item_kept (poll f s) x v _ _ vs n y (quietly_kept (poll_quiet f s) y k)
move_kept g (stops f r s u a h e q o n) y k = quietly_kept q y (quietly_kept (poll_quiet f s) y k)
move_kept g (halts s m b n j x q e h) y k = quietly_kept (halts_quiet s) y k
move_kept g (aims s i v vs c e) y k = queue_lane_kept (may_queue s i.key.slot) i.key.slot _ y (item_kept s i.key.slot v _ _ vs e y k)
move_kept g (aims_none s i a c e h) y k = quietly_kept (settle_empty_quiet i.key.slot (without i.key.slot s.queue) s e) y k

chain_kept : {s u : State} {ts : List Tick} → Each Received ts → Chain s ts u → Kept s u
unfolding Each
chain_kept g (stay s) y k = k
chain_kept g (move m c) y k = chain_kept g.1 c y (move_kept g.0 m y k)

receive_received : (s : State) (r : ReceiveCall) → Each Received (ticks the_rules s (Receive r))
unfolding ticks handed Received Each
receive_received s r = go (receive_outcome s r).0
  where
    go : (l : List (LaneKey × ℕ)) → Each Received (map (λ g. gives r g.0 g.1) l ++ (ends (Receive r) (the_rules.step s (Receive r)).0 ∷ []))
    go [] = (tt, tt)
    go (g ∷ l) = (tt, go l)

-- ---- the other calls: a registered lane that is pending stays so

abbrev StaysPending : State → State → ℕ → Type 0
StaysPending s u y = (s.slot_of y).registered ≡ true → (s.slot_of y).pending ≡ true → (u.slot_of y).pending ≡ true

put_pending : (s : State) (x : ℕ) (l : Slot) (y : ℕ) → ((s.slot_of x).registered ≡ true → (s.slot_of x).pending ≡ true → l.pending ≡ true) → StaysPending s (put x l s) y
put_pending s x l y f r p = elim (same? x y) [ equal q e i ↦ rw e (f (rw q r) (rw q p)) | other d e i ↦ rw e p ]

retire_lane_pending : (x : ℕ) (s : State) (y : ℕ) → StaysPending s (retire_lane x s) y
unfolding retire_lane
retire_lane_pending x s y r p = put_pending s x (retired (s.slot_of x)) y (λ r p. p) r p

released_pending : (s : State) (y : ℕ) → StaysPending s (release_all s) y
unfolding release_all
released_pending s y r p = p

sender_pending : {s u : State} {c : SenderCall} {a : Answer} → Ordered s → Moves s (ends (Sender c) a) u → (y : ℕ) → StaysPending s u y
sender_pending o (stays_put s c a h) y r p = p
sender_pending o (credits s c a h) y r p = released_pending s y r p
sender_pending o (registers_new s m lt) y r p = put_pending s s.issued (new_lane s.first_generation (s.slot_of s.issued)) y (λ r p. absurd (omega (arith, (o.each_slot s.issued).registered_issued r))) r p
sender_pending o (registers_old s m x i l) y r p = put_pending s x (new_lane ((s.slot_of x).generation + 1) (s.slot_of x)) y (λ r p. absurd (no r ((o.each_slot x).free_unregistered i))) r p
sender_pending o (sends s j v w free a n nf) y r p = put_pending s j.slot (signalled (pushed v (s.slot_of j.slot))) y (λ r p. refl) r p
sender_pending o (posts s j v w free a n nf) y r p = put_pending s j.slot (pushed v (s.slot_of j.slot)) y (λ r p. p) r p
sender_pending o (drops_it s j a) y r p = put_pending s j.slot (signalled (sender_dropped (s.slot_of j.slot))) y (λ r p. refl) r p

control_pending : {s u : State} {c : ControlCall} {a : Answer} → Moves s (ends (Control c) a) u → (y : ℕ) → StaysPending s u y
control_pending (stays_put s c a h) y r p = p
control_pending (credits s c a h) y r p = released_pending s y r p
control_pending (pauses_it s i c) y r p = put_pending s i.key.slot (with_paused true (credited (s.slot_of i.key.slot))) y (λ r p. p) r p
control_pending (resumes s i c n) y r p = put_pending s i.key.slot (signalled (with_paused false (s.slot_of i.key.slot))) y (λ r p. refl) r p
control_pending (resumes_not s i c n) y r p = p
control_pending (closes_it s i c) y r p = retire_lane_pending i.key.slot (with_queue (without i.key.slot s.queue) s) y r p
control_pending (polls_all s) y r p = p
control_pending (shuts_it s) y r p = p

-- ---- every call

pub idle_only_when_empty : IdleOnlyWhenEmpty rules_viewed
unfolding IdleOnlyWhenEmpty outcome
idle_only_when_empty s (Sender c) x i r p z = absurd (no (sender_pending i.ordered (sender_move s c) x r p) z)
idle_only_when_empty s (Control c) x i r p z = absurd (no (control_pending (control_move s c) x r p) z)
idle_only_when_empty s (Receive c) x i r p z = record {
  found = event ((call_found (key_of s x) s c).signal refl p);
  no_items = ring (chain_kept (receive_received s c) (call_chain s (Receive c)) x (inl p));
}
  where
    u : State
    u = (receive_outcome s c).1.1

    event : ((u.slot_of x).pending ≡ true) ⊎ (1 ≤ count_events (finds_empty (key_of s x)) (call_events s (Receive c))) → 1 ≤ count_events (finds_empty (key_of s x)) (call_events s (Receive c))
    event (inl q) = absurd (no q z)
    event (inr n) = n

    ring : PendingOrEmpty (u.slot_of x) → (u.slot_of x).ring ≡ []
    ring (inl q) = absurd (no q z)
    ring (inr n) = n
