-- From any point at which a page bit is set, no more than 64 items go out before the next collection.
-- Assumes nothing.
use mathlib.Core.Path.{◌≡◌, refl, ap, sym, ◌∙◌, subst}
use mathlib.Core.Bool.{Bool, true, false, not}
use mathlib.Core.List.{List, [], ◌∷◌, ◌++◌, append_assoc}
use Prim.Native.Nat.{ℕ, zero, suc, ◌+◌, ◌≤◌}
use native.Mathlib.Omega.{arith}
use native.Mathlib.Nat.{zero-add, suc-add}
use lib.ListN.{length, take, length-append}
use lib.Dec.{leb, ltb}
use borrow.Author.Tests.{lt-ltb, le-ltb, ltb-true, ltb-false}
use Rattle.model.specs.declared.LaneKey.{LaneKey}
use Rattle.model.specs.declared.SenderCall.{SenderCall}
use Rattle.model.specs.declared.ReceiveCall.{ReceiveCall}
use Rattle.model.specs.declared.ReceiveCall.TheVariants.{TryRecv, TryRecvFair, TryRecvFrom, TryRecvBatchInto, TryRecvBatchIntoWhile}
use Rattle.model.specs.declared.ControlCall.{ControlCall}
use Rattle.model.specs.declared.Call.{Call}
use Rattle.model.specs.declared.Call.TheVariants.{Sender, Receive, Control}
use Rattle.model.specs.declared.Answer.{Answer}
use Rattle.model.specs.declared.Answer.TheVariants.{Empty, Disconnected}
use Rattle.model.specs.Lists.{if, either, non_empty, keep, from, without}
use Rattle.model.specs.State.{Slot, State, may_queue, key_of}
use Rattle.model.specs.Changes.{with_queue, put, new_lane, signalled, pushed, popped, settled_empty, credited, with_paused, sender_dropped, retired, with_budget}
use Rattle.model.specs.Turn.{Took, retire_lane, retire_lane_if, settle_empty, before_next_turn, run_down_from, run_down, unreleased_after_one, give_item, give_oldest, give_front, collect_if_due, collect_if_none_queued, polled, take_one, take_fair}
use Rattle.model.specs.Outcome.{Outcome}
use Rattle.model.specs.Runs.{accepted, ends, after_list}
use Rattle.model.specs.Receive.{answer_one, queue_lane_if, take_from, and_more, take_up_to, release_all, answer_items, admitted, try_recv, try_recv_fair, try_recv_from, try_recv_batch_into, halted, take_while, answer_while, try_recv_batch_into_while, receive_outcome}
use Rattle.model.specs.Rules.{outcome, the_rules}
use Rattle.model.specs.Order.{InOrder}
use Rattle.model.specs.Events.{Event, budget_set, collected, none_marked, found_empty, item_taken, went_to_back, any_marked, collect_event, refill_events, before_next_turn_events, run_down_from_events, run_down_events, back_events, give_oldest_events, give_front_events, collect_if_due_events, collect_if_none_queued_events, polled_events, take_one_events, take_fair_events, and_more_events, take_up_to_events, halted_events, take_while_events, take_from_events, receive_events, call_events, events_from, collects, finds_none_marked, takes_item, count_events}
use Rattle.model.specs.Viewed.{Viewed, rules_viewed}
use Rattle.model.specs.Stops.{AllAdmitted}
use Rattle.model.specs.WhileMarked.{until_collected, AtMost64WhileMarked, AtMost64WhileMarkedInBatch, AtMost64WhileMarkedInWhile}
use Rattle.demands.proofs.Counting.{equal, other, same?, no}
use Rattle.demands.proofs.Moves.{Moves, stays_put, credits, registers_new, registers_old, sends, posts, drops_it, pauses_it, resumes, resumes_not, closes_it, polls_all, shuts_it, unless_law, sender_move, control_move}
use Rattle.demands.proofs.AnswersKeep.{answer_one_keeps, answer_items_keeps}
use Rattle.demands.proofs.Events.{Tally, Below}
use Rattle.demands.proofs.EventsOfRuns.{calls_pass, from_budget, from_budget_counted, part_most, Answered, answer_one_answered, answer_items_answered, answer_stopped_answered}
use Rattle.demands.proofs.StopLaws.{admitted_more, while_law}
use Rattle.demands.proofs.Collections.{reads, neither}
use Rattle.demands.proofs.WholeChunk.{take_up_to_more}
use Rattle.model.specs.Simulation.{Simulation}
use Rattle.demands.proofs.Simulation.{rules_simulate, same_events}

-- ---- page bits that stay

pub record Marked (s u : State) : Type 0 where
  pub issues : s.issued ≤ u.issued
  pub bits : (y : ℕ) → (s.slot_of y).marked ≡ true → (u.slot_of y).marked ≡ true

-- a list of slots has one that passes, and still has if it grows and every one that passed passes
still_one : (p q : ℕ → Bool) → ((y : ℕ) → p y ≡ true → q y ≡ true) → (a n m : ℕ) → n ≤ m → non_empty (keep p (from a n)) ≡ true → non_empty (keep q (from a m)) ≡ true
unfolding keep from
still_one p q f a zero m h e = absurd (no e refl)
still_one p q f a (suc n) zero h e = absurd (omega arith)
still_one p q f a (suc n) (suc m) h e = go (p a) refl (q a) (f a) e (still_one p q f (suc a) n m (omega arith))
  where
    go : (b : Bool) → p a ≡ b → (c : Bool) → (p a ≡ true → c ≡ true) → non_empty (if b (a ∷ keep p (from (suc a) n)) (keep p (from (suc a) n))) ≡ true
        → (non_empty (keep p (from (suc a) n)) ≡ true → non_empty (keep q (from (suc a) m)) ≡ true) → non_empty (if c (a ∷ keep q (from (suc a) m)) (keep q (from (suc a) m))) ≡ true
    go b g true k e ih = refl
    go true g false k e ih = absurd (no (k g) refl)
    go false g false k e ih = ih e

still_marked : {s u : State} → Marked s u → any_marked s ≡ true → any_marked u ≡ true
unfolding any_marked
still_marked {s} {u} m e = still_one (λ x. (s.slot_of x).marked) (λ x. (u.slot_of x).marked) m.bits 0 s.issued u.issued m.issues e

unchanged : (s : State) → Marked s s
unchanged s = record { issues = omega arith; bits = λ y h. h }

trans : {s t u : State} → Marked s t → Marked t u → Marked s u
trans a b = record { issues = omega (arith, a.issues, b.issues); bits = λ y h. b.bits y (a.bits y h) }

put_marked : (s : State) (x : ℕ) (l : Slot) → ((s.slot_of x).marked ≡ true → l.marked ≡ true) → Marked s (put x l s)
put_marked s x l f = record {
  issues = omega arith;
  bits = λ y h. elim (same? x y) [ equal p e i ↦ rw e (f (rw p h)) | other d e i ↦ rw e h ];
}

retire_lane_if_marked : (b : Bool) (x : ℕ) (s : State) → Marked s (retire_lane_if b x s)
unfolding retire_lane_if retire_lane
retire_lane_if_marked true x s = let m = put_marked s x (retired (s.slot_of x)) (λ h. h) in record { issues = m.issues; bits = m.bits }
retire_lane_if_marked false x s = unchanged s

settle_empty_marked : (x : ℕ) (q : List ℕ) (s : State) → Marked s (settle_empty x q s)
unfolding settle_empty
settle_empty_marked x q s =
    let m = put_marked s x (settled_empty (s.slot_of x)) (λ h. h) in
    trans record { issues = m.issues; bits = m.bits } (retire_lane_if_marked (not (s.slot_of x).living) x (with_queue q (put x (settled_empty (s.slot_of x)) s)))

before_next_turn_marked : (q : List ℕ) (s : State) → Marked s (before_next_turn q s)
unfolding before_next_turn
before_next_turn_marked [] s = unchanged s
before_next_turn_marked (y ∷ q) s = record { issues = omega arith; bits = λ y h. h }

budget_marked : (n : ℕ) (s : State) → Marked s (with_budget n s)
budget_marked n s = record { issues = omega arith; bits = λ y h. h }

give_item_marked : (s : State) (y : ℕ) (q vs : List ℕ) (back : Bool) → Marked s (give_item s y q vs back)
unfolding give_item
give_item_marked s y q vs back =
    let m = put_marked s y (popped vs (unreleased_after_one s y) (if back 0 ((s.slot_of y).burst + 1)) (s.slot_of y)) (λ h. h) in
    record { issues = m.issues; bits = m.bits }

release_all_marked : (s : State) → Marked s (release_all s)
unfolding release_all
release_all_marked s = record { issues = omega arith; bits = λ y h. h }

answer_one_marked : (l : List (LaneKey × ℕ)) (s : State) → Marked s (answer_one l s).1.1
answer_one_marked = answer_one_keeps Marked unchanged (λ s t u a b. trans a b) retire_lane_if_marked release_all_marked

answer_items_marked : (m : ℕ) (l : List (LaneKey × ℕ)) (s : State) → Marked s (answer_items m l (release_all s)).1.1
answer_items_marked = answer_items_keeps Marked unchanged (λ s t u a b. trans a b) retire_lane_if_marked release_all_marked

-- a send, a drop and a resume set bits; a new lane keeps its slot's
signalled_marked : (l : Slot) → l.marked ≡ true → (signalled l).marked ≡ true
signalled_marked l h = go (not l.pending)
  where
    go : (b : Bool) → either b l.marked ≡ true
    go true = refl
    go false = h

queue_marked : (s : State) (q : List ℕ) → Marked s (with_queue q s)
queue_marked s q = record { issues = omega arith; bits = λ y h. h }

sender_marked : {s u : State} {c : SenderCall} {a : Answer} → Moves s (ends (Sender c) a) u → Marked s u
sender_marked (stays_put s c a h) = unchanged s
sender_marked (credits s c a h) = release_all_marked s
sender_marked (registers_new s m lt) = let p = put_marked s s.issued (new_lane s.first_generation (s.slot_of s.issued)) (λ h. h) in record { issues = omega arith; bits = p.bits }
sender_marked (registers_old s m x i l) = let p = put_marked s x (new_lane ((s.slot_of x).generation + 1) (s.slot_of x)) (λ h. h) in record { issues = omega arith; bits = p.bits }
sender_marked (sends s j v w free a r nf) = put_marked s j.slot (signalled (pushed v (s.slot_of j.slot))) (signalled_marked (pushed v (s.slot_of j.slot)))
sender_marked (posts s j v w free a r nf) = put_marked s j.slot (pushed v (s.slot_of j.slot)) (λ h. h)
sender_marked (drops_it s j a) = put_marked s j.slot (signalled (sender_dropped (s.slot_of j.slot))) (signalled_marked (sender_dropped (s.slot_of j.slot)))

control_marked : {s u : State} {c : ControlCall} {a : Answer} → Moves s (ends (Control c) a) u → Marked s u
unfolding retire_lane_if
control_marked (stays_put s c a h) = unchanged s
control_marked (credits s c a h) = release_all_marked s
control_marked (pauses_it s i c) = trans (put_marked s i.key.slot (with_paused true (credited (s.slot_of i.key.slot))) (λ h. h)) (queue_marked _ _)
control_marked (resumes s i c p) = trans (put_marked s i.key.slot (signalled (with_paused false (s.slot_of i.key.slot))) (signalled_marked (with_paused false (s.slot_of i.key.slot)))) (queue_marked _ _)
control_marked (resumes_not s i c p) = unchanged s
control_marked (closes_it s i c) = trans (queue_marked s (without i.key.slot s.queue)) (retire_lane_if_marked true i.key.slot _)
control_marked (polls_all s) = queue_marked s _
control_marked (shuts_it s) = record { issues = omega arith; bits = λ y h. h }

-- ---- no look is in vain

-- events from where a page bit is set: they end in a state u with one, or one of them collects; until then none finds no bit
data Sees : List Event → State → Type 0 where
  sees_none : {u : State} → any_marked u ≡ true → Sees [] u
  sees_bits : {es : List Event} {u : State} → Sees (collected ∷ es) u
  sees_on : {e : Event} {es : List Event} {u : State} → collects e ≡ false → finds_none_marked e ≡ false → Sees es u → Sees (e ∷ es) u

-- from s on
record See (s : State) (es : List Event) (u : State) : Type 0 where
  sees : any_marked s ≡ true → Sees es u

see_then : {es fs : List Event} {s t u : State} → See s es t → See t fs u → See s (es ++ fs) u
see_then {es} {fs} {s} {t} {u} a b = record { sees = λ m. go (a.sees m) }
  where
    go : {es : List Event} → Sees es t → Sees (es ++ fs) u
    go (sees_none m) = b.sees m
    go sees_bits = sees_bits
    go (sees_on c n h) = sees_on c n (go h)

see_after : {es : List Event} {s t u : State} → See s es t → Marked t u → See s es u
see_after {es} {s} {t} {u} a k = record { sees = λ m. go (a.sees m) }
  where
    go : {fs : List Event} → Sees fs t → Sees fs u
    go (sees_none h) = sees_none (still_marked k h)
    go sees_bits = sees_bits
    go (sees_on c n h) = sees_on c n (go h)

-- no event
see_kept : {s u : State} → Marked s u → See s [] u
see_kept k = record { sees = λ m. sees_none (still_marked k m) }

-- one that neither collects nor finds no bit
see_on : {s u : State} {es : List Event} (e : Event) → collects e ≡ false → finds_none_marked e ≡ false → See s es u → See s (e ∷ es) u
see_on e c n h = record { sees = λ m. sees_on c n (h.sees m) }

-- a collection, or a look for one
see_collects : (s u : State) (es : List Event) → See s (collect_event s ∷ es) u
unfolding collect_event
see_collects s u es = record { sees = λ m. subst (λ (b : Bool). Sees (if b collected none_marked ∷ es) u) (sym m) sees_bits }

refill_see : (n : ℕ) {s u : State} → Marked s u → See s (refill_events n) u
unfolding refill_events collects finds_none_marked
refill_see zero k = see_on budget_set refl refl (see_kept k)
refill_see (suc n) k = see_kept k

before_next_turn_see : (q : List ℕ) (s : State) → See s (before_next_turn_events q s) (before_next_turn q s)
unfolding before_next_turn_events
before_next_turn_see [] s = see_kept (before_next_turn_marked [] s)
before_next_turn_see (y ∷ q) s = refill_see s.budget (before_next_turn_marked (y ∷ q) s)

found_empty_see : (x : ℕ) (q : List ℕ) (s : State) → See s (found_empty (key_of s x) ∷ []) (settle_empty x q s)
unfolding collects finds_none_marked
found_empty_see x q s = see_on (found_empty (key_of s x)) refl refl (see_kept (settle_empty_marked x q s))

run_down_from_see : (q : List ℕ) (s : State) → See s (run_down_from_events q s) (run_down_from q s)
unfolding run_down_from_events run_down_from
run_down_from_see [] s = see_kept (unchanged s)
run_down_from_see (y ∷ q) s = go (non_empty (s.slot_of y).ring) (run_down_from_see q (before_next_turn q (settle_empty y q s)))
  where
    u : State
    u = settle_empty y q s

    go : (b : Bool) → See (before_next_turn q u) (run_down_from_events q (before_next_turn q u)) (run_down_from q (before_next_turn q u))
        → See s (if b [] (found_empty (key_of s y) ∷ before_next_turn_events q u ++ run_down_from_events q (before_next_turn q u))) (if b s (run_down_from q (before_next_turn q u)))
    go true ih = see_kept (unchanged s)
    go false ih = see_then (found_empty_see y q s) (see_then (before_next_turn_see q u) ih)

run_down_see : (s : State) → See s (run_down_events s) (run_down s)
unfolding run_down_events run_down
run_down_see s = run_down_from_see s.queue s

collect_if_due_see : (n : ℕ) (q : List ℕ) (s : State) → See s (collect_if_due_events n q s) (collect_if_due n q s)
unfolding collect_if_due_events collect_if_due
collect_if_due_see zero (y ∷ q) s = see_collects s _ _
collect_if_due_see zero [] s = see_kept (unchanged s)
collect_if_due_see (suc n) q s = see_kept (unchanged s)

collect_if_none_see : (q : List ℕ) (s : State) → See s (collect_if_none_queued_events q s) (collect_if_none_queued q s)
unfolding collect_if_none_queued_events collect_if_none_queued
collect_if_none_see [] s = see_collects s _ _
collect_if_none_see (y ∷ q) s = see_kept (unchanged s)

polled_see : (s : State) → See s (polled_events s) (polled s)
unfolding polled_events polled
polled_see s = see_then (collect_if_due_see s.budget s.queue s) (see_then (run_down_see _) (collect_if_none_see _ _))

item_see : (s u : State) (k : LaneKey) (back : Bool) → Marked s u → See s (item_taken k ∷ back_events back k) u
unfolding back_events collects finds_none_marked
item_see s u k true h = see_on (item_taken k) refl refl (see_on (went_to_back k) refl refl (see_kept h))
item_see s u k false h = see_on (item_taken k) refl refl (see_kept h)

give_front_see : (f : Bool) (s : State) (q : List ℕ) → See s (give_front_events f s q) (give_front f s q).1
unfolding give_front_events give_front give_oldest_events give_oldest
give_front_see f s [] = see_kept (unchanged s)
give_front_see f s (y ∷ q) = go (s.slot_of y).ring
  where
    go : (l : List ℕ) → See s (give_oldest_events s f y l) (give_oldest s f y q l).1
    go [] = see_kept (unchanged s)
    go (v ∷ vs) = see_then (refill_see s.budget (unchanged s)) (item_see s _ (key_of s y) (either f (leb 63 (s.slot_of y).burst)) (give_item_marked s y q vs (either f (leb 63 (s.slot_of y).burst))))

take_one_see : (s : State) → See s (take_one_events s) (take_one s).1
unfolding take_one_events take_one
take_one_see s = see_then (polled_see s) (give_front_see false (polled s) _)

take_fair_see : (s : State) → See s (take_fair_events s) (take_fair s).1
unfolding take_fair_events
take_fair_see s = see_collects s _ _

take_up_to_see : (m : ℕ) (s : State) → See s (take_up_to_events m s) (take_up_to m s).1
unfolding take_up_to_events take_up_to and_more_events and_more
take_up_to_see zero s = see_kept (unchanged s)
take_up_to_see (suc m) s = see_then (take_one_see s) (go (take_one s).0 (take_up_to_see m (take_one s).1))
  where
    t : State
    t = (take_one s).1

    go : (l : List (LaneKey × ℕ)) → See t (take_up_to_events m t) (take_up_to m t).1 → See t (and_more_events l (take_up_to_events m t)) (and_more l t (take_up_to m t)).1
    go [] h = see_kept (unchanged t)
    go (g ∷ l) h = h

-- the events of a receive, if its answer is no refusal
SeeIn : State → List Event → Outcome → Type 0
SeeIn s es o = See s (if (accepted o.1.0) es []) o.1.1

answered_see : (s t : State) (es : List Event) (o : Outcome) → Answered t o → Marked t o.1.1 → See s es t → SeeIn s es o
unfolding SeeIn
answered_see s t es o a k h = rw a.is_accepted (see_after h k)

take_from_see : (l : List ℕ) (x : ℕ) (s : State) → SeeIn s (take_from_events l x s) (take_from l x s)
unfolding SeeIn take_from take_from_events accepted queue_lane_if
take_from_see [] x s = go (s.slot_of x).living
  where
    go : (b : Bool) → See s (if (accepted (if b Empty Disconnected)) (take_from_events [] x s) []) (take_from [] x s).1.1
    go true = found_empty_see x (without x s.queue) s
    go false = found_empty_see x (without x s.queue) s
take_from_see (v ∷ vs) x s = see_kept (trans (put_marked s x m (λ h. h)) (queue_lane_marked (may_queue s x) (put x m s)))
  where
    m : Slot
    m = popped vs (unreleased_after_one s x) (s.slot_of x).burst (s.slot_of x)

    queue_lane_marked : (b : Bool) (u : State) → Marked u (queue_lane_if b x u)
    queue_lane_marked true u = trans (put_marked u x (signalled (u.slot_of x)) (signalled_marked (u.slot_of x))) (queue_marked _ _)
    queue_lane_marked false u = unchanged u

-- n items, and then the stop
halted_see : (n : ℕ) (s : State) → See s (halted_events n s) (halted (polled (take_up_to n s).1))
unfolding halted_events halted
halted_see n s = see_then (take_up_to_see n s) (see_then (polled_see _) (refill_see (polled (take_up_to n s).1).budget (budget_marked _ _)))

while_see : (b m : ℕ) (s : State) → let t = take_while b m s in SeeIn s (take_while_events b m s) (answer_while m t.0 t.1.0 (release_all t.1.1))
unfolding answer_while
while_see b m s =
    while_law (λ t es. SeeIn s es (answer_while m t.0 t.1.0 (release_all t.1.1))) b m s
    (λ all. answered_see s _ _ _ (answer_items_answered m _ _) (answer_items_marked m _ _) (take_up_to_see m s))
    (λ n w. answered_see s _ _ _ (answer_stopped_answered m _ _) (release_all_marked _) (halted_see n s))

receive_see : (s : State) (r : ReceiveCall) → SeeIn s (receive_events s r) (receive_outcome s r)
unfolding SeeIn receive_events receive_outcome try_recv try_recv_fair try_recv_from try_recv_batch_into try_recv_batch_into_while accepted
receive_see s TryRecv = unless_law (SeeIn s (receive_events s TryRecv)) _ s _ (λ n. see_kept (unchanged s)) (λ p. answered_see s _ _ _ (answer_one_answered _ _) (answer_one_marked _ _) (take_one_see s))
receive_see s TryRecvFair = unless_law (SeeIn s (receive_events s TryRecvFair)) _ s _ (λ n. see_kept (unchanged s)) (λ p. answered_see s _ _ _ (answer_one_answered _ _) (answer_one_marked _ _) (take_fair_see s))
receive_see s (TryRecvFrom i) = unless_law (SeeIn s (receive_events s (TryRecvFrom i))) _ s _ (λ n. see_kept (unchanged s)) (λ p. take_from_see _ _ s)
receive_see s (TryRecvBatchInto m n) =
    unless_law (SeeIn s (receive_events s (TryRecvBatchInto m n))) _ s _ (λ n. see_kept (unchanged s)) (λ p. answered_see s _ _ _ (answer_items_answered m _ _) (answer_items_marked m _ _) (take_up_to_see m s))
receive_see s (TryRecvBatchIntoWhile m b n) = unless_law (SeeIn s (receive_events s (TryRecvBatchIntoWhile m b n))) _ s _ (λ n. see_kept (unchanged s)) (λ p. while_see b m s)

call_see : (s : State) (c : Call) → See s (call_events s c) (outcome s c).1.1
unfolding call_events outcome SeeIn
call_see s (Sender c) = see_kept (sender_marked (sender_move s c))
call_see s (Control c) = see_kept (control_marked (control_move s c))
call_see s (Receive r) = receive_see s r

calls_see : (s : State) (calls : List Call) → See s (events_from rules_viewed s calls) (after_list the_rules s calls)
unfolding events_from after_list
calls_see s [] = see_kept (unchanged s)
calls_see s (c ∷ cs) = see_then (call_see s c) (calls_see (outcome s c).1.1 cs)

-- ---- 64 of them

-- events are those before the first that collects, and others
rest_of : (es : List Event) → (rest : List Event) × (es ≡ until_collected es ++ rest)
unfolding until_collected
rest_of [] = ([], refl)
rest_of (e ∷ es) = go (collects e) (rest_of es)
  where
    go : (b : Bool) → (rest : List Event) × (es ≡ until_collected es ++ rest) → (rest : List Event) × (e ∷ es ≡ if b [] (e ∷ until_collected es) ++ rest)
    go true r = (e ∷ es, refl)
    go false r = (r.0, ap (λ (fs : List Event). e ∷ fs) r.1)

none_collects : (es : List Event) → count_events collects (until_collected es) ≡ 0
unfolding until_collected count_events
none_collects [] = refl
none_collects (e ∷ es) = go (collects e) refl (none_collects es)
  where
    go : (b : Bool) → collects e ≡ b → count_events collects (until_collected es) ≡ 0 → count_events collects (if b [] (e ∷ until_collected es)) ≡ 0
    go true h n = refl
    go false h n = rw h (omega (arith, n))

none_in_vain : {es : List Event} {u : State} → Sees es u → count_events finds_none_marked (until_collected es) ≡ 0
unfolding until_collected count_events collects
none_in_vain (sees_none m) = refl
none_in_vain sees_bits = refl
none_in_vain (sees_on c n h) = rw (c, n) (omega (arith, none_in_vain h))

most_64 : (k : LaneKey) (T : Tally) (before es : List Event) {s u : State} → Below k T (before ++ es) → See s es u → any_marked s ≡ true → count_events takes_item (until_collected es) ≤ 64
most_64 k T before es b h m =
    let r = rest_of es in
    part_most k takes_item (λ e. either (collects e) (finds_none_marked e)) (λ T. T.since_collected) (reads k) (λ T s. s.collected_small) T before (until_collected es) r.0
    (subst (λ (fs : List Event). Below k T (before ++ fs)) r.1 b) (neither (until_collected es) (none_collects es) (none_in_vain (h.sees m)))

some_key : LaneKey
some_key = record { slot = 0; generation = 0 }

calls_below : (s : State) (calls : List Call) → InOrder s → Below some_key (from_budget s.budget) (events_from rules_viewed s calls)
calls_below s calls i = (calls_pass some_key (from_budget s.budget) s calls i (from_budget_counted some_key s i.ordered)).below

-- between two calls
while_marked : (s : State) → InOrder s → any_marked s ≡ true → (calls : List Call) → count_events takes_item (until_collected (events_from rules_viewed s calls)) ≤ 64
while_marked s i m calls = most_64 some_key (from_budget s.budget) [] (events_from rules_viewed s calls) (calls_below s calls i) (calls_see s calls) m

-- ---- between two items of a batch

-- n items were there: the events of m more follow theirs
events_more : (n m : ℕ) (s : State) → length (take_up_to n s).0 ≡ n → take_up_to_events (n + m) s ≡ take_up_to_events n s ++ take_up_to_events m (take_up_to n s).1
unfolding take_up_to take_up_to_events and_more and_more_events
events_more zero m s h = ap (λ (k : ℕ). take_up_to_events k s) (zero-add m)
events_more (suc n) m s h = ap (λ (k : ℕ). take_up_to_events k s) (suc-add n m) ∙ go (take_one s).0 (take_one s).1 (events_more n m (take_one s).1) h
  where
    go : (l : List (LaneKey × ℕ)) (u : State) → (length (take_up_to n u).0 ≡ n → take_up_to_events (n + m) u ≡ take_up_to_events n u ++ take_up_to_events m (take_up_to n u).1)
        → length (and_more l u (take_up_to n u)).0 ≡ suc n
        → take_one_events s ++ and_more_events l (take_up_to_events (n + m) u) ≡ (take_one_events s ++ and_more_events l (take_up_to_events n u)) ++ take_up_to_events m (and_more l u (take_up_to n u)).1
    go [] u ih k = absurd (omega arith)
    go (g ∷ l) u ih k = ap (λ (es : List Event). take_one_events s ++ es) (ih (omega arith)) ∙ sym (append_assoc (take_one_events s) (take_up_to_events n u) (take_up_to_events m (take_up_to n u).1))

module _ (s : State) (n m room : ℕ) (full : length (take_up_to n s).0 ≡ n) where
  t : State
  t = (take_up_to n s).1

  batch : Call
  batch = Receive (TryRecvBatchInto (n + m) room)

  rest_see : accepted (outcome s batch).1.0 ≡ true → See t (take_up_to_events m t) (outcome s batch).1.1
  unfolding t batch outcome receive_outcome try_recv_batch_into accepted
  rest_see =
      unless_law (λ o. accepted o.1.0 ≡ true → See t (take_up_to_events m t) o.1.1) _ s _ (λ why a. absurd (no a refl))
      (λ p a. see_after (take_up_to_see m t) (subst (λ (u : State). Marked u (answer_items (n + m) (take_up_to (n + m) s).0 (release_all (take_up_to (n + m) s).1)).1.1) (ap (λ (r : Took). r.1) (take_up_to_more n m s full)) (answer_items_marked (n + m) (take_up_to (n + m) s).0 (take_up_to (n + m) s).1)))

  batch_events : accepted (outcome s batch).1.0 ≡ true → call_events s batch ≡ take_up_to_events n s ++ take_up_to_events m t
  unfolding t batch call_events receive_events
  batch_events a = ap (λ (b : Bool). if b (take_up_to_events (n + m) s) []) a ∙ events_more n m s full

  while_marked_in_batch : InOrder s → accepted (outcome s batch).1.0 ≡ true → any_marked t ≡ true → (calls : List Call)
      → count_events takes_item (until_collected (take_up_to_events m t ++ events_from rules_viewed (outcome s batch).1.1 calls)) ≤ 64
  unfolding events_from
  while_marked_in_batch i a k calls =
      let u : State = (outcome s batch).1.1 in
      let split : call_events s batch ++ events_from rules_viewed u calls ≡ take_up_to_events n s ++ (take_up_to_events m t ++ events_from rules_viewed u calls) =
      ap (λ (es : List Event). es ++ events_from rules_viewed u calls) (batch_events a) ∙ append_assoc (take_up_to_events n s) (take_up_to_events m t) (events_from rules_viewed u calls) in
      most_64 some_key (from_budget s.budget) (take_up_to_events n s) (take_up_to_events m t ++ events_from rules_viewed u calls)
      (subst (Below some_key (from_budget s.budget)) split (calls_below s (batch ∷ calls) i)) (see_then (rest_see a) (calls_see u calls)) k

-- ---- between two items of a batch with a bound

while_state_see : (b m : ℕ) (s : State) → See s (take_while_events b m s) (take_while b m s).1.1
while_state_see b m s = while_law (λ t es. See s es t.1.1) b m s (λ all. take_up_to_see m s) (λ n w. halted_see n s)

answer_while_marked : (m : ℕ) (b : Bool) (l : List (LaneKey × ℕ)) (s : State) → Marked s (answer_while m b l (release_all s)).1.1
unfolding answer_while
answer_while_marked m true l s = release_all_marked s
answer_while_marked m false l s = answer_items_marked m l s

module _ (s : State) (n m bound room : ℕ) (full : length (take_up_to n s).0 ≡ n) (every : AllAdmitted bound (take_up_to n s).0) where
  then : State
  then = (take_up_to n s).1

  -- what the plain batch would hand out in all, and after the n items
  items : List (LaneKey × ℕ)
  items = (take_up_to (n + m) s).0

  others : List (LaneKey × ℕ)
  others = (take_up_to m then).0

  more : ℕ
  more = admitted bound others

  items_more : items ≡ (take_up_to n s).0 ++ others
  unfolding then items others
  items_more = ap (λ (r : Took). r.0) (take_up_to_more n m s full)

  admitted_then : admitted bound items ≡ n + more
  unfolding more
  admitted_then = ap (admitted bound) items_more ∙ admitted_more bound (take_up_to n s).0 others every ∙ ap (λ (k : ℕ). k + more) full

  length_then : length items ≡ n + length others
  length_then = ap length items_more ∙ length-append (take_up_to n s).0 others ∙ ap (λ (k : ℕ). k + length others) full

  -- the batch stops if that of m items, after the n, does
  stops_alike : ltb (admitted bound items) (length items) ≡ ltb more (length others)
  stops_alike = rw (admitted_then, length_then) (go (ltb more (length others)) refl)
    where
      go : (c : Bool) → ltb more (length others) ≡ c → ltb (n + more) (n + length others) ≡ c
      go true e = lt-ltb (n + more) (n + length others) (omega (arith, ltb-true more (length others) e))
      go false e = le-ltb (n + more) (n + length others) (omega (arith, ltb-false more (length others) e))

  -- it leaves what that one leaves, before the credit
  state_more : (take_while bound (n + m) s).1.1 ≡ (take_while bound m then).1.1
  unfolding take_while then items others more
  state_more = rw stops_alike (go (ltb more (length others)))
    where
      took : Bool → ℕ → ℕ → State → Bool × Took
      took c k limit u = if c (true, (take k (take_up_to limit u).0, halted (polled (take_up_to k u).1))) (false, take_up_to limit u)

      go : (c : Bool) → (took c (admitted bound items) (n + m) s).1.1 ≡ (took c more m then).1.1
      go true = ap (λ (k : ℕ). halted (polled (take_up_to k s).1)) admitted_then ∙ ap (λ (r : Took). halted (polled r.1)) (take_up_to_more n more s full)
      go false = ap (λ (r : Took). r.1) (take_up_to_more n m s full)

  -- and that one's events follow those of the n items
  while_events_more : take_while_events bound (n + m) s ≡ take_up_to_events n s ++ take_while_events bound m then
  unfolding take_while_events halted_events then items others more
  while_events_more = rw stops_alike (go (ltb more (length others)))
    where
      at_stop : State → List Event
      at_stop u = polled_events u ++ refill_events (polled u).budget

      go : (c : Bool)
          → if c (halted_events (admitted bound items) s) (take_up_to_events (n + m) s)
          ≡ take_up_to_events n s ++ if c (halted_events more then) (take_up_to_events m then)
      go true =
          ap (λ (k : ℕ). take_up_to_events k s ++ at_stop (take_up_to k s).1) admitted_then
          ∙ ap (λ (es : List Event). es ++ at_stop (take_up_to (n + more) s).1) (events_more n more s full)
          ∙ ap (λ (r : Took). (take_up_to_events n s ++ take_up_to_events more then) ++ at_stop r.1) (take_up_to_more n more s full)
          ∙ append_assoc (take_up_to_events n s) (take_up_to_events more then) (at_stop (take_up_to more then).1)
      go false = events_more n m s full

  bounded : Call
  bounded = Receive (TryRecvBatchIntoWhile (n + m) bound room)

  while_rest_see : accepted (outcome s bounded).1.0 ≡ true → See then (take_while_events bound m then) (outcome s bounded).1.1
  unfolding bounded outcome receive_outcome try_recv_batch_into_while accepted
  while_rest_see =
      let w : Bool × Took = take_while bound (n + m) s in
      unless_law (λ o. accepted o.1.0 ≡ true → See then (take_while_events bound m then) o.1.1) _ s _ (λ why a. absurd (no a refl))
      (λ p a. see_after (while_state_see bound m then)
      (subst (λ (u : State). Marked u (answer_while (n + m) w.0 w.1.0 (release_all w.1.1)).1.1) state_more
      (answer_while_marked (n + m) w.0 w.1.0 w.1.1)))

  bounded_events : accepted (outcome s bounded).1.0 ≡ true → call_events s bounded ≡ take_up_to_events n s ++ take_while_events bound m then
  unfolding bounded call_events receive_events
  bounded_events a = ap (λ (b : Bool). if b (take_while_events bound (n + m) s) []) a ∙ while_events_more

  while_marked_in_while : InOrder s → accepted (outcome s bounded).1.0 ≡ true → any_marked then ≡ true → (calls : List Call)
      → count_events takes_item (until_collected (take_while_events bound m then ++ events_from rules_viewed (outcome s bounded).1.1 calls)) ≤ 64
  unfolding events_from
  while_marked_in_while i a k calls =
      let u : State = (outcome s bounded).1.1 in
      let split : call_events s bounded ++ events_from rules_viewed u calls
      ≡ take_up_to_events n s ++ (take_while_events bound m then ++ events_from rules_viewed u calls) =
      ap (λ (es : List Event). es ++ events_from rules_viewed u calls) (bounded_events a)
      ∙ append_assoc (take_up_to_events n s) (take_while_events bound m then) (events_from rules_viewed u calls) in
      most_64 some_key (from_budget s.budget) (take_up_to_events n s) (take_while_events bound m then ++ events_from rules_viewed u calls)
      (subst (Below some_key (from_budget s.budget)) split (calls_below s (bounded ∷ calls) i)) (see_then (while_rest_see a) (calls_see u calls)) k

-- ---- calls that do as the rules

module _ (W : Viewed) (sim : Simulation W) where
  pub words_at_most_64_while_marked : AtMost64WhileMarked W
  unfolding AtMost64WhileMarked
  words_at_most_64_while_marked w o m calls = rw (same_events W sim w calls o) (while_marked (W.view w) (sim.shows_in_order w o) m calls)

  pub words_at_most_64_while_marked_in_batch : AtMost64WhileMarkedInBatch W
  unfolding AtMost64WhileMarkedInBatch t batch
  words_at_most_64_while_marked_in_batch w o n m room e full k calls =
      let c = Receive (TryRecvBatchInto (n + m) room) in
      rw (same_events W sim (W.rules.step w c).1 calls (sim.keeps_ok w c o), sim.leaves_alike w c o)
      (while_marked_in_batch (W.view w) n m room full (sim.shows_in_order w o) (ap accepted (sym (sim.answers_alike w c o)) ∙ e) k calls)

  pub words_at_most_64_while_marked_in_while : AtMost64WhileMarkedInWhile W
  unfolding AtMost64WhileMarkedInWhile then bounded
  words_at_most_64_while_marked_in_while w o n m bound room e full every k calls =
      let c = Receive (TryRecvBatchIntoWhile (n + m) bound room) in
      rw (same_events W sim (W.rules.step w c).1 calls (sim.keeps_ok w c o), sim.leaves_alike w c o)
      (while_marked_in_while (W.view w) n m bound room full every (sim.shows_in_order w o) (ap accepted (sym (sim.answers_alike w c o)) ∙ e) k calls)

-- ---- the rules

pub at_most_64_while_marked : AtMost64WhileMarked rules_viewed
at_most_64_while_marked = words_at_most_64_while_marked rules_viewed rules_simulate

pub at_most_64_while_marked_in_batch : AtMost64WhileMarkedInBatch rules_viewed
at_most_64_while_marked_in_batch = words_at_most_64_while_marked_in_batch rules_viewed rules_simulate

pub at_most_64_while_marked_in_while : AtMost64WhileMarkedInWhile rules_viewed
at_most_64_while_marked_in_while = words_at_most_64_while_marked_in_while rules_viewed rules_simulate
