-- The counts of Events agree with the state after every call, and so after every run from an accepted opening.
-- Assumes nothing.
use mathlib.Core.Path.{◌≡◌, refl, ap}
use mathlib.Core.Bool.{Bool, true, false}
use mathlib.Core.List.{List, [], ◌∷◌, ◌++◌}
use Prim.Native.Nat.{ℕ, zero, suc, ◌+◌, ◌-◌, ◌≤◌}
use native.Mathlib.Omega.{arith}
use lib.Dec.{leb}
use Rattle.model.specs.declared.LaneKey.{LaneKey}
use Rattle.model.specs.declared.Opening.{Opening}
use Rattle.model.specs.declared.SenderCall.{SenderCall}
use Rattle.model.specs.declared.ReceiveCall.{ReceiveCall}
use Rattle.model.specs.declared.ReceiveCall.TheVariants.{TryRecv, TryRecvFair, TryRecvFrom, TryRecvBatchInto, TryRecvBatchIntoWhile}
use Rattle.model.specs.declared.ControlCall.{ControlCall}
use Rattle.model.specs.declared.Call.{Call}
use Rattle.model.specs.declared.Call.TheVariants.{Sender, Receive, Control}
use Rattle.model.specs.declared.Answer.{Answer}
use Rattle.model.specs.declared.Answer.TheVariants.{Done, Empty, Disconnected}
use Rattle.model.specs.Lists.{if, without, from}
use Rattle.model.specs.State.{Slot, State, vacant, may_queue, registered_lanes, living_senders}
use Rattle.model.specs.Changes.{with_queue, with_free, with_issued, put, new_lane, signalled, pushed, sender_dropped, popped, with_paused, credited}
use Rattle.model.specs.Turn.{unreleased_after_one}
use Rattle.model.specs.Outcome.{Outcome, says}
use Rattle.model.specs.Runs.{Lent, accepted, ends, after_list}
use Rattle.model.specs.Receive.{retire_empty_paused_lanes, empty_or_drained, nothing_taken, answer_one, queue_lane_if, take_from, release_all, answer_items, receive_outcome, try_recv, try_recv_fair, try_recv_from, try_recv_batch_into, take_while, answer_while, try_recv_batch_into_while}
use Rattle.model.specs.Opening.{opened_state, opening_outcome}
use Rattle.model.specs.Rules.{outcome, the_rules}
use Rattle.model.specs.Order.{Ordered, InOrder}
use Rattle.model.specs.Viewed.{rules_viewed}
use Rattle.model.specs.Events.{Event, take_from_events, receive_events, call_events, events_from, run_events, count_events, take_while_events}
use Rattle.demands.proofs.Counting.{equal, other, same?}
use Rattle.demands.proofs.Moves.{Moves, stays_put, credits, registers_new, registers_old, sends, posts, drops_it, pauses_it, resumes, resumes_not, closes_it, polls_all, shuts_it, unless_law, sender_move, control_move}
use Rattle.demands.proofs.StopLaws.{while_law}
use Rattle.demands.proofs.InOrder.{call_keeps_order, opening_in_order}
use Rattle.demands.proofs.Demand2.{opens_as}
use Rattle.demands.proofs.Events.{Tally, next, tally, Small, Below, ends_below, goes_below, Pass, bind, Counted, small, no_event, Alike, counted_alike, unchanged, alike_trans, put_generations, put_bursts, retire_lane_alike, retire_empty_paused_alike, release_all_alike, found_empty_counted, take_one_pass, take_fair_pass, take_up_to_pass, halted_pass}

put_alike : (s : State) (x : ℕ) (l : Slot) → l.generation ≡ (s.slot_of x).generation → l.burst ≡ (s.slot_of x).burst → Alike s (put x l s)
put_alike s x l g b = record { budgets = refl; issues = refl; generations = put_generations s x l g; bursts = put_bursts s x l b }

queue_alike : (s : State) (q : List ℕ) → Alike s (with_queue q s)
queue_alike s q = record { budgets = refl; issues = refl; generations = λ y. refl; bursts = λ y. refl }

-- a new lane: its key has given nothing
new_lane_counted : (k : LaneKey) (T : Tally) (s : State) → Counted k T s → Counted k T (with_issued (suc s.issued) (put s.issued (new_lane s.first_generation (s.slot_of s.issued)) s))
new_lane_counted k T s c = elim (same? s.issued k.slot) [
  | equal p e i ↦ record {
    by_budget = c.by_budget;
    fewer = c.fewer;
    turn_most = c.turn_most;
    by_burst = λ h. rw e (none p);
    known = λ h. absurd (omega (arith, none p));
  }
  | other d e i ↦ record {
    by_budget = c.by_budget;
    fewer = c.fewer;
    turn_most = c.turn_most;
    by_burst = λ h. rw e (c.by_burst (rw e at h));
    known = λ h. (omega (arith, (c.known h).0), rw e (c.known h).1);
  }
]
  where
    none : s.issued ≡ k.slot → T.in_turn ≤ 0
    none p = go T.in_turn refl
      where
        go : (n : ℕ) → T.in_turn ≡ n → n ≤ 0
        go zero e = omega arith
        go (suc n) e = absurd (omega (arith, (c.known (omega arith)).0, p))

freed_lane_counted : (k : LaneKey) (T : Tally) (s : State) (x : ℕ) (f : List ℕ) → Counted k T s → Counted k T (with_free f (put x (new_lane ((s.slot_of x).generation + 1) (s.slot_of x)) s))
freed_lane_counted k T s x f c = elim (same? x k.slot) [
  | equal p e i ↦ record {
    by_budget = c.by_budget;
    fewer = c.fewer;
    turn_most = c.turn_most;
    by_burst = λ h. rw e (none p (rw e at h));
    known = λ h. ((c.known h).0, rw e (omega (arith, (c.known h).1, same_generation p)));
  }
  | other d e i ↦ record {
    by_budget = c.by_budget;
    fewer = c.fewer;
    turn_most = c.turn_most;
    by_burst = λ h. rw e (c.by_burst (rw e at h));
    known = λ h. ((c.known h).0, rw e (c.known h).1);
  }
]
  where
    same_generation : x ≡ k.slot → (s.slot_of x).generation ≡ (s.slot_of k.slot).generation
    same_generation p = ap (λ (z : ℕ). (s.slot_of z).generation) p

    none : x ≡ k.slot → (s.slot_of x).generation + 1 ≡ k.generation → T.in_turn ≤ 0
    none p g = go T.in_turn refl
      where
        go : (n : ℕ) → T.in_turn ≡ n → n ≤ 0
        go zero e = omega arith
        go (suc n) e = absurd (omega (arith, (c.known (omega arith)).1, g, same_generation p))

sender_counted : (k : LaneKey) (T : Tally) {s u : State} {c : SenderCall} {a : Answer} → Moves s (ends (Sender c) a) u → Counted k T s → Counted k T u
sender_counted k T (stays_put s c a h) d = d
sender_counted k T (credits s c a h) d = counted_alike (release_all_alike s) d
sender_counted k T (registers_new s m lt) d = new_lane_counted k T s d
sender_counted k T (registers_old s m x i l) d = freed_lane_counted k T s x _ d
sender_counted k T (sends s j v w free a r nf) d = counted_alike (put_alike s j.slot (signalled (pushed v (s.slot_of j.slot))) refl refl) d
sender_counted k T (posts s j v w free a r nf) d = counted_alike (put_alike s j.slot (pushed v (s.slot_of j.slot)) refl refl) d
sender_counted k T (drops_it s j a) d = counted_alike (put_alike s j.slot (signalled (sender_dropped (s.slot_of j.slot))) refl refl) d

control_counted : (k : LaneKey) (T : Tally) {s u : State} {c : ControlCall} {a : Answer} → Moves s (ends (Control c) a) u → Counted k T s → Counted k T u
control_counted k T (stays_put s c a h) d = d
control_counted k T (credits s c a h) d = counted_alike (release_all_alike s) d
control_counted k T (pauses_it s i c) d = counted_alike (alike_trans (put_alike s i.key.slot (with_paused true (credited (s.slot_of i.key.slot))) refl refl) (queue_alike _ _)) d
control_counted k T (resumes s i c p) d = counted_alike (alike_trans (put_alike s i.key.slot (signalled (with_paused false (s.slot_of i.key.slot))) refl refl) (queue_alike _ _)) d
control_counted k T (resumes_not s i c p) d = d
control_counted k T (closes_it s i c) d = counted_alike (alike_trans (queue_alike s (without i.key.slot s.queue)) (retire_lane_alike i.key.slot _)) d
control_counted k T (polls_all s) d = counted_alike (queue_alike s _) d
control_counted k T (shuts_it s) d = counted_alike record { budgets = refl; issues = refl; generations = λ y. refl; bursts = λ y. refl } d

-- the answer of a receive that is not refused
pub record Answered (t : State) (o : Outcome) : Type 0 where
  pub is_accepted : accepted o.1.0 ≡ true
  pub is_alike : Alike t o.1.1

nothing_taken_answered : (t s : State) → Alike t s → Answered t (nothing_taken s)
unfolding nothing_taken empty_or_drained accepted
nothing_taken_answered t s a = go (leb 1 (living_senders s)) (leb 1 (registered_lanes (retire_empty_paused_lanes (from 0 s.issued) s)))
  where
    go : (b c : Bool) → Answered t (if b (says Empty s) (says (if c Empty Disconnected) (retire_empty_paused_lanes (from 0 s.issued) s)))
    go true c = record { is_accepted = refl; is_alike = a }
    go false true = record { is_accepted = refl; is_alike = alike_trans a (retire_empty_paused_alike _ s) }
    go false false = record { is_accepted = refl; is_alike = alike_trans a (retire_empty_paused_alike _ s) }

pub answer_one_answered : (l : List (LaneKey × ℕ)) (s : State) → Answered s (answer_one l s)
unfolding answer_one accepted
answer_one_answered [] s = nothing_taken_answered s s (unchanged s)
answer_one_answered (g ∷ l) s = record { is_accepted = refl; is_alike = unchanged s }

pub answer_items_answered : (m : ℕ) (l : List (LaneKey × ℕ)) (s : State) → Answered s (answer_items m l (release_all s))
unfolding answer_items accepted
answer_items_answered zero l s = record { is_accepted = refl; is_alike = release_all_alike s }
answer_items_answered (suc m) [] s = nothing_taken_answered s (release_all s) (release_all_alike s)
answer_items_answered (suc m) (g ∷ l) s = record { is_accepted = refl; is_alike = release_all_alike s }

pub answer_stopped_answered : (m : ℕ) (l : List (LaneKey × ℕ)) (s : State) → Answered s (answer_while m true l (release_all s))
unfolding answer_while accepted
answer_stopped_answered m l s = record { is_accepted = refl; is_alike = release_all_alike s }

module _ (k : LaneKey) (T : Tally) where
  -- the events of a receive, if its answer is no refusal
  Receives : List Event → Outcome → Type 0
  Receives es o = Pass k (Counted k) T (if (accepted o.1.0) es []) o.1.1

  answered_pass : (es : List Event) (t : State) (o : Outcome) → Answered t o → Pass k (Counted k) T es t → Receives es o
  unfolding Receives
  answered_pass es t o a p = rw a.is_accepted record { below = p.below; at_end = counted_alike a.is_alike p.at_end }

  take_from_pass : (l : List ℕ) (x : ℕ) (s : State) → Counted k T s → Receives (take_from_events l x s) (take_from l x s)
  unfolding Receives take_from take_from_events tally accepted queue_lane_if
  take_from_pass [] x s c = go (s.slot_of x).living
    where
      go : (b : Bool) → Pass k (Counted k) T (if (accepted (if b Empty Disconnected)) (take_from_events [] x s) []) (take_from [] x s).1.1
      go true = let d = found_empty_counted k T s x (without x s.queue) c in record { below = goes_below (small c) (ends_below (small d)); at_end = d }
      go false = let d = found_empty_counted k T s x (without x s.queue) c in record { below = goes_below (small c) (ends_below (small d)); at_end = d }
  take_from_pass (v ∷ vs) x s c = no_event (counted_alike (alike_trans (put_alike s x m refl refl) (queue_lane_alike (may_queue s x) (put x m s))) c)
    where
      m : Slot
      m = popped vs (unreleased_after_one s x) (s.slot_of x).burst (s.slot_of x)

      queue_lane_alike : (b : Bool) (u : State) → Alike u (queue_lane_if b x u)
      queue_lane_alike true u = alike_trans (put_alike u x (signalled (u.slot_of x)) refl refl) (queue_alike _ _)
      queue_lane_alike false u = unchanged u

  while_pass : (b m : ℕ) (s : State) → Ordered s → Counted k T s → let t = take_while b m s in Receives (take_while_events b m s) (answer_while m t.0 t.1.0 (release_all t.1.1))
  unfolding answer_while
  while_pass b m s o c =
      while_law (λ t es. Receives es (answer_while m t.0 t.1.0 (release_all t.1.1))) b m s
      (λ all. answered_pass _ _ _ (answer_while_going m _ _) (take_up_to_pass k m T s o c))
      (λ n w. answered_pass _ _ _ (answer_stopped_answered m _ _) (halted_pass k n T s w.up.lane w.up.others w.up.first o c))
    where
      answer_while_going : (m : ℕ) (l : List (LaneKey × ℕ)) (s : State) → Answered s (answer_while m false l (release_all s))
      answer_while_going m l s = answer_items_answered m l s

  receive_pass : (s : State) (r : ReceiveCall) → Ordered s → Counted k T s → Receives (receive_events s r) (receive_outcome s r)
  unfolding Receives receive_events receive_outcome try_recv try_recv_fair try_recv_from try_recv_batch_into try_recv_batch_into_while accepted
  receive_pass s TryRecv o c = unless_law (Receives (receive_events s TryRecv)) _ s _ (λ n. no_event c) (λ p. answered_pass _ _ _ (answer_one_answered _ _) (take_one_pass k T s o c))
  receive_pass s TryRecvFair o c = unless_law (Receives (receive_events s TryRecvFair)) _ s _ (λ n. no_event c) (λ p. answered_pass _ _ _ (answer_one_answered _ _) (take_fair_pass k T s o c))
  receive_pass s (TryRecvFrom i) o c = unless_law (Receives (receive_events s (TryRecvFrom i))) _ s _ (λ n. no_event c) (λ p. take_from_pass _ _ s c)
  receive_pass s (TryRecvBatchInto m n) o c =
      unless_law (Receives (receive_events s (TryRecvBatchInto m n))) _ s _ (λ n. no_event c) (λ p. answered_pass _ _ _ (answer_items_answered m _ _) (take_up_to_pass k m T s o c))
  receive_pass s (TryRecvBatchIntoWhile m b n) o c = unless_law (Receives (receive_events s (TryRecvBatchIntoWhile m b n))) _ s _ (λ n. no_event c) (λ p. while_pass b m s o c)

  pub call_pass : (s : State) (c : Call) → Ordered s → Counted k T s → Pass k (Counted k) T (call_events s c) (outcome s c).1.1
  unfolding call_events outcome Receives
  call_pass s (Sender c) o d = no_event (sender_counted k T (sender_move s c) d)
  call_pass s (Control c) o d = no_event (control_counted k T (control_move s c) d)
  call_pass s (Receive r) o d = receive_pass s r o d

pub calls_pass : (k : LaneKey) (T : Tally) (s : State) (calls : List Call) → InOrder s → Counted k T s → Pass k (Counted k) T (events_from rules_viewed s calls) (after_list the_rules s calls)
unfolding events_from after_list
calls_pass k T s [] i d = no_event d
calls_pass k T s (c ∷ cs) i d = bind (call_pass k T s c i.ordered d) (λ U e. calls_pass k U (outcome s c).1.1 cs (call_keeps_order s c i) e)

-- counts that begin in any state in order: as if the budget had been set, and the items since taken, before a collection
abbrev pub from_budget : ℕ → Tally
from_budget b = record { since_set = 64 - b; since_collected = 0; in_turn = 0 }

pub from_budget_counted : (k : LaneKey) (s : State) → Ordered s → Counted k (from_budget s.budget) s
from_budget_counted k s o = record { by_budget = omega (arith, o.budget_most); fewer = omega arith; turn_most = omega arith; by_burst = λ e. omega arith; known = λ e. absurd (omega arith) }

-- nothing counted yet
abbrev pub zeros : Tally
zeros = record { since_set = 0; since_collected = 0; in_turn = 0 }

opened_counted : (k : LaneKey) (o : Opening) → Counted k zeros (opened_state o)
unfolding opened_state vacant
opened_counted k o = record { by_budget = refl; fewer = omega arith; turn_most = omega arith; by_burst = λ h. omega arith; known = λ h. absurd (omega arith) }

pub run_pass : (k : LaneKey) (o : Opening) (lent : Lent) → (opening_outcome o lent).1.0 ≡ Done → (calls : List Call)
    → Pass k (Counted k) zeros (run_events rules_viewed o lent calls) (after_list the_rules (opening_outcome o lent).1.1 calls)
unfolding run_events tally next
run_pass k o lent a calls =
    let c : Counted k zeros (opening_outcome o lent).1.1 = rw (opens_as o lent) (opened_counted k o) in
    let p = calls_pass k zeros (opening_outcome o lent).1.1 calls (opening_in_order o lent a) c in
    record { below = goes_below (small c) p.below; at_end = p.at_end }

first : {k : LaneKey} {T : Tally} {es : List Event} → Below k T es → Small T
first (ends_below s) = s
first (goes_below s b) = s

-- in a part of the events without an event that passes `starts`, a count that such an event sets to 0 only grows
module _ (k : LaneKey) (counts starts : Event → Bool) (reading : Tally → ℕ)
    (reads : (T : Tally) (e : Event) → reading (next k T e) ≡ if (starts e) 0 (if (counts e) (reading T + 1) (reading T)))
    (most : (T : Tally) → Small T → reading T ≤ 64) where
  part_from : (T : Tally) (part rest : List Event) → Below k T (part ++ rest) → count_events starts part ≡ 0 → reading T + count_events counts part ≤ 64
  unfolding count_events
  part_from T [] rest b z = omega (arith, most T (first b))
  part_from T (e ∷ part) rest (goes_below s b) z = go (starts e) refl (counts e) (reads T e) z (part_from (next k T e) part rest b)
    where
      go : (x : Bool) → starts e ≡ x → (y : Bool) → reading (next k T e) ≡ if (starts e) 0 (if y (reading T + 1) (reading T)) → if (starts e) 1 0 + count_events starts part ≡ 0
          → (count_events starts part ≡ 0 → reading (next k T e) + count_events counts part ≤ 64) → reading T + (if y 1 0 + count_events counts part) ≤ 64
      go true g y h z ih = absurd (omega (arith, rw g at z))
      go false g true h z ih = omega (arith, rw g at h, ih (omega (arith, rw g at z)))
      go false g false h z ih = omega (arith, rw g at h, ih (omega (arith, rw g at z)))

  pub part_most : (T : Tally) (before part rest : List Event) → Below k T (before ++ (part ++ rest)) → count_events starts part ≡ 0 → count_events counts part ≤ 64
  part_most T [] part rest b z = omega (arith, part_from T part rest b z)
  part_most T (e ∷ before) part rest (goes_below s b) z = part_most (next k T e) before part rest b z
