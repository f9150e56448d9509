-- In a run, a registered lane whose sender is dropped is pending: dropping marks the signal, and finding the lane empty retires it.
-- And when a receive has taken nothing, no page bit is set.
-- Assumes nothing.
use mathlib.Core.Path.{◌≡◌, refl, ap, sym, ◌∙◌}
use mathlib.Core.Bool.{Bool, true, false, not}
use mathlib.Core.List.{List, [], ◌∷◌, ◌++◌}
use Prim.Native.Nat.{ℕ, zero, suc, ◌+◌, ◌-◌, ◌≤◌, ◌<◌}
use native.Mathlib.Omega.{arith}
use lib.Dec.{eqb, leb, ltb}
use borrow.Author.Tests.{eq-eqb, ltb-true, ltb-false}
use Rattle.model.specs.declared.LaneKey.{LaneKey}
use Rattle.model.specs.declared.Opening.{Opening}
use Rattle.model.specs.declared.SenderCall.{SenderCall}
use Rattle.model.specs.declared.ReceiveCall.{ReceiveCall}
use Rattle.model.specs.declared.ReceiveCall.TheVariants.{TryRecv, TryRecvFair, TryRecvFrom, TryRecvBatchInto, TryRecvBatchIntoWhile}
use Rattle.model.specs.declared.ControlCall.{ControlCall}
use Rattle.model.specs.declared.Call.{Call}
use Rattle.model.specs.declared.Call.TheVariants.{Sender, Receive, Control}
use Rattle.model.specs.declared.Answer.{Answer}
use Rattle.model.specs.declared.Answer.TheVariants.{Empty}
use Rattle.model.specs.Lists.{if, count, from, non_empty, without}
use Rattle.model.specs.State.{Slot, State, vacant, may_queue, living_senders}
use Rattle.model.specs.Changes.{with_queue, with_budget, put, new_lane, signalled, unmarked, pushed, popped, settled_empty, with_paused, credited, sender_dropped, retired}
use Rattle.model.specs.Ready.{group_of, groups_in, marks, collect_marks, collect_group, start_group, groups_round, collect_first, collect_each, collect_ready_group, collect_ready}
use Rattle.model.specs.Turn.{retire_lane, retire_lane_if, settle_empty, before_next_turn, run_down_from, run_down, unreleased_after_one, give_item, Took, collect_if_due, collect_if_none_queued, polled, take_one, take_fair}
use Rattle.model.specs.Outcome.{says}
use Rattle.model.specs.Runs.{Lent, ends, after_list}
use Rattle.model.specs.Receive.{retire_empty_paused_lanes, empty_or_drained, nothing_taken, answer_one, queue_lane_if, take_from, and_more, take_up_to, release_all, answer_items, try_recv, try_recv_fair, try_recv_from, try_recv_batch_into, receive_outcome, take_while, answer_while, try_recv_batch_into_while, halted}
use Rattle.model.specs.Opening.{opened_state, opening_outcome}
use Rattle.model.specs.Rules.{outcome, the_rules}
use Rattle.model.specs.Order.{Ordered}
use Rattle.demands.proofs.Counting.{equal, other, same?, self, no, from_in, count_append}
use Rattle.demands.proofs.OrderKept.{marks_in, collect_group_issued, collect_if_due_ordered, run_down_ordered, start_group_le}
use Rattle.demands.proofs.Quiet.{poll}
use Rattle.demands.proofs.WaitInReceive.{group_low}
use Rattle.demands.proofs.Moves.{Moves, stays_put, credits, registers_new, registers_old, sends, posts, drops_it, pauses_it, resumes, resumes_not, closes_it, polls_all, shuts_it, unless_law, sender_move, control_move, TakeResult, took_none, took_one, take_one_taken, take_fair_taken}
use Rattle.demands.proofs.StopLaws.{while_law}
use Rattle.demands.proofs.Demand2.{opens_as}

pub record Signal (l : Slot) : Type 0 where
  pub signal : l.registered ≡ true → l.living ≡ false → l.pending ≡ true

abbrev pub SignalsKept : State → State → Type 0
SignalsKept s u = (y : ℕ) → Signal (s.slot_of y) → Signal (u.slot_of y)

signals_trans : (s t u : State) → SignalsKept s t → SignalsKept t u → SignalsKept s u
signals_trans s t u a b y h = b y (a y h)

put_signals : (s : State) (x : ℕ) (l : Slot) → (Signal (s.slot_of x) → Signal l) → SignalsKept s (put x l s)
put_signals s x l f y h = elim (same? x y) [ equal p e i ↦ rw e (f (rw p h)) | other d e i ↦ rw e h ]

gone : (l : Slot) → l.registered ≡ false → Signal l
gone l e = record { signal = λ r n. absurd (no r e) }

alive : (l : Slot) → l.living ≡ true → Signal l
alive l e = record { signal = λ r n. absurd (no e n) }

is_pending : (l : Slot) → l.pending ≡ true → Signal l
is_pending l e = record { signal = λ r n. e }

as_was : (l m : Slot) → m.registered ≡ l.registered → m.living ≡ l.living → m.pending ≡ l.pending → Signal l → Signal m
as_was l m a b c h = record { signal = λ r n. c ∙ h.signal (sym a ∙ r) (sym b ∙ n) }

retire_lane_signals : (x : ℕ) (s : State) → SignalsKept s (retire_lane x s)
unfolding retire_lane
retire_lane_signals x s = put_signals s x (retired (s.slot_of x)) (λ h. gone (retired (s.slot_of x)) refl)

retire_lane_if_signals : (b : Bool) (x : ℕ) (s : State) → SignalsKept s (retire_lane_if b x s)
unfolding retire_lane_if
retire_lane_if_signals true x s y h = retire_lane_signals x s y h
retire_lane_if_signals false x s y h = h

-- found empty: idle, and retired if its sender is dropped
settle_empty_signals : (x : ℕ) (q : List ℕ) (s : State) → SignalsKept s (settle_empty x q s)
unfolding settle_empty retire_lane_if retire_lane
settle_empty_signals x q s = go (s.slot_of x).living refl
  where
    m : Slot
    m = settled_empty (s.slot_of x)

    t : State
    t = with_queue q (put x m s)

    go : (b : Bool) → (s.slot_of x).living ≡ b → SignalsKept s (retire_lane_if (not b) x t)
    go true e y h = put_signals s x m (λ g. alive m e) y h
    go false e y h = elim (same? x y) [ equal p g i ↦ rw g (gone (retired (t.slot_of x)) refl) | other d g i ↦ rw g h ]

before_next_turn_signals : (q : List ℕ) (s : State) → SignalsKept s (before_next_turn q s)
unfolding before_next_turn
before_next_turn_signals [] s y h = h
before_next_turn_signals (z ∷ q) s y h = h

run_down_from_signals : (q : List ℕ) (s : State) → SignalsKept s (run_down_from q s)
unfolding run_down_from
run_down_from_signals [] s y h = h
run_down_from_signals (z ∷ q) s y h = go (non_empty (s.slot_of z).ring) (run_down_from_signals q (before_next_turn q (settle_empty z q s))) y h
  where
    u : State
    u = before_next_turn q (settle_empty z q s)

    go : (b : Bool) → SignalsKept u (run_down_from q u) → SignalsKept s (if b s (run_down_from q u))
    go true r y h = h
    go false r y h = r y (before_next_turn_signals q (settle_empty z q s) y (settle_empty_signals z q s y h))

run_down_signals : (s : State) → SignalsKept s (run_down s)
unfolding run_down
run_down_signals s = run_down_from_signals s.queue s

collect_group_signals : (s : State) (g : ℕ) → SignalsKept s (collect_group s g)
unfolding collect_group collect_marks
collect_group_signals s g = go (marks s g)
  where
    unmark : (b : Bool) (l : Slot) → Signal l → Signal (if b (unmarked l) l)
    unmark true l h = as_was l (unmarked l) refl refl refl h
    unmark false l h = h

    go : (m : List ℕ) → SignalsKept s (collect_marks m s g)
    go [] y h = h
    go (x ∷ m) y h = unmark (eqb (group_of y) g) (s.slot_of y) h

collect_each_signals : (gs : List ℕ) (s : State) → SignalsKept s (collect_each gs s)
unfolding collect_each
collect_each_signals [] s y h = h
collect_each_signals (g ∷ gs) s y h = collect_each_signals gs (collect_group s g) y (collect_group_signals s g y h)

collect_first_signals : (gs : List ℕ) (s : State) → SignalsKept s (collect_first gs s)
unfolding collect_first
collect_first_signals [] s y h = h
collect_first_signals (g ∷ gs) s y h = go (non_empty (marks s g)) (collect_first_signals gs s) y h
  where
    go : (b : Bool) → SignalsKept s (collect_first gs s) → SignalsKept s (if b (collect_group s g) (collect_first gs s))
    go true r = collect_group_signals s g
    go false r = r

collect_if_due_signals : (n : ℕ) (q : List ℕ) (s : State) → SignalsKept s (collect_if_due n q s)
unfolding collect_if_due collect_ready_group
collect_if_due_signals zero (z ∷ q) s y h = collect_first_signals (groups_round s) s y h
collect_if_due_signals zero [] s y h = h
collect_if_due_signals (suc n) q s y h = h

collect_if_none_signals : (q : List ℕ) (s : State) → SignalsKept s (collect_if_none_queued q s)
unfolding collect_if_none_queued collect_ready
collect_if_none_signals [] s y h = run_down_signals (collect_each (groups_round s) s) y (collect_each_signals (groups_round s) s y h)
collect_if_none_signals (z ∷ q) s y h = h

pub poll_signals : (f : Bool) (s : State) → SignalsKept s (poll f s)
unfolding poll polled collect_ready
poll_signals true s y h = run_down_signals (with_budget 64 (collect_each (groups_round s) s)) y (collect_each_signals (groups_round s) s y h)
poll_signals false s y h = collect_if_none_signals _ _ y (run_down_signals _ y (collect_if_due_signals s.budget s.queue s y h))

give_item_signals : (s : State) (x : ℕ) (q vs : List ℕ) (b : Bool) → SignalsKept s (give_item s x q vs b)
unfolding give_item
give_item_signals s x q vs b = put_signals s x (popped vs (unreleased_after_one s x) (if b 0 ((s.slot_of x).burst + 1)) (s.slot_of x)) (as_was (s.slot_of x) _ refl refl refl)

pub release_all_signals : (s : State) → SignalsKept s (release_all s)
unfolding release_all
release_all_signals s y h = as_was (s.slot_of y) (credited (s.slot_of y)) refl refl refl h

retire_empty_paused_signals : (xs : List ℕ) (s : State) → SignalsKept s (retire_empty_paused_lanes xs s)
unfolding retire_empty_paused_lanes
retire_empty_paused_signals [] s y h = h
retire_empty_paused_signals (x ∷ xs) s y h = retire_empty_paused_signals xs _ y (retire_lane_if_signals _ x s y h)

nothing_taken_signals : (s : State) → SignalsKept s (nothing_taken s).1.1
unfolding nothing_taken empty_or_drained
nothing_taken_signals s y h = go (leb 1 (living_senders s))
  where
    go : (b : Bool) → Signal ((if b (says Empty s) (empty_or_drained (retire_empty_paused_lanes (from 0 s.issued) s))).1.1.slot_of y)
    go true = h
    go false = retire_empty_paused_signals (from 0 s.issued) s y h

-- a take, and the answer to it
took_signals : (f : Bool) (s : State) (t : Took) → TakeResult f s t → SignalsKept s t.1
took_signals f s t (took_none e) y h = poll_signals f s y h
took_signals f s t (took_one x v q vs e g) y h = give_item_signals (poll f s) x q vs _ y (poll_signals f s y h)

answer_one_signals : (l : List (LaneKey × ℕ)) (s : State) → SignalsKept s (answer_one l s).1.1
unfolding answer_one
answer_one_signals [] s y h = nothing_taken_signals s y h
answer_one_signals (g ∷ l) s y h = h

take_up_to_signals : (m : ℕ) (s : State) → SignalsKept s (take_up_to m s).1
unfolding take_up_to and_more
take_up_to_signals zero s y h = h
take_up_to_signals (suc m) s y h = go (take_one s).0 (take_up_to_signals m (take_one s).1) (took_signals false s (take_one s) (take_one_taken s) y h)
  where
    t : State
    t = (take_one s).1

    go : (l : List (LaneKey × ℕ)) → SignalsKept t (take_up_to m t).1 → Signal (t.slot_of y) → Signal ((and_more l t (take_up_to m t)).1.slot_of y)
    go [] more h = h
    go (g ∷ l) more h = more y h

answer_items_signals : (m : ℕ) (l : List (LaneKey × ℕ)) (s : State) → SignalsKept s (answer_items m l s).1.1
unfolding answer_items
answer_items_signals zero l s y h = h
answer_items_signals (suc m) [] s y h = nothing_taken_signals s y h
answer_items_signals (suc m) (g ∷ l) s y h = h

take_from_signals : (l : List ℕ) (x : ℕ) (s : State) → SignalsKept s (take_from l x s).1.1
unfolding take_from queue_lane_if
take_from_signals [] x s y h = settle_empty_signals x (without x s.queue) s y h
take_from_signals (v ∷ vs) x s y h = go (may_queue s x) (put_signals s x m (as_was (s.slot_of x) m refl refl refl) y h)
  where
    m : Slot
    m = popped vs (unreleased_after_one s x) (s.slot_of x).burst (s.slot_of x)

    go : (b : Bool) → Signal ((put x m s).slot_of y) → Signal ((queue_lane_if b x (put x m s)).slot_of y)
    go true h = put_signals (put x m s) x (signalled ((put x m s).slot_of x)) (λ g. is_pending (signalled ((put x m s).slot_of x)) refl) y h
    go false h = h

while_signals : (b m : ℕ) (s : State) → let t = take_while b m s in SignalsKept s (answer_while m t.0 t.1.0 (release_all t.1.1)).1.1
unfolding answer_while halted poll
while_signals b m s y h =
    while_law (λ t es. Signal ((answer_while m t.0 t.1.0 (release_all t.1.1)).1.1.slot_of y)) b m s
    (λ all. answer_items_signals m _ _ y (release_all_signals _ y (take_up_to_signals m s y h)))
    (λ k w. release_all_signals (halted (polled (take_up_to k s).1)) y (poll_signals false (take_up_to k s).1 y (take_up_to_signals k s y h)))

receive_signals : (s : State) (r : ReceiveCall) → SignalsKept s (receive_outcome s r).1.1
unfolding receive_outcome try_recv try_recv_fair try_recv_from try_recv_batch_into try_recv_batch_into_while
receive_signals s TryRecv = unless_law (λ o. SignalsKept s o.1.1) _ s _ (λ n y h. h) (λ p y h. answer_one_signals _ _ y (took_signals false s (take_one s) (take_one_taken s) y h))
receive_signals s TryRecvFair = unless_law (λ o. SignalsKept s o.1.1) _ s _ (λ n y h. h) (λ p y h. answer_one_signals _ _ y (took_signals true s (take_fair s) (take_fair_taken s) y h))
receive_signals s (TryRecvFrom i) = unless_law (λ o. SignalsKept s o.1.1) _ s _ (λ n y h. h) (λ p y h. take_from_signals _ i.key.slot s y h)
receive_signals s (TryRecvBatchInto m n) =
    unless_law (λ o. SignalsKept s o.1.1) _ s _ (λ n y h. h) (λ p y h. answer_items_signals m _ _ y (release_all_signals _ y (take_up_to_signals m s y h)))
receive_signals s (TryRecvBatchIntoWhile m b n) = unless_law (λ o. SignalsKept s o.1.1) _ s _ (λ n y h. h) (λ p y h. while_signals b m s y h)

sender_signals : {s u : State} {c : SenderCall} {a : Answer} → Moves s (ends (Sender c) a) u → SignalsKept s u
sender_signals (stays_put s c a h) = λ y g. g
sender_signals (credits s c a h) = release_all_signals s
sender_signals (registers_new s m lt) = put_signals s s.issued (new_lane s.first_generation (s.slot_of s.issued)) (λ h. alive _ refl)
sender_signals (registers_old s m x i l) = put_signals s x (new_lane ((s.slot_of x).generation + 1) (s.slot_of x)) (λ h. alive _ refl)
sender_signals (sends s j v w free a r nf) = put_signals s j.slot (signalled (pushed v (s.slot_of j.slot))) (λ h. is_pending _ refl)
sender_signals (posts s j v w free a r nf) = put_signals s j.slot (pushed v (s.slot_of j.slot)) (as_was (s.slot_of j.slot) _ refl refl refl)
sender_signals (drops_it s j a) = put_signals s j.slot (signalled (sender_dropped (s.slot_of j.slot))) (λ h. is_pending _ refl)

control_signals : {s u : State} {c : ControlCall} {a : Answer} → Moves s (ends (Control c) a) u → SignalsKept s u
control_signals (stays_put s c a h) = λ y g. g
control_signals (credits s c a h) = release_all_signals s
control_signals (pauses_it s i c) = put_signals s i.key.slot (with_paused true (credited (s.slot_of i.key.slot))) (as_was (s.slot_of i.key.slot) _ refl refl refl)
control_signals (resumes s i c p) = put_signals s i.key.slot (signalled (with_paused false (s.slot_of i.key.slot))) (λ h. is_pending _ refl)
control_signals (resumes_not s i c p) = λ y g. g
control_signals (closes_it s i c) = λ y h. retire_lane_signals i.key.slot (with_queue (without i.key.slot s.queue) s) y h
control_signals (polls_all s) = λ y g. g
control_signals (shuts_it s) = λ y g. g

call_signals : (s : State) (c : Call) → SignalsKept s (outcome s c).1.1
unfolding outcome
call_signals s (Sender c) = sender_signals (sender_move s c)
call_signals s (Control c) = control_signals (control_move s c)
call_signals s (Receive r) = receive_signals s r

calls_signals : (s : State) (calls : List Call) → SignalsKept s (after_list the_rules s calls)
unfolding after_list
calls_signals s [] y h = h
calls_signals s (c ∷ cs) y h = calls_signals (outcome s c).1.1 cs y (call_signals s c y h)

pub run_signals : (o : Opening) (lent : Lent) (calls : List Call) (y : ℕ) → Signal ((after_list the_rules (opening_outcome o lent).1.1 calls).slot_of y)
unfolding opened_state vacant
run_signals o lent calls y = calls_signals (opening_outcome o lent).1.1 calls y (rw (opens_as o lent) (vacant_signal o y))
  where
    vacant_signal : (o : Opening) (y : ℕ) → Signal ((opened_state o).slot_of y)
    vacant_signal o y = gone vacant refl

-- collecting all groups leaves no page bit
collect_group_clears : (s : State) (g y : ℕ) → group_of y ≡ g → y < s.issued → ((collect_group s g).slot_of y).marked ≡ false
unfolding collect_group collect_marks count
collect_group_clears s g y e low = go (marks s g) refl
  where
    none : (b : Bool) → (s.slot_of y).marked ≡ b → marks s g ≡ [] → b ≡ false
    none true m n = absurd (omega (arith, marks_in s y g m e, ap (count y) n, from_in y 0 s.issued (omega arith) (omega arith)))
    none false m n = refl

    go : (m : List ℕ) → marks s g ≡ m → ((collect_marks m s g).slot_of y).marked ≡ false
    go [] n = none (s.slot_of y).marked refl n
    go (x ∷ m) n = rw (eq-eqb (group_of y) g e)

collect_group_unmarked : (s : State) (g y : ℕ) → (s.slot_of y).marked ≡ false → ((collect_group s g).slot_of y).marked ≡ false
unfolding collect_group collect_marks
collect_group_unmarked s g y e = go (marks s g)
  where
    unmark : (b : Bool) (l : Slot) → l.marked ≡ false → (if b (unmarked l) l).marked ≡ false
    unmark true l h = refl
    unmark false l h = h

    go : (m : List ℕ) → ((collect_marks m s g).slot_of y).marked ≡ false
    go [] = e
    go (x ∷ m) = unmark (eqb (group_of y) g) (s.slot_of y) e

collect_each_unmarked : (gs : List ℕ) (s : State) (y : ℕ) → (s.slot_of y).marked ≡ false → ((collect_each gs s).slot_of y).marked ≡ false
unfolding collect_each
collect_each_unmarked [] s y e = e
collect_each_unmarked (g ∷ gs) s y e = collect_each_unmarked gs (collect_group s g) y (collect_group_unmarked s g y e)

collect_each_clears : (gs : List ℕ) (s : State) (y : ℕ) → y < s.issued → 1 ≤ count (group_of y) gs → ((collect_each gs s).slot_of y).marked ≡ false
unfolding collect_each count
collect_each_clears [] s y low h = absurd (omega arith)
collect_each_clears (g ∷ gs) s y low h = elim (same? (group_of y) g) [
  | equal p e i ↦ collect_each_unmarked gs (collect_group s g) y (collect_group_clears s g y p low)
  | other d e i ↦ collect_each_clears gs (collect_group s g) y (omega (arith, collect_group_issued s g)) (omega arith)
]

pub groups_round_covers : (s : State) (g : ℕ) → g < groups_in s.issued → 1 ≤ count g (groups_round s)
unfolding groups_round
groups_round_covers s g h = go (ltb g (start_group s)) refl
  where
    a : ℕ
    a = start_group s

    n : ℕ
    n = groups_in s.issued

    both_parts : count g (from a (n - a) ++ from 0 a) ≡ count g (from a (n - a)) + count g (from 0 a)
    both_parts = count_append g (from a (n - a)) (from 0 a)

    go : (b : Bool) → ltb g a ≡ b → 1 ≤ count g (from a (n - a) ++ from 0 a)
    go true e = omega (arith, both_parts, from_in g 0 a (omega arith) (omega (arith, ltb-true g a e)))
    go false e = omega (arith, both_parts, from_in g a (n - a) (omega (arith, ltb-false g a e)) (omega (arith, start_group_le s)))

pub collect_ready_unmarked : (s : State) → Ordered s → (y : ℕ) → ((collect_ready s).slot_of y).marked ≡ false
unfolding collect_ready
collect_ready_unmarked s o y = go (s.slot_of y).marked refl
  where
    go : (b : Bool) → (s.slot_of y).marked ≡ b → ((collect_each (groups_round s) s).slot_of y).marked ≡ false
    go true e = let low = (o.each_slot y).marked_issued e in collect_each_clears (groups_round s) s y low (groups_round_covers s (group_of y) (group_low s y low))
    go false e = collect_each_unmarked (groups_round s) s y e

pub settle_empty_unmarked : (x : ℕ) (q : List ℕ) (s : State) (y : ℕ) → (s.slot_of y).marked ≡ false → ((settle_empty x q s).slot_of y).marked ≡ false
unfolding settle_empty retire_lane_if retire_lane
settle_empty_unmarked x q s y h = go (not (s.slot_of x).living)
  where
    m : Slot
    m = settled_empty (s.slot_of x)

    go : (b : Bool) → ((retire_lane_if b x (with_queue q (put x m s))).slot_of y).marked ≡ false
    go true = elim (same? x y) [ equal p e i ↦ rw (e, self x) (rw p h) | other d e i ↦ rw e h ]
    go false = elim (same? x y) [ equal p e i ↦ rw e (rw p h) | other d e i ↦ rw e h ]

pub run_down_from_unmarked : (q : List ℕ) (s : State) (y : ℕ) → (s.slot_of y).marked ≡ false → ((run_down_from q s).slot_of y).marked ≡ false
unfolding run_down_from before_next_turn
run_down_from_unmarked [] s y h = h
run_down_from_unmarked (x ∷ q) s y h = go (non_empty (s.slot_of x).ring) (run_down_from_unmarked q (before_next_turn q (settle_empty x q s)) y (turned q (settle_empty_unmarked x q s y h)))
  where
    turned : (p : List ℕ) → ((settle_empty x q s).slot_of y).marked ≡ false → ((before_next_turn p (settle_empty x q s)).slot_of y).marked ≡ false
    turned [] h = h
    turned (z ∷ p) h = h

    go : (b : Bool) → ((run_down_from q (before_next_turn q (settle_empty x q s))).slot_of y).marked ≡ false → ((if b s (run_down_from q (before_next_turn q (settle_empty x q s)))).slot_of y).marked ≡ false
    go true r = h
    go false r = r

pub poll_unmarked : (f : Bool) (s : State) → Ordered s → (poll f s).queue ≡ [] → (y : ℕ) → ((poll f s).slot_of y).marked ≡ false
unfolding poll polled run_down collect_if_none_queued
poll_unmarked true s o e y = run_down_from_unmarked _ _ y (collect_ready_unmarked s o y)
poll_unmarked false s o e y = go t.queue refl e
  where
    t : State
    t = run_down (collect_if_due s.budget s.queue s)

    ordered : Ordered t
    ordered = run_down_ordered _ (collect_if_due_ordered s.budget s.queue s o)

    go : (q : List ℕ) → t.queue ≡ q → (collect_if_none_queued q t).queue ≡ [] → ((collect_if_none_queued q t).slot_of y).marked ≡ false
    go [] g e = run_down_from_unmarked _ _ y (collect_ready_unmarked t ordered y)
    go (z ∷ q) g e = let n : ◌≡◌ {A = ℕ} 0 1 = cc in absurd (omega arith)
