-- If a lane's signal goes back to idle in a receive, one of the receive's events finds that lane empty.
-- Assumes nothing.
use mathlib.Core.Path.{◌≡◌, refl, ap, ◌∙◌}
use mathlib.Core.Logic.{◌⊎◌, inl, inr}
use mathlib.Core.Bool.{Bool, true, false, not}
use mathlib.Core.List.{List, [], ◌∷◌, ◌++◌}
use Prim.Native.Nat.{ℕ, zero, suc, ◌+◌, ◌≤◌}
use native.Mathlib.Omega.{arith}
use lib.Dec.{eqb, leb}
use Rattle.model.specs.declared.LaneKey.{LaneKey}
use Rattle.model.specs.declared.ReceiveCall.{ReceiveCall}
use Rattle.model.specs.declared.ReceiveCall.TheVariants.{TryRecv, TryRecvFair, TryRecvFrom, TryRecvBatchInto, TryRecvBatchIntoWhile}
use Rattle.model.specs.declared.Call.TheVariants.{Receive}
use Rattle.model.specs.declared.Answer.TheVariants.{Empty, Disconnected}
use Rattle.model.specs.Lists.{if, either, non_empty, without}
use Rattle.model.specs.State.{Slot, State, may_queue, key_of}
use Rattle.model.specs.Changes.{with_queue, with_budget, put, signalled, popped, settled_empty, retired, unmarked}
use Rattle.model.specs.Ready.{group_of, marks, collect_marks, collect_group, groups_round, collect_first, collect_each, collect_ready_group, collect_ready}
use Rattle.model.specs.Turn.{retire_lane, retire_lane_if, settle_empty, before_next_turn, run_down_from, run_down, unreleased_after_one, give_item, give_oldest, give_front, collect_if_due, collect_if_none_queued, polled, take_one, take_fair}
use Rattle.model.specs.Outcome.{Outcome}
use Rattle.model.specs.Runs.{accepted}
use Rattle.model.specs.Receive.{answer_one, queue_lane_if, take_from, and_more, take_up_to, release_all, answer_items, receive_outcome, try_recv, try_recv_fair, try_recv_from, try_recv_batch_into, take_while, answer_while, try_recv_batch_into_while, halted}
use Rattle.model.specs.Rules.{outcome}
use Rattle.model.specs.Events.{Event, budget_set, found_empty, collect_event, before_next_turn_events, run_down_from_events, run_down_events, give_front_events, collect_if_due_events, collect_if_none_queued_events, polled_events, take_one_events, take_fair_events, and_more_events, take_up_to_events, take_from_events, receive_events, call_events, finds_empty, count_events, halted_events, take_while_events}
use Rattle.demands.proofs.Counting.{equal, other, same?}
use Rattle.demands.proofs.LedgerLaws.{alike, unlike, keys?}
use Rattle.demands.proofs.Moves.{unless_law}
use Rattle.demands.proofs.Events.{put_generations}
use Rattle.demands.proofs.AnswersKeep.{answer_one_keeps, answer_items_keeps}
use Rattle.demands.proofs.EventsOfRuns.{Answered, answer_one_answered, answer_items_answered, answer_stopped_answered}
use Rattle.demands.proofs.StopLaws.{while_law}

-- ---- what leaves every signal that is pending

record Pends (s u : State) : Type 0 where
  generations : (y : ℕ) → (u.slot_of y).generation ≡ (s.slot_of y).generation
  pendings : (y : ℕ) → (s.slot_of y).pending ≡ true → (u.slot_of y).pending ≡ true

unchanged : (s : State) → Pends s s
unchanged s = record { generations = λ y. refl; pendings = λ y h. h }

trans : {s t u : State} → Pends s t → Pends t u → Pends s u
trans a b = record { generations = λ y. b.generations y ∙ a.generations y; pendings = λ y h. b.pendings y (a.pendings y h) }

put_pends : (s : State) (x : ℕ) (l : Slot) → l.generation ≡ (s.slot_of x).generation → ((s.slot_of x).pending ≡ true → l.pending ≡ true) → Pends s (put x l s)
put_pends s x l g f = record {
  generations = put_generations s x l g;
  pendings = λ y h. elim (same? x y) [ equal p e i ↦ rw e (f (rw p h)) | other d e i ↦ rw e h ];
}

retire_lane_if_pends : (b : Bool) (x : ℕ) (s : State) → Pends s (retire_lane_if b x s)
unfolding retire_lane_if retire_lane
retire_lane_if_pends true x s = let p = put_pends s x (retired (s.slot_of x)) refl (λ h. h) in record { generations = p.generations; pendings = p.pendings }
retire_lane_if_pends false x s = unchanged s

collect_group_pends : (s : State) (g : ℕ) → Pends s (collect_group s g)
unfolding collect_group collect_marks
collect_group_pends s g = go (marks s g)
  where
    generation_un : (b : Bool) (l : Slot) → (if b (unmarked l) l).generation ≡ l.generation
    generation_un true l = refl
    generation_un false l = refl

    pending_un : (b : Bool) (l : Slot) → l.pending ≡ true → (if b (unmarked l) l).pending ≡ true
    pending_un true l h = h
    pending_un false l h = h

    go : (m : List ℕ) → Pends s (collect_marks m s g)
    go [] = unchanged s
    go (x ∷ m) = record { generations = λ y. generation_un (eqb (group_of y) g) (s.slot_of y); pendings = λ y. pending_un (eqb (group_of y) g) (s.slot_of y) }

collect_each_pends : (gs : List ℕ) (s : State) → Pends s (collect_each gs s)
unfolding collect_each
collect_each_pends [] s = unchanged s
collect_each_pends (g ∷ gs) s = trans (collect_group_pends s g) (collect_each_pends gs (collect_group s g))

collect_ready_pends : (s : State) → Pends s (collect_ready s)
unfolding collect_ready
collect_ready_pends s = collect_each_pends (groups_round s) s

collect_first_pends : (gs : List ℕ) (s : State) → Pends s (collect_first gs s)
unfolding collect_first
collect_first_pends [] s = unchanged s
collect_first_pends (g ∷ gs) s = go (non_empty (marks s g)) (collect_first_pends gs s)
  where
    go : (b : Bool) → Pends s (collect_first gs s) → Pends s (if b (collect_group s g) (collect_first gs s))
    go true r = collect_group_pends s g
    go false r = r

collect_if_due_pends : (n : ℕ) (q : List ℕ) (s : State) → Pends s (collect_if_due n q s)
unfolding collect_if_due collect_ready_group
collect_if_due_pends zero (y ∷ q) s = let p = collect_first_pends (groups_round s) s in record { generations = p.generations; pendings = p.pendings }
collect_if_due_pends zero [] s = unchanged s
collect_if_due_pends (suc n) q s = unchanged s

before_next_turn_pends : (q : List ℕ) (s : State) → Pends s (before_next_turn q s)
unfolding before_next_turn
before_next_turn_pends [] s = unchanged s
before_next_turn_pends (y ∷ q) s = record { generations = λ y. refl; pendings = λ y h. h }

give_front_pends : (f : Bool) (s : State) (q : List ℕ) → Pends s (give_front f s q).1
unfolding give_front give_oldest give_item
give_front_pends f s [] = unchanged s
give_front_pends f s (y ∷ q) = go (s.slot_of y).ring
  where
    go : (l : List ℕ) → Pends s (give_oldest s f y q l).1
    go [] = unchanged s
    go (v ∷ vs) = let p = put_pends s y (popped vs (unreleased_after_one s y) (if (either f (leb 63 (s.slot_of y).burst)) 0 ((s.slot_of y).burst + 1)) (s.slot_of y)) refl (λ h. h) in record { generations = p.generations; pendings = p.pendings }

release_all_pends : (s : State) → Pends s (release_all s)
unfolding release_all
release_all_pends s = record { generations = λ y. refl; pendings = λ y h. h }

answer_one_pends : (l : List (LaneKey × ℕ)) (s : State) → Pends s (answer_one l s).1.1
answer_one_pends = answer_one_keeps Pends unchanged (λ s t u a b. trans a b) retire_lane_if_pends release_all_pends

answer_items_pends : (m : ℕ) (l : List (LaneKey × ℕ)) (s : State) → Pends s (answer_items m l (release_all s)).1.1
answer_items_pends = answer_items_keeps Pends unchanged (λ s t u a b. trans a b) retire_lane_if_pends release_all_pends

count_events_append : (p : Event → Bool) (es fs : List Event) → count_events p (es ++ fs) ≡ count_events p es + count_events p fs
unfolding count_events
count_events_append p [] fs = omega arith
count_events_append p (e ∷ es) fs = omega (arith, count_events_append p es fs)

-- ---- events es that lead from s to u: if the signal of lane k, pending in s, is idle in u, one of them finds the lane empty

pub record Found (k : LaneKey) (s : State) (es : List Event) (u : State) : Type 0 where
  pub generation : (u.slot_of k.slot).generation ≡ (s.slot_of k.slot).generation
  pub signal : (s.slot_of k.slot).generation ≡ k.generation → (s.slot_of k.slot).pending ≡ true → ((u.slot_of k.slot).pending ≡ true) ⊎ (1 ≤ count_events (finds_empty k) es)

module _ (k : LaneKey) where
  pends_found : {s u : State} (es : List Event) → Pends s u → Found k s es u
  pends_found es p = record { generation = p.generations k.slot; signal = λ g h. inl (p.pendings k.slot h) }

  bind : {s t u : State} {es fs : List Event} → Found k s es t → Found k t fs u → Found k s (es ++ fs) u
  bind {s} {t} {u} {es} {fs} a b = record { generation = b.generation ∙ a.generation; signal = λ g h. first g (a.signal g h) }
    where
      second : ((u.slot_of k.slot).pending ≡ true) ⊎ (1 ≤ count_events (finds_empty k) fs) → ((u.slot_of k.slot).pending ≡ true) ⊎ (1 ≤ count_events (finds_empty k) (es ++ fs))
      second (inl p) = inl p
      second (inr n) = inr (omega (arith, n, count_events_append (finds_empty k) es fs))

      first : (s.slot_of k.slot).generation ≡ k.generation → ((t.slot_of k.slot).pending ≡ true) ⊎ (1 ≤ count_events (finds_empty k) es) → ((u.slot_of k.slot).pending ≡ true) ⊎ (1 ≤ count_events (finds_empty k) (es ++ fs))
      first g (inl p) = second (b.signal (a.generation ∙ g) p)
      first g (inr n) = inr (omega (arith, n, count_events_append (finds_empty k) es fs))

  -- one event more in front, and what it leads to
  before : {s t u : State} {es : List Event} (e : Event) → Pends s t → Found k t es u → Found k s (e ∷ es) u
  before e p f = bind (pends_found (e ∷ []) p) f

  then : {s t u : State} {es : List Event} → Found k s es t → Pends t u → Found k s es u
  then {s} {t} {u} {es} a p = record { generation = p.generations k.slot ∙ a.generation; signal = λ g h. go (a.signal g h) }
    where
      go : ((t.slot_of k.slot).pending ≡ true) ⊎ (1 ≤ count_events (finds_empty k) es) → ((u.slot_of k.slot).pending ≡ true) ⊎ (1 ≤ count_events (finds_empty k) es)
      go (inl h) = inl (p.pendings k.slot h)
      go (inr n) = inr n

  -- the one place where a signal goes back to idle
  settle_empty_found : (x : ℕ) (q : List ℕ) (s : State) → Found k s (found_empty (key_of s x) ∷ []) (settle_empty x q s)
  unfolding settle_empty count_events finds_empty
  settle_empty_found x q s = then settled (retire_lane_if_pends (not (s.slot_of x).living) x (with_queue q (put x (settled_empty (s.slot_of x)) s)))
    where
      settled : Found k s (found_empty (key_of s x) ∷ []) (with_queue q (put x (settled_empty (s.slot_of x)) s))
      settled = record {
        generation = put_generations s x (settled_empty (s.slot_of x)) refl k.slot;
        signal = λ g h. elim (keys? (key_of s x) k) [
          | alike p e ↦ inr (rw e (omega arith))
          | unlike d e ↦ elim (same? x k.slot) [
            | equal p c i ↦ absurd (d (λ n. record { slot = p n; generation = (ap (λ (z : ℕ). (s.slot_of z).generation) p ∙ g) n }))
            | other n c i ↦ inl (rw c h)
          ]
        ];
      }

  run_down_from_found : (q : List ℕ) (s : State) → Found k s (run_down_from_events q s) (run_down_from q s)
  unfolding run_down_from run_down_from_events
  run_down_from_found [] s = pends_found [] (unchanged s)
  run_down_from_found (y ∷ q) s = go (s.slot_of y).ring (run_down_from_found q (before_next_turn q (settle_empty y q s)))
    where
      u : State
      u = settle_empty y q s

      go : (l : List ℕ) → Found k (before_next_turn q u) (run_down_from_events q (before_next_turn q u)) (run_down_from q (before_next_turn q u))
          → Found k s (if (non_empty l) [] (found_empty (key_of s y) ∷ before_next_turn_events q u ++ run_down_from_events q (before_next_turn q u))) (if (non_empty l) s (run_down_from q (before_next_turn q u)))
      go [] ih = bind (settle_empty_found y q s) (bind (pends_found (before_next_turn_events q u) (before_next_turn_pends q u)) ih)
      go (v ∷ vs) ih = pends_found [] (unchanged s)

  run_down_found : (s : State) → Found k s (run_down_events s) (run_down s)
  unfolding run_down run_down_events
  run_down_found s = run_down_from_found s.queue s

  collect_if_none_found : (q : List ℕ) (s : State) → Found k s (collect_if_none_queued_events q s) (collect_if_none_queued q s)
  unfolding collect_if_none_queued collect_if_none_queued_events
  collect_if_none_found [] s = before (collect_event s) (collect_ready_pends s) (run_down_found (collect_ready s))
  collect_if_none_found (y ∷ q) s = pends_found [] (unchanged s)

  polled_found : (s : State) → Found k s (polled_events s) (polled s)
  unfolding polled polled_events
  polled_found s = bind (pends_found (collect_if_due_events s.budget s.queue s) (collect_if_due_pends s.budget s.queue s)) (bind (run_down_found due) (collect_if_none_found (run_down due).queue (run_down due)))
    where
      due : State
      due = collect_if_due s.budget s.queue s

  -- the front lane of t, if any, gives an item
  give_front_found : (f : Bool) (t : State) → Found k t (give_front_events f t t.queue) (give_front f t t.queue).1
  give_front_found f t = pends_found (give_front_events f t t.queue) (give_front_pends f t t.queue)

  take_one_found : (s : State) → Found k s (take_one_events s) (take_one s).1
  unfolding take_one take_one_events
  take_one_found s = bind (polled_found s) (give_front_found false (polled s))

  take_fair_found : (s : State) → Found k s (take_fair_events s) (take_fair s).1
  unfolding take_fair take_fair_events
  take_fair_found s =
      before (collect_event s) (collect_ready_pends s)
      (before budget_set record { generations = λ y. refl; pendings = λ y h. h } (bind (run_down_found (with_budget 64 (collect_ready s))) (give_front_found true (run_down (with_budget 64 (collect_ready s))))))

  take_up_to_found : (m : ℕ) (s : State) → Found k s (take_up_to_events m s) (take_up_to m s).1
  unfolding take_up_to take_up_to_events and_more and_more_events
  take_up_to_found zero s = pends_found [] (unchanged s)
  take_up_to_found (suc m) s = bind (take_one_found s) (go (take_one s).0 (take_up_to_found m (take_one s).1))
    where
      t : State
      t = (take_one s).1

      go : (l : List (LaneKey × ℕ)) → Found k t (take_up_to_events m t) (take_up_to m t).1 → Found k t (and_more_events l (take_up_to_events m t)) (and_more l t (take_up_to m t)).1
      go [] f = pends_found [] (unchanged t)
      go (g ∷ l) f = f

  halted_found : (n : ℕ) (s : State) → Found k s (halted_events n s) (halted (polled (take_up_to n s).1))
  unfolding halted_events halted
  halted_found n s = bind (take_up_to_found n s) (bind (polled_found (take_up_to n s).1) (pends_found _ record { generations = λ y. refl; pendings = λ y h. h }))

  -- the events of a receive, if its answer is no refusal
  Finds : State → List Event → Outcome → Type 0
  Finds s es o = Found k s (if (accepted o.1.0) es []) o.1.1

  answered_found : (s t : State) (es : List Event) (o : Outcome) → Answered t o → Pends t o.1.1 → Found k s es t → Finds s es o
  unfolding Finds
  answered_found s t es o a p f = rw a.is_accepted (then f p)

  take_from_found : (l : List ℕ) (x : ℕ) (s : State) → Finds s (take_from_events l x s) (take_from l x s)
  unfolding Finds take_from take_from_events accepted queue_lane_if
  take_from_found [] x s = go (s.slot_of x).living
    where
      go : (b : Bool) → Found k s (if (accepted (if b Empty Disconnected)) (take_from_events [] x s) []) (take_from [] x s).1.1
      go true = settle_empty_found x (without x s.queue) s
      go false = settle_empty_found x (without x s.queue) s
  take_from_found (v ∷ vs) x s = pends_found [] (trans (put_pends s x m refl (λ h. h)) (queue_lane_pends (may_queue s x) (put x m s)))
    where
      m : Slot
      m = popped vs (unreleased_after_one s x) (s.slot_of x).burst (s.slot_of x)

      queue_lane_pends : (b : Bool) (u : State) → Pends u (queue_lane_if b x u)
      queue_lane_pends true u = let p = put_pends u x (signalled (u.slot_of x)) refl (λ h. refl) in record { generations = p.generations; pendings = p.pendings }
      queue_lane_pends false u = unchanged u

  while_found : (b m : ℕ) (s : State) → let t = take_while b m s in Finds s (take_while_events b m s) (answer_while m t.0 t.1.0 (release_all t.1.1))
  unfolding answer_while
  while_found b m s =
      while_law (λ t es. Finds s es (answer_while m t.0 t.1.0 (release_all t.1.1))) b m s
      (λ all. answered_found s _ _ _ (answer_items_answered m _ _) (answer_items_pends m _ _) (take_up_to_found m s))
      (λ n w. answered_found s _ _ _ (answer_stopped_answered m _ _) (release_all_pends _) (halted_found n s))

  receive_found : (s : State) (r : ReceiveCall) → Finds s (receive_events s r) (receive_outcome s r)
  unfolding Finds receive_events receive_outcome try_recv try_recv_fair try_recv_from try_recv_batch_into try_recv_batch_into_while accepted
  receive_found s TryRecv = unless_law (Finds s (receive_events s TryRecv)) _ s _ (λ n. pends_found [] (unchanged s)) (λ p. answered_found s _ _ _ (answer_one_answered _ _) (answer_one_pends _ _) (take_one_found s))
  receive_found s TryRecvFair = unless_law (Finds s (receive_events s TryRecvFair)) _ s _ (λ n. pends_found [] (unchanged s)) (λ p. answered_found s _ _ _ (answer_one_answered _ _) (answer_one_pends _ _) (take_fair_found s))
  receive_found s (TryRecvFrom i) = unless_law (Finds s (receive_events s (TryRecvFrom i))) _ s _ (λ n. pends_found [] (unchanged s)) (λ p. take_from_found _ _ s)
  receive_found s (TryRecvBatchInto m n) =
      unless_law (Finds s (receive_events s (TryRecvBatchInto m n))) _ s _ (λ n. pends_found [] (unchanged s)) (λ p. answered_found s _ _ _ (answer_items_answered m _ _) (answer_items_pends m _ _) (take_up_to_found m s))
  receive_found s (TryRecvBatchIntoWhile m b n) = unless_law (Finds s (receive_events s (TryRecvBatchIntoWhile m b n))) _ s _ (λ n. pends_found [] (unchanged s)) (λ p. while_found b m s)

  pub call_found : (s : State) (r : ReceiveCall) → Found k s (call_events s (Receive r)) (outcome s (Receive r)).1.1
  unfolding call_events outcome Finds
  call_found s r = receive_found s r
