-- The poll budget after a receive that hands out nothing.
-- Assumes nothing.
use mathlib.Core.Path.{◌≡◌, refl, ap, sym, ◌∙◌}
use mathlib.Core.Bool.{Bool, true, false}
use mathlib.Core.List.{List, [], ◌∷◌}
use Prim.Native.Nat.{ℕ, zero, suc, ◌+◌, ◌-◌, ◌≤◌}
use native.Mathlib.Omega.{arith}
use native.Mathlib.Nat.{zero-add}
use lib.ListN.{length}
use lib.Dec.{leb}
use borrow.Author.Tests.{le-leb}
use Rattle.model.specs.declared.LaneKey.{LaneKey}
use Rattle.model.specs.declared.ReceiveCall.{ReceiveCall}
use Rattle.model.specs.declared.ReceiveCall.TheVariants.{TryRecv, TryRecvFair, TryRecvFrom, TryRecvBatchInto, TryRecvBatchIntoWhile}
use Rattle.model.specs.declared.Call.TheVariants.{Receive}
use Rattle.model.specs.declared.Refusal.{Refusal}
use Rattle.model.specs.declared.Answer.TheVariants.{Refused}
use Rattle.model.specs.Lists.{if, non_empty, without}
use Rattle.model.specs.State.{State}
use Rattle.model.specs.Changes.{with_budget}
use Rattle.model.specs.Ready.{collect_ready, collect_ready_group}
use Rattle.model.specs.Turn.{Took, settle_empty, refill, before_next_turn, run_down_from, run_down, collect_if_due, collect_if_none_queued, polled, take_one, take_fair}
use Rattle.model.specs.Outcome.{Outcome}
use Rattle.model.specs.Runs.{accepted}
use Rattle.model.specs.Stretch.{says_stopped}
use Rattle.model.specs.Receive.{answer_one, take_from, and_more, take_up_to, release_all, answer_items, try_recv, try_recv_fair, try_recv_from, try_recv_batch_into, halted, take_while, answer_while, try_recv_batch_into_while, receive_outcome}
use Rattle.model.specs.Rules.{outcome}
use Rattle.model.specs.Events.{Event, budget_set, collected, none_marked, found_empty, item_taken, went_to_back, call_events, takes_item, count_events}
use Rattle.model.specs.Budget.{items_counted_from, is_targeted}
use Rattle.model.specs.Viewed.{Viewed, rules_viewed}
use Rattle.model.specs.BudgetAfterNothing.{BudgetAfterStop, budget_left_by, budget_left, HandsNothing, BudgetAfterNothing, sets_budget, BudgetAsEventsSet}
use Rattle.demands.proofs.Counting.{no}
use Rattle.demands.proofs.WaitInReceive.{settle_empty_budget}
use Rattle.demands.proofs.Quiet.{poll}
use Rattle.demands.proofs.StopLaws.{while_law, answer_one_unstopped, answer_items_unstopped, take_from_unstopped}
use Rattle.demands.proofs.WholeChunk.{refill_some}
use Rattle.demands.proofs.Moves.{TakeResult, took_none, took_one, take_one_taken, take_fair_taken, unless_law}
use Rattle.demands.proofs.Events.{Tally, collect_ready_alike}
use Rattle.demands.proofs.EventsOfRuns.{call_pass, from_budget, from_budget_counted, answer_one_answered, answer_items_answered}
use Rattle.demands.proofs.Budget.{counted_from, events_tell}
use Rattle.model.specs.Simulation.{Simulation}

-- ---- by the state before

-- what comes after the front lane was found empty, with the budget b
next_budget : (q : List ℕ) (s : State) → 1 ≤ s.budget → (before_next_turn q s).budget ≡ s.budget
unfolding before_next_turn
next_budget [] s h = refl
next_budget (y ∷ q) s h = refill_some s.budget h

-- a budget that is not 0 stays while empty lanes leave
stays : (q : List ℕ) (s : State) → 1 ≤ s.budget → (run_down_from q s).budget ≡ s.budget
unfolding run_down_from
stays [] s h = refl
stays (y ∷ q) s h = go (non_empty (s.slot_of y).ring) (stays q (before_next_turn q m))
  where
    m : State
    m = settle_empty y q s

    same : (before_next_turn q m).budget ≡ s.budget
    same = next_budget q m (omega (arith, h, settle_empty_budget y q s)) ∙ settle_empty_budget y q s

    go : (b : Bool) → (1 ≤ (before_next_turn q m).budget → (run_down_from q (before_next_turn q m)).budget ≡ (before_next_turn q m).budget)
        → (if b s (run_down_from q (before_next_turn q m))).budget ≡ s.budget
    go true ih = refl
    go false ih = ih (omega (arith, h, same)) ∙ same

no_front : {y : ℕ} {q : List ℕ} → y ∷ q ≡ [] → ⊥
no_front e = omega (arith, ap length e)

-- all lanes of a queue leave at a budget of 0: the second meets it, if there is one
leaves_at_zero : (q : List ℕ) (s : State) → s.queue ≡ q → s.budget ≡ 0 → (run_down_from q s).queue ≡ [] → (run_down_from q s).budget ≡ budget_left_by 0 [] q
unfolding budget_left_by run_down_from before_next_turn refill
leaves_at_zero [] s e z n = z
leaves_at_zero (y ∷ []) s e z n = go (non_empty (s.slot_of y).ring) n
  where
    go : (b : Bool) → (if b s (before_next_turn [] (settle_empty y [] s))).queue ≡ [] → (if b s (before_next_turn [] (settle_empty y [] s))).budget ≡ 0
    go true n = absurd (no_front (sym e ∙ n))
    go false n = settle_empty_budget y [] s ∙ z
leaves_at_zero (y ∷ x ∷ q) s e z n = go (non_empty (s.slot_of y).ring) n
  where
    m : State
    m = before_next_turn (x ∷ q) (settle_empty y (x ∷ q) s)

    met : m.budget ≡ 64
    met = ap refill (settle_empty_budget y (x ∷ q) s ∙ z)

    go : (b : Bool) → (if b s (run_down_from (x ∷ q) m)).queue ≡ [] → (if b s (run_down_from (x ∷ q) m)).budget ≡ 64
    go true n = absurd (no_front (sym e ∙ n))
    go false n = stays (x ∷ q) m (omega (arith, met)) ∙ met

-- the second pass, with a budget that is not 0
second_pass_lem : (q : List ℕ) (s : State) → 1 ≤ s.budget → (collect_if_none_queued q s).budget ≡ s.budget
unfolding collect_if_none_queued run_down
second_pass_lem [] s h = let e = (collect_ready_alike s).budgets in stays _ (collect_ready s) (omega (arith, h, e)) ∙ e
second_pass_lem (y ∷ q) s h = refl

both_passes : (s : State) → 1 ≤ s.budget → (let t = run_down s in collect_if_none_queued t.queue t).budget ≡ s.budget
unfolding run_down
both_passes s h = let e = stays s.queue s h in second_pass_lem _ (run_down_from s.queue s) (omega (arith, h, e)) ∙ e

-- what a poll leaves that queues nothing
polled_budget : (s : State) → (polled s).queue ≡ [] → (polled s).budget ≡ budget_left_by s.budget s.queue (collect_ready s).queue
unfolding polled collect_if_due collect_if_none_queued run_down run_down_from budget_left_by
polled_budget s = go s.budget s.queue refl refl
  where
    due : ℕ → List ℕ → State
    due b q = run_down (collect_if_due b q s)

    none : s.queue ≡ [] → run_down s ≡ s
    none e = ap (λ (l : List ℕ). run_down_from l s) e

    go : (b : ℕ) (q : List ℕ) → s.budget ≡ b → s.queue ≡ q → (collect_if_none_queued (due b q).queue (due b q)).queue ≡ []
        → (collect_if_none_queued (due b q).queue (due b q)).budget ≡ budget_left_by b q (collect_ready s).queue
    go (suc n) q e f h = both_passes s (omega (arith, e)) ∙ e
    go zero (y ∷ q) e f h = both_passes (with_budget 64 (collect_ready_group s)) (omega arith)
    go zero [] e f h =
        let second : collect_if_none_queued (run_down s).queue (run_down s) ≡ run_down (collect_ready s) = ap (λ (t : State). collect_if_none_queued t.queue t) (none f) ∙ ap (λ (l : List ℕ). collect_if_none_queued l s) f in
        ap (λ (t : State). t.budget) second
        ∙ zero_left (sym (ap (λ (t : State). t.queue) second) ∙ h)
      where
        zero_left : (run_down (collect_ready s)).queue ≡ [] → (run_down (collect_ready s)).budget ≡ budget_left_by 0 [] (collect_ready s).queue
        zero_left h = leaves_at_zero (collect_ready s).queue (collect_ready s) refl ((collect_ready_alike s).budgets ∙ e) h

-- ---- the receives

-- a take that takes nothing left what the poll left
one_none : (f : Bool) (s : State) (t : Took) → TakeResult f s t → t.0 ≡ [] → ((poll f s).queue ≡ []) × (t.1 ≡ poll f s)
one_none f s t (took_none e) n = (e, refl)
one_none f s t (took_one y v q vs e g) n = absurd (no_key n)
  where
    no_key : {g : LaneKey × ℕ} {l : List (LaneKey × ℕ)} → g ∷ l ≡ [] → ⊥
    no_key e = omega (arith, ap length e)

plain_none : (s : State) → (take_one s).0 ≡ [] → (take_one s).1.budget ≡ budget_left_by s.budget s.queue (collect_ready s).queue
unfolding poll
plain_none s n = let r = one_none false s (take_one s) (take_one_taken s) n in ap (λ (t : State). t.budget) r.1 ∙ polled_budget s r.0

fair_none : (s : State) → (take_fair s).0 ≡ [] → (take_fair s).1.budget ≡ 64
unfolding poll run_down
fair_none s n =
    let r = one_none true s (take_fair s) (take_fair_taken s) n in
    ap (λ (t : State). t.budget) r.1 ∙ stays (collect_ready s).queue (with_budget 64 (collect_ready s)) (omega arith)

batch_none : (m : ℕ) (s : State) → (take_up_to (suc m) s).0 ≡ [] → (take_up_to (suc m) s).1.budget ≡ budget_left_by s.budget s.queue (collect_ready s).queue
unfolding take_up_to and_more
batch_none m s n = go (take_one s).0 refl n
  where
    go : (l : List (LaneKey × ℕ)) → (take_one s).0 ≡ l → (and_more l (take_one s).1 (take_up_to m (take_one s).1)).0 ≡ []
        → (and_more l (take_one s).1 (take_up_to m (take_one s).1)).1.budget ≡ budget_left_by s.budget s.queue (collect_ready s).queue
    go [] e n = plain_none s e
    go (g ∷ l) e n = absurd (omega (arith, ap length n))

-- an outcome with no item, which is no refusal and no stop, leaves a budget of n
Leaves : ℕ → Outcome → Type 0
Leaves n o = o.0 ≡ [] → accepted o.1.0 ≡ true → says_stopped o.1.0 ≡ false → o.1.1.budget ≡ n

refused_leaves : (n : ℕ) (s : State) (why : Refusal) → Leaves n ([], (Refused why, s))
unfolding Leaves accepted
refused_leaves n s why e a w = absurd (no a refl)

answer_one_leaves : (n : ℕ) (l : List (LaneKey × ℕ)) (s : State) → (l ≡ [] → s.budget ≡ n) → Leaves n (answer_one l s)
unfolding Leaves answer_one
answer_one_leaves n [] s h e a w = (answer_one_answered [] s).is_alike.budgets ∙ h refl
answer_one_leaves n (g ∷ l) s h e a w = absurd (omega (arith, ap length e))

answer_items_leaves : (n m : ℕ) (l : List (LaneKey × ℕ)) (s : State) → (l ≡ [] → s.budget ≡ n) → Leaves n (answer_items m l (release_all s))
unfolding Leaves answer_items
answer_items_leaves n zero l s h e a w = (answer_items_answered zero l s).is_alike.budgets ∙ h e
answer_items_leaves n (suc m) [] s h e a w = (answer_items_answered (suc m) [] s).is_alike.budgets ∙ h refl
answer_items_leaves n (suc m) (g ∷ l) s h e a w = absurd (omega (arith, ap length e))

take_from_leaves : (l : List ℕ) (x : ℕ) (s : State) → Leaves s.budget (take_from l x s)
unfolding Leaves take_from
take_from_leaves [] x s e a w = settle_empty_budget x (without x s.queue) s
take_from_leaves (v ∷ vs) x s e a w = absurd (omega (arith, ap length e))

-- one that stopped is no outcome of this kind
while_leaves : (n b m : ℕ) (s : State) → ((take_up_to m s).0 ≡ [] → (take_up_to m s).1.budget ≡ n) → let t = take_while b m s in Leaves n (answer_while m t.0 t.1.0 (release_all t.1.1))
unfolding Leaves answer_while says_stopped
while_leaves n b m s h =
    while_law (λ t es. Leaves n (answer_while m t.0 t.1.0 (release_all t.1.1))) b m s
    (λ all. answer_items_leaves n m (take_up_to m s).0 (take_up_to m s).1 h) (λ k w e a z. absurd (no refl z))

receive_leaves : (s : State) (r : ReceiveCall) → Leaves (budget_left s r) (receive_outcome s r)
unfolding budget_left receive_outcome try_recv try_recv_fair try_recv_from try_recv_batch_into try_recv_batch_into_while take_up_to
receive_leaves s TryRecv = unless_law (Leaves _) _ s _ (refused_leaves _ s) (λ p. answer_one_leaves _ _ _ (plain_none s))
receive_leaves s TryRecvFair = unless_law (Leaves _) _ s _ (refused_leaves _ s) (λ p. answer_one_leaves _ _ _ (fair_none s))
receive_leaves s (TryRecvBatchInto zero room) = unless_law (Leaves _) _ s _ (refused_leaves _ s) (λ p. answer_items_leaves _ zero [] s (λ e. refl))
receive_leaves s (TryRecvBatchInto (suc m) room) = unless_law (Leaves _) _ s _ (refused_leaves _ s) (λ p. answer_items_leaves _ (suc m) _ _ (batch_none m s))
receive_leaves s (TryRecvBatchIntoWhile zero bound room) = unless_law (Leaves _) _ s _ (refused_leaves _ s) (λ p. while_leaves _ bound zero s (λ e. refl))
receive_leaves s (TryRecvBatchIntoWhile (suc m) bound room) = unless_law (Leaves _) _ s _ (refused_leaves _ s) (λ p. while_leaves _ bound (suc m) s (batch_none m s))
receive_leaves s (TryRecvFrom i) = unless_law (Leaves _) _ s _ (refused_leaves _ s) (λ p. take_from_leaves _ _ s)

pub budget_after_nothing : BudgetAfterNothing rules_viewed
unfolding BudgetAfterNothing outcome Leaves
budget_after_nothing s r h w = receive_leaves s r h.no_item h.not_refused w

-- ---- after a stop

-- what a budget of 0 is set to is the same before the poll and after it
refill_twice : (n : ℕ) → refill (refill n) ≡ refill n
unfolding refill
refill_twice zero = refl
refill_twice (suc n) = refl

next_refill : (q : List ℕ) (u : State) → refill (before_next_turn q u).budget ≡ refill u.budget
unfolding before_next_turn
next_refill [] u = refl
next_refill (x ∷ q) u = refill_twice u.budget

run_down_refill : (q : List ℕ) (s : State) → refill (run_down_from q s).budget ≡ refill s.budget
unfolding run_down_from
run_down_refill [] s = refl
run_down_refill (y ∷ q) s = go (non_empty (s.slot_of y).ring) (run_down_refill q (before_next_turn q m))
  where
    m : State
    m = settle_empty y q s

    go : (b : Bool) → refill (run_down_from q (before_next_turn q m)).budget ≡ refill (before_next_turn q m).budget
        → refill (if b s (run_down_from q (before_next_turn q m))).budget ≡ refill s.budget
    go true ih = refl
    go false ih = ih ∙ next_refill q m ∙ ap refill (settle_empty_budget y q s)

due_refill : (n : ℕ) (q : List ℕ) (s : State) → s.budget ≡ n → refill (collect_if_due n q s).budget ≡ refill s.budget
unfolding collect_if_due refill
due_refill zero (y ∷ q) s e = sym (ap refill e)
due_refill zero [] s e = refl
due_refill (suc n) q s e = refl

none_refill : (q : List ℕ) (s : State) → refill (collect_if_none_queued q s).budget ≡ refill s.budget
unfolding collect_if_none_queued run_down
none_refill [] s = run_down_refill (collect_ready s).queue (collect_ready s) ∙ ap refill (collect_ready_alike s).budgets
none_refill (y ∷ q) s = refl

polled_refill : (s : State) → refill (polled s).budget ≡ refill s.budget
unfolding polled run_down
polled_refill s =
    let t = collect_if_due s.budget s.queue s in
    none_refill _ (run_down_from t.queue t) ∙ run_down_refill t.queue t ∙ due_refill s.budget s.queue s refl

-- the budget after a stop at count k, which is 0
stop_budget : (s : State) (k : ℕ) → k ≡ 0 → (release_all (halted (polled (take_up_to k s).1))).budget ≡ refill s.budget
unfolding release_all halted take_up_to
stop_budget s zero e = polled_refill s
stop_budget s (suc k) e = absurd (omega (arith, e))

pub budget_after_stop : BudgetAfterStop rules_viewed
unfolding BudgetAfterStop outcome receive_outcome try_recv try_recv_fair try_recv_from try_recv_batch_into try_recv_batch_into_while answer_while says_stopped
budget_after_stop s TryRecv h w = absurd (no w (unless_law (λ o. says_stopped o.1.0 ≡ false) _ s _ (λ n. refl) (λ p. answer_one_unstopped _ _)))
budget_after_stop s TryRecvFair h w = absurd (no w (unless_law (λ o. says_stopped o.1.0 ≡ false) _ s _ (λ n. refl) (λ p. answer_one_unstopped _ _)))
budget_after_stop s (TryRecvFrom i) h w = absurd (no w (unless_law (λ o. says_stopped o.1.0 ≡ false) _ s _ (λ n. refl) (λ p. take_from_unstopped _ _ s)))
budget_after_stop s (TryRecvBatchInto m n) h w = absurd (no w (unless_law (λ o. says_stopped o.1.0 ≡ false) _ s _ (λ n. refl) (λ p. answer_items_unstopped m _ _)))
budget_after_stop s (TryRecvBatchIntoWhile m b n) h w =
    unless_law After _ s _ (λ n e z. absurd (no z refl))
    (λ p. while_law (λ t es. After (answer_while m t.0 t.1.0 (release_all t.1.1))) b m s
    (λ all e z. absurd (no z (answer_items_unstopped m _ _))) (λ k u e z. stop_budget s k (sym u.all_there ∙ ap length e))) h.no_item w
  where
    After : Outcome → Type 0
    After o = o.0 ≡ [] → says_stopped o.1.0 ≡ true → o.1.1.budget ≡ refill s.budget

-- ---- by what happens

-- events without an item count on from n, or anew from 0 where one sets the budget
abbrev counted_on : ℕ → ℕ → ℕ
counted_on n sets = if (leb 1 sets) 0 n

from_none : (c : ℕ) → counted_on 0 c ≡ 0
from_none c = go (leb 1 c)
  where
    go : (b : Bool) → ◌≡◌ {A = ℕ} (if b 0 0) 0
    go true = refl
    go false = refl

none_counted : (n : ℕ) (es : List Event) → count_events takes_item es ≡ 0 → items_counted_from n es ≡ counted_on n (count_events sets_budget es)
unfolding items_counted_from count_events takes_item sets_budget
none_counted n [] z = refl
none_counted n (budget_set ∷ es) z =
    let c : ℕ = count_events sets_budget es in
    none_counted 0 es (omega (arith, z)) ∙ from_none c ∙ sym (ap (λ (b : Bool). if b 0 n) (le-leb 1 (1 + c) (omega arith)))
none_counted n (collected ∷ es) z = none_counted n es (omega (arith, z)) ∙ ap (counted_on n) (sym (zero-add (count_events sets_budget es)))
none_counted n (none_marked ∷ es) z = none_counted n es (omega (arith, z)) ∙ ap (counted_on n) (sym (zero-add (count_events sets_budget es)))
none_counted n (found_empty k ∷ es) z = none_counted n es (omega (arith, z)) ∙ ap (counted_on n) (sym (zero-add (count_events sets_budget es)))
none_counted n (item_taken k ∷ es) z = absurd (omega (arith, z))
none_counted n (went_to_back k ∷ es) z = none_counted n es (omega (arith, z)) ∙ ap (counted_on n) (sym (zero-add (count_events sets_budget es)))

pub budget_as_events_set : BudgetAsEventsSet rules_viewed
unfolding BudgetAsEventsSet
budget_as_events_set s r h =
    let k : LaneKey = record { slot = 0; generation = 0 } in
    let T : Tally = from_budget s.budget in
    let most : s.budget ≤ 64 = h.in_order.ordered.budget_most in
    let p = (call_pass k T s (Receive r) h.in_order.ordered (from_budget_counted k s h.in_order.ordered)).at_end.by_budget in
    let none : count_events takes_item (call_events s (Receive r)) ≡ 0 = events_tell.as_many s tt r ∙ go (is_targeted r) (ap length h.no_item) in
    let es = counted_from k T (call_events s (Receive r)) ∙ none_counted (64 - s.budget) (call_events s (Receive r)) none in
    left (leb 1 (count_events sets_budget (call_events s (Receive r)))) _ (outcome s (Receive r)).1.1.budget s.budget most es p
  where
    go : (b : Bool) {n : ℕ} → n ≡ 0 → if b 0 n ≡ 0
    go true e = refl
    go false e = e

    left : (b : Bool) (n left before : ℕ) → before ≤ 64 → n ≡ if b 0 (64 - before) → n + left ≡ 64 → left ≡ if b 64 before
    left true n l b h e p = omega (arith, e, p)
    left false n l b h e p = omega (arith, h, e, p)

-- ---- calls that do as the rules

module _ (W : Viewed) (sim : Simulation W) where
  seen : (w : W.rules.State) (r : ReceiveCall) → HandsNothing W w r → HandsNothing rules_viewed (W.view w) r
  seen w r h = record {
    in_order = sim.shows_in_order w h.in_order;
    no_item = sym (sim.hands_alike w r h.in_order) ∙ h.no_item;
    not_refused = ap accepted (sym (sim.answers_alike w (Receive r) h.in_order)) ∙ h.not_refused;
  }

  pub words_budget_after_nothing : BudgetAfterNothing W
  unfolding BudgetAfterNothing
  words_budget_after_nothing w r h n =
      ap (λ (u : State). u.budget) (sim.leaves_alike w (Receive r) h.in_order)
      ∙ budget_after_nothing (W.view w) r (seen w r h) (ap says_stopped (sym (sim.answers_alike w (Receive r) h.in_order)) ∙ n)

  pub words_budget_after_stop : BudgetAfterStop W
  unfolding BudgetAfterStop
  words_budget_after_stop w r h n =
      ap (λ (u : State). u.budget) (sim.leaves_alike w (Receive r) h.in_order)
      ∙ budget_after_stop (W.view w) r (seen w r h) (ap says_stopped (sym (sim.answers_alike w (Receive r) h.in_order)) ∙ n)

  pub words_budget_as_events_set : BudgetAsEventsSet W
  unfolding BudgetAsEventsSet
  words_budget_as_events_set w r h = ap (λ (u : State). u.budget) (sim.leaves_alike w (Receive r) h.in_order) ∙ budget_as_events_set (W.view w) r (seen w r h)
