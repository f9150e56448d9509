-- A receive goes on until it has its items or nothing is queued and nothing is ready; and the rules' two passes over the queue come to where the Rust's loop ends.
-- Assumes nothing.
use mathlib.Core.Path.{◌≡◌, refl, ap, sym, ◌∙◌, subst}
use mathlib.Core.Logic.{inl, inr, ◌⊎◌}
use mathlib.Core.Bool.{Bool, true, false, not}
use mathlib.Core.List.{List, [], ◌∷◌, ◌++◌, tail}
use Prim.Native.Nat.{ℕ, zero, suc, ◌≤◌}
use native.Mathlib.Omega.{arith}
use lib.ListN.{length}
use Rattle.model.specs.Lists.{if, non_empty, keep}
use Rattle.model.specs.State.{State}
use Rattle.model.specs.Changes.{with_queue, with_budget, put, settled_empty}
use Rattle.model.specs.Ready.{marks, is_ready, collect_marks, collect_group, groups_round, collect_first, collect_ready_group, collect_ready}
use Rattle.model.specs.Turn.{Took, retire_lane, retire_lane_if, settle_empty, refill, before_next_turn, run_down_from, run_down, collect_if_due, collect_if_none_queued, polled, take_one, take_fair}
use Rattle.model.specs.Receive.{and_more, take_up_to}
use Rattle.model.specs.Order.{Ordered}
use Rattle.model.specs.PollLoop.{NothingReady, TakesUnlessNothingLeft, PlainUnlessNothingLeft, FairUnlessNothingLeft, BatchUnlessNothingLeft, refreshed, refresh_active, Turns, nothing_queued, has_item, found_empty, PolledAsLoop, FairAsLoop, NothingReadyAtZero, WhileUnlessNothingLeft}
use Rattle.demands.proofs.OrderKept.{refill_pos, settle_empty_queue, before_next_turn_queue, collect_if_due_ordered, run_down_from_ordered, run_down_ordered, take_one_ordered}
use Rattle.demands.proofs.Moves.{TakeResult, took_none, took_one, take_one_taken, take_fair_taken}
use Rattle.demands.proofs.Signals.{collect_ready_unmarked, settle_empty_unmarked, run_down_from_unmarked, poll_unmarked}
use Rattle.demands.proofs.Collections.{none_marked_lem, nothing_to_collect}
use Rattle.demands.proofs.StopLaws.{while_law}

-- ---- until it has its items

one_unless : (f : Bool) (s : State) (t : Took) → Ordered s → TakeResult f s t → TakesUnlessNothingLeft 1 t
unfolding TakesUnlessNothingLeft
one_unless f s t o (took_none e) = inr record { none_queued = e; none_ready = poll_unmarked f s o e }
one_unless f s t o (took_one y v q vs e g) = inl refl

pub plain_unless_nothing_left : PlainUnlessNothingLeft
unfolding PlainUnlessNothingLeft
plain_unless_nothing_left s i = one_unless false s (take_one s) i.ordered (take_one_taken s)

pub fair_unless_nothing_left : FairUnlessNothingLeft
unfolding FairUnlessNothingLeft
fair_unless_nothing_left s i = one_unless true s (take_fair s) i.ordered (take_fair_taken s)

up_to_unless : (n : ℕ) (s : State) → Ordered s → TakesUnlessNothingLeft n (take_up_to n s)
unfolding TakesUnlessNothingLeft take_up_to and_more
up_to_unless zero s o = inl refl
up_to_unless (suc n) s o = go (take_one s) (take_one_taken s) (up_to_unless n (take_one s).1 (take_one_ordered s o))
  where
    go : (t : Took) → TakeResult false s t → TakesUnlessNothingLeft n (take_up_to n t.1) → TakesUnlessNothingLeft (suc n) (and_more t.0 t.1 (take_up_to n t.1))
    go t (took_none e) h = inr record { none_queued = e; none_ready = poll_unmarked false s o e }
    go t (took_one y v q vs e g) (inl h) = inl (ap suc h)
    go t (took_one y v q vs e g) (inr h) = inr h

pub batch_unless_nothing_left : BatchUnlessNothingLeft
unfolding BatchUnlessNothingLeft
batch_unless_nothing_left limit s i = up_to_unless limit s i.ordered

pub while_unless_nothing_left : WhileUnlessNothingLeft
unfolding WhileUnlessNothingLeft
while_unless_nothing_left bound limit s i =
    while_law (λ t es. (t.0 ≡ true) ⊎ TakesUnlessNothingLeft limit t.1) bound limit s (λ all. inr (up_to_unless limit s i.ordered)) (λ n w. inl refl)

-- ---- as the Rust's loop

-- where nothing is ready, `refresh_active` does what the rules do before the next turn
pub refresh_unready : (q : List ℕ) (b : ℕ) (s : State) → s.budget ≡ b → NothingReady s → refreshed q b s ≡ before_next_turn q s
unfolding refreshed before_next_turn refill
refresh_unready [] b s e n = (nothing_to_collect s (none_marked_lem s n)).1
refresh_unready (y ∷ q) zero s e n = ap (with_budget 64) (nothing_to_collect s (none_marked_lem s n)).0 ∙ ap (λ (c : ℕ). with_budget (refill c) s) (sym e)
refresh_unready (y ∷ q) (suc b) s e n = ap (λ (c : ℕ). with_budget c s) e ∙ ap (λ (c : ℕ). with_budget (refill c) s) (sym e)

-- and so where lanes are queued and the budget is not 0, whatever is ready
refresh_in_budget : (y : ℕ) (q : List ℕ) (b : ℕ) (s : State) → s.budget ≡ b → 1 ≤ b → (refreshed (y ∷ q) b s ≡ s) × (before_next_turn (y ∷ q) s ≡ s)
unfolding refreshed before_next_turn refill
refresh_in_budget y q zero s e h = absurd (omega arith)
refresh_in_budget y q (suc b) s e h = (refl, ap (λ (c : ℕ). with_budget (refill c) s) e ∙ ap (λ (c : ℕ). with_budget c s) (sym e))

before_next_turn_unready : (q : List ℕ) (s : State) → NothingReady s → NothingReady (before_next_turn q s)
unfolding before_next_turn
before_next_turn_unready [] s n = n
before_next_turn_unready (y ∷ q) s n = n

-- a pass over the queue in which nothing is ready
unready_pass : (q : List ℕ) (s : State) → s.queue ≡ q → NothingReady s → Turns s (run_down_from q s)
unfolding run_down_from
unready_pass [] s e n = nothing_queued s e
unready_pass (y ∷ q) s e n =
    let m = settle_empty y q s in
    go (s.slot_of y).ring refl (unready_pass q (before_next_turn q m) (before_next_turn_queue q q m (settle_empty_queue y q s)) (before_next_turn_unready q m (λ z. settle_empty_unmarked y q s z (n z))))
  where
    m : State
    m = settle_empty y q s

    next : refresh_active m ≡ before_next_turn q m
    next = ap (λ (l : List ℕ). refreshed l m.budget m) (settle_empty_queue y q s) ∙ refresh_unready q m.budget m refl (λ z. settle_empty_unmarked y q s z (n z))

    go : (l : List ℕ) → (s.slot_of y).ring ≡ l → Turns (before_next_turn q m) (run_down_from q (before_next_turn q m)) → Turns s (if (non_empty l) s (run_down_from q (before_next_turn q m)))
    go [] g r = found_empty s _ y q e g (subst (λ (x : State). Turns x (run_down_from q (before_next_turn q m))) (sym next) r)
    go (v ∷ vs) g r = has_item s y v q vs e g

-- the second pass, after all groups were collected
last_pass : (s : State) → Ordered s → Turns (collect_ready s) (run_down (collect_ready s))
unfolding run_down
last_pass s o = unready_pass (collect_ready s).queue (collect_ready s) refl (collect_ready_unmarked s o)

settle_empty_budget : (x : ℕ) (q : List ℕ) (s : State) → (settle_empty x q s).budget ≡ s.budget
unfolding settle_empty retire_lane_if retire_lane
settle_empty_budget x q s = go (not (s.slot_of x).living)
  where
    go : (b : Bool) → (retire_lane_if b x (with_queue q (put x (settled_empty (s.slot_of x)) s))).budget ≡ s.budget
    go true = refl
    go false = refl

-- the end of the first pass, and the second where it has run down
abbrev second_pass : State → State
second_pass t = collect_if_none_queued t.queue t

front_has_item : (s : State) (y v : ℕ) (q vs : List ℕ) → s.queue ≡ y ∷ q → (s.slot_of y).ring ≡ v ∷ vs → Turns s (second_pass s)
unfolding collect_if_none_queued
front_has_item s y v q vs e g = subst (Turns s) (ap (λ (l : List ℕ). collect_if_none_queued l s) (sym e)) (has_item s y v q vs e g)

-- the last lane of the first pass is empty
last_lane_empty : (s : State) (y : ℕ) → s.queue ≡ y ∷ [] → (s.slot_of y).ring ≡ [] → Ordered (settle_empty y [] s) → Turns s (second_pass (settle_empty y [] s))
unfolding collect_if_none_queued refreshed
last_lane_empty s y e g o =
    let m = settle_empty y [] s in
    found_empty s _ y [] e g (subst (λ (l : List ℕ). Turns (refreshed l m.budget m) (collect_if_none_queued l m)) (sym (settle_empty_queue y [] s)) (last_pass m o))

-- another lane is behind it, and the budget is not 0
next_lane : (s u : State) (y z : ℕ) (q : List ℕ) → s.queue ≡ y ∷ z ∷ q → (s.slot_of y).ring ≡ [] → 1 ≤ s.budget → Turns (settle_empty y (z ∷ q) s) u → Turns s u
next_lane s u y z q e g h r =
    let m = settle_empty y (z ∷ q) s in
    let same : refresh_active m ≡ m = ap (λ (l : List ℕ). refreshed l m.budget m) (settle_empty_queue y (z ∷ q) s) ∙ (refresh_in_budget z q m.budget m refl (omega (arith, h, settle_empty_budget y (z ∷ q) s))).0 in
    found_empty s u y (z ∷ q) e g (subst (λ (x : State). Turns x u) (sym same) r)

-- the first pass, in which the budget is not 0
first_pass : (y : ℕ) (q : List ℕ) (s : State) → s.queue ≡ y ∷ q → 1 ≤ s.budget → Ordered (run_down_from (y ∷ q) s) → Turns s (second_pass (run_down_from (y ∷ q) s))
unfolding run_down_from before_next_turn
first_pass y [] s e h o = go (s.slot_of y).ring refl o
  where
    go : (l : List ℕ) → (s.slot_of y).ring ≡ l → Ordered (if (non_empty l) s (settle_empty y [] s)) → Turns s (second_pass (if (non_empty l) s (settle_empty y [] s)))
    go [] g o = last_lane_empty s y e g o
    go (v ∷ vs) g o = front_has_item s y v [] vs e g
first_pass y (z ∷ q) s e h o = go (s.slot_of y).ring refl o (first_pass z q (settle_empty y (z ∷ q) s) (settle_empty_queue y (z ∷ q) s) (omega (arith, h, settle_empty_budget y (z ∷ q) s)))
  where
    m : State
    m = settle_empty y (z ∷ q) s

    same : before_next_turn (z ∷ q) m ≡ m
    same = (refresh_in_budget z q m.budget m refl (omega (arith, h, settle_empty_budget y (z ∷ q) s))).1

    go : (l : List ℕ) → (s.slot_of y).ring ≡ l → Ordered (if (non_empty l) s (run_down_from (z ∷ q) (before_next_turn (z ∷ q) m)))
        → (Ordered (run_down_from (z ∷ q) m) → Turns m (second_pass (run_down_from (z ∷ q) m)))
        → Turns s (second_pass (if (non_empty l) s (run_down_from (z ∷ q) (before_next_turn (z ∷ q) m))))
    go [] g o more =
        subst (λ (x : State). Turns s (second_pass (run_down_from (z ∷ q) x))) (sym same)
        (next_lane s _ y z q e g h (more (subst (λ (x : State). Ordered (run_down_from (z ∷ q) x)) same o)))
    go (v ∷ vs) g o more = front_has_item s y v (z ∷ q) vs e g

-- a collection that was due leaves the front lane where it was
front_kept : (gs : List ℕ) (s : State) (y : ℕ) (q : List ℕ) → s.queue ≡ y ∷ q → (p : List ℕ) × ((collect_first gs s).queue ≡ y ∷ p)
unfolding collect_first collect_group collect_marks
front_kept [] s y q e = (q, e)
front_kept (g ∷ gs) s y q e = go (non_empty (marks s g)) (front_kept gs s y q e)
  where
    taken : (m : List ℕ) → (p : List ℕ) × ((collect_marks m s g).queue ≡ y ∷ p)
    taken [] = (q, e)
    taken (x ∷ m) = (q ++ keep (is_ready s) (x ∷ m), ap (λ (l : List ℕ). l ++ keep (is_ready s) (x ∷ m)) e)

    go : (b : Bool) → (p : List ℕ) × ((collect_first gs s).queue ≡ y ∷ p) → (p : List ℕ) × ((if b (collect_group s g) (collect_first gs s)).queue ≡ y ∷ p)
    go true r = taken (marks s g)
    go false r = r

both_passes : (s : State) (y : ℕ) (q : List ℕ) → s.queue ≡ y ∷ q → 1 ≤ s.budget → Ordered s → Turns s (second_pass (run_down s))
unfolding run_down
both_passes s y q e h o = subst (λ (l : List ℕ). Turns s (second_pass (run_down_from l s))) (sym e) (first_pass y q s e h (run_down_from_ordered (y ∷ q) s e o))

run_down_none : (s : State) → s.queue ≡ [] → run_down s ≡ s
unfolding run_down run_down_from
run_down_none s e = ap (λ (l : List ℕ). run_down_from l s) e

second_pass_none : (s : State) → s.queue ≡ [] → second_pass (run_down s) ≡ run_down (collect_ready s)
unfolding collect_if_none_queued
second_pass_none s e = ap second_pass (run_down_none s e) ∙ ap (λ (l : List ℕ). collect_if_none_queued l s) e

pub polled_as_loop : PolledAsLoop
unfolding PolledAsLoop polled refreshed collect_if_due collect_ready_group
polled_as_loop s i = go s.queue s.budget refl refl
  where
    go : (q : List ℕ) (b : ℕ) → s.queue ≡ q → s.budget ≡ b → Turns (refreshed q b s) (second_pass (run_down (collect_if_due b q s)))
    go [] zero e f = subst (Turns (collect_ready s)) (sym (second_pass_none s e)) (last_pass s i.ordered)
    go [] (suc n) e f = subst (Turns (collect_ready s)) (sym (second_pass_none s e)) (last_pass s i.ordered)
    go (y ∷ q) zero e f =
        let front = front_kept (groups_round s) s y q e in
        both_passes (with_budget 64 (collect_first (groups_round s) s)) y front.0 front.1 (omega arith) (collect_if_due_ordered zero (y ∷ q) s i.ordered)
    go (y ∷ q) (suc n) e f = both_passes s y q e (omega arith) i.ordered

pub fair_as_loop : FairAsLoop
unfolding FairAsLoop run_down before_next_turn refill
fair_as_loop s i = subst (λ (x : State). Turns x (run_down_from t.queue t)) (sym same) (unready_pass t.queue t refl unready)
  where
    t : State
    t = with_budget 64 (collect_ready s)

    unready : NothingReady t
    unready = collect_ready_unmarked s i.ordered

    full : (q : List ℕ) → before_next_turn q t ≡ t
    full [] = refl
    full (y ∷ q) = refl

    same : refresh_active t ≡ t
    same = refresh_unready t.queue 64 t refl unready ∙ full t.queue

run_down_budget : (q : List ℕ) (s : State) → 1 ≤ s.budget → 1 ≤ (run_down_from q s).budget
unfolding run_down_from before_next_turn
run_down_budget [] s h = h
run_down_budget (y ∷ q) s h = go (non_empty (s.slot_of y).ring) (run_down_budget q (before_next_turn q m) (next q))
  where
    m : State
    m = settle_empty y q s

    next : (p : List ℕ) → 1 ≤ (before_next_turn p m).budget
    next [] = omega (arith, h, settle_empty_budget y q s)
    next (z ∷ p) = refill_pos m.budget

    go : (b : Bool) → 1 ≤ (run_down_from q (before_next_turn q m)).budget → 1 ≤ (if b s (run_down_from q (before_next_turn q m))).budget
    go true r = h
    go false r = r

last_pass_unready : (s : State) → Ordered s → NothingReady (run_down (collect_ready s))
unfolding run_down
last_pass_unready s o y = run_down_from_unmarked _ _ y (collect_ready_unmarked s o y)

second_pass_unready : (t : State) → Ordered t → 1 ≤ t.budget → (second_pass t).budget ≡ 0 → NothingReady (second_pass t)
unfolding collect_if_none_queued
second_pass_unready t o h = go t.queue
  where
    go : (l : List ℕ) → (collect_if_none_queued l t).budget ≡ 0 → NothingReady (collect_if_none_queued l t)
    go [] z = last_pass_unready t o
    go (y ∷ l) z = absurd (omega (arith, h, z))

pub nothing_ready_at_zero : NothingReadyAtZero
unfolding NothingReadyAtZero polled collect_if_due run_down
nothing_ready_at_zero s i = go s.queue s.budget refl refl
  where
    none : s.queue ≡ [] → NothingReady (second_pass (run_down s))
    none e = subst NothingReady (sym (second_pass_none s e)) (last_pass_unready s i.ordered)

    some : (d : State) → Ordered d → 1 ≤ d.budget → (second_pass (run_down d)).budget ≡ 0 → NothingReady (second_pass (run_down d))
    some d o h = second_pass_unready (run_down d) (run_down_ordered d o) (run_down_budget d.queue d h)

    go : (q : List ℕ) (b : ℕ) → s.queue ≡ q → s.budget ≡ b → (second_pass (run_down (collect_if_due b q s))).budget ≡ 0 → NothingReady (second_pass (run_down (collect_if_due b q s)))
    go [] zero e f z = none e
    go [] (suc n) e f z = none e
    go (y ∷ q) zero e f z = some (with_budget 64 (collect_ready_group s)) (collect_if_due_ordered zero (y ∷ q) s i.ordered) (omega arith) z
    go (y ∷ q) (suc n) e f z = some s i.ordered (omega arith) z

-- ---- the loop ends in one state only

-- a queue has one front and one rest, or none
same_front : {y z : ℕ} {q p : List ℕ} → y ∷ q ≡ z ∷ p → (y ≡ z) × (q ≡ p)
same_front {y} {z} {q} {p} e = (ap first e, ap tail e)
  where
    first : List ℕ → ℕ
    first [] = 0
    first (x ∷ l) = x

no_front : {y : ℕ} {q : List ℕ} → [] ≡ y ∷ q → ⊥
no_front e = omega (arith, ap length e)

pub ends_unqueued : {s w : State} → s.queue ≡ [] → Turns s w → s ≡ w
ends_unqueued e (nothing_queued s f) = refl
ends_unqueued e (has_item s y v q vs f g) = refl
ends_unqueued e (found_empty s w y q f g t) = absurd (no_front (sym e ∙ f))

pub ends_with_item : {s w : State} (y v : ℕ) (q vs : List ℕ) → s.queue ≡ y ∷ q → (s.slot_of y).ring ≡ v ∷ vs → Turns s w → s ≡ w
ends_with_item y v q vs e g (nothing_queued s f) = refl
ends_with_item y v q vs e g (has_item s z x p xs f h) = refl
ends_with_item y v q vs e g (found_empty s w z p f h t) = absurd (no_front (sym h ∙ ap (λ (a : ℕ). (s.slot_of a).ring) (sym (same_front (sym e ∙ f)).0) ∙ g))

pub goes_on_empty : {s w : State} (y : ℕ) (q : List ℕ) → s.queue ≡ y ∷ q → (s.slot_of y).ring ≡ [] → Turns s w → Turns (refresh_active (settle_empty y q s)) w
goes_on_empty y q e g (nothing_queued s f) = absurd (no_front (sym f ∙ e))
goes_on_empty y q e g (has_item s z x p xs f h) = absurd (no_front (sym g ∙ ap (λ (a : ℕ). (s.slot_of a).ring) (same_front (sym e ∙ f)).0 ∙ h))
goes_on_empty y q e g (found_empty s w z p f h t) =
    let same = same_front (sym e ∙ f) in
    subst (λ (a : ℕ). Turns (refresh_active (settle_empty a q s)) w) (sym same.0) (subst (λ (l : List ℕ). Turns (refresh_active (settle_empty z l s)) w) (sym same.1) t)

pub turns_end_once : {s u w : State} → Turns s u → Turns s w → u ≡ w
turns_end_once (nothing_queued s e) r = ends_unqueued e r
turns_end_once (has_item s y v q vs e g) r = ends_with_item y v q vs e g r
turns_end_once (found_empty s u y q e g t) r = turns_end_once t (goes_on_empty y q e g r)
