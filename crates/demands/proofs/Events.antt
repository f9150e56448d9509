-- The events of any run, counted as they come, against the state: the items since the budget was last set and the budget make 64;
-- no more items came since the last collection; and a lane's items of its present turn are at most its burst.
-- Assumes nothing.
use mathlib.Core.Path.{◌≡◌, refl, ap, sym, ◌∙◌, subst}
use mathlib.Core.Logic.{◌≢◌}
use mathlib.Core.Bool.{Bool, true, false, not}
use mathlib.Core.List.{List, [], ◌∷◌, ◌++◌}
use Prim.Native.Nat.{ℕ, zero, suc, ◌+◌, ◌-◌, ◌≤◌, ◌<◌}
use native.Mathlib.Omega.{arith}
use lib.Dec.{eqb, leb}
use borrow.Author.Tests.{eq-eqb}
use Rattle.model.specs.declared.LaneKey.{LaneKey}
use Rattle.model.specs.Lists.{if, either, non_empty}
use Rattle.model.specs.State.{Slot, State, key_of}
use Rattle.model.specs.Changes.{with_queue, with_budget, put, popped, settled_empty, retired, unmarked}
use Rattle.model.specs.Ready.{group_of, marks, collect_marks, collect_group, groups_round, collect_first, collect_each, collect_ready_group, collect_ready}
use Rattle.model.specs.Turn.{retire_lane, retire_lane_if, settle_empty, refill, before_next_turn, run_down_from, run_down, unreleased_after_one, give_item, give_oldest, give_front, collect_if_due, collect_if_none_queued, polled, take_one, take_fair}
use Rattle.model.specs.Receive.{retire_empty_paused_lanes, and_more, take_up_to, release_all, halted}
use Rattle.model.specs.Runs.{same_key}
use Rattle.model.specs.Order.{Ordered}
use Rattle.model.specs.Events.{Event, budget_set, collected, none_marked, found_empty, item_taken, went_to_back, any_marked, collect_event, refill_events, before_next_turn_events, run_down_from_events, run_down_events, back_events, give_oldest_events, give_front_events, collect_if_due_events, collect_if_none_queued_events, polled_events, take_one_events, take_fair_events, and_more_events, take_up_to_events, halted_events}
use Rattle.demands.proofs.Counting.{equal, other, same?, no}
use Rattle.demands.proofs.OrderKept.{front_registered, settle_empty_queue, before_next_turn_queue, polled_ordered, take_one_ordered, run_down_ordered, collect_ready_ordered, budget_ordered, back_room}
use Rattle.demands.proofs.WaitInReceive.{settle_empty_budget}
use Rattle.demands.proofs.LedgerLaws.{alike, unlike, keys?}

-- three counts: items since the budget was set, items since a collection, items of one lane since its turn began
pub record Tally : Type 0 where
  pub since_set : ℕ
  pub since_collected : ℕ
  pub in_turn : ℕ

unfoldable pub next : LaneKey → Tally → Event → Tally
next k T budget_set = record { since_set = 0; since_collected = T.since_collected; in_turn = T.in_turn }
next k T collected = record { since_set = T.since_set; since_collected = 0; in_turn = T.in_turn }
next k T none_marked = record { since_set = T.since_set; since_collected = 0; in_turn = T.in_turn }
next k T (found_empty j) = record { since_set = T.since_set; since_collected = T.since_collected; in_turn = if (same_key j k) 0 T.in_turn }
next k T (item_taken j) = record { since_set = T.since_set + 1; since_collected = T.since_collected + 1; in_turn = if (same_key j k) (T.in_turn + 1) T.in_turn }
next k T (went_to_back j) = record { since_set = T.since_set; since_collected = T.since_collected; in_turn = if (same_key j k) 0 T.in_turn }

unfoldable pub tally : LaneKey → Tally → List Event → Tally
tally k T [] = T
tally k T (e ∷ es) = tally k (next k T e) es

pub record Small (T : Tally) : Type 0 where
  pub set_small : T.since_set ≤ 64
  pub collected_small : T.since_collected ≤ 64
  pub turn_small : T.in_turn ≤ 64

-- the counts are at most 64 all the way
pub data Below (k : LaneKey) : Tally → List Event → Type 0 where
  ends_below : {T : Tally} → Small T → Below k T []
  goes_below : {T : Tally} {e : Event} {es : List Event} → Small T → Below k (next k T e) es → Below k T (e ∷ es)

tally_append : (k : LaneKey) (T : Tally) (es fs : List Event) → tally k T (es ++ fs) ≡ tally k (tally k T es) fs
unfolding tally
tally_append k T [] fs = refl
tally_append k T (e ∷ es) fs = tally_append k (next k T e) es fs

below_append : (k : LaneKey) (T : Tally) (es fs : List Event) → Below k T es → Below k (tally k T es) fs → Below k T (es ++ fs)
unfolding tally
below_append k T [] fs (ends_below s) b = b
below_append k T (e ∷ es) fs (goes_below s a) b = goes_below s (below_append k (next k T e) es fs a b)

-- events es, from counts T on, that end in a state u of which Q holds
pub record Pass (k : LaneKey) (Q : Tally → State → Type 0) (T : Tally) (es : List Event) (u : State) : Type 0 where
  pub below : Below k T es
  pub at_end : Q (tally k T es) u

pub bind : {k : LaneKey} {Q R : Tally → State → Type 0} {T : Tally} {es fs : List Event} {s u : State} → Pass k Q T es s → ((U : Tally) → Q U s → Pass k R U fs u) → Pass k R T (es ++ fs) u
bind {k} {Q} {R} {T} {es} {fs} {s} {u} p f =
    let g = f (tally k T es) p.at_end in
    record { below = below_append k T es fs p.below g.below; at_end = rw (tally_append k T es fs) g.at_end }

-- the counts agree with the state
pub record Counted (k : LaneKey) (T : Tally) (s : State) : Type 0 where
  pub by_budget : T.since_set + s.budget ≡ 64
  pub fewer : T.since_collected ≤ T.since_set
  pub turn_most : T.in_turn ≤ 63
  pub by_burst : (s.slot_of k.slot).generation ≡ k.generation → T.in_turn ≤ (s.slot_of k.slot).burst
  pub known : 1 ≤ T.in_turn → (k.slot < s.issued) × (k.generation ≤ (s.slot_of k.slot).generation)

pub small : {k : LaneKey} {T : Tally} {s : State} → Counted k T s → Small T
small c = record { set_small = omega (arith, c.by_budget); collected_small = omega (arith, c.by_budget, c.fewer); turn_small = omega (arith, c.turn_most) }

pub no_event : {k : LaneKey} {T : Tally} {s : State} → Counted k T s → Pass k (Counted k) T [] s
unfolding tally
no_event c = record { below = ends_below (small c); at_end = c }

-- what leaves the budget, the generations and the bursts alone
pub record Alike (s u : State) : Type 0 where
  pub budgets : u.budget ≡ s.budget
  pub issues : u.issued ≡ s.issued
  pub generations : (y : ℕ) → (u.slot_of y).generation ≡ (s.slot_of y).generation
  pub bursts : (y : ℕ) → (u.slot_of y).burst ≡ (s.slot_of y).burst

pub counted_alike : {k : LaneKey} {T : Tally} {s u : State} → Alike s u → Counted k T s → Counted k T u
counted_alike {k} {T} {s} {u} a c = record {
  by_budget = omega (arith, a.budgets, c.by_budget);
  fewer = c.fewer;
  turn_most = c.turn_most;
  by_burst = λ e. omega (arith, a.bursts k.slot, c.by_burst (sym (a.generations k.slot) ∙ e));
  known = λ h. (omega (arith, a.issues, (c.known h).0), omega (arith, a.generations k.slot, (c.known h).1));
}

pub unchanged : (s : State) → Alike s s
unchanged s = record { budgets = refl; issues = refl; generations = λ y. refl; bursts = λ y. refl }

pub alike_trans : {s t u : State} → Alike s t → Alike t u → Alike s u
alike_trans a b = record {
  budgets = b.budgets ∙ a.budgets;
  issues = b.issues ∙ a.issues;
  generations = λ y. b.generations y ∙ a.generations y;
  bursts = λ y. b.bursts y ∙ a.bursts y;
}

pub put_generations : (s : State) (x : ℕ) (l : Slot) → l.generation ≡ (s.slot_of x).generation → (y : ℕ) → ((put x l s).slot_of y).generation ≡ (s.slot_of y).generation
put_generations s x l h y = elim (same? x y) [ equal p e i ↦ rw (e, ← p) h | other d e i ↦ rw e ]

pub put_bursts : (s : State) (x : ℕ) (l : Slot) → l.burst ≡ (s.slot_of x).burst → (y : ℕ) → ((put x l s).slot_of y).burst ≡ (s.slot_of y).burst
put_bursts s x l h y = elim (same? x y) [ equal p e i ↦ rw (e, ← p) h | other d e i ↦ rw e ]

pub retire_lane_alike : (x : ℕ) (s : State) → Alike s (retire_lane x s)
unfolding retire_lane
retire_lane_alike x s = record { budgets = refl; issues = refl; generations = put_generations s x (retired (s.slot_of x)) refl; bursts = put_bursts s x (retired (s.slot_of x)) refl }

retire_lane_if_alike : (b : Bool) (x : ℕ) (s : State) → Alike s (retire_lane_if b x s)
unfolding retire_lane_if
retire_lane_if_alike true x s = retire_lane_alike x s
retire_lane_if_alike false x s = unchanged s

pub retire_empty_paused_alike : (xs : List ℕ) (s : State) → Alike s (retire_empty_paused_lanes xs s)
unfolding retire_empty_paused_lanes
retire_empty_paused_alike [] s = unchanged s
retire_empty_paused_alike (x ∷ xs) s = alike_trans (retire_lane_if_alike _ x s) (retire_empty_paused_alike xs _)

pub release_all_alike : (s : State) → Alike s (release_all s)
unfolding release_all
release_all_alike s = record { budgets = refl; issues = refl; generations = λ y. refl; bursts = λ y. refl }

collect_group_alike : (s : State) (g : ℕ) → Alike s (collect_group s g)
unfolding collect_group collect_marks
collect_group_alike s g = go (marks s g)
  where
    generation_of : (b : Bool) (l : Slot) → (if b (unmarked l) l).generation ≡ l.generation
    generation_of true l = refl
    generation_of false l = refl

    burst_of : (b : Bool) (l : Slot) → (if b (unmarked l) l).burst ≡ l.burst
    burst_of true l = refl
    burst_of false l = refl

    go : (m : List ℕ) → Alike s (collect_marks m s g)
    go [] = unchanged s
    go (x ∷ m) = record { budgets = refl; issues = refl; generations = λ y. generation_of (eqb (group_of y) g) (s.slot_of y); bursts = λ y. burst_of (eqb (group_of y) g) (s.slot_of y) }

collect_each_alike : (gs : List ℕ) (s : State) → Alike s (collect_each gs s)
unfolding collect_each
collect_each_alike [] s = unchanged s
collect_each_alike (g ∷ gs) s = alike_trans (collect_group_alike s g) (collect_each_alike gs (collect_group s g))

collect_first_alike : (gs : List ℕ) (s : State) → Alike s (collect_first gs s)
unfolding collect_first
collect_first_alike [] s = unchanged s
collect_first_alike (g ∷ gs) s = go (non_empty (marks s g)) (collect_first_alike gs s)
  where
    go : (b : Bool) → Alike s (collect_first gs s) → Alike s (if b (collect_group s g) (collect_first gs s))
    go true r = collect_group_alike s g
    go false r = r

pub collect_ready_alike : (s : State) → Alike s (collect_ready s)
unfolding collect_ready
collect_ready_alike s = collect_each_alike (groups_round s) s

collect_ready_group_alike : (s : State) → Alike s (collect_ready_group s)
unfolding collect_ready_group
collect_ready_group_alike s = collect_first_alike (groups_round s) s

-- a collection, or a look for one
collect_counted : {k : LaneKey} {T : Tally} (e : State) {s : State} → Counted k T s → Counted k (next k T (collect_event e)) s
unfolding next collect_event
collect_counted {k} {T} e {s} c = go (any_marked e)
  where
    go : (b : Bool) → Counted k (next k T (if b collected none_marked)) s
    go true = record { by_budget = c.by_budget; fewer = omega arith; turn_most = c.turn_most; by_burst = c.by_burst; known = c.known }
    go false = record { by_budget = c.by_budget; fewer = omega arith; turn_most = c.turn_most; by_burst = c.by_burst; known = c.known }

none_since : (k : LaneKey) (T : Tally) (e : State) → (next k T (collect_event e)).since_collected ≡ 0
unfolding next collect_event
none_since k T e = go (any_marked e)
  where
    go : (b : Bool) → (next k T (if b collected none_marked)).since_collected ≡ 0
    go true = refl
    go false = refl

-- the budget is set; then no item came since the last collection
set_counted : {k : LaneKey} {T : Tally} {s : State} → T.since_collected ≡ 0 → Counted k T s → Counted k (next k T budget_set) (with_budget 64 s)
unfolding next
set_counted z c = record { by_budget = omega arith; fewer = omega (arith, z); turn_most = c.turn_most; by_burst = c.by_burst; known = c.known }

-- a lane is found empty
pub found_empty_counted : (k : LaneKey) (T : Tally) (s : State) (x : ℕ) (q : List ℕ) → Counted k T s → Counted k (next k T (found_empty (key_of s x))) (settle_empty x q s)
unfolding next settle_empty
found_empty_counted k T s x q c = counted_alike (retire_lane_if_alike (not (s.slot_of x).living) x t) (elim (keys? (key_of s x) k) [
  | alike p e ↦ rw e record { by_budget = c.by_budget; fewer = c.fewer; turn_most = omega arith; by_burst = λ h. omega arith; known = λ h. absurd (omega arith) }
  | unlike d e ↦ rw e record {
    by_budget = c.by_budget;
    fewer = c.fewer;
    turn_most = c.turn_most;
    by_burst = λ h. go d h;
    known = λ h. ((c.known h).0, omega (arith, (c.known h).1, put_generations s x (settled_empty (s.slot_of x)) refl k.slot));
  }
])
  where
    t : State
    t = with_queue q (put x (settled_empty (s.slot_of x)) s)

    go : key_of s x ≢ k → (t.slot_of k.slot).generation ≡ k.generation → T.in_turn ≤ (t.slot_of k.slot).burst
    go d h = elim (same? x k.slot) [
      | equal p e i ↦ absurd (d (λ n. record { slot = p n; generation = (ap (λ (z : ℕ). (s.slot_of z).generation) p ∙ sym (put_generations s x (settled_empty (s.slot_of x)) refl k.slot) ∙ h) n }))
      | other n e i ↦ rw e (c.by_burst (sym (put_generations s x (settled_empty (s.slot_of x)) refl k.slot) ∙ h))
    ]

-- a budget of 0 meets no item since the last collection
unfoldable pub Unspent : Tally → State → Type 0
Unspent T s = s.budget ≡ 0 → T.since_collected ≡ 0

-- before a turn of the front lane of q
pub record Ready (k : LaneKey) (q : List ℕ) (T : Tally) (s : State) : Type 0 where
  pub counted : Counted k T s
  pub unspent : non_empty q ≡ true → Unspent T s

pub record Full (k : LaneKey) (T : Tally) (s : State) : Type 0 where
  pub counted : Counted k T s
  pub positive : 1 ≤ s.budget

refill_pass : (k : LaneKey) (T : Tally) (s : State) (n : ℕ) → s.budget ≡ n → Counted k T s → Unspent T s → Pass k (Full k) T (refill_events n) (with_budget (refill n) s)
unfolding refill refill_events tally Unspent
refill_pass k T s zero e c z = let d = set_counted (z e) c in record { below = goes_below (small c) (ends_below (small d)); at_end = record { counted = d; positive = omega arith } }
refill_pass k T s (suc n) e c z =
    let d : Counted k T (with_budget (suc n) s) = counted_alike record { budgets = sym e; issues = refl; generations = λ y. refl; bursts = λ y. refl } c in
    record { below = ends_below (small d); at_end = record { counted = d; positive = omega arith } }

before_next_turn_pass : (k : LaneKey) (q : List ℕ) (T : Tally) (s : State) → Counted k T s → Unspent T s → Pass k (Ready k q) T (before_next_turn_events q s) (before_next_turn q s)
unfolding before_next_turn_events before_next_turn tally Unspent
before_next_turn_pass k [] T s c z = record { below = ends_below (small c); at_end = record { counted = c; unspent = λ h. z } }
before_next_turn_pass k (y ∷ q) T s c z =
    let p = refill_pass k T s s.budget refl c z in
    record { below = p.below; at_end = record { counted = p.at_end.counted; unspent = λ h e. absurd (omega (arith, p.at_end.positive, e)) } }

-- what holds of the queue as it is
abbrev ReadyNow : LaneKey → Tally → State → Type 0
ReadyNow k T s = Ready k s.queue T s

ready_now : {k : LaneKey} {q : List ℕ} {T : Tally} {s : State} → s.queue ≡ q → Ready k q T s → ReadyNow k T s
ready_now {k} {q} {T} {s} e r = subst (λ (p : List ℕ). Ready k p T s) (sym e) r

run_down_pass : (k : LaneKey) (q : List ℕ) (T : Tally) (s : State) → s.queue ≡ q → Ready k q T s → Pass k (ReadyNow k) T (run_down_from_events q s) (run_down_from q s)
unfolding run_down_from_events run_down_from tally Unspent next
run_down_pass k [] T s e r = record { below = ends_below (small r.counted); at_end = ready_now e r }
run_down_pass k (y ∷ q) T s e r =
    go (s.slot_of y).ring
    (λ U a. run_down_pass k q U (before_next_turn q (settle_empty y q s)) (before_next_turn_queue q q (settle_empty y q s) (settle_empty_queue y q s)) a)
  where
    u : State
    u = settle_empty y q s

    es : List Event
    es = before_next_turn_events q u ++ run_down_from_events q (before_next_turn q u)

    go : (l : List ℕ) → ((U : Tally) → Ready k q U (before_next_turn q u) → Pass k (ReadyNow k) U (run_down_from_events q (before_next_turn q u)) (run_down_from q (before_next_turn q u)))
        → Pass k (ReadyNow k) T (if (non_empty l) [] (found_empty (key_of s y) ∷ es)) (if (non_empty l) s (run_down_from q (before_next_turn q u)))
    go (v ∷ l) ih = record { below = ends_below (small r.counted); at_end = ready_now e r }
    go [] ih =
        let c = found_empty_counted k T s y q r.counted in
        let p = bind (before_next_turn_pass k q (next k T (found_empty (key_of s y))) u c (still_unspent (r.unspent refl))) ih in
        record { below = goes_below (small r.counted) p.below; at_end = p.at_end }
      where
        still_unspent : Unspent T s → Unspent (next k T (found_empty (key_of s y))) u
        still_unspent z h = z (sym (settle_empty_budget y q s) ∙ h)

-- lane y gives an item, when the budget is not 0 any more
item_pass : (k : LaneKey) (T : Tally) (s : State) (y : ℕ) (q vs : List ℕ) (back : Bool) → (back ≡ false → (s.slot_of y).burst < 63) → y < s.issued → Full k T (with_budget (refill s.budget) s)
    → Pass k (Counted k) T (item_taken (key_of s y) ∷ back_events back (key_of s y)) (give_item s y q vs back)
unfolding give_item back_events tally next
item_pass k T s y q vs back room low r = elim (keys? (key_of s y) k) [ alike p e ↦ own back room p e | unlike d e ↦ not_own back d e ]
  where
    moved : Bool → Slot
    moved b = popped vs (unreleased_after_one s y) (if b 0 ((s.slot_of y).burst + 1)) (s.slot_of y)

    budget_left : T.since_set + 1 + (refill s.budget - 1) ≡ 64
    budget_left = omega (arith, r.positive, r.counted.by_budget)

    turn : ℕ
    turn = if (same_key (key_of s y) k) (T.in_turn + 1) T.in_turn

    back_turn : ℕ
    back_turn = if (same_key (key_of s y) k) 0 turn

    after_item : (n : ℕ) → n ≤ 64 → Small record { since_set = T.since_set + 1; since_collected = T.since_collected + 1; in_turn = n }
    after_item n h = record { set_small = omega (arith, budget_left); collected_small = omega (arith, budget_left, r.counted.fewer); turn_small = h }

    -- the key is the lane's own
    own : (b : Bool) → (b ≡ false → (s.slot_of y).burst < 63) → key_of s y ≡ k → same_key (key_of s y) k ≡ true
        → Pass k (Counted k) T (item_taken (key_of s y) ∷ back_events b (key_of s y)) (give_item s y q vs b)
    own true room p e = record {
      below = goes_below (small r.counted) (goes_below (after_item turn (rw e (omega (arith, r.counted.turn_most)))) (ends_below (after_item back_turn (rw e (omega arith)))));
      at_end = record { by_budget = budget_left; fewer = omega (arith, r.counted.fewer); turn_most = rw e (omega arith); by_burst = λ h. rw e (omega arith); known = λ h. absurd (omega (arith, rw e at h)) };
    }
    own false room p e =
        let at_slot : y ≡ k.slot = ap (λ (j : LaneKey). j.slot) p in
        let at_generation : (s.slot_of y).generation ≡ k.generation = ap (λ (j : LaneKey). j.generation) p in
        let n : T.in_turn ≤ (s.slot_of k.slot).burst = r.counted.by_burst (ap (λ (z : ℕ). (s.slot_of z).generation) (sym at_slot) ∙ at_generation) in
        let same_burst : (s.slot_of y).burst ≡ (s.slot_of k.slot).burst = ap (λ (z : ℕ). (s.slot_of z).burst) at_slot in
        record {
          below = goes_below (small r.counted) (ends_below (after_item turn (rw e (omega (arith, r.counted.turn_most)))));
          at_end = record {
            by_budget = budget_left;
            fewer = omega (arith, r.counted.fewer);
            turn_most = rw e (omega (arith, room refl));
            by_burst = λ h. rw (e, eq-eqb y k.slot at_slot) (omega arith);
            known = λ h. (omega (arith, low), rw (eq-eqb y k.slot at_slot) (omega arith));
          };
        }

    -- it is another lane's
    kept : (b : Bool) → key_of s y ≢ k → same_key (key_of s y) k ≡ false → Counted k record { since_set = T.since_set + 1; since_collected = T.since_collected + 1; in_turn = T.in_turn } (give_item s y q vs b)
    kept b d e = record {
      by_budget = budget_left;
      fewer = omega (arith, r.counted.fewer);
      turn_most = r.counted.turn_most;
      by_burst = λ h. elim (same? y k.slot) [
        | equal p g i ↦ absurd (d (λ n. record { slot = p n; generation = (ap (λ (z : ℕ). (s.slot_of z).generation) p ∙ sym (put_generations s y (moved b) refl k.slot) ∙ h) n }))
        | other n g i ↦ rw g (r.counted.by_burst (sym (put_generations s y (moved b) refl k.slot) ∙ h))
      ];
      known = λ h. ((r.counted.known h).0, omega (arith, (r.counted.known h).1, put_generations s y (moved b) refl k.slot));
    }

    same_turn : (m : ℕ) → same_key (key_of s y) k ≡ false → if (same_key (key_of s y) k) m T.in_turn ≡ T.in_turn
    same_turn m e = rw e

    not_own : (b : Bool) → key_of s y ≢ k → same_key (key_of s y) k ≡ false → Pass k (Counted k) T (item_taken (key_of s y) ∷ back_events b (key_of s y)) (give_item s y q vs b)
    not_own false d e = record {
      below = goes_below (small r.counted) (ends_below (after_item turn (rw e (omega (arith, r.counted.turn_most)))));
      at_end = subst (λ (n : ℕ). Counted k record { since_set = T.since_set + 1; since_collected = T.since_collected + 1; in_turn = n } (give_item s y q vs false)) (sym (same_turn _ e)) (kept false d e);
    }
    not_own true d e = record {
      below = goes_below (small r.counted) (goes_below (after_item turn (rw e (omega (arith, r.counted.turn_most)))) (ends_below (after_item back_turn (rw e (omega (arith, r.counted.turn_most))))));
      at_end = subst (λ (n : ℕ). Counted k record { since_set = T.since_set + 1; since_collected = T.since_collected + 1; in_turn = n } (give_item s y q vs true)) (sym (twice e)) (kept true d e);
    }
      where
        twice : same_key (key_of s y) k ≡ false → if (same_key (key_of s y) k) 0 (if (same_key (key_of s y) k) (T.in_turn + 1) T.in_turn) ≡ T.in_turn
        twice e = rw e

give_front_pass : (k : LaneKey) (f : Bool) (T : Tally) (s : State) → Ordered s → ReadyNow k T s → Pass k (Counted k) T (give_front_events f s s.queue) (give_front f s s.queue).1
unfolding give_front give_front_events give_oldest give_oldest_events
give_front_pass k f T s o r = go s.queue refl
  where
    take : (y : ℕ) (q l : List ℕ) → s.queue ≡ y ∷ q → Pass k (Counted k) T (give_oldest_events s f y l) (give_oldest s f y q l).1
    take y q [] e = no_event r.counted
    take y q (v ∷ vs) e =
        bind (refill_pass k T s s.budget refl r.counted (r.unspent (ap non_empty e)))
        (λ U d. item_pass k U s y q vs (either f (leb 63 (s.slot_of y).burst)) (back_room f (s.slot_of y).burst) ((o.each_slot y).registered_issued (front_registered s y q e o)) d)

    go : (q : List ℕ) → s.queue ≡ q → Pass k (Counted k) T (give_front_events f s q) (give_front f s q).1
    go [] e = no_event r.counted
    go (y ∷ q) e = take y q (s.slot_of y).ring e

collect_if_due_pass : (k : LaneKey) (n : ℕ) (q : List ℕ) (T : Tally) (s : State) → s.budget ≡ n → s.queue ≡ q → Counted k T s → Pass k (ReadyNow k) T (collect_if_due_events n q s) (collect_if_due n q s)
unfolding collect_if_due collect_if_due_events tally Unspent
collect_if_due_pass k zero (y ∷ q) T s e p c =
    let d = counted_alike (collect_ready_group_alike s) (collect_counted s c) in
    let g = set_counted (none_since k T s) d in
    record { below = goes_below (small c) (goes_below (small d) (ends_below (small g))); at_end = record { counted = g; unspent = λ h z. absurd (omega (arith, z)) } }
collect_if_due_pass k zero [] T s e p c = record { below = ends_below (small c); at_end = record { counted = c; unspent = λ h z. absurd (no h (ap non_empty p)) } }
collect_if_due_pass k (suc n) q T s e p c = record { below = ends_below (small c); at_end = record { counted = c; unspent = λ h z. absurd (omega (arith, z, e)) } }

-- a collection of all groups, and then the queue runs down
collect_all_pass : (k : LaneKey) (T : Tally) (s : State) → Counted k T s → Pass k (ReadyNow k) T (collect_event s ∷ run_down_events (collect_ready s)) (run_down (collect_ready s))
unfolding run_down_events run_down tally Unspent
collect_all_pass k T s c =
    let d = counted_alike (collect_ready_alike s) (collect_counted s c) in
    let p = run_down_pass k _ (next k T (collect_event s)) (collect_ready s) refl record { counted = d; unspent = λ h z. none_since k T s } in
    record { below = goes_below (small c) p.below; at_end = p.at_end }

collect_if_none_pass : (k : LaneKey) (q : List ℕ) (T : Tally) (s : State) → s.queue ≡ q → Ready k q T s → Pass k (ReadyNow k) T (collect_if_none_queued_events q s) (collect_if_none_queued q s)
unfolding collect_if_none_queued collect_if_none_queued_events tally
collect_if_none_pass k [] T s e r = collect_all_pass k T s r.counted
collect_if_none_pass k (y ∷ q) T s e r = record { below = ends_below (small r.counted); at_end = ready_now e r }

polled_pass : (k : LaneKey) (T : Tally) (s : State) → Counted k T s → Pass k (ReadyNow k) T (polled_events s) (polled s)
unfolding polled polled_events run_down_events run_down
polled_pass k T s c =
    bind (collect_if_due_pass k s.budget s.queue T s refl refl c)
    (λ U r. bind (run_down_pass k _ U (collect_if_due s.budget s.queue s) refl r) (λ W d. collect_if_none_pass k _ W _ refl d))

pub take_one_pass : (k : LaneKey) (T : Tally) (s : State) → Ordered s → Counted k T s → Pass k (Counted k) T (take_one_events s) (take_one s).1
unfolding take_one take_one_events
take_one_pass k T s o c = bind (polled_pass k T s c) (λ U r. give_front_pass k false U (polled s) (polled_ordered s o) r)

pub take_fair_pass : (k : LaneKey) (T : Tally) (s : State) → Ordered s → Counted k T s → Pass k (Counted k) T (take_fair_events s) (take_fair s).1
unfolding take_fair take_fair_events run_down_events run_down tally Unspent
take_fair_pass k T s o c =
    let full = with_budget 64 (collect_ready s) in
    let d = counted_alike (collect_ready_alike s) (collect_counted s c) in
    let g : Counted k (next k (next k T (collect_event s)) budget_set) full = set_counted (none_since k T s) d in
    let p = bind (run_down_pass k full.queue (next k (next k T (collect_event s)) budget_set) full refl record { counted = g; unspent = λ h z. absurd (omega (arith, z)) })
    (λ U r. give_front_pass k true U (run_down full) (run_down_ordered full (budget_ordered 64 (collect_ready s) (omega arith) (collect_ready_ordered s o))) r) in
    record { below = goes_below (small c) (goes_below (small d) p.below); at_end = p.at_end }

-- a stop in front of an item: the poll, and a budget of 0 set to 64
halt_pass : (k : LaneKey) (T : Tally) (s : State) (y : ℕ) (q : List ℕ) → (polled s).queue ≡ y ∷ q → Counted k T s → Pass k (Counted k) T (polled_events s ++ refill_events (polled s).budget) (halted (polled s))
unfolding halted
halt_pass k T s y q e c = bind (polled_pass k T s c) (λ U r. (let p = refill_pass k U (polled s) (polled s).budget refl r.counted (r.unspent (ap non_empty e)) in record { below = p.below; at_end = p.at_end.counted }))

pub take_up_to_pass : (k : LaneKey) (m : ℕ) (T : Tally) (s : State) → Ordered s → Counted k T s → Pass k (Counted k) T (take_up_to_events m s) (take_up_to m s).1
unfolding take_up_to take_up_to_events and_more and_more_events
take_up_to_pass k zero T s o c = no_event c
take_up_to_pass k (suc m) T s o c = bind (take_one_pass k T s o c) (λ U d. go (take_one s).0 d (take_up_to_pass k m U (take_one s).1 (take_one_ordered s o) d))
  where
    t : State
    t = (take_one s).1

    go : {U : Tally} (l : List (LaneKey × ℕ)) → Counted k U t → Pass k (Counted k) U (take_up_to_events m t) (take_up_to m t).1 → Pass k (Counted k) U (and_more_events l (take_up_to_events m t)) (and_more l t (take_up_to m t)).1
    go [] d p = no_event d
    go (g ∷ l) d p = p

-- n items, and then the stop
pub halted_pass : (k : LaneKey) (n : ℕ) (T : Tally) (s : State) (y : ℕ) (q : List ℕ) → (polled (take_up_to n s).1).queue ≡ y ∷ q → Ordered s → Counted k T s → Pass k (Counted k) T (halted_events n s) (halted (polled (take_up_to n s).1))
unfolding halted_events
halted_pass k n T s y q e o c = bind (take_up_to_pass k n T s o c) (λ U d. halt_pass k U (take_up_to n s).1 y q e d)
