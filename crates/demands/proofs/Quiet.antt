-- What the receiver does by itself, between calls and items, moves no item: lanes stay as they are, or retire empty.
-- Assumes nothing.
use mathlib.Core.Path.{◌≡◌, refl, ap, sym, ◌∙◌}
use mathlib.Core.Bool.{Bool, true, false, not}
use mathlib.Core.List.{List, [], ◌∷◌}
use Prim.Native.Nat.{ℕ, zero, suc, ◌≤◌}
use native.Mathlib.Omega.{arith}
use lib.ListN.{length}
use lib.Dec.{eqb, leb}
use Rattle.model.specs.declared.Answer.TheVariants.{Empty}
use Rattle.model.specs.Lists.{if, Each, from, non_empty}
use Rattle.model.specs.State.{Slot, State, living_senders}
use Rattle.model.specs.Changes.{with_queue, with_free, with_budget, put, settled_empty, retired, unmarked}
use Rattle.model.specs.Ready.{group_of, marks, collect_marks, collect_group, groups_round, collect_first, collect_each, collect_ready_group, collect_ready}
use Rattle.model.specs.Turn.{retire_lane, retire_lane_if, settle_empty, refill, before_next_turn, run_down_from, collect_if_due, run_down, collect_if_none_queued, polled}
use Rattle.model.specs.Receive.{retire_empty_paused_lanes, empty_or_drained, nothing_taken, release_all}
use Rattle.model.specs.Order.{Ordered}
use Rattle.model.specs.Registration.{OnTop}
use Rattle.demands.proofs.Counting.{equal, other, same?, self, no, both_3}
use Rattle.demands.proofs.OnTop.{none_freed, freed_then}
use Rattle.demands.proofs.OrderKept.{collect_ready_ordered, run_down_ordered, retire_empty_paused_ordered, polled_ordered, budget_ordered}

pub record Still (l m : Slot) : Type 0 where
  pub registers : m.registered ≡ l.registered
  pub generations : m.generation ≡ l.generation
  pub livings : m.living ≡ l.living
  pub pauses : m.paused ≡ l.paused
  pub rings : m.ring ≡ l.ring
  pub signals : 1 ≤ length l.ring → l.pending ≡ true → m.pending ≡ true

pub data Quiet (l m : Slot) : Type 0 where
  stays : Still l m → Quiet l m
  goes : l.ring ≡ [] → m.registered ≡ false → m.generation ≡ l.generation → Quiet l m

pub record Quietly (s u : State) : Type 0 where
  pub each : (y : ℕ) → Quiet (s.slot_of y) (u.slot_of y)
  pub issues : u.issued ≡ s.issued
  pub opens : u.is_open ≡ s.is_open
  pub capacities : u.capacity ≡ s.capacity
  pub channels : u.channel ≡ s.channel
  pub frees : OnTop s u
  pub held_same : (y : ℕ) → (u.slot_of y).ring ≡ (s.slot_of y).ring
  pub credit : (y : ℕ) → (u.slot_of y).unreleased ≤ (s.slot_of y).unreleased

still : (l : Slot) → Still l l
still l = record { registers = refl; generations = refl; livings = refl; pauses = refl; rings = refl; signals = λ h e. e }

quiet_trans : {l m n : Slot} → Quiet l m → Quiet m n → Quiet l n
quiet_trans {l} {m} {n} (stays a) (stays b) = stays record {
  registers = b.registers ∙ a.registers;
  generations = b.generations ∙ a.generations;
  livings = b.livings ∙ a.livings;
  pauses = b.pauses ∙ a.pauses;
  rings = b.rings ∙ a.rings;
  signals = λ h e. b.signals (omega (arith, ap length a.rings)) (a.signals h e);
}
quiet_trans (stays a) (goes e r g) = goes (sym a.rings ∙ e) r (g ∙ a.generations)
quiet_trans (goes e r g) (stays b) = goes e (b.registers ∙ r) (b.generations ∙ g)
quiet_trans (goes e r g) (goes f t h) = goes e t (h ∙ g)

pub quiet_unregistered : {l m : Slot} → Quiet l m → l.registered ≡ false → m.registered ≡ false
quiet_unregistered (stays a) e = a.registers ∙ e
quiet_unregistered (goes e r g) f = r

pub trans : {s t u : State} → Quietly s t → Quietly t u → Quietly s u
trans a b = record {
  each = λ y. quiet_trans (a.each y) (b.each y);
  issues = b.issues ∙ a.issues;
  opens = b.opens ∙ a.opens;
  capacities = b.capacities ∙ a.capacities;
  channels = b.channels ∙ a.channels;
  frees = freed_then a.frees b.frees (λ y. quiet_unregistered (b.each y));
  held_same = λ y. b.held_same y ∙ a.held_same y;
  credit = λ y. omega (arith, a.credit y, b.credit y);
}

pub calm : (s : State) → Quietly s s
calm s = record { each = λ y. stays (still (s.slot_of y)); issues = refl; opens = refl; capacities = refl; channels = refl; frees = none_freed s _ refl; held_same = λ y. refl; credit = λ y. omega arith }

pub budget_quiet : (b : ℕ) (s : State) → Quietly s (with_budget b s)
budget_quiet b s = record { each = λ y. stays (still (s.slot_of y)); issues = refl; opens = refl; capacities = refl; channels = refl; frees = none_freed s _ refl; held_same = λ y. refl; credit = λ y. omega arith }

-- one slot
put_quiet : (s : State) (x : ℕ) (l : Slot) → Quiet (s.slot_of x) l → (y : ℕ) → Quiet (s.slot_of y) ((put x l s).slot_of y)
put_quiet s x l h y = elim (same? x y) [
  | equal p e i ↦ rw (e, ← p) h
  | other d e i ↦ rw e (stays (still (s.slot_of y)))
]

put_held : (s : State) (x : ℕ) (l : Slot) → l.ring ≡ (s.slot_of x).ring → (y : ℕ) → ((put x l s).slot_of y).ring ≡ (s.slot_of y).ring
put_held s x l h y = elim (same? x y) [ equal p e i ↦ rw (e, ← p) h | other d e i ↦ rw e ]

put_credit : (s : State) (x : ℕ) (l : Slot) → l.unreleased ≤ (s.slot_of x).unreleased → (y : ℕ) → ((put x l s).slot_of y).unreleased ≤ (s.slot_of y).unreleased
put_credit s x l h y = elim (same? x y) [ equal p e i ↦ rw (e, ← p) h | other d e i ↦ rw e (omega arith) ]

pub retire_lane_frees : (x : ℕ) (s : State) → OnTop s (retire_lane x s)
unfolding retire_lane Each
retire_lane_frees x s = go (eqb (s.slot_of x).generation 18446744073709551615)
  where
    go : (b : Bool) → OnTop s (with_free (if b s.free (x ∷ s.free)) (put x (retired (s.slot_of x)) s))
    go true = none_freed s _ refl
    go false = record { freed = x ∷ []; list = refl; retired = (rw (self x), tt) }

pub retire_lane_quiet : (x : ℕ) (s : State) → (s.slot_of x).ring ≡ [] → Quietly s (retire_lane x s)
unfolding retire_lane
retire_lane_quiet x s e = record {
  each = put_quiet s x (retired (s.slot_of x)) (goes e refl refl);
  issues = refl;
  opens = refl;
  capacities = refl;
  channels = refl;
  frees = retire_lane_frees x s;
  held_same = put_held s x (retired (s.slot_of x)) refl;
  credit = put_credit s x (retired (s.slot_of x)) (omega arith);
}

pub retire_lane_if_quiet : (b : Bool) (x : ℕ) (s : State) → (b ≡ true → (s.slot_of x).ring ≡ []) → Quietly s (retire_lane_if b x s)
unfolding retire_lane_if
retire_lane_if_quiet true x s e = retire_lane_quiet x s (e refl)
retire_lane_if_quiet false x s e = calm s

pub settle_empty_quiet : (x : ℕ) (q : List ℕ) (s : State) → (s.slot_of x).ring ≡ [] → Quietly s (settle_empty x q s)
unfolding settle_empty
settle_empty_quiet x q s e =
    let t = with_queue q (put x (settled_empty (s.slot_of x)) s) in
    let one : Quietly s t = record {
      each = put_quiet s x (settled_empty (s.slot_of x))
          (stays record { registers = refl; generations = refl; livings = refl; pauses = refl; rings = refl; signals = λ h p. absurd (omega (arith, ap length e)) });
      issues = refl;
      opens = refl;
      capacities = refl;
      channels = refl;
      frees = none_freed s t refl;
      held_same = put_held s x (settled_empty (s.slot_of x)) refl;
      credit = put_credit s x (settled_empty (s.slot_of x)) (omega arith);
    } in
    trans one (retire_lane_if_quiet (not (s.slot_of x).living) x t (λ z. rw (self x) e))

pub before_next_turn_quiet : (q : List ℕ) (s : State) → Quietly s (before_next_turn q s)
unfolding before_next_turn
before_next_turn_quiet [] s = calm s
before_next_turn_quiet (y ∷ q) s = budget_quiet (refill s.budget) s

pub run_down_from_quiet : (q : List ℕ) (s : State) → Quietly s (run_down_from q s)
unfolding run_down_from
run_down_from_quiet [] s = calm s
run_down_from_quiet (y ∷ q) s = go (s.slot_of y).ring refl (run_down_from_quiet q (before_next_turn q (settle_empty y q s)))
  where
    go : (l : List ℕ) → (s.slot_of y).ring ≡ l → Quietly (before_next_turn q (settle_empty y q s)) (run_down_from q (before_next_turn q (settle_empty y q s))) → Quietly s (if (non_empty l) s (run_down_from q (before_next_turn q (settle_empty y q s))))
    go [] e r = trans (trans (settle_empty_quiet y q s e) (before_next_turn_quiet q (settle_empty y q s))) r
    go (v ∷ vs) e r = calm s

pub collect_group_quiet : (s : State) (g : ℕ) → Quietly s (collect_group s g)
unfolding collect_group collect_marks
collect_group_quiet s g = go (marks s g)
  where
    unmark : (b : Bool) (l : Slot) → Quiet l (if b (unmarked l) l)
    unmark true l = stays record { registers = refl; generations = refl; livings = refl; pauses = refl; rings = refl; signals = λ h e. e }
    unmark false l = stays (still l)

    ring_un : (b : Bool) (l : Slot) → (if b (unmarked l) l).ring ≡ l.ring
    ring_un true l = refl
    ring_un false l = refl

    credit_un : (b : Bool) (l : Slot) → (if b (unmarked l) l).unreleased ≤ l.unreleased
    credit_un true l = omega arith
    credit_un false l = omega arith

    go : (m : List ℕ) → Quietly s (collect_marks m s g)
    go [] = calm s
    go (x ∷ m) = record { each = λ y. unmark (eqb (group_of y) g) (s.slot_of y); issues = refl; opens = refl; capacities = refl; channels = refl; frees = none_freed s _ refl; held_same = λ y. ring_un (eqb (group_of y) g) (s.slot_of y); credit = λ y. credit_un (eqb (group_of y) g) (s.slot_of y) }

pub collect_each_quiet : (gs : List ℕ) (s : State) → Quietly s (collect_each gs s)
unfolding collect_each
collect_each_quiet [] s = calm s
collect_each_quiet (g ∷ gs) s = trans (collect_group_quiet s g) (collect_each_quiet gs (collect_group s g))

pub collect_ready_quiet : (s : State) → Quietly s (collect_ready s)
unfolding collect_ready
collect_ready_quiet s = collect_each_quiet (groups_round s) s

collect_first_quiet : (gs : List ℕ) (s : State) → Quietly s (collect_first gs s)
unfolding collect_first
collect_first_quiet [] s = calm s
collect_first_quiet (g ∷ gs) s = go (non_empty (marks s g)) (collect_first_quiet gs s)
  where
    go : (b : Bool) → Quietly s (collect_first gs s) → Quietly s (if b (collect_group s g) (collect_first gs s))
    go true r = collect_group_quiet s g
    go false r = r

pub collect_ready_group_quiet : (s : State) → Quietly s (collect_ready_group s)
unfolding collect_ready_group
collect_ready_group_quiet s = collect_first_quiet (groups_round s) s

pub collect_if_due_quiet : (n : ℕ) (q : List ℕ) (s : State) → Quietly s (collect_if_due n q s)
unfolding collect_if_due collect_ready_group
collect_if_due_quiet zero (y ∷ q) s = trans (collect_first_quiet (groups_round s) s) (budget_quiet 64 _)
collect_if_due_quiet zero [] s = calm s
collect_if_due_quiet (suc n) q s = calm s

pub run_down_quiet : (s : State) → Quietly s (run_down s)
unfolding run_down
run_down_quiet s = run_down_from_quiet s.queue s

pub collect_if_none_quiet : (q : List ℕ) (s : State) → Quietly s (collect_if_none_queued q s)
unfolding collect_if_none_queued
collect_if_none_quiet [] s = trans (collect_ready_quiet s) (run_down_quiet (collect_ready s))
collect_if_none_quiet (y ∷ q) s = calm s

pub polled_quiet : (s : State) → Quietly s (polled s)
unfolding polled
polled_quiet s = trans (trans (collect_if_due_quiet s.budget s.queue s) (run_down_quiet _)) (collect_if_none_quiet _ _)

-- what a receive does before it looks at the front: a fair one, or another
unfoldable pub poll : Bool → State → State
poll true s = run_down (with_budget 64 (collect_ready s))
poll false s = polled s

pub poll_quiet : (f : Bool) (s : State) → Quietly s (poll f s)
unfolding poll
poll_quiet true s = trans (trans (collect_ready_quiet s) (budget_quiet 64 (collect_ready s))) (run_down_quiet _)
poll_quiet false s = polled_quiet s

pub poll_ordered : (f : Bool) (s : State) → Ordered s → Ordered (poll f s)
unfolding poll
poll_ordered true s o = run_down_ordered _ (budget_ordered 64 (collect_ready s) (omega arith) (collect_ready_ordered s o))
poll_ordered false s o = polled_ordered s o

empty_of : (l : List ℕ) → not (non_empty l) ≡ true → l ≡ []
empty_of [] e = refl
empty_of (v ∷ l) e = absurd (no e refl)

pub retire_empty_paused_quiet : (xs : List ℕ) (s : State) → Quietly s (retire_empty_paused_lanes xs s)
unfolding retire_empty_paused_lanes
retire_empty_paused_quiet [] s = calm s
retire_empty_paused_quiet (x ∷ xs) s =
    trans (retire_lane_if_quiet _ x s (λ e. empty_of (s.slot_of x).ring (both_3 (s.slot_of x).registered (s.slot_of x).paused (not (non_empty (s.slot_of x).ring)) e).2)) (retire_empty_paused_quiet xs _)

pub release_all_quiet : (s : State) → Quietly s (release_all s)
unfolding release_all
release_all_quiet s = record { each = λ y. stays record { registers = refl; generations = refl; livings = refl; pauses = refl; rings = refl; signals = λ h e. e }; issues = refl; opens = refl; capacities = refl; channels = refl; frees = none_freed s _ refl; held_same = λ y. refl; credit = λ y. less (s.slot_of y).registered (s.slot_of y).unreleased }
  where
    less : (b : Bool) (n : ℕ) → if b 0 n ≤ n
    less true n = omega arith
    less false n = omega arith

pub nothing_taken_quiet : (s : State) → Quietly s (nothing_taken s).1.1
unfolding nothing_taken empty_or_drained
nothing_taken_quiet s = go (leb 1 (living_senders s))
  where
    go : (b : Bool) → Quietly s (if b ([], (Empty, s)) (empty_or_drained (retire_empty_paused_lanes (from 0 s.issued) s))).1.1
    go true = calm s
    go false = retire_empty_paused_quiet (from 0 s.issued) s

pub nothing_taken_ordered : (s : State) → Ordered s → Ordered (nothing_taken s).1.1
unfolding nothing_taken empty_or_drained
nothing_taken_ordered s o = go (leb 1 (living_senders s))
  where
    go : (b : Bool) → Ordered (if b ([], (Empty, s)) (empty_or_drained (retire_empty_paused_lanes (from 0 s.issued) s))).1.1
    go true = o
    go false = retire_empty_paused_ordered (from 0 s.issued) s o

-- a lane that holds an item, pending and unpaused
pub record Hold (x g : ℕ) (s : State) : Type 0 where
  pub is_registered : (s.slot_of x).registered ≡ true
  pub is_generation : (s.slot_of x).generation ≡ g
  pub is_unpaused : (s.slot_of x).paused ≡ false
  pub is_pending : (s.slot_of x).pending ≡ true
  pub some_item : 1 ≤ length (s.slot_of x).ring

pub hold_quiet : {x g : ℕ} {s u : State} → Quietly s u → Hold x g s → Hold x g u
hold_quiet {x} {g} {s} {u} q h = go (q.each x)
  where
    go : Quiet (s.slot_of x) (u.slot_of x) → Hold x g u
    go (stays a) = record {
      is_registered = a.registers ∙ h.is_registered;
      is_generation = a.generations ∙ h.is_generation;
      is_unpaused = a.pauses ∙ h.is_unpaused;
      is_pending = a.signals h.some_item h.is_pending;
      some_item = omega (arith, h.some_item, ap length a.rings);
    }
    go (goes e r g) = absurd (omega (arith, h.some_item, ap length e))
