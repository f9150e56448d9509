-- Each part of a receive keeps the state in order, slot by slot.
-- Assumes nothing.
use mathlib.Core.Path.{◌≡◌, refl, ap, sym, ◌∙◌}
use mathlib.Core.Logic.{◌≢◌}
use mathlib.Core.Bool.{Bool, true, false, not}
use mathlib.Core.List.{List, [], ◌∷◌, ◌++◌}
use Prim.Native.Nat.{ℕ, zero, suc, ◌+◌, ◌-◌, ◌≤◌, ◌<◌}
use native.Mathlib.Omega.{arith}
use lib.Dec.{eqb, leb, ltb}
use borrow.Author.Tests.{eqb-false, leb-false, ltb-true}
use Rattle.model.specs.declared.LaneKey.{LaneKey}
-- not used here: so the computed examples are checked before any proof about the rules, and a changed rule is refused there first
use Rattle.model.specs.Lists.{if, both, either, count, keep, from, non_empty}
use Rattle.model.specs.State.{Slot, State, queued, may_queue}
use Rattle.model.specs.Changes.{with_queue, with_budget, put, signalled, popped, settled_empty, retired, unmarked}
use Rattle.model.specs.Ready.{group_of, groups_in, marks, is_ready, collect_marks, collect_group, start_group, groups_round, collect_first, collect_each, collect_ready_group, collect_ready}
use Rattle.model.specs.Turn.{retire_lane, retire_lane_if, settle_empty, refill, before_next_turn, run_down_from, unreleased_after_one, give_item, give_oldest, give_front, collect_if_due, run_down, collect_if_none_queued, polled, take_one, take_fair}
use Rattle.model.specs.Receive.{retire_empty_paused_lanes, and_more, take_up_to, release_all}
use Rattle.model.specs.Order.{SlotOrdered, SlotsOrdered, Ordered}
use Rattle.demands.proofs.Counting.{Same, equal, other, same?, same_self, self, no, both_true, not_true, count_append, keep_in, keep_out, from_once, from_in, unqueued_zero, both_3}

-- a registered lane is not free
pub not_free : {y i n m : ℕ} {l : Slot} → SlotOrdered y i n m l → l.registered ≡ true → m ≡ 0
not_free {m = zero} o r = refl
not_free {m = suc m} o r = absurd (no r (o.free_unregistered (omega arith)))

-- one slot changes
pub one_slot : (s : State) (x : ℕ) (l : Slot) (q f : List ℕ) → SlotsOrdered s.issued s.queue s.free s.slot_of
    → ((y : ℕ) → x ≢ y → count y q ≡ count y s.queue) → ((y : ℕ) → x ≢ y → count y f ≡ count y s.free) → SlotOrdered x s.issued (count x q) (count x f) l
    → SlotsOrdered s.issued q f (put x l s).slot_of
one_slot s x l q f o c d h y = elim (same? x y) [
  | equal p e i ↦ rw (e, ← p) h
  | other n e i ↦ rw (e, c y n, d y n) (o y)
]

-- the queue is as it was, but for a last or a first lane
pub last_other : (x y : ℕ) (q : List ℕ) → x ≢ y → count y (q ++ (x ∷ [])) ≡ count y q
unfolding count
last_other x y q d = elim (same? y x) [ equal p e i ↦ absurd (d (sym p)) | other n e i ↦ omega (arith, count_append y q (x ∷ [])) ]

pub last_own : (x : ℕ) (q : List ℕ) → count x (q ++ (x ∷ [])) ≡ suc (count x q)
unfolding count
last_own x q = omega (arith, count_append x q (x ∷ []), same_self x)

pub first_other : (x y : ℕ) (q : List ℕ) → x ≢ y → count y (x ∷ q) ≡ count y q
unfolding count
first_other x y q d = elim (same? y x) [ equal p e i ↦ absurd (d (sym p)) | other n e i ↦ omega arith ]

pub first_own : (x : ℕ) (q : List ℕ) → count x (x ∷ q) ≡ suc (count x q)
unfolding count
first_own x q = omega (arith, same_self x)

-- a list names no fewer with one more in front
pub count_rest : (x y : ℕ) (l : List ℕ) → count x l ≤ count x (y ∷ l)
unfolding count
count_rest x y l = omega arith

-- lane x retires, and the queue, which may have named it, is then q
pub retire_unqueue_ordered : (x : ℕ) (q : List ℕ) (s : State) → Ordered s → (s.slot_of x).registered ≡ true → ((y : ℕ) → x ≢ y → count y q ≡ count y s.queue) → count x q ≡ 0
    → Ordered (retire_lane x (with_queue q s))
unfolding retire_lane
retire_unqueue_ordered x q s o r c z = record {
  each_slot = one_slot s x (retired (s.slot_of x)) q _ o.each_slot c (go (eqb (s.slot_of x).generation 18446744073709551615)) (own (eqb (s.slot_of x).generation 18446744073709551615) refl);
  budget_most = o.budget_most;
  cursor_most = o.cursor_most;
  sizes = o.sizes;
}
  where
    go : (b : Bool) (y : ℕ) → x ≢ y → count y (if b s.free (x ∷ s.free)) ≡ count y s.free
    go true y d = refl
    go false y d = first_other x y s.free d

    times : (b : Bool) → count x (if b s.free (x ∷ s.free)) ≤ 1
    times true = omega (arith, not_free (o.each_slot x) r)
    times false = omega (arith, not_free (o.each_slot x) r, first_own x s.free)

    last : (b : Bool) → eqb (s.slot_of x).generation 18446744073709551615 ≡ b → 1 ≤ count x (if b s.free (x ∷ s.free)) → (s.slot_of x).generation ≢ 18446744073709551615
    last true e h = absurd (omega (arith, not_free (o.each_slot x) r))
    last false e h = eqb-false _ _ e

    own : (b : Bool) → eqb (s.slot_of x).generation 18446744073709551615 ≡ b → SlotOrdered x s.issued (count x q) (count x (if b s.free (x ∷ s.free))) (retired (s.slot_of x))
    own b e = record {
      queued_once = omega arith;
      free_once = times b;
      queued_registered = λ h. absurd (omega arith);
      queued_unpaused = λ h. refl;
      is_marked = λ h p q z. absurd (no h refl);
      registered_issued = λ h. absurd (no h refl);
      free_issued = λ h. (o.each_slot x).registered_issued r;
      free_unregistered = λ h. refl;
      burst_most = λ h. absurd (no h refl);
      living_issued = (o.each_slot x).living_issued;
      marked_issued = (o.each_slot x).marked_issued;
      free_generation = last b e;
    }

-- lane x, not queued, retires
pub retire_lane_ordered : (x : ℕ) (s : State) → Ordered s → (s.slot_of x).registered ≡ true → count x s.queue ≡ 0 → Ordered (retire_lane x s)
retire_lane_ordered x s o r z = retire_unqueue_ordered x s.queue s o r (λ y d. refl) z

pub retire_lane_if_ordered : (b : Bool) (x : ℕ) (s : State) → Ordered s → (b ≡ true → (s.slot_of x).registered ≡ true) → count x s.queue ≡ 0 → Ordered (retire_lane_if b x s)
unfolding retire_lane_if
retire_lane_if_ordered true x s o r z = retire_lane_ordered x s o (r refl) z
retire_lane_if_ordered false x s o r z = o

-- lane x is found empty and leaves the queue
pub settle_empty_ordered : (x : ℕ) (q : List ℕ) (s : State) → Ordered s → (s.slot_of x).registered ≡ true → ((y : ℕ) → x ≢ y → count y q ≡ count y s.queue) → count x q ≡ 0
    → Ordered (settle_empty x q s)
unfolding settle_empty
settle_empty_ordered x q s o r c z =
    retire_lane_if_ordered (not (s.slot_of x).living) x (with_queue q (put x (settled_empty (s.slot_of x)) s))
    record {
      each_slot = one_slot s x (settled_empty (s.slot_of x)) q s.free o.each_slot c (λ y d. refl) own;
      budget_most = o.budget_most;
      cursor_most = o.cursor_most;
      sizes = o.sizes;
    }
    (λ e. rw (self x) r) z
  where
    own : SlotOrdered x s.issued (count x q) (count x s.free) (settled_empty (s.slot_of x))
    own = record {
      queued_once = omega arith;
      free_once = (o.each_slot x).free_once;
      queued_registered = λ h. r;
      queued_unpaused = λ h. absurd (omega arith);
      is_marked = λ h p e n. absurd (no e refl);
      registered_issued = (o.each_slot x).registered_issued;
      free_issued = (o.each_slot x).free_issued;
      free_unregistered = (o.each_slot x).free_unregistered;
      burst_most = λ h. omega arith;
      living_issued = (o.each_slot x).living_issued;
      marked_issued = (o.each_slot x).marked_issued;
      free_generation = (o.each_slot x).free_generation;
    }

-- the budget
pub refill_le : (n : ℕ) → n ≤ 64 → refill n ≤ 64
unfolding refill
refill_le zero h = omega arith
refill_le (suc n) h = h

pub refill_pos : (n : ℕ) → 1 ≤ refill n
unfolding refill
refill_pos zero = omega arith
refill_pos (suc n) = omega arith

pub budget_ordered : (b : ℕ) (s : State) → b ≤ 64 → Ordered s → Ordered (with_budget b s)
budget_ordered b s h o = record { each_slot = o.each_slot; budget_most = h; cursor_most = o.cursor_most; sizes = o.sizes }

pub before_next_turn_ordered : (q : List ℕ) (s : State) → Ordered s → Ordered (before_next_turn q s)
unfolding before_next_turn
before_next_turn_ordered [] s o = o
before_next_turn_ordered (y ∷ q) s o = budget_ordered (refill s.budget) s (refill_le s.budget o.budget_most) o

-- the front lane
pub front_registered : (s : State) (y : ℕ) (q : List ℕ) → s.queue ≡ y ∷ q → Ordered s → (s.slot_of y).registered ≡ true
front_registered s y q e o = (o.each_slot y).queued_registered (omega (arith, ap (count y) e, first_own y q))

pub front_alone : (s : State) (y : ℕ) (q : List ℕ) → s.queue ≡ y ∷ q → Ordered s → count y q ≡ 0
front_alone s y q e o = omega (arith, (o.each_slot y).queued_once, ap (count y) e, first_own y q)

pub front_rest : (s : State) (y : ℕ) (q : List ℕ) → s.queue ≡ y ∷ q → (z : ℕ) → y ≢ z → count z q ≡ count z s.queue
front_rest s y q e z d = omega (arith, ap (count z) e, first_other y z q d)

pub settle_empty_queue : (x : ℕ) (q : List ℕ) (s : State) → (settle_empty x q s).queue ≡ q
unfolding settle_empty retire_lane_if retire_lane
settle_empty_queue x q s = go (not (s.slot_of x).living)
  where
    go : (b : Bool) → (retire_lane_if b x (with_queue q (put x (settled_empty (s.slot_of x)) s))).queue ≡ q
    go true = refl
    go false = refl

pub before_next_turn_queue : (p q : List ℕ) (s : State) → s.queue ≡ q → (before_next_turn p s).queue ≡ q
unfolding before_next_turn
before_next_turn_queue [] q s e = e
before_next_turn_queue (y ∷ p) q s e = e

pub run_down_from_ordered : (q : List ℕ) (s : State) → s.queue ≡ q → Ordered s → Ordered (run_down_from q s)
unfolding run_down_from
run_down_from_ordered [] s e o = o
run_down_from_ordered (y ∷ q) s e o =
    go (s.slot_of y).ring (run_down_from_ordered q (before_next_turn q (settle_empty y q s)) (before_next_turn_queue q q (settle_empty y q s) (settle_empty_queue y q s))
    (before_next_turn_ordered q (settle_empty y q s) (settle_empty_ordered y q s o (front_registered s y q e o) (front_rest s y q e) (front_alone s y q e o))))
  where
    go : (l : List ℕ) → Ordered (run_down_from q (before_next_turn q (settle_empty y q s))) → Ordered (if (non_empty l) s (run_down_from q (before_next_turn q (settle_empty y q s))))
    go [] r = r
    go (v ∷ vs) r = o

-- the front lane gives an item
pub give_item_ordered : (s : State) (y : ℕ) (q vs : List ℕ) (back : Bool) → s.queue ≡ y ∷ q → (back ≡ false → (s.slot_of y).burst < 63) → Ordered s → Ordered (give_item s y q vs back)
unfolding give_item
give_item_ordered s y q vs back e r o = record {
  each_slot = one_slot s y _ (if back (q ++ (y ∷ [])) (y ∷ q)) s.free o.each_slot (others back) (λ z d. refl) (own back r);
  budget_most = omega (arith, refill_le s.budget o.budget_most);
  cursor_most = o.cursor_most;
  sizes = o.sizes;
}
  where
    others : (b : Bool) (z : ℕ) → y ≢ z → count z (if b (q ++ (y ∷ [])) (y ∷ q)) ≡ count z s.queue
    others true z d = last_other y z q d ∙ front_rest s y q e z d
    others false z d = ap (count z) (sym e)

    one : (b : Bool) → count y (if b (q ++ (y ∷ [])) (y ∷ q)) ≡ 1
    one true = omega (arith, last_own y q, front_alone s y q e o)
    one false = omega (arith, first_own y q, front_alone s y q e o)

    short : (b : Bool) → (b ≡ false → (s.slot_of y).burst < 63) → if b 0 ((s.slot_of y).burst + 1) ≤ 63
    short true f = omega arith
    short false f = omega (arith, f refl)

    own : (b : Bool) → (b ≡ false → (s.slot_of y).burst < 63) → SlotOrdered y s.issued (count y (if b (q ++ (y ∷ [])) (y ∷ q))) (count y s.free) (popped vs (unreleased_after_one s y) (if b 0 ((s.slot_of y).burst + 1)) (s.slot_of y))
    own b f = record {
      queued_once = omega (arith, one b);
      free_once = (o.each_slot y).free_once;
      queued_registered = λ h. front_registered s y q e o;
      queued_unpaused = λ h. (o.each_slot y).queued_unpaused (omega (arith, ap (count y) e, first_own y q));
      is_marked = λ h p g n. absurd (omega (arith, one b));
      registered_issued = (o.each_slot y).registered_issued;
      free_issued = (o.each_slot y).free_issued;
      free_unregistered = (o.each_slot y).free_unregistered;
      burst_most = λ h. short b f;
      living_issued = (o.each_slot y).living_issued;
      marked_issued = (o.each_slot y).marked_issued;
      free_generation = (o.each_slot y).free_generation;
    }

-- a group is collected
pub is_ready_parts : (s : State) (y : ℕ) → is_ready s y ≡ true → ((s.slot_of y).pending ≡ true) × ((s.slot_of y).registered ≡ true) × ((s.slot_of y).paused ≡ false) × (count y s.queue ≡ 0)
unfolding is_ready may_queue
is_ready_parts s y e =
    let a = both_true (s.slot_of y).pending (both (s.slot_of y).registered (both (not (s.slot_of y).paused) (not (queued s y)))) e in
    let b = both_3 (s.slot_of y).registered (not (s.slot_of y).paused) (not (queued s y)) a.1 in
    (a.0, b.0, not_true b.1, unqueued_zero (count y s.queue) b.2)

pub is_ready_intro : (s : State) (y : ℕ) → (s.slot_of y).pending ≡ true → (s.slot_of y).registered ≡ true → (s.slot_of y).paused ≡ false → count y s.queue ≡ 0 → is_ready s y ≡ true
unfolding is_ready may_queue
is_ready_intro s y p r u z = rw (p, r, u, z)

pub marks_in : (s : State) (y g : ℕ) → (s.slot_of y).marked ≡ true → group_of y ≡ g → count y (marks s g) ≡ count y (from 0 s.issued)
unfolding marks
marks_in s y g m e = keep_in _ y (from 0 s.issued) (rw (m, e, self g))

pub marks_once : (s : State) (y g : ℕ) → count y (marks s g) ≤ 1
unfolding marks
marks_once s y g = go (both (s.slot_of y).marked (eqb (group_of y) g)) refl
  where
    go : (b : Bool) → both (s.slot_of y).marked (eqb (group_of y) g) ≡ b → count y (keep (λ x. both (s.slot_of x).marked (eqb (group_of x) g)) (from 0 s.issued)) ≤ 1
    go true e = omega (arith, keep_in (λ x. both (s.slot_of x).marked (eqb (group_of x) g)) y (from 0 s.issued) e, from_once y 0 s.issued)
    go false e = omega (arith, keep_out (λ x. both (s.slot_of x).marked (eqb (group_of x) g)) y (from 0 s.issued) e)

module _ (s : State) (g : ℕ) (o : Ordered s) where
  more : List ℕ
  more = keep (is_ready s) (marks s g)

  collect_group_fine : (y : ℕ) → SlotOrdered y s.issued (count y (s.queue ++ more)) (count y s.free) (if (eqb (group_of y) g) (unmarked (s.slot_of y)) (s.slot_of y))
  unfolding more
  collect_group_fine y = go (is_ready s y) refl (same? (group_of y) g)
    where
      f : SlotOrdered y s.issued (count y s.queue) (count y s.free) (s.slot_of y)
      f = o.each_slot y

      go : (b : Bool) → is_ready s y ≡ b → Same (group_of y) g → SlotOrdered y s.issued (count y (s.queue ++ more)) (count y s.free) (if (eqb (group_of y) g) (unmarked (s.slot_of y)) (s.slot_of y))
      go true e (equal p b i) =
          let r = is_ready_parts s y e in
          let n : count y (s.queue ++ more) ≡ 1 =
          omega (arith, count_append y s.queue more, keep_in (is_ready s) y (marks s g) e, marks_in s y g (f.is_marked r.1 r.2 r.0 r.3) p, from_in y 0 s.issued (omega arith) (omega (arith, f.registered_issued r.1)), r.3) in
          rw b record {
            queued_once = omega arith;
            free_once = f.free_once;
            queued_registered = λ h. r.1;
            queued_unpaused = λ h. r.2;
            is_marked = λ h p g z. absurd (omega arith);
            registered_issued = f.registered_issued;
            free_issued = f.free_issued;
            free_unregistered = f.free_unregistered;
            burst_most = f.burst_most;
            living_issued = f.living_issued;
            marked_issued = λ h. absurd (no h refl);
            free_generation = f.free_generation;
          }
      go true e (other d b i) =
          let r = is_ready_parts s y e in
          rw b record {
            queued_once = omega (arith, count_append y s.queue more, keep_in (is_ready s) y (marks s g) e, marks_once s y g, r.3);
            free_once = f.free_once;
            queued_registered = λ h. r.1;
            queued_unpaused = λ h. r.2;
            is_marked = λ h p g n. f.is_marked h p g r.3;
            registered_issued = f.registered_issued;
            free_issued = f.free_issued;
            free_unregistered = f.free_unregistered;
            burst_most = f.burst_most;
            living_issued = f.living_issued;
            marked_issued = f.marked_issued;
            free_generation = f.free_generation;
          }
      go false e (equal p b i) =
          let n : count y (s.queue ++ more) ≡ count y s.queue = omega (arith, count_append y s.queue more, keep_out (is_ready s) y (marks s g) e) in
          rw b record {
            queued_once = omega (arith, f.queued_once);
            free_once = f.free_once;
            queued_registered = λ h. f.queued_registered (omega arith);
            queued_unpaused = λ h. f.queued_unpaused (omega arith);
            is_marked = λ h u t z. absurd (no (is_ready_intro s y t h u (omega arith)) e);
            registered_issued = f.registered_issued;
            free_issued = f.free_issued;
            free_unregistered = f.free_unregistered;
            burst_most = f.burst_most;
            living_issued = f.living_issued;
            marked_issued = λ h. absurd (no h refl);
            free_generation = f.free_generation;
          }
      go false e (other d b i) =
          let n : count y (s.queue ++ more) ≡ count y s.queue = omega (arith, count_append y s.queue more, keep_out (is_ready s) y (marks s g) e) in
          rw (b, n) f

pub collect_group_ordered : (s : State) (g : ℕ) → g < groups_in s.issued → Ordered s → Ordered (collect_group s g)
unfolding collect_group collect_marks more
collect_group_ordered s g l o = go (marks s g) refl
  where
    go : (m : List ℕ) → marks s g ≡ m → Ordered (collect_marks m s g)
    go [] e = o
    go (x ∷ m) e = record { each_slot = λ y. subst_marks e (collect_group_fine s g o y); budget_most = o.budget_most; cursor_most = omega (arith, l); sizes = o.sizes }
      where
        subst_marks : {y : ℕ} {l : Slot} → marks s g ≡ x ∷ m → SlotOrdered y s.issued (count y (s.queue ++ keep (is_ready s) (marks s g))) (count y s.free) l → SlotOrdered y s.issued (count y (s.queue ++ keep (is_ready s) (x ∷ m))) (count y s.free) l
        subst_marks e h = rw e at h

pub collect_group_issued : (s : State) (g : ℕ) → (collect_group s g).issued ≡ s.issued
unfolding collect_group collect_marks
collect_group_issued s g = go (marks s g)
  where
    go : (m : List ℕ) → (collect_marks m s g).issued ≡ s.issued
    go [] = refl
    go (x ∷ m) = refl

-- the groups of a round exist
abbrev pub Exist : State → List ℕ → Type 0
Exist s gs = (g : ℕ) → 1 ≤ count g gs → g < groups_in s.issued

pub from_bound : (y a n : ℕ) → 1 ≤ count y (from a n) → (a ≤ y) × (y < a + n)
unfolding from count
from_bound y a zero h = absurd (omega arith)
from_bound y a (suc n) h = elim (same? y a) [
  | equal p e i ↦ (omega arith, omega arith)
  | other d e i ↦ let r = from_bound y (suc a) n (omega arith) in (omega (arith, r.0), omega (arith, r.1))
]

pub start_group_le : (s : State) → start_group s ≤ groups_in s.issued
unfolding start_group
start_group_le s = go (ltb s.cursor (groups_in s.issued)) refl
  where
    go : (b : Bool) → ltb s.cursor (groups_in s.issued) ≡ b → if b s.cursor 0 ≤ groups_in s.issued
    go true e = omega (arith, ltb-true s.cursor (groups_in s.issued) e)
    go false e = omega arith

pub groups_round_exist : (s : State) → Exist s (groups_round s)
unfolding groups_round
groups_round_exist s g h = go (count g (from (start_group s) (groups_in s.issued - start_group s))) refl
  where
    go : (n : ℕ) → count g (from (start_group s) (groups_in s.issued - start_group s)) ≡ n → g < groups_in s.issued
    go zero e = omega (arith, start_group_le s, (from_bound g 0 (start_group s) (omega (arith, count_append g (from (start_group s) (groups_in s.issued - start_group s)) (from 0 (start_group s))))).1)
    go (suc n) e = omega (arith, start_group_le s, (from_bound g (start_group s) (groups_in s.issued - start_group s) (omega arith)).1)

pub exist_rest : (s : State) (g : ℕ) (gs : List ℕ) → Exist s (g ∷ gs) → Exist s gs
unfolding count
exist_rest s g gs h y l = h y (omega arith)

pub exist_collect_group : (s : State) (g : ℕ) (gs : List ℕ) → Exist s gs → Exist (collect_group s g) gs
exist_collect_group s g gs h y l = omega (arith, h y l, ap groups_in (collect_group_issued s g))

pub collect_each_ordered : (gs : List ℕ) (s : State) → Exist s gs → Ordered s → Ordered (collect_each gs s)
unfolding collect_each
collect_each_ordered [] s h o = o
collect_each_ordered (g ∷ gs) s h o =
    collect_each_ordered gs (collect_group s g) (exist_collect_group s g gs (exist_rest s g gs h)) (collect_group_ordered s g (h g (omega (arith, first_own g gs))) o)

pub collect_first_ordered : (gs : List ℕ) (s : State) → Exist s gs → Ordered s → Ordered (collect_first gs s)
unfolding collect_first
collect_first_ordered [] s h o = o
collect_first_ordered (g ∷ gs) s h o = go (non_empty (marks s g)) (collect_group_ordered s g (h g (omega (arith, first_own g gs))) o) (collect_first_ordered gs s (exist_rest s g gs h) o)
  where
    go : (b : Bool) → Ordered (collect_group s g) → Ordered (collect_first gs s) → Ordered (if b (collect_group s g) (collect_first gs s))
    go true p q = p
    go false p q = q

pub collect_ready_ordered : (s : State) → Ordered s → Ordered (collect_ready s)
unfolding collect_ready
collect_ready_ordered s o = collect_each_ordered (groups_round s) s (groups_round_exist s) o

pub collect_if_due_ordered : (n : ℕ) (q : List ℕ) (s : State) → Ordered s → Ordered (collect_if_due n q s)
unfolding collect_if_due collect_ready_group
collect_if_due_ordered zero (y ∷ q) s o = budget_ordered 64 _ (omega arith) (collect_first_ordered (groups_round s) s (groups_round_exist s) o)
collect_if_due_ordered zero [] s o = o
collect_if_due_ordered (suc n) q s o = o

pub run_down_ordered : (s : State) → Ordered s → Ordered (run_down s)
unfolding run_down
run_down_ordered s o = run_down_from_ordered s.queue s refl o

pub collect_if_none_ordered : (q : List ℕ) (s : State) → Ordered s → Ordered (collect_if_none_queued q s)
unfolding collect_if_none_queued
collect_if_none_ordered [] s o = run_down_ordered (collect_ready s) (collect_ready_ordered s o)
collect_if_none_ordered (y ∷ q) s o = o

pub polled_ordered : (s : State) → Ordered s → Ordered (polled s)
unfolding polled
polled_ordered s o = collect_if_none_ordered _ _ (run_down_ordered (collect_if_due s.budget s.queue s) (collect_if_due_ordered s.budget s.queue s o))

pub back_room : (f : Bool) (n : ℕ) → either f (leb 63 n) ≡ false → n < 63
back_room true n e = absurd (no refl e)
back_room false n e = leb-false 63 n e

pub give_front_ordered : (f : Bool) (s : State) (q : List ℕ) → s.queue ≡ q → Ordered s → Ordered (give_front f s q).1
unfolding give_front give_oldest
give_front_ordered f s [] e o = o
give_front_ordered f s (y ∷ q) e o = go (s.slot_of y).ring
  where
    go : (l : List ℕ) → Ordered (give_oldest s f y q l).1
    go [] = o
    go (v ∷ vs) = give_item_ordered s y q vs _ e (back_room f (s.slot_of y).burst) o

pub take_one_ordered : (s : State) → Ordered s → Ordered (take_one s).1
unfolding take_one
take_one_ordered s o = give_front_ordered false (polled s) _ refl (polled_ordered s o)

pub take_fair_ordered : (s : State) → Ordered s → Ordered (take_fair s).1
unfolding take_fair
take_fair_ordered s o = give_front_ordered true _ _ refl (run_down_ordered _ (budget_ordered 64 (collect_ready s) (omega arith) (collect_ready_ordered s o)))

-- a batch's takes
pub and_more_ordered : (l : List (LaneKey × ℕ)) (m : ℕ) (s : State) → Ordered s → (Ordered s → Ordered (take_up_to m s).1) → Ordered (and_more l s (take_up_to m s)).1
unfolding and_more
and_more_ordered [] m s o h = o
and_more_ordered (g ∷ l) m s o h = h o

pub take_up_to_ordered : (n : ℕ) (s : State) → Ordered s → Ordered (take_up_to n s).1
unfolding take_up_to
take_up_to_ordered zero s o = o
take_up_to_ordered (suc m) s o = and_more_ordered (take_one s).0 m (take_one s).1 (take_one_ordered s o) (take_up_to_ordered m (take_one s).1)

-- empty paused lanes are retired
pub retire_empty_paused_ordered : (xs : List ℕ) (s : State) → Ordered s → Ordered (retire_empty_paused_lanes xs s)
unfolding retire_empty_paused_lanes retire_lane_if
retire_empty_paused_ordered [] s o = o
retire_empty_paused_ordered (x ∷ xs) s o =
    retire_empty_paused_ordered xs _ (retire_if_or (both (s.slot_of x).registered (both (s.slot_of x).paused (not (non_empty (s.slot_of x).ring)))) refl)
  where
    retire_if_or : (b : Bool) → both (s.slot_of x).registered (both (s.slot_of x).paused (not (non_empty (s.slot_of x).ring))) ≡ b → Ordered (retire_lane_if b x s)
    retire_if_or true e =
        let r = both_3 (s.slot_of x).registered (s.slot_of x).paused (not (non_empty (s.slot_of x).ring)) e in
        retire_lane_ordered x s o r.0 (zero_of (count x s.queue) refl r.1)
      where
        zero_of : (n : ℕ) → count x s.queue ≡ n → (s.slot_of x).paused ≡ true → count x s.queue ≡ 0
        zero_of zero e p = e
        zero_of (suc n) e p = absurd (no p ((o.each_slot x).queued_unpaused (omega arith)))
    retire_if_or false e = o

-- every lane gives back its credit
pub release_all_ordered : (s : State) → Ordered s → Ordered (release_all s)
unfolding release_all
release_all_ordered s o = record {
  each_slot = λ y. let f = o.each_slot y in record { queued_once = f.queued_once; free_once = f.free_once; queued_registered = f.queued_registered; queued_unpaused = f.queued_unpaused; is_marked = f.is_marked; registered_issued = f.registered_issued; free_issued = f.free_issued; free_unregistered = f.free_unregistered; burst_most = f.burst_most; living_issued = f.living_issued; marked_issued = f.marked_issued; free_generation = f.free_generation };
  budget_most = o.budget_most;
  cursor_most = o.cursor_most;
  sizes = o.sizes;
}

-- one slot changes, queue and free list do not
pub put_ordered : (s : State) (x : ℕ) (l : Slot) → Ordered s → SlotOrdered x s.issued (count x s.queue) (count x s.free) l → Ordered (put x l s)
put_ordered s x l o h = record { each_slot = one_slot s x l s.queue s.free o.each_slot (λ y d. refl) (λ y d. refl) h; budget_most = o.budget_most; cursor_most = o.cursor_most; sizes = o.sizes }

-- lane x goes to the back
pub back_ordered : (s : State) (x : ℕ) (l : Slot) → Ordered s → count x s.queue ≡ 0 → (s.slot_of x).registered ≡ true → l.registered ≡ true → l.paused ≡ false → l.burst ≤ 63
    → Ordered (with_queue (s.queue ++ (x ∷ [])) (put x l s))
back_ordered s x l o z r rl pl b = record {
  each_slot = one_slot s x l (s.queue ++ (x ∷ [])) s.free o.each_slot (λ y d. last_other x y s.queue d) (λ y d. refl)
      record {
        queued_once = omega (arith, last_own x s.queue);
        free_once = (o.each_slot x).free_once;
        queued_registered = λ h. rl;
        queued_unpaused = λ h. pl;
        is_marked = λ h p g n. absurd (omega (arith, last_own x s.queue));
        registered_issued = λ h. (o.each_slot x).registered_issued r;
        free_issued = (o.each_slot x).free_issued;
        free_unregistered = λ h. absurd (no r ((o.each_slot x).free_unregistered h));
        burst_most = λ h. b;
        living_issued = λ h. (o.each_slot x).registered_issued r;
        marked_issued = λ h. (o.each_slot x).registered_issued r;
        free_generation = λ h. absurd (no r ((o.each_slot x).free_unregistered h));
      };
  budget_most = o.budget_most;
  cursor_most = o.cursor_most;
  sizes = o.sizes;
}

-- a signal that is marked, on a slot whose ring, sender or pause changed
pub signal_fine : (y i n m : ℕ) (l k : Slot) → SlotOrdered y i n m l → k.registered ≡ l.registered → k.paused ≡ l.paused → k.pending ≡ l.pending → k.marked ≡ l.marked → k.burst ≡ l.burst → k.generation ≡ l.generation → y < i → SlotOrdered y i n m (signalled k)
signal_fine y i n m l k f r p g t b e lt = record {
  queued_once = f.queued_once;
  free_once = f.free_once;
  queued_registered = λ h. r ∙ f.queued_registered h;
  queued_unpaused = λ h. p ∙ f.queued_unpaused h;
  is_marked = λ h u q z. go k.pending refl h u z;
  registered_issued = λ h. f.registered_issued (sym r ∙ h);
  free_issued = f.free_issued;
  free_unregistered = λ h. r ∙ f.free_unregistered h;
  burst_most = λ h. omega (arith, f.burst_most (sym r ∙ h));
  living_issued = λ h. lt;
  marked_issued = λ h. lt;
  free_generation = λ h q. f.free_generation h (sym e ∙ q);
}
  where
    go : (c : Bool) → k.pending ≡ c → k.registered ≡ true → k.paused ≡ false → n ≡ 0 → either (not c) k.marked ≡ true
    go true e h u z = t ∙ f.is_marked (sym r ∙ h) (sym p ∙ u) (sym g ∙ e) z
    go false e h u z = refl
