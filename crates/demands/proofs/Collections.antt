-- In every run at most 64 items of untargeted receives go out between two collections, while a page bit is set;
-- then a collection takes page bits, from the cursor round, and else it changes nothing.
-- Assumes nothing.
use mathlib.Core.Path.{◌≡◌, refl, ap, ◌∙◌}
use mathlib.Core.Bool.{Bool, true, false}
use mathlib.Core.List.{List, [], ◌∷◌}
use Prim.Native.Nat.{ℕ, ◌+◌, ◌≤◌, ◌<◌}
use native.Mathlib.Omega.{arith}
use lib.Dec.{eqb}
use Rattle.model.specs.declared.LaneKey.{LaneKey}
use Rattle.model.specs.Lists.{if, both, either, non_empty, count, keep, from}
use Rattle.model.specs.State.{State}
use Rattle.model.specs.Ready.{group_of, groups_in, marks, collect_group, groups_round, collect_first, collect_each, collect_ready_group, collect_ready}
use Rattle.model.specs.Events.{Event, any_marked, budget_set, collected, none_marked, found_empty, item_taken, went_to_back, collects, finds_none_marked, takes_item, count_events}
use Rattle.model.specs.Order.{InOrder}
use Rattle.model.specs.Collections.{AtMost64BetweenCollections, TakesOneGroup, TakesAllGroups, StandsAfterLast, NothingToCollect}
use Rattle.model.specs.Viewed.{rules_viewed, rules_on_any_state}
use Rattle.demands.proofs.Counting.{same_self, self, no, both_true, both_intro, keep_in}
use Rattle.demands.proofs.WaitInReceive.{group_low, collect_group_cursor}
use Rattle.demands.proofs.Round.{collect_group_none, takes_first, leaves_last}
use Rattle.demands.proofs.Signals.{collect_ready_unmarked}
use Rattle.demands.proofs.Events.{Tally, next}
use Rattle.demands.proofs.EventsOfRuns.{zeros, run_pass, part_most}

pub reads : (k : LaneKey) (T : Tally) (e : Event) → (next k T e).since_collected ≡ if (either (collects e) (finds_none_marked e)) 0 (if (takes_item e) (T.since_collected + 1) T.since_collected)
unfolding next collects finds_none_marked takes_item
reads k T budget_set = refl
reads k T collected = refl
reads k T none_marked = refl
reads k T (found_empty j) = refl
reads k T (item_taken j) = refl
reads k T (went_to_back j) = refl

pub neither : (es : List Event) → count_events collects es ≡ 0 → count_events finds_none_marked es ≡ 0 → count_events (λ e. either (collects e) (finds_none_marked e)) es ≡ 0
unfolding count_events
neither [] a b = refl
neither (e ∷ es) a b = go (collects e) (finds_none_marked e) a b (neither es)
  where
    go : (x y : Bool) → if x 1 0 + count_events collects es ≡ 0 → if y 1 0 + count_events finds_none_marked es ≡ 0
        → (count_events collects es ≡ 0 → count_events finds_none_marked es ≡ 0 → count_events (λ e. either (collects e) (finds_none_marked e)) es ≡ 0)
        → if (either x y) 1 0 + count_events (λ e. either (collects e) (finds_none_marked e)) es ≡ 0
    go true y a b ih = absurd (omega arith)
    go false true a b ih = absurd (omega arith)
    go false false a b ih = omega (arith, ih (omega arith) (omega arith))

pub at_most_64_between_collections : AtMost64BetweenCollections rules_viewed
unfolding AtMost64BetweenCollections
at_most_64_between_collections o lent a calls any before part rest e z n =
    let k : LaneKey = record { slot = 0; generation = 0 } in
    part_most k takes_item (λ e. either (collects e) (finds_none_marked e)) (λ T. T.since_collected) (reads k) (λ T s. s.collected_small) zeros before part rest
    (rw e at (run_pass k o lent a calls).below) (neither part z n)

-- an element of a list that passes a test
kept_one : (p : ℕ → Bool) (l : List ℕ) → non_empty (keep p l) ≡ true → (x : ℕ) × (1 ≤ count x l) × (p x ≡ true)
unfolding keep count
kept_one p [] e = absurd (no e refl)
kept_one p (x ∷ l) e = go (p x) refl e (kept_one p l)
  where
    go : (b : Bool) → p x ≡ b → non_empty (if b (x ∷ keep p l) (keep p l)) ≡ true → (non_empty (keep p l) ≡ true → (z : ℕ) × (1 ≤ count z l) × (p z ≡ true)) → (z : ℕ) × (1 ≤ count z (x ∷ l)) × (p z ≡ true)
    go true h e ih = (x, omega (arith, same_self x), h)
    go false h e ih = let r = ih e in (r.0, omega (arith, r.1), r.2)

one_kept : (p : ℕ → Bool) (x : ℕ) (l : List ℕ) → 1 ≤ count x l → p x ≡ true → non_empty (keep p l) ≡ true
unfolding count
one_kept p x l h e = go (keep p l) (omega (arith, keep_in p x l e))
  where
    go : (m : List ℕ) → 1 ≤ count x m → non_empty m ≡ true
    go [] h = absurd (omega arith)
    go (y ∷ m) h = refl

-- a group that has marks has a marked slot, and the other way round
marks_of : (s : State) (x : ℕ) → 1 ≤ count x (from 0 s.issued) → (s.slot_of x).marked ≡ true → non_empty (marks s (group_of x)) ≡ true
unfolding marks
marks_of s x h e = one_kept (λ y. both (s.slot_of y).marked (eqb (group_of y) (group_of x))) x (from 0 s.issued) h (both_intro e (self (group_of x)))

no_marks : (s : State) → any_marked s ≡ false → (g : ℕ) → non_empty (marks s g) ≡ false
unfolding any_marked marks
no_marks s n g = go (non_empty (keep (λ y. both (s.slot_of y).marked (eqb (group_of y) g)) (from 0 s.issued))) refl
  where
    go : (b : Bool) → non_empty (keep (λ y. both (s.slot_of y).marked (eqb (group_of y) g)) (from 0 s.issued)) ≡ b → b ≡ false
    go true e =
        let r = kept_one (λ y. both (s.slot_of y).marked (eqb (group_of y) g)) (from 0 s.issued) e in
        absurd (no (one_kept (λ y. (s.slot_of y).marked) r.0 (from 0 s.issued) r.1 (both_true (s.slot_of r.0).marked (eqb (group_of r.0) g) r.2).0) n)
    go false e = refl

-- a group with bits, where a page bit is set
some_group : (s : State) → InOrder s → any_marked s ≡ true → (g : ℕ) × (g < groups_in s.issued) × (non_empty (marks s g) ≡ true)
unfolding any_marked
some_group s i e =
    let r = kept_one (λ x. (s.slot_of x).marked) (from 0 s.issued) e in
    (group_of r.0, group_low s r.0 ((i.ordered.each_slot r.0).marked_issued r.2), marks_of s r.0 r.1 r.2)

pub takes_one_group : TakesOneGroup rules_viewed collect_ready_group
unfolding TakesOneGroup
takes_one_group s i e =
    let g = some_group s i e in
    let f = takes_first s i.ordered g.0 g.1 g.2 in
    (f.group, f.has_bits, f.is_taken, ap (λ (u : State). u.cursor) f.is_taken ∙ collect_group_cursor s f.group f.has_bits, f.none_before)

pub stands_after_last : StandsAfterLast rules_viewed collect_ready
unfolding StandsAfterLast
stands_after_last s i e =
    let g = some_group s i e in
    let f = leaves_last s i.ordered g.0 g.1 g.2 in
    (f.group, f.has_bits, f.cursor_after, f.none_behind)

-- where every slot's page bit is clear, none is set
pub none_marked_lem : (s : State) → ((y : ℕ) → (s.slot_of y).marked ≡ false) → any_marked s ≡ false
unfolding any_marked
none_marked_lem s h = go (non_empty (keep (λ x. (s.slot_of x).marked) (from 0 s.issued))) refl
  where
    go : (b : Bool) → non_empty (keep (λ x. (s.slot_of x).marked) (from 0 s.issued)) ≡ b → b ≡ false
    go true e = let r = kept_one (λ x. (s.slot_of x).marked) (from 0 s.issued) e in absurd (no r.2 (h r.0))
    go false e = refl

pub takes_all_groups : TakesAllGroups rules_viewed collect_ready
unfolding TakesAllGroups
takes_all_groups s i = none_marked_lem (collect_ready s) (collect_ready_unmarked s i.ordered)

-- with no page bit set neither collection changes anything
pub nothing_to_collect : (s : State) → any_marked s ≡ false → (collect_ready_group s ≡ s) × (collect_ready s ≡ s)
unfolding collect_ready_group collect_ready collect_first collect_each
nothing_to_collect s n = (first_none (groups_round s), each_none (groups_round s))
  where
    first_none : (gs : List ℕ) → collect_first gs s ≡ s
    first_none [] = refl
    first_none (g ∷ gs) = ap (λ (b : Bool). if b (collect_group s g) (collect_first gs s)) (no_marks s n g) ∙ first_none gs

    each_none : (gs : List ℕ) → collect_each gs s ≡ s
    each_none [] = refl
    each_none (g ∷ gs) = ap (collect_each gs) (collect_group_none s g (no_marks s n g)) ∙ each_none gs

pub one_of_none : NothingToCollect rules_on_any_state collect_ready_group
unfolding NothingToCollect
one_of_none s any n = (nothing_to_collect s n).0

pub all_of_none : NothingToCollect rules_on_any_state collect_ready
unfolding NothingToCollect
all_of_none s any n = (nothing_to_collect s n).1
