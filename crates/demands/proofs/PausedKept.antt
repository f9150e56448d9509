-- Polls and untargeted takes leave a paused lane alone: it is not queued.
-- Assumes nothing.
use mathlib.Core.Path.{◌≡◌, refl, ap, sym, ◌∙◌, subst}
use mathlib.Core.Logic.{◌≢◌}
use mathlib.Core.Bool.{Bool, true, false}
use mathlib.Core.List.{List, [], ◌∷◌}
use Prim.Native.Nat.{ℕ, zero, suc}
use native.Mathlib.Omega.{arith}
use lib.Dec.{eqb, leb}
use borrow.Author.Tests.{ne_eqb}
use Rattle.model.specs.declared.LaneKey.{LaneKey}
use Rattle.model.specs.Lists.{if, either, non_empty, count}
use Rattle.model.specs.State.{Slot, State}
use Rattle.model.specs.Changes.{unmarked}
use Rattle.model.specs.Ready.{group_of, marks, collect_marks, collect_group, groups_round, collect_first, collect_each, collect_ready_group, collect_ready}
use Rattle.model.specs.Turn.{settle_empty, before_next_turn, run_down_from, run_down, collect_if_due, collect_if_none_queued, polled, Took, give_item, take_one}
use Rattle.model.specs.Receive.{and_more, take_up_to}
use Rattle.model.specs.Order.{Ordered}
use Rattle.model.specs.Disconnected.{SameLane}
use Rattle.demands.proofs.Counting.{no}
use Rattle.demands.proofs.OrderKept.{first_own, count_rest, collect_ready_ordered, collect_if_due_ordered, run_down_ordered, polled_ordered, take_one_ordered}
use Rattle.demands.proofs.Quiet.{poll}
use Rattle.demands.proofs.WaitInReceive.{settle_empty_other}
use Rattle.demands.proofs.Moves.{TakeResult, took_none, took_one, take_one_taken}

module _ (x : ℕ) (l : Slot) where
  -- lane x is there, paused, with the items of l
  abbrev Kept : State → Type 0
  Kept s = SameLane l (s.slot_of x)

  kept_at : (s u : State) → u.slot_of x ≡ s.slot_of x → Kept s → Kept u
  kept_at s u e k = subst (SameLane l) (sym e) k

  unqueued : (s : State) → Ordered s → Kept s → count x s.queue ≡ 0
  unqueued s o k = go (count x s.queue) refl
    where
      go : (n : ℕ) → count x s.queue ≡ n → n ≡ 0
      go zero e = refl
      go (suc n) e = absurd (no k.still_paused ((o.each_slot x).queued_unpaused (omega (arith, e))))

  -- what stands in the queue is another lane
  apart : (y : ℕ) (q : List ℕ) → count x (y ∷ q) ≡ 0 → y ≢ x
  apart y q h p = omega (arith, h, ap (λ (z : ℕ). count x (z ∷ q)) p, first_own x q)

  next_other : (q : List ℕ) (s : State) → (before_next_turn q s).slot_of x ≡ s.slot_of x
  unfolding before_next_turn
  next_other [] s = refl
  next_other (y ∷ q) s = refl

  run_down_other : (q : List ℕ) (s : State) → count x q ≡ 0 → (run_down_from q s).slot_of x ≡ s.slot_of x
  unfolding run_down_from
  run_down_other [] s h = refl
  run_down_other (y ∷ q) s h = go (non_empty (s.slot_of y).ring) (run_down_other q (before_next_turn q (settle_empty y q s)) (omega (arith, h, count_rest x y q)))
    where
      t : State
      t = before_next_turn q (settle_empty y q s)

      go : (b : Bool) → (run_down_from q t).slot_of x ≡ t.slot_of x → (if b s (run_down_from q t)).slot_of x ≡ s.slot_of x
      go true ih = refl
      go false ih = ih ∙ next_other q (settle_empty y q s) ∙ settle_empty_other y q s x (apart y q h)

  run_down_kept : (s : State) → Ordered s → Kept s → Kept (run_down s)
  unfolding run_down
  run_down_kept s o k = kept_at s (run_down_from s.queue s) (run_down_other s.queue s (unqueued s o k)) k

  collect_group_kept : (s : State) (g : ℕ) → Kept s → Kept (collect_group s g)
  unfolding collect_group collect_marks
  collect_group_kept s g k = go (marks s g)
    where
      bit : (b : Bool) → SameLane l (if b (unmarked (s.slot_of x)) (s.slot_of x))
      bit true = record { still_registered = k.still_registered; still_paused = k.still_paused; same_generation = k.same_generation; same_items = k.same_items }
      bit false = k

      go : (m : List ℕ) → Kept (collect_marks m s g)
      go [] = k
      go (m ∷ ms) = bit (eqb (group_of x) g)

  collect_each_kept : (gs : List ℕ) (s : State) → Kept s → Kept (collect_each gs s)
  unfolding collect_each
  collect_each_kept [] s k = k
  collect_each_kept (g ∷ gs) s k = collect_each_kept gs (collect_group s g) (collect_group_kept s g k)

  collect_first_kept : (gs : List ℕ) (s : State) → Kept s → Kept (collect_first gs s)
  unfolding collect_first
  collect_first_kept [] s k = k
  collect_first_kept (g ∷ gs) s k = go (non_empty (marks s g)) (collect_first_kept gs s k)
    where
      go : (b : Bool) → Kept (collect_first gs s) → Kept (if b (collect_group s g) (collect_first gs s))
      go true ih = collect_group_kept s g k
      go false ih = ih

  collect_if_due_kept : (n : ℕ) (q : List ℕ) (s : State) → Kept s → Kept (collect_if_due n q s)
  unfolding collect_if_due collect_ready_group
  collect_if_due_kept zero (y ∷ q) s k = collect_first_kept (groups_round s) s k
  collect_if_due_kept zero [] s k = k
  collect_if_due_kept (suc n) q s k = k

  collect_if_none_kept : (q : List ℕ) (s : State) → Ordered s → Kept s → Kept (collect_if_none_queued q s)
  unfolding collect_if_none_queued collect_ready
  collect_if_none_kept [] s o k = run_down_kept (collect_ready s) (collect_ready_ordered s o) (collect_each_kept (groups_round s) s k)
  collect_if_none_kept (y ∷ q) s o k = k

  pub polled_kept : (s : State) → Ordered s → Kept s → Kept (polled s)
  unfolding polled
  polled_kept s o k =
      let t = collect_if_due s.budget s.queue s in
      let due : Ordered t = collect_if_due_ordered s.budget s.queue s o in
      collect_if_none_kept _ (run_down t) (run_down_ordered t due) (run_down_kept t due (collect_if_due_kept s.budget s.queue s k))

  give_item_other : (p : State) (y : ℕ) (q vs : List ℕ) (back : Bool) → y ≢ x → (give_item p y q vs back).slot_of x ≡ p.slot_of x
  unfolding give_item
  give_item_other p y q vs back d = rw (ne_eqb y x d)

  take_one_kept : (s : State) → Ordered s → Kept s → Kept (take_one s).1
  unfolding poll
  take_one_kept s o k = go (take_one s) (take_one_taken s)
    where
      there : Kept (poll false s)
      there = polled_kept s o k

      go : (t : Took) → TakeResult false s t → Kept t.1
      go t (took_none e) = there
      go t (took_one y v q vs e g) =
          let p = poll false s in
          let none : count x (y ∷ q) ≡ 0 = ap (count x) (sym e) ∙ unqueued p (polled_ordered s o) there in
          let back = either false (leb 63 (p.slot_of y).burst) in
          kept_at p (give_item p y q vs back) (give_item_other p y q vs back (apart y q none)) there

  pub take_up_to_kept : (n : ℕ) (s : State) → Ordered s → Kept s → Kept (take_up_to n s).1
  unfolding take_up_to and_more
  take_up_to_kept zero s o k = k
  take_up_to_kept (suc n) s o k = go (take_one s).0 (take_one_kept s o k) (take_up_to_kept n (take_one s).1 (take_one_ordered s o))
    where
      go : (h : List (LaneKey × ℕ)) → Kept (take_one s).1 → (Kept (take_one s).1 → Kept (take_up_to n (take_one s).1).1) → Kept (and_more h (take_one s).1 (take_up_to n (take_one s).1)).1
      go [] k ih = k
      go (g ∷ h) k ih = ih k
