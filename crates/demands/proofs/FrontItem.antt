-- For code that takes an item of the front lane at once: where that lane holds one and the budget is not spent, it is the plain take.
-- Assumes nothing.
use mathlib.Core.Path.{◌≡◌, refl, ap, ◌∙◌}
use mathlib.Core.Bool.{false}
use mathlib.Core.List.{List, [], ◌∷◌}
use Prim.Native.Nat.{ℕ, zero, suc, ◌≤◌}
use native.Mathlib.Omega.{arith}
use lib.Dec.{leb}
use Rattle.model.specs.State.{State, key_of}
use Rattle.model.specs.Turn.{run_down_from, give_item, give_oldest, give_front, collect_if_due, run_down, collect_if_none_queued, polled, take_one}

-- the front lane holds an item, and the budget is not spent
collect_if_due_none : (b : ℕ) (q : List ℕ) (s : State) → 1 ≤ b → collect_if_due b q s ≡ s
unfolding collect_if_due
collect_if_due_none zero q s h = absurd (omega arith)
collect_if_due_none (suc b) q s h = refl

module _ (s : State) (y v : ℕ) (q vs : List ℕ) (e : s.queue ≡ y ∷ q) (r : (s.slot_of y).ring ≡ v ∷ vs) where
  run_down_front : run_down s ≡ s
  unfolding run_down run_down_from
  run_down_front = ap (λ (l : List ℕ). run_down_from l s) e ∙ rw r

  pub polled_front_lem : 1 ≤ s.budget → polled s ≡ s
  unfolding polled collect_if_none_queued
  polled_front_lem b =
      let t : run_down (collect_if_due s.budget s.queue s) ≡ s = ap run_down (collect_if_due_none s.budget s.queue s b) ∙ run_down_front in
      ap (λ (u : State). collect_if_none_queued u.queue u) t ∙ ap (λ (l : List ℕ). collect_if_none_queued l s) e

  pub take_one_front : 1 ≤ s.budget → take_one s ≡ ((key_of s y, v) ∷ [], give_item s y q vs (leb 63 (s.slot_of y).burst))
  unfolding take_one give_front give_oldest
  take_one_front b = ap (λ (t : State). give_front false t t.queue) (polled_front_lem b) ∙ ap (λ (l : List ℕ). give_front false s l) e ∙ rw r
