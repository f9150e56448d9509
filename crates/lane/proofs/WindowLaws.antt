-- A pop in two steps, the look at the window and then the item, is the pop of the definition.
-- Assumes nothing.
use Rattle.std.specs.Prelude.{Some, None}
use mathlib.Core.List.{List}
use mathlib.Core.Path.{◌≡◌, ap}
use Prim.Native.Nat.{ℕ}
use borrow.Author.Tests.{eq-eqb, ne_eqb}
use Rattle.lane.specs.Lane.{pop_window, pop_fast, fair_window, pop_fair, fairly, pop_lone}
use Rattle.yring.specs.declared.ring.Ring.{Ring}
use Rattle.lane.specs.declared.lane.Lane.{Lane}

module _ (ring : Ring) (store : List ℕ) where
  pub pop_fast_none : (l : Lane) → l.window ≡ 0 → pop_fast ring store l ≡ None
  unfolding pop_fast
  pop_fast_none l e = simp (eq-eqb _ _ e)

  pub pop_fast_some : (l : Lane) → (l.window ≡ 0 → ⊥)
      → pop_fast ring store l ≡ Some (pop_window ring store l)
  unfolding pop_fast
  pop_fast_some l n = simp (ne_eqb _ _ n)

  pub pop_fair_none : (budget : ℕ) (l : Lane) → (fair_window ring.capacity budget l).window ≡ 0
      → pop_lone ring store budget l ≡ None
  unfolding pop_lone fairly
  pop_fair_none budget l e = ap fairly (pop_fast_none (fair_window ring.capacity budget l) e)

  pub pop_fair_some : (budget : ℕ) (l : Lane) → ((fair_window ring.capacity budget l).window ≡ 0 → ⊥)
      → pop_lone ring store budget l
      ≡ Some (pop_fair ring store (fair_window ring.capacity budget l))
  unfolding pop_lone fairly
  pop_fair_some budget l n = ap fairly (pop_fast_some (fair_window ring.capacity budget l) n)
