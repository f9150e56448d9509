-- Held is the number that the rules say, which is that of the walk; it changes nothing.
-- Assumes nothing.
use mathlib.Core.Path.{◌≡◌, ap}
use mathlib.Core.List.{List}
use Prim.Native.Nat.{ℕ}
use Rattle.model.specs.declared.Answer.TheVariants.{Held}
use Rattle.model.specs.Control as rules
use Rattle.store.specs.View.{view}
use Rattle.store.specs.Order.{Stores, StoreInOrder}
use Rattle.store.specs.Held.{walked_held}
use Rattle.all_lanes.specs.AllLanes.{count_held}
use Rattle.store.proofs.RefusalLaws.{seen}
use Rattle.store.proofs.HeldLaws.{held_walked}

module _ (t r : List ℕ) (o : StoreInOrder t r) where
  pub count_held_alike : seen (count_held t r) ≡ (rules.count_held (view t r)).1
  unfolding count_held rules.count_held
  count_held_alike = ap (λ (n : ℕ). (Held n, view t r)) o.held_counted

  pub count_held_keeps : Stores (count_held t r).1 (count_held t r).2
  unfolding count_held
  count_held_keeps = o.stores

  -- "Readers see the same number as from the walk"
  pub count_held_as_walked : count_held t r ≡ (Held (walked_held t), t, r)
  unfolding count_held
  count_held_as_walked = ap (λ (n : ℕ). (Held n, t, r)) (held_walked t r o)
