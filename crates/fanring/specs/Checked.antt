-- What a checked call leaves, on any two stores: the inner call's words if the stores are in order, else refusal 5 and every word as it was.
-- Assumes nothing.
use Rattle.std.specs.Prelude.{cond, List, ℕ}
use Rattle.model.specs.declared.Refusal.TheVariants.{StoreNotInOrder}
use Rattle.model.specs.declared.Answer.TheVariants.{Refused}
use Rattle.store.specs.Words.{Words}
use Rattle.order.specs.InOrder.{in_order}

-- "Outer calls test this each time"; "every later call | 5 | store not in order"; w is what the inner call leaves
unfoldable pub checked : List ℕ → List ℕ → Words → Words
checked t r w = cond (in_order t r) w (Refused StoreNotInOrder, t, r)
