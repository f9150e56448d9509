-- `queues::registry::freed_at` meets its contract.
-- Assumes nothing.
use mathlib.Core.Path.{◌≡◌, ap, ◌∙◌}
use mathlib.Core.List.{List}
use Prim.Native.Nat.{ℕ}
use native.Mathlib.Omega.{arith}
use Rattle.lane.specs.Table.{cell}
use Rattle.queues.specs.Registry.{free_column}
use Rattle.queues.proofs.registry.freed_at.Goals as goal

at_place : (t : List ℕ) (x a b : ℕ) → x ≡ cell t free_column a → a ≡ b → x ≡ cell t free_column b
at_place t x a b e p = e ∙ ap (cell t free_column) p

pub returns : goal.returns
returns c = at_place c.args.t.now _ _ _ c.cell.ensures (omega arith)
