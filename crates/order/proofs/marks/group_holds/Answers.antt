-- `order::marks::group_holds` meets its contract.
-- Assumes nothing.
use mathlib.Core.Path.{ap}
use native.Mathlib.Omega.{arith}
use Rattle.lane.specs.Table.{cell_at}
use Rattle.ready.specs.declared.ready.Group.{Group}
use Rattle.ready.specs.Ready.{group_column}
use Rattle.order.proofs.MarkLaws.{group_tells}
use Rattle.order.proofs.marks.group_holds.Goals as goal

pub returns : goal.returns
returns c =
    group_tells _ _ (ap (λ (g : Group). g.bits) c.load.ensures) (c.type_inv.t (cell_at group_column c.args.group)).fits
    (λ b h. omega (arith, h)) (λ b h. omega (arith, h)) c.bits_below.ensures
