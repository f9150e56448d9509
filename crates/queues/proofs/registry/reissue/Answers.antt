-- `queues::registry::reissue` meets its contract.
-- Assumes nothing.
use mathlib.Core.Path.{refl}
use native.Mathlib.Omega.{arith}
use Rattle.queues.proofs.MovedDown.{move_one_more, move_end}
use Rattle.queues.proofs.registry.reissue.Goals as goal

pub loop-i-init : goal.loop-i-init
loop-i-init c = refl

pub loop-i-preserved : goal.loop-i-preserved
loop-i-preserved c =
    let loop = c.loop-i in
    let t = c.args.t.now in
    rw c.set_cell.ensures
    (move_one_more t _ _ _ loop.invariant _ c.cell-above.ensures)

pub returns : goal.returns
returns c = move_end _ _ _ c.loop-i.i c.requires.1 c.loop-i.invariant (omega arith) (omega arith)
