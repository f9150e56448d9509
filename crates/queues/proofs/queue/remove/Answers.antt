-- `queues::queue::remove` meets its contract.
-- Assumes nothing.
use native.Mathlib.Omega.{arith}
use lib.ListN.{length-set}
use Rattle.queues.proofs.Sift.{sift_start, sift_skip, sift_keep, sift_end}
use Rattle.queues.proofs.queue.remove.Goals as goal

pub loop-i-init : goal.loop-i-init
loop-i-init c = sift_start _ _

pub cell-x-requires : goal.cell-x-requires
cell-x-requires c =
    omega (arith, c.loop-i.invariant.long, c.requires.room, c.row_of.ensures.1)

pub set_cell-requires : goal.set_cell-requires
set_cell-requires c =
    omega (arith, c.loop-i.invariant.long, c.requires.room, c.row_of-in-loop-i.ensures.1)

-- a slot that stays
pub loop-i-preserved : goal.loop-i-preserved
loop-i-preserved c =
    let from = c.row_of in
    rw c.set_cell.ensures
    (sift_keep _ _ c.requires _ _ _ from.result c.loop-i.invariant (omega arith) from.ensures.0 _
    c.cell-x.ensures _ c.row_of-in-loop-i.ensures.0 c.if-x-slot.false)

-- the slot that goes
pub loop-i-preserved-then-x-slot : goal.loop-i-preserved-then-x-slot
loop-i-preserved-then-x-slot c =
    let from = c.row_of in
    sift_skip _ _ c.requires _ _ _ from.result c.loop-i.invariant (omega arith) from.ensures.0 _
    c.cell-x.ensures c.if-x-slot.true

pub bounds-t-2-2 : goal.bounds-t-2-2
bounds-t-2-2 c =
    omega (arith, c.loop-i.invariant.long, c.requires.room)

pub shape_of-t : goal.shape_of-t
shape_of-t c = simp length-set c.loop-i.invariant.long

pub returns : goal.returns
returns c = sift_end _ _ _ _ _ c.loop-i.invariant (omega arith)
