-- `receive::receiver::take_from_new_window` meets its contract.
-- Assumes nothing.
use lib.ListN.{length-set}
use native.Mathlib.Omega.{arith}
use Rattle.receive.specs.Receive.{take_if_popped}
use Rattle.receive.proofs.ReceiveLaws.{fast_after, counted_long}
use Rattle.receive.proofs.receiver.take_from_new_window.Goals as goal

pub bounds-t-12 : goal.bounds-t-12
bounds-t-12 c = omega (arith, counted_long _ _ _ _ _ c.take_from_window-took.ensures, c.requires.0.room)

pub shape_of-t : goal.shape_of-t
shape_of-t c = simp length-set (counted_long _ _ _ _ _ c.take_from_window-took.ensures)

pub returns : goal.returns
unfolding take_if_popped
returns c = fast_after _ _ _ _ _ _ c.take_from_window-took.ensures
