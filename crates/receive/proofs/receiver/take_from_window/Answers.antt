-- `receive::receiver::take_from_window` meets its contract.
-- Assumes nothing.
use Rattle.lane.proofs.TableLaws.{frames}
use Rattle.receive.specs.Receive.{take_from_window}
use native.Mathlib.Omega.{arith}
use Rattle.receive.proofs.receiver.take_from_window.Goals as goal

pub overflow_sub-t : goal.overflow_sub-t
overflow_sub-t c = rw c.store.ensures (simp frames (omega (arith, c.requires.2)))

pub returns : goal.returns
unfolding take_from_window
returns c = rw c.store.ensures (simp frames)
