-- `sender::sender::take_slot` meets its contract.
-- Assumes nothing.
use borrow.Author.Tests.{lt-ltb, le-ltb}
use Rattle.sender.specs.Sender.{take_slot}
use Rattle.sender.proofs.sender.take_slot.Goals as goal

pub returns-then-d-t : goal.returns-then-d-t
unfolding take_slot
returns-then-d-t c = simp (lt-ltb _ _ c.if-d-t.true, c.reissue.ensures)

pub returns : goal.returns
unfolding take_slot
returns c = simp (le-ltb _ _ c.if-d-t.false, c.open_page.ensures)
