-- `receive_batch::batch::room_verdict` meets its contract.
-- Assumes nothing.
use Rattle.receive_batch.specs.Batch.{room_verdict}
use borrow.Author.Tests.{lt-ltb, le-ltb}
use Rattle.receive_batch.proofs.batch.room_verdict.Goals as goal

pub returns-then-room-limit : goal.returns-then-room-limit
unfolding room_verdict
returns-then-room-limit c = simp (lt-ltb _ _ c.if-room-limit.true)

pub returns : goal.returns
unfolding room_verdict
returns c = simp (le-ltb _ _ c.if-room-limit.false)
