-- `receive_while::batch_while::answer_while` meets its contract.
-- Assumes nothing.
use Rattle.receive_while.specs.While.{answer_while}
use Rattle.receive_while.proofs.batch_while.answer_while.Goals as goal

pub returns-then-drained : goal.returns-then-drained
unfolding answer_while
returns-then-drained c = rw (c.if-drained.true, c.held_less.ensures)

pub returns : goal.returns
unfolding answer_while
returns c = rw c.if-drained.false c.answer_items.ensures
