-- `ready::ready::group_at` meets its contract.
-- Assumes nothing.
use borrow.Author.Tests.{lt-ltb, le-ltb}
use Rattle.ready.specs.Ready.{group_at}
use borrow.Author.Rules.{rules}
use Rattle.ready.proofs.ready.group_at.Goals as goal

pub returns-then-next-n : goal.returns-then-next-n
unfolding group_at
returns-then-next-n c = (rw (lt-ltb _ _ c.if-next-n.true), search rules)

pub returns-else-next-n : goal.returns-else-next-n
unfolding group_at
returns-else-next-n c = (rw (le-ltb _ _ c.if-next-n.false), search rules)
