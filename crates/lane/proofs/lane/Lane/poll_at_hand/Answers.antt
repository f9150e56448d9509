-- `lane::lane::Lane::poll_at_hand` meets its contract.
-- Assumes nothing.
use Rattle.lane.proofs.AtHandLaws.{poll_at_hand_lem}
use borrow.Author.Rules.{rules}
use Rattle.lane.proofs.lane.Lane.poll_at_hand.Goals as goal

pub charge-requires : goal.charge-requires
charge-requires c = rw c.pop-taken.ensures (c.requires.1.some, search rules)

pub returns : goal.returns
returns c = rw (c.end_burst.ensures, c.charge.ensures, c.pop-taken.ensures) (poll_at_hand_lem _ _ _ c.requires.1 c.requires.2)
