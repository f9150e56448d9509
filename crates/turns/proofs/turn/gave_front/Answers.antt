-- `turns::turn::gave_front` meets its contract.
-- Assumes nothing.
use Rattle.turns.specs.Turn.{gave_front}
use Rattle.lane.proofs.TableLaws.{frames}
use Rattle.turns.proofs.turn.gave_front.Goals as goal

pub rotate_if-requires : goal.rotate_if-requires
rotate_if-requires c = rw c.store.ensures (simp frames (c.requires.0, c.requires.2))

pub returns : goal.returns
unfolding gave_front
returns c = rw (c.rotate_if.ensures, c.store.ensures, c.less_one-budget.ensures)
