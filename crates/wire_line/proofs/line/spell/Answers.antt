-- `wire_line::line::spell` meets its contract.
-- Assumes nothing.
use native.Mathlib.Omega.{arith}
use Rattle.wire_line.proofs.DecimalLaws.{spell_start, spell_room, spell_more, spell_end}
use Rattle.wire_line.proofs.line.spell.Goals as goal

pub loop-left-init : goal.loop-left-init
loop-left-init c = spell_start _ c.args.digits.now _ c.ranges.n.fits c.requires c.last_digit.ensures

pub overflow_sub-at : goal.overflow_sub-at
overflow_sub-at c = spell_room _ c.loop-left.invariant.few c.loop-left-test.true

pub loop-left-preserved : goal.loop-left-preserved
loop-left-preserved c = spell_more _ _ _ c.loop-left.invariant c.loop-left-test.true c.last_digit-in-loop-left.ensures

pub returns : goal.returns
returns c = (omega (arith, c.loop-left.invariant.place), c.loop-left.invariant.long, spell_end c.loop-left.invariant (omega arith))
