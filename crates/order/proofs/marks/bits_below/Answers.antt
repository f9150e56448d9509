-- `order::marks::bits_below` meets its contract.
-- Assumes nothing.
use native.Mathlib.Omega.{arith}
use Rattle.std.proofs.lemmas.Bool.Decides.{nat_tests}
use Rattle.order_slot.proofs.TellsLaws.{tells_by}
use Rattle.order.proofs.MarkLaws.{shifted_tells}
use Rattle.order.proofs.marks.bits_below.Goals as goal

pub returns-then-n-ge64 : goal.returns-then-n-ge64
returns-then-n-ge64 c = tells_by _ (λ e b h k. omega arith) (λ p. grind (arith, nat_tests))

pub returns-else-n-ge64 : goal.returns-else-n-ge64
returns-else-n-ge64 c = shifted_tells _ _ c.if-n-ge64.false c.ranges.word.fits
