-- `order_slot::record::cursors_hold` meets its contract.
-- Assumes nothing.
use native.Mathlib.Omega.{arith}
use Rattle.std.proofs.lemmas.Bool.Decides.{nat_tests}
use Rattle.order_slot.proofs.TellsLaws.{tells_by, denied}
use Rattle.order_slot.proofs.record.cursors_hold.Goals as goal

pub returns-then-distance-capacity-3 : goal.returns-then-distance-capacity-3
returns-then-distance-capacity-3 c =
    tells_by _
    (λ e. record {
      tail_u64 = c.ranges.tail.fits;
      released_u64 = c.ranges.released.fits;
      head_u64 = c.ranges.head.fits;
      known_u64 = c.ranges.known.fits;
      head_on = grind arith;
      known_on = grind arith;
      tail_on = grind arith;
      tail_within = grind (arith, nat_tests);
    })
    (λ p. grind (arith, nat_tests))

pub returns-else-distance-capacity-3 : goal.returns-else-distance-capacity-3
returns-else-distance-capacity-3 c = denied (cc) (λ p. grind arith)
