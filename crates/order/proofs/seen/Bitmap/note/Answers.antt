-- `order::seen::Bitmap::note` meets its contract.
-- Assumes nothing.
use native.Mathlib.Omega.{arith}
use Rattle.order_slot.specs.Tells.{yes, no}
use Rattle.order.proofs.seen.Bitmap.note.Goals as goal

pub returns-then-slot-issued-clause-tells : goal.returns-then-slot-issued-clause-tells
returns-then-slot-issued-clause-tells c = no (λ p. grind (arith, p))

pub returns-clause-tells : goal.returns-clause-tells
returns-clause-tells c = yes (grind arith, grind arith)
