-- `order::header::header_holds` meets its contract.
-- Assumes nothing.
use native.Mathlib.Omega.{arith}
use Rattle.order_slot.proofs.TellsLaws.{told, untold, tells_true, tells_by, denied}
use Rattle.order.proofs.header.header_holds.Goals as goal

pub returns-then-places_hold : goal.returns-then-places_hold
returns-then-places_hold c =
    tells_by _ (λ e. record { lengths = grind (arith, told); places = grind (arith, told); limits = told c.limits_hold.ensures e })
    (λ p. tells_true c.limits_hold.ensures p.limits)

pub returns-else-places_hold : goal.returns-else-places_hold
returns-else-places_hold c = denied (cc) (λ p. grind (arith, untold, p))
