-- `order::header::limits_hold` meets its contract.
-- Assumes nothing.
use native.Mathlib.Omega.{arith}
use Rattle.std.proofs.lemmas.Bool.Decides.{nat_tests}
use Rattle.order_slot.proofs.TellsLaws.{tells_by, denied}
use Rattle.order.proofs.header.limits_hold.Goals as goal

pub returns-then-t-div_ceil : goal.returns-then-t-div_ceil
returns-then-t-div_ceil c =
    tells_by _
    (λ e. record {
      alive_flag = grind arith;
      budget_most = grind (arith, nat_tests);
      cursor_most = grind arith;
      first_cursor = (c.type_inv.t 10).fits;
    })
    (λ p. grind (arith, nat_tests, p.budget_most))

pub returns-else-t-div_ceil : goal.returns-else-t-div_ceil
returns-else-t-div_ceil c = denied (cc) (λ p. grind (arith, p.cursor_most))
