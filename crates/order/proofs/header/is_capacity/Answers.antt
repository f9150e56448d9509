-- `order::header::is_capacity` meets its contract.
-- Assumes nothing.
use native.Mathlib.Omega.{arith}
use Rattle.std.proofs.lemmas.Bool.Decides.{nat_tests}
use Rattle.order_slot.proofs.TellsLaws.{tells_by, tells_eq}
use Rattle.order.proofs.HeaderLaws.{capacity_small, capacity_is, capacity_of}
use Rattle.order.proofs.header.is_capacity.Goals as goal

pub returns-then-log-le-MOST_LOG : goal.returns-then-log-le-MOST_LOG
returns-then-log-le-MOST_LOG c = tells_eq _ _ (λ e. capacity_of c.args.c c.if-log-le-MOST_LOG.true e) (λ k. capacity_is c.args.c k)

pub returns-else-log-le-MOST_LOG : goal.returns-else-log-le-MOST_LOG
returns-else-log-le-MOST_LOG c = tells_by _ (λ e. absurd (grind (arith, nat_tests))) (λ k. absurd (omega (arith, capacity_small c.args.c k)))
