-- `yring::ring::Ring::new` meets its contract.
-- Assumes nothing.
use Rattle.std.proofs.Common.{◌≤◌, mul-le-mul, arith}
use Rattle.yring.proofs.ring.Ring.new.Goals as goal

pub overflow_mul-result : goal.overflow_mul-result
overflow_mul-result c =
    let a : c.args.slot ≤ 8192 = omega arith in
    let b : c.args.capacity ≤ 65536 = omega arith in
    record { fits = omega (arith, mul-le-mul a b) }
