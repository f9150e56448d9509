-- `yring::ring::Ring::pop_into` meets its contract.
-- Assumes nothing.
use Rattle.yring.proofs.RingLaws.{one_run, two_moves}
use Rattle.yring.specs.Ring.{pop_into}
use Rattle.std.proofs.Common.{◌≡◌, ◌+◌, ◌-◌, arith}
use Rattle.yring.proofs.ring.Ring.pop_into.Goals as goal

pub returns-then-n-end : goal.returns-then-n-end
unfolding pop_into
returns-then-n-end c =
    cc (one_run c.args.self c.requires.0.power c.args.store.now c.args.head c.args.count
    (omega (arith, c.index-start.ensures, c.if-n-end.true)))

pub returns : goal.returns
unfolding pop_into
returns c =
    let a = c.args in
    let start = c.index-start.result in
    let first = a.self.base + a.self.capacity - start in
    let whole : first + (a.count - first) ≡ a.count = omega (arith, c.if-n-end.false) in
    let moved = two_moves a.self c.requires.0.power a.store.now a.head first (a.count - first) (omega (arith, c.index-start.ensures)) (omega arith) a.out.now _ _ a.at start c.index-start.ensures.0 (omega (arith, c.if-n-end.false)) c.move_slots-2.ensures c.move_slots-3.ensures in
    cc (whole, moved)
