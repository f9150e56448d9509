-- `receive::receiver::try_recv_refill` meets its contract.
-- Assumes nothing.
use Rattle.receive.specs.Receive.{try_recv_refill}
use Rattle.turns.proofs.FrontLaws.{keeps_ringed}
use Rattle.receive.proofs.ReceiveLaws.{else_item, else_nothing, take_window_unmoved, unmoved_is}
use Rattle.turns.proofs.DueLaws.{due_keeps}
use mathlib.Core.Path.{◌∙◌}
use Rattle.receive.proofs.receiver.try_recv_refill.Goals as goal

pub take_front_window-requires : goal.take_front_window-requires
take_front_window-requires c =
    let k = due_keeps _ c.requires.0 in
    rw c.collect_if_due.ensures (k.turning, keeps_ringed k c.args.r.now c.requires.1)

pub poll_loop-requires : goal.poll_loop-requires
poll_loop-requires c =
    let k = due_keeps _ c.requires.0 in
    let u = unmoved_is _ _ _ (rw c.in_default.is at c.take_front_window.ensures) (take_window_unmoved _ c.args.r.now) in
    rw (u, c.collect_if_due.ensures) (k.turning, keeps_ringed k c.args.r.now c.requires.1)

pub returns-in-Some : goal.returns-in-Some
unfolding try_recv_refill
returns-in-Some c = else_item _ _ _ _ (rw (c.in-Some.is, c.collect_if_due.ensures) at c.take_front_window.ensures)

pub returns : goal.returns
unfolding try_recv_refill
returns c = c.poll_loop.ensures ∙ else_nothing _ _ _ (rw (c.in_default.is, c.collect_if_due.ensures) at c.take_front_window.ensures)
