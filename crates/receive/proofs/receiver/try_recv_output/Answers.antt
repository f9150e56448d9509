-- `receive::receiver::try_recv_output` meets its contract.
-- Assumes nothing.
use mathlib.Core.Path.{ap, ◌∙◌}
use Rattle.receive.specs.Receive.{answer_one}
use Rattle.receive.proofs.FastLaws.{unissued_refill, unregistered_refill, closed_refill}
use Rattle.receive.proofs.receiver.try_recv_output.Goals as goal

pub returns-then-slot-t : goal.returns-then-slot-t
returns-then-slot-t c = c.answer_refill-a.ensures ∙ ap (answer_one _) (unissued_refill _ c.args.r.now c.if-slot-t.true)

pub returns-then-l-ne1 : goal.returns-then-l-ne1
returns-then-l-ne1 c = c.answer_refill-a-then-l-ne1.ensures ∙ ap (answer_one _) (unregistered_refill _ c.args.r.now c.if-slot-t.false _ c.load-l.ensures c.if-l-ne1.true)

pub returns-then-l-eq0 : goal.returns-then-l-eq0
returns-then-l-eq0 c = c.answer_refill-a-then-l-eq0.ensures ∙ ap (answer_one _) (closed_refill _ c.args.r.now c.if-slot-t.false _ c.load-l.ensures c.if-l-ne1.false c.if-l-eq0.true)

pub answer_window-requires : goal.answer_window-requires
answer_window-requires c =
    record { in_order = c.requires; is_issued = c.if-slot-t.false; is_lane = c.load-l.ensures; is_registered = c.if-l-ne1.false; is_open = c.if-l-eq0.false }
