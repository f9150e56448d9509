-- `lane::lane::Lane::push_and_flush` meets its contract.
-- Assumes nothing.
use Rattle.std.proofs.Common.{sym, ap, ◌∙◌}
use Rattle.lane.specs.Lane.{sent_by, push_and_flush}
use Rattle.lane.proofs.lane.Lane.push_and_flush.Goals as goal

pub returns-in_err-pushed : goal.returns-in_err-pushed
unfolding push_and_flush sent_by
returns-in_err-pushed c = rw c.from_residual.ensures (ap (sent_by c.args.self) (sym c.in_err-pushed.was ∙ c.push.ensures))

pub returns : goal.returns
unfolding push_and_flush sent_by
returns c = ap (sent_by c.args.self) (sym c.in_ok-pushed.was ∙ c.push.ensures)
