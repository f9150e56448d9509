-- `sender::sender::lanes_verdict` meets its contract.
-- Assumes nothing.
use Rattle.std.proofs.Common.{◌∙◌, refl, sym}
use Rattle.std.proofs.lemmas.Result.{err_from_is_err_and}
use Rattle.sender.specs.Sender.{lanes_verdict}
use Rattle.store.specs.Refusal.{and_then}
use Rattle.sender.proofs.sender.lanes_verdict.Goals as goal

pub returns-in_err-receiver_verdict : goal.returns-in_err-receiver_verdict
unfolding lanes_verdict and_then
returns-in_err-receiver_verdict c =
    let p = err_from_is_err_and c.from_residual.result c.from_residual.ensures.1 in
    rw (p.1, p.2, sym c.receiver_verdict.ensures ∙ c.in_err-receiver_verdict.was) refl

pub returns : goal.returns
unfolding lanes_verdict and_then
returns c = rw (sym c.receiver_verdict.ensures ∙ c.in_ok-receiver_verdict.was) c.capacity_verdict.ensures
