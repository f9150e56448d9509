-- `receive_batch::batch::batch_verdict` meets its contract.
-- Assumes nothing.
use Rattle.std.proofs.Common.{◌∙◌, refl, sym}
use Rattle.std.proofs.lemmas.Result.{err_from_is_err_and}
use Rattle.store.specs.Refusal.{and_then}
use Rattle.receive_batch.specs.Batch.{batch_verdict}
use Rattle.receive_batch.proofs.batch.batch_verdict.Goals as goal

pub returns-in_err-receiver_verdict : goal.returns-in_err-receiver_verdict
unfolding batch_verdict and_then
returns-in_err-receiver_verdict c =
    let p = err_from_is_err_and c.from_residual.result c.from_residual.ensures.1 in
    rw (p.1, p.2, sym c.receiver_verdict.ensures ∙ c.in_err-receiver_verdict.was) refl

pub returns : goal.returns
unfolding batch_verdict and_then
returns c = rw (sym c.receiver_verdict.ensures ∙ c.in_ok-receiver_verdict.was) c.room_verdict.ensures
