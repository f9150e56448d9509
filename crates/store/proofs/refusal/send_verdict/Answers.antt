-- `store::refusal::send_verdict` meets its contract.
-- Assumes nothing.
use Rattle.std.proofs.Common.{◌∙◌, refl, sym, arith}
use Rattle.std.proofs.lemmas.Result.{err_from_is_err_and}
use Rattle.store.specs.Refusal.{send_verdict, and_then}
use Rattle.store.proofs.RefusalLaws.{sender_passes}
use Rattle.store.proofs.refusal.send_verdict.Goals as goal

pub load-requires : goal.load-requires
load-requires c = omega (arith, (sender_passes _ _ (sym c.sender_verdict.ensures ∙ c.in_ok-sender_verdict.was)).is_issued, c.requires.issued_most, c.requires.room)

pub returns-in_err-sender_verdict : goal.returns-in_err-sender_verdict
unfolding send_verdict and_then
returns-in_err-sender_verdict c =
    let p = err_from_is_err_and c.from_residual.result c.from_residual.ensures.1 in
    rw (p.1, p.2, sym c.sender_verdict.ensures ∙ c.in_err-sender_verdict.was) refl

pub returns : goal.returns
unfolding send_verdict and_then
returns c = rw (sym c.sender_verdict.ensures ∙ c.in_ok-sender_verdict.was, ← c.load.ensures) c.closed_verdict.ensures
