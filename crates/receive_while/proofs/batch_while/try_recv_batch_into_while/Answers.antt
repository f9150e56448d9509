-- `receive_while::batch_while::try_recv_batch_into_while` meets its contract.
-- Assumes nothing.
use native.Mathlib.Omega.{arith}
use Rattle.store.specs.Order.{but_held}
use Rattle.receive_batch.proofs.BatchLaws.{batch_room}
use Rattle.receive_while.proofs.WhileBatchLaws.{while_refused, while_done, while_refunds, while_rests}
use Rattle.turns.proofs.DueLaws.{turning_of, ringed_of}
use mathlib.Core.Path.{sym, ◌∙◌}
use Rattle.receive_while.proofs.batch_while.try_recv_batch_into_while.Goals as goal

pub drain_while-drained-requires : goal.drain_while-drained-requires
drain_while-drained-requires c =
    ((turning_of _ _ (but_held c.requires)), ringed_of _ _ (but_held c.requires), batch_room _ _ _ (sym c.batch_verdict.ensures ∙ c.in-Ok.is))

pub release_all-requires : goal.release_all-requires
release_all-requires c =
    while_refunds _ c.args.r.now c.args.out.now _ c.args.bound _ _ _ c.drain_while-drained.ensures (turning_of _ _ (but_held c.requires))

pub answer_while-requires : goal.answer_while-requires
answer_while-requires c =
    (omega (arith, c.requires.stores.shaped.room), while_rests _ c.args.r.now c.args.out.now _ c.args.bound _ _ _ c.drain_while-drained.ensures (turning_of _ _ (but_held c.requires)) _ c.release_all.ensures)

pub returns-in-Err : goal.returns-in-Err
returns-in-Err c = while_refused _ _ _ _ _ _ (sym c.batch_verdict.ensures ∙ c.in-Err.is)

pub returns-in-Ok : goal.returns-in-Ok
returns-in-Ok c =
    while_done _ _ c.args.out.now _ c.args.bound _ _ _ c.drain_while-drained.ensures _ _ _ (sym c.batch_verdict.ensures ∙ c.in-Ok.is) c.release_all.ensures c.answer_while.ensures
