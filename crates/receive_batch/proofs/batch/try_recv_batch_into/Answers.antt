-- `receive_batch::batch::try_recv_batch_into` meets its contract.
-- Assumes nothing.
use native.Mathlib.Omega.{arith}
use Rattle.store.specs.Order.{but_held}
use Rattle.receive_batch.proofs.BatchLaws.{batch_room, batch_refused, batch_done, batch_refunds, batch_rests}
use Rattle.turns.proofs.DueLaws.{turning_of, ringed_of}
use mathlib.Core.Path.{sym, ◌∙◌}
use Rattle.receive_batch.proofs.batch.try_recv_batch_into.Goals as goal

pub drain_into-received-requires : goal.drain_into-received-requires
drain_into-received-requires c = ((turning_of _ _ (but_held c.requires)), ringed_of _ _ (but_held c.requires), batch_room _ _ _ (sym c.batch_verdict.ensures ∙ c.in-Ok.is))

pub release_all-requires : goal.release_all-requires
release_all-requires c = batch_refunds _ c.args.r.now c.args.out.now _ _ _ _ c.drain_into-received.ensures (turning_of _ _ (but_held c.requires))

pub answer_items-requires : goal.answer_items-requires
answer_items-requires c = (omega (arith, c.requires.stores.shaped.room), batch_rests _ c.args.r.now c.args.out.now _ _ _ _ c.drain_into-received.ensures (turning_of _ _ (but_held c.requires)) _ c.release_all.ensures)

pub returns-in-Err : goal.returns-in-Err
returns-in-Err c = batch_refused _ _ _ _ _ (sym c.batch_verdict.ensures ∙ c.in-Err.is)

pub returns-in-Ok : goal.returns-in-Ok
returns-in-Ok c = batch_done _ _ c.args.out.now _ _ _ _ c.drain_into-received.ensures _ _ _ (sym c.batch_verdict.ensures ∙ c.in-Ok.is) c.release_all.ensures c.answer_items.ensures
