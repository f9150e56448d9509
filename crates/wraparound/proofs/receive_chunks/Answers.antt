-- `wraparound::receive_chunks` meets its contract. The measure is what the lane holds.
-- Assumes nothing.
use mathlib.Core.Path.{◌∙◌, sym}
use Rattle.lane.proofs.OrderLaws.{refundable, refill_fills}
use Rattle.wraparound.proofs.Ends.{ready_still, idle_empty}
use Rattle.wraparound.proofs.receive_chunks.Goals as goal

pub refill-requires : goal.refill-requires
refill-requires c = refundable _ c.requires.0.power.most _ c.loop-found.invariant

pub returns-in-Err : goal.returns-in-Err
returns-in-Err c = idle_empty _ c.requires.0.power.most _ c.loop-found.invariant _ (sym c.refill.ensures ∙ c.in-Err.is)

pub receive_chunk-run-requires : goal.receive_chunk-run-requires
receive_chunk-run-requires c = (c.requires.0, refill_fills _ c.requires.0.power.most _ c.loop-found.invariant _ (sym c.refill.ensures ∙ c.in-Ok.is))

pub loop-found-smaller : goal.loop-found-smaller
loop-found-smaller c = let k = ready_still _ c.requires.0.power.most _ c.loop-found.invariant _ (sym c.refill.ensures ∙ c.in-Ok.is) in rw (← k.0, ← k.1) c.receive_chunk-run.ensures.1

pub loop-found-preserved : goal.loop-found-preserved
loop-found-preserved c = c.receive_chunk-run.ensures.0
