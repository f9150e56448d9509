-- `receive_batch::batch::gave_chunk` meets its contract.
-- Assumes nothing.
use Rattle.receive_batch.specs.Batch.{gave_chunk}
use Rattle.receive_batch.proofs.ChunkLaws.{end_keeps_flags}
use Rattle.store.proofs.LaneFields.{Flagged}
use Rattle.lane.proofs.TableLaws.{frames}
use native.Mathlib.Omega.{arith}
use mathlib.Core.Path.{ap}
use Rattle.receive_batch.proofs.batch.gave_chunk.Goals as goal

pub store-requires : goal.store-requires
store-requires c = rw (c.end_full_burst-end.ensures, ap (λ (z : Flagged). z.0.slot) (end_keeps_flags c.args.l)) (omega (arith, c.requires.1, c.requires.0.room))

pub rotate_if-requires : goal.rotate_if-requires
rotate_if-requires c = rw c.store.ensures (simp frames (c.requires.0, c.requires.2))

pub returns : goal.returns
unfolding gave_chunk
returns c = rw (c.rotate_if.ensures, c.store.ensures, c.end_full_burst-end.ensures, c.full_budget.ensures)
