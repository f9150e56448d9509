-- `receive_batch::batch::run_down` meets its contract.
-- Assumes nothing.
use Rattle.turns.specs.Turn.{Turning}
use Rattle.receive_batch.specs.Batch.{run_down}
use Rattle.queues.specs.Header.{queue_count}
use lib.ListN.{length}
use mathlib.Core.Path.{◌≡◌}
use Rattle.receive_batch.proofs.batch.run_down.Given as goal

abbrev pub invariant-loop-front : goal.invariant-loop-front
invariant-loop-front l = Turning l.t × (length l.t ≡ length l.initial.t) × (run_down l.t ≡ run_down l.initial.t)

abbrev pub decreases-loop-front : goal.decreases-loop-front
decreases-loop-front l = queue_count l.t
