-- `turns::turn::turns` meets its contract.
-- Assumes nothing.
use Rattle.turns.specs.Turn.{Turning, Ringed, turns}
use Rattle.queues.specs.Header.{queue_count}
use lib.ListN.{length}
use mathlib.Core.Path.{◌≡◌}
use Rattle.turns.proofs.turn.turns.Given as goal

abbrev pub invariant-loop-took : goal.invariant-loop-took
invariant-loop-took l = Turning l.t × Ringed l.t l.r × (length l.t ≡ length l.initial.t) × (turns l.t l.r l.fair ≡ turns l.initial.t l.r l.fair)

abbrev pub decreases-loop-took : goal.decreases-loop-took
decreases-loop-took l = queue_count l.t
