-- `receive_batch::batch::refresh_active` meets its contract.
-- Assumes nothing.
use mathlib.Core.Bool.{cond}
use Rattle.turns.specs.Turn.{Turning}
use Rattle.receive_batch.proofs.LookLaws.{search_rest}
use lib.ListN.{length}
use mathlib.Core.Path.{◌≡◌}
use Rattle.receive_batch.proofs.batch.refresh_active.Given as goal

abbrev pub invariant-loop-lane : goal.invariant-loop-lane
invariant-loop-lane l = Turning l.t × (length l.t ≡ length l.initial.t) × (search_rest l.collected l.t ≡ search_rest l.initial.collected l.initial.t)

abbrev pub decreases-loop-lane : goal.decreases-loop-lane
decreases-loop-lane l = cond l.collected 0 1
