-- `receive_batch::batch::refresh_active` meets its contract.
-- Assumes nothing.
use mathlib.Core.Bool.{true, false}
use Rattle.turns.proofs.CollectKeeps.{collect_keeps}
use Rattle.turns.proofs.DueLaws.{due_keeps}
use Rattle.receive_batch.proofs.LookLaws.{search_rest, rest_ready, rest_none, rest_collects, rest_starts, run_keeps}
use native.Mathlib.Omega.{arith}
use mathlib.Core.Path.{refl, ap, ◌∙◌}
use Rattle.receive_batch.proofs.batch.refresh_active.Goals as goal

pub loop-lane-init : goal.loop-lane-init
loop-lane-init c = (rw c.collect_if_due.ensures (due_keeps _ c.requires).turning, refl, refl)

pub run_down-requires : goal.run_down-requires
run_down-requires c = c.loop-lane.invariant.0

pub returns-in-Some : goal.returns-in-Some
returns-in-Some c = rest_ready _ _ _ _ (rw c.in-Some.is at c.run_down.ensures) ∙ c.loop-lane.invariant.2 ∙ ap (search_rest false) c.collect_if_due.ensures ∙ rest_starts _

pub returns-then-collected : goal.returns-then-collected
returns-then-collected c = rest_none _ _ _ c.if-collected.true (rw c.in_default.is at c.run_down.ensures) ∙ c.loop-lane.invariant.2 ∙ ap (search_rest false) c.collect_if_due.ensures ∙ rest_starts _

pub collect_ready-requires : goal.collect_ready-requires
collect_ready-requires c =
    let k = run_keeps _ _ _ c.loop-lane.invariant.0 c.run_down.ensures in
    (k.turning.shaped, k.turning.names, k.turning.linked)

pub loop-lane-smaller : goal.loop-lane-smaller
loop-lane-smaller c = rw c.if-collected.false (omega arith)

pub loop-lane-preserved : goal.loop-lane-preserved
loop-lane-preserved c =
    let k = run_keeps _ _ _ c.loop-lane.invariant.0 c.run_down.ensures in
    let m = collect_keeps true _ k.turning in
    rw c.collect_ready.ensures (m.turning, m.long ∙ k.long ∙ c.loop-lane.invariant.1, rest_collects _ _ _ c.if-collected.false (rw c.in_default.is at c.run_down.ensures) ∙ c.loop-lane.invariant.2)
