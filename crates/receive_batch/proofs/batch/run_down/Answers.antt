-- `receive_batch::batch::run_down` meets its contract.
-- Assumes nothing.
use Rattle.receive_batch.proofs.LookLaws.{search_end, look_keeps, look_fewer, search_on}
use native.Mathlib.Omega.{arith}
use mathlib.Core.Path.{◌∙◌}
use Rattle.receive_batch.proofs.batch.run_down.Goals as goal

pub returns-in-Break : goal.returns-in-Break
returns-in-Break c = search_end _ c.loop-front.invariant.0 _ _ (rw c.in-Break.is at c.look_front.ensures) ∙ c.loop-front.invariant.2

pub loop-front-smaller : goal.loop-front-smaller
loop-front-smaller c = omega (arith, look_fewer _ c.loop-front.invariant.0 _ (rw c.in_default.is at c.look_front.ensures))

pub loop-front-preserved : goal.loop-front-preserved
loop-front-preserved c =
    let e = rw c.in_default.is at c.look_front.ensures in
    let k = look_keeps _ c.loop-front.invariant.0 _ e in
    (k.turning, k.long ∙ c.loop-front.invariant.1, search_on _ c.loop-front.invariant.0 _ e ∙ c.loop-front.invariant.2)
