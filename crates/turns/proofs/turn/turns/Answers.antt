-- `turns::turn::turns` meets its contract.
-- Assumes nothing.
use Rattle.turns.proofs.FrontLaws.{turns_end, turn_keeps, turn_fewer, turns_on, keeps_ringed}
use native.Mathlib.Omega.{arith}
use mathlib.Core.Path.{◌∙◌}
use Rattle.turns.proofs.turn.turns.Goals as goal

pub returns-in-Break : goal.returns-in-Break
returns-in-Break c = turns_end _ _ _ c.loop-took.invariant.0 _ _ (rw c.in-Break.is at c.poll_front.ensures) ∙ c.loop-took.invariant.3

pub loop-took-smaller : goal.loop-took-smaller
loop-took-smaller c = omega (arith, turn_fewer _ _ _ c.loop-took.invariant.0 _ (rw c.in_default.is at c.poll_front.ensures))

pub loop-took-preserved : goal.loop-took-preserved
loop-took-preserved c =
    let e = rw c.in_default.is at c.poll_front.ensures in
    let k = turn_keeps _ _ _ c.loop-took.invariant.0 _ e in
    (k.turning, keeps_ringed k c.args.r.now c.loop-took.invariant.1, k.long ∙ c.loop-took.invariant.2, turns_on _ _ _ c.loop-took.invariant.0 _ e ∙ c.loop-took.invariant.3)
