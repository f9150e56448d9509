-- `replay_serve::serve::serve` meets its contract.
-- Assumes nothing.
use mathlib.Core.Path.{sym, ◌∙◌}
use native.Mathlib.Omega.{arith}
use Rattle.replay_serve.proofs.ServeLaws.{found_one, not_one, serving_start, serving_more, served_to}
use Rattle.replay_serve.proofs.serve.serve.Goals as goal
use Rattle.replay_serve.proofs.serve.serve.Goals.{then-is_err-via-then-is_err, then-is_err-via-else-is_err+then-reached-gt-FULL}

pub loop-at-init : goal.loop-at-init
loop-at-init c = serving_start _ _ _ _ c.requires

pub turn-reached-requires : goal.turn-reached-requires
turn-reached-requires c = (c.loop-at.invariant.inside, omega (arith, c.loop-at.invariant.room))

pub returns-then-is_err-clause-served : goal.returns-then-is_err-clause-served
returns-then-is_err-clause-served c =
    elim c.then-is_err.branch [
      | then-is_err-via-then-is_err w ↦ served_to _ c.loop-at.invariant c.turn-reached.ensures (λ f. absurd (not_one (sym c.is_err.ensures.value ∙ w.if-is_err.true) f))
      | then-is_err-via-else-is_err+then-reached-gt-FULL w ↦ served_to _ c.loop-at.invariant c.turn-reached.ensures (λ f. omega (arith, w.if-reached-gt-FULL.true))
    ]

pub loop-at-preserved : goal.loop-at-preserved
loop-at-preserved c = serving_more _ c.loop-at.invariant c.turn-reached.ensures (found_one _ c.if-is_err.ensures.value) (omega (arith, c.if-reached-gt-FULL.false))
