-- `replay::run` meets its contract.
-- Assumes nothing.
use mathlib.Core.Path.{◌≡◌, sym, subst}
use native.Mathlib.Omega.{arith}
use borrow.Author.Rules.{rules}
use Rattle.std.specs.Prelude.{Err}
use Rattle.replay.specs.declared.failure.Failure.TheVariants.{WriteFailed}
use Rattle.replay.specs.Ran.{Outcome, Ran}
use Rattle.replay.proofs.PlaceLaws.{next_same, next_differs}
use Rattle.replay.proofs.RunLaws.{running_start, running_on, turns_over, ran_stopped, ran_unwritten}
use Rattle.replay.proofs.run.Goals as goal

pub loop-turn-init : goal.loop-turn-init
loop-turn-init g c = running_start _ c.requires

pub returns-in_err-place : goal.returns-in_err-place
returns-in_err-place g c =
    let e : c.from_residual-in_err-place.result ≡ Err WriteFailed = search rules in
    let f = c.in_ok-fetched.ensures.fetched in
    let w = c.in_err-place.ensures.place in
    subst (λ (o : Outcome). Ran o c.round-answered.new.stores) (sym e) (ran_unwritten (omega (arith, f.long)) f c.round-answered.ensures c.loop-turn.invariant (omega arith) w.1)

pub returns-then-eq : goal.returns-then-eq
returns-then-eq g c =
    let f = c.in_ok-fetched.ensures.fetched in
    ran_stopped (omega (arith, f.long)) f c.round-answered.ensures c.loop-turn.invariant c.in_ok-place.ensures.place (next_same c.if-eq.ensures)

pub loop-turn-preserved : goal.loop-turn-preserved
loop-turn-preserved g c =
    let f = c.in_ok-fetched.ensures.fetched in
    running_on (omega (arith, f.long)) f c.round-answered.ensures c.loop-turn.invariant c.in_ok-place.ensures.place (next_differs c.if-eq.ensures)

pub returns : goal.returns
returns g c = turns_over c.loop-turn.invariant (omega arith)
