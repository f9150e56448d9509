-- `receive_batch::batch::drain_into` meets its contract.
-- Assumes nothing.
use Rattle.receive_batch.proofs.DrainLaws.{draining_start, draining_full, draining_none, drain_front, drain_kept, drain_some, drain_within, draining_next}
use Rattle.turns.proofs.FrontLaws.{keeps_ringed}
use Rattle.receive_batch.specs.Batch.{give_chunk}
use Prim.Native.Nat.{ℕ}
use mathlib.Core.List.{List}
use native.Mathlib.Omega.{arith}
use mathlib.Core.Path.{ap}
use Rattle.receive_batch.proofs.batch.drain_into.Goals as goal

pub loop-received-init : goal.loop-received-init
loop-received-init c = draining_start _ _ _ _ c.requires.0

pub returns-in_default : goal.returns-in_default
returns-in_default c = draining_none c.loop-received.invariant c.loop-received-test.true _ (rw c.in_default.is at c.refresh_active.ensures)

pub give_chunk-received-requires : goal.give_chunk-received-requires
give_chunk-received-requires c =
    let e = rw c.in-Some.is at c.refresh_active.ensures in
    (drain_front c.loop-received.invariant c.loop-received-test.true _ _ e, keeps_ringed (drain_kept c.loop-received.invariant c.loop-received-test.true _ _ e) c.args.r.now c.requires.1, omega (arith, c.requires.2, c.loop-received.invariant.long, c.loop-received-test.true))

pub overflow_add-received : goal.overflow_add-received
unfolding give_chunk
overflow_add-received c =
    let e = rw c.in-Some.is at c.refresh_active.ensures in
    omega (arith, ap (λ (z : ℕ × List ℕ × List ℕ). z.0) c.give_chunk-received.ensures, drain_within c.loop-received.invariant c.loop-received-test.true _ _ e)

pub loop-received-smaller : goal.loop-received-smaller
unfolding give_chunk
loop-received-smaller c =
    let e = rw c.in-Some.is at c.refresh_active.ensures in
    omega (arith, ap (λ (z : ℕ × List ℕ × List ℕ). z.0) c.give_chunk-received.ensures, drain_within c.loop-received.invariant c.loop-received-test.true _ _ e, drain_some c.loop-received.invariant c.loop-received-test.true _ _ e)

pub loop-received-preserved : goal.loop-received-preserved
loop-received-preserved c = draining_next c.loop-received.invariant c.loop-received-test.true _ _ (rw c.in-Some.is at c.refresh_active.ensures) c.requires.2 _ _ _ c.give_chunk-received.ensures

pub returns : goal.returns
returns c = draining_full c.loop-received.invariant c.loop-received-test.false
