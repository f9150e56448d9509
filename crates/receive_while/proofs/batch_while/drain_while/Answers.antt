-- `receive_while::batch_while::drain_while` meets its contract.
-- Assumes nothing.
use Rattle.receive_while.proofs.WhileLaws.{admitting_start, admitting_full, admitting_none, admitting_next, admitting_stops, admit_front, admit_kept, admit_within, admit_more, stop_long, stop_output_long}
use Rattle.turns.proofs.FrontLaws.{keeps_ringed}
use Prim.Native.Nat.{ℕ, ◌^◌, ◌≤◌, ◌<◌}
use native.Mathlib.Omega.{arith}
use Rattle.receive_while.proofs.batch_while.drain_while.Goals as goal

-- a sum that is at most a word is one
fits_below : (a b : ℕ) → a ≤ b → b < 2 ^ 64 → a < 2 ^ 64
fits_below a b h l = omega arith

pub loop-received-init : goal.loop-received-init
loop-received-init c = admitting_start _ _ _ _ _ c.requires.0

pub returns-in_default : goal.returns-in_default
returns-in_default c =
    let d = c.loop-received.invariant in
    let below = c.loop-received-test.true in
    admitting_none d below _ (rw c.in_default.is at c.refresh_active.ensures)

pub give_admitted-moved-requires : goal.give_admitted-moved-requires
give_admitted-moved-requires c =
    let d = c.loop-received.invariant in
    let below = c.loop-received-test.true in
    let e = rw c.in-Some.is at c.refresh_active.ensures in
    (admit_front d below _ _ e, keeps_ringed (admit_kept d below _ _ e) c.args.r.now c.requires.1, omega (arith, c.requires.2, d.long, below))

pub overflow_add-received : goal.overflow_add-received
overflow_add-received c =
    let d = c.loop-received.invariant in
    let below = c.loop-received-test.true in
    let e = rw c.in-Some.is at c.refresh_active.ensures in
    let g = c.give_admitted-moved.ensures in
    record { fits = fits_below _ c.args.limit (admit_within d below _ _ e c.requires.2 _ _ _ g) (omega (arith, c.ranges)) }

pub shape_of-t-then-moved : goal.shape_of-t-then-moved
shape_of-t-then-moved c =
    let d = c.loop-received.invariant in
    let below = c.loop-received-test.true in
    let e = rw c.in-Some.is at c.refresh_active.ensures in
    let g = c.give_admitted-moved.ensures in
    stop_long d below _ _ e c.requires.2 _ _ _ g

pub shape_of-out-then-moved : goal.shape_of-out-then-moved
shape_of-out-then-moved c =
    let d = c.loop-received.invariant in
    let below = c.loop-received-test.true in
    let e = rw c.in-Some.is at c.refresh_active.ensures in
    let g = c.give_admitted-moved.ensures in
    stop_output_long d below _ _ e c.requires.2 _ _ _ g

pub returns-then-moved : goal.returns-then-moved
returns-then-moved c =
    let d = c.loop-received.invariant in
    let below = c.loop-received-test.true in
    let e = rw c.in-Some.is at c.refresh_active.ensures in
    let g = c.give_admitted-moved.ensures in
    admitting_stops d below _ _ e c.requires.2 _ _ _ g c.if-moved.true

pub loop-received-smaller : goal.loop-received-smaller
loop-received-smaller c =
    let d = c.loop-received.invariant in
    let below = c.loop-received-test.true in
    let e = rw c.in-Some.is at c.refresh_active.ensures in
    let g = c.give_admitted-moved.ensures in
    omega (arith, admit_within d below _ _ e c.requires.2 _ _ _ g, admit_more d below _ _ e c.requires.2 _ _ _ g c.if-moved.false)

pub loop-received-preserved : goal.loop-received-preserved
loop-received-preserved c =
    let d = c.loop-received.invariant in
    let below = c.loop-received-test.true in
    let e = rw c.in-Some.is at c.refresh_active.ensures in
    let g = c.give_admitted-moved.ensures in
    admitting_next d below _ _ e c.requires.2 _ _ _ g c.if-moved.false

pub returns : goal.returns
returns c = admitting_full c.loop-received.invariant c.loop-received-test.false
