-- `sender::sender::passed_over` meets its contract.
-- Assumes nothing.
use native.Mathlib.Omega.{arith}
use mathlib.Core.Path.{◌∙◌, ap, sym}
use Rattle.lane.specs.Table.{lane_at}
use Rattle.lane.specs.declared.lane.Lane.{Lane}
use Rattle.sender.proofs.PassedLaws.{passing_start, passing_next, passing_found, passing_end}
use Rattle.sender.proofs.sender.passed_over.Goals as goal

pub loop-d-init : goal.loop-d-init
loop-d-init c = passing_start _

pub load-l-requires : goal.load-l-requires
load-l-requires c = rw c.freed_at.ensures (omega (arith, c.requires.1.freed_issued _ c.loop-d-test.true, c.requires.0.issued_most, c.requires.0.room))

-- the lane looked at is that of the slot d places down
pub returns-then-l-ne1 : goal.returns-then-l-ne1
returns-then-l-ne1 c =
    let e = ap (λ (l : Lane). l.living) (c.load-l.ensures ∙ ap (lane_at _) c.freed_at.ensures) in
    passing_found _ _ c.loop-d.invariant c.loop-d-test.true (λ z. c.if-l-ne1.true (e ∙ z))

pub loop-d-preserved : goal.loop-d-preserved
loop-d-preserved c =
    let e = ap (λ (l : Lane). l.living) (c.load-l.ensures ∙ ap (lane_at _) c.freed_at.ensures) in
    passing_next _ _ c.loop-d.invariant c.loop-d-test.true (sym e ∙ c.if-l-ne1.false)

pub returns : goal.returns
returns c = omega (arith, passing_end _ _ c.loop-d.invariant c.loop-d-test.false)
