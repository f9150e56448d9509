-- `queues::queue::row_of` meets its contract.
-- Assumes nothing.
use mathlib.Core.Path.{◌≡◌, sym, ◌∙◌}
use Prim.Native.Nat.{ℕ, ◌+◌, ◌%◌, ◌<◌}
use native.Mathlib.Nat.{mod-eq_of_lt, add-mod_left}
use native.Mathlib.Omega.{arith}
use Rattle.queues.proofs.queue.row_of.Goals as goal

-- once round
over : (row slots d : ℕ) → row ≡ slots + d → d < slots → d ≡ row % slots
over row slots d e l = sym (rw e (add-mod_left slots d ∙ mod-eq_of_lt l))

pub returns-then-row-slots : goal.returns-then-row-slots
returns-then-row-slots c = (sym (mod-eq_of_lt c.if-row-slots.true), c.if-row-slots.true)

pub returns : goal.returns
returns c = (over _ _ _ (omega (arith, c.if-row-slots.false)) (omega (arith, c.requires.0, c.requires.1)), omega (arith, c.requires.0, c.requires.1))
