-- `sender::sender::due_key` meets its contract.
-- Assumes nothing.
use mathlib.Core.Path.{◌≡◌, ◌∙◌, ap, sym}
use native.Mathlib.Omega.{arith}
use borrow.Author.Tests.{lt-ltb, le-ltb}
use Rattle.lane.specs.Table.{lane_at}
use Rattle.lane.specs.declared.lane.Lane.{Lane}
use Rattle.sender.specs.Sender.{due_key}
use Rattle.sender.proofs.sender.due_key.Goals as goal

pub load-l-requires : goal.load-l-requires
load-l-requires c = rw c.freed_at-slot.ensures (omega (arith, c.requires.1.freed_issued _ c.if-d-t.true, c.requires.0.issued_most, c.requires.0.room))

pub overflow_add-result : goal.overflow_add-result
overflow_add-result c =
    let e = ap (λ (l : Lane). l.key.generation) (c.load-l.ensures ∙ ap (lane_at _) c.freed_at-slot.ensures) in
    let n : c.load-l.result.key.generation ≡ 18446744073709551615 → ⊥ = λ z. c.requires.1.freed_generation _ c.if-d-t.true (sym e ∙ z) in
    omega (arith, n)

pub returns-then-d-t : goal.returns-then-d-t
unfolding due_key
returns-then-d-t c = simp (lt-ltb _ _ c.if-d-t.true, c.load-l.ensures, c.freed_at-slot.ensures)

pub returns : goal.returns
unfolding due_key
returns c = simp (le-ltb _ _ c.if-d-t.false)
