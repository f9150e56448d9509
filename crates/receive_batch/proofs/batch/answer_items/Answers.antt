-- `receive_batch::batch::answer_items` meets its contract.
-- Assumes nothing.
use Rattle.receive_batch.specs.Batch.{answer_items}
use Rattle.model.specs.declared.Answer.TheVariants.{Items}
use Prim.Native.Nat.{ℕ}
use mathlib.Core.List.{List}
use mathlib.Core.Path.{ap}
use borrow.Author.Tests.{eq-eqb, ne_eqb}
use Rattle.receive_batch.proofs.batch.answer_items.Goals as goal

pub returns-then-received-ne0 : goal.returns-then-received-ne0
unfolding answer_items
returns-then-received-ne0 c = simp (ne_eqb _ _ c.if-received-ne0.true) (ap (λ (u : List ℕ). (Items c.args.received, u)) c.held_less.ensures)

pub returns-then-limit-eq0 : goal.returns-then-limit-eq0
unfolding answer_items
returns-then-limit-eq0 c = simp (eq-eqb _ _ c.if-received-ne0.false, eq-eqb _ _ c.if-limit-eq0.true)

pub returns : goal.returns
unfolding answer_items
returns c = simp (eq-eqb _ _ c.if-received-ne0.false, ne_eqb _ _ c.if-limit-eq0.false) c.nothing_taken.ensures
