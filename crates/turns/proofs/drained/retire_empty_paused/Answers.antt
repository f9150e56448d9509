-- `turns::drained::retire_empty_paused` meets its contract.
-- Assumes nothing.
use Rattle.turns.specs.Drained.{retire_empty_paused}
use Rattle.turns.proofs.DrainedLaws.{retire_room, paused_refunds}
use Rattle.lane.specs.declared.lane.Lane.{Lane}
use borrow.Author.Tests.{eq-eqb, ne_eqb}
use mathlib.Core.Path.{sym, ap, ◌∙◌}
use Rattle.turns.proofs.drained.retire_empty_paused.Goals as goal

pub returns-then-l-ne1 : goal.returns-then-l-ne1
unfolding retire_empty_paused
returns-then-l-ne1 c = simp (ne_eqb _ _ (λ z. c.if-l-ne1.true (ap (λ (l : Lane). l.registered) c.load-l.ensures ∙ z)))

pub returns-then-l-ne1-2 : goal.returns-then-l-ne1-2
unfolding retire_empty_paused
returns-then-l-ne1-2 c = simp (eq-eqb _ _ (sym (ap (λ (l : Lane). l.registered) c.load-l.ensures) ∙ c.if-l-ne1.false), ne_eqb _ _ (λ z. c.if-l-ne1-2.true (ap (λ (l : Lane). l.paused) c.load-l.ensures ∙ z)))

pub reload_is_empty-looked-requires : goal.reload_is_empty-looked-requires
reload_is_empty-looked-requires c = rw c.load-l.ensures (paused_refunds _ c.requires.0 _ c.requires.1 (sym (ap (λ (l : Lane). l.registered) c.load-l.ensures) ∙ c.if-l-ne1.false))

pub retire_if-requires : goal.retire_if-requires
retire_if-requires c = rw (c.reload_is_empty-looked.ensures, c.load-l.ensures) (retire_room _ c.requires.0 _ c.requires.1 (sym (ap (λ (l : Lane). l.registered) c.load-l.ensures) ∙ c.if-l-ne1.false))

pub returns : goal.returns
unfolding retire_empty_paused
returns c = simp (eq-eqb _ _ (sym (ap (λ (l : Lane). l.registered) c.load-l.ensures) ∙ c.if-l-ne1.false), eq-eqb _ _ (sym (ap (λ (l : Lane). l.paused) c.load-l.ensures) ∙ c.if-l-ne1-2.false)) (rw (c.reload_is_empty-looked.ensures, c.load-l.ensures) at c.retire_if.ensures)
