-- `ready::ready::mark` meets its contract.
-- Assumes nothing.
use borrow.Author.Tests.{eq-eqb, ne_eqb}
use native.Mathlib.Omega.{arith}
use mathlib.Core.Path.{◌∙◌, ap, sym}
use lib.ListN.{length-set}
use Rattle.ready.specs.declared.ready.Page.{Page}
use Rattle.ready.specs.Ready.{mark}
use Rattle.ready.proofs.ready.mark.Goals as goal

pub store-requires : goal.store-requires
store-requires c = simp (c.mark.ensures, c.load-page.ensures) (omega arith)

pub set_group_bit-requires : goal.set_group_bit-requires
set_group_bit-requires c = simp (c.store.ensures, c.load-page.ensures, length-set) (omega arith)

pub returns-then-page-eq0 : goal.returns-then-page-eq0
unfolding mark
returns-then-page-eq0 c =
    let was = ap (λ (p : Page). p.bits) c.load-page.ensures in
    simp (eq-eqb _ _ (sym was ∙ c.if-page-eq0.true), c.set_group_bit.ensures, c.store.ensures, c.mark.ensures, c.load-page.ensures)

pub returns-else-page-eq0 : goal.returns-else-page-eq0
unfolding mark
returns-else-page-eq0 c =
    let was = ap (λ (p : Page). p.bits) c.load-page.ensures in
    simp (ne_eqb _ _ (λ e. c.if-page-eq0.false (was ∙ e)), c.store.ensures, c.mark.ensures, c.load-page.ensures)
