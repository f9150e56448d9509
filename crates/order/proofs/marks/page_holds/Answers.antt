-- `order::marks::page_holds` meets its contract.
-- Assumes nothing.
use mathlib.Core.Path.{ap, ◌∙◌}
use native.Mathlib.Omega.{arith}
use borrow.Author.Tests.{eqb-true}
use Rattle.lane.specs.Table.{cell_at}
use Rattle.ready.specs.declared.ready.Page.{Page}
use Rattle.ready.specs.declared.ready.Group.{Group}
use Rattle.ready.specs.Ready.{page_column}
use Rattle.order_slot.proofs.TellsLaws.{tells_by}
use Rattle.order.proofs.MarkLaws.{as_bit, page_no, page_tells}
use Rattle.order.proofs.marks.page_holds.Goals as goal

pub returns-then-group-page : goal.returns-then-group-page
returns-then-group-page c =
    page_tells _ _ (ap (λ (p : Page). p.bits) c.load-word.ensures) (ap (λ (g : Group). g.bits) c.load-group.ensures) (c.from.ensures ∙ as_bit _)
    c.if-group-page.true (c.type_inv.t (cell_at page_column c.args.page)).fits (λ b h. omega (arith, h)) (λ b h. omega (arith, h)) c.bits_below.ensures

pub returns-else-group-page : goal.returns-else-group-page
returns-else-group-page c =
    tells_by _ (λ e. absurd (c.if-group-page.false (eqb-true _ _ e)))
    (λ p.
    absurd
    (page_no _ _ (ap (λ (p : Page). p.bits) c.load-word.ensures) (ap (λ (g : Group). g.bits) c.load-group.ensures) (c.from.ensures ∙ as_bit _)
    c.if-group-page.false p))
