-- `ready::ready::collect_page` meets its contract.
-- Assumes nothing.
use mathlib.Core.Path.{◌∙◌, ap, ap₂, sym, refl, subst}
use mathlib.Core.List.{List, foldl}
use Prim.Native.Nat.{ℕ, ◌*◌}
use native.Mathlib.Nat.{pos_of_ne-zero}
use native.Mathlib.Omega.{arith}
use lib.ListN.{length, length-set}
use lib.Count.{trailing_le}
use borrow.Author.Rules.{rules}
use Rattle.ready.specs.declared.ready.Page.{Page}
use Rattle.ready.specs.Bits.{bits_from}
use Rattle.ready.specs.Ready.{page_column, put_page, offer, collect_page}
use Rattle.ready.proofs.BitLaws.{clear_less, bits_each}
use Rattle.ready.proofs.CollectLaws.{Kept, kept_set_cell, kept_offered}
use Rattle.ready.proofs.Walk.{walk_start, walk_next, walk_end}
use Rattle.ready.proofs.ready.collect_page.Goals as goal

-- the walk starts at the table without the page's bits
pub loop-bits-init : goal.loop-bits-init
loop-bits-init c =
    let t = c.args.t.now in
    let id = c.args.id in
    let e = c.store.ensures ∙ ap (put_page t) c.new.ensures in
    let k = subst (Kept t) (sym e) (kept_set_cell t page_column id 0 refl refl refl c.requires.0 c.requires.1) in
    walk_start k.shaped k.names (search rules) (bits_each _ 64 (64 * id) _ (λ b l h. omega arith))

pub overflow_cast-lane : goal.overflow_cast-lane
overflow_cast-lane c = omega (arith, trailing_le 64 c.loop-bits.bits)

pub overflow_add-id : goal.overflow_add-id
overflow_add-id c = omega (arith, trailing_le 64 c.loop-bits.bits)

pub loop-bits-smaller : goal.loop-bits-smaller
loop-bits-smaller c = clear_less c.loop-bits.bits (pos_of_ne-zero c.loop-bits-test.true)

pub loop-bits-preserved : goal.loop-bits-preserved
loop-bits-preserved c = walk_next c.loop-bits.invariant kept_offered _ c.loop-bits-test.true c.offer.ensures

pub shape_of-t : goal.shape_of-t
shape_of-t c =
    let t = c.args.t.now in
    c.loop-bits.invariant.kept.long ∙ ap length (c.store.ensures ∙ ap (put_page t) c.new.ensures) ∙ simp length-set

pub returns : goal.returns
unfolding collect_page
returns c =
    let t = c.args.t.now in
    let id = c.args.id in
    walk_end c.loop-bits.invariant c.loop-bits-test.false
    ∙ ap₂ (λ (u : List ℕ) (w : ℕ). foldl offer u (bits_from 64 (64 * id) w))
    (c.store.ensures ∙ ap (put_page t) c.new.ensures) (ap (λ (p : Page). p.bits) c.load-bits.ensures)
