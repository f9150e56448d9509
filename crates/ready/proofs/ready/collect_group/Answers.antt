-- `ready::ready::collect_group` meets its contract.
-- Assumes nothing.
use mathlib.Core.Path.{◌∙◌, ap, ap₂, sym, refl, subst}
use mathlib.Core.List.{List, foldl}
use Prim.Native.Nat.{ℕ, ◌*◌}
use native.Mathlib.Nat.{pos_of_ne-zero}
use native.Mathlib.Omega.{arith}
use lib.ListN.{length, length-set}
use lib.Count.{trailing_le}
use borrow.Author.Rules.{rules}
use Rattle.ready.specs.declared.ready.Group.{Group}
use Rattle.ready.specs.Bits.{bits_from}
use Rattle.ready.specs.Ready.{group_column, put_group, collect_page, collect_group}
use Rattle.ready.proofs.BitLaws.{clear_less}
use Rattle.ready.proofs.CollectLaws.{Kept, kept_set_cell, kept_page, pages_of_group}
use Rattle.ready.proofs.Walk.{walk_start, walk_next, walk_end, walk_place}
use Rattle.ready.proofs.ready.collect_group.Goals as goal

-- the walk starts at the table without the group's bits
pub loop-bits-init : goal.loop-bits-init
loop-bits-init c =
    let t = c.args.t.now in
    let id = c.args.id in
    let e = c.store.ensures ∙ ap (put_group t) c.new.ensures in
    let k = subst (Kept t) (sym e) (kept_set_cell t group_column id 0 refl refl refl c.requires.0 c.requires.1) in
    let bits = ap (λ (g : Group). g.bits) c.load-bits.ensures in
    walk_start k.shaped k.names (search rules)
    (rw (k.same_issued, bits) (pages_of_group t id c.requires.2 c.requires.3))

pub overflow_cast-page : goal.overflow_cast-page
overflow_cast-page c = omega (arith, trailing_le 64 c.loop-bits.bits)

pub overflow_add-id : goal.overflow_add-id
overflow_add-id c = omega (arith, trailing_le 64 c.loop-bits.bits)

pub collect_page-requires : goal.collect_page-requires
collect_page-requires c =
    let k = c.loop-bits.invariant in
    (k.kept.shaped, k.kept.names, omega (arith, k.kept.same_issued, walk_place k c.loop-bits-test.true))

pub loop-bits-smaller : goal.loop-bits-smaller
loop-bits-smaller c = clear_less c.loop-bits.bits (pos_of_ne-zero c.loop-bits-test.true)

pub loop-bits-preserved : goal.loop-bits-preserved
loop-bits-preserved c = walk_next c.loop-bits.invariant kept_page _ c.loop-bits-test.true c.collect_page.ensures

pub shape_of-t : goal.shape_of-t
shape_of-t c =
    let t = c.args.t.now in
    c.loop-bits.invariant.kept.long ∙ ap length (c.store.ensures ∙ ap (put_group t) c.new.ensures) ∙ simp length-set

pub returns : goal.returns
unfolding collect_group
returns c =
    let t = c.args.t.now in
    let id = c.args.id in
    walk_end c.loop-bits.invariant c.loop-bits-test.false
    ∙ ap₂ (λ (u : List ℕ) (w : ℕ). foldl collect_page u (bits_from 64 (64 * id) w))
    (c.store.ensures ∙ ap (put_group t) c.new.ensures) (ap (λ (p : Group). p.bits) c.load-bits.ensures)
