-- `all_lanes::all_lanes::release_slot` meets its contract.
-- Assumes nothing.
use Rattle.all_lanes.proofs.SlotLoops.{slot_released, none_released}
use Rattle.all_lanes.specs.AllLanes.{release_slot}
use Rattle.lane.specs.Table.{cell_at, put_lane}
use Rattle.lane.specs.declared.lane.Released.{Released}
use Rattle.lane.specs.declared.lane.Lane.{Lane}
use borrow.Author.Tests.{eq-eqb, ne_eqb}
use native.Mathlib.Omega.{arith}
use mathlib.Core.Path.{sym, ap, ◌∙◌}
use Rattle.all_lanes.proofs.all_lanes.release_slot.Goals as goal

pub returns-then-l-eq0 : goal.returns-then-l-eq0
returns-then-l-eq0 c =
    let fits = c.slice_known-1.given in
    let slot = c.args.slot in
    sym (none_released _ _ c.requires.2 (ap (λ (l : Lane). l.unreleased) (sym c.load-l.ensures) ∙ c.if-l-eq0.true) (fits (cell_at 5 slot)).fits (fits (cell_at 6 slot)).fits)

pub release_pending-done-requires : goal.release_pending-done-requires
release_pending-done-requires c = rw c.load-l.ensures (c.requires.2 (ap (λ (l : Lane). l.registered) (sym c.load-l.ensures) ∙ c.if-l-eq1.true))

pub store-requires : goal.store-requires
store-requires c = simp (c.release_pending-done.ensures, c.load-l.ensures, slot_released) (omega arith)

pub returns-then-l-eq1 : goal.returns-then-l-eq1
unfolding release_slot
returns-then-l-eq1 c = simp (← c.load-l.ensures, eq-eqb _ _ c.if-l-eq1.true) (c.store.ensures ∙ ap (λ (d : Released). put_lane c.args.t.now d.lane) c.release_pending-done.ensures)

pub returns-else-l-eq1 : goal.returns-else-l-eq1
unfolding release_slot
returns-else-l-eq1 c = simp (← c.load-l.ensures, ne_eqb _ _ c.if-l-eq1.false)
