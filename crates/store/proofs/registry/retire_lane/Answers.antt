-- `store::registry::retire_lane` meets its contract.
-- Assumes nothing.
use Rattle.store.proofs.RetireFrames.{shaped_lowered, room_lowered, length_retire_lane}
use lib.ListN.{length}
use mathlib.Core.Path.{◌∙◌, ap}
use Rattle.store.specs.Registry.{retire_lane}
use Rattle.store.proofs.registry.retire_lane.Goals as goal

pub free_unless_last-requires : goal.free_unless_last-requires
free_unless_last-requires c =
    rw c.store.ensures (shaped_lowered _ _ _ c.requires.0, room_lowered _ _ _ c.requires.2)

pub returns : goal.returns
unfolding retire_lane
returns c = simp (c.free_unless_last.ensures, c.store.ensures, c.retired.ensures)

pub shape_of-t : goal.shape_of-t
shape_of-t c = ap length (returns c) ∙ length_retire_lane _ _
