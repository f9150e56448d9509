-- `ready::ready::set_group_bit` meets its contract.
-- Assumes nothing.
use native.Mathlib.Omega.{arith}
use Rattle.ready.proofs.ready.set_group_bit.Goals as goal

pub store-requires : goal.store-requires
store-requires c = simp (c.mark.ensures, c.load-group.ensures) (omega arith)

pub returns : goal.returns
returns c = simp (c.store.ensures, c.mark.ensures, c.load-group.ensures)
