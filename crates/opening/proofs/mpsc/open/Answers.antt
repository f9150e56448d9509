-- `opening::mpsc::open` meets its contract.
-- Assumes nothing.
use mathlib.Core.Path.{◌∙◌, sym}
use Rattle.opening.specs.Opening.{open_store}
use Rattle.store.specs.Words.{unless_refused}
use Rattle.opening.proofs.OpeningBounds.{sizes_pass}
use Rattle.opening.proofs.mpsc.open.Goals as goal

pub open_sized-requires : goal.open_sized-requires
open_sized-requires c = let s = sizes_pass _ (sym c.sizes_verdict.ensures ∙ c.in-Ok.is) in (s.slots_most, s.capacity_most)

pub returns-in-Err : goal.returns-in-Err
unfolding open_store unless_refused
returns-in-Err c = rw (sym c.sizes_verdict.ensures ∙ c.in-Err.is)

pub returns-in-Ok : goal.returns-in-Ok
unfolding open_store unless_refused
returns-in-Ok c = rw (sym c.sizes_verdict.ensures ∙ c.in-Ok.is) c.open_sized.ensures
