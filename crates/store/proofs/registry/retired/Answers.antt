-- `store::registry::retired` meets its contract.
-- Assumes nothing.
use mathlib.Core.Path.{refl}
use Rattle.store.proofs.registry.retired.Goals as goal

pub returns : goal.returns
returns c = refl
