-- `order::seen::Bitmap::has` meets its contract.
-- Assumes nothing.
use mathlib.Core.Path.{refl}
use Rattle.order.specs.Seen.{has}
use Rattle.order.proofs.seen.Bitmap.has.Goals as goal

pub returns : goal.returns
unfolding has
returns c = refl
