-- `order::seen::Bitmap::add` meets its contract.
-- Assumes nothing.
use Rattle.order.proofs.SeenLaws.{added_word}
use Rattle.order.proofs.seen.Bitmap.add.Goals as goal

pub returns : goal.returns
returns c = added_word _ _
