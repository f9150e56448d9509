-- `queues::header::Header::new` meets its contract.
-- Assumes nothing.
use mathlib.Core.Path.{refl}
use Rattle.queues.proofs.header.Header.new.Goals as goal

-- written out, so that a word that is not the opening's is an equation that is false
pub returns : goal.returns
returns c = refl
