-- A lane's signal, as words.
-- Assumes nothing.
use Rattle.std.specs.Prelude.{cond, List, ℕ, eqb}
use Rattle.lane.specs.declared.lane.Lane.{Lane}
use Rattle.ready.specs.Ready.{mark}

-- "A send marks its lane's signal; idle to pending sets the page bit": l is the lane before
unfoldable pub mark_if_idle : List ℕ → Lane → List ℕ
mark_if_idle t l = cond (eqb l.pending 0) (mark t l.key.slot) t
