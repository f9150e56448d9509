-- A set of slots as a bitmap, 64 slots to a word.
-- Assumes nothing.
use Rattle.std.specs.Prelude.{◌≡◌, List, ℕ, ◌/◌, ◌%◌, get_or, set}
use Rattle.model.specs.Lists.{count}
use Rattle.ready.specs.Bits.{bit, with_bit}

-- 1 where the bitmap has slot x, else 0
unfoldable pub has : List ℕ → ℕ → ℕ
has seen x = bit (get_or seen (x / 64) 0) (x % 64)

unfoldable pub add : List ℕ → ℕ → List ℕ
add seen x = set seen (x / 64) (with_bit (get_or seen (x / 64) 0) (x % 64))

-- the bitmap has the slots of a list, none of which is there twice
abbrev pub Seen : List ℕ → List ℕ → Type 0
Seen seen names = (x : ℕ) → has seen x ≡ count x names
