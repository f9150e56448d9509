-- What a test tells: true exactly if P holds.
-- Assumes nothing.
use Rattle.std.specs.Prelude.{Bool, true, false}

pub data Tells (P : Type 0) : Bool → Type 0 where
  yes : P → Tells P true
  no : (P → ⊥) → Tells P false
