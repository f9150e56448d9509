-- The release batch over every capacity: the table in whose place the formula stands, and document 01's checked examples.
-- Assumes nothing.
use Rattle.std.specs.Prelude.{◌≡◌, ℕ, ◌≤◌, Bool, true, ◌&&◌, List, [], ◌∷◌, ◌==◌, nat_le}
use Rattle.std.proofs.Math.Option.{Option, none, some}
use Rattle.model.specs.Lists.{if}
use Rattle.model.specs.State.{release_batch}
use Rattle.model.specs.Opening.{next_power_of_two}

-- "a constant table of 17 entries, one for each C": C and its release batch
unfoldable pub entries : List (ℕ × ℕ)
entries =
    (1, 1)
    ∷ (2, 2)
    ∷ (4, 4)
    ∷ (8, 8)
    ∷ (16, 16)
    ∷ (32, 32)
    ∷ (64, 64)
    ∷ (128, 64)
    ∷ (256, 128)
    ∷ (512, 256)
    ∷ (1024, 512)
    ∷ (2048, 1024)
    ∷ (4096, 2048)
    ∷ (8192, 4096)
    ∷ (16384, 8192)
    ∷ (32768, 16384)
    ∷ (65536, 32768)
    ∷ []

-- "rounded up to a power of two C": the entry of a capacity is the first one whose C is not below it
unfoldable pub entry_for : ℕ → List (ℕ × ℕ) → Option (ℕ × ℕ)
entry_for c [] = none
entry_for c (e ∷ es) = if (nat_le c e.0) (some e) (entry_for c es)

-- document 02, N3: "Results for every capacity are those of the table.": the entry of each capacity that an opening takes has the C that the opening
-- rounds it up to, and what the formula makes of that C
abbrev pub AsTheTable : Type 0
AsTheTable = (c : ℕ) → 1 ≤ c → c ≤ 65536 → entry_for c entries ≡ some (next_power_of_two c, release_batch (next_power_of_two c))

-- ---- document 01's examples

-- a capacity as an opening takes it, the C it is rounded up to, and the batch of C
pub record Example : Type 0 where
  pub capacity : ℕ
  pub C : ℕ
  pub batch : ℕ

-- "P Capacity 1: batch 1. P 2: 2. P 64: 64. P 100: C 128, batch 64. P 256: 128. P 65,536: 32,768."
abbrev pub examples : List Example
examples =
    record { capacity = 1; C = 1; batch = 1 }
    ∷ record { capacity = 2; C = 2; batch = 2 }
    ∷ record { capacity = 64; C = 64; batch = 64 }
    ∷ record { capacity = 100; C = 128; batch = 64 }
    ∷ record { capacity = 256; C = 256; batch = 128 }
    ∷ record { capacity = 65536; C = 65536; batch = 32768 }
    ∷ []

-- every example is as the rules have it
abbrev pub agree : List Example → Bool
agree [] = true
agree (e ∷ es) = next_power_of_two e.capacity == e.C && (release_batch e.C == e.batch && agree es)
