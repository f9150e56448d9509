-- "Ring cursors are u64 that wrap; place = cursor mod C."
-- Assumes nothing.
use Rattle.std.specs.Prelude.{◌≡◌, ℕ, ◌+◌, ◌-◌, ◌%◌, ◌^◌, ◌≤◌}

-- the cursor n further: a wrapping add
abbrev pub after : ℕ → ℕ → ℕ
after cursor n = (cursor + n) % 2 ^ 64

-- how far `to` stands after `from`: a wrapping subtract
abbrev pub distance : ℕ → ℕ → ℕ
distance to from = (to + 2 ^ 64 - from) % 2 ^ 64

-- "a capacity (1 to 65,536+, rounded up to a power of two C)"
pub record Capacity (C : ℕ) : Type 0 where
  pub log : ℕ
  pub small : log ≤ 16
  pub is : C ≡ 2 ^ log
  pub most : C ≤ 65536
