-- The bits of a word, lowest first.
-- Assumes nothing.
use Rattle.std.specs.Prelude.{List, [], ◌∷◌, ℕ, zero, suc, ◌+◌, ◌/◌, ◌%◌, ◌^◌}
use Rattle.std.specs.Int.Bits.{bit_or}

-- bit b of w, 0 or 1
abbrev pub bit : ℕ → ℕ → ℕ
bit w b = w / 2 ^ b % 2

-- w with its bit b set
abbrev pub with_bit : ℕ → ℕ → ℕ
with_bit w b = bit_or w (2 ^ b)

-- p before the rest where the digit is set
abbrev pub keep_if : ℕ → ℕ → List ℕ → List ℕ
keep_if zero p rest = rest
keep_if (suc d) p rest = p ∷ rest

-- the places of the set bits among the k lowest of w, lowest first, counted from p
unfoldable pub bits_from : ℕ → ℕ → ℕ → List ℕ
bits_from zero p w = []
bits_from (suc k) p w = keep_if (w % 2) p (bits_from k (p + 1) (w / 2))
