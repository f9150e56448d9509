-- Laws of little-endian numbers.
-- Assumes nothing.
use mathlib.Core.Path.{◌≡◌, refl, ap, ◌∙◌}
use mathlib.Core.List.{List}
use Prim.Native.Nat.{ℕ, zero, suc, ◌+◌, ◌-◌, ◌≤◌}
use native.Mathlib.Omega.{arith}
use lib.ListN.{length, take, drop, length-drop}
use lib.Seq.{take_all}
use Rattle.std.specs.Int.{w16, w64, from_le_bytes}
use Rattle.std.proofs.lemmas.List.{get_or-take, get_or-drop}
use Rattle.wire_record.specs.Record.{number}

-- a number inside n bytes, read by itself
number_part : (b : List ℕ) (i n j m : ℕ) → j + m ≤ n → number (take n (drop i b)) j m ≡ number b (i + j) m
unfolding number
number_part b i n j zero h = refl
number_part b i n j (suc m) h =
    let e : i + (j + 1) ≡ i + j + 1 = omega arith in
    cc (get_or-take n (drop i b) j 0 (omega arith), get_or-drop i b j 0, number_part b i n (j + 1) m (omega arith))

-- n bytes of the rest of b from place i on
abbrev Part : List ℕ → List ℕ → ℕ → ℕ → Type 0
Part l b i n = l ≡ take n (take (length b - i) (drop i b))

number_alone : (b l : List ℕ) (i n : ℕ) → Part l b i n → number l 0 n ≡ number b i n
number_alone b l i n e =
    let z : i + 0 ≡ i = omega arith in
    ap (λ (x : List ℕ). number x 0 n) (e ∙ ap (take n) (take_all (length b - i) (drop i b) (omega (arith, length-drop i b)))) ∙ number_part b i n 0 n (omega arith) ∙ ap (λ (k : ℕ). number b k n) z

from_two : (l : List ℕ) → from_le_bytes w16 l ≡ number l 0 2
unfolding number
from_two l = omega arith

from_eight : (l : List ℕ) → from_le_bytes w64 l ≡ number l 0 8
unfolding number
from_eight l = omega arith

-- what the library reads from the bytes at a place
pub read_two : (b l : List ℕ) (i : ℕ) {x : ℕ} → Part l b i 2 → x ≡ from_le_bytes w16 l → x ≡ number b i 2
read_two b l i e f = f ∙ from_two l ∙ number_alone b l i 2 e

pub read_eight : (b l : List ℕ) (i : ℕ) {x : ℕ} → Part l b i 8 → x ≡ from_le_bytes w64 l → x ≡ number b i 8
read_eight b l i e f = f ∙ from_eight l ∙ number_alone b l i 8 e
