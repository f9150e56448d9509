-- A list by its length and its items, runs of words written into a list, and stores at chosen places.
-- Assumes nothing.
use Rattle.std.specs.Prelude.{ℕ, zero, suc, ◌+◌, List, [], ◌∷◌, ◌++◌, length, take, drop, slice_set}

-- f 0, f 1, .. f (n - 1)
abbrev pub tab : ℕ → (ℕ → ℕ) → List ℕ
tab zero f = []
tab (suc n) f = f zero ∷ tab n (λ i. f (suc i))

-- `out` with the words `ws` from place `at` on
abbrev pub written : List ℕ → ℕ → List ℕ → List ℕ
written out at ws = take at out ++ ws ++ drop (at + length ws) out

-- the words `ws` stored at the places p 0, p 1, ..
abbrev pub scatter : List ℕ → (ℕ → ℕ) → List ℕ → List ℕ
scatter t p [] = t
scatter t p (w ∷ ws) = scatter (slice_set t (p zero) w) (λ i. p (suc i)) ws
