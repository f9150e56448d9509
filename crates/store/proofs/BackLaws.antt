-- How often a slot stands in a queue with one more at the back.
-- Assumes nothing.
use mathlib.Core.Path.{◌≡◌}
use mathlib.Core.Logic.{◌≢◌}
use mathlib.Core.List.{List, [], ◌∷◌, ◌++◌}
use Prim.Native.Nat.{ℕ}
use native.Mathlib.Omega.{arith}
use Rattle.model.specs.Lists.{count}
use Rattle.demands.proofs.Counting.{count_append}
use Rattle.demands.proofs.OrderKept.{first_own, first_other}

pub back_own : (x : ℕ) (q : List ℕ) → count x q ≡ 0 → count x (q ++ (x ∷ [])) ≡ 1
unfolding count
back_own x q z = omega (arith, count_append x q (x ∷ []), first_own x [], z)

pub back_other : (x y : ℕ) (q : List ℕ) → x ≢ y → count y (q ++ (x ∷ [])) ≡ count y q
unfolding count
back_other x y q n = omega (arith, count_append y q (x ∷ []), first_other x y [] n)
