-- Small functions on truth values and lists, used by all the rules.
-- Assumes nothing.
use Rattle.std.specs.Prelude.{Bool, true, false, not, List, [], ◌∷◌, ℕ, zero, suc, ◌+◌, eqb}

abbrev pub if : {A : Type 0} → Bool → A → A → A
if true a b = a
if false a b = b

abbrev pub both : Bool → Bool → Bool
both true b = b
both false b = false

abbrev pub either : Bool → Bool → Bool
either true b = true
either false b = b

-- Whether a list has an element.
abbrev pub non_empty : {A : Type 0} → List A → Bool
non_empty [] = false
non_empty (x ∷ l) = true

-- Every element of a list has the property P.
unfoldable pub Each : {A : Type 0} → (A → Type 0) → List A → Type 0
Each P [] = Unit {0}
Each P (x ∷ l) = P x × Each P l

-- 1 if two numbers are the same, else 0.
unfoldable pub same : ℕ → ℕ → ℕ
same x y = if (eqb x y) 1 0

-- How often x stands in a list.
unfoldable pub count : ℕ → List ℕ → ℕ
count x [] = 0
count x (y ∷ q) = same x y + count x q

-- The numbers of a list that pass a test, in their order.
unfoldable pub keep : (ℕ → Bool) → List ℕ → List ℕ
keep p [] = []
keep p (x ∷ l) = if (p x) (x ∷ keep p l) (keep p l)

-- The list without x.
unfoldable pub without : ℕ → List ℕ → List ℕ
without x q = keep (λ y. not (eqb x y)) q

-- n numbers: a, a + 1, and so on.
unfoldable pub from : ℕ → ℕ → List ℕ
from a zero = []
from a (suc n) = a ∷ from (suc a) n

-- The sum of f over a list.
unfoldable pub total : (ℕ → ℕ) → List ℕ → ℕ
total f [] = 0
total f (x ∷ l) = f x + total f l
