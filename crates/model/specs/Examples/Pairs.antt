-- How examples are written: each case with what is expected of it, one a line.
-- Assumes nothing.
use Rattle.std.specs.Prelude.{◌≡◌, List, map}

-- f is, of each case, the value beside it.
abbrev pub Reads : {A B : Type 0} → (A → B) → List (A × B) → Type 0
Reads f cases = map (λ c. f c.0) cases ≡ map (λ c. c.1) cases

-- f is v of every case.
abbrev pub Always : {A B : Type 0} → (A → B) → B → List A → Type 0
Always f v cases = map f cases ≡ map (λ c. v) cases
