-- A call on the lane of an id, from what `with_lane` ensures.
-- Assumes nothing.
use Rattle.std.specs.Prelude.{Ok, Err}
use mathlib.Core.Path.{◌≡◌, refl}
use mathlib.Core.List.{List}
use Prim.Native.Nat.{ℕ}
use Rattle.model.specs.declared.Answer.{Answer}
use Rattle.model.specs.declared.Answer.TheVariants.{Refused}
use Rattle.model.specs.declared.Refusal.{Refusal}
use Rattle.store.specs.Refusal.{Verdict}
use Rattle.store.specs.Words.{Words, unless_refused}

-- refused with the words as they were, or done
pub by_verdict : (v : Verdict) {t r u : List ℕ} {a : Answer} {w : Words} → ((why : Refusal) → v ≡ Err why → (a ≡ Refused why) × (u ≡ t))
    → (v ≡ Ok (tt {0}) → (a, u, r) ≡ w) → (a, u, r) ≡ unless_refused v t r w
unfolding unless_refused
by_verdict (Err why) f g = let p = f why refl in rw (p.0, p.1)
by_verdict (Ok n) f g = g refl
