-- A lane is live in the ledger exactly if it is in the state.
-- Assumes nothing.
use mathlib.Core.Path.{◌≡◌, refl}
use mathlib.Core.Bool.{Bool, true, false, not}
use mathlib.Core.List.{List, [], ◌∷◌, map}
use Rattle.model.specs.Lists.{either, non_empty}
use Rattle.model.specs.State.{Slot}
use Rattle.model.specs.Ledger.{HeldItem, Lane, is_live}
use Rattle.demands.proofs.LedgerAgrees.{Matches}

pub live_matches : (l : Lane) (m : Slot) → Matches l m → is_live l ≡ either (non_empty m.ring) m.living
unfolding is_live
live_matches l m h = rw (h.unclosed, h.senders, ← h.values_same) (go l.holds m.living)
  where
    go : (i : List HeldItem) (b : Bool) → either (non_empty i) (not (not b)) ≡ either (non_empty (map (λ v. v.value) i)) b
    go [] true = refl
    go [] false = refl
    go (v ∷ i) b = refl
