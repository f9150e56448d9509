-- The admitted items of one lane, by the rules and by their words.
-- Assumes nothing.
use Rattle.std.proofs.Common.{◌≡◌, ℕ, suc, Bool, true, false, cond, leb, List, [], ◌∷◌, map, refl, ap}
use Rattle.model.specs.declared.LaneKey.{LaneKey}
use Rattle.model.specs.Lists.{if}
use Rattle.model.specs.Receive.{admitted}
use Rattle.yring.specs.Ring.{accepted_prefix}

pub admitted_prefix : (bound : ℕ) (k : LaneKey) (vs : List ℕ) → admitted bound (map (λ v. (k, v)) vs) ≡ accepted_prefix bound vs
unfolding admitted accepted_prefix
admitted_prefix bound k [] = refl
admitted_prefix bound k (v ∷ vs) = go (leb v bound) (admitted_prefix bound k vs)
  where
    go : (c : Bool) → admitted bound (map (λ x. (k, x)) vs) ≡ accepted_prefix bound vs → if c (suc (admitted bound (map (λ x. (k, x)) vs))) 0 ≡ cond c (suc (accepted_prefix bound vs)) 0
    go true e = ap suc e
    go false e = refl
