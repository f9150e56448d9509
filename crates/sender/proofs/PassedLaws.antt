-- How far a registration goes down the free list: the loop that counts the slots passed over, and where the rules' first clear slot stands.
-- Assumes nothing.
use mathlib.Core.Path.{◌≡◌, refl, ap, ◌∙◌}
use mathlib.Core.Logic.{◌≢◌}
use mathlib.Core.Bool.{Bool, true, false, not}
use mathlib.Core.List.{List, [], ◌∷◌}
use Prim.Native.Nat.{ℕ, suc, ◌+◌, ◌≤◌, ◌<◌}
use native.Mathlib.Omega.{arith}
use borrow.Author.Tests.{eqb-false, eq-eqb, ne_eqb}
use lib.Dec.{eqb}
use lib.ListN.{length, get_or, drop}
use Rattle.model.specs.Lists.{count, keep}
use Rattle.model.specs.Sender.{clear_slots}
use Rattle.demands.proofs.OrderKept.{first_own, count_rest}
use Rattle.lane.specs.Table.{lane_at}
use Rattle.queues.specs.Header.{issued, free_count}
use Rattle.queues.specs.Registry.{free_of, freed_at}
use Rattle.queues.proofs.RegistryLaws.{length_free, free_item, drop_free, drop_free_all}
use Rattle.store.specs.View.{slot_at, view}
use Rattle.store.specs.Order.{StoreInOrder}
use Rattle.store.proofs.ViewLaws.{slot_in}
use Rattle.sender.specs.Sender.{older_ahead, passed_over}

-- ---- the loop

module _ (t : List ℕ) where
  -- after d slots: those that follow give the rest
  pub record Passing (d : ℕ) : Type 0 where
    pub upto : d ≤ free_count t
    pub rest : d + older_ahead t (drop d (free_of t)) ≡ passed_over t

  pub passing_start : Passing 0
  passing_start = record { upto = omega arith; rest = omega arith }

  module _ (d : ℕ) (p : Passing d) where
    pub passing_next : d < free_count t → (lane_at t (freed_at t d)).living ≡ 1 → Passing (d + 1)
    unfolding older_ahead
    passing_next h e =
        let step : older_ahead t (drop d (free_of t)) ≡ suc (older_ahead t (drop (d + 1) (free_of t))) = ap (older_ahead t) (drop_free t d h) ∙ rw (eq-eqb _ _ e) in
        record { upto = omega arith; rest = omega (arith, p.rest) }

    pub passing_found : d < free_count t → (lane_at t (freed_at t d)).living ≢ 1 → d ≡ passed_over t
    unfolding older_ahead
    passing_found h n =
        let stop : older_ahead t (drop d (free_of t)) ≡ 0 = ap (older_ahead t) (drop_free t d h) ∙ rw (ne_eqb _ _ n) in
        omega (arith, p.rest)

    pub passing_end : free_count t ≤ d → d ≡ passed_over t
    unfolding older_ahead
    passing_end h =
        let e : d ≡ free_count t = omega (arith, p.upto) in
        let stop : older_ahead t (drop d (free_of t)) ≡ 0 = ap (λ (k : ℕ). older_ahead t (drop k (free_of t))) e ∙ ap (older_ahead t) (drop_free_all t) in
        omega (arith, p.rest)

-- ---- as the rules see it

-- all slots of the list are passed over and none is clear, or the first clear one stands below those passed over
pub data PassedCase (t r : List ℕ) : Type 0 where
  all : passed_over t ≡ free_count t → clear_slots (view t r) ≡ [] → PassedCase t r
  some : passed_over t < free_count t → (lane_at t (freed_at t (passed_over t))).living ≢ 1 → (f : List ℕ) → clear_slots (view t r) ≡ freed_at t (passed_over t) ∷ f
      → PassedCase t r

module _ (t r : List ℕ) where
  abbrev clear : ℕ → Bool
  clear x = not ((view t r).slot_of x).living

  -- of any list of issued slots
  data Ahead (l : List ℕ) : Type 0 where
    none : older_ahead t l ≡ length l → keep clear l ≡ [] → Ahead l
    first : older_ahead t l < length l → (lane_at t (get_or l (older_ahead t l) 0)).living ≢ 1 → (f : List ℕ) → keep clear l ≡ get_or l (older_ahead t l) 0 ∷ f → Ahead l

  ahead : (l : List ℕ) → ((y : ℕ) → 1 ≤ count y l → y < issued t) → Ahead l
  unfolding older_ahead keep slot_at
  ahead [] h = none refl refl
  ahead (x ∷ l) h = go (eqb (lane_at t x).living 1) refl (ahead l (λ y c. h y (omega (arith, count_rest y x l))))
    where
      seen : ((view t r).slot_of x).living ≡ eqb (lane_at t x).living 1
      seen = rw (slot_in t r x (h x (omega (arith, first_own x l))))

      go : (b : Bool) → eqb (lane_at t x).living 1 ≡ b → Ahead l → Ahead (x ∷ l)
      go true e (none p q) = none (rw e (ap suc p)) (rw (seen, e) q)
      go true e (first p n f q) = first (rw e (omega arith)) (rw e n) f (rw (seen, e) q)
      go false e a = first (rw e (omega arith)) (rw e (eqb-false _ _ e)) (keep clear l) (rw (seen, e))

  pub passed_case : StoreInOrder t r → PassedCase t r
  unfolding clear_slots view
  passed_case o = go (ahead (free_of t) (λ y c. (o.ordered.each_slot y).free_issued c))
    where
      go : Ahead (free_of t) → PassedCase t r
      go (none p q) = all (p ∙ length_free t) q
      go (first p n f q) =
          let h : passed_over t < free_count t = omega (arith, length_free t) in
          let e : get_or (free_of t) (passed_over t) 0 ≡ freed_at t (passed_over t) = free_item t (passed_over t) h in
          some h (rw (← e) n) f (q ∙ ap (λ (x : ℕ). x ∷ f) e)
