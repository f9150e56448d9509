-- Laws of the test of a slot.
-- Assumes nothing.
use mathlib.Core.Path.{◌≡◌, sym, ap, ◌∙◌}
use mathlib.Core.Bool.{Bool}
use mathlib.Core.List.{List, [], ◌∷◌}
use Prim.Native.Nat.{ℕ, zero, suc, ◌<◌}
use native.Mathlib.Nat.{pos_of_ne-zero}
use native.Mathlib.Omega.{arith}
use lib.ListN.{get_or, length, take}
use Rattle.lane.specs.declared.lane.Lane.{Lane}
use Rattle.yring.specs.Lists.{tab}
use Rattle.queues.specs.Header.{Shaped, queue_count}
use Rattle.queues.specs.Queue.{queue_of, front_slot}
use Rattle.queues.proofs.QueueLaws.{queue_front_lem}
use Rattle.store.specs.Order.{Flags}
use Rattle.order_slot.specs.Tells.{Tells}
use Rattle.order_slot.specs.Clauses.{RegisteredHolds, UnregisteredHolds, SlotHolds}
use Rattle.order_slot.proofs.TellsLaws.{tells_of}

-- ---- the front of the queue

module _ (t : List ℕ) where
  no_front : {x : ℕ} → queue_count t ≡ 0 → take 1 (queue_of t) ≡ x ∷ [] → ⊥
  unfolding queue_of
  no_front {x} e p = go (queue_count t) _ e p
    where
      go : (n : ℕ) (f : ℕ → ℕ) → n ≡ 0 → take 1 (tab n f) ≡ x ∷ [] → ⊥
      go zero f e p = let z : ◌≡◌ {A = ℕ} 0 1 = ap length p in omega arith
      go (suc n) f e p = absurd (omega arith)

  module _ (s : Shaped t) where
    front_taken : 0 < queue_count t → take 1 (queue_of t) ≡ front_slot t ∷ []
    front_taken h = ap (take 1) (queue_front_lem t s h)

    pub front_alone : {x : ℕ} → 0 < queue_count t → front_slot t ≡ x → take 1 (queue_of t) ≡ x ∷ []
    front_alone h e = front_taken h ∙ ap (λ (y : ℕ). y ∷ []) e

    pub front_is : {x : ℕ} → take 1 (queue_of t) ≡ x ∷ [] → (0 < queue_count t) × (front_slot t ≡ x)
    front_is p =
        let h : 0 < queue_count t = pos_of_ne-zero (λ e. no_front e p) in
        (h, ap (λ (l : List ℕ). get_or l 0 0) (sym (front_taken h) ∙ p))

-- ---- a slot, by its registered flag

module _ (t : List ℕ) (l : Lane) (x queued free : ℕ) (o : Flags l) where
  pub registered_tells : l.registered ≡ 1 → {a : Bool} → Tells (RegisteredHolds t l x queued free) a → Tells (SlotHolds t l x queued free) a
  registered_tells e = tells_of (λ r. record { flags = o; registered = λ f. r; unregistered = λ f. absurd (omega arith) }) (λ p. p.registered e)

  pub unregistered_tells : (l.registered ≡ 1 → ⊥) → {a : Bool} → Tells (UnregisteredHolds l.key.generation queued free) a
      → Tells (SlotHolds t l x queued free) a
  unregistered_tells d =
      let e : l.registered ≡ 0 = omega (arith, d, o.registered_flag) in
      tells_of (λ r. record { flags = o; registered = λ f. absurd (d f); unregistered = λ f. r }) (λ p. p.unregistered e)
