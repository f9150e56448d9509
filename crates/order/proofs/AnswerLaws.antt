-- The test's answer, from what its parts tell.
-- Assumes nothing.
use mathlib.Core.Path.{◌≡◌, sym, subst}
use mathlib.Core.Bool.{Bool, true, false}
use mathlib.Core.List.{List}
use Prim.Native.Nat.{ℕ}
use Rattle.model.specs.Lists.{count}
use Rattle.lane.specs.Table.{lane_at}
use Rattle.queues.specs.Queue.{queue_of}
use Rattle.queues.specs.Registry.{free_of}
use Rattle.store.specs.Order.{StoreInOrder}
use Rattle.order_slot.specs.Tells.{Tells, no}
use Rattle.order_slot.specs.Clauses.{SlotHolds, SlotsHold, Clauses}
use Rattle.order_slot.proofs.TellsLaws.{told, tells_true}
use Rattle.order.specs.Seen.{has, Seen}
use Rattle.order.proofs.ClauseLaws.{in_order_holds, holds_in_order}

-- the bitmaps say how often the queue and the free list name a slot
module _ (t queued free : List ℕ) (q : Seen queued (queue_of t)) (f : Seen free (free_of t)) where
  at_slot : (x : ℕ) {n m n' m' : ℕ} → n ≡ n' → m ≡ m' → SlotHolds t (lane_at t x) x n m → SlotHolds t (lane_at t x) x n' m'
  at_slot x {n} {m} {n'} a b s = subst (λ (k : ℕ). SlotHolds t (lane_at t x) x n' k) b (subst (λ (k : ℕ). SlotHolds t (lane_at t x) x k m) a s)

  pub slots_by_lists : SlotsHold t (has queued) (has free) → SlotsHold t (λ x. count x (queue_of t)) (λ x. count x (free_of t))
  slots_by_lists s x h = at_slot x (q x) (f x) (s x h)

  pub slots_by_bits : SlotsHold t (λ x. count x (queue_of t)) (λ x. count x (free_of t)) → SlotsHold t (has queued) (has free)
  slots_by_bits s x h = at_slot x (sym (q x)) (sym (f x)) (s x h)

module _ (t r : List ℕ) where
  abbrev pub Exactly : Bool → Type 0
  Exactly a = (a ≡ true → StoreInOrder t r) × (StoreInOrder t r → a ≡ true)

  pub answers : {a : Bool} → Tells (Clauses t r) a → Exactly a
  answers c = (λ e. holds_in_order t r (told c e), λ o. tells_true c (in_order_holds t r o))

  pub refuses : (Clauses t r → ⊥) → Exactly false
  refuses n = answers (no n)
