-- The loop over a list of slots, in the words of the code.
-- Assumes nothing.
use mathlib.Core.Path.{◌≡◌}
use mathlib.Core.List.{List}
use Prim.Native.Nat.{ℕ, ◌+◌, ◌≤◌, ◌<◌}
use Rattle.yring.specs.Lists.{tab}
use Rattle.order_slot.specs.Clauses.{Names}
use Rattle.order.specs.Seen.{has, add}
use Rattle.order.proofs.SeenLaws.{Noted, noted_more, noted_no}

-- a slot that was noted, in the words of the code
module _ (issued k : ℕ) (f : ℕ → ℕ) (seen : List ℕ) (o : Noted issued k f seen) {slot : ℕ} (e : slot ≡ f k) where
  pub slot_more : issued ≤ 8192 → (slot < issued) × (has seen slot ≡ 0) → {u : List ℕ} → u ≡ add seen slot → Noted issued (k + 1) f u
  slot_more b q g = noted_more issued k f seen o b (rw e at q) (rw e at g)

  pub slot_no : (n : ℕ) → k < n → ((slot < issued) × (has seen slot ≡ 0) → ⊥) → Names issued (tab n f) → ⊥
  slot_no n h d a = noted_no issued k f seen o n h (rw e at d) a
