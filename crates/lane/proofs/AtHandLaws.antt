-- An item at hand: with no window to close, nothing to look for and no credit due, `poll` only counts.
-- Assumes nothing.
use Rattle.std.specs.Prelude.{Ok}
use mathlib.Core.Path.{◌≡◌, refl, ap, ◌∙◌}
use mathlib.Core.Bool.{true, false}
use mathlib.Core.List.{List}
use Prim.Native.Nat.{ℕ, ◌+◌, ◌-◌}
use native.Mathlib.Omega.{arith}
use borrow.Author.Tests.{ne_eqb}
use Rattle.model.specs.State.{release_batch}
use Rattle.lane.specs.declared.lane.Lane.{Lane}
use Rattle.yring.specs.declared.ring.Ring.{Ring}
use Rattle.yring.specs.Ring.{item_at}
use Rattle.lane.specs.Lane.{
  with_counts,
  advance,
  close_fast,
  reload,
  release_at_batch,
  ready_or_idle,
  refill,
  charge,
  end_burst,
  targeted,
  pop_targeted,
  polled,
  poll_item,
  poll_refilled,
  poll,
}
use Rattle.lane.specs.Order.{Filled}

same_counts : (l : Lane) (cached unreleased burst window : ℕ) → cached ≡ l.cached → unreleased ≡ l.unreleased → burst ≡ l.burst → window ≡ l.window
    → with_counts cached unreleased burst window l ≡ l
same_counts l cached unreleased burst window p q r s = rw (p, q, r, s) refl

-- there is nothing to refund
pub close_closed : (l : Lane) → l.window ≡ 0 → close_fast l ≡ l
close_closed l e =
    same_counts l (l.cached + l.window) (l.unreleased - l.window) (l.burst - l.window) 0 (omega arith) (omega arith) (omega arith) (omega arith)

-- there is nothing to look for
reload_some : (l : Lane) → (l.cached ≡ 0 → ⊥) → reload l ≡ l
unfolding reload
reload_some l n = simp (ne_eqb l.cached 0 n)

ready_some : (l : Lane) → (l.cached ≡ 0 → ⊥) → ready_or_idle l ≡ Ok l
unfolding ready_or_idle
ready_some l n = simp (ne_eqb l.cached 0 n)

-- so a look finds what is there
pub refill_filled : (C : ℕ) (l : Lane) → Filled C l → refill l ≡ Ok l
unfolding refill
refill_filled C l h =
    ap (λ m. ready_or_idle (reload m)) (close_closed l h.closed) ∙ ap ready_or_idle (reload_some l (λ e. omega arith)) ∙ ready_some l (λ e. omega arith)

module _ (ring : Ring) (store : List ℕ) (l : Lane) where
  fair_counted : (l.unreleased + 1 ≡ release_batch ring.capacity → ⊥)
      → poll_item ring store true l ≡ Ok (record { item = item_at ring store l.head; rotate = true; released = false; lane = end_burst true (charge 1 (advance 1 l)) })
  unfolding poll_item polled pop_targeted targeted release_at_batch
  fair_counted n = simp (ne_eqb (l.unreleased + 1) (release_batch ring.capacity) n)

  pub poll_at_hand_lem : Filled ring.capacity l → (l.unreleased + 1 ≡ release_batch ring.capacity → ⊥)
      → poll ring store true l ≡ Ok (record { item = item_at ring store l.head; rotate = true; released = false; lane = end_burst true (charge 1 (advance 1 l)) })
  unfolding poll poll_refilled
  poll_at_hand_lem h n = ap (poll_refilled ring store true) (refill_filled ring.capacity l h) ∙ fair_counted n

pub not_true : {A : Type 0} → false ≡ true → A
not_true e = let y : ◌≡◌ {A = ℕ} 0 1 = cc in absurd (omega arith)
