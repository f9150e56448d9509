-- A lane's signal marked where it was idle: what the rules see of it, and the run of stores that it belongs to.
-- Assumes nothing.
use mathlib.Core.Path.{◌≡◌, refl, sym, ap, ◌∙◌}
use mathlib.Core.Bool.{Bool, true, false, cond, not}
use mathlib.Core.List.{List}
use Prim.Native.Nat.{ℕ, ◌≤◌, ◌<◌}
use native.Mathlib.Omega.{arith}
use borrow.Author.Tests.{eqb-true, eqb-false, ne_eqb}
use lib.Dec.{eqb}
use Rattle.model.specs.Lists.{either}
use Rattle.model.specs.State.{Slot, State}
use Rattle.model.specs.Changes.{put, with_signal}
use Rattle.lane.specs.declared.lane.Lane.{Lane}
use Rattle.queues.specs.Header.{Shaped, issued}
use Rattle.ready.specs.Ready.{mark}
use Rattle.store.specs.View.{flag, view}
use Rattle.store.specs.Signal.{mark_if_idle}
use Rattle.store.proofs.ViewLaws.{put_put, put_same, put_own, view_marked}
use Rattle.store.proofs.StepLaws.{Step, step_marked}

-- a signal that is not pending is idle
pub idle_flag : (w : ℕ) → w ≤ 1 → eqb w 0 ≡ not (flag w)
idle_flag w h = go (eqb w 1) refl
  where
    go : (b : Bool) → eqb w 1 ≡ b → eqb w 0 ≡ not b
    go true e = ne_eqb w 0 (λ z. omega (arith, eqb-true w 1 e))
    go false e = let z : w ≡ 0 = omega (arith, eqb-false w 1 e) in rw z

-- a slot with its signal as it is, and marked where `idle` says so
abbrev pub marked_if : Bool → Slot → Slot
marked_if idle l = with_signal l.pending (either idle l.marked) l

module _ (u q : List ℕ) (s : Shaped u) (l : Lane) (x : ℕ) (at : l.key.slot ≡ x) (h : x < issued u) where
  pub view_marked_if_idle : view (mark_if_idle u l) q ≡ put x (marked_if (eqb l.pending 0) ((view u q).slot_of x)) (view u q)
  unfolding mark_if_idle
  view_marked_if_idle = rw at (go (eqb l.pending 0))
    where
      go : (b : Bool) → view (cond b (mark u x) u) q ≡ put x (marked_if b ((view u q).slot_of x)) (view u q)
      go true = view_marked u q s x h
      go false = sym (put_same x (view u q))

  -- after a change of the slot alone
  pub view_put_marked_if_idle : (a : Slot) (v : State) → view u q ≡ put x a v → view (mark_if_idle u l) q ≡ put x (marked_if (eqb l.pending 0) a) v
  view_put_marked_if_idle a v e =
      let b : Bool = eqb l.pending 0 in
      view_marked_if_idle
      ∙ ap (λ (z : State). put x (marked_if b (z.slot_of x)) z) e
      ∙ ap (λ (z : Slot). put x (marked_if b z) (put x a v)) (put_own x a v)
      ∙ put_put x (marked_if b a) a v

-- in a run of stores
pub step_marked_if_idle : {t u : List ℕ} {x : ℕ} {l : Lane} {w : List ℕ} {g : ℕ → ℕ} → Step t u x l w g → (o : Lane) → o.key.slot < issued t
    → Step t (mark_if_idle u o) x l w g
unfolding mark_if_idle
step_marked_if_idle {t = t} {u = u} {x = x} {l = l} {w = w} {g = g} k o h = go (eqb o.pending 0)
  where
    go : (c : Bool) → Step t (cond c (mark u o.key.slot) u) x l w g
    go true = step_marked k o.key.slot h
    go false = k
