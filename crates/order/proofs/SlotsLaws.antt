-- Laws of the loop over all slots.
-- Assumes nothing.
use mathlib.Core.Path.{◌≡◌, refl, sym, ap, ◌∙◌, subst}
use mathlib.Core.Bool.{Bool}
use mathlib.Core.List.{List}
use Prim.Native.Nat.{ℕ, zero, suc, ◌+◌, ◌*◌, ◌≤◌, ◌<◌}
use native.Mathlib.Numerals.{add-one}
use native.Mathlib.Omega.{arith}
use borrow.Author.Count.{below_more}
use Rattle.lane.specs.declared.lane.Lane.{Lane}
use Rattle.lane.specs.Table.{lane_at}
use Rattle.yring.specs.Cursor.{Capacity}
use Rattle.queues.specs.Header.{issued, capacity, lane_count, living_count, held_count}
use Rattle.store.specs.View.{flag}
use Rattle.store.specs.Order.{Flags}
use Rattle.store.specs.Held.{held_in, held_from, walked_held}
use Rattle.store.proofs.CountLaws.{passing_none, passing_more}
use Rattle.store.proofs.HeldLaws.{held_in_most}
use Rattle.store.proofs.StoreLaws.{one_flag}
use Rattle.order_slot.specs.Tells.{Tells}
use Rattle.order_slot.specs.Clauses.{SlotHolds, SlotsHold, registered_below, living_below, CountsHold}
use Rattle.order.specs.Seen.{has}

-- ---- the counts

module _ (t : List ℕ) (k : ℕ) where
  registered_more : Flags (lane_at t k) → registered_below t (k + 1) ≡ registered_below t k + (lane_at t k).registered
  unfolding registered_below
  registered_more o =
      rw (add-one k)
      (passing_more (λ x. flag (lane_at t x).registered) 0 k k (omega arith)
      ∙ ap (λ (w : ℕ). registered_below t k + w) (one_flag (lane_at t k).registered o.registered_flag))

  living_more : Flags (lane_at t k) → living_below t (k + 1) ≡ living_below t k + (lane_at t k).living
  unfolding living_below
  living_more o =
      rw (add-one k)
      (passing_more (λ x. flag (lane_at t x).living) 0 k k (omega arith)
      ∙ ap (λ (w : ℕ). living_below t k + w) (one_flag (lane_at t k).living o.living_flag))

-- one slot more at the end of the walk
held_more : (t : List ℕ) (n a b : ℕ) → b ≡ a + n → held_from t (suc n) a ≡ held_from t n a + held_in (lane_at t b)
unfolding held_from
held_more t zero a b e = let same : b ≡ a = omega arith in rw same (omega arith)
held_more t (suc n) a b e = omega (arith, held_more t n (a + 1) b (omega arith))

-- ---- the loop: k slots hold, and have so many lanes, living senders and items

pub record SlotScan (t queued free : List ℕ) (k lanes living held : ℕ) : Type 0 where
  pub below : k ≤ issued t
  pub each : (x : ℕ) → x < k → SlotHolds t (lane_at t x) x (has queued x) (has free x)
  pub lanes_is : lanes ≡ registered_below t k
  pub living_is : living ≡ living_below t k
  pub held_is : held ≡ held_from t k 0
  pub lanes_most : lanes ≤ k
  pub living_most : living ≤ k
  pub held_most : held ≤ 65536 * k

-- a slot that holds has at most C items, and C is at most 65,536
pub items_most : (t : List ℕ) → Capacity (capacity t) → {l : Lane} {x queued free : ℕ} → SlotHolds t l x queued free → held_in l ≤ 65536
items_most t c {l} s = held_in_most (capacity t) c.most l (λ e. (s.registered e).lane)

module _ (t queued free : List ℕ) where
  pub scan_start : SlotScan t queued free 0 0 0 0
  unfolding registered_below living_below held_from
  scan_start =
      record {
        below = omega arith;
        each = λ x h. absurd (omega arith);
        lanes_is = sym (passing_none (λ x. flag (lane_at t x).registered) 0);
        living_is = sym (passing_none (λ x. flag (lane_at t x).living) 0);
        held_is = refl;
        lanes_most = omega arith;
        living_most = omega arith;
        held_most = omega arith;
      }

  module _ {k : ℕ} {l : Lane} {q f : ℕ} (el : l ≡ lane_at t k) (eq : q ≡ has queued k) (ef : f ≡ has free k) where
    pub here : {a : Bool} → Tells (SlotHolds t l k q f) a → Tells (SlotHolds t (lane_at t k) k (has queued k) (has free k)) a
    here {a} h =
        subst (λ (m : Lane). Tells (SlotHolds t m k (has queued k) (has free k)) a) el
        (subst (λ (y : ℕ). Tells (SlotHolds t l k y (has free k)) a) eq (subst (λ (z : ℕ). Tells (SlotHolds t l k q z) a) ef h))

    module _ {lanes living held : ℕ} (o : SlotScan t queued free k lanes living held) where
      pub scan_next : Capacity (capacity t) → k < issued t → SlotHolds t (lane_at t k) k (has queued k) (has free k) → {items : ℕ} → items ≡ held_in l
          → SlotScan t queued free (k + 1) (lanes + l.registered) (living + l.living) (held + items)
      scan_next c h s ei =
          let er : l.registered ≡ (lane_at t k).registered = ap (λ (m : Lane). m.registered) el in
          let ev : l.living ≡ (lane_at t k).living = ap (λ (m : Lane). m.living) el in
          let eh = ei ∙ ap held_in el in
          record {
            below = omega arith;
            each = below_more _ _ o.each s;
            lanes_is = omega (arith, o.lanes_is, registered_more t k s.flags, er);
            living_is = omega (arith, o.living_is, living_more t k s.flags, ev);
            held_is = rw (add-one k) (omega (arith, o.held_is, held_more t k 0 k (omega arith), eh));
            lanes_most = omega (arith, o.lanes_most, s.flags.registered_flag, er);
            living_most = omega (arith, o.living_most, s.flags.living_flag, ev);
            held_most = omega (arith, o.held_most, items_most t c s, eh);
          }

  module _ {k lanes living held : ℕ} (o : SlotScan t queued free k lanes living held) (h : issued t ≤ k) where
    all : k ≡ issued t
    all = omega (arith, o.below)

    walked : held ≡ walked_held t
    walked = o.held_is ∙ ap (λ (n : ℕ). held_from t n 0) all

    pub scan_counts : SlotsHold t (has queued) (has free) × CountsHold t → (lanes ≡ lane_count t) × (living ≡ living_count t) × (held ≡ held_count t)
    scan_counts p = (
      o.lanes_is ∙ ap (registered_below t) all ∙ sym p.1.lanes,
      o.living_is ∙ ap (living_below t) all ∙ sym p.1.living,
      walked ∙ sym p.1.held,
    )

    pub scan_all : lanes ≡ lane_count t → living ≡ living_count t → held ≡ held_count t → SlotsHold t (has queued) (has free) × CountsHold t
    scan_all e g i = (
      λ x l. o.each x (omega arith),
      record {
        lanes = sym e ∙ o.lanes_is ∙ ap (registered_below t) all;
        living = sym g ∙ o.living_is ∙ ap (living_below t) all;
        held = sym i ∙ walked;
      },
    )
