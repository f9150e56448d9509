-- A send's two stores, the lane and then the item's word, are the definition's.
-- Assumes nothing.
use Rattle.std.specs.Prelude.{Option, Some, None}
use mathlib.Core.Path.{◌≡◌, refl, sym, ap, ap₂, ◌∙◌}
use mathlib.Core.Bool.{false}
use mathlib.Core.List.{List}
use Prim.Native.Nat.{ℕ}
use Rattle.model.specs.declared.LaneKey.{LaneKey}
use Rattle.model.specs.declared.Refusal.TheVariants as Refusal
use Rattle.model.specs.declared.Answer.{Answer}
use Rattle.model.specs.declared.Answer.TheVariants.{Taken, Refused}
use Rattle.lane.specs.declared.lane.Lane.{Lane}
use Rattle.yring.specs.declared.ring.Ring.{Ring}
use Rattle.lane.specs.declared.producer.Sent.{Sent}
use Rattle.yring.specs.Ring.{new_ring, push, put}
use Rattle.lane.specs.Lane.{push_and_flush_item, sent_by, push_and_flush}
use Rattle.lane.specs.Order.{sent_lane}
use Rattle.lane.specs.Table.{lane_at, put_lane}
use Rattle.lane.proofs.FlushLaws.{flush_taken, flush_full}
use Rattle.queues.specs.Header.{capacity, held_more}
use Rattle.sender.specs.Sender.{take_signaled, send_signaled, send_unsignaled, pushed}
use Rattle.yring.specs.declared.ring.Pushed.{Pushed}

module _ (ring : Ring) (l : Lane) {s : Option Sent} (e : s ≡ push_and_flush ring l) where
  -- the lane that a push hands back has the lane's key
  pub flushed_key : {x : Sent} → s ≡ Some x → x.lane.key ≡ l.key
  unfolding push_and_flush sent_by
  flushed_key f = ap (λ (z : Option Sent). (sent_lane l z).key) (sym f ∙ e) ∙ go (push ring l.tail l.released)
    where
      go : (p : Option Pushed) → (sent_lane l (sent_by l p)).key ≡ l.key
      go (Some p) = refl
      go None = refl

  module _ (t r : List ℕ) (k : LaneKey) (v : ℕ) (a : ring ≡ new_ring k.slot (capacity t)) (b : l ≡ lane_at t k.slot) where
    here : pushed t r k v ≡ push_and_flush_item ring r v l
    here = ap₂ (λ (g : Ring) (x : Lane). push_and_flush_item g r v x) (sym a) (sym b)

    pushed_taken : {x : Sent} → s ≡ Some x → pushed t r k v ≡ (Some x, put ring r l.tail v)
    pushed_taken {x} f = here ∙ flush_taken ring r v l x.lane {free = x.free} (sym f ∙ e)

    pushed_full : s ≡ None → pushed t r k v ≡ (None, r)
    pushed_full f = here ∙ flush_full ring r v l (sym f ∙ e)

    pub signaled_taken : {x : Sent} → s ≡ Some x → {a : Answer} {u w q : List ℕ} → (a, u) ≡ take_signaled t x.lane x.free → w ≡ held_more u → q ≡ put ring r l.tail v
        → (a, w, q) ≡ send_signaled t (pushed t r k v)
    unfolding send_signaled
    signaled_taken f g i h = rw i (ap₂ (λ (o : Answer × List ℕ) (y : List ℕ). (o.0, held_more o.1, y)) g h) ∙ sym (ap (send_signaled t) (pushed_taken f))

    pub signaled_full : s ≡ None → (Refused Refusal.Full, t, r) ≡ send_signaled t (pushed t r k v)
    unfolding send_signaled
    signaled_full f = sym (ap (send_signaled t) (pushed_full f))

    pub unsignaled_taken : {x : Sent} → s ≡ Some x → {u w q : List ℕ} → u ≡ put_lane t x.lane → w ≡ held_more u → q ≡ put ring r l.tail v
        → (Taken false x.free, w, q) ≡ send_unsignaled t (pushed t r k v)
    unfolding send_unsignaled
    unsignaled_taken {x} f g i h = rw i (ap₂ (λ (o y : List ℕ). (Taken false x.free, held_more o, y)) g h) ∙ sym (ap (send_unsignaled t) (pushed_taken f))

    pub unsignaled_full : s ≡ None → (Refused Refusal.Full, t, r) ≡ send_unsignaled t (pushed t r k v)
    unfolding send_unsignaled
    unsignaled_full f = sym (ap (send_unsignaled t) (pushed_full f))
