-- A send in two steps, the lane and then the item's word, is the send of the definition.
-- Assumes nothing.
use Rattle.std.specs.Prelude.{Option, Some, None}
use mathlib.Core.Bool.{Bool, true, false}
use mathlib.Core.List.{List}
use mathlib.Core.Path.{◌≡◌, refl, sym, ap, ◌∙◌}
use Prim.Native.Nat.{ℕ}
use lib.Dec.{eqb}
use Rattle.yring.specs.Cursor.{distance}
use Rattle.yring.specs.Ring.{push_item, push, put}
use Rattle.lane.specs.Lane.{sent, push_and_flush_item, sent_by, push_and_flush}
use Rattle.yring.specs.declared.ring.Ring.{Ring}
use Rattle.lane.specs.declared.lane.Lane.{Lane}
use Rattle.lane.specs.declared.producer.Sent.{Sent}

-- the ring store that goes with what a send answers
abbrev pub stored_by : Ring → List ℕ → ℕ → Lane → Option Sent → List ℕ
stored_by ring store item l (Some s) = put ring store l.tail item
stored_by ring store item l None = store

pub flushed_then_put : (ring : Ring) (store : List ℕ) (item : ℕ) (l : Lane)
    → push_and_flush_item ring store item l ≡ (push_and_flush ring l, stored_by ring store item l (push_and_flush ring l))
unfolding push_and_flush_item sent push_item push_and_flush sent_by push
flushed_then_put ring store item l = go (eqb (distance l.tail l.released) ring.capacity) refl
  where
    go : (b : Bool) → eqb (distance l.tail l.released) ring.capacity ≡ b
        → push_and_flush_item ring store item l ≡ (push_and_flush ring l, stored_by ring store item l (push_and_flush ring l))
    go true e = simp e
    go false e = simp e

pub flush_taken : (ring : Ring) (store : List ℕ) (item : ℕ) (l m : Lane) {free : ℕ} → Some (record { lane = m; free = free }) ≡ push_and_flush ring l
    → push_and_flush_item ring store item l ≡ (Some (record { lane = m; free = free }), put ring store l.tail item)
flush_taken ring store item l m e =
    flushed_then_put ring store item l ∙ ap (λ (s : Option Sent). (s, stored_by ring store item l s)) (sym e)

pub flush_full : (ring : Ring) (store : List ℕ) (item : ℕ) (l : Lane) → None ≡ push_and_flush ring l
    → push_and_flush_item ring store item l ≡ (None, store)
flush_full ring store item l e =
    flushed_then_put ring store item l ∙ ap (λ (s : Option Sent). (s, stored_by ring store item l s)) (sym e)
