-- Collecting leaves a store in order.
-- Assumes nothing.
use mathlib.Core.Path.{◌≡◌, refl, sym, ap, ◌∙◌, subst}
use mathlib.Core.Bool.{Bool, true, false}
use mathlib.Core.List.{List}
use Prim.Native.Nat.{ℕ}
use lib.Dec.{eqb, ltb}
use Rattle.lane.specs.declared.lane.Lane.{Lane}
use Rattle.lane.specs.Order.{InOrder}
use Rattle.lane.specs.Table.{header_words, head, lane_at}
use Rattle.queues.specs.Header.{issued, budget, capacity, fast_slot}
use Rattle.queues.specs.Queue.{queue_of}
use Rattle.ready.specs.Ready.{queued_lane, collect_ready}
use Rattle.store.specs.View.{flag, view}
use Rattle.store.specs.Order.{Flags, Fast, Stores}
use Rattle.store.proofs.CountLaws.{one, SlotSum, lanes_sum, living_sum, number_same}
use Rattle.store.proofs.CollectedView.{Collected, collected}

module _ (t r : List ℕ) (o : Stores t r) (all : Bool) where
  abbrev u : List ℕ
  u = collect_ready all t

  did : Collected t u
  did = (collected t r o all).1

  heads_did : (k : ℕ) → ltb k header_words ≡ true → eqb 2 k ≡ false → eqb 6 k ≡ false → head u k ≡ head t k
  heads_did = did.left.heads

  -- what does not read the queued word holds of a lane as before
  lane_did : (P : Lane → Type 0) → ((l : Lane) → P (queued_lane l) → P l) → (y : ℕ) → P (queued_lane (lane_at t y)) → P (lane_at u y)
  lane_did P f y h = f (lane_at u y) (subst P (sym (did.left.lanes y)) h)

  registered_did : (y : ℕ) → (lane_at u y).registered ≡ (lane_at t y).registered
  registered_did y = ap (λ (l : Lane). l.registered) (did.left.lanes y)

  living_did : (y : ℕ) → (lane_at u y).living ≡ (lane_at t y).living
  living_did y = ap (λ (l : Lane). l.living) (did.left.lanes y)

  window_did : (y : ℕ) → (lane_at u y).window ≡ (lane_at t y).window
  window_did y = ap (λ (l : Lane). l.window) (did.left.lanes y)

  issued_did : issued u ≡ issued t
  issued_did = heads_did 0 refl refl refl

  sum_did : (c : SlotSum) → ((l m : Lane) → queued_lane l ≡ queued_lane m → c.by_words l ≡ c.by_words m) → c.number (view u r) ≡ c.number (view t r)
  sum_did c f = number_same c t r u r issued_did (λ y. f (lane_at u y) (lane_at t y) (did.left.lanes y))

  -- collecting leaves what a store in order has beside the rules' state
  pub stores_collected : Stores u r
  stores_collected =
      record {
        shaped = did.collects.shaped;
        fast_below = rw (heads_did 12 refl refl refl, heads_did 4 refl refl refl) o.fast_below;
        power = rw (heads_did 8 refl refl refl) o.power;
        rings_room = rw (heads_did 8 refl refl refl, heads_did 4 refl refl refl) o.rings_room;
        alive_flag = rw (heads_did 7 refl refl refl) o.alive_flag;
        first_cursor = rw (heads_did 10 refl refl refl) o.first_cursor;
        flags = λ y h. flags_did y (o.flags y (rw issued_did at h));
        lanes = λ y h e. rw (heads_did 8 refl refl refl) (order_did y (o.lanes y (rw issued_did at h) (sym (registered_did y) ∙ e)));
        named = did.collects.names;
        linked = did.collects.linked;
        mark_words = did.collects.mark_words;
        windows = λ y h e w. window_fast y (o.windows y (rw issued_did at h) (sym (registered_did y) ∙ e) (rw (window_did y) at w));
        lanes_counted = heads_did 13 refl refl refl ∙ o.lanes_counted ∙ sym (sum_did lanes_sum (λ l m e. ap (λ (z : Lane). one (flag z.registered)) e));
        living_counted = heads_did 14 refl refl refl ∙ o.living_counted ∙ sym (sum_did living_sum (λ l m e. ap (λ (z : Lane). one (flag z.living)) e));
      }
    where
      flags_did : (y : ℕ) → Flags (lane_at t y) → Flags (lane_at u y)
      flags_did y f =
          record {
            pending_flag = rw (ap (λ (l : Lane). l.pending) (did.left.lanes y)) f.pending_flag;
            queued_flag = did.queued_flags y f.queued_flag;
            paused_flag = rw (ap (λ (l : Lane). l.paused) (did.left.lanes y)) f.paused_flag;
            registered_flag = rw (registered_did y) f.registered_flag;
            living_flag = rw (living_did y) f.living_flag;
          }

      order_did : (y : ℕ) → InOrder (capacity t) (lane_at t y) → InOrder (capacity t) (lane_at u y)
      order_did y i =
          lane_did (InOrder (capacity t)) (λ l j. record { cursors = j.cursors; counts = j.counts }) y (record { cursors = i.cursors; counts = i.counts })

      window_fast : (y : ℕ) → Fast y (fast_slot t) (queue_of t) (lane_at t y).window (budget t) → Fast y (fast_slot u) (queue_of u) (lane_at u y).window (budget u)
      window_fast y f =
          record {
            at_fast = f.at_fast ∙ sym (heads_did 12 refl refl refl);
            in_front = did.front y f.in_front;
            within = rw (window_did y, heads_did 5 refl refl refl) f.within;
          }
