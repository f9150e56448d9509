-- The clauses together are a store in order.
-- Assumes nothing.
use mathlib.Core.Path.{◌≡◌, refl, sym, ◌∙◌, subst}
use mathlib.Core.Bool.{Bool, true, false}
use mathlib.Core.List.{List}
use Prim.Native.Nat.{ℕ, zero, suc, ◌+◌, ◌*◌, ◌/◌, ◌%◌, ◌≤◌, ◌<◌}
use native.Mathlib.Omega.{arith}
use borrow.Author.Tests.{eqb-true, eqb-false, eq-eqb, ne_eqb, ltb-true, ltb-false}
use lib.Dec.{ltb}
use Rattle.model.specs.Lists.{count}
use Rattle.model.specs.State.{vacant, registered_lanes, living_senders}
use Rattle.model.specs.Order.{Ordered, SlotOrdered}
use Rattle.model.specs.Ready.{groups_in}
use Rattle.demands.proofs.Counting.{no}
use Rattle.lane.specs.declared.lane.Lane.{Lane}
use Rattle.lane.specs.Order.{InOrder}
use Rattle.lane.specs.Table.{lane_at}
use Rattle.queues.specs.Header.{Shaped, issued, budget, capacity, fast_slot}
use Rattle.queues.specs.Queue.{queue_of}
use Rattle.queues.specs.Registry.{free_of}
use Rattle.ready.specs.Ready.{Linked}
use Rattle.store.specs.View.{flag, slot_at, view}
use Rattle.store.specs.Order.{Flag, Flags, Fast, MarkWords, Stores, StoreInOrder}
use Rattle.store.proofs.ViewLaws.{slot_in, slot_out}
use Rattle.store.proofs.CountLaws.{passing_same}
use Rattle.store.proofs.HeldLaws.{held_total, held_walked}
use Rattle.order_slot.specs.Clauses.{HeaderHolds, SlotHolds, registered_below, living_below, PagesHold, GroupsHold, Clauses}

-- ---- the header

pub shaped_header : (t r : List ℕ) → HeaderHolds t r → Shaped t
shaped_header t r h =
    let l = h.lengths in
    let p = h.places in
    record {
      issued_most = p.issued_most;
      front_in = p.front_in;
      count_most = p.count_most;
      free_most = p.free_most;
      slots_most = l.slots_most;
      cursor_most = omega (arith, h.limits.cursor_most, p.issued_most, l.slots_most);
      room = l.room;
    }

-- ---- marks

module _ (t : List ℕ) where
  pub linked_marks : PagesHold t → GroupsHold t → Linked t
  linked_marks p g =
      record {
        of_issued = λ slot h e. omega (arith, (p (slot / 64) h).of_issued (slot % 64) (omega arith) e);
        linked = λ page h. (p page h).linked;
        of_pages = λ page h e. omega (arith, (g (page / 64) h).of_pages (page % 64) (omega arith) e);
      }

  pub marks_fit : PagesHold t → GroupsHold t → MarkWords t
  marks_fit p g = record { pages_fit = λ page h. (p page h).fits; groups_fit = λ group h. (g group h).fits }

  place_of : (p b : ℕ) → b < 64 → (64 * p + b) / 64 ≡ p
  place_of p b h = omega arith

  bit_of_lem : (p b : ℕ) → b < 64 → (64 * p + b) % 64 ≡ b
  bit_of_lem p b h = omega arith

  pub pages_hold_lem : Linked t → MarkWords t → PagesHold t
  pages_hold_lem l m page h =
      record {
        fits = m.pages_fit page h;
        of_issued = λ b k e.
            let q = place_of page b k in
            let d = bit_of_lem page b k in
            l.of_issued (64 * page + b) (rw q h) (rw (q, d) e);
        linked = l.linked page h;
      }

  pub groups_hold_lem : Linked t → MarkWords t → GroupsHold t
  groups_hold_lem l m group h =
      record {
        fits = m.groups_fit group h;
        of_pages = λ b k e.
            let q = place_of group b k in
            let d = bit_of_lem group b k in
            l.of_pages (64 * group + b) (rw q h) (rw (q, d) e);
      }

-- ---- counts

module _ (t r : List ℕ) where
  registered_seen : (x : ℕ) → x < issued t → ((view t r).slot_of x).registered ≡ flag (lane_at t x).registered
  unfolding slot_at
  registered_seen x h = rw (slot_in t r x h)

  living_seen : (x : ℕ) → x < issued t → ((view t r).slot_of x).living ≡ flag (lane_at t x).living
  unfolding slot_at
  living_seen x h = rw (slot_in t r x h)

  pub registered_is : registered_lanes (view t r) ≡ registered_below t (issued t)
  unfolding registered_lanes registered_below view
  registered_is = passing_same (λ x. ((view t r).slot_of x).registered) (λ x. flag (lane_at t x).registered) 0 (issued t) (λ y g l. registered_seen y (omega arith))

  pub living_is : living_senders (view t r) ≡ living_below t (issued t)
  unfolding living_senders living_below view
  living_is = passing_same (λ x. ((view t r).slot_of x).living) (λ x. flag (lane_at t x).living) 0 (issued t) (λ y g l. living_seen y (omega arith))

-- ---- flags as the rules see them

flag_set : {w : ℕ} → flag w ≡ true → w ≡ 1
flag_set {w} e = eqb-true w 1 e

flag_clear : {w : ℕ} → Flag w → flag w ≡ false → w ≡ 0
flag_clear {w} h e = omega (arith, eqb-false w 1 e)

set_flag : {w : ℕ} → w ≡ 1 → flag w ≡ true
set_flag {w} e = eq-eqb w 1 e

clear_flag : {w : ℕ} → w ≡ 0 → flag w ≡ false
clear_flag {w} e = ne_eqb w 1 (λ f. omega arith)

none_of : {n : ℕ} {P : Type 0} → (1 ≤ n → P) → (P → ⊥) → n ≡ 0
none_of {n = zero} f g = refl
none_of {n = suc n} f g = absurd (g (f (omega arith)))

-- ---- an issued slot, from the rules' order of it and back

module _ (t r : List ℕ) (x : ℕ) (q f : ℕ) (q1 : q ≤ 1) (f1 : f ≤ 1) where
  abbrev l : Lane
  l = lane_at t x

  pub slot_ordered : x < issued t → SlotHolds t l x q f → SlotOrdered x (issued t) q f (slot_at t r x)
  unfolding slot_at
  slot_ordered h o =
      record {
        queued_once = q1;
        queued_registered = λ n. set_flag (registered_of n);
        queued_unpaused = λ n. clear_flag ((o.registered (registered_of n)).unpaused n);
        is_marked = λ a b c z. set_flag ((o.registered (flag_set a)).is_marked (flag_clear o.flags.paused_flag b) (flag_set c) z);
        marked_issued = λ e. h;
        registered_issued = λ e. h;
        living_issued = λ e. h;
        free_issued = λ e. h;
        free_once = f1;
        free_unregistered = λ m. clear_flag (unregistered_of m);
        free_generation = λ m. (o.unregistered (unregistered_of m)).generation_below m;
        burst_most = λ a. let b = (o.registered (flag_set a)).lane.counts.burst_most in omega (arith, b);
      }
    where
      registered_of : 1 ≤ q → l.registered ≡ 1
      registered_of n = go l.registered refl o.flags.registered_flag
        where
          go : (w : ℕ) → l.registered ≡ w → w ≤ 1 → l.registered ≡ 1
          go zero e k = absurd (omega (arith, (o.unregistered e).unqueued))
          go (suc w) e k = omega arith

      unregistered_of : 1 ≤ f → l.registered ≡ 0
      unregistered_of m = go l.registered refl o.flags.registered_flag
        where
          go : (w : ℕ) → l.registered ≡ w → w ≤ 1 → l.registered ≡ 0
          go zero e k = e
          go (suc w) e k = absurd (omega (arith, (o.registered (omega arith)).not_free))

  pub slot_holds_lem : SlotOrdered x (issued t) q f (slot_at t r x) → Flags l → (l.registered ≡ 1 → InOrder (capacity t) l) → (l.registered ≡ 1 → l.queued ≡ q)
      → (l.registered ≡ 1 → 0 < l.window → Fast x (fast_slot t) (queue_of t) l.window (budget t)) → SlotHolds t l x q f
  unfolding slot_at
  slot_holds_lem o s a b w =
      record {
        flags = s;
        registered = λ e. record {
          lane = a e;
          queued_is = b e;
          unpaused = λ n. flag_clear s.paused_flag (o.queued_unpaused n);
          not_free = none_of o.free_unregistered (no (set_flag e));
          is_marked = λ p c z. flag_set (o.is_marked (set_flag e) (clear_flag p) (set_flag c) z);
          window = w e;
        };
        unregistered = λ e. record {
          unqueued = none_of o.queued_registered (λ g. no g (clear_flag e));
          generation_below = o.free_generation;
        };
      }

-- a slot that was never issued
pub vacant_ordered : (x i q f : ℕ) → (1 ≤ q → x < i) → (1 ≤ f → x < i) → i ≤ x → SlotOrdered x i q f vacant
unfolding vacant
vacant_ordered x i q f g k h =
    let a : q ≡ 0 = none_of g (λ e. omega arith) in
    let b : f ≡ 0 = none_of k (λ e. omega arith) in
    record {
      queued_once = omega arith;
      queued_registered = λ n. absurd (omega arith);
      queued_unpaused = λ n. refl;
      is_marked = λ e. absurd (no e refl);
      marked_issued = λ e. absurd (no e refl);
      registered_issued = λ e. absurd (no e refl);
      living_issued = λ e. absurd (no e refl);
      free_issued = λ m. absurd (omega arith);
      free_once = omega arith;
      free_unregistered = λ m. refl;
      free_generation = λ m. absurd (omega arith);
      burst_most = λ e. absurd (no e refl);
    }

-- ---- all clauses

module _ (t r : List ℕ) where
  pub in_order_holds : StoreInOrder t r → Clauses t r
  unfolding view groups_in
  in_order_holds o =
      let s = o.stores in
      let d = o.ordered in
      record {
        header = record {
          lengths = record {
            some_slots = d.sizes.some_slots;
            slots_most = s.shaped.slots_most;
            room = s.shaped.room;
            power = s.power;
            rings_room = s.rings_room;
          };
          places = record {
            issued_most = s.shaped.issued_most;
            front_in = s.shaped.front_in;
            count_most = s.shaped.count_most;
            free_most = s.shaped.free_most;
            fast_below = s.fast_below;
          };
          limits = record {
            alive_flag = s.alive_flag;
            budget_most = d.budget_most;
            cursor_most = d.cursor_most;
            first_cursor = s.first_cursor;
          };
        };
        queue = record { once = s.named.once; issued_only = s.named.issued_only };
        free = record { once = λ x. (d.each_slot x).free_once; issued_only = λ x. (d.each_slot x).free_issued };
        each_slot = λ x h.
            slot_holds_lem t r x _ _ (s.named.once x) (d.each_slot x).free_once
            (subst (SlotOrdered x (issued t) (count x (queue_of t)) (count x (free_of t))) (slot_in t r x h) (d.each_slot x))
            (s.flags x h) (s.lanes x h) (s.named.flagged x h) (s.windows x h);
        counts = record { lanes = s.lanes_counted ∙ registered_is t r; living = s.living_counted ∙ living_is t r; held = held_walked t r o };
        pages = pages_hold_lem t s.linked s.mark_words;
        groups = groups_hold_lem t s.linked s.mark_words;
      }

  stores_of : Clauses t r → Stores t r
  stores_of c =
      let h = c.header in
      record {
        shaped = shaped_header t r h;
        fast_below = h.places.fast_below;
        power = h.lengths.power;
        rings_room = h.lengths.rings_room;
        alive_flag = h.limits.alive_flag;
        first_cursor = h.limits.first_cursor;
        flags = λ x l. (c.each_slot x l).flags;
        lanes = λ x l e. ((c.each_slot x l).registered e).lane;
        named = record { once = c.queue.once; issued_only = c.queue.issued_only; flagged = λ x l e. ((c.each_slot x l).registered e).queued_is };
        linked = linked_marks t c.pages c.groups;
        mark_words = marks_fit t c.pages c.groups;
        windows = λ x l e. ((c.each_slot x l).registered e).window;
        lanes_counted = c.counts.lanes ∙ sym (registered_is t r);
        living_counted = c.counts.living ∙ sym (living_is t r);
      }

  ordered_slots : Clauses t r → (x : ℕ) → SlotOrdered x (issued t) (count x (queue_of t)) (count x (free_of t)) ((view t r).slot_of x)
  ordered_slots c x = go (ltb x (issued t)) refl
    where
      go : (b : Bool) → ltb x (issued t) ≡ b → SlotOrdered x (issued t) (count x (queue_of t)) (count x (free_of t)) ((view t r).slot_of x)
      go true e =
          let h = ltb-true x (issued t) e in
          subst (SlotOrdered x (issued t) (count x (queue_of t)) (count x (free_of t))) (sym (slot_in t r x h))
          (slot_ordered t r x _ _ (c.queue.once x) (c.free.once x) h (c.each_slot x h))
      go false e =
          subst (SlotOrdered x (issued t) (count x (queue_of t)) (count x (free_of t))) (sym (slot_out t r x e))
          (vacant_ordered x (issued t) _ _ (c.queue.issued_only x) (c.free.issued_only x) (ltb-false x (issued t) e))

  ordered_of : Clauses t r → Ordered (view t r)
  unfolding view groups_in
  ordered_of c =
      let h = c.header in
      record {
        each_slot = ordered_slots c;
        budget_most = h.limits.budget_most;
        cursor_most = h.limits.cursor_most;
        sizes = record {
          power_of_two = (h.lengths.power.log, h.lengths.power.small, h.lengths.power.is);
          some_slots = h.lengths.some_slots;
          most_slots = h.lengths.slots_most;
          issued_most = h.places.issued_most;
        };
      }

  pub holds_in_order : Clauses t r → StoreInOrder t r
  holds_in_order c = record { stores = stores_of c; ordered = ordered_of c; held_counted = c.counts.held ∙ held_total t r }
