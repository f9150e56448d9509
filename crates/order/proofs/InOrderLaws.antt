-- The test that computes says yes exactly if the stores are in order.
-- Assumes nothing.
use mathlib.Core.Path.{◌≡◌, ap, ◌∙◌}
use mathlib.Core.Bool.{true, false}
use mathlib.Core.List.{List, [], ◌∷◌}
use Prim.Native.Nat.{ℕ, ◌^◌, ◌<◌}
use native.Mathlib.Omega.{arith}
use lib.ListN.{length, take, get_or}
use lib.Pow.{pow_mono}
use Rattle.model.specs.Lists.{count}
use Rattle.model.specs.State.{release_batch}
use Rattle.demands.proofs.Counting.{equal, other, same?, same_self}
use Rattle.lane.specs.declared.lane.Lane.{Lane}
use Rattle.yring.specs.Cursor.{Capacity, distance}
use Rattle.lane.specs.Order.{Cursors, Counts, InOrder}
use Rattle.lane.specs.Table.{lane_at}
use Rattle.queues.specs.Header.{issued, budget, capacity, fast_slot}
use Rattle.queues.specs.Queue.{queue_of}
use Rattle.queues.specs.Registry.{free_of}
use Rattle.ready.specs.Ready.{group_count}
use Rattle.store.specs.Order.{Flags, Fast, StoreInOrder}
use Rattle.order_slot.specs.Tells.{Tells, yes, no}
use Rattle.order_slot.specs.Clauses.{LengthsHold, PlacesHold, LimitsHold, HeaderHolds, Names, RegisteredHolds, UnregisteredHolds, SlotHolds, SlotsHold, CountsHold, PageHolds, GroupHolds, PagesHold, GroupsHold, Clauses}
use Rattle.order_slot.proofs.TellsLaws.{tells_true, tells_of}
use Rattle.order.specs.InOrder.{capacity_test, lengths_test, places_test, limits_test, header_test, names_test, cursors_test, amounts_test, lane_test, is_first, fast_test, flags_test, registered_test, unregistered_test, slot_test, slots_test, counts_test, pages_of, page_test, group_test, pages_test, groups_test, in_order}
use Rattle.order.proofs.ClauseLaws as clauses
use Rattle.order.proofs.TestLaws.{tells_same, tells_less, tells_most, tells_equal, tells_not, tells_both, tells_field, tells_implies, tells_all_below, tells_all_where, tells_some_below}

-- ---- the lengths and the header

pub capacity_tells : (C : ℕ) → Tells (Capacity C) (capacity_test C)
unfolding capacity_test
capacity_tells C =
    tells_of
    (λ h. record { log = h.0; small = omega (arith, h.1); is = h.2; most = omega (arith, h.2, pow_mono {i = h.0} {j = 16} (omega (arith, h.1))) })
    (λ c. (c.log, omega (arith, c.small), c.is))
    (tells_some_below 17 (λ log. tells_equal C (2 ^ log)))

pub lengths_tell : (t r : List ℕ) → Tells (LengthsHold t r) (lengths_test t r)
unfolding lengths_test
lengths_tell t r =
    tells_field (tells_most _ _) (λ o. o.some_slots) (λ a.
    tells_field (tells_most _ _) (λ o. o.slots_most) (λ b.
    tells_field (tells_most _ _) (λ o. o.room) (λ c.
    tells_field (capacity_tells _) (λ o. o.power) (λ d.
    tells_field (tells_most _ _) (λ o. o.rings_room) (λ e.
    yes (record { some_slots = a; slots_most = b; room = c; power = d; rings_room = e }))))))

pub places_tell : (t : List ℕ) → Tells (PlacesHold t) (places_test t)
unfolding places_test
places_tell t =
    tells_field (tells_most _ _) (λ o. o.issued_most) (λ a.
    tells_field (tells_less _ _) (λ o. o.front_in) (λ b.
    tells_field (tells_most _ _) (λ o. o.count_most) (λ c.
    tells_field (tells_most _ _) (λ o. o.free_most) (λ d.
    tells_field (tells_less _ _) (λ o. o.fast_below) (λ e.
    yes (record { issued_most = a; front_in = b; count_most = c; free_most = d; fast_below = e }))))))

pub limits_tell : (t : List ℕ) → Tells (LimitsHold t) (limits_test t)
unfolding limits_test
limits_tell t =
    tells_field (tells_most _ _) (λ o. o.alive_flag) (λ a.
    tells_field (tells_most _ _) (λ o. o.budget_most) (λ b.
    tells_field (tells_most _ _) (λ o. o.cursor_most) (λ c.
    tells_field (tells_less _ _) (λ o. o.first_cursor) (λ d.
    yes (record { alive_flag = a; budget_most = b; cursor_most = c; first_cursor = d })))))

pub header_tells : (t r : List ℕ) → Tells (HeaderHolds t r) (header_test t r)
unfolding header_test
header_tells t r =
    tells_field (lengths_tell t r) (λ o. o.lengths) (λ a.
    tells_field (places_tell t) (λ o. o.places) (λ b.
    tells_field (limits_tell t) (λ o. o.limits) (λ c.
    yes (record { lengths = a; places = b; limits = c }))))

-- ---- the queue and the free list

module _ (issued : ℕ) where
  names_none : Names issued []
  unfolding count
  names_none = record { once = λ x. omega arith; issued_only = λ x h. absurd (omega arith) }

  module _ (x : ℕ) (l : List ℕ) where
    names_more : x < issued → count x l ≡ 0 → Names issued l → Names issued (x ∷ l)
    unfolding count
    names_more h e o =
        record {
          once = λ y. elim (same? y x) [ equal f b i ↦ omega (arith, i, ap (λ (n : ℕ). count n l) f ∙ e) | other d b i ↦ omega (arith, i, o.once y) ];
          issued_only = λ y k. elim (same? y x) [ equal f b i ↦ rw f h | other d b i ↦ o.issued_only y (omega arith) ];
        }

    names_first : Names issued (x ∷ l) → x < issued
    unfolding count
    names_first o = o.issued_only x (omega (arith, same_self x))

    names_new : Names issued (x ∷ l) → count x l ≡ 0
    unfolding count
    names_new o = omega (arith, o.once x, same_self x)

    names_rest : Names issued (x ∷ l) → Names issued l
    unfolding count
    names_rest o = record { once = λ y. omega (arith, o.once y); issued_only = λ y h. o.issued_only y (omega arith) }

  pub names_tell : (l : List ℕ) → Tells (Names issued l) (names_test issued l)
  unfolding names_test
  names_tell [] = yes names_none
  names_tell (x ∷ l) =
      tells_field (tells_less _ _) (names_first x l) (λ a.
      tells_field (tells_equal _ _) (names_new x l) (λ b.
      tells_field (names_tell l) (names_rest x l) (λ c.
      yes (names_more x l a b c))))

-- ---- a lane

module _ (C : ℕ) (l : Lane) where
  pub cursors_tell : Tells (Cursors C l.tail l.released l.head l.known) (cursors_test C l)
  unfolding cursors_test
  cursors_tell =
      tells_field (tells_less _ _) (λ o. o.tail_u64) (λ a.
      tells_field (tells_less _ _) (λ o. o.released_u64) (λ b.
      tells_field (tells_less _ _) (λ o. o.head_u64) (λ c.
      tells_field (tells_less _ _) (λ o. o.known_u64) (λ d.
      tells_field (tells_most _ _) (λ o. o.head_on) (λ e.
      tells_field (tells_most _ _) (λ o. o.known_on) (λ f.
      tells_field (tells_most _ _) (λ o. o.tail_on) (λ g.
      tells_field (tells_most _ _) (λ o. o.tail_within) (λ h.
      yes (record { tail_u64 = a; released_u64 = b; head_u64 = c; known_u64 = d; head_on = e; known_on = f; tail_on = g; tail_within = h })))))))))

  pub amounts_tell : Tells (Counts (release_batch C) (distance l.head l.released) (distance l.known l.head) l.cached l.unreleased l.burst l.window)
      (amounts_test C l)
  unfolding amounts_test
  amounts_tell =
      tells_field (tells_equal _ _) (λ o. o.cached_is) (λ a.
      tells_field (tells_equal _ _) (λ o. o.unreleased_is) (λ b.
      tells_field (tells_less _ _) (λ o. o.unreleased_below) (λ c.
      tells_field (tells_most _ _) (λ o. o.window_most) (λ d.
      tells_field (tells_most _ _) (λ o. o.burst_most) (λ e.
      yes (record { cached_is = a; unreleased_is = b; unreleased_below = c; window_most = d; burst_most = e }))))))

  pub lane_tells : Tells (InOrder C l) (lane_test C l)
  unfolding lane_test
  lane_tells = tells_of (λ h. record { cursors = h.0; counts = h.1 }) (λ o. (o.cursors, o.counts)) (tells_both cursors_tell amounts_tell)

-- ---- a slot

first_tells : (x : ℕ) (q : List ℕ) → Tells (take 1 q ≡ x ∷ []) (is_first x q)
first_tells x [] = no (λ e. let z : ◌≡◌ {A = ℕ} 0 1 = ap length e in omega arith)
first_tells x (y ∷ q) = tells_of (λ e. rw e) (λ e. ap (λ (l : List ℕ). get_or l 0 0) e) (tells_equal y x)

pub fast_tells : (x fast : ℕ) (q : List ℕ) (window budget : ℕ) → Tells (Fast x fast q window budget) (fast_test x fast q window budget)
unfolding fast_test
fast_tells x fast q window budget =
    tells_field (tells_equal _ _) (λ o. o.at_fast) (λ a.
    tells_field (first_tells x q) (λ o. o.in_front) (λ b.
    tells_field (tells_most _ _) (λ o. o.within) (λ c.
    yes (record { at_fast = a; in_front = b; within = c }))))

pub flags_tell : (l : Lane) → Tells (Flags l) (flags_test l)
unfolding flags_test
flags_tell l =
    tells_field (tells_most _ _) (λ o. o.pending_flag) (λ a.
    tells_field (tells_most _ _) (λ o. o.queued_flag) (λ b.
    tells_field (tells_most _ _) (λ o. o.paused_flag) (λ c.
    tells_field (tells_most _ _) (λ o. o.registered_flag) (λ d.
    tells_field (tells_most _ _) (λ o. o.living_flag) (λ e.
    yes (record { pending_flag = a; queued_flag = b; paused_flag = c; registered_flag = d; living_flag = e }))))))

module _ (t : List ℕ) (l : Lane) (x queued free : ℕ) where
  pub registered_tells : Tells (RegisteredHolds t l x queued free) (registered_test t l x queued free)
  unfolding registered_test
  registered_tells =
      tells_field (lane_tells (capacity t) l) (λ o. o.lane) (λ a.
      tells_field (tells_equal _ _) (λ o. o.queued_is) (λ b.
      tells_field (tells_implies (tells_most _ _) (tells_equal _ _)) (λ o. o.unpaused) (λ c.
      tells_field (tells_equal _ _) (λ o. o.not_free) (λ d.
      tells_field (tells_implies (tells_equal _ _) (tells_implies (tells_equal _ _) (tells_implies (tells_equal _ _) (tells_equal _ _)))) (λ o. o.is_marked) (λ e.
      tells_field (tells_implies (tells_less _ _) (fast_tells x (fast_slot t) (queue_of t) l.window (budget t))) (λ o. o.window) (λ f.
      yes (record { lane = a; queued_is = b; unpaused = c; not_free = d; is_marked = e; window = f })))))))

  pub unregistered_tells : (generation : ℕ) → Tells (UnregisteredHolds generation queued free) (unregistered_test generation queued free)
  unfolding unregistered_test
  unregistered_tells generation =
      tells_field (tells_equal _ _) (λ o. o.unqueued) (λ a.
      tells_field (tells_implies (tells_most _ _) (tells_not (tells_equal _ _))) (λ o. o.generation_below) (λ b.
      yes (record { unqueued = a; generation_below = b })))

  pub slot_tells : Tells (SlotHolds t l x queued free) (slot_test t l x queued free)
  unfolding slot_test
  slot_tells =
      tells_field (flags_tell l) (λ o. o.flags) (λ a.
      tells_field (tells_implies (tells_equal _ _) registered_tells) (λ o. o.registered) (λ b.
      tells_field (tells_implies (tells_equal _ _) (unregistered_tells l.key.generation)) (λ o. o.unregistered) (λ c.
      yes (record { flags = a; registered = b; unregistered = c }))))

module _ (t : List ℕ) where
  pub slots_tell : Tells (SlotsHold t (λ x. count x (queue_of t)) (λ x. count x (free_of t))) (slots_test t)
  unfolding slots_test
  slots_tell = tells_all_below (issued t) (λ x h. slot_tells t (lane_at t x) x (count x (queue_of t)) (count x (free_of t)))

  pub counts_tell : Tells (CountsHold t) (counts_test t)
  unfolding counts_test
  counts_tell =
      tells_field (tells_equal _ _) (λ o. o.lanes) (λ a.
      tells_field (tells_equal _ _) (λ o. o.living) (λ b.
      tells_field (tells_equal _ _) (λ o. o.held) (λ c.
      yes (record { lanes = a; living = b; held = c }))))

  -- ---- marks

  pub page_test_tells : (page : ℕ) → Tells (PageHolds t page) (page_test t page)
  unfolding page_test
  page_test_tells page =
      tells_field (tells_less _ _) (λ o. o.fits) (λ a.
      tells_field (tells_all_below 64 (λ b h. tells_implies (tells_equal _ _) (tells_less _ _))) (λ o. o.of_issued) (λ b.
      tells_field (tells_equal _ _) (λ o. o.linked) (λ c.
      yes (record { fits = a; of_issued = b; linked = c }))))

  pub group_test_tells : (group : ℕ) → Tells (GroupHolds t group) (group_test t group)
  unfolding group_test
  group_test_tells group =
      tells_of (λ h. record { fits = h.0; of_pages = h.1 }) (λ o. (o.fits, o.of_pages))
      (tells_both (tells_less _ _) (tells_all_below 64 (λ b h. tells_implies (tells_equal _ _) (tells_less _ _))))

  pub pages_tell : Tells (PagesHold t) (pages_test t)
  unfolding pages_test
  pages_tell = tells_all_where (pages_of (issued t)) (λ page h. omega arith) (λ page h. omega arith) page_test_tells

  pub groups_tell : Tells (GroupsHold t) (groups_test t)
  unfolding groups_test
  groups_tell = tells_all_where (group_count (issued t)) (λ group h. omega arith) (λ group h. omega arith) group_test_tells

-- ---- all clauses

module _ (t r : List ℕ) where
  clauses_tell : Tells (Clauses t r) (in_order t r)
  unfolding in_order
  clauses_tell =
      tells_field (header_tells t r) (λ o. o.header) (λ a.
      tells_field (names_tell (issued t) (queue_of t)) (λ o. o.queue) (λ b.
      tells_field (names_tell (issued t) (free_of t)) (λ o. o.free) (λ c.
      tells_field (slots_tell t) (λ o. o.each_slot) (λ d.
      tells_field (counts_tell t) (λ o. o.counts) (λ e.
      tells_field (pages_tell t) (λ o. o.pages) (λ f.
      tells_field (groups_tell t) (λ o. o.groups) (λ g.
      yes (record { header = a; queue = b; free = c; each_slot = d; counts = e; pages = f; groups = g }))))))))

  pub in_order_tells : Tells (StoreInOrder t r) (in_order t r)
  in_order_tells = tells_of (clauses.holds_in_order t r) (clauses.in_order_holds t r) clauses_tell

  pub in_order_passes : StoreInOrder t r → in_order t r ≡ true
  in_order_passes o = tells_true in_order_tells o

  pub in_order_fails : (StoreInOrder t r → ⊥) → in_order t r ≡ false
  in_order_fails f = tells_same in_order_tells (no f)
