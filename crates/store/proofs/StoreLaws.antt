-- What a store in order gives to a call, and that a run of stores that changes one lane leaves one.
-- Assumes nothing.
use mathlib.Core.Path.{◌≡◌, refl, sym, ap, ap₂, ◌∙◌, subst}
use mathlib.Core.Logic.{◌≢◌}
use mathlib.Core.Bool.{Bool, true, false}
use mathlib.Core.List.{List, [], ◌∷◌, ◌++◌}
use Prim.Native.Nat.{ℕ, zero, suc, ◌+◌, ◌-◌, ◌*◌, ◌≤◌, ◌<◌}
use native.Mathlib.Nat.{mul-le-mul_right}
use native.Mathlib.Omega.{arith}
use borrow.Author.Tests.{eq-eqb, ne_eqb, eqb-true, eqb-false}
use lib.ListN.{length, take, drop}
use Rattle.model.specs.Lists as rules
use Rattle.model.specs.Lists.{if, count}
use Rattle.model.specs.State.{Slot, State, release_batch, registered_lanes, living_senders}
use Rattle.model.specs.Changes.{with_free}
use Rattle.model.specs.Order.{Ordered, SlotOrdered, RingsFit, LaneFits}
use Rattle.model.specs.Rules.{outcome}
use Rattle.model.specs.declared.Call.{Call}
use Rattle.model.specs.declared.Answer.{Answer}
use Rattle.demands.proofs.Counting.{equal, other, same?, no as clash}
use Rattle.demands.proofs.ClearSlots.{without_once}
use Rattle.demands.proofs.InOrder.{call_keeps_order}
use Rattle.lane.specs.declared.lane.Lane.{Lane}
use Rattle.yring.specs.declared.ring.Ring.{Ring}
use Rattle.yring.specs.Cursor.{distance}
use Rattle.yring.specs.Ring.{new_ring, Within}
use Rattle.lane.specs.Lane.{held_items}
use Rattle.lane.specs.Order.{InOrder, Counts}
use Rattle.lane.specs.Table.{HasRow, lane_at}
use Rattle.yring.proofs.CursorLaws.{some}
use Rattle.lane.proofs.CursorOrder.{held_adds, span_adds}
use Rattle.yring.proofs.RingLaws.{length_items}
use Rattle.queues.specs.Header.{issued, slots, budget, capacity, fast_slot, lane_count, living_count, free_count, queue_count}
use Rattle.queues.specs.Queue.{QueueNames, queue_of}
use Rattle.queues.specs.Registry.{free_of, freed_at, reissue}
use Rattle.queues.proofs.Pigeonhole.{pigeonhole_less}
use Rattle.queues.proofs.QueueLaws.{queue_has_room}
use Rattle.queues.proofs.RegistryLaws.{length_free, free_parts, freed_in, free_reissued}
use Rattle.store.specs.View.{flag, slot_at, view}
use Rattle.store.specs.Order.{Flags, Fast, Stores, InOrderButHeld, StoreInOrder, but_held}
use Rattle.store.specs.Words.{Words}
use Rattle.store.proofs.ViewLaws.{slot_in, row_in, view_reissued}
use Rattle.store.proofs.HeaderWords.{place_of}
use Rattle.store.proofs.CountLaws.{one, SlotSum, lanes_sum, living_sum, number_some, number_but}
use Rattle.store.proofs.StepLaws.{Step, issued_kept, slots_kept, capacity_kept, alive_kept, cursor_kept, fast_now, budget_now, lanes_now, living_now}
use Rattle.store.proofs.RefusalLaws.{seen}
use Rattle.store.proofs.HeldLaws.{HeldMoved, held_counted_after}

-- ---- what a call takes from a store in order

-- a flag's word and what the rules see of it
pub flag_one : (w : ℕ) → w ≡ 1 → flag w ≡ true
flag_one w e = eq-eqb w 1 e

pub one_flag : (w : ℕ) → w ≤ 1 → one (flag w) ≡ w
one_flag w h = go (flag w) refl
  where
    go : (b : Bool) → flag w ≡ b → one b ≡ w
    go true e = sym (eqb-true w 1 e)
    go false e = omega (arith, eqb-false w 1 e)

-- the ring of a slot lies within the ring store
pub slot_ring_in : (t r : List ℕ) → Stores t r → (x : ℕ) → x < slots t → Within (new_ring x (capacity t)) (length r)
slot_ring_in t r o x h = record { power = o.power; fits = omega (arith, ring_in x (slots t) (capacity t) h, o.rings_room) }
  where
    ring_in : (x s c : ℕ) → x < s → x * c + c ≤ s * c
    ring_in x s c h = let e : suc x * c ≡ x * c + c = omega arith in rw e at (mul-le-mul_right c h)

module _ (t r : List ℕ) (o : Stores t r) (x : ℕ) (h : x < issued t) where
  pub below_slots : x < slots t
  below_slots = omega (arith, o.shaped.issued_most)

  pub has_slot_row : HasRow x (length t)
  has_slot_row = row_in t o.shaped x h

  pub issued_ring_in : Within (new_ring x (capacity t)) (length r)
  issued_ring_in = slot_ring_in t r o x below_slots

  registered_view : ((view t r).slot_of x).registered ≡ flag (lane_at t x).registered
  unfolding slot_at
  registered_view = rw (slot_in t r x h)

  pub living_counted : (lane_at t x).living ≡ 1 → 0 < living_count t
  living_counted e = let f : one (flag (lane_at t x).living) ≡ 1 = ap one (flag_one _ e) in omega (arith, f, o.living_counted, number_some living_sum t r x h)

  module _ (e : (lane_at t x).registered ≡ 1) where
    pub registered_seen : ((view t r).slot_of x).registered ≡ true
    registered_seen = registered_view ∙ flag_one _ e

    pub lane_counted : 0 < lane_count t
    lane_counted = let f : one (flag (lane_at t x).registered) ≡ 1 = ap one (flag_one _ e) in omega (arith, f, o.lanes_counted, number_some lanes_sum t r x h)

    -- an unqueued lane finds room in the queue
    pub room_in_queue : (lane_at t x).queued ≡ 0 → queue_count t < slots t
    room_in_queue z = queue_has_room t o.shaped o.named x h (sym (o.named.flagged x h e) ∙ z)

    -- the free list has room for a registered lane's slot
    pub room_in_free : Ordered (view t r) → free_count t < slots t
    unfolding view
    room_in_free p =
        let f = p.each_slot in
        omega (
          arith,
          o.shaped.issued_most,
          length_free t,
          pigeonhole_less (issued t) (free_of t) x (λ y. (f y).free_once) (λ y. (f y).free_issued) h (not_free (f x) registered_seen),
        )
      where
        not_free : {y i n m : ℕ} {l : Slot} → SlotOrdered y i n m l → l.registered ≡ true → m ≡ 0
        not_free {m = zero} c d = refl
        not_free {m = suc m} c d = absurd (clash d (c.free_unregistered (omega arith)))

-- an entry of the free list
pub record FreeSlot (t : List ℕ) (x : ℕ) : Type 0 where
  pub is_issued : x < issued t
  pub unregistered : ((lane_at t x).registered ≡ 1) → ⊥
  pub generation : (lane_at t x).key.generation ≢ 18446744073709551615

pub free_slot : (t r : List ℕ) → InOrderButHeld t r → (x : ℕ) → 1 ≤ count x (free_of t) → FreeSlot t x
unfolding view slot_at
free_slot t r o x c =
    let f = o.ordered.each_slot x in
    let h : x < issued t = f.free_issued c in
    record {
      is_issued = h;
      unregistered = λ e. clash (registered_seen t r o.stores x h e) (f.free_unregistered c);
      generation = λ e. f.free_generation c (rw (slot_in t r x h) e);
    }

module _ (t r : List ℕ) (o : StoreInOrder t r) (d : ℕ) (h : d < free_count t) where
  pub freed_slot : FreeSlot t (freed_at t d)
  freed_slot = free_slot t r (but_held o) (freed_at t d) (freed_in t d h)

  -- taken off the list, it is the slot that the rules leave out
  pub free_reissued_without : free_of (reissue t d) ≡ rules.without (freed_at t d) (free_of t)
  unfolding view
  free_reissued_without =
      let x : ℕ = freed_at t d in
      let parts : free_of t ≡ take d (free_of t) ++ (x ∷ drop (suc d) (free_of t)) = free_parts t d h in
      free_reissued t o.stores.shaped d h
      ∙ sym (ap (rules.without x) parts ∙ without_once x (take d (free_of t)) (drop (suc d) (free_of t)) (rw parts at (o.ordered.each_slot x).free_once))

  pub view_reissued_without : view (reissue t d) r ≡ with_free (rules.without (freed_at t d) (view t r).free) (view t r)
  unfolding view
  view_reissued_without = view_reissued t r o.stores.shaped d free_reissued_without

-- ---- the rules' order of the state after

-- a lane in order: its items, and those taken whose credit has not gone back, fit the ring
module _ (C : ℕ) (small : C ≤ 65536) (l : Lane) (o : InOrder C l) where
  -- what is released back counts only what was taken
  pub taken_is : l.unreleased - l.window ≡ distance l.head l.released
  taken_is = go o.counts
    where
      go : {B d a c u b v : ℕ} → Counts B d a c u b v → u - v ≡ d
      go k = omega arith

  pub span_is : distance l.tail l.released ≡ distance l.tail l.head + (l.unreleased - l.window)
  span_is =
      span_adds C l.tail l.released l.head l.known small o.cursors
      ∙ ap₂ ◌+◌ (sym (held_adds C l.tail l.released l.head l.known small o.cursors)) (sym taken_is)

  below_batch : l.unreleased - l.window < release_batch C
  below_batch = go o.counts
    where
      go : {B d a c u b v : ℕ} → Counts B d a c u b v → u - v < B
      go k = omega arith

  pub lane_fits : (ring : Ring) (store : List ℕ) (s : Slot) → s.ring ≡ held_items ring store l → s.unreleased ≡ l.unreleased - l.window → LaneFits C s
  unfolding held_items
  lane_fits ring store s e g =
      record {
        inside = rw (e, g, length_items ring store l.head (distance l.tail l.head), ← span_is) o.cursors.tail_within;
        below_batch = rw g below_batch;
      }

-- a registered lane's items and unreleased count fit its ring
pub rings_fit : (t r : List ℕ) → Stores t r → Ordered (view t r) → RingsFit (view t r)
unfolding view slot_at
rings_fit t r o p =
    record {
      positive = some (capacity t) o.power;
      each_fits = λ y e. fits y ((p.each_slot y).registered_issued e) e;
    }
  where
    fits : (y : ℕ) → y < issued t → ((view t r).slot_of y).registered ≡ true → LaneFits (capacity t) ((view t r).slot_of y)
    fits y h e =
        let f : flag (lane_at t y).registered ≡ true = sym (registered_view t r o y h) ∙ e in
        lane_fits (capacity t) o.power.most (lane_at t y) (o.lanes y h (eqb-true _ 1 f)) (new_ring y (capacity t)) r ((view t r).slot_of y) (rw (slot_in t r y h)) (rw (slot_in t r y h))

-- every call of the rules keeps their order, so a call that does what the rules say leaves a store in order if it leaves `Stores`,
pub but_held_after : (t r : List ℕ) (c : Call) (w : Words) → InOrderButHeld t r → seen w ≡ (outcome (view t r) c).1 → Stores w.1 w.2
    → InOrderButHeld w.1 w.2
but_held_after t r c w o e s =
    record {
      stores = s;
      ordered = subst Ordered (sym (ap (λ (z : Answer × State). z.1) e)) (call_keeps_order (view t r) c (record { ordered = o.ordered; rings_fit = rings_fit t r o.stores o.ordered })).ordered;
    }

-- and does what it owes to the held count
pub store_in_order_after : (t r : List ℕ) (c : Call) (w : Words) → StoreInOrder t r → seen w ≡ (outcome (view t r) c).1 → Stores w.1 w.2 → HeldMoved t r c w
    → StoreInOrder w.1 w.2
store_in_order_after t r c w o e s m =
    record { stores = s; ordered = (but_held_after t r c w (but_held o) e s).ordered; held_counted = held_counted_after t r c w o e m }

-- ---- a run of stores that changes one lane

-- the windows of the lanes other than x, as the queue, `fast_slot` and the budget are now
abbrev pub OtherWindows : List ℕ → ℕ → List ℕ → ℕ → ℕ → Type 0
OtherWindows t x w f b =
    (y : ℕ) → x ≢ y → y < issued t → (lane_at t y).registered ≡ 1 → 0 < (lane_at t y).window → Fast y f w (lane_at t y).window b

-- what a call owes for the lane x that became l, the queue w and the header h
pub record Owes (t : List ℕ) (x : ℕ) (l : Lane) (w : List ℕ) (h : ℕ → ℕ) : Type 0 where
  pub flags : Flags l
  pub order : l.registered ≡ 1 → InOrder (capacity t) l
  pub fast_below : h (place_of fast_slot) < slots t
  -- lane x stands in the queue as its queued word says, the others stand there as before
  pub once : count x w ≤ 1
  pub flagged : l.registered ≡ 1 → l.queued ≡ count x w
  pub rest : (y : ℕ) → x ≢ y → count y w ≡ count y (queue_of t)
  pub window : l.registered ≡ 1 → 0 < l.window → Fast x (h (place_of fast_slot)) w l.window (h (place_of budget))
  pub windows : OtherWindows t x w (h (place_of fast_slot)) (h (place_of budget))
  pub lane_count : h (place_of lane_count) + (lane_at t x).registered ≡ lane_count t + l.registered
  pub living_count : h (place_of living_count) + (lane_at t x).living ≡ living_count t + l.living

without_first : (x y : ℕ) (q : List ℕ) → x ≢ y → take 1 q ≡ y ∷ [] → take 1 (rules.without x q) ≡ y ∷ []
unfolding rules.without rules.keep
without_first x y [] n e = let z : ◌≡◌ {A = ℕ} 0 1 = ap length e in absurd (omega arith)
without_first x y (a ∷ q) n e =
    let same : a ≡ y = first e in
    rw (same, ne_eqb x y n)
  where
    first : {a b : ℕ} → a ∷ [] ≡ b ∷ [] → a ≡ b
    first p = cc

module _ (t r u q : List ℕ) (o : Stores t r) (x : ℕ) (h : x < issued t) (l : Lane) (w : List ℕ) (g : ℕ → ℕ) (k : Step t u x l w g) (d : Owes t x l w g) where
  -- what holds of lane x as it is now, and of the other lanes as they were, holds of the lanes now
  own_or : (P : ℕ → Lane → Type 0) (y : ℕ) → P x l → (x ≢ y → P y (lane_at t y)) → P y (lane_at u y)
  own_or P y a c = elim (same? x y) [
    | equal p e i ↦ subst (λ (z : ℕ). P z (lane_at u z)) p (subst (P x) (sym k.own) a)
    | other g e i ↦ subst (P y) (sym (k.others y g)) (c g)
  ]

  below : issued u ≤ issued t
  below = omega (arith, issued_kept k)

  names_after : QueueNames u
  names_after =
      record {
        once = λ y. rw k.queue (elim (same? x y) [ equal p e i ↦ rw (← p) d.once | other g e i ↦ rw (d.rest y g) (o.named.once y) ]);
        issued_only = λ y c. rw (issued_kept k) (elim (same? x y) [ equal p e i ↦ rw (← p) h | other g e i ↦ o.named.issued_only y (rw (k.queue, d.rest y g) at c) ]);
        flagged = λ y c. rw k.queue
            (own_or (λ z j. z < issued t → j.registered ≡ 1 → j.queued ≡ count z w) y (λ z e. d.flagged e) (λ g z e. o.named.flagged y z e ∙ sym (d.rest y g)) (rw (issued_kept k) at c));
      }

  -- a header word that is a sum over the slots, where it goes with lane x
  sum_after : (c : SlotSum) {z i j : ℕ} → z ≡ j → i ≡ c.number (view t r) → j + c.by_words (lane_at t x) ≡ i + c.by_words l → z ≡ c.number (view u q)
  sum_after c e g a = omega (arith, e, g, a, number_but c t r u q (issued_kept k) x h k.others, ap c.by_words k.own)

  lanes_after : lane_count u ≡ registered_lanes (view u q)
  lanes_after =
      sum_after lanes_sum (lanes_now k) o.lanes_counted
      (rw (one_flag _ (o.flags x h).registered_flag, one_flag _ d.flags.registered_flag) d.lane_count)

  living_after : living_count u ≡ living_senders (view u q)
  living_after =
      sum_after living_sum (living_now k) o.living_counted
      (rw (one_flag _ (o.flags x h).living_flag, one_flag _ d.flags.living_flag) d.living_count)

  -- the run of stores leaves what a store in order has beside the rules' state
  pub stores_after_lem : slots t * capacity t ≤ length q → Stores u q
  stores_after_lem long =
      record {
        shaped = k.shaped;
        fast_below = rw (fast_now k, slots_kept k) d.fast_below;
        power = rw (capacity_kept k) o.power;
        rings_room = rw (slots_kept k, capacity_kept k) long;
        alive_flag = rw (alive_kept k) o.alive_flag;
        first_cursor = rw (cursor_kept k) o.first_cursor;
        flags = λ y c. own_or (λ z j. z < issued t → Flags j) y (λ z. d.flags) (λ g. o.flags y) (rw (issued_kept k) at c);
        lanes = λ y c. rw (capacity_kept k) (own_or (λ z j. z < issued t → j.registered ≡ 1 → InOrder (capacity t) j) y (λ z. d.order) (λ g. o.lanes y) (rw (issued_kept k) at c));
        named = names_after;
        linked = k.linked;
        mark_words = k.mark_words o.mark_words;
        windows = λ y c. rw (fast_now k, k.queue, budget_now k)
            (own_or (λ z j. z < issued t → j.registered ≡ 1 → 0 < j.window → Fast z (g (place_of fast_slot)) w j.window (g (place_of budget))) y (λ z. d.window) (λ g. d.windows y g) (rw (issued_kept k) at c));
        lanes_counted = lanes_after;
        living_counted = living_after;
      }

-- ---- the windows of the other lanes

module _ (t r : List ℕ) (o : Stores t r) (x : ℕ) where
  -- the queue, `fast_slot` and the budget as they were, or the budget more
  pub windows_kept : (b : ℕ) → budget t ≤ b → OtherWindows t x (queue_of t) (fast_slot t) b
  windows_kept b h y n c e g =
      let f = o.windows y c e g in
      record { at_fast = f.at_fast; in_front = f.in_front; within = omega (arith, f.within) }

  -- a slot at the back
  pub windows_pushed_back : (z : ℕ) → OtherWindows t x (queue_of t ++ (z ∷ [])) (fast_slot t) (budget t)
  windows_pushed_back z y n c e g =
      let f = o.windows y c e g in
      record { at_fast = f.at_fast; in_front = still_first (queue_of t) f.in_front; within = f.within }
    where
      still_first : (q : List ℕ) → take 1 q ≡ y ∷ [] → take 1 (q ++ (z ∷ [])) ≡ y ∷ []
      still_first [] p = let v : ◌≡◌ {A = ℕ} 0 1 = ap length p in absurd (omega arith)
      still_first (a ∷ q) p = p

  -- lane x out of the queue
  pub windows_without : OtherWindows t x (rules.without x (queue_of t)) (fast_slot t) (budget t)
  windows_without y n c e g =
      let f = o.windows y c e g in
      record { at_fast = f.at_fast; in_front = without_first x y (queue_of t) n f.in_front; within = f.within }

  -- with lane x at the front no other lane has a window
  pub windows_front : (q : List ℕ) → queue_of t ≡ x ∷ q → (w : List ℕ) (f b : ℕ) → OtherWindows t x w f b
  windows_front q i w f b y n c e g = absurd (n (same_first (sym (ap (take 1) i) ∙ (o.windows y c e g).in_front)))
    where
      same_first : {a b : ℕ} → a ∷ [] ≡ b ∷ [] → a ≡ b
      same_first p = cc

-- with an empty queue no lane has a window
pub windows_none : (t r : List ℕ) → Stores t r → queue_of t ≡ [] → (x : ℕ) (w : List ℕ) (f b : ℕ) → OtherWindows t x w f b
windows_none t r o i x w f b y n c e g =
    let v : ◌≡◌ {A = ℕ} 0 1 = ap length (sym (ap (take 1) i) ∙ (o.windows y c e g).in_front) in absurd (omega arith)
