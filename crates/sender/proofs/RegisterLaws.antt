-- Registering a sender: what the rules see of the words after is the rules' step, and it leaves a store in order.
-- Assumes nothing.
use mathlib.Core.Path.{◌≡◌, refl, sym, ap, ap₂, ◌∙◌}
use mathlib.Core.Logic.{◌≢◌}
use mathlib.Core.Bool.{Bool, true, false, cond, not}
use mathlib.Core.List.{List, [], ◌∷◌}
use Prim.Native.Nat.{ℕ, zero, suc, ◌+◌, ◌^◌, ◌≤◌, ◌<◌}
use native.Mathlib.Omega.{arith}
use borrow.Author.Tests.{ne_eqb, le-ltb, lt-ltb}
use lib.Dec.{eqb, leb, ltb}
use lib.ListN.{length}
use Rattle.model.specs.declared.LaneKey.{LaneKey}
use Rattle.model.specs.declared.Refusal.{Refusal}
use Rattle.model.specs.declared.Refusal.TheVariants.{ReceiverClosed, AtCapacity, NoFreeSlot, OlderSenderLives}
use Rattle.model.specs.declared.Answer.TheVariants.{Registered}
use Rattle.model.specs.Lists.{if, both, non_empty, count, without}
use Rattle.model.specs.State.{State, vacant, registered_lanes}
use Rattle.model.specs.Changes as rules
use Rattle.model.specs.Changes.{put, with_free, with_issued}
use Rattle.model.specs.Sender as rules_sender
use Rattle.model.specs.Outcome.{Outcome, unless}
use Rattle.model.specs.Sender.{clear_slots, issue_slot, all_issued}
use Rattle.demands.proofs.Counting.{no as clash}
use Rattle.lane.specs.declared.lane.Lane.{Lane}
use Rattle.yring.specs.declared.ring.Ring.{Ring}
use Rattle.yring.specs.Ring.{new_ring, items}
use Rattle.lane.specs.Lane.{new_lane, held_items}
use Rattle.lane.specs.Table.{head, lane_at, put_lane}
use Rattle.lane.proofs.TableLaws.{frames, none_narrow}
use Rattle.yring.proofs.CursorLaws.{distance_self}
use Rattle.lane.proofs.OrderLaws.{new_lane_in_order}
use Rattle.queues.specs.Header.{Shaped, issued, slots, budget, capacity, first_cursor, first_generation, free_count, lane_count, living_count, set_lane_count, set_living_count}
use Rattle.queues.specs.Queue.{queue_of}
use Rattle.queues.specs.Registry.{free_of, freed_at, reissue}
use Rattle.ready.specs.Ready.{page_bit}
use Rattle.queues.proofs.QueueLaws.{shaped_put_lane}
use Rattle.queues.proofs.RegistryLaws.{registry_frames, length_free, freed_in, shaped_reissued}
use Rattle.std.specs.Prelude.{Ok, Err}
use Rattle.store.specs.View.{slot_of, slot_at, view}
use Rattle.store.specs.Order.{Flags, Stores, StoreInOrder}
use Rattle.store.specs.Refusal.{and_then}
use Rattle.store.specs.Words.{Words}
use Rattle.sender.specs.Sender.{passed_over, capacity_verdict, lanes_verdict, slot_verdict, due_key, take_slot, register_lane, register_slot, register_sender}
use Rattle.store.proofs.ViewLaws.{slot_in, slot_out, view_put_lane, view_lane_count, view_living_count}
use Rattle.store.proofs.RefusalLaws.{seen, first_of, first_of_append, unless_append, unless_refused_case, refused_alike, receiver_verdict_lem}
use Rattle.store.proofs.HeaderWords.{with_word}
use Rattle.store.proofs.StepLaws.{step_start, step_put_lane, step_reissued, step_lane_count, step_living_count}
use Rattle.store.proofs.StoreLaws.{FreeSlot, freed_slot, view_reissued_without, stores_after_lem, windows_kept}
use Rattle.sender.proofs.IssueLaws.{issued_next, shaped_issued_next, view_issued, stores_registered_next}
use Rattle.sender.proofs.SenderBounds.{not_below, register_room}
use Rattle.sender.proofs.PassedLaws.{PassedCase, all, some, passed_case}

-- ---- refusals 6 to 9 are the rules'

module _ (t r : List ℕ) (o : StoreInOrder t r) where
  abbrev s : State
  s = view t r

  -- the rules' tests of the lanes
  abbrev lane_tests : ℕ → List (Bool × Refusal)
  lane_tests most = (not s.is_open, ReceiverClosed) ∷ (leb most (registered_lanes s), AtCapacity) ∷ []

  lanes_verdict_lem : (most : ℕ) → lanes_verdict t most ≡ first_of (lane_tests most)
  unfolding lanes_verdict capacity_verdict first_of
  lanes_verdict_lem most =
      ap₂ and_then (receiver_verdict_lem t r) (rw o.stores.lanes_counted (go (leb most (registered_lanes s))))
      ∙ sym (first_of_append ((not s.is_open, ReceiverClosed) ∷ []) ((leb most (registered_lanes s), AtCapacity) ∷ []))
    where
      go : (b : Bool) → cond b (Err AtCapacity) (Ok (tt {0})) ≡ if b (Err AtCapacity) (Ok (tt {0}))
      go true = refl
      go false = refl

  -- and of the slots
  abbrev slot_tests : List (Bool × Refusal)
  slot_tests =
      (both (not (non_empty s.free)) (all_issued s), NoFreeSlot) ∷ (both (not (non_empty (clear_slots s))) (all_issued s), OlderSenderLives) ∷ []

  free_some : non_empty (free_of t) ≡ not (eqb (free_count t) 0)
  free_some = rw (← length_free t) (go (free_of t))
    where
      go : (l : List ℕ) → non_empty l ≡ not (eqb (length l) 0)
      go [] = refl
      go (x ∷ l) = let e : suc (length l) ≢ 0 = λ z. omega arith in rw (ne_eqb _ _ e)

  slot_verdict_lem : slot_verdict t (passed_over t) ≡ first_of slot_tests
  unfolding slot_verdict first_of view all_issued
  slot_verdict_lem = go (passed_case t r o)
    where
      none : (i e : Bool) → cond i (Ok (tt {0})) (cond e (Err NoFreeSlot) (Err OlderSenderLives))
          ≡ if (both (not (not e)) (not i)) (Err NoFreeSlot) (if (not i) (Err OlderSenderLives) (Ok (tt {0})))
      none true true = refl
      none true false = refl
      none false true = refl
      none false false = refl

      go : PassedCase t r → slot_verdict t (passed_over t) ≡ first_of slot_tests
      go (all e c) =
          rw (le-ltb (passed_over t) (free_count t) (omega arith), c, free_some, not_below (issued t) (slots t)) (none (ltb (issued t) (slots t)) (eqb (free_count t) 0))
      go (some h n f c) =
          let e : free_count t ≢ 0 = λ z. omega arith in
          rw (lt-ltb (passed_over t) (free_count t) h, c, free_some, ne_eqb _ _ e)

-- ---- a new lane

-- it holds nothing
new_holds : (ring : Ring) (r : List ℕ) (k : LaneKey) (c : ℕ) → c < 2 ^ 64 → held_items ring r (new_lane k c) ≡ []
unfolding held_items items
new_holds ring r k c h = rw (distance_self c h)

new_flags : (k : LaneKey) (c : ℕ) → Flags (new_lane k c)
new_flags k c =
    record { pending_flag = omega arith; queued_flag = omega arith; paused_flag = omega arith; registered_flag = omega arith; living_flag = omega arith }

-- where d slots are passed over, the slot below them is due, else the next unused one
module _ (t r : List ℕ) (o : StoreInOrder t r) (d : ℕ) where
  abbrev c : ℕ
  c = first_cursor t

  -- the two counts are not seen
  view_counted : (u : List ℕ) (a b : ℕ) → Shaped u → view (set_living_count (set_lane_count u a) b) r ≡ view u r
  view_counted u a b h = view_living_count (set_lane_count u a) r (simp frames h) b ∙ view_lane_count u r h a

  module _ (past : free_count t ≤ d) (below : issued t < slots t) where
    abbrev next : LaneKey
    next = record { slot = issued t; generation = first_generation t }

    due_next : due_key t d ≡ next
    unfolding due_key
    due_next = rw (le-ltb _ _ past)

    taken_next : take_slot t d ≡ issued_next t
    unfolding take_slot
    taken_next = rw (le-ltb _ _ past)

    shaped_next : Shaped (issued_next t)
    shaped_next = shaped_issued_next t o.stores.shaped o.stores.linked below

    next_view : view (register_lane t d next) r ≡ with_issued (suc (issued t)) (put (issued t) (rules.new_lane (first_generation t) ((view t r).slot_of (issued t))) (view t r))
    unfolding register_lane vacant
    next_view =
        rw taken_next
        (view_counted (put_lane (issued_next t) (new_lane next c)) (lane_count t + 1) (living_count t + 1) (shaped_put_lane (issued_next t) shaped_next (new_lane next c))
        ∙ view_issued t o.stores.shaped o.stores.linked below r (new_lane next c) refl none_narrow
        ∙ rw (new_holds (new_ring (issued t) (capacity t)) r next c o.stores.first_cursor, slot_out t r (issued t) (le-ltb (issued t) (issued t) (omega arith))))

    next_stores : Stores (register_lane t d next) r
    unfolding register_lane
    next_stores =
        rw taken_next
        (stores_registered_next t r o.stores below (new_lane next c) refl none_narrow (new_flags next c)
        (new_lane_in_order (capacity t) o.stores.power next c o.stores.first_cursor) refl refl refl refl)

  module _ (h : d < free_count t) where
    abbrev x : ℕ
    x = freed_at t d

    abbrev again : LaneKey
    again = record { slot = x; generation = (lane_at t x).key.generation + 1 }

    free : FreeSlot t x
    free = freed_slot t r o d h

    due_again : due_key t d ≡ again
    unfolding due_key
    due_again = rw (lt-ltb _ _ h)

    taken_again : take_slot t d ≡ reissue t d
    unfolding take_slot
    taken_again = rw (lt-ltb _ _ h)

    seen_generation : ((view t r).slot_of x).generation ≡ (lane_at t x).key.generation
    unfolding slot_at
    seen_generation = rw (slot_in t r x free.is_issued)

    again_view : view (register_lane t d again) r
        ≡ with_free (without x (view t r).free) (put x (rules.new_lane (((view t r).slot_of x).generation + 1) ((view t r).slot_of x)) (view t r))
    unfolding register_lane slot_at
    again_view =
        let u : List ℕ = reissue t d in
        let m : Lane = new_lane again c in
        let same : page_bit u x ≡ page_bit t x = simp registry_frames in
        rw taken_again
        (view_counted (put_lane u m) (lane_count t + 1) (living_count t + 1) (shaped_put_lane u (shaped_reissued t o.stores.shaped d) m)
        ∙ view_put_lane u (shaped_reissued t o.stores.shaped d) m x refl none_narrow (simp registry_frames free.is_issued) r
        ∙ ap₂ (λ (b : ℕ) (z : State). put x (slot_of m b (held_items (new_ring x (capacity u)) r m)) z) same (view_reissued_without t r o d h)
        ∙ rw (new_holds (new_ring x (capacity u)) r again c o.stores.first_cursor, slot_in t r x free.is_issued))

    -- a free slot is not queued
    unqueued : count x (queue_of t) ≡ 0
    unfolding view
    unqueued = go (count x (queue_of t)) (o.ordered.each_slot x).queued_registered
      where
        go : (n : ℕ) → (1 ≤ n → ((view t r).slot_of x).registered ≡ true) → n ≡ 0
        go zero f = refl
        go (suc n) f = absurd (clash (f (omega arith)) ((o.ordered.each_slot x).free_unregistered (freed_in t d h)))

    zero_flag : (w : ℕ) → w ≤ 1 → w ≢ 1 → w ≡ 0
    zero_flag w a b = omega arith

    again_stores : (lane_at t x).living ≢ 1 → Stores (register_lane t d again) r
    unfolding register_lane
    again_stores dropped =
        let m : Lane = new_lane again c in
        let f = o.stores.flags x free.is_issued in
        let gone : (lane_at t x).registered ≡ 0 = zero_flag _ f.registered_flag free.unregistered in
        let dead : (lane_at t x).living ≡ 0 = zero_flag _ f.living_flag dropped in
        rw taken_again
        (stores_after_lem t r _ r o.stores x free.is_issued m (queue_of t) (with_word living_count (living_count t + 1) (with_word lane_count (lane_count t + 1) (head t)))
        (step_living_count (step_lane_count (step_put_lane (step_reissued (step_start t r o.stores x) d) m refl none_narrow free.is_issued) (lane_count t + 1)) (living_count t + 1))
        (record {
          flags = new_flags again c;
          order = λ e. new_lane_in_order (capacity t) o.stores.power again c o.stores.first_cursor;
          fast_below = o.stores.fast_below;
          once = o.stores.named.once x;
          flagged = λ e. sym unqueued;
          rest = λ y d. refl;
          window = λ e g. absurd (omega arith);
          windows = windows_kept t r o.stores x (budget t) (omega arith);
          lane_count = rw gone (omega arith);
          living_count = rw dead (omega arith);
        })
        o.stores.rings_room)

-- ---- the call

module _ (t r : List ℕ) (o : StoreInOrder t r) where
  abbrev n : ℕ
  n = passed_over t

  -- the answer and the words of a registration that is let pass
  abbrev made : Words
  made = (Registered (due_key t n), register_lane t n (due_key t n), r)

  made_alike : slot_verdict t n ≡ Ok (tt {0}) → PassedCase t r → seen made ≡ (issue_slot (clear_slots (view t r)) (view t r)).1
  unfolding issue_slot view
  made_alike e (all p l) =
      let past : free_count t ≤ n = omega arith in
      let below : issued t < slots t = (register_room t r o n e).due past in
      let here : seen made ≡ (issue_slot [] (view t r)).1 =
      rw (due_next t r o n past below) (ap (λ (u : State). (Registered (next t r o n past below), u)) (next_view t r o n past below)) in
      here ∙ sym (ap (λ (f : List ℕ). (issue_slot f (view t r)).1) l)
  made_alike e (some h dropped f l) =
      let here : seen made ≡ (issue_slot (freed_at t n ∷ f) (view t r)).1 =
      rw (due_again t r o n h)
      (ap₂ (λ (g : ℕ) (u : State). (Registered (record { slot = freed_at t n; generation = g + 1 }), u)) (sym (seen_generation t r o n h)) (again_view t r o n h)) in
      here ∙ sym (ap (λ (f : List ℕ). (issue_slot f (view t r)).1) l)

  made_stores : slot_verdict t n ≡ Ok (tt {0}) → PassedCase t r → Stores (register_lane t n (due_key t n)) r
  made_stores e (all p l) =
      let past : free_count t ≤ n = omega arith in
      let below : issued t < slots t = (register_room t r o n e).due past in
      rw (due_next t r o n past below) (next_stores t r o n past below)
  made_stores e (some h dropped f l) = rw (due_again t r o n h) (again_stores t r o n h dropped)

  slot_alike : seen (register_slot t r n) ≡ (unless (slot_tests t r o) (view t r) (issue_slot (clear_slots (view t r)) (view t r))).1
  unfolding register_slot
  slot_alike =
      refused_alike (slot_verdict t n) (slot_tests t r o) t r made (issue_slot (clear_slots (view t r)) (view t r)) (slot_verdict_lem t r o) (λ e. made_alike e (passed_case t r o))

  module _ (most : ℕ) where
    -- registering a sender does what the rules say, and answers as they do
    pub register_sender_alike : seen (register_sender t r most) ≡ (rules_sender.register_sender (view t r) most).1
    unfolding register_sender rules_sender.register_sender
    register_sender_alike =
        let rest = issue_slot (clear_slots (view t r)) (view t r) in
        refused_alike (lanes_verdict t most) (lane_tests t r o most) t r (register_slot t r n) (unless (slot_tests t r o) (view t r) rest) (lanes_verdict_lem t r o most) (λ e. slot_alike)
        ∙ ap (λ (p : Outcome). p.1) (sym (unless_append (lane_tests t r o most) (slot_tests t r o) (view t r) rest))

    -- and leaves a store in order
    pub register_sender_keeps : Stores (register_sender t r most).1 (register_sender t r most).2
    unfolding register_sender register_slot
    register_sender_keeps =
        unless_refused_case (λ z. Stores z.1 z.2) (lanes_verdict t most) t r (register_slot t r n) (λ why e. o.stores)
        (λ e. unless_refused_case (λ z. Stores z.1 z.2) (slot_verdict t n) t r made (λ why f. o.stores) (λ f. made_stores f (passed_case t r o)))
