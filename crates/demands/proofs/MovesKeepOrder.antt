-- Every move keeps the state in order.
-- Assumes nothing.
use mathlib.Core.Path.{◌≡◌, refl}
use mathlib.Core.Bool.{Bool, true, false, not}
use mathlib.Core.List.{List, ◌++◌}
use Prim.Native.Nat.{ℕ, zero, suc, ◌≤◌, ◌<◌}
use native.Mathlib.Omega.{arith}
use lib.Dec.{eqb}
use borrow.Author.Tests.{eqb-true}
use Rattle.model.specs.declared.LaneKey.{LaneKey}
use Rattle.model.specs.Lists.{if, count, keep, from, without}
use Rattle.model.specs.State.{sender_lives, Slot, State, queued, may_queue, has_lane}
use Rattle.model.specs.Changes.{with_queue, with_free, with_issued, put, new_lane, signalled, popped}
use Rattle.model.specs.Ready.{groups_in}
use Rattle.model.specs.Turn.{unreleased_after_one}
use Rattle.model.specs.Runs.{Tick}
use Rattle.model.specs.Receive.{queue_lane_if}
use Rattle.model.specs.Order.{SlotOrdered, Ordered}
use Rattle.demands.proofs.Counting.{Same, equal, other, same?, self, no, both_true, both_3, not_true, unqueued_zero, count_append, keep_in, keep_out, without_own, without_other, from_in}
use Rattle.demands.proofs.OrderKept.{retire_unqueue_ordered, one_slot, settle_empty_ordered, give_item_ordered, release_all_ordered, put_ordered, back_ordered, signal_fine, back_room}
use Rattle.demands.proofs.Quiet.{poll, poll_ordered}
use Rattle.demands.proofs.Moves.{Moves, stays_put, credits, registers_new, registers_old, sends, posts, drops_it, pauses_it, resumes, resumes_not, closes_it, polls_all, shuts_it, takes, stops, halts, aims, aims_none}
use Rattle.demands.proofs.StopLaws.{halts_ordered}

-- the key of a registered lane
pub has_lane_parts : (s : State) (k : LaneKey) → has_lane s k ≡ true → ((s.slot_of k.slot).registered ≡ true) × ((s.slot_of k.slot).generation ≡ k.generation)
unfolding has_lane
has_lane_parts s k e =
    let r = both_true (s.slot_of k.slot).registered (eqb (s.slot_of k.slot).generation k.generation) e in
    (r.0, eqb-true _ _ r.1)

pub has_lane_intro : (s : State) (k : LaneKey) → (s.slot_of k.slot).registered ≡ true → (s.slot_of k.slot).generation ≡ k.generation → has_lane s k ≡ true
unfolding has_lane
has_lane_intro s k r g = rw (r, g, self k.generation)

pub may_queue_parts : (s : State) (y : ℕ) → may_queue s y ≡ true → ((s.slot_of y).registered ≡ true) × ((s.slot_of y).paused ≡ false) × (count y s.queue ≡ 0)
unfolding may_queue
may_queue_parts s y e =
    let b = both_3 (s.slot_of y).registered (not (s.slot_of y).paused) (not (queued s y)) e in
    (b.0, not_true b.1, unqueued_zero (count y s.queue) b.2)

-- all lanes are polled
poll_all_fine : (s : State) → Ordered s → Ordered (with_queue (s.queue ++ keep (may_queue s) (from 0 s.issued)) s)
poll_all_fine s o = record { each_slot = λ y. go y (may_queue s y) refl; budget_most = o.budget_most; cursor_most = o.cursor_most; sizes = o.sizes }
  where
    go : (y : ℕ) (b : Bool) → may_queue s y ≡ b → SlotOrdered y s.issued (count y (s.queue ++ keep (may_queue s) (from 0 s.issued))) (count y s.free) (s.slot_of y)
    go y true e =
        let f = o.each_slot y in let r = may_queue_parts s y e in
        let n : count y (s.queue ++ keep (may_queue s) (from 0 s.issued)) ≡ 1 =
        omega (arith, count_append y s.queue (keep (may_queue s) (from 0 s.issued)), keep_in (may_queue s) y (from 0 s.issued) e, from_in y 0 s.issued (omega arith) (omega (arith, f.registered_issued r.0)), r.2) in
        record { queued_once = omega arith; free_once = f.free_once; queued_registered = λ h. r.0; queued_unpaused = λ h. r.1; is_marked = λ h p g z. absurd (omega arith); registered_issued = f.registered_issued; free_issued = f.free_issued; free_unregistered = f.free_unregistered; burst_most = f.burst_most; living_issued = f.living_issued; marked_issued = f.marked_issued; free_generation = f.free_generation }
    go y false e =
        let f = o.each_slot y in
        let n : count y (s.queue ++ keep (may_queue s) (from 0 s.issued)) ≡ count y s.queue = omega (arith, count_append y s.queue (keep (may_queue s) (from 0 s.issued)), keep_out (may_queue s) y (from 0 s.issued) e) in
        rw n f

-- a free slot, or the next one, is not queued
pub unqueued_of : {y i n m : ℕ} {l : Slot} → SlotOrdered y i n m l → l.registered ≡ false → n ≡ 0
unqueued_of {n = zero} f r = refl
unqueued_of {n = suc n} f r = absurd (no (f.queued_registered (omega arith)) r)

pub unissued : (s : State) → Ordered s → (s.slot_of s.issued).registered ≡ false
unissued s o = go (s.slot_of s.issued).registered refl
  where
    go : (b : Bool) → (s.slot_of s.issued).registered ≡ b → b ≡ false
    go true e = absurd (omega (arith, (o.each_slot s.issued).registered_issued e))
    go false e = refl

new_slot_ordered : (s : State) → s.issued < s.slots → Ordered s → Ordered (with_issued (suc s.issued) (put s.issued (new_lane s.first_generation (s.slot_of s.issued)) s))
unfolding groups_in
new_slot_ordered s lt o = record {
  each_slot = λ y. go y (same? s.issued y);
  budget_most = o.budget_most;
  cursor_most = omega (arith, o.cursor_most);
  sizes = let z = o.sizes in record { power_of_two = z.power_of_two; some_slots = z.some_slots; most_slots = z.most_slots; issued_most = omega (arith, lt) };
}
  where
    wider : (y : ℕ) → SlotOrdered y s.issued (count y s.queue) (count y s.free) (s.slot_of y) → SlotOrdered y (suc s.issued) (count y s.queue) (count y s.free) (s.slot_of y)
    wider y f = record { queued_once = f.queued_once; free_once = f.free_once; queued_registered = f.queued_registered; queued_unpaused = f.queued_unpaused; is_marked = f.is_marked; registered_issued = λ h. omega (arith, f.registered_issued h); free_issued = λ h. omega (arith, f.free_issued h); free_unregistered = f.free_unregistered; burst_most = f.burst_most; living_issued = λ h. omega (arith, f.living_issued h); marked_issued = λ h. omega (arith, f.marked_issued h); free_generation = f.free_generation }

    go : (y : ℕ) → Same s.issued y → SlotOrdered y (suc s.issued) (count y s.queue) (count y s.free) (if (eqb s.issued y) (new_lane s.first_generation (s.slot_of s.issued)) (s.slot_of y))
    go y (equal p e i) = rw (e, ← p) (
        let f = o.each_slot s.issued in
        let z = unqueued_of f (unissued s o) in
        record {
          queued_once = f.queued_once;
          free_once = f.free_once;
          queued_registered = λ h. refl;
          queued_unpaused = λ h. refl;
          is_marked = λ h p g n. absurd (no g refl);
          registered_issued = λ h. omega arith;
          free_issued = λ h. omega arith;
          free_unregistered = λ h. absurd (omega (arith, f.free_issued h));
          burst_most = λ h. omega arith;
          living_issued = λ h. omega arith;
          marked_issued = λ h. omega arith;
          free_generation = λ h. absurd (omega (arith, f.free_issued h));
        })
    go y (other d e i) = rw e (wider y (o.each_slot y))

freed_slot_ordered : (s : State) (x g : ℕ) → 1 ≤ count x s.free → Ordered s → Ordered (with_free (without x s.free) (put x (new_lane g (s.slot_of x)) s))
freed_slot_ordered s x g i o = record {
  each_slot = one_slot s x (new_lane g (s.slot_of x)) s.queue (without x s.free) o.each_slot (λ y d. refl) (λ y d. without_other x y s.free d)
      (let n : count x (without x s.free) ≡ 0 = without_own x s.free in
      let h = o.each_slot x in
      record {
        queued_once = h.queued_once;
        free_once = omega arith;
        queued_registered = λ z. refl;
        queued_unpaused = λ z. refl;
        is_marked = λ z p q r. absurd (no q refl);
        registered_issued = λ z. h.free_issued i;
        free_issued = λ z. h.free_issued i;
        free_unregistered = λ z. absurd (omega arith);
        burst_most = λ z. omega arith;
        living_issued = λ z. h.free_issued i;
        marked_issued = λ z. h.free_issued i;
        free_generation = λ z. absurd (omega arith);
      });
  budget_most = o.budget_most;
  cursor_most = o.cursor_most;
  sizes = o.sizes;
}

queue_lane_ordered : (b : Bool) (x : ℕ) (s : State) → Ordered s → (b ≡ true → ((s.slot_of x).registered ≡ true) × ((s.slot_of x).paused ≡ false) × (count x s.queue ≡ 0)) → Ordered (queue_lane_if b x s)
unfolding queue_lane_if
queue_lane_ordered true x s o h = let r = h refl in back_ordered s x (signalled (s.slot_of x)) o r.2 r.0 r.0 r.1 ((o.each_slot x).burst_most r.0)
queue_lane_ordered false x s o h = o

popped_ordered : (s : State) (x n : ℕ) (vs : List ℕ) → Ordered s → Ordered (put x (popped vs n (s.slot_of x).burst (s.slot_of x)) s)
popped_ordered s x n vs o = let f = o.each_slot x in
    put_ordered s x _ o record { queued_once = f.queued_once; free_once = f.free_once; queued_registered = f.queued_registered; queued_unpaused = f.queued_unpaused; is_marked = f.is_marked; registered_issued = f.registered_issued; free_issued = f.free_issued; free_unregistered = f.free_unregistered; burst_most = f.burst_most; living_issued = f.living_issued; marked_issued = f.marked_issued; free_generation = f.free_generation }

living_of : (s : State) (k : LaneKey) → sender_lives s k ≡ true → (s.slot_of k.slot).living ≡ true
unfolding sender_lives
living_of s k e = (both_true (s.slot_of k.slot).living (eqb (s.slot_of k.slot).generation k.generation) e).0

pub move_ordered : {s u : State} {t : Tick} → Ordered s → Moves s t u → Ordered u
move_ordered o (stays_put s c a h) = o
move_ordered o (credits s c a h) = release_all_ordered s o
move_ordered o (registers_new s m lt) = new_slot_ordered s lt o
move_ordered o (registers_old s m x i l) = freed_slot_ordered s x _ i o
move_ordered o (sends s k v w free a r nf) = put_ordered s k.slot _ o (signal_fine _ _ _ _ (s.slot_of k.slot) _ (o.each_slot k.slot) refl refl refl refl refl refl ((o.each_slot k.slot).registered_issued r))
move_ordered o (posts s k v w free a r nf) = let f = o.each_slot k.slot in
    put_ordered s k.slot _ o record { queued_once = f.queued_once; free_once = f.free_once; queued_registered = f.queued_registered; queued_unpaused = f.queued_unpaused; is_marked = f.is_marked; registered_issued = f.registered_issued; free_issued = f.free_issued; free_unregistered = f.free_unregistered; burst_most = f.burst_most; living_issued = f.living_issued; marked_issued = f.marked_issued; free_generation = f.free_generation }
move_ordered o (drops_it s k a) = put_ordered s k.slot _ o (signal_fine _ _ _ _ (s.slot_of k.slot) _ (o.each_slot k.slot) refl refl refl refl refl refl ((o.each_slot k.slot).living_issued (living_of s k a)))
move_ordered o (pauses_it s i c) =
    let x = i.key.slot in let f = o.each_slot x in
    record {
      each_slot = one_slot s x _ (without x s.queue) s.free o.each_slot (λ y d. without_other x y s.queue d) (λ y d. refl)
          record {
            queued_once = omega (arith, without_own x s.queue);
            free_once = f.free_once;
            queued_registered = λ h. absurd (omega (arith, without_own x s.queue));
            queued_unpaused = λ h. absurd (omega (arith, without_own x s.queue));
            is_marked = λ h p g z. absurd (no refl p);
            registered_issued = f.registered_issued;
            free_issued = f.free_issued;
            free_unregistered = f.free_unregistered;
            burst_most = f.burst_most;
            living_issued = f.living_issued;
            marked_issued = f.marked_issued;
            free_generation = f.free_generation;
          };
      budget_most = o.budget_most;
      cursor_most = o.cursor_most;
      sizes = o.sizes;
    }
move_ordered o (resumes s i c p) =
    let x = i.key.slot in let f = o.each_slot x in let r = has_lane_parts s i.key c in
    back_ordered s x _ o (unpaused_out (count x s.queue) refl f p) r.0 r.0 refl (f.burst_most r.0)
  where
    unpaused_out : {y i m : ℕ} {l : Slot} (n : ℕ) {c : ℕ} → c ≡ n → SlotOrdered y i c m l → l.paused ≡ true → c ≡ 0
    unpaused_out zero e f p = e
    unpaused_out (suc n) e f p = absurd (no p (f.queued_unpaused (omega arith)))
move_ordered o (resumes_not s i c p) = o
move_ordered o (closes_it s i c) =
    let x = i.key.slot in
    retire_unqueue_ordered x (without x s.queue) s o (has_lane_parts s i.key c).0 (λ y d. without_other x y s.queue d) (without_own x s.queue)
move_ordered o (polls_all s) = poll_all_fine s o
move_ordered o (shuts_it s) = record { each_slot = o.each_slot; budget_most = o.budget_most; cursor_most = o.cursor_most; sizes = o.sizes }
move_ordered o (takes f r s y v q vs h e g) = give_item_ordered (poll f s) y q vs _ e (back_room f ((poll f s).slot_of y).burst) (poll_ordered f s o)
move_ordered o (stops f r s u a h e q k n) = k (poll_ordered f s o)
move_ordered o (halts s m b n j y q e h) = halts_ordered s o
move_ordered o (aims s i v vs c g) =
    queue_lane_ordered (may_queue s i.key.slot) i.key.slot _ (popped_ordered s i.key.slot (unreleased_after_one s i.key.slot) vs o)
    (λ e. let r = may_queue_parts s i.key.slot e in (rw (self i.key.slot) r.0, rw (self i.key.slot) r.1, r.2))
move_ordered o (aims_none s i a c g h) =
    let x = i.key.slot in
    settle_empty_ordered x (without x s.queue) s o (has_lane_parts s i.key c).0 (λ y d. without_other x y s.queue d) (without_own x s.queue)
