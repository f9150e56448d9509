-- The loops over all issued slots: what is left to do from a slot on gives the whole, and what each step needs is kept.
-- Assumes nothing.
use mathlib.Core.Path.{◌≡◌, refl, sym, ap, ◌∙◌}
use mathlib.Core.Bool.{Bool, true, false, ◌&&◌}
use mathlib.Core.List.{List}
use Prim.Native.Nat.{ℕ, suc, ◌+◌, ◌-◌, ◌≤◌, ◌<◌, ◌^◌}
use native.Mathlib.Omega.{arith}
use borrow.Author.Tests.{eqb-true, eqb-false, eq-eqb}
use lib.Dec.{eqb, ltb}
use lib.ListN.{length}
use Rattle.lane.specs.declared.lane.Lane.{Lane}
use Rattle.lane.specs.declared.lane.Released.{Released}
use Rattle.lane.specs.Lane.{close_fast, release, release_any, release_pending}
use Rattle.lane.specs.Order.{Refundable}
use Rattle.lane.specs.Table.{header_words, head, cell, lane_at, put_lane}
use Rattle.lane.proofs.AtHandLaws.{close_closed}
use Rattle.lane.proofs.OrderLaws.{cond_holds}
use Rattle.lane.proofs.TableLaws.{frames, load_store_same, slot_of_lane, other_lane_kept}
use Rattle.demands.proofs.Counting.{no}
use Rattle.queues.specs.Header.{Shaped, issued}
use Rattle.queues.specs.Queue.{QueueNames}
use Rattle.ready.specs.Ready.{enqueue}
use Rattle.queues.proofs.QueueLaws.{shaped_put_lane}
use Rattle.ready.proofs.CollectLaws.{Kept, kept_self, kept_then}
use Rattle.ready.proofs.OfferLaws.{Wants}
use Rattle.all_lanes.specs.AllLanes.{for_slots, AllRefundable, release_slot, release_all, may_queue, poll_slot, poll_slots}
use Rattle.store.proofs.EnqueueLaws.{kept_enqueued}

-- one slot, then the rest
one_more : (n x : ℕ) → x < n → n - x ≡ suc (n - (x + 1))
one_more n x h = omega arith

pub sub_zero : (n : ℕ) → n - 0 ≡ n
sub_zero n = omega arith

none_left : (n x : ℕ) → n ≤ x → n - x ≡ 0
none_left n x h = omega arith

pub slots_next : (f : List ℕ → ℕ → List ℕ) (n x : ℕ) (t : List ℕ) → x < n → for_slots f (n - x) x t ≡ for_slots f (n - (x + 1)) (x + 1) (f t x)
unfolding for_slots
slots_next f n x t h = rw (one_more n x h)

pub slots_end : (f : List ℕ → ℕ → List ℕ) (n x : ℕ) (t : List ℕ) → n ≤ x → for_slots f (n - x) x t ≡ t
unfolding for_slots
slots_end f n x t h = rw (none_left n x h)

-- ---- credit

-- giving back does one of two things to a lane
pub release_pending_is : (P : Lane → Type 0) (l : Lane) → P (close_fast l) → P (release (close_fast l)) → P (release_pending l).lane
unfolding release_pending release_any
release_pending_is P l p q =
    cond_holds (λ (r : Released). P r.lane) (eqb (close_fast l).unreleased 0)
    (record { lane = close_fast l; released = false }) (record { lane = release (close_fast l); released = true }) (λ e. p) (λ e. q)

-- a lane keeps its slot
pub key_released : (l : Lane) → (release_pending l).lane.key.slot ≡ l.key.slot
key_released l = release_pending_is (λ m. m.key.slot ≡ l.key.slot) l refl refl

pub slot_released : (t : List ℕ) (x : ℕ) → (release_pending (lane_at t x)).lane.key.slot ≡ x
slot_released t x = release_pending_is (λ l. l.key.slot ≡ x) (lane_at t x) (slot_of_lane t x) (slot_of_lane t x)

-- nothing unreleased: no window is open, and giving back leaves the lane
pub none_to_release : (l : Lane) → Refundable l → l.unreleased ≡ 0 → (release_pending l).lane ≡ l
unfolding release_pending release_any
none_to_release l h e =
    ap (λ m. (release_any m).lane) (close_closed l (omega arith)) ∙ simp (eq-eqb l.unreleased 0 e)

pub none_released : (t : List ℕ) (x : ℕ) → ((lane_at t x).registered ≡ 1 → Refundable (lane_at t x)) → (lane_at t x).unreleased ≡ 0
    → cell t 5 x < 2 ^ 64 → cell t 6 x < 2 ^ 64 → release_slot t x ≡ t
unfolding release_slot
none_released t x h e a c =
    cond_holds (λ u. u ≡ t) (eqb (lane_at t x).registered 1) (put_lane t (release_pending (lane_at t x)).lane) t
    (λ b. ap (put_lane t) (none_to_release (lane_at t x) (h (eqb-true _ 1 b)) e) ∙ load_store_same t x a c) (λ b. refl)

-- a slot's turn does one of two things
pub release_slot_is : (P : List ℕ → Type 0) (t : List ℕ) (x : ℕ) → ((lane_at t x).registered ≡ 1 → P (put_lane t (release_pending (lane_at t x)).lane))
    → (((lane_at t x).registered ≡ 1 → ⊥) → P t) → P (release_slot t x)
unfolding release_slot
release_slot_is P t x f g =
    cond_holds P (eqb (lane_at t x).registered 1) (put_lane t (release_pending (lane_at t x)).lane) t (λ e. f (eqb-true _ 1 e)) (λ e. g (eqb-false _ 1 e))

module _ (t : List ℕ) (x : ℕ) where
  pub length_release_slot : length (release_slot t x) ≡ length t
  length_release_slot = release_slot_is (λ u. length u ≡ length t) t x (λ e. simp frames) (λ n. refl)

  pub head_release_slot : (k : ℕ) → ltb k header_words ≡ true → head (release_slot t x) k ≡ head t k
  head_release_slot k p = release_slot_is (λ u. head u k ≡ head t k) t x (λ e. simp (frames, p)) (λ n. refl)

  pub shaped_release_slot : Shaped t → Shaped (release_slot t x)
  shaped_release_slot s = release_slot_is Shaped t x (λ e. shaped_put_lane t s _) (λ n. s)

  pub other_release_slot : (y : ℕ) → (y ≡ x → ⊥) → lane_at (release_slot t x) y ≡ lane_at t y
  other_release_slot y d =
      release_slot_is (λ u. lane_at u y ≡ lane_at t y) t x
      (λ e. other_lane_kept t (release_pending (lane_at t x)).lane y (λ f. d (f ∙ slot_released t x))) (λ n. refl)

pub record Releasing (t₀ t : List ℕ) (slot : ℕ) : Type 0 where
  pub shaped : Shaped t
  pub same_issued : issued t ≡ issued t₀
  pub long : length t ≡ length t₀
  pub refunds : (x : ℕ) → slot ≤ x → x < issued t₀ → (lane_at t x).registered ≡ 1 → Refundable (lane_at t x)
  pub rest : for_slots release_slot (issued t₀ - slot) slot t ≡ release_all t₀

pub releasing_start : (t : List ℕ) → Shaped t → AllRefundable t → Releasing t t 0
unfolding release_all
releasing_start t s a = record { shaped = s; same_issued = refl; long = refl; refunds = λ x l h g. a x h g; rest = ap (λ (n : ℕ). for_slots release_slot n 0 t) (sub_zero (issued t)) }

pub releasing_next : (t₀ t : List ℕ) (slot : ℕ) → Releasing t₀ t slot → slot < issued t₀ → (u : List ℕ) → u ≡ release_slot t slot → Releasing t₀ u (slot + 1)
releasing_next t₀ t slot k h u e =
    rw e
    (record {
      shaped = shaped_release_slot t slot k.shaped;
      same_issued = head_release_slot t slot 0 refl ∙ k.same_issued;
      long = length_release_slot t slot ∙ k.long;
      refunds = λ x l m g.
          let same = other_release_slot t slot x (λ f. omega arith) in
          rw same (k.refunds x (omega arith) m (rw same at g));
      rest = sym (slots_next release_slot (issued t₀) slot t h) ∙ k.rest;
    })

pub releasing_end : (t₀ t : List ℕ) (slot : ℕ) → Releasing t₀ t slot → issued t₀ ≤ slot → t ≡ release_all t₀
releasing_end t₀ t slot k n = sym (slots_end release_slot (issued t₀) slot t n) ∙ k.rest

-- ---- the lanes that are not queued

and_both : (a b : Bool) → (a && b) ≡ true → (a ≡ true) × (b ≡ true)
and_both true b e = (refl, e)
and_both false b e = absurd (no e refl)

pub wants_queue : (t : List ℕ) (x : ℕ) → x < issued t → may_queue (lane_at t x) ≡ true → Wants t x
unfolding may_queue
wants_queue t x h e =
    let l = lane_at t x in
    let a = and_both (eqb l.registered 1) (eqb l.paused 0 && eqb l.queued 0) e in
    let b = and_both (eqb l.paused 0) (eqb l.queued 0) a.1 in
    record { is_issued = h; registered = eqb-true l.registered 1 a.0; unqueued = eqb-true l.queued 0 b.1 }

pub poll_slot_is : (P : List ℕ → Type 0) (t : List ℕ) (x : ℕ) → (may_queue (lane_at t x) ≡ true → P (enqueue t x)) → (may_queue (lane_at t x) ≡ false → P t)
    → P (poll_slot t x)
unfolding poll_slot
poll_slot_is P t x f g = cond_holds P (may_queue (lane_at t x)) (enqueue t x) t f g

pub kept_poll_slot : (t : List ℕ) (x : ℕ) → Shaped t → QueueNames t → x < issued t → Kept t (poll_slot t x)
kept_poll_slot t x s q h = poll_slot_is (Kept t) t x (λ e. kept_enqueued t x s q (wants_queue t x h e)) (λ e. kept_self t s q)

pub record Polling (t₀ t : List ℕ) (slot : ℕ) : Type 0 where
  pub kept : Kept t₀ t
  pub rest : for_slots poll_slot (issued t₀ - slot) slot t ≡ poll_slots t₀

pub polling_start : (t : List ℕ) → Shaped t → QueueNames t → Polling t t 0
unfolding poll_slots
polling_start t s q = record { kept = kept_self t s q; rest = ap (λ (n : ℕ). for_slots poll_slot n 0 t) (sub_zero (issued t)) }

pub polling_next : (t₀ t : List ℕ) (slot : ℕ) → Polling t₀ t slot → slot < issued t₀ → (u : List ℕ) → u ≡ poll_slot t slot → Polling t₀ u (slot + 1)
polling_next t₀ t slot k h u e =
    rw e
    (record {
      kept = kept_then k.kept (kept_poll_slot t slot k.kept.shaped k.kept.names (rw k.kept.same_issued h));
      rest = sym (slots_next poll_slot (issued t₀) slot t h) ∙ k.rest;
    })

pub polling_end : (t₀ t : List ℕ) (slot : ℕ) → Polling t₀ t slot → issued t₀ ≤ slot → t ≡ poll_slots t₀
polling_end t₀ t slot k n = sym (slots_end poll_slot (issued t₀) slot t n) ∙ k.rest
