-- A lane that goes to the back of the queue, pending or not: the queue still names each lane once.
-- Assumes nothing.
use mathlib.Core.Path.{◌≡◌, refl, sym, ap, ◌∙◌}
use mathlib.Core.Bool.{true, false}
use mathlib.Core.List.{List, [], ◌∷◌}
use Prim.Native.Nat.{ℕ, ◌+◌}
use native.Mathlib.Omega.{arith}
use borrow.Author.Tests.{le-leb}
use lib.Dec.{ltb, leb, eqb}
use lib.ListN.{length}
use Rattle.model.specs.Lists as rules
use Rattle.demands.proofs.Counting.{equal, other, same?, same_self, count_append}
use Rattle.lane.specs.Table.{header_words, row_words, head, cell_at, lane_at, put_lane}
use Rattle.lane.proofs.TableLaws.{frames}
use Rattle.queues.specs.Header.{Shaped}
use Rattle.queues.specs.Queue.{queue_of, QueueNames}
use Rattle.ready.specs.Ready.{queued_lane, enqueue}
use Rattle.queues.proofs.QueueLaws.{queue_frames, shaped_pushed_back, shaped_put_lane}
use Rattle.ready.proofs.OfferLaws.{Wants, wants_room, lane_enqueued, other_enqueued, queue_enqueued}
use Rattle.ready.proofs.CollectLaws.{Kept}

module _ (t : List ℕ) (x : ℕ) where
  pub length_enqueued : length (enqueue t x) ≡ length t
  unfolding enqueue
  length_enqueued = simp (queue_frames, frames)

  pub head_enqueued : (k : ℕ) → ltb k header_words ≡ true → eqb 2 k ≡ false → head (enqueue t x) k ≡ head t k
  unfolding enqueue
  head_enqueued k p n = simp (queue_frames, frames, p, n)

module _ (t : List ℕ) (x : ℕ) (s : Shaped t) (q : QueueNames t) (w : Wants t x) where
  row_of : leb (cell_at row_words x) (length t) ≡ true
  row_of = le-leb (cell_at row_words x) (length t) (omega (arith, s.issued_most, s.room, w.is_issued))

  shaped_enqueued : Shaped (enqueue t x)
  unfolding enqueue
  shaped_enqueued = shaped_pushed_back (put_lane t (queued_lane (lane_at t x))) (shaped_put_lane t s _) x (simp frames (wants_room t x s q w))

  none_before : rules.count x (queue_of t) ≡ 0
  none_before = sym (q.flagged x w.is_issued w.registered) ∙ w.unqueued

  count_enqueued : (y : ℕ) → rules.count y (queue_of (enqueue t x)) ≡ rules.count y (queue_of t) + rules.same y x
  unfolding rules.count
  count_enqueued y = ap (rules.count y) (queue_enqueued t x s q w) ∙ count_append y (queue_of t) (x ∷ []) ∙ omega arith

  names_enqueued : QueueNames (enqueue t x)
  names_enqueued =
      record {
        once = λ y. elim (same? y x) [
          | equal e p i ↦ rw e (omega (arith, count_enqueued x, none_before, same_self x))
          | other d p i ↦ omega (arith, count_enqueued y, q.once y)
        ];
        issued_only = λ y h. elim (same? y x) [
          | equal e p i ↦ rw (e, head_enqueued t x 0 refl refl) w.is_issued
          | other d p i ↦ rw (head_enqueued t x 0 refl refl) (q.issued_only y (omega (arith, count_enqueued y)))
        ];
        flagged = λ y h r. elim (same? y x) [
          | equal e p i ↦ rw (e, lane_enqueued t x row_of) (omega (arith, count_enqueued x, none_before, same_self x))
          | other d p i ↦
              rw (other_enqueued t x y p)
              (q.flagged y (rw (head_enqueued t x 0 refl refl) at h) (rw (other_enqueued t x y p) at r) ∙ omega (arith, count_enqueued y))
        ];
      }

  pub kept_enqueued : Kept t (enqueue t x)
  kept_enqueued =
      record { shaped = shaped_enqueued; names = names_enqueued; same_issued = head_enqueued t x 0 refl refl; long = length_enqueued t x }
