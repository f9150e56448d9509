-- A lane offered to the queue: what that leaves as it was, what it makes of the queue, and that the queue still names each lane once.
-- Assumes nothing.
use mathlib.Core.Path.{◌≡◌, refl, sym, ap, ◌∙◌}
use mathlib.Core.Bool.{Bool, true, false, cond, ◌&&◌}
use mathlib.Core.List.{List, [], ◌∷◌, ◌++◌}
use Prim.Native.Nat.{ℕ, ◌<◌}
use native.Mathlib.Omega.{arith}
use borrow.Author.Tests.{ltb-true, le-leb, eqb-true}
use lib.Dec.{ltb, leb, eqb}
use lib.ListN.{length}
use Rattle.demands.proofs.Counting.{equal, other, same?}
use Rattle.lane.specs.Table.{header_words, row_words, lane_words, head, cell_at, cell, narrowed, lane_at, put_lane}
use Rattle.lane.proofs.TableLaws.{frames, slot_of_lane, narrow_same, loaded_narrow}
use Rattle.queues.specs.Header.{Shaped, issued, queue_count, slots}
use Rattle.queues.specs.Queue.{queue_column, queue_of, QueueNames}
use Rattle.queues.specs.Registry.{free_of}
use Rattle.ready.specs.Ready.{wanted_lane, wanted, queued_lane, enqueue, offer}
use Rattle.queues.proofs.NamesLaws.{names_pushed_back}
use Rattle.queues.proofs.RegistryLaws.{registry_frames}
use Rattle.queues.proofs.QueueLaws.{queue_frames, queue_pushed_back, queue_has_room, shaped_pushed_back, shaped_put_lane}

-- ---- a slot whose lane may be queued

and_both : (a b : Bool) → (a && b) ≡ true → (a ≡ true) × (b ≡ true)
and_both true b e = (refl, e)
and_both false b e = let z : ◌≡◌ {A = ℕ} 0 1 = ap (λ (x : Bool). cond x 1 0) e in absurd (omega arith)

pub record Wants (t : List ℕ) (x : ℕ) : Type 0 where
  pub is_issued : x < issued t
  pub registered : (lane_at t x).registered ≡ 1
  pub unqueued : (lane_at t x).queued ≡ 0

-- a wanted one is of these
pub wants : (t : List ℕ) (x : ℕ) → wanted t x ≡ true → Wants t x
unfolding wanted wanted_lane
wants t x e =
    let l = lane_at t x in
    let a = and_both (ltb x (issued t)) (wanted_lane l) e in
    let b = and_both (eqb l.registered 1) (eqb l.pending 1 && (eqb l.paused 0 && eqb l.queued 0)) a.1 in
    let c = and_both (eqb l.pending 1) (eqb l.paused 0 && eqb l.queued 0) b.1 in
    let d = and_both (eqb l.paused 0) (eqb l.queued 0) c.1 in
    record {
      is_issued = ltb-true x (issued t) a.0;
      registered = eqb-true l.registered 1 b.0;
      unqueued = eqb-true l.queued 0 d.1;
    }

-- ---- a lane that goes to the back of the queue

module _ (t : List ℕ) (x : ℕ) where
  pub length_enqueued : length (enqueue t x) ≡ length t
  unfolding enqueue
  length_enqueued = simp (queue_frames, frames)

  pub head_enqueued : (k : ℕ) → ltb k header_words ≡ true → eqb 2 k ≡ false → head (enqueue t x) k ≡ head t k
  unfolding enqueue
  head_enqueued k p n = simp (queue_frames, frames, p, n)

  -- the columns past the queue's
  pub cell_enqueued : (c row : ℕ) → leb lane_words c ≡ true → ltb c row_words ≡ true → eqb queue_column c ≡ false → cell (enqueue t x) c row ≡ cell t c row
  unfolding enqueue
  cell_enqueued c row a p n = simp (queue_frames, frames, a, p, n)

  pub lane_enqueued : leb (cell_at row_words x) (length t) ≡ true → lane_at (enqueue t x) x ≡ queued_lane (lane_at t x)
  unfolding enqueue
  lane_enqueued r =
      let here : lane_at (enqueue t x) x ≡ narrowed (queued_lane (lane_at t x)) = simp (queue_frames, frames, r) in
      here ∙ narrow_same (queued_lane (lane_at t x)) (loaded_narrow t x)

  pub other_enqueued : (y : ℕ) → eqb y x ≡ false → lane_at (enqueue t x) y ≡ lane_at t y
  unfolding enqueue
  other_enqueued y n = simp (queue_frames, frames, n)

  pub free_enqueued : free_of (enqueue t x) ≡ free_of t
  unfolding enqueue
  free_enqueued = simp registry_frames

pub ruleset enqueue_frames = (
  length_enqueued,
  head_enqueued,
  cell_enqueued,
  lane_enqueued,
  other_enqueued,
  free_enqueued,
)

-- the queue has room for such a slot
pub wants_room : (t : List ℕ) (x : ℕ) → Shaped t → QueueNames t → Wants t x → queue_count t < slots t
wants_room t x s q w =
    queue_has_room t s q x w.is_issued (sym (q.flagged x w.is_issued w.registered) ∙ w.unqueued)

-- ---- what offering leaves: all but the lanes' queued words, the queue's places and its count

pub record Rest (t u : List ℕ) : Type 0 where
  pub long : length u ≡ length t
  pub heads : (k : ℕ) → ltb k header_words ≡ true → eqb 2 k ≡ false → head u k ≡ head t k
  pub cells : (c row : ℕ) → leb lane_words c ≡ true → ltb c row_words ≡ true → eqb queue_column c ≡ false → cell u c row ≡ cell t c row
  pub lanes : (y : ℕ) → queued_lane (lane_at u y) ≡ queued_lane (lane_at t y)

pub rest_self : (t : List ℕ) → Rest t t
rest_self t = record { long = refl; heads = λ k p n. refl; cells = λ c row a p n. refl; lanes = λ y. refl }

pub rest_then : {t u v : List ℕ} → Rest t u → Rest u v → Rest t v
rest_then a b =
    record {
      long = b.long ∙ a.long;
      heads = λ k p n. b.heads k p n ∙ a.heads k p n;
      cells = λ c row l p n. b.cells c row l p n ∙ a.cells c row l p n;
      lanes = λ y. b.lanes y ∙ a.lanes y;
    }

-- an offer does one of two things
pub offered_case : (P : List ℕ → Type 0) (t : List ℕ) (x : ℕ) → (wanted t x ≡ true → P (enqueue t x)) → (wanted t x ≡ false → P t) → P (offer t x)
unfolding offer
offered_case P t x f g = go (wanted t x) refl
  where
    go : (b : Bool) → wanted t x ≡ b → P (cond b (enqueue t x) t)
    go true e = f e
    go false e = g e

module _ (t : List ℕ) (x : ℕ) (s : Shaped t) where
  -- a wanted slot's row lies within the table
  row_of : Wants t x → leb (cell_at row_words x) (length t) ≡ true
  row_of w = le-leb (cell_at row_words x) (length t) (omega (arith, s.issued_most, s.room, w.is_issued))

  pub rest_enqueued : Wants t x → Rest t (enqueue t x)
  rest_enqueued w =
      record {
        long = length_enqueued t x;
        heads = head_enqueued t x;
        cells = cell_enqueued t x;
        lanes = λ y. elim (same? y x) [
          | equal e p i ↦ rw e (ap queued_lane (lane_enqueued t x (row_of w)))
          | other d p i ↦ ap queued_lane (other_enqueued t x y p)
        ];
      }

  pub rest_offered : Rest t (offer t x)
  rest_offered = offered_case (Rest t) t x (λ e. rest_enqueued (wants t x e)) (λ e. rest_self t)

  module _ (q : QueueNames t) where
    module _ (w : Wants t x) where
      pub shaped_enqueued : Shaped (enqueue t x)
      unfolding enqueue
      shaped_enqueued = shaped_pushed_back (put_lane t (queued_lane (lane_at t x))) (shaped_put_lane t s _) x (simp frames (wants_room t x s q w))

      pub queue_enqueued : queue_of (enqueue t x) ≡ queue_of t ++ (x ∷ [])
      unfolding enqueue
      queue_enqueued =
          queue_pushed_back (put_lane t (queued_lane (lane_at t x))) (shaped_put_lane t s _) x (simp frames (wants_room t x s q w)) ∙ simp queue_frames

      pub names_enqueued : QueueNames (enqueue t x)
      unfolding enqueue
      names_enqueued =
          names_pushed_back t s q x (queued_lane (lane_at t x)) (slot_of_lane t x) w.is_issued
          (sym (q.flagged x w.is_issued w.registered) ∙ w.unqueued) refl

    pub shaped_offered : Shaped (offer t x)
    shaped_offered = offered_case Shaped t x (λ e. shaped_enqueued (wants t x e)) (λ e. s)

    pub names_offered : QueueNames (offer t x)
    names_offered = offered_case QueueNames t x (λ e. names_enqueued (wants t x e)) (λ e. q)
