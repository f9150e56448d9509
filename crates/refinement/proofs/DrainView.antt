-- Chunk after chunk is the rules' item after item, and leaves a store in order.
-- Assumes nothing.
use Rattle.std.specs.Prelude.{Option, Some, None}
use mathlib.Core.Path.{◌≡◌, refl, sym, ap, ap₂, ◌∙◌, subst}
use mathlib.Core.List.{List, [], ◌∷◌}
use Prim.Native.Nat.{ℕ, zero, suc, ◌-◌, ◌≤◌}
use native.Mathlib.Omega.{arith}
use Rattle.model.specs.declared.LaneKey.{LaneKey}
use Rattle.model.specs.State.{State}
use Rattle.model.specs.Turn.{Took, polled}
use Rattle.model.specs.Receive.{take_up_to}
use Rattle.demands.proofs.WholeChunk.{first_of, given, ChunkFits, onto, take_up_to_none, take_up_to_chunk}
use Rattle.lane.specs.declared.lane.Lane.{Lane}
use Rattle.lane.specs.Lane.{chunk_limit}
use Rattle.queues.specs.Header.{budget, capacity}
use Rattle.queues.specs.Queue.{queue_of, front_slot, pop_front}
use Rattle.store.specs.View.{view}
use Rattle.store.specs.Order.{InOrderButHeld}
use Rattle.receive_batch.specs.Batch.{refresh_active, Reached, full_budget, chunk_size, chunk_given, HandsAndTable, chunk_then, drained_within, drained}
use Rattle.turns.proofs.DueLaws.{turning_of}
use Rattle.receive_batch.proofs.LookLaws.{refresh_searched}
use Rattle.refinement.proofs.LookView.{ReachedAs, none_queued, refresh_alike}
use Rattle.receive_batch.proofs.ChunkLaws.{chunk_least, chunk_some, chunk_filled}
use Rattle.refinement.proofs.ChunkView.{chunk_queue, chunk_fits, chunk_hands, chunk_view, chunk_in_order}
use Rattle.receive_batch.proofs.DrainLaws.{within_next}

-- the same is handed out, the rules see the same state, and the words are in order
pub record DrainedAs (r : List ℕ) (d : HandsAndTable) (w : Took) : Type 0 where
  pub alike : (d.0, view d.1 r) ≡ w
  pub in_order : InOrderButHeld d.1 r

-- the steps that are left do what the rules do with what is left of the limit
abbrev Goes : List ℕ → ℕ → (List ℕ → ℕ → HandsAndTable) → Type 0
Goes r n more = (u : List ℕ) (m : ℕ) → m ≤ n → InOrderButHeld u r → DrainedAs r (more u m) (take_up_to m (view u r))

module _ (r : List ℕ) (s : State) (n left : ℕ) (some : 1 ≤ left) (enough : left ≤ suc n) (more : List ℕ → ℕ → HandsAndTable) (ih : Goes r n more) where
  -- nothing is queued and nothing is ready
  none_left : (u : List ℕ) → ReachedAs r (None, u) (polled s) → Reached (None, u) → DrainedAs r ([], u) (take_up_to left s)
  unfolding view
  none_left u a k =
      let none : (polled s).queue ≡ [] = sym (ap (λ (z : State). z.queue) a.alike) ∙ none_queued u k in
      record { alike = ap (λ (z : State). ([], z)) a.alike ∙ sym (take_up_to_none left s some none); in_order = a.in_order }

  -- a lane has items
  module _ (l : Lane) (u : List ℕ) (a : ReachedAs r (Some l, u) (polled s)) (k : Reached (Some l, u)) where
    abbrev c : ℕ
    c = chunk_size u left l

    least : (c ≤ left) × (c ≤ full_budget (budget u)) × (c ≤ chunk_limit (capacity u) l)
    least = chunk_least u left l

    one : 1 ≤ c
    one = chunk_some u left l (chunk_filled u l k) some

    chunked : InOrderButHeld (chunk_given u c l) r
    chunked = chunk_in_order u r a.in_order l k c least.2 least.1 one

    queue_seen : (polled s).queue ≡ front_slot u ∷ queue_of (pop_front u)
    unfolding view
    queue_seen = sym (ap (λ (z : State). z.queue) a.alike) ∙ chunk_queue u r a.in_order l k c least.2 least.1

    fits : ChunkFits (polled s) (front_slot u) c
    fits = subst (λ (z : State). ChunkFits z (front_slot u) c) a.alike (chunk_fits u r a.in_order l k c least.2 least.1 one)

    rules_chunk : take_up_to left s ≡ onto (first_of (view u r) (front_slot u) c) (take_up_to (left - c) (given (view u r) (front_slot u) (queue_of (pop_front u)) c))
    rules_chunk =
        subst (λ (z : State). take_up_to left s ≡ onto (first_of z (front_slot u) c) (take_up_to (left - c) (given z (front_slot u) (queue_of (pop_front u)) c))) (sym a.alike)
        (take_up_to_chunk left c s (front_slot u) (queue_of (pop_front u)) queue_seen fits least.0)

    rest : DrainedAs r (more (chunk_given u c l) (left - c)) (take_up_to (left - c) (given (view u r) (front_slot u) (queue_of (pop_front u)) c))
    rest =
        subst (λ (z : State). DrainedAs r (more (chunk_given u c l) (left - c)) (take_up_to (left - c) z)) (chunk_view u r a.in_order l k c least.2 least.1)
        (ih (chunk_given u c l) (left - c) (omega (arith, one, enough)) chunked)

    some_left : DrainedAs r (chunk_then (Some l, u) r left more) (take_up_to left s)
    unfolding chunk_then
    some_left =
        record {
          alike =
              ap₂ (λ (hs : List (LaneKey × ℕ)) (w : Took). onto hs w) (chunk_hands u r a.in_order l k c least.2 least.1) rest.alike
              ∙ sym rules_chunk;
          in_order = rest.in_order;
        }

  chunk_then_alike : (w : Option Lane × List ℕ) → ReachedAs r w (polled s) → Reached w → DrainedAs r (chunk_then w r left more) (take_up_to left s)
  unfolding chunk_then
  chunk_then_alike (None, u) a k = none_left u a k
  chunk_then_alike (Some l, u) a k = some_left l u a k

drained_within_alike : (n : ℕ) (t r : List ℕ) (left : ℕ) → left ≤ n → InOrderButHeld t r → DrainedAs r (drained_within n t r left) (take_up_to left (view t r))
unfolding drained_within take_up_to
drained_within_alike zero t r zero h o = record { alike = refl; in_order = o }
drained_within_alike zero t r (suc left) h o = absurd (omega arith)
drained_within_alike (suc n) t r zero h o = record { alike = refl; in_order = o }
drained_within_alike (suc n) t r (suc left) h o =
    subst (λ (d : HandsAndTable). DrainedAs r d (take_up_to (suc left) (view t r))) (sym (within_next n t r (suc left) (omega arith)))
    (chunk_then_alike r (view t r) n (suc left) (omega arith) h (λ u m. drained_within n u r m) (λ u m i p. drained_within_alike n u r m i p) (refresh_active t) (refresh_alike t r o)
    (refresh_searched t (turning_of t r o)).reached)

pub drained_alike : (t r : List ℕ) (limit : ℕ) → InOrderButHeld t r → DrainedAs r (drained t r limit) (take_up_to limit (view t r))
unfolding drained
drained_alike t r limit o = drained_within_alike limit t r limit (omega arith) o
