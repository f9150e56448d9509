-- Chunk after chunk, up to an item that is not admitted, is the rules' `take_while`, and leaves a store in order.
-- Assumes nothing.
use Rattle.std.specs.Prelude.{Option, Some, None}
use mathlib.Core.Path.{◌≡◌, refl, sym, ap, ap₂, ◌∙◌, subst}
use mathlib.Core.Bool.{Bool, true, false, cond}
use mathlib.Core.List.{List, [], ◌∷◌, ◌++◌}
use Prim.Native.Nat.{ℕ, zero, suc, ◌-◌, ◌≤◌, ◌<◌}
use native.Mathlib.Omega.{arith}
use borrow.Author.Tests.{ltb-true, ltb-false}
use lib.Dec.{ltb}
use Rattle.model.specs.declared.LaneKey.{LaneKey}
use Rattle.model.specs.State.{State, release_batch}
use Rattle.model.specs.Turn.{Took, polled}
use Rattle.model.specs.Receive.{admitted, take_while}
use Rattle.demands.proofs.WholeChunk.{first_of, given, ChunkFits}
use Rattle.demands.proofs.StopInChunk.{onto_while, while_none, while_nothing, while_chunk, while_stops_in_chunk}
use Rattle.yring.proofs.AdmittedLaws.{admitted_prefix}
use Rattle.lane.specs.declared.lane.Lane.{Lane}
use Rattle.lane.specs.Lane.{chunk_limit}
use Rattle.queues.specs.Header.{budget, capacity}
use Rattle.queues.specs.Queue.{queue_of, front_slot, pop_front}
use Rattle.store.specs.View.{view}
use Rattle.store.specs.Order.{InOrderButHeld}
use Rattle.receive_batch.specs.Batch.{refresh_active, Reached, full_budget, chunk_size, chunk_items, chunk_given}
use Rattle.receive_while.specs.While.{chunk_admitted, DrainedWhile, while_then, drained_while_within, drained_while}
use Rattle.turns.proofs.DueLaws.{turning_of}
use Rattle.receive_batch.proofs.LookLaws.{refresh_searched}
use Rattle.receive_batch.proofs.ChunkLaws.{chunk_least, chunk_some, chunk_filled}
use Rattle.receive_batch.proofs.DrainLaws.{chunk_handed}
use Rattle.receive_while.proofs.WhileLaws.{admitted_most, within_next}
use Rattle.refinement.proofs.LookView.{ReachedAs, none_queued, refresh_alike}
use Rattle.refinement.proofs.ChunkView.{chunk_queue, chunk_fits, chunk_hands, chunk_view, chunk_owes, chunk_in_order, part_in_order}

-- the same is handed out and it stops alike, the rules see the same state, and the words are in order
pub record WhileAs (r : List ℕ) (d : DrainedWhile) (w : Bool × Took) : Type 0 where
  pub alike : (d.0, (d.1.0, view d.1.1 r)) ≡ w
  pub in_order : InOrderButHeld d.1.1 r

-- the steps that are left do what the rules do with what is left of the limit
abbrev Goes : List ℕ → ℕ → ℕ → (List ℕ → ℕ → DrainedWhile) → Type 0
Goes r bound n more = (u : List ℕ) (m : ℕ) → m ≤ n → InOrderButHeld u r → WhileAs r (more u m) (take_while bound m (view u r))

module _ (r : List ℕ) (s : State) (bound n left : ℕ) (some : 1 ≤ left) (enough : left ≤ suc n) (more : List ℕ → ℕ → DrainedWhile) (ih : Goes r bound n more) where
  -- nothing is queued and nothing is ready
  none_left : (u : List ℕ) → ReachedAs r (None, u) (polled s) → Reached (None, u) → WhileAs r (false, ([], u)) (take_while bound left s)
  unfolding view
  none_left u a k =
      let none : (polled s).queue ≡ [] = sym (ap (λ (z : State). z.queue) a.alike) ∙ none_queued u k in
      record { alike = ap (λ (z : State). (false, ([], z))) a.alike ∙ sym (while_nothing bound left s some none); in_order = a.in_order }

  -- a lane has items
  module _ (l : Lane) (u : List ℕ) (a : ReachedAs r (Some l, u) (polled s)) (f : Reached (Some l, u)) where
    abbrev c : ℕ
    c = chunk_size u left l

    abbrev k : ℕ
    k = chunk_admitted u r bound c l

    abbrev x : ℕ
    x = front_slot u

    abbrev q : List ℕ
    q = queue_of (pop_front u)

    least : (c ≤ left) × (c ≤ full_budget (budget u)) × (c ≤ chunk_limit (capacity u) l)
    least = chunk_least u left l

    one : 1 ≤ c
    one = chunk_some u left l (chunk_filled u l f) some

    fits : ChunkFits (view u r) x c
    fits = chunk_fits u r a.in_order l f c least.2 least.1 one

    queue_seen : (polled s).queue ≡ x ∷ q
    unfolding view
    queue_seen = sym (ap (λ (z : State). z.queue) a.alike) ∙ chunk_queue u r a.in_order l f c least.2 least.1

    rules_fit : ChunkFits (polled s) x c
    rules_fit = subst (λ (z : State). ChunkFits z x c) a.alike fits

    -- the rules admit as many of the chunk
    count_alike : admitted bound (first_of (polled s) x c) ≡ k
    unfolding chunk_admitted
    count_alike =
        ap (λ (z : State). admitted bound (first_of z x c)) (sym a.alike) ∙ ap (admitted bound) (sym (chunk_hands u r a.in_order l f c least.2 least.1))
        ∙ admitted_prefix bound l.key (chunk_items u r c l)

    abbrev step : ℕ → DrainedWhile
    step j = let d = more (chunk_given u j l) (left - j) in (d.0, (chunk_handed u r j l ++ d.1.0, d.1.1))

    -- all of it is admitted
    goes_on : k ≡ c → WhileAs r (step k) (take_while bound left s)
    goes_on e = subst (λ (j : ℕ). WhileAs r (step j) (take_while bound left s)) (sym e) whole
      where
        rules_chunk : take_while bound left s ≡ onto_while (first_of (view u r) x c) (take_while bound (left - c) (given (view u r) x q c))
        rules_chunk =
            subst (λ (z : State). take_while bound left s ≡ onto_while (first_of z x c) (take_while bound (left - c) (given z x q c))) (sym a.alike)
            (while_chunk bound left c s x q queue_seen rules_fit least.0 (count_alike ∙ e))

        rest : WhileAs r (more (chunk_given u c l) (left - c)) (take_while bound (left - c) (given (view u r) x q c))
        rest =
            subst (λ (z : State). WhileAs r (more (chunk_given u c l) (left - c)) (take_while bound (left - c) z)) (chunk_view u r a.in_order l f c least.2 least.1)
            (ih (chunk_given u c l) (left - c) (omega (arith, one, enough)) (chunk_in_order u r a.in_order l f c least.2 least.1 one))

        whole : WhileAs r (step c) (take_while bound left s)
        whole =
            record {
              alike = ap₂ (λ (hs : List (LaneKey × ℕ)) (w : Bool × Took). onto_while hs w) (chunk_hands u r a.in_order l f c least.2 least.1) rest.alike ∙ sym rules_chunk;
              in_order = rest.in_order;
            }

    -- an item of it is not
    stops : k < c → WhileAs r (true, (chunk_handed u r k l, chunk_given u k l)) (take_while bound left s)
    unfolding view
    stops h =
        record {
          alike =
              ap₂ (λ (hs : List (LaneKey × ℕ)) (z : State). (true, (hs, z))) (chunk_hands u r a.in_order l f k under in_budget) (chunk_view u r a.in_order l f k under in_budget)
              ∙ sym rules_stop;
          in_order = part_in_order u r a.in_order l f k under in_budget c fits h;
        }
      where
        under : k ≤ chunk_limit (capacity u) l
        under = omega (arith, least.2, h)

        in_budget : k ≤ full_budget (budget u)
        in_budget = omega (arith, least.1, h)

        owes : ((polled s).slot_of x).unreleased < release_batch (polled s).capacity
        owes = subst (λ (z : State). (z.slot_of x).unreleased < release_batch z.capacity) a.alike (chunk_owes u r a.in_order l f c least.2 least.1)

        rules_stop : take_while bound left s ≡ (true, (first_of (view u r) x k, given (view u r) x q k))
        rules_stop =
            subst (λ (z : State). take_while bound left s ≡ (true, (first_of z x k, given z x q k))) (sym a.alike)
            (while_stops_in_chunk s x q c queue_seen rules_fit owes bound left k least.0 h count_alike)

    some_left : WhileAs r (while_then (Some l, u) r bound left more) (take_while bound left s)
    unfolding while_then
    some_left = go (ltb k c) refl
      where
        outcome : Bool → DrainedWhile
        outcome b = cond b (true, (chunk_handed u r k l, chunk_given u k l)) (step k)

        go : (b : Bool) → ltb k c ≡ b → WhileAs r (outcome b) (take_while bound left s)
        go true e = stops (ltb-true k c e)
        go false e = goes_on (omega (arith, ltb-false k c e, admitted_most u r bound c l))

  while_then_alike : (w : Option Lane × List ℕ) → ReachedAs r w (polled s) → Reached w → WhileAs r (while_then w r bound left more) (take_while bound left s)
  unfolding while_then
  while_then_alike (None, u) a k = none_left u a k
  while_then_alike (Some l, u) a k = some_left l u a k

within_alike : (n : ℕ) (t r : List ℕ) (bound left : ℕ) → left ≤ n → InOrderButHeld t r → WhileAs r (drained_while_within n t r bound left) (take_while bound left (view t r))
unfolding drained_while_within
within_alike zero t r bound zero h o = record { alike = sym (while_none bound (view t r)); in_order = o }
within_alike zero t r bound (suc left) h o = absurd (omega arith)
within_alike (suc n) t r bound zero h o = record { alike = sym (while_none bound (view t r)); in_order = o }
within_alike (suc n) t r bound (suc left) h o =
    subst (λ (d : DrainedWhile). WhileAs r d (take_while bound (suc left) (view t r))) (sym (within_next n t r bound (suc left) (omega arith)))
    (while_then_alike r (view t r) bound n (suc left) (omega arith) h (λ u m. drained_while_within n u r bound m) (λ u m i p. within_alike n u r bound m i p) (refresh_active t) (refresh_alike t r o)
    (refresh_searched t (turning_of t r o)).reached)

pub drained_while_alike : (t r : List ℕ) (limit bound : ℕ) → InOrderButHeld t r → WhileAs r (drained_while t r limit bound) (take_while bound limit (view t r))
unfolding drained_while
drained_while_alike t r limit bound o = within_alike limit t r bound limit (omega arith) o
