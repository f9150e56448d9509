-- Turn after turn at the front of the queue does what the rules say, and leaves a store in order.
-- Assumes nothing.
use Rattle.std.specs.Prelude.{Option, Some, None, Result, Ok, Err}
use mathlib.Core.Path.{◌≡◌, refl, sym, ap, ap₂, ◌∙◌, subst}
use mathlib.Core.Bool.{Bool}
use mathlib.Core.List.{List, [], ◌∷◌}
use Prim.Native.Nat.{ℕ}
use native.Mathlib.Omega.{arith}
use borrow.Author.Tests.{ne_eqb}
use lib.Dec.{leb}
use lib.ListN.{length}
use Rattle.model.specs.declared.LaneKey.{LaneKey}
use Rattle.model.specs.Lists.{if, either, non_empty}
use Rattle.model.specs.State.{Slot, State, key_of}
use Rattle.model.specs.Turn as rules
use Rattle.demands.proofs.OrderKept.{settle_empty_queue, before_next_turn_queue}
use Rattle.lane.specs.declared.lane.Lane.{Lane}
use Rattle.lane.specs.declared.lane.EmptyLane.{EmptyLane}
use Rattle.lane.specs.declared.lane.LanePoll.{LanePoll}
use Rattle.yring.specs.Ring.{new_ring}
use Rattle.lane.specs.Lane.{held_items, poll}
use Rattle.lane.specs.Table.{lane_at}
use Rattle.queues.specs.Header.{queue_count, capacity}
use Rattle.queues.specs.Queue.{queue_of}
use Rattle.queues.proofs.QueueLaws.{length_queue, front_is}
use Rattle.turns.specs.declared.turn.Took.{Took}
use Rattle.store.specs.View.{slot_at, view}
use Rattle.store.specs.Order.{InOrderButHeld}
use Rattle.turns.specs.Turn.{settle_empty_front, meet_budget, gave_front, turn_by, poll_front, after_turn, turns_within, turns}
use Rattle.turns.specs.Drained.{Rests}
use Rattle.store.proofs.ViewLaws.{slot_in}
use Rattle.refinement.proofs.SameFlags.{key_by}
use Rattle.store.proofs.BetweenTurns.{FrontLane, front_lane_lem}
use Rattle.receive.proofs.ReceiveLaws.{turns_rest}
use Rattle.turns.proofs.DueLaws.{turning_of}
use Rattle.refinement.proofs.EmptyLaneLaws.{Empties, empties_by_poll}
use Rattle.refinement.proofs.LeftView.{left_view, left_in_order, left_queue, met_view, met_in_order}
use Rattle.refinement.proofs.GaveView.{Gives, gives_by_poll, gave_first, gave_view, gave_in_order}
use Rattle.std.specs.declared.ops.ControlFlow.{ControlFlow}

-- ---- a take on words and a take of the rules

-- what a take hands out, as the rules say it
abbrev pub handed : Option Took → List (LaneKey × ℕ)
handed (Some took) = (took.key, took.item) ∷ []
handed None = []

-- the same is handed out, the rules see the same state, and the words are in order
pub record TookAs (r : List ℕ) (o : Option Took × List ℕ) (w : rules.Took) : Type 0 where
  pub alike : (handed o.0, view o.1 r) ≡ w
  pub in_order : InOrderButHeld o.1 r

-- the rules' turns from a queue on
unfoldable pub turns_from : Bool → List ℕ → State → rules.Took
turns_from fair q s = let u = rules.run_down_from q s in rules.give_front fair u u.queue

-- a front lane that has an item gives it
pub turns_from_front : (fair : Bool) (s : State) (x v : ℕ) (q vs : List ℕ) → s.queue ≡ x ∷ q → (s.slot_of x).ring ≡ v ∷ vs
    → turns_from fair (x ∷ q) s ≡ ((key_of s x, v) ∷ [], rules.give_item s x q vs (either fair (leb 63 (s.slot_of x).burst)))
unfolding turns_from rules.run_down_from rules.give_front rules.give_oldest
turns_from_front fair s x v q vs e f =
    ap (λ (l : List ℕ). let u = if (non_empty l) s (rules.run_down_from q (rules.before_next_turn q (rules.settle_empty x q s))) in rules.give_front fair u u.queue) f
    ∙ ap (rules.give_front fair s) e
    ∙ ap (rules.give_oldest s fair x q) f

-- ---- the front lane by the queue's first slot

module _ (t r : List ℕ) (o : InOrderButHeld t r) (fair : Bool) (x : ℕ) (q : List ℕ) (e : queue_of t ≡ x ∷ q) where
  abbrev s : State
  s = view t r

  front : FrontLane t x q
  front = front_lane_lem t r o x q e

  queue_seen : s.queue ≡ x ∷ q
  unfolding view
  queue_seen = e

  front_polled : poll_front t r fair ≡ turn_by t (poll (new_ring x (capacity t)) r fair (lane_at t x))
  unfolding poll_front
  front_polled =
      rw (ne_eqb (queue_count t) 0 (λ z. omega (arith, length_queue t, ap length e)))
      (ap (λ (y : ℕ). turn_by t (poll (new_ring y (capacity t)) r fair (lane_at t y))) (front_is t o.stores.shaped x q e))

  -- it has an item
  module _ (item : ℕ) (rotate : Bool) (m : Lane) (k : Gives t r x fair item rotate m) where
    turns_given : turns_from fair (x ∷ q) s ≡ ((key_of s x, item) ∷ [], rules.give_item s x q (held_items (new_ring x (capacity t)) r m) (either fair (leb 63 (s.slot_of x).burst)))
    turns_given = turns_from_front fair s x item q (held_items (new_ring x (capacity t)) r m) queue_seen (gave_first t r o x q e fair item rotate m k)

    took_given : TookAs r (Some (record { item = item; key = m.key }), gave_front t rotate m) (turns_from fair (x ∷ q) s)
    took_given =
        record {
          alike = ap₂ (λ (a : LaneKey) (b : State). ((a, item) ∷ [], b)) (key_by t x m k.same_flags r front.is_issued) (gave_view t r o x q e fair item rotate m k) ∙ sym turns_given;
          in_order = gave_in_order t r o x q e fair item rotate m k;
        }

  -- it is empty
  module _ (found : EmptyLane) (k : Empties t r x found) where
    pub none_held : (s.slot_of x).ring ≡ []
    unfolding slot_at
    none_held = ap (λ (y : Slot). y.ring) (slot_in t r x front.is_issued) ∙ k.idle.holds_none

    abbrev left : List ℕ
    left = meet_budget (settle_empty_front t found)

    pub left_ordered : InOrderButHeld left r
    left_ordered = met_in_order (settle_empty_front t found) r (left_in_order t r o x q e found k)

    pub view_left : view left r ≡ rules.before_next_turn q (rules.settle_empty x q s)
    view_left =
        met_view (settle_empty_front t found) r (left_in_order t r o x q e found k) q (left_queue t r o x q e found k)
        ∙ ap (rules.before_next_turn q) (left_view t r o x q e found k)

    turns_left : turns_from fair (x ∷ q) s ≡ turns_from fair q (view left r)
    unfolding turns_from rules.run_down_from
    turns_left =
        ap (λ (l : List ℕ). let u = if (non_empty l) s (rules.run_down_from q (rules.before_next_turn q (rules.settle_empty x q s))) in rules.give_front fair u u.queue) none_held
        ∙ ap (λ (z : State). let u = rules.run_down_from q z in rules.give_front fair u u.queue) (sym view_left)

    pub left_rest : queue_of left ≡ q
    unfolding view
    left_rest = ap (λ (z : State). z.queue) view_left ∙ before_next_turn_queue q q (rules.settle_empty x q s) (settle_empty_queue x q s)

-- ---- turn after turn

turns_within_alike : (q t r : List ℕ) (fair : Bool) → InOrderButHeld t r → queue_of t ≡ q → TookAs r (turns_within (length q) t r fair) (turns_from fair q (view t r))
unfolding turns_within after_turn turn_by turns_from rules.run_down_from rules.give_front view
turns_within_alike [] t r fair o e = record { alike = sym (ap (rules.give_front fair (view t r)) e); in_order = o }
turns_within_alike (x ∷ q) t r fair o e =
    subst (λ (u : ControlFlow (Option Took) (Unit {0}) × List ℕ). TookAs r (after_turn u (turns_within (length q) u.1 r fair)) (turns_from fair (x ∷ q) (view t r))) (sym (front_polled t r o fair x q e))
    (go (λ u p f. turns_within_alike q u r fair p f) (poll (new_ring x (capacity t)) r fair (lane_at t x)) refl)
  where
    h : FrontLane t x q
    h = front_lane_lem t r o x q e

    go : ((u : List ℕ) → InOrderButHeld u r → queue_of u ≡ q → TookAs r (turns_within (length q) u r fair) (turns_from fair q (view u r)))
        → (p : Result LanePoll EmptyLane) → poll (new_ring x (capacity t)) r fair (lane_at t x) ≡ p
        → TookAs r (after_turn (turn_by t p) (turns_within (length q) (turn_by t p).1 r fair)) (turns_from fair (x ∷ q) (view t r))
    go ih (Ok p) f =
        took_given t r o fair x q e p.item p.rotate p.lane (gives_by_poll t r o.stores x h.is_issued h.registered fair p.item p.rotate p.released p.lane f)
    go ih (Err found) f =
        let k = empties_by_poll t r o.stores x h.is_issued h.registered found fair f in
        subst (TookAs r (turns_within (length q) (meet_budget (settle_empty_front t found)) r fair)) (sym (turns_left t r o fair x q e found k))
        (ih (meet_budget (settle_empty_front t found)) (left_ordered t r o fair x q e found k) (left_rest t r o fair x q e found k))

-- the rules' run down and their front lane's item
pub turns_from_is : (fair : Bool) (s : State) → turns_from fair s.queue s ≡ (let u = rules.run_down s in rules.give_front fair u u.queue)
unfolding turns_from rules.run_down
turns_from_is fair s = refl

pub turns_alike : (t r : List ℕ) (fair : Bool) → InOrderButHeld t r → TookAs r (turns t r fair) (let s = rules.run_down (view t r) in rules.give_front fair s s.queue)
unfolding turns turns_from rules.run_down view
turns_alike t r fair o = subst (λ (n : ℕ). TookAs r (turns_within n t r fair) (turns_from fair (queue_of t) (view t r))) (length_queue t) (turns_within_alike (queue_of t) t r fair o refl)

pub no_length : (q : List ℕ) → length q ≡ 0 → q ≡ []
no_length [] z = refl
no_length (x ∷ q) z = absurd (omega arith)

-- a take that came to nothing has left an empty queue
pub rests_queue : (o : Option Took × List ℕ) → Rests o → o.0 ≡ None → queue_of o.1 ≡ []
rests_queue (Some took, u) k e = absurd cc
rests_queue (None, u) k e = no_length (queue_of u) (length_queue u ∙ k.none_queued)

pub turns_none_queued : (t r : List ℕ) (fair : Bool) → InOrderButHeld t r → (turns t r fair).0 ≡ None → queue_of (turns t r fair).1 ≡ []
turns_none_queued t r fair o = rests_queue (turns t r fair) (turns_rest t r fair (turning_of t r o))
