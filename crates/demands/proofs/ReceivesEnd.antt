-- A plain, fair or non-zero batch receive that is not refused hands out what was asked for, or leaves nothing queued and nothing ready: what follows its poll
-- loop, lanes retired and credit given back, queues and marks none.
-- Assumes nothing.
use mathlib.Core.Path.{◌≡◌, refl}
use mathlib.Core.Logic.{◌⊎◌, inl, inr}
use mathlib.Core.Bool.{Bool, true, false, not}
use mathlib.Core.List.{List, [], ◌∷◌}
use Prim.Native.Nat.{ℕ, zero, suc}
use native.Mathlib.Omega.{arith}
use lib.ListN.{length}
use lib.Dec.{leb}
use Rattle.model.specs.declared.LaneKey.{LaneKey}
use Rattle.model.specs.declared.ReceiveCall.TheVariants.{TryRecv, TryRecvFair, TryRecvFrom, TryRecvBatchInto, TryRecvBatchIntoWhile}
use Rattle.model.specs.declared.Answer.TheVariants.{Empty}
use Rattle.model.specs.Lists.{if, both, non_empty, from}
use Rattle.model.specs.State.{State, living_senders}
use Rattle.model.specs.Turn.{retire_lane, retire_lane_if}
use Rattle.model.specs.Outcome.{Outcome, says}
use Rattle.model.specs.Runs.{accepted}
use Rattle.model.specs.Receive.{retire_empty_paused_lanes, empty_or_drained, nothing_taken, answer_one, release_all, answer_items, try_recv, try_recv_fair, try_recv_batch_into, answer_while, try_recv_batch_into_while, receive_outcome}
use Rattle.model.specs.Rules.{outcome}
use Rattle.model.specs.Viewed.{rules_viewed}
use Rattle.model.specs.Stretch.{looks, says_stopped}
use Rattle.model.specs.PollLoop.{NothingLeft, TakesUnlessNothingLeft, PlainUnlessNothingLeft, FairUnlessNothingLeft, BatchUnlessNothingLeft}
use Rattle.model.specs.ReceivesEnd.{items_asked, EndsWithNothingLeft}
use Rattle.demands.proofs.Counting.{equal, other, same?, no}
use Rattle.demands.proofs.Moves.{unless_law}
use Rattle.demands.proofs.StopLaws.{while_law}
use Rattle.demands.proofs.PollLoop.{plain_unless_nothing_left, fair_unless_nothing_left, batch_unless_nothing_left}

-- ---- what keeps queue and marks

retire_lane_left : (b : Bool) (x : ℕ) (s : State) → NothingLeft s → NothingLeft (retire_lane_if b x s)
unfolding retire_lane_if retire_lane
retire_lane_left true x s n = record {
  none_queued = n.none_queued;
  none_ready = λ y. elim (same? x y) [ equal p e i ↦ rw e (n.none_ready x) | other d e i ↦ rw e (n.none_ready y) ];
}
retire_lane_left false x s n = n

retire_empty_paused_left : (xs : List ℕ) (s : State) → NothingLeft s → NothingLeft (retire_empty_paused_lanes xs s)
unfolding retire_empty_paused_lanes
retire_empty_paused_left [] s n = n
retire_empty_paused_left (x ∷ xs) s n =
    retire_empty_paused_left xs _ (retire_lane_left (both (s.slot_of x).registered (both (s.slot_of x).paused (not (non_empty (s.slot_of x).ring)))) x s n)

release_all_left : (s : State) → NothingLeft s → NothingLeft (release_all s)
unfolding release_all
release_all_left s n = record { none_queued = n.none_queued; none_ready = n.none_ready }

nothing_taken_left : (s : State) → NothingLeft s → NothingLeft (nothing_taken s).1.1
unfolding nothing_taken empty_or_drained
nothing_taken_left s n = go (leb 1 (living_senders s))
  where
    go : (b : Bool) → NothingLeft (if b (says Empty s) (empty_or_drained (retire_empty_paused_lanes (from 0 s.issued) s))).1.1
    go true = n
    go false = retire_empty_paused_left (from 0 s.issued) s n

-- ---- the calls

-- an outcome with n items, or with nothing left
Ends : ℕ → Outcome → Type 0
Ends n o = accepted o.1.0 ≡ true → (length o.0 ≡ n) ⊎ NothingLeft o.1.1

one_ends : (l : List (LaneKey × ℕ)) (s : State) → TakesUnlessNothingLeft 1 (l, s) → Ends 1 (answer_one l s)
unfolding Ends answer_one TakesUnlessNothingLeft
one_ends [] s (inl h) a = absurd (omega (arith, h))
one_ends [] s (inr n) a = inr (nothing_taken_left s n)
one_ends (g ∷ l) s h a = inl refl

items_end : (m : ℕ) (l : List (LaneKey × ℕ)) (s : State) → TakesUnlessNothingLeft (suc m) (l, s) → Ends (suc m) (answer_items (suc m) l (release_all s))
unfolding Ends answer_items TakesUnlessNothingLeft
items_end m [] s (inl h) a = absurd (omega (arith, h))
items_end m [] s (inr n) a = inr (nothing_taken_left (release_all s) (release_all_left s n))
items_end m (g ∷ l) s (inl h) a = inl h
items_end m (g ∷ l) s (inr n) a = inr (release_all_left s n)

pub ends_with_nothing_left : EndsWithNothingLeft rules_viewed
unfolding EndsWithNothingLeft PlainUnlessNothingLeft FairUnlessNothingLeft BatchUnlessNothingLeft Ends items_asked outcome receive_outcome try_recv try_recv_fair try_recv_batch_into try_recv_batch_into_while answer_while accepted looks says_stopped
ends_with_nothing_left s TryRecv h =
    inl (unless_law (Ends 1) _ s _ (λ n a. absurd (no a refl)) (λ p. one_ends _ _ (plain_unless_nothing_left s h.in_order)) h.not_refused)
ends_with_nothing_left s TryRecvFair h =
    inl (unless_law (Ends 1) _ s _ (λ n a. absurd (no a refl)) (λ p. one_ends _ _ (fair_unless_nothing_left s h.in_order)) h.not_refused)
ends_with_nothing_left s (TryRecvFrom i) h = absurd (no h.untargeted refl)
ends_with_nothing_left s (TryRecvBatchInto zero room) h = absurd (no h.untargeted refl)
ends_with_nothing_left s (TryRecvBatchInto (suc m) room) h =
    inl (unless_law (Ends (suc m)) _ s _ (λ n a. absurd (no a refl)) (λ p. items_end m _ _ (batch_unless_nothing_left (suc m) s h.in_order)) h.not_refused)
ends_with_nothing_left s (TryRecvBatchIntoWhile zero bound room) h = absurd (no h.untargeted refl)
ends_with_nothing_left s (TryRecvBatchIntoWhile (suc m) bound room) h =
    unless_law EndsOrStops _ s _ (λ n a. absurd (no a refl))
    (λ p. while_law (λ t es. EndsOrStops (answer_while (suc m) t.0 t.1.0 (release_all t.1.1))) bound (suc m) s
    (λ all a. inl (items_end m _ _ (batch_unless_nothing_left (suc m) s h.in_order) a)) (λ k w a. inr refl)) h.not_refused
  where
    EndsOrStops : Outcome → Type 0
    EndsOrStops o = accepted o.1.0 ≡ true → ((length o.0 ≡ suc m) ⊎ NothingLeft o.1.1) ⊎ (says_stopped o.1.0 ≡ true)
