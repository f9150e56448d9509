-- What every change of a receive's answer keeps, the receive keeps after its items: lanes that retire, and credit that goes back.
-- Assumes nothing.
use mathlib.Core.Bool.{Bool, true, false}
use mathlib.Core.List.{List, [], ◌∷◌}
use Prim.Native.Nat.{ℕ, zero, suc}
use lib.Dec.{leb}
use Rattle.model.specs.declared.LaneKey.{LaneKey}
use Rattle.model.specs.declared.Answer.TheVariants.{Empty}
use Rattle.model.specs.Lists.{if, from}
use Rattle.model.specs.State.{State, living_senders}
use Rattle.model.specs.Turn.{retire_lane_if}
use Rattle.model.specs.Outcome.{says}
use Rattle.model.specs.Receive.{retire_empty_paused_lanes, empty_or_drained, nothing_taken, answer_one, release_all, answer_items}

-- `Keeps s u`: what is to be kept of s is kept in u
module _ (Keeps : State → State → Type 0) (same : (s : State) → Keeps s s) (then : (s t u : State) → Keeps s t → Keeps t u → Keeps s u)
    (retires : (b : Bool) (x : ℕ) (s : State) → Keeps s (retire_lane_if b x s)) (releases : (s : State) → Keeps s (release_all s)) where
  retire_empty_paused_keeps : (xs : List ℕ) (s : State) → Keeps s (retire_empty_paused_lanes xs s)
  unfolding retire_empty_paused_lanes
  retire_empty_paused_keeps [] s = same s
  retire_empty_paused_keeps (x ∷ xs) s = then s _ _ (retires _ x s) (retire_empty_paused_keeps xs _)

  nothing_taken_keeps : (s : State) → Keeps s (nothing_taken s).1.1
  unfolding nothing_taken empty_or_drained
  nothing_taken_keeps s = go (leb 1 (living_senders s))
    where
      go : (b : Bool) → Keeps s (if b (says Empty s) (empty_or_drained (retire_empty_paused_lanes (from 0 s.issued) s))).1.1
      go true = same s
      go false = retire_empty_paused_keeps (from 0 s.issued) s

  pub answer_one_keeps : (l : List (LaneKey × ℕ)) (s : State) → Keeps s (answer_one l s).1.1
  unfolding answer_one
  answer_one_keeps [] s = nothing_taken_keeps s
  answer_one_keeps (g ∷ l) s = same s

  pub answer_items_keeps : (m : ℕ) (l : List (LaneKey × ℕ)) (s : State) → Keeps s (answer_items m l (release_all s)).1.1
  unfolding answer_items
  answer_items_keeps zero l s = releases s
  answer_items_keeps (suc m) [] s = then s (release_all s) _ (releases s) (nothing_taken_keeps (release_all s))
  answer_items_keeps (suc m) (g ∷ l) s = releases s
