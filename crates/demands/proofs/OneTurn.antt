-- In every run a lane gives at most 64 items to untargeted receives between two ends of its turn.
-- Assumes nothing.
use mathlib.Core.Path.{◌≡◌, refl}
use Prim.Native.Nat.{◌+◌}
use Rattle.model.specs.declared.LaneKey.{LaneKey}
use Rattle.model.specs.Lists.{if}
use Rattle.model.specs.Events.{Event, budget_set, collected, none_marked, found_empty, item_taken, went_to_back, takes_item_of}
use Rattle.model.specs.Viewed.{rules_viewed}
use Rattle.model.specs.OneTurn.{ends_turn_of, AtMost64InOneTurn}
use Rattle.demands.proofs.Events.{Tally, next}
use Rattle.demands.proofs.EventsOfRuns.{zeros, run_pass, part_most}

reads : (k : LaneKey) (T : Tally) (e : Event) → (next k T e).in_turn ≡ if (ends_turn_of k e) 0 (if (takes_item_of k e) (T.in_turn + 1) T.in_turn)
unfolding next ends_turn_of takes_item_of
reads k T budget_set = refl
reads k T collected = refl
reads k T none_marked = refl
reads k T (found_empty j) = refl
reads k T (item_taken j) = refl
reads k T (went_to_back j) = refl

pub at_most_64_in_one_turn : AtMost64InOneTurn rules_viewed
unfolding AtMost64InOneTurn
at_most_64_in_one_turn o lent a calls any before part rest e k z =
    part_most k (takes_item_of k) (ends_turn_of k) (λ T. T.in_turn) (reads k) (λ T s. s.turn_small) zeros before part rest
    (rw e at (run_pass k o lent a calls).below) z
