-- The held count by the calls and their answers, computed on one run.
-- Assumes nothing.
use Rattle.std.specs.Prelude.{◌≡◌, refl, true, false, List, [], ◌∷◌, ◌++◌, map, ℕ}
use Rattle.model.specs.declared.SenderCall.TheVariants.{TrySend, TrySendUnsignaled}
use Rattle.model.specs.declared.ReceiveCall.TheVariants.{TryRecv}
use Rattle.model.specs.declared.ControlCall.TheVariants.{Pause, CloseLane}
use Rattle.model.specs.declared.Call.TheVariants.{Sender, Control}
use Rattle.model.specs.declared.Refusal.TheVariants.{Full}
use Rattle.model.specs.declared.Answer.TheVariants.{Done, Taken, Refused}
use Rattle.model.specs.Runs.{accepted, Tick, gives, ends, same_key}
use Rattle.model.specs.Ledger.{at_opening, change_lane, add_item, remove_oldest, set_paused, set_closed, add_registered, apply_call, note, ledger_after}
use Rattle.model.specs.Held.{held_by, held_by_lanes}
use Rattle.model.proofs.Examples.Stretch.{lane, lane_id, registered}

sent : ℕ → Tick
sent x = ends (Sender (TrySend (lane x) 5)) (Taken true 3)

-- the held count after all that happened
counted : List Tick → ℕ
counted ts = held_by_lanes (ledger_after at_opening ts).lanes

-- of each part of a run from its beginning
counted_along : List Tick → List Tick → List ℕ
counted_along before [] = []
counted_along before (t ∷ ts) = let now = before ++ (t ∷ []) in counted now ∷ counted_along now ts

-- "the number of items in rings of registered lanes, paused ones too": what happens, and the count after it. Lane 0 is sent two items in the two ways, is
-- refused a third and gives one; lane 1 is sent one and paused; lane 2 is sent two and closed, and its two count no more.
run : List (Tick × ℕ)
run =
    (registered 0, 0)
    ∷ (registered 1, 0)
    ∷ (registered 2, 0)
    ∷ (sent 0, 1)
    ∷ (ends (Sender (TrySendUnsignaled (lane 0) 6)) (Taken false 3), 2)
    ∷ (ends (Sender (TrySend (lane 0) 7)) (Refused Full), 2)
    ∷ (gives TryRecv (lane 0) 5, 1)
    ∷ (sent 1, 2)
    ∷ (ends (Control (Pause (lane_id 1))) Done, 2)
    ∷ (sent 2, 3)
    ∷ (sent 2, 4)
    ∷ (ends (Control (CloseLane (lane_id 2))) Done, 2)
    ∷ []

held_counted : counted_along [] (map (λ p. p.0) run) ≡ map (λ p. p.1) run
unfolding lane lane_id registered sent run counted counted_along accepted same_key at_opening change_lane add_item remove_oldest set_paused set_closed add_registered apply_call note ledger_after held_by held_by_lanes
held_counted = refl
