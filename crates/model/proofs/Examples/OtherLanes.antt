-- Demand 3's "items of other lanes", on what can happen in a stretch of lane 1.
-- Assumes nothing.
use Rattle.std.specs.Prelude.{refl, true, false, [], ◌∷◌, ℕ}
use Rattle.model.specs.declared.LaneKey.{LaneKey}
use Rattle.model.specs.declared.ReceiveCall.TheVariants.{TryRecv, TryRecvFair, TryRecvFrom, TryRecvBatchInto, TryRecvBatchIntoWhile}
use Rattle.model.specs.declared.Call.TheVariants.{Receive}
use Rattle.model.specs.declared.Answer.TheVariants.{Item, Empty}
use Rattle.model.specs.Runs.{gives, ends, same_key}
use Rattle.model.specs.Stretch.{untargeted, of_other_lane, untargeted_of_other}
use Rattle.model.specs.Examples.Pairs.{Reads}

-- the lane of slot x, of generation g
lane : ℕ → ℕ → LaneKey
lane x g = record { slot = x; generation = g }

compute_others : Unit {0}
unfolding lane same_key untargeted of_other_lane untargeted_of_other
compute_others = tt

-- of another lane: of another slot, or of the same slot and another generation
of_other_read :
    Reads (of_other_lane (lane 1 0))
    ((gives TryRecv (lane 0 0) 5, true)
    ∷ (gives TryRecv (lane 1 1) 5, true)
    ∷ (gives TryRecv (lane 1 0) 5, false)
    ∷ (gives (TryRecvFrom record { channel = record { id = 7; opening = 0 }; key = lane 0 0 }) (lane 0 0) 5, true)
    ∷ (ends (Receive TryRecv) (Item 5 record { channel = record { id = 7; opening = 0 }; key = lane 0 0 }), false)
    ∷ (ends (Receive TryRecv) Empty, false)
    ∷ [])
unfolding compute_others
of_other_read = refl

-- and handed out by an untargeted receive
untargeted_of_other_read :
    Reads (untargeted_of_other (lane 1 0))
    ((gives TryRecv (lane 0 0) 5, true)
    ∷ (gives TryRecvFair (lane 0 0) 5, true)
    ∷ (gives (TryRecvBatchInto 3 3) (lane 0 0) 5, true)
    ∷ (gives (TryRecvBatchIntoWhile 3 5 3) (lane 0 0) 5, true)
    ∷ (gives (TryRecvFrom record { channel = record { id = 7; opening = 0 }; key = lane 0 0 }) (lane 0 0) 5, false)
    ∷ (gives TryRecv (lane 1 1) 5, true)
    ∷ (gives TryRecv (lane 1 0) 5, false)
    ∷ (gives TryRecvFair (lane 1 0) 5, false)
    ∷ (ends (Receive TryRecv) (Item 5 record { channel = record { id = 7; opening = 0 }; key = lane 0 0 }), false)
    ∷ [])
unfolding compute_others
untargeted_of_other_read = refl
