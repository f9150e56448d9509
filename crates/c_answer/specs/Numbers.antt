-- A lane's key and its id, of the numbers that C gives.
-- Assumes nothing.
use Rattle.std.specs.Prelude.{ℕ}
use Rattle.model.specs.declared.LaneKey.{LaneKey}
use Rattle.model.specs.declared.LaneId.{LaneId}

abbrev pub lane_key : ℕ → ℕ → LaneKey
lane_key slot generation = record { slot = slot; generation = generation }

abbrev pub lane_id : ℕ → ℕ → ℕ → ℕ → LaneId
lane_id channel slot generation opening = record { channel = record { id = channel; opening = opening }; key = lane_key slot generation }
