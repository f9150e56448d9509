-- The records of document 01's example of the replay program as bytes, and a record of each kind.
-- Assumes nothing.
use Rattle.std.specs.Prelude.{List, [], ◌∷◌, ◌++◌, ℕ}
use Rattle.model.specs.declared.LaneKey.{LaneKey}
use Rattle.model.specs.declared.LaneId.{LaneId}
use Rattle.model.specs.declared.SenderCall.TheVariants.{RegisterSender, TrySend, TrySendUnsignaled, DropSender}
use Rattle.model.specs.declared.ReceiveCall.TheVariants.{TryRecv, TryRecvFair, TryRecvFrom, TryRecvBatchInto, TryRecvBatchIntoWhile}
use Rattle.model.specs.declared.ControlCall.TheVariants.{Pause, Resume, CloseLane, ReleaseConsumed, PollAllLanes, CloseReceiver, CountHeld}
use Rattle.model.specs.declared.Call.TheVariants.{Sender, Receive, Control}
use Rattle.wire_record.specs.declared.record.Record.{Record}
use Rattle.wire_record.specs.declared.record.Record.TheVariants.{Open, Call}

-- a number below 256 as a field
abbrev pub u64 : ℕ → List ℕ
u64 n = n ∷ 0 ∷ 0 ∷ 0 ∷ 0 ∷ 0 ∷ 0 ∷ 0 ∷ []

-- "Receive is hex 02 00 05 00."
abbrev pub receive : List ℕ
receive = 2 ∷ 0 ∷ 5 ∷ 0 ∷ []

-- "Input [..]; 1 (2); 2 (0, 0, 11); 5; 5; 4 (0, 0); 5"; document 02, N7: it "begins with 0 (4, 2, 7, 0, 0, 0)"
abbrev pub seven_bytes : List ℕ
seven_bytes =
    (50 ∷ 0 ∷ 0 ∷ 0 ∷ []) ++ u64 4 ++ u64 2 ++ u64 7 ++ u64 0 ++ u64 0 ++ u64 0
    ++ (10 ∷ 0 ∷ 1 ∷ 0 ∷ []) ++ u64 2
    ++ (26 ∷ 0 ∷ 2 ∷ 0 ∷ []) ++ u64 0 ++ u64 0 ++ u64 11
    ++ receive ++ receive
    ++ (18 ∷ 0 ∷ 4 ∷ 0 ∷ []) ++ u64 0 ++ u64 0
    ++ receive

abbrev pub seven_records : List Record
seven_records =
    Open (record { capacity = 4; slots = 2; channel = 7; cursor = 0; generation = 0; number = 0 })
    ∷ Call (Sender (RegisterSender 2))
    ∷ Call (Sender (TrySend (record { slot = 0; generation = 0 }) 11))
    ∷ Call (Receive TryRecv)
    ∷ Call (Receive TryRecv)
    ∷ Call (Sender (DropSender (record { slot = 0; generation = 0 })))
    ∷ Call (Receive TryRecv)
    ∷ []

-- a record of each kind in turn, 0 to 16, each field another number where there are several: "0 open (capacity, S, channel, cursor, generation), 1 register (most), 2 send, 3 unsignalled (slot, generation, item), [..]", with "the number as a last field" of kinds 0, 7, 9, 10 and 11
abbrev pub each_kind_bytes : List ℕ
each_kind_bytes =
    (50 ∷ 0 ∷ 0 ∷ 0 ∷ []) ++ u64 4 ++ u64 2 ++ u64 7 ++ u64 9 ++ u64 3 ++ u64 8
    ++ (10 ∷ 0 ∷ 1 ∷ 0 ∷ []) ++ u64 5
    ++ (26 ∷ 0 ∷ 2 ∷ 0 ∷ []) ++ u64 1 ++ u64 3 ++ u64 11
    ++ (26 ∷ 0 ∷ 3 ∷ 0 ∷ []) ++ u64 1 ++ u64 3 ++ u64 12
    ++ (18 ∷ 0 ∷ 4 ∷ 0 ∷ []) ++ u64 1 ++ u64 3
    ++ (2 ∷ 0 ∷ 5 ∷ 0 ∷ [])
    ++ (2 ∷ 0 ∷ 6 ∷ 0 ∷ [])
    ++ (34 ∷ 0 ∷ 7 ∷ 0 ∷ []) ++ u64 7 ++ u64 1 ++ u64 3 ++ u64 8
    ++ (10 ∷ 0 ∷ 8 ∷ 0 ∷ []) ++ u64 6
    ++ (34 ∷ 0 ∷ 9 ∷ 0 ∷ []) ++ u64 7 ++ u64 1 ++ u64 3 ++ u64 8
    ++ (34 ∷ 0 ∷ 10 ∷ 0 ∷ []) ++ u64 7 ++ u64 1 ++ u64 3 ++ u64 8
    ++ (34 ∷ 0 ∷ 11 ∷ 0 ∷ []) ++ u64 7 ++ u64 1 ++ u64 3 ++ u64 8
    ++ (2 ∷ 0 ∷ 12 ∷ 0 ∷ [])
    ++ (2 ∷ 0 ∷ 13 ∷ 0 ∷ [])
    ++ (2 ∷ 0 ∷ 14 ∷ 0 ∷ [])
    ++ (2 ∷ 0 ∷ 15 ∷ 0 ∷ [])
    ++ (18 ∷ 0 ∷ 16 ∷ 0 ∷ []) ++ u64 4 ++ u64 5

abbrev pub each_kind_records : List Record
each_kind_records =
    Open (record { capacity = 4; slots = 2; channel = 7; cursor = 9; generation = 3; number = 8 })
    ∷ Call (Sender (RegisterSender 5))
    ∷ Call (Sender (TrySend lane 11))
    ∷ Call (Sender (TrySendUnsignaled lane 12))
    ∷ Call (Sender (DropSender lane))
    ∷ Call (Receive TryRecv)
    ∷ Call (Receive TryRecvFair)
    ∷ Call (Receive (TryRecvFrom lane_id))
    ∷ Call (Receive (TryRecvBatchInto 6 64))
    ∷ Call (Control (Pause lane_id))
    ∷ Call (Control (Resume lane_id))
    ∷ Call (Control (CloseLane lane_id))
    ∷ Call (Control ReleaseConsumed)
    ∷ Call (Control PollAllLanes)
    ∷ Call (Control CloseReceiver)
    ∷ Call (Control CountHeld)
    ∷ Call (Receive (TryRecvBatchIntoWhile 4 5 64))
    ∷ []
  where
    lane : LaneKey
    lane = record { slot = 1; generation = 3 }

    lane_id : LaneId
    lane_id = record { channel = record { id = 7; opening = 8 }; key = lane }
