-- The numbers of each call, which `CallFits` asks to be u64s, computed.
-- Assumes nothing.
use Rattle.std.specs.Prelude.{refl, [], ◌∷◌}
use Rattle.model.specs.declared.LaneKey.{LaneKey}
use Rattle.model.specs.declared.LaneId.{LaneId}
use Rattle.model.specs.declared.SenderCall.TheVariants.{RegisterSender, TrySend, TrySendUnsignaled, DropSender}
use Rattle.model.specs.declared.ReceiveCall.TheVariants.{TryRecv, TryRecvFair, TryRecvFrom, TryRecvBatchInto, TryRecvBatchIntoWhile}
use Rattle.model.specs.declared.ControlCall.TheVariants.{Pause, Resume, CloseLane, ReleaseConsumed, PollAllLanes, CloseReceiver, CountHeld}
use Rattle.model.specs.declared.Call.TheVariants.{Sender, Receive, Control}
use Rattle.model.specs.Simulation.{numbers_of_id, numbers_of_call}
use Rattle.model.specs.Examples.Pairs.{Reads}

key : LaneKey
key = record { slot = 1; generation = 2 }

id : LaneId
id = record { channel = record { id = 7; opening = 8 }; key = key }

-- as the records have them: "1 register (most), 2 send, 3 unsignalled (slot, generation, item), 4 drop (slot, generation)" and on
numbers_read :
    Reads numbers_of_call
    ((Sender (RegisterSender 9), 9 ∷ [])
    ∷ (Sender (TrySend key 5), 1 ∷ 2 ∷ 5 ∷ [])
    ∷ (Sender (TrySendUnsignaled key 5), 1 ∷ 2 ∷ 5 ∷ [])
    ∷ (Sender (DropSender key), 1 ∷ 2 ∷ [])
    ∷ (Receive TryRecv, [])
    ∷ (Receive TryRecvFair, [])
    ∷ (Receive (TryRecvFrom id), 7 ∷ 1 ∷ 2 ∷ 8 ∷ [])
    ∷ (Receive (TryRecvBatchInto 3 64), 3 ∷ 64 ∷ [])
    ∷ (Receive (TryRecvBatchIntoWhile 3 5 64), 3 ∷ 5 ∷ 64 ∷ [])
    ∷ (Control (Pause id), 7 ∷ 1 ∷ 2 ∷ 8 ∷ [])
    ∷ (Control (Resume id), 7 ∷ 1 ∷ 2 ∷ 8 ∷ [])
    ∷ (Control (CloseLane id), 7 ∷ 1 ∷ 2 ∷ 8 ∷ [])
    ∷ (Control ReleaseConsumed, [])
    ∷ (Control PollAllLanes, [])
    ∷ (Control CloseReceiver, [])
    ∷ (Control CountHeld, [])
    ∷ [])
unfolding key id numbers_of_id numbers_of_call
numbers_read = refl
