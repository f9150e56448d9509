-- Document 02, N2: the batch that stops in front of an item above its bound, in runs. Rows of the table of examples.
-- Assumes nothing.
use Rattle.std.specs.Prelude.{true, false, List, [], ◌∷◌}
use Rattle.model.specs.declared.ReceiveCall.TheVariants.{TryRecvBatchIntoWhile}
use Rattle.model.specs.declared.ControlCall.TheVariants.{CloseReceiver}
use Rattle.model.specs.declared.Call.TheVariants.{Receive, Control}
use Rattle.model.specs.declared.Refusal.TheVariants.{ReceiverClosed, Full, OutputShort, NoSuchLane}
use Rattle.model.specs.declared.Answer.TheVariants.{Done, Taken, Items, Stopped, Empty, Disconnected, Refused}
use Rattle.model.specs.Examples.Example.{Example, registers, sends, drops, plain, batch_while, pauses, resumes, lane, gave}

unfoldable pub stops : List Example
stops =
    -- "an item is admitted if it is at most a bound given with the call": 1 of 1, 9, 2, and then 5 of 5, 6, with bound 5
    record {
      capacity = 4;
      slots = 1;
      generation = 0;
      budget = 59;
      said = (1, registers, lane 0 0)
          ∷ (1, sends 0 1, Taken true 3)
          ∷ (1, sends 0 9, Taken false 2)
          ∷ (1, sends 0 2, Taken false 1)
          ∷ (1, batch_while 4 5, Stopped 1)
          ∷ (1, plain, gave 9 0)
          ∷ (1, batch_while 4 5, Items 1)
          ∷ (1, sends 0 5, Taken true 3)
          ∷ (1, sends 0 6, Taken false 2)
          ∷ (1, batch_while 2 5, Stopped 1)
          ∷ (1, plain, gave 6 0)
          ∷ [];
    }
    -- "below its limit it stops"; "A stop at count 0 is never Empty."
    ∷ record {
      capacity = 4;
      slots = 1;
      generation = 0;
      budget = 63;
      said = (1, registers, lane 0 0)
          ∷ (1, sends 0 1, Taken true 3)
          ∷ (1, sends 0 9, Taken false 2)
          ∷ (1, batch_while 1 5, Items 1)
          ∷ (1, batch_while 1 5, Stopped 0)
          ∷ (1, batch_while 0 5, Items 0)
          ∷ [];
    }
    -- "after any collection due there": lane 1 is collected at the stop, before lane 2 is resumed
    ∷ record {
      capacity = 128;
      slots = 3;
      generation = 0;
      budget = 61;
      said = (1, registers, lane 0 0)
          ∷ (1, registers, lane 1 0)
          ∷ (1, registers, lane 2 0)
          ∷ (1, sends 2 20, Taken true 127)
          ∷ (1, pauses 2, Done)
          ∷ (1, sends 0 5, Taken true 127)
          ∷ (63, sends 0 5, Taken false 126)
          ∷ (1, sends 0 99, Taken false 63)
          ∷ (1, plain, gave 5 0)
          ∷ (1, sends 1 10, Taken true 127)
          ∷ (1, batch_while 64 50, Stopped 63)
          ∷ (1, resumes 2, Done)
          ∷ (1, plain, gave 99 0)
          ∷ (1, plain, gave 10 1)
          ∷ (1, plain, gave 20 2)
          ∷ [];
    }
    -- a budget that is still 0 at the stop, since nothing was queued, is 64 afterwards: lane 2 is not collected before lane 0 is resumed
    ∷ record {
      capacity = 64;
      slots = 3;
      generation = 0;
      budget = 61;
      said = (1, registers, lane 0 0)
          ∷ (1, registers, lane 1 0)
          ∷ (1, registers, lane 2 0)
          ∷ (1, sends 0 5, Taken true 63)
          ∷ (63, sends 0 5, Taken false 62)
          ∷ (64, plain, gave 5 0)
          ∷ (1, pauses 0, Done)
          ∷ (1, sends 0 8, Taken false 63)
          ∷ (1, sends 1 99, Taken true 63)
          ∷ (1, batch_while 1 50, Stopped 0)
          ∷ (1, sends 2 7, Taken true 63)
          ∷ (1, plain, gave 99 1)
          ∷ (1, resumes 0, Done)
          ∷ (1, plain, gave 8 0)
          ∷ (1, plain, gave 7 2)
          ∷ [];
    }
    -- "in the lane whose turn it is, which stays in front with its burst": 40 items of lane 0 before the stop and 24 after it
    ∷ record {
      capacity = 128;
      slots = 2;
      generation = 0;
      budget = 63;
      said = (1, registers, lane 0 0)
          ∷ (1, registers, lane 1 0)
          ∷ (1, sends 0 5, Taken true 127)
          ∷ (39, sends 0 5, Taken false 126)
          ∷ (1, sends 0 99, Taken false 87)
          ∷ (40, sends 0 5, Taken false 86)
          ∷ (1, sends 1 6, Taken true 127)
          ∷ (1, batch_while 64 50, Stopped 40)
          ∷ (1, plain, gave 99 0)
          ∷ (23, plain, gave 5 0)
          ∷ (1, plain, gave 6 1)
          ∷ [];
    }
    -- and so do the other lanes: lane 0, paused after 10 items, has 54 left of its burst when the stop is in lane 1
    ∷ record {
      capacity = 128;
      slots = 3;
      generation = 0;
      budget = 56;
      said = (1, registers, lane 0 0)
          ∷ (1, registers, lane 1 0)
          ∷ (1, registers, lane 2 0)
          ∷ (1, sends 0 5, Taken true 127)
          ∷ (69, sends 0 5, Taken false 126)
          ∷ (10, plain, gave 5 0)
          ∷ (1, pauses 0, Done)
          ∷ (1, sends 1 99, Taken true 127)
          ∷ (1, batch_while 1 50, Stopped 0)
          ∷ (1, resumes 0, Done)
          ∷ (1, sends 2 6, Taken true 127)
          ∷ (1, plain, gave 99 1)
          ∷ (54, plain, gave 5 0)
          ∷ (1, plain, gave 6 2)
          ∷ (6, plain, gave 5 0)
          ∷ [];
    }
    -- a lane that reached a burst of 64 with the last item has gone to the back, and the stop is in the next
    ∷ record {
      capacity = 128;
      slots = 2;
      generation = 0;
      budget = 62;
      said = (1, registers, lane 0 0)
          ∷ (1, registers, lane 1 0)
          ∷ (1, sends 0 5, Taken true 127)
          ∷ (64, sends 0 5, Taken false 126)
          ∷ (1, sends 1 99, Taken true 127)
          ∷ (1, batch_while 70 50, Stopped 64)
          ∷ (1, plain, gave 99 1)
          ∷ (1, plain, gave 5 0)
          ∷ [];
    }
    -- no sender lives, and it stops: an empty paused lane is not retired by it; then the item, and Disconnected
    ∷ record {
      capacity = 4;
      slots = 2;
      generation = 0;
      budget = 63;
      said = (1, registers, lane 0 0)
          ∷ (1, registers, lane 1 0)
          ∷ (1, sends 1 9, Taken true 3)
          ∷ (1, pauses 0, Done)
          ∷ (1, drops 0, Done)
          ∷ (1, drops 1, Done)
          ∷ (1, batch_while 4 5, Stopped 0)
          ∷ (1, pauses 0, Done)
          ∷ (1, plain, gave 9 1)
          ∷ (1, batch_while 4 5, Disconnected)
          ∷ [];
    }
    -- so too where it stops after an item
    ∷ record {
      capacity = 4;
      slots = 2;
      generation = 0;
      budget = 63;
      said = (1, registers, lane 0 0)
          ∷ (1, registers, lane 1 0)
          ∷ (1, sends 1 1, Taken true 3)
          ∷ (1, sends 1 9, Taken false 2)
          ∷ (1, pauses 0, Done)
          ∷ (1, drops 0, Done)
          ∷ (1, drops 1, Done)
          ∷ (1, batch_while 4 5, Stopped 1)
          ∷ (1, pauses 0, Done)
          ∷ [];
    }
    -- an unpaused lane that is found empty on the way, its sender dropped, is retired though the batch stops at count 0
    ∷ record {
      capacity = 4;
      slots = 2;
      generation = 0;
      budget = 63;
      said = (1, registers, lane 0 0)
          ∷ (1, registers, lane 1 0)
          ∷ (1, sends 0 1, Taken true 3)
          ∷ (1, plain, gave 1 0)
          ∷ (1, drops 0, Done)
          ∷ (1, sends 1 9, Taken true 3)
          ∷ (1, batch_while 4 5, Stopped 0)
          ∷ (1, pauses 0, Refused NoSuchLane)
          ∷ [];
    }
    -- "Credit and refusals are as in the plain batch.": three sends are taken after it, and no fourth; 14 by the limit, and 6 before it
    ∷ record {
      capacity = 4;
      slots = 1;
      generation = 0;
      budget = 61;
      said = (1, registers, lane 0 0)
          ∷ (1, sends 0 1, Taken true 3)
          ∷ (1, sends 0 2, Taken false 2)
          ∷ (1, sends 0 3, Taken false 1)
          ∷ (1, sends 0 9, Taken false 0)
          ∷ (1, batch_while 4 5, Stopped 3)
          ∷ (3, sends 0 4, Taken false 2)
          ∷ (1, sends 0 4, Refused Full)
          ∷ (1, Receive (TryRecvBatchIntoWhile 65 0 64), Refused OutputShort)
          ∷ (1, Control CloseReceiver, Done)
          ∷ (1, Receive (TryRecvBatchIntoWhile 65 0 64), Refused ReceiverClosed)
          ∷ [];
    }
    -- before a registration, and with a lane that holds nothing
    ∷ record {
      capacity = 4;
      slots = 1;
      generation = 0;
      budget = 64;
      said = (1, batch_while 1 5, Disconnected)
          ∷ (1, batch_while 0 5, Items 0)
          ∷ (1, registers, lane 0 0)
          ∷ (1, batch_while 1 5, Empty)
          ∷ [];
    }
    ∷ []
