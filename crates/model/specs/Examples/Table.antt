-- Document 01's examples about runs, those marked P and more, and document 02's of the batch that stops, in one table.
-- Assumes nothing.
use Rattle.std.specs.Prelude.{true, false, List, [], ◌∷◌, ℕ, ◌+◌, ◌-◌}
use Rattle.model.specs.declared.SenderCall.TheVariants.{RegisterSender, TrySend, DropSender}
use Rattle.model.specs.declared.ReceiveCall.TheVariants.{TryRecvFrom}
use Rattle.model.specs.declared.ControlCall.TheVariants.{Pause, Resume, CloseLane, ReleaseConsumed, CloseReceiver}
use Rattle.model.specs.declared.Call.TheVariants.{Sender, Receive, Control}
use Rattle.model.specs.declared.Refusal.TheVariants.{ReceiverClosed, AtCapacity, NoFreeSlot, OlderSenderLives, NoSuchSender, LaneClosed, Full, OutputShort, NoSuchLane}
use Rattle.model.specs.declared.Answer.TheVariants.{Done, Taken, Items, Empty, Disconnected, Held, Refused}
use Rattle.model.specs.Examples.Stops.{stops}
use Rattle.model.specs.Examples.Example.{Example, key_at, id_on, id_at, registers, sends, sends_unsignalled, drops, plain, fair, batch, targeted, pauses, resumes, closes, polls_all, held, lane, gave}

-- The release batch of a ring of C places, as calls show it. `sent` items are sent and `taken` of them received, fewer than the batch has. Then, and where
-- one receive is left to the batch, the ring has room as if nothing had been received. After that receive it has room for as many items as the batch has.
unfoldable pub credit_after : ℕ → ℕ → ℕ → ℕ → ℕ → ℕ → Example
credit_after capacity C batch sent taken budget = record {
  capacity = capacity;
  slots = 1;
  generation = 0;
  budget = budget;
  said = (1, registers, lane 0 0)
      ∷ (1, sends 0 5, Taken true (C - 1))
      ∷ (sent - 1, sends 0 5, Taken false (C - 2))
      ∷ (taken, plain, gave 5 0)
      ∷ (C - sent, sends 0 5, Taken false (C - (sent + 1)))
      ∷ (1, sends 0 5, Refused Full)
      ∷ (batch - 1 - taken, plain, gave 5 0)
      ∷ (1, sends 0 5, Refused Full)
      ∷ (1, plain, gave 5 0)
      ∷ (batch, sends 0 5, Taken false (batch - 1))
      ∷ (1, sends 0 5, Refused Full)
      ∷ [];
}

unfoldable pub table : List Example
table =
    -- "P Capacity 1: batch 1. P 2: 2. P 64: 64. P 100: C 128, batch 64. P 256: 128."
    credit_after 1 1 1 1 0 63
    ∷ credit_after 2 2 2 1 1 62
    ∷ credit_after 64 64 64 10 10 0
    ∷ credit_after 100 128 64 100 5 0
    ∷ credit_after 256 256 128 256 0 0
    -- "P C 4, sends 1 to 4: taken; 5: refusal 11. After one to three plain receives still 11; after the fourth, taken."
    ∷ record {
      capacity = 4;
      slots = 2;
      generation = 0;
      budget = 60;
      said = (1, registers, lane 0 0)
          ∷ (1, sends 0 1, Taken true 3)
          ∷ (1, sends 0 2, Taken false 2)
          ∷ (1, sends 0 3, Taken false 1)
          ∷ (1, sends 0 4, Taken false 0)
          ∷ (1, sends 0 5, Refused Full)
          ∷ (1, plain, gave 1 0)
          ∷ (1, sends 0 5, Refused Full)
          ∷ (1, plain, gave 2 0)
          ∷ (1, sends 0 5, Refused Full)
          ∷ (1, plain, gave 3 0)
          ∷ (1, sends 0 5, Refused Full)
          ∷ (1, plain, gave 4 0)
          ∷ (1, sends 0 5, Taken false 3)
          ∷ [];
    }
    -- document 02, N1, "how many further sends the ring would take", ordinary and unsignalled: after a plain receive the ring has three items and a send, and room for
    -- none, as the credit is not back; it comes back all at once
    ∷ record {
      capacity = 4;
      slots = 2;
      generation = 0;
      budget = 60;
      said = (1, registers, lane 0 0)
          ∷ (1, sends 0 1, Taken true 3)
          ∷ (1, sends_unsignalled 0 2, Taken false 2)
          ∷ (1, sends 0 3, Taken false 1)
          ∷ (1, plain, gave 1 0)
          ∷ (1, sends_unsignalled 0 4, Taken false 0)
          ∷ (1, sends_unsignalled 0 5, Refused Full)
          ∷ (1, plain, gave 2 0)
          ∷ (1, plain, gave 3 0)
          ∷ (1, plain, gave 4 0)
          ∷ (1, sends_unsignalled 0 5, Taken false 3)
          ∷ [];
    }
    -- and a lane in a slot that is issued again has all its places, whatever the last one left
    ∷ record {
      capacity = 4;
      slots = 1;
      generation = 0;
      budget = 63;
      said = (1, registers, lane 0 0)
          ∷ (1, sends 0 1, Taken true 3)
          ∷ (1, sends 0 2, Taken false 2)
          ∷ (1, plain, gave 1 0)
          ∷ (1, closes 0, Done)
          ∷ (1, drops 0, Done)
          ∷ (1, registers, lane 0 1)
          ∷ (1, Sender (TrySend (key_at 0 1) 3), Taken true 3)
          ∷ [];
    }
    -- "P Lanes 0 and 1, three items each, lane 1 sent first; fair: 0, 1, 0, 1, 0, 1, Empty."
    ∷ record {
      capacity = 4;
      slots = 2;
      generation = 0;
      budget = 64;
      said = (1, registers, lane 0 0)
          ∷ (1, registers, lane 1 0)
          ∷ (1, sends 1 11, Taken true 3)
          ∷ (1, sends 1 12, Taken false 2)
          ∷ (1, sends 1 13, Taken false 1)
          ∷ (1, sends 0 1, Taken true 3)
          ∷ (1, sends 0 2, Taken false 2)
          ∷ (1, sends 0 3, Taken false 1)
          ∷ (1, fair, gave 1 0)
          ∷ (1, fair, gave 11 1)
          ∷ (1, fair, gave 2 0)
          ∷ (1, fair, gave 12 1)
          ∷ (1, fair, gave 3 0)
          ∷ (1, fair, gave 13 1)
          ∷ (1, fair, Empty)
          ∷ [];
    }
    -- "C 128, lane 0 has 70, lane 1 has 1: plain gives 64 of lane 0, one of lane 1, six of lane 0, Empty."
    ∷ record {
      capacity = 128;
      slots = 2;
      generation = 0;
      budget = 57;
      said = (1, registers, lane 0 0)
          ∷ (1, registers, lane 1 0)
          ∷ (1, sends 0 5, Taken true 127)
          ∷ (69, sends 0 5, Taken false 126)
          ∷ (1, sends 1 6, Taken true 127)
          ∷ (64, plain, gave 5 0)
          ∷ (1, plain, gave 6 1)
          ∷ (6, plain, gave 5 0)
          ∷ (1, plain, Empty)
          ∷ [];
    }
    -- "P C 64: 64 plain receives of lane 0, pause it, send one to lane 1: plain gives it, budget 63."
    ∷ record {
      capacity = 64;
      slots = 2;
      generation = 0;
      budget = 63;
      said = (1, registers, lane 0 0)
          ∷ (1, registers, lane 1 0)
          ∷ (1, sends 0 5, Taken true 63)
          ∷ (63, sends 0 5, Taken false 62)
          ∷ (64, plain, gave 5 0)
          ∷ (1, pauses 0, Done)
          ∷ (1, sends 1 6, Taken true 63)
          ∷ (1, plain, gave 6 1)
          ∷ [];
    }
    -- "P Unsignalled into an idle lane: plain Empty; after poll all, the item."
    ∷ record {
      capacity = 4;
      slots = 2;
      generation = 0;
      budget = 63;
      said = (1, registers, lane 0 0)
          ∷ (1, sends_unsignalled 0 5, Taken false 3)
          ∷ (1, plain, Empty)
          ∷ (1, polls_all, Done)
          ∷ (1, plain, gave 5 0)
          ∷ [];
    }
    -- "P Slots 0 then 1 retired: next keys (1, 1), (0, 1)."
    ∷ record {
      capacity = 4;
      slots = 2;
      generation = 0;
      budget = 64;
      said = (1, registers, lane 0 0)
          ∷ (1, registers, lane 1 0)
          ∷ (1, drops 0, Done)
          ∷ (1, drops 1, Done)
          ∷ (1, plain, Disconnected)
          ∷ (1, registers, lane 1 1)
          ∷ (1, registers, lane 0 1)
          ∷ (1, registers, Refused NoFreeSlot)
          ∷ [];
    }
    -- "Input [..]; 1 (2); 2 (0, 0, 11); 5; 5; 4 (0, 0); 5 prints whole"; it "begins with 0 (4, 2, 7, 0, 0, 0)" (document 02, N7)
    ∷ record {
      capacity = 4;
      slots = 2;
      generation = 0;
      budget = 63;
      said = (1, Sender (RegisterSender 2), lane 0 0)
          ∷ (1, sends 0 11, Taken true 3)
          ∷ (1, plain, gave 11 0)
          ∷ (1, plain, Empty)
          ∷ (1, drops 0, Done)
          ∷ (1, plain, Disconnected)
          ∷ [];
    }
    -- refusals in their order; a paused lane that holds an item: Empty; held; batches
    ∷ record {
      capacity = 4;
      slots = 2;
      generation = 0;
      budget = 64;
      said = (1, Sender (RegisterSender 0), Refused AtCapacity)
          ∷ (1, registers, lane 0 0)
          ∷ (1, sends 0 1, Taken true 3)
          ∷ (1, pauses 0, Done)
          ∷ (1, drops 0, Done)
          ∷ (1, plain, Empty)
          ∷ (1, sends 0 2, Refused NoSuchSender)
          ∷ (1, held, Held 1)
          ∷ (1, Control (Resume (id_at 0 1)), Refused NoSuchLane)
          ∷ (1, batch 3 2, Refused OutputShort)
          ∷ (1, targeted 0, gave 1 0)
          ∷ (1, batch 0 2, Items 0)
          ∷ (1, batch 1 2, Disconnected)
          ∷ (1, registers, lane 0 1)
          ∷ (1, Control CloseReceiver, Done)
          ∷ (1, Sender (TrySend (key_at 0 1) 1), Refused LaneClosed)
          ∷ (1, fair, Refused ReceiverClosed)
          ∷ (1, registers, Refused ReceiverClosed)
          ∷ [];
    }
    -- Document 02, N4: "goes down the free list, most recently freed first, and takes the first slot without a living older sender"; then slot 3 is in use too, so 9;
    -- "The slots passed over stay in the list in their order."; 8 "only when the list is empty too"
    ∷ record {
      capacity = 4;
      slots = 4;
      generation = 0;
      budget = 64;
      said = (1, registers, lane 0 0)
          ∷ (1, registers, lane 1 0)
          ∷ (1, registers, lane 2 0)
          ∷ (1, registers, lane 3 0)
          ∷ (1, drops 0, Done)
          ∷ (1, plain, Empty)
          ∷ (1, closes 1, Done)
          ∷ (1, closes 2, Done)
          ∷ (1, registers, lane 0 1)
          ∷ (1, registers, Refused OlderSenderLives)
          ∷ (1, drops 1, Done)
          ∷ (1, drops 2, Done)
          ∷ (1, registers, lane 2 1)
          ∷ (1, registers, lane 1 1)
          ∷ (1, registers, Refused NoFreeSlot)
          ∷ [];
    }
    -- freed is when the lane retires: the order in which the senders are dropped moves no slot
    ∷ record {
      capacity = 4;
      slots = 3;
      generation = 0;
      budget = 64;
      said = (1, registers, lane 0 0)
          ∷ (1, registers, lane 1 0)
          ∷ (1, registers, lane 2 0)
          ∷ (1, closes 1, Done)
          ∷ (1, closes 0, Done)
          ∷ (1, closes 2, Done)
          ∷ (1, drops 2, Done)
          ∷ (1, drops 1, Done)
          ∷ (1, drops 0, Done)
          ∷ (1, registers, lane 2 1)
          ∷ (1, registers, lane 0 1)
          ∷ (1, registers, lane 1 1)
          ∷ [];
    }
    -- "failing that, the next unused slot": 9 only once there is none; the slot passed over is taken when its sender is gone
    ∷ record {
      capacity = 4;
      slots = 3;
      generation = 0;
      budget = 64;
      said = (1, registers, lane 0 0)
          ∷ (1, registers, lane 1 0)
          ∷ (1, closes 0, Done)
          ∷ (1, registers, lane 2 0)
          ∷ (1, registers, Refused OlderSenderLives)
          ∷ (1, sends 0 3, Refused LaneClosed)
          ∷ (1, drops 0, Done)
          ∷ (1, registers, lane 0 1)
          ∷ [];
    }
    -- a clear slot below one that is passed over comes before the unused one
    ∷ record {
      capacity = 4;
      slots = 4;
      generation = 0;
      budget = 64;
      said = (1, registers, lane 0 0)
          ∷ (1, registers, lane 1 0)
          ∷ (1, drops 0, Done)
          ∷ (1, plain, Empty)
          ∷ (1, closes 1, Done)
          ∷ (1, registers, lane 0 1)
          ∷ (1, registers, lane 2 0)
          ∷ [];
    }
    -- a slot retired at the last generation is not in the list: 8, though its sender lives
    ∷ record {
      capacity = 4;
      slots = 1;
      generation = 18446744073709551615;
      budget = 64;
      said = (1, registers, lane 0 18446744073709551615)
          ∷ (1, Control (CloseLane (id_at 0 18446744073709551615)), Done)
          ∷ (1, registers, Refused NoFreeSlot)
          ∷ [];
    }
    -- all free slots have living older senders, and slot S - 1 is issued; a closed lane's items are gone
    ∷ record {
      capacity = 4;
      slots = 2;
      generation = 0;
      budget = 62;
      said = (1, registers, lane 0 0)
          ∷ (1, registers, lane 1 0)
          ∷ (1, sends 0 1, Taken true 3)
          ∷ (1, sends 1 2, Taken true 3)
          ∷ (1, batch 1 1, Items 1)
          ∷ (1, closes 0, Done)
          ∷ (1, registers, Refused OlderSenderLives)
          ∷ (1, sends 0 3, Refused LaneClosed)
          ∷ (1, drops 0, Done)
          ∷ (1, registers, lane 0 1)
          ∷ (1, batch 9 9, Items 1)
          ∷ [];
    }
    -- "Whatever queues a lane, resume too, puts it at the back."
    ∷ record {
      capacity = 4;
      slots = 2;
      generation = 0;
      budget = 61;
      said = (1, registers, lane 0 0)
          ∷ (1, registers, lane 1 0)
          ∷ (1, sends 0 1, Taken true 3)
          ∷ (1, sends 1 2, Taken true 3)
          ∷ (1, plain, gave 1 0)
          ∷ (1, pauses 0, Done)
          ∷ (1, sends 0 3, Taken false 3)
          ∷ (1, resumes 0, Done)
          ∷ (1, plain, gave 2 1)
          ∷ (1, plain, gave 3 0)
          ∷ (1, plain, Empty)
          ∷ [];
    }
    -- "budget 0 and queue non-empty, collect one group and set the budget to 64": lane 1 comes after 128 items of lane 0, which has 200
    ∷ record {
      capacity = 256;
      slots = 2;
      generation = 0;
      budget = 63;
      said = (1, registers, lane 0 0)
          ∷ (1, registers, lane 1 0)
          ∷ (1, sends 0 5, Taken true 255)
          ∷ (199, sends 0 5, Taken false 254)
          ∷ (1, plain, gave 5 0)
          ∷ (1, sends 1 6, Taken true 255)
          ∷ (127, plain, gave 5 0)
          ∷ (1, plain, gave 6 1)
          ∷ [];
    }
    -- "Targeted: counts in neither burst nor budget": 64 plain receives of lane 0 go before lane 1
    ∷ record {
      capacity = 128;
      slots = 2;
      generation = 0;
      budget = 63;
      said = (1, registers, lane 0 0)
          ∷ (1, registers, lane 1 0)
          ∷ (1, sends 0 5, Taken true 127)
          ∷ (69, sends 0 5, Taken false 126)
          ∷ (1, sends 1 6, Taken true 127)
          ∷ (1, plain, gave 5 0)
          ∷ (1, targeted 0, gave 5 0)
          ∷ (63, plain, gave 5 0)
          ∷ (1, plain, gave 6 1)
          ∷ [];
    }
    -- a batch moves as many items as it says, and "every lane gives back its credit"
    ∷ record {
      capacity = 4;
      slots = 1;
      generation = 0;
      budget = 61;
      said = (1, registers, lane 0 0)
          ∷ (1, sends 0 1, Taken true 3)
          ∷ (1, sends 0 2, Taken false 2)
          ∷ (1, sends 0 3, Taken false 1)
          ∷ (1, sends 0 4, Taken false 0)
          ∷ (1, batch 2 2, Items 2)
          ∷ (1, sends 0 5, Taken false 1)
          ∷ (1, sends 0 6, Taken false 0)
          ∷ (1, sends 0 7, Refused Full)
          ∷ (1, plain, gave 3 0)
          ∷ (1, held, Held 3)
          ∷ [];
    }
    -- "Credit goes back [..] when the lane is found empty": then four more sends are taken
    ∷ record {
      capacity = 4;
      slots = 1;
      generation = 0;
      budget = 63;
      said = (1, registers, lane 0 0)
          ∷ (1, sends 0 1, Taken true 3)
          ∷ (1, plain, gave 1 0)
          ∷ (1, plain, Empty)
          ∷ (1, sends 0 2, Taken true 3)
          ∷ (1, sends 0 3, Taken false 2)
          ∷ (1, sends 0 4, Taken false 1)
          ∷ (1, sends 0 5, Taken false 0)
          ∷ (1, sends 0 6, Refused Full)
          ∷ [];
    }
    -- "Credit goes back [..] on `pause`; on `release_consumed`"; "Limit 0 answers 0 items [..] and still gives back": each time a full ring takes one more
    ∷ record {
      capacity = 4;
      slots = 1;
      generation = 0;
      budget = 61;
      said = (1, registers, lane 0 0)
          ∷ (1, sends 0 1, Taken true 3)
          ∷ (1, sends 0 2, Taken false 2)
          ∷ (1, sends 0 3, Taken false 1)
          ∷ (1, sends 0 4, Taken false 0)
          ∷ (1, plain, gave 1 0)
          ∷ (1, sends 0 5, Refused Full)
          ∷ (1, Control ReleaseConsumed, Done)
          ∷ (1, sends 0 5, Taken false 0)
          ∷ (1, sends 0 6, Refused Full)
          ∷ (1, plain, gave 2 0)
          ∷ (1, sends 0 6, Refused Full)
          ∷ (1, batch 0 0, Items 0)
          ∷ (1, sends 0 6, Taken false 0)
          ∷ (1, sends 0 7, Refused Full)
          ∷ (1, plain, gave 3 0)
          ∷ (1, sends 0 7, Refused Full)
          ∷ (1, pauses 0, Done)
          ∷ (1, sends 0 7, Taken false 0)
          ∷ (1, sends 0 8, Refused Full)
          ∷ [];
    }
    -- "A lane closed while its sender lives still counts that sender as living."
    ∷ record {
      capacity = 4;
      slots = 2;
      generation = 0;
      budget = 64;
      said = (1, registers, lane 0 0)
          ∷ (1, closes 0, Done)
          ∷ (1, plain, Empty)
          ∷ (1, fair, Empty)
          ∷ (1, batch 1 1, Empty)
          ∷ (1, drops 0, Done)
          ∷ (1, plain, Disconnected)
          ∷ (1, fair, Disconnected)
          ∷ (1, batch 1 1, Disconnected)
          ∷ [];
    }
    -- "The first that applies is given.": 7 before 8, 7 before 9
    ∷ record {
      capacity = 4;
      slots = 1;
      generation = 0;
      budget = 64;
      said = (1, registers, lane 0 0)
          ∷ (1, Sender (RegisterSender 1), Refused AtCapacity)
          ∷ (1, Sender (RegisterSender 2), Refused NoFreeSlot)
          ∷ (1, closes 0, Done)
          ∷ (1, Sender (RegisterSender 0), Refused AtCapacity)
          ∷ (1, Sender (RegisterSender 1), Refused OlderSenderLives)
          ∷ [];
    }
    -- 12 before 11, of a closed lane and of a closed receiver; 10 before 12; 6 before 7, before 14 and before 13
    ∷ record {
      capacity = 1;
      slots = 2;
      generation = 0;
      budget = 64;
      said = (1, registers, lane 0 0)
          ∷ (1, registers, lane 1 0)
          ∷ (1, sends 0 1, Taken true 0)
          ∷ (1, sends 1 2, Taken true 0)
          ∷ (1, sends 0 3, Refused Full)
          ∷ (1, closes 0, Done)
          ∷ (1, sends 0 3, Refused LaneClosed)
          ∷ (1, sends_unsignalled 0 3, Refused LaneClosed)
          ∷ (1, drops 0, Done)
          ∷ (1, sends 0 3, Refused NoSuchSender)
          ∷ (1, sends_unsignalled 0 3, Refused NoSuchSender)
          ∷ (1, drops 0, Refused NoSuchSender)
          ∷ (1, Control CloseReceiver, Done)
          ∷ (1, sends 1 3, Refused LaneClosed)
          ∷ (1, sends_unsignalled 1 3, Refused LaneClosed)
          ∷ (1, sends 0 3, Refused NoSuchSender)
          ∷ (1, Sender (RegisterSender 0), Refused ReceiverClosed)
          ∷ (1, batch 3 2, Refused ReceiverClosed)
          ∷ (1, targeted 0, Refused ReceiverClosed)
          ∷ (1, pauses 0, Refused ReceiverClosed)
          ∷ (1, resumes 0, Refused ReceiverClosed)
          ∷ (1, closes 0, Refused ReceiverClosed)
          ∷ [];
    }
    -- "no lane with this id": another channel's, another opening's, and another generation's; document 02, N7
    ∷ record {
      capacity = 4;
      slots = 1;
      generation = 0;
      budget = 64;
      said = (1, registers, lane 0 0)
          ∷ (1, sends 0 1, Taken true 3)
          ∷ (1, Receive (TryRecvFrom (id_on 8 0 0 0)), Refused NoSuchLane)
          ∷ (1, Control (Pause (id_on 8 0 0 0)), Refused NoSuchLane)
          ∷ (1, Control (Resume (id_on 8 0 0 0)), Refused NoSuchLane)
          ∷ (1, Control (CloseLane (id_on 8 0 0 0)), Refused NoSuchLane)
          ∷ (1, Receive (TryRecvFrom (id_on 7 1 0 0)), Refused NoSuchLane)
          ∷ (1, Control (Pause (id_on 7 1 0 0)), Refused NoSuchLane)
          ∷ (1, Control (Resume (id_on 7 1 0 0)), Refused NoSuchLane)
          ∷ (1, Control (CloseLane (id_on 7 1 0 0)), Refused NoSuchLane)
          ∷ (1, Receive (TryRecvFrom (id_at 0 1)), Refused NoSuchLane)
          ∷ (1, Control (Pause (id_at 0 1)), Refused NoSuchLane)
          ∷ (1, Control (Resume (id_at 0 1)), Refused NoSuchLane)
          ∷ (1, Control (CloseLane (id_at 0 1)), Refused NoSuchLane)
          ∷ (1, targeted 0, gave 1 0)
          ∷ [];
    }
    -- "a slot's first lane has the first generation"; a freed slot is issued "with generation + 1"
    ∷ record {
      capacity = 4;
      slots = 2;
      generation = 5;
      budget = 64;
      said = (1, registers, lane 0 5)
          ∷ (1, Sender (DropSender (key_at 0 5)), Done)
          ∷ (1, plain, Disconnected)
          ∷ (1, registers, lane 0 6)
          ∷ (1, registers, lane 1 5)
          ∷ [];
    }
    -- "A slot retired at generation 2^64 - 1 is not freed."
    ∷ record {
      capacity = 4;
      slots = 2;
      generation = 18446744073709551615;
      budget = 64;
      said = (1, registers, lane 0 18446744073709551615)
          ∷ (1, Sender (DropSender (key_at 0 18446744073709551615)), Done)
          ∷ (1, plain, Disconnected)
          ∷ (1, registers, lane 1 18446744073709551615)
          ∷ (1, registers, Refused NoFreeSlot)
          ∷ [];
    }
    -- resume marks the signal: the send after it is not the one that wakes
    ∷ record {
      capacity = 4;
      slots = 1;
      generation = 0;
      budget = 63;
      said = (1, registers, lane 0 0)
          ∷ (1, pauses 0, Done)
          ∷ (1, resumes 0, Done)
          ∷ (1, sends 0 1, Taken false 3)
          ∷ (1, plain, gave 1 0)
          ∷ [];
    }
    -- "Targeted: [..] queues an unpaused one", and marks its signal
    ∷ record {
      capacity = 4;
      slots = 1;
      generation = 0;
      budget = 62;
      said = (1, registers, lane 0 0)
          ∷ (1, sends_unsignalled 0 1, Taken false 3)
          ∷ (1, sends_unsignalled 0 2, Taken false 2)
          ∷ (1, targeted 0, gave 1 0)
          ∷ (1, sends 0 3, Taken false 1)
          ∷ (1, plain, gave 2 0)
          ∷ (1, plain, gave 3 0)
          ∷ [];
    }
    -- "works on a paused lane", and does not queue it
    ∷ record {
      capacity = 4;
      slots = 1;
      generation = 0;
      budget = 63;
      said = (1, registers, lane 0 0)
          ∷ (1, sends_unsignalled 0 1, Taken false 3)
          ∷ (1, sends_unsignalled 0 2, Taken false 2)
          ∷ (1, pauses 0, Done)
          ∷ (1, targeted 0, gave 1 0)
          ∷ (1, plain, Empty)
          ∷ (1, resumes 0, Done)
          ∷ (1, plain, gave 2 0)
          ∷ [];
    }
    -- a targeted receive of an empty lane: Empty; with its sender dropped Disconnected, and the lane is retired
    ∷ record {
      capacity = 4;
      slots = 2;
      generation = 0;
      budget = 64;
      said = (1, registers, lane 0 0)
          ∷ (1, registers, lane 1 0)
          ∷ (1, targeted 0, Empty)
          ∷ (1, drops 0, Done)
          ∷ (1, targeted 0, Disconnected)
          ∷ (1, targeted 0, Refused NoSuchLane)
          ∷ (1, registers, lane 0 1)
          ∷ [];
    }
    -- poll all queues lanes by ascending slot, behind the one that is queued
    ∷ record {
      capacity = 4;
      slots = 3;
      generation = 0;
      budget = 60;
      said = (1, registers, lane 0 0)
          ∷ (1, registers, lane 1 0)
          ∷ (1, registers, lane 2 0)
          ∷ (1, sends 2 31, Taken true 3)
          ∷ (1, sends 2 32, Taken false 2)
          ∷ (1, plain, gave 31 2)
          ∷ (1, sends_unsignalled 1 21, Taken false 3)
          ∷ (1, sends_unsignalled 0 11, Taken false 3)
          ∷ (1, polls_all, Done)
          ∷ (1, plain, gave 32 2)
          ∷ (1, plain, gave 11 0)
          ∷ (1, plain, gave 21 1)
          ∷ (1, plain, Empty)
          ∷ [];
    }
    -- "after empty paused lanes are retired": by ascending slot, so that slot 1 is the one freed last
    ∷ record {
      capacity = 4;
      slots = 2;
      generation = 0;
      budget = 64;
      said = (1, registers, lane 0 0)
          ∷ (1, registers, lane 1 0)
          ∷ (1, pauses 1, Done)
          ∷ (1, pauses 0, Done)
          ∷ (1, drops 1, Done)
          ∷ (1, drops 0, Done)
          ∷ (1, plain, Disconnected)
          ∷ (1, registers, lane 1 1)
          ∷ (1, registers, lane 0 1)
          ∷ [];
    }
    -- "a call that answers Empty or Disconnected leaves the Rust's budget: plain, 0 where it was 0"
    ∷ record {
      capacity = 64;
      slots = 1;
      generation = 0;
      budget = 0;
      said = (1, registers, lane 0 0)
          ∷ (1, sends 0 5, Taken true 63)
          ∷ (63, sends 0 5, Taken false 62)
          ∷ (64, plain, gave 5 0)
          ∷ (1, pauses 0, Done)
          ∷ (1, plain, Empty)
          ∷ [];
    }
    -- "but 64 where a non-empty queue met a budget of 0, before the poll loop"
    ∷ record {
      capacity = 64;
      slots = 1;
      generation = 0;
      budget = 64;
      said = (1, registers, lane 0 0)
          ∷ (1, sends 0 5, Taken true 63)
          ∷ (63, sends 0 5, Taken false 62)
          ∷ (64, plain, gave 5 0)
          ∷ (1, plain, Empty)
          ∷ [];
    }
    -- "or in it": a lane found empty there, and no other behind it, leaves 0;
    ∷ record {
      capacity = 64;
      slots = 3;
      generation = 0;
      budget = 0;
      said = (1, registers, lane 0 0)
          ∷ (1, registers, lane 1 0)
          ∷ (1, sends 0 5, Taken true 63)
          ∷ (63, sends 0 5, Taken false 62)
          ∷ (64, plain, gave 5 0)
          ∷ (1, pauses 0, Done)
          ∷ (1, drops 1, Done)
          ∷ (1, plain, Empty)
          ∷ [];
    }
    -- with another behind it, 64
    ∷ record {
      capacity = 64;
      slots = 3;
      generation = 0;
      budget = 64;
      said = (1, registers, lane 0 0)
          ∷ (1, registers, lane 1 0)
          ∷ (1, registers, lane 2 0)
          ∷ (1, sends 0 5, Taken true 63)
          ∷ (63, sends 0 5, Taken false 62)
          ∷ (64, plain, gave 5 0)
          ∷ (1, pauses 0, Done)
          ∷ (1, drops 1, Done)
          ∷ (1, drops 2, Done)
          ∷ (1, plain, Empty)
          ∷ [];
    }
    -- "fair, always 64"
    ∷ record {
      capacity = 64;
      slots = 1;
      generation = 0;
      budget = 64;
      said = (1, registers, lane 0 0)
          ∷ (1, sends 0 5, Taken true 63)
          ∷ (63, sends 0 5, Taken false 62)
          ∷ (64, plain, gave 5 0)
          ∷ (1, pauses 0, Done)
          ∷ (1, fair, Empty)
          ∷ [];
    }
    -- "Closing the receiver retires no lane, so the number then stays."; drop sender is answered then; a second close is not
    ∷ record {
      capacity = 4;
      slots = 2;
      generation = 0;
      budget = 64;
      said = (1, registers, lane 0 0)
          ∷ (1, registers, lane 1 0)
          ∷ (1, sends 0 1, Taken true 3)
          ∷ (1, sends 1 2, Taken true 3)
          ∷ (1, pauses 1, Done)
          ∷ (1, Control CloseReceiver, Done)
          ∷ (1, held, Held 2)
          ∷ (1, drops 0, Done)
          ∷ (1, held, Held 2)
          ∷ (1, Control CloseReceiver, Refused ReceiverClosed)
          ∷ (1, held, Held 2)
          ∷ [];
    }
    -- "the number of items in rings of registered lanes, paused ones too": a closed lane's are not counted
    ∷ record {
      capacity = 4;
      slots = 2;
      generation = 0;
      budget = 63;
      said = (1, registers, lane 0 0)
          ∷ (1, registers, lane 1 0)
          ∷ (1, sends 0 1, Taken true 3)
          ∷ (1, sends 0 2, Taken false 2)
          ∷ (1, sends 1 3, Taken true 3)
          ∷ (1, sends_unsignalled 1 4, Taken false 2)
          ∷ (1, pauses 1, Done)
          ∷ (1, held, Held 4)
          ∷ (1, plain, gave 1 0)
          ∷ (1, held, Held 3)
          ∷ (1, closes 1, Done)
          ∷ (1, held, Held 1)
          ∷ [];
    }
    -- "A lane that reaches a burst of 64 goes to the back.": the burst goes on over a pause and a resume, 10 items before them and 54 after
    ∷ record {
      capacity = 128;
      slots = 2;
      generation = 0;
      budget = 62;
      said = (1, registers, lane 0 0)
          ∷ (1, registers, lane 1 0)
          ∷ (1, sends 0 5, Taken true 127)
          ∷ (69, sends 0 5, Taken false 126)
          ∷ (10, plain, gave 5 0)
          ∷ (1, pauses 0, Done)
          ∷ (1, resumes 0, Done)
          ∷ (1, sends 1 6, Taken true 127)
          ∷ (1, polls_all, Done)
          ∷ (54, plain, gave 5 0)
          ∷ (1, plain, gave 6 1)
          ∷ (1, plain, gave 5 0)
          ∷ [];
    }
    -- document 02, N2
    ∷ stops
