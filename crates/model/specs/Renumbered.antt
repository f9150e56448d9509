-- Document 02, N7: "For runs against the Rust it is always 0." An opening number does nothing but tell ids: no queue, send, held count, output or other refusal
-- depends on it. So what a run shows whose opening and ids all have number 0 holds with any other: take for f the exchange of the two. (No generated
-- stream against the Rust has an id with another number than the opening's; LaneIds.antt speaks of them.) A claim about any rules; it is proved of document 01's.
-- Assumes nothing.
use Rattle.std.specs.Prelude.{◌≡◌, List, map, ℕ}
use mathlib.Mathlib.Logic.Function.Defs.{Injective}
use Rattle.model.specs.declared.OpenedChannel.{OpenedChannel}
use Rattle.model.specs.declared.LaneId.{LaneId}
use Rattle.model.specs.declared.Opening.{Opening}
use Rattle.model.specs.declared.ReceiveCall.{ReceiveCall}
use Rattle.model.specs.declared.ReceiveCall.TheVariants.{TryRecv, TryRecvFair, TryRecvFrom, TryRecvBatchInto, TryRecvBatchIntoWhile}
use Rattle.model.specs.declared.ControlCall.{ControlCall}
use Rattle.model.specs.declared.ControlCall.TheVariants.{Pause, Resume, CloseLane, ReleaseConsumed, PollAllLanes, CloseReceiver, CountHeld}
use Rattle.model.specs.declared.Call.{Call}
use Rattle.model.specs.declared.Call.TheVariants.{Sender, Receive, Control}
use Rattle.model.specs.declared.Answer.{Answer}
use Rattle.model.specs.declared.Answer.TheVariants.{Done, Registered, Taken, Item, Items, Stopped, Empty, Disconnected, Held, Refused}
use Rattle.model.specs.Runs.{Rules, RunsOf, all_runs, Tick, gives, ends, trace, after_list}
use Rattle.model.specs.Demand2.{HasRoom}

-- f n stands for opening number n: what is set in below takes f first.
module _ (f : ℕ → ℕ) where
  -- An opening and a lane id with another opening number, and all else as it was.
  abbrev pub renumbered_opening : Opening → Opening
  renumbered_opening o = record { capacity = o.capacity; slots = o.slots; channel = o.channel; cursor = o.cursor; generation = o.generation; number = f o.number }

  abbrev pub renumbered_channel : OpenedChannel → OpenedChannel
  renumbered_channel h = record { id = h.id; opening = f h.opening }

  abbrev pub renumbered_id : LaneId → LaneId
  renumbered_id i = record { channel = renumbered_channel i.channel; key = i.key }

  -- A call and an answer, their lane id renumbered if they have one.
  unfoldable pub renumbered_receive : ReceiveCall → ReceiveCall
  renumbered_receive TryRecv = TryRecv
  renumbered_receive TryRecvFair = TryRecvFair
  renumbered_receive (TryRecvFrom i) = TryRecvFrom (renumbered_id i)
  renumbered_receive (TryRecvBatchInto limit room) = TryRecvBatchInto limit room
  renumbered_receive (TryRecvBatchIntoWhile limit bound room) = TryRecvBatchIntoWhile limit bound room

  unfoldable pub renumbered_control : ControlCall → ControlCall
  renumbered_control (Pause i) = Pause (renumbered_id i)
  renumbered_control (Resume i) = Resume (renumbered_id i)
  renumbered_control (CloseLane i) = CloseLane (renumbered_id i)
  renumbered_control ReleaseConsumed = ReleaseConsumed
  renumbered_control PollAllLanes = PollAllLanes
  renumbered_control CloseReceiver = CloseReceiver
  renumbered_control CountHeld = CountHeld

  unfoldable pub renumbered_call : Call → Call
  renumbered_call (Sender c) = Sender c
  renumbered_call (Receive r) = Receive (renumbered_receive r)
  renumbered_call (Control c) = Control (renumbered_control c)

  unfoldable pub renumbered_answer : Answer → Answer
  renumbered_answer (Item v i) = Item v (renumbered_id i)
  renumbered_answer Done = Done
  renumbered_answer (Registered k) = Registered k
  renumbered_answer (Taken w n) = Taken w n
  renumbered_answer (Items n) = Items n
  renumbered_answer (Stopped n) = Stopped n
  renumbered_answer Empty = Empty
  renumbered_answer Disconnected = Disconnected
  renumbered_answer (Held n) = Held n
  renumbered_answer (Refused r) = Refused r

  -- One thing that happens in a run, its call and its answer renumbered.
  unfoldable pub renumbered_tick : Tick → Tick
  renumbered_tick (gives r k v) = gives (renumbered_receive r) k v
  renumbered_tick (ends c a) = ends (renumbered_call c) (renumbered_answer a)

-- What is claimed of an opening o and a renumbering f.
pub record OnlyRenumbered (R : Rules) (runs : RunsOf R) (f : ℕ → ℕ) (o : Opening) (lent : R.Stores) : Type 0 where
  -- with another number it answers the same, accepted or refused
  pub same_opening : (R.opens (renumbered_opening f o) lent).0 ≡ (R.opens o lent).0
  -- if it is accepted, the same calls with their ids renumbered come to the same run, renumbered: the same items, answers and refusals
  pub same_run : (R.opens o lent).0 ≡ Done → (calls : List Call) → runs o lent calls → runs (renumbered_opening f o) lent (map (renumbered_call f) calls)
      → trace R (R.opens (renumbered_opening f o) lent).1 (map (renumbered_call f) calls) ≡ map (renumbered_tick f) (trace R (R.opens o lent).1 calls)
  -- and after them the next receive writes the same into its output
  pub same_output : (R.opens o lent).0 ≡ Done → (calls : List Call) → runs o lent calls → runs (renumbered_opening f o) lent (map (renumbered_call f) calls)
      → (r : ReceiveCall) (out : List ℕ) → HasRoom r out
      → R.output (after_list R (R.opens (renumbered_opening f o) lent).1 (map (renumbered_call f) calls)) (renumbered_receive f r) out
      ≡ R.output (after_list R (R.opens o lent).1 calls) r out

-- Of every f that keeps different numbers different (`Injective`). The claim is about all of `runs`.
unfoldable pub NumberOnlyTellsIdsIn : (R : Rules) → RunsOf R → Type 0
NumberOnlyTellsIdsIn R runs = (f : ℕ → ℕ) → Injective f → (o : Opening) (lent : R.Stores) → OnlyRenumbered R runs f o lent

unfoldable pub NumberOnlyTellsIds : Rules → Type 0
NumberOnlyTellsIds R = NumberOnlyTellsIdsIn R (all_runs R)
