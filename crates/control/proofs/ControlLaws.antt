-- Every control call, held too: its words are what the rules say, and it leaves `Stores`.
-- Assumes nothing.
use mathlib.Core.Path.{◌≡◌}
use mathlib.Core.List.{List}
use Prim.Native.Nat.{ℕ}
use Rattle.model.specs.declared.ControlCall.{ControlCall}
use Rattle.model.specs.declared.ControlCall.TheVariants.{Pause, Resume, CloseLane, ReleaseConsumed, PollAllLanes, CloseReceiver, CountHeld}
use Rattle.model.specs.declared.Call.TheVariants.{Control}
use Rattle.model.specs.Control.{control_outcome}
use Rattle.model.specs.Rules.{outcome}
use Rattle.store.specs.View.{view}
use Rattle.store.specs.Order.{Stores, StoreInOrder}
use Rattle.control.specs.Calls.{control_words}
use Rattle.store.proofs.RefusalLaws.{seen}
use Rattle.control.proofs.PauseLaws.{pause_alike, pause_keeps}
use Rattle.control.proofs.ResumeLaws.{resume_alike, resume_keeps}
use Rattle.control.proofs.CloseLaneLaws.{close_lane_alike, close_lane_keeps}
use Rattle.all_lanes.proofs.ReleaseConsumedLaws.{release_consumed_alike, release_consumed_keeps}
use Rattle.all_lanes.proofs.PollAllLaws.{poll_all_lanes_alike, poll_all_lanes_keeps}
use Rattle.control.proofs.CloseReceiverLaws.{close_receiver_alike, close_receiver_keeps}
use Rattle.all_lanes.proofs.CountHeldLaws.{count_held_alike, count_held_keeps}

pub control_alike : (t r : List ℕ) (c : ControlCall) → StoreInOrder t r → seen (control_words t r c) ≡ (outcome (view t r) (Control c)).1
unfolding control_words outcome control_outcome
control_alike t r (Pause i) o = pause_alike t r i o
control_alike t r (Resume i) o = resume_alike t r i o
control_alike t r (CloseLane i) o = close_lane_alike t r i o
control_alike t r ReleaseConsumed o = release_consumed_alike t r o
control_alike t r PollAllLanes o = poll_all_lanes_alike t r o
control_alike t r CloseReceiver o = close_receiver_alike t r o
control_alike t r CountHeld o = count_held_alike t r o

pub control_keeps : (t r : List ℕ) (c : ControlCall) → StoreInOrder t r → Stores (control_words t r c).1 (control_words t r c).2
unfolding control_words
control_keeps t r (Pause i) o = pause_keeps t r i o
control_keeps t r (Resume i) o = resume_keeps t r i o
control_keeps t r (CloseLane i) o = close_lane_keeps t r i o
control_keeps t r ReleaseConsumed o = release_consumed_keeps t r o
control_keeps t r PollAllLanes o = poll_all_lanes_keeps t r o
control_keeps t r CloseReceiver o = close_receiver_keeps t r o
control_keeps t r CountHeld o = count_held_keeps t r o
