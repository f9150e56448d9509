-- Every control call, held too, as words.
-- Assumes nothing.
use Rattle.std.specs.Prelude.{List, ℕ}
use Rattle.model.specs.declared.ControlCall.{ControlCall}
use Rattle.model.specs.declared.ControlCall.TheVariants.{Pause, Resume, CloseLane, ReleaseConsumed, PollAllLanes, CloseReceiver, CountHeld}
use Rattle.store.specs.Words.{Words}
use Rattle.control.specs.Control.{pause, resume, close_lane, close_receiver}
use Rattle.all_lanes.specs.AllLanes.{release_consumed, poll_all_lanes, count_held}

unfoldable pub control_words : List ℕ → List ℕ → ControlCall → Words
control_words t r (Pause i) = pause t r i
control_words t r (Resume i) = resume t r i
control_words t r (CloseLane i) = close_lane t r i
control_words t r ReleaseConsumed = release_consumed t r
control_words t r PollAllLanes = poll_all_lanes t r
control_words t r CloseReceiver = close_receiver t r
control_words t r CountHeld = count_held t r
