-- The receiver's other calls, and held.
-- Assumes nothing.
use Rattle.std.specs.Prelude.{Bool, true, false, not, [], ◌∷◌, ◌++◌, ℕ}
use Rattle.model.specs.declared.LaneId.{LaneId}
use Rattle.model.specs.declared.ControlCall.{ControlCall}
use Rattle.model.specs.declared.ControlCall.TheVariants.{Pause, Resume, CloseLane, ReleaseConsumed, PollAllLanes, CloseReceiver, CountHeld}
use Rattle.model.specs.declared.Refusal.TheVariants.{ReceiverClosed, NoSuchLane}
use Rattle.model.specs.declared.Answer.TheVariants.{Done, Held}
use Rattle.model.specs.Lists.{keep, without, from}
use Rattle.model.specs.State.{State, may_queue, items_held, has_lane_id}
use Rattle.model.specs.Changes.{with_queue, with_open, put, signalled, with_paused, credited}
use Rattle.model.specs.Turn.{retire_lane}
use Rattle.model.specs.Outcome.{Outcome, says, unless}
use Rattle.model.specs.Receive.{release_all}

-- "Credit goes back [..] on `pause`"; "The queue names each queued lane once and no paused one."
unfoldable pub pause : State → LaneId → Outcome
pause s i =
    unless ((not s.is_open, ReceiverClosed) ∷ (not (has_lane_id s i), NoSuchLane) ∷ []) s
    (says Done (with_queue (without i.key.slot s.queue) (put i.key.slot (with_paused true (credited (s.slot_of i.key.slot))) s)))

-- "Whatever queues a lane, resume too, puts it at the back." Its signal is marked.
unfoldable pub resume_if : Bool → ℕ → State → State
resume_if true x s = with_queue (s.queue ++ (x ∷ [])) (put x (signalled (with_paused false (s.slot_of x))) s)
resume_if false x s = s

-- On a lane that is not paused it does nothing.
unfoldable pub resume : State → LaneId → Outcome
resume s i =
    unless ((not s.is_open, ReceiverClosed) ∷ (not (has_lane_id s i), NoSuchLane) ∷ []) s
    (says Done (resume_if (s.slot_of i.key.slot).paused i.key.slot s))

-- "closed by an accepted `close_lane`, after which none of its items is handed out"
unfoldable pub close_lane : State → LaneId → Outcome
close_lane s i =
    unless ((not s.is_open, ReceiverClosed) ∷ (not (has_lane_id s i), NoSuchLane) ∷ []) s
    (says Done (retire_lane i.key.slot (with_queue (without i.key.slot s.queue) s)))

-- "Credit goes back [..] on `release_consumed`."
unfoldable pub release_consumed : State → Outcome
release_consumed s = unless ((not s.is_open, ReceiverClosed) ∷ []) s (says Done (release_all s))

-- Every lane that is unpaused and unqueued is queued, pending or not. Reading: by ascending slot, and the signal is not marked.
unfoldable pub poll_all_lanes : State → Outcome
poll_all_lanes s =
    unless ((not s.is_open, ReceiverClosed) ∷ []) s
    (says Done (with_queue (s.queue ++ keep (may_queue s) (from 0 s.issued)) s))

-- "Closing the receiver retires no lane". Reading: it leaves the lanes as they are.
unfoldable pub close_receiver : State → Outcome
close_receiver s = unless ((not s.is_open, ReceiverClosed) ∷ []) s (says Done (with_open false s))

-- "the number of items in rings of registered lanes, paused ones too". Reading: answered after the receiver is closed, too.
unfoldable pub count_held : State → Outcome
count_held s = says (Held (items_held s)) s

unfoldable pub control_outcome : State → ControlCall → Outcome
control_outcome s (Pause i) = pause s i
control_outcome s (Resume i) = resume s i
control_outcome s (CloseLane i) = close_lane s i
control_outcome s ReleaseConsumed = release_consumed s
control_outcome s PollAllLanes = poll_all_lanes s
control_outcome s CloseReceiver = close_receiver s
control_outcome s CountHeld = count_held s
