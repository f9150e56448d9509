-- The section "Ready marks", computed: a slot's signal and page bit after calls, and the order of collecting.
-- Assumes nothing.
use Rattle.std.specs.Prelude.{refl, Bool, true, false, List, [], ◌∷◌, ℕ, leb}
use Rattle.model.specs.declared.LaneKey.{LaneKey}
use Rattle.model.specs.declared.SenderCall.TheVariants.{RegisterSender, TrySend, DropSender}
use Rattle.model.specs.declared.ReceiveCall.TheVariants.{TryRecv}
use Rattle.model.specs.declared.ControlCall.TheVariants.{CloseLane, PollAllLanes}
use Rattle.model.specs.declared.Call.{Call}
use Rattle.model.specs.declared.Call.TheVariants.{Sender, Receive, Control}
use Rattle.model.specs.Lists.{count}
use Rattle.model.specs.State.{State}
use Rattle.model.specs.Ready.{collect_ready_group, collect_ready}
use Rattle.model.specs.Runs.{after_list}
use Rattle.model.specs.Collections.{groups_before}
use Rattle.model.specs.Opening.{opened_state}
use Rattle.model.specs.Rules.{the_rules}
use Rattle.model.specs.Examples.Pairs.{Reads}
use Rattle.model.proofs.Examples.Calls.{compute}

-- ---- signals

first_lane : LaneKey
first_lane = record { slot = 0; generation = 0 }

registers : Call
registers = Sender (RegisterSender 9)

sends : Call
sends = Sender (TrySend first_lane 5)

drops : Call
drops = Sender (DropSender first_lane)

closes : Call
closes = Control (CloseLane record { channel = record { id = 7; opening = 0 }; key = first_lane })

plain : Call
plain = Receive TryRecv

polls_all : Call
polls_all = Control PollAllLanes

-- a lane is registered in slot 0, and then the calls are made: whether the slot's signal is pending, and whether its page bit is set
signal_after : List Call → Bool × Bool
signal_after calls =
    let l = (after_list the_rules (opened_state record { capacity = 4; slots = 2; channel = 7; cursor = 0; generation = 0; number = 0 }) (registers ∷ calls)).slot_of 0 in
    (l.pending, l.marked)

idle : Bool × Bool
idle = (false, false)

pending_marked : Bool × Bool
pending_marked = (true, true)

pending_taken : Bool × Bool
pending_taken = (true, false)

idle_marked : Bool × Bool
idle_marked = (false, true)

compute_signals : Unit {0}
unfolding compute after_list first_lane registers sends drops closes plain polls_all signal_after idle pending_marked pending_taken idle_marked
compute_signals = tt

-- "idle to pending sets the page bit"; collecting takes it and leaves the signal pending, over the last item taken and over a further send, until the lane is found empty
signal_of_lane :
    Reads signal_after
    (([], idle)
    ∷ (sends ∷ [], pending_marked)
    ∷ (sends ∷ plain ∷ [], pending_taken)
    ∷ (sends ∷ plain ∷ sends ∷ [], pending_taken)
    ∷ (sends ∷ plain ∷ plain ∷ [], idle)
    ∷ [])
unfolding compute_signals
signal_of_lane = refl

-- "a closed lane's signal is kept while its sender lives": pending over the close, a collection, a registration (refusal 9) and poll all, so that the drop sets no page bit
signal_kept_pending :
    Reads signal_after
    ((sends ∷ closes ∷ [], pending_marked)
    ∷ (sends ∷ closes ∷ plain ∷ [], pending_taken)
    ∷ (sends ∷ closes ∷ plain ∷ registers ∷ polls_all ∷ plain ∷ [], pending_taken)
    ∷ (sends ∷ closes ∷ plain ∷ drops ∷ [], pending_taken)
    ∷ [])
unfolding compute_signals
signal_kept_pending = refl

-- idle likewise, so that the drop sets it: "Dropping a sender marks its lane"
signal_kept_idle :
    Reads signal_after
    ((closes ∷ [], idle)
    ∷ (closes ∷ registers ∷ polls_all ∷ plain ∷ [], idle)
    ∷ (closes ∷ drops ∷ [], pending_marked)
    ∷ (closes ∷ drops ∷ plain ∷ [], pending_taken)
    ∷ [])
unfolding compute_signals
signal_kept_idle = refl

-- "A newly registered lane, in a freed slot too, is idle": the page bit of the lane before it stays, and the next collection takes it
signal_of_next_lane :
    Reads signal_after
    ((sends ∷ closes ∷ drops ∷ [], pending_marked)
    ∷ (sends ∷ closes ∷ drops ∷ registers ∷ [], idle_marked)
    ∷ (sends ∷ closes ∷ drops ∷ registers ∷ plain ∷ [], idle)
    ∷ (sends ∷ closes ∷ drops ∷ plain ∷ registers ∷ [], idle)
    ∷ [])
unfolding compute_signals
signal_of_next_lane = refl

-- ---- collecting

-- two groups, with the group cursor at c; the lanes of the slots in l are pending, and their page bits set
two_groups : List ℕ → ℕ → State
two_groups l c = record {
  slot_of = λ x. let ready = leb 1 (count x l) in record { registered = true; living = true; paused = false; pending = ready; marked = ready; generation = 0; ring = []; unreleased = 0; burst = 0 };
  queue = [];
  free = [];
  issued = 4097;
  budget = 64;
  cursor = c;
  is_open = true;
  capacity = 4;
  slots = 4097;
  channel = record { id = 7; opening = 0 };
  first_generation = 0;
}

-- the slots that are marked and the group cursor before; the cursor and the queue after collecting one group, and after collecting all
one_collected : List ℕ × ℕ → ℕ × List ℕ
one_collected m = let u = collect_ready_group (two_groups m.0 m.1) in (u.cursor, u.queue)

all_collected : List ℕ × ℕ → ℕ × List ℕ
all_collected m = let u = collect_ready (two_groups m.0 m.1) in (u.cursor, u.queue)

compute_collecting : Unit {0}
unfolding compute two_groups one_collected all_collected
compute_collecting = tt

-- "Collecting one group stops after the first that had any", "from the group cursor round": the cursor at group 0, at group 1, and past the last
one_collected_lem :
    Reads one_collected
    (((70 ∷ 3 ∷ 4096 ∷ [], 0), (1, 3 ∷ 70 ∷ []))
    ∷ ((70 ∷ 3 ∷ 4096 ∷ [], 1), (2, 4096 ∷ []))
    ∷ ((70 ∷ 3 ∷ 4096 ∷ [], 2), (1, 3 ∷ 70 ∷ []))
    ∷ ((4096 ∷ [], 0), (2, 4096 ∷ []))
    ∷ ((4096 ∷ [], 1), (2, 4096 ∷ []))
    ∷ ((4096 ∷ [], 2), (2, 4096 ∷ []))
    ∷ ((3 ∷ [], 0), (1, 3 ∷ []))
    ∷ ((3 ∷ [], 1), (1, 3 ∷ []))
    ∷ ((3 ∷ [], 2), (1, 3 ∷ []))
    ∷ (([], 0), (0, []))
    ∷ (([], 1), (1, []))
    ∷ (([], 2), (2, []))
    ∷ [])
unfolding compute_collecting
one_collected_lem = refl

-- "The cursor then stands just after the last group that had bits", of all groups too
all_collected_lem :
    Reads all_collected
    (((70 ∷ 3 ∷ 4096 ∷ [], 0), (2, 3 ∷ 70 ∷ 4096 ∷ []))
    ∷ ((70 ∷ 3 ∷ 4096 ∷ [], 1), (1, 4096 ∷ 3 ∷ 70 ∷ []))
    ∷ ((70 ∷ 3 ∷ 4096 ∷ [], 2), (2, 3 ∷ 70 ∷ 4096 ∷ []))
    ∷ ((3 ∷ [], 0), (1, 3 ∷ []))
    ∷ ((3 ∷ [], 1), (1, 3 ∷ []))
    ∷ ((3 ∷ [], 2), (1, 3 ∷ []))
    ∷ (([], 0), (0, []))
    ∷ (([], 1), (1, []))
    ∷ (([], 2), (2, []))
    ∷ [])
unfolding compute_collecting
all_collected_lem = refl

-- the way round, from the cursor at group 0, at group 1, and past the last: the cursor, a group, and how many groups come before it
groups_before_it : ℕ × ℕ → ℕ
groups_before_it c = groups_before (two_groups [] c.0) c.1

groups_before_read :
    Reads groups_before_it
    (((0, 0), 0)
    ∷ ((0, 1), 1)
    ∷ ((1, 0), 1)
    ∷ ((1, 1), 0)
    ∷ ((2, 0), 0)
    ∷ ((2, 1), 1)
    ∷ [])
unfolding compute_collecting groups_before groups_before_it
groups_before_read = refl
