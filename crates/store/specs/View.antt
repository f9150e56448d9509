-- The rules' state, read off the words of the two stores. Windows, cached counts and cursors are seen only through what they come to.
-- Assumes nothing.
use Rattle.std.specs.Prelude.{Bool, List, ℕ, ◌-◌, eqb, ltb}
use Rattle.model.specs.Lists.{if}
use Rattle.model.specs.State.{Slot, State, vacant}
use Rattle.lane.specs.declared.lane.Lane.{Lane}
use Rattle.yring.specs.Ring.{new_ring}
use Rattle.lane.specs.Lane.{held_items}
use Rattle.lane.specs.Table.{lane_at}
use Rattle.queues.specs.Header.{issued, slots, budget, group_cursor, alive, capacity, channel, first_generation}
use Rattle.queues.specs.Queue.{queue_of}
use Rattle.queues.specs.Registry.{free_of}
use Rattle.ready.specs.Ready.{page_bit}

-- "flags and signals hold one of their two values": 1 is set
abbrev pub flag : ℕ → Bool
flag w = eqb w 1

-- a slot of the rules: the lane's record with its window closed, its page bit, its items
abbrev pub slot_of : Lane → ℕ → List ℕ → Slot
slot_of l mark vs =
    record {
      registered = flag l.registered;
      living = flag l.living;
      paused = flag l.paused;
      pending = flag l.pending;
      marked = flag mark;
      generation = l.key.generation;
      ring = vs;
      unreleased = l.unreleased - l.window;
      burst = l.burst - l.window;
    }

-- slot x of the two stores
unfoldable pub slot_at : List ℕ → List ℕ → ℕ → Slot
slot_at t r x = slot_of (lane_at t x) (page_bit t x) (held_items (new_ring x (capacity t)) r (lane_at t x))

unfoldable pub view : List ℕ → List ℕ → State
view t r =
    record {
      slot_of = λ x. if (ltb x (issued t)) (slot_at t r x) vacant;
      queue = queue_of t;
      free = free_of t;
      issued = issued t;
      budget = budget t;
      cursor = group_cursor t;
      is_open = flag (alive t);
      capacity = capacity t;
      slots = slots t;
      channel = channel t;
      first_generation = first_generation t;
    }
