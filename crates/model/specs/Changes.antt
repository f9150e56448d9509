-- Changes of the state and of a slot, one thing at a time. The language has no record update, so each field is written.
-- Assumes nothing.
use Rattle.std.specs.Prelude.{Bool, true, false, not, List, [], ◌∷◌, ◌++◌, ℕ, eqb}
use Rattle.model.specs.Lists.{if, either}
use Rattle.model.specs.State.{Slot, State}

-- Changes of one field of the state.
abbrev pub with_slots : (ℕ → Slot) → State → State
with_slots f s = record {
  slot_of = f;
  queue = s.queue;
  free = s.free;
  issued = s.issued;
  budget = s.budget;
  cursor = s.cursor;
  is_open = s.is_open;
  capacity = s.capacity;
  slots = s.slots;
  channel = s.channel;
  first_generation = s.first_generation;
}

abbrev pub with_queue : List ℕ → State → State
with_queue q s = record {
  slot_of = s.slot_of;
  queue = q;
  free = s.free;
  issued = s.issued;
  budget = s.budget;
  cursor = s.cursor;
  is_open = s.is_open;
  capacity = s.capacity;
  slots = s.slots;
  channel = s.channel;
  first_generation = s.first_generation;
}

abbrev pub with_free : List ℕ → State → State
with_free f s = record {
  slot_of = s.slot_of;
  queue = s.queue;
  free = f;
  issued = s.issued;
  budget = s.budget;
  cursor = s.cursor;
  is_open = s.is_open;
  capacity = s.capacity;
  slots = s.slots;
  channel = s.channel;
  first_generation = s.first_generation;
}

abbrev pub with_issued : ℕ → State → State
with_issued n s = record {
  slot_of = s.slot_of;
  queue = s.queue;
  free = s.free;
  issued = n;
  budget = s.budget;
  cursor = s.cursor;
  is_open = s.is_open;
  capacity = s.capacity;
  slots = s.slots;
  channel = s.channel;
  first_generation = s.first_generation;
}

abbrev pub with_budget : ℕ → State → State
with_budget b s = record {
  slot_of = s.slot_of;
  queue = s.queue;
  free = s.free;
  issued = s.issued;
  budget = b;
  cursor = s.cursor;
  is_open = s.is_open;
  capacity = s.capacity;
  slots = s.slots;
  channel = s.channel;
  first_generation = s.first_generation;
}

abbrev pub with_cursor : ℕ → State → State
with_cursor c s = record {
  slot_of = s.slot_of;
  queue = s.queue;
  free = s.free;
  issued = s.issued;
  budget = s.budget;
  cursor = c;
  is_open = s.is_open;
  capacity = s.capacity;
  slots = s.slots;
  channel = s.channel;
  first_generation = s.first_generation;
}

abbrev pub with_open : Bool → State → State
with_open b s = record {
  slot_of = s.slot_of;
  queue = s.queue;
  free = s.free;
  issued = s.issued;
  budget = s.budget;
  cursor = s.cursor;
  is_open = b;
  capacity = s.capacity;
  slots = s.slots;
  channel = s.channel;
  first_generation = s.first_generation;
}

-- Slot x becomes l; the others stay.
abbrev pub put : ℕ → Slot → State → State
put x l s = with_slots (λ y. if (eqb x y) l (s.slot_of y)) s

-- What changes of a slot, in three parts: the lane's flags, its signal and page bit, its ring.
abbrev pub with_flags : Bool → Bool → Bool → Slot → Slot
with_flags registered living paused l = record {
  registered = registered;
  living = living;
  paused = paused;
  pending = l.pending;
  marked = l.marked;
  generation = l.generation;
  ring = l.ring;
  unreleased = l.unreleased;
  burst = l.burst;
}

abbrev pub with_signal : Bool → Bool → Slot → Slot
with_signal pending marked l = record {
  registered = l.registered;
  living = l.living;
  paused = l.paused;
  pending = pending;
  marked = marked;
  generation = l.generation;
  ring = l.ring;
  unreleased = l.unreleased;
  burst = l.burst;
}

abbrev pub with_ring : List ℕ → ℕ → ℕ → Slot → Slot
with_ring ring unreleased burst l = record {
  registered = l.registered;
  living = l.living;
  paused = l.paused;
  pending = l.pending;
  marked = l.marked;
  generation = l.generation;
  ring = ring;
  unreleased = unreleased;
  burst = burst;
}

-- "A send marks its lane's signal; idle to pending sets the page bit"
abbrev pub signalled : Slot → Slot
signalled l = with_signal true (either (not l.pending) l.marked) l

-- Taking a page "reads it and leaves 0"; the signal is not touched.
abbrev pub unmarked : Slot → Slot
unmarked l = with_signal l.pending false l

-- "flush publishes everything pushed"
abbrev pub pushed : ℕ → Slot → Slot
pushed v l = with_ring (l.ring ++ (v ∷ [])) l.unreleased l.burst l

-- An item taken: the items left, the unreleased count and the burst after it.
abbrev pub popped : List ℕ → ℕ → ℕ → Slot → Slot
popped vs n b l = with_ring vs n b l

-- "Credit goes back [..] when the lane is found empty"; "its signal goes back to idle only when the lane is found empty"
-- The burst starts anew.
abbrev pub settled_empty : Slot → Slot
settled_empty l = with_signal false l.marked (with_ring l.ring 0 0 l)

-- The lane's credit goes back.
abbrev pub credited : Slot → Slot
credited l = with_ring l.ring (if l.registered 0 l.unreleased) l.burst l

abbrev pub with_paused : Bool → Slot → Slot
with_paused b l = with_flags l.registered l.living b l

abbrev pub sender_dropped : Slot → Slot
sender_dropped l = with_flags l.registered false l.paused l

-- The lane is gone; its sender may live on, and "a closed lane's signal is kept while its sender lives".
abbrev pub retired : Slot → Slot
retired l = with_flags false l.living false l

-- "A newly registered lane, in a freed slot too, is idle, unpaused and unqueued, with burst 0"
-- The page bit is not the lane's, and stays.
abbrev pub new_lane : ℕ → Slot → Slot
new_lane g l = record {
  registered = true;
  living = true;
  paused = false;
  pending = false;
  marked = l.marked;
  generation = g;
  ring = [];
  unreleased = 0;
  burst = 0;
}
