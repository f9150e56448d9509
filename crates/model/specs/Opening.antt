-- The opening: its refusals, and the state that it leaves.
-- Assumes nothing.
use Rattle.std.specs.Prelude.{true, [], ◌∷◌, ℕ, zero, suc, ◌+◌, ◌*◌, leb, ltb}
use Rattle.model.specs.declared.OpenedChannel.{OpenedChannel}
use Rattle.model.specs.declared.Opening.{Opening}
use Rattle.model.specs.declared.Refusal.TheVariants.{CapacityOutOfRange, SlotsOutOfRange, RingStoreShort, TableStoreShort}
use Rattle.model.specs.declared.Answer.TheVariants.{Done}
use Rattle.model.specs.Lists.{if, either}
use Rattle.model.specs.State.{State, vacant}
use Rattle.model.specs.Outcome.{Outcome, says, unless}
use Rattle.model.specs.Runs.{Lent}

-- p doubled, at most n times, until it is not below c.
unfoldable pub doubled_until : ℕ → ℕ → ℕ → ℕ
doubled_until zero p c = p
doubled_until (suc n) p c = if (leb c p) p (doubled_until n (p + p) c)

-- "rounded up to a power of two C", for capacities to 65,536 = 2^16
abbrev pub next_power_of_two : ℕ → ℕ
next_power_of_two c = doubled_until 16 1 c

-- What an opening's lane ids carry: the channel's id and the opening number.
abbrev pub channel_of : Opening → OpenedChannel
channel_of o = record { id = o.channel; opening = o.number }

-- "No sender yet; poll budget 64; group cursor 0."
unfoldable pub opened_state : Opening → State
opened_state o = record {
  slot_of = λ x. vacant;
  queue = [];
  free = [];
  issued = 0;
  budget = 64;
  cursor = 0;
  is_open = true;
  capacity = next_power_of_two o.capacity;
  slots = o.slots;
  channel = channel_of o;
  first_generation = o.generation;
}

-- "capacity 0 or above 65,536"; "S 0 or above 8,192"; "ring store short"; "table store short"
-- "Opening lends a ring store of at least S × C u64 words", and a table store of at least n × S + 512.
-- There is no state before an opening, so the one named with a refusal says nothing.
abbrev pub opening_with_rows_of : ℕ → Opening → Lent → Outcome
opening_with_rows_of n o lent =
    unless
    ((either (ltb o.capacity 1) (ltb 65536 o.capacity), CapacityOutOfRange)
    ∷ (either (ltb o.slots 1) (ltb 8192 o.slots), SlotsOutOfRange)
    ∷ (ltb lent.rings (o.slots * next_power_of_two o.capacity), RingStoreShort)
    ∷ (ltb lent.table (n * o.slots + 512), TableStoreShort) ∷ [])
    (opened_state o) (says Done (opened_state o))

-- document 02, N9: "The table store is then 16 × S + 512 words, the length refusal 4 now tests."
unfoldable pub opening_outcome : Opening → Lent → Outcome
opening_outcome o lent = opening_with_rows_of 16 o lent
