-- A lane's ring: which word of the ring store a cursor names, and what push, pop and pop_into do.
-- Assumes nothing.
use Rattle.std.specs.Prelude.{ℕ, suc, Option, None, Some, ◌+◌, ◌-◌, ◌*◌, ◌%◌, ◌≤◌, cond, List, [], ◌∷◌, ◌==◌, nat_le, slice_index, slice_set}
use Rattle.yring.specs.Lists.{tab, written}
use Rattle.yring.specs.Cursor.{after, distance, Capacity}
use Rattle.yring.specs.declared.ring.Ring.{Ring}
use Rattle.yring.specs.declared.ring.Pushed.{Pushed}

-- the ring of a slot: "a ring store of at least S × C u64 words", C of them for each slot
abbrev pub new_ring : ℕ → ℕ → Ring
new_ring slot C = record { base = slot * C; capacity = C }

-- the ring lies within a store of so many words
pub record Within (ring : Ring) (words : ℕ) : Type 0 where
  pub power : Capacity ring.capacity
  pub fits : ring.base + ring.capacity ≤ words

-- "place = cursor mod C"
abbrev pub index : Ring → ℕ → ℕ
index ring cursor = ring.base + cursor % ring.capacity

-- the item at a cursor
abbrev pub item_at : Ring → List ℕ → ℕ → ℕ
item_at ring store cursor = slice_index store (index ring cursor)

-- the n items from a cursor on
unfoldable pub items : Ring → List ℕ → ℕ → ℕ → List ℕ
items ring store head n = tab n (λ i. item_at ring store (after head i))

-- Document 02, N1: "how many further sends the ring would take", once an item is pushed at the cursor: C less the cursor's wrapped distance from the released head,
-- by a wrapping subtract too, less the item's own place.
abbrev pub free_after : Ring → ℕ → ℕ → ℕ
free_after ring cursor released = distance ring.capacity (distance cursor released) - 1

-- "push refuses exactly if the cursor's wrapped distance from the released head is C; flush publishes everything pushed"
unfoldable pub push_item : Ring → List ℕ → ℕ → ℕ → ℕ → Option Pushed × List ℕ
push_item ring store cursor released item =
    cond (distance cursor released == ring.capacity)
    (None, store)
    (Some (record { cursor = after cursor 1; free = free_after ring cursor released }), slice_set store (index ring cursor) item)

-- what a push answers, before the item's word is stored
unfoldable pub push : Ring → ℕ → ℕ → Option Pushed
push ring cursor released =
    cond (distance cursor released == ring.capacity) None (Some (record { cursor = after cursor 1; free = free_after ring cursor released }))

-- an item's word stored at a cursor
abbrev pub put : Ring → List ℕ → ℕ → ℕ → List ℕ
put ring store cursor item = slice_set store (index ring cursor) item

-- Document 02, N2: "an item is admitted if it is at most a bound given with the call": how many items of a list stand before the first that is not
unfoldable pub accepted_prefix : ℕ → List ℕ → ℕ
accepted_prefix bound [] = 0
accepted_prefix bound (v ∷ vs) = cond (nat_le v bound) (suc (accepted_prefix bound vs)) 0

-- the output with the n items from the head on, from place `at` on
unfoldable pub pop_into : Ring → List ℕ → ℕ → ℕ → List ℕ → ℕ → List ℕ
pop_into ring store head n out at = written out at (items ring store head n)

-- the n words of a list from a place on
unfoldable pub run : List ℕ → ℕ → ℕ → List ℕ
run l from n = tab n (λ i. slice_index l (from + i))
