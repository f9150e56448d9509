-- The header's words: the channel's own state, at the start of the table store.
-- Assumes nothing.
use Rattle.std.specs.Prelude.{List, [], ◌∷◌, ℕ, ◌≤◌, ◌<◌, length}
use Rattle.model.specs.declared.OpenedChannel.{OpenedChannel}
use Rattle.model.specs.declared.Opening.{Opening}
use Rattle.lane.specs.Table.{cell_at, head, set_head}
use Rattle.yring.specs.Cursor.{after, distance}
use Rattle.yring.specs.Lists.{scatter}
use Rattle.queues.specs.declared.header.Header.{Header}

-- slots 0 to issued - 1 have been issued
abbrev pub issued : List ℕ → ℕ
issued t = head t 0

-- the queue's front place and its length; the number of free slots; S
abbrev pub queue_front : List ℕ → ℕ
queue_front t = head t 1

abbrev pub queue_count : List ℕ → ℕ
queue_count t = head t 2

abbrev pub free_count : List ℕ → ℕ
free_count t = head t 3

abbrev pub slots : List ℕ → ℕ
slots t = head t 4

abbrev pub budget : List ℕ → ℕ
budget t = head t 5

abbrev pub group_cursor : List ℕ → ℕ
group_cursor t = head t 6

-- 1 while the receiver is open
abbrev pub alive : List ℕ → ℕ
alive t = head t 7

abbrev pub capacity : List ℕ → ℕ
capacity t = head t 8

abbrev pub channel_id : List ℕ → ℕ
channel_id t = head t 9

abbrev pub first_cursor : List ℕ → ℕ
first_cursor t = head t 10

abbrev pub first_generation : List ℕ → ℕ
first_generation t = head t 11

abbrev pub fast_slot : List ℕ → ℕ
fast_slot t = head t 12

-- registered lanes, and living senders
abbrev pub lane_count : List ℕ → ℕ
lane_count t = head t 13

abbrev pub living_count : List ℕ → ℕ
living_count t = head t 14

abbrev pub opening_number : List ℕ → ℕ
opening_number t = head t 15

-- document 02, N6: the items in the rings of registered lanes
abbrev pub held_count : List ℕ → ℕ
held_count t = head t 16

-- document 02, N7: what a lane id carries of its opening
abbrev pub channel : List ℕ → OpenedChannel
channel t = record { id = channel_id t; opening = opening_number t }

abbrev pub set_issued : List ℕ → ℕ → List ℕ
set_issued t v = set_head t 0 v

abbrev pub set_queue_front : List ℕ → ℕ → List ℕ
set_queue_front t v = set_head t 1 v

abbrev pub set_queue_count : List ℕ → ℕ → List ℕ
set_queue_count t v = set_head t 2 v

abbrev pub set_free_count : List ℕ → ℕ → List ℕ
set_free_count t v = set_head t 3 v

abbrev pub set_budget : List ℕ → ℕ → List ℕ
set_budget t v = set_head t 5 v

abbrev pub set_group_cursor : List ℕ → ℕ → List ℕ
set_group_cursor t v = set_head t 6 v

abbrev pub set_alive : List ℕ → ℕ → List ℕ
set_alive t v = set_head t 7 v

abbrev pub set_fast_slot : List ℕ → ℕ → List ℕ
set_fast_slot t v = set_head t 12 v

abbrev pub set_lane_count : List ℕ → ℕ → List ℕ
set_lane_count t v = set_head t 13 v

abbrev pub set_living_count : List ℕ → ℕ → List ℕ
set_living_count t v = set_head t 14 v

abbrev pub set_held_count : List ℕ → ℕ → List ℕ
set_held_count t v = set_head t 16 v

-- document 02, N6: "every call keeps it true": one item more is held, and n fewer. Both wrap, as cursors do, and no call on stores in order comes to that:
-- store, proofs/HeldLaws.antt (`held_counted_after`).
abbrev pub held_more : List ℕ → List ℕ
held_more t = set_held_count t (after (held_count t) 1)

abbrev pub held_less : List ℕ → ℕ → List ℕ
held_less t n = set_held_count t (distance (held_count t) n)

-- what the queue, the free list and the marks ask of the header; over numbers
pub record Shape (issued front count free slots cursor long : ℕ) : Type 0 where
  -- "issued slots are at most S"
  pub issued_most : issued ≤ slots
  pub front_in : front < slots
  pub count_most : count ≤ slots
  pub free_most : free ≤ slots
  -- "slots S (1 to 8,192)"
  pub slots_most : slots ≤ 8192
  -- "the group cursor is at most the groups that exist", of which there are at most two
  pub cursor_most : cursor ≤ 2
  -- "Stores have at least the lengths that the opening asked for."
  pub room : cell_at 0 slots ≤ long

abbrev pub Shaped : List ℕ → Type 0
Shaped t = Shape (issued t) (queue_front t) (queue_count t) (free_count t) (slots t) (group_cursor t) (length t)

-- "No sender yet; poll budget 64; group cursor 0"; `fast_slot` is "0 at opening"
abbrev pub new_header : Opening → ℕ → Header
new_header o C =
    record {
      issued = 0;
      front = 0;
      queued = 0;
      free = 0;
      slots = o.slots;
      budget = 64;
      group = 0;
      alive = 1;
      capacity = C;
      channel = o.channel;
      cursor = o.cursor;
      generation = o.generation;
      fast = 0;
      lanes = 0;
      living = 0;
      opening = o.number;
      held = 0;
    }

abbrev pub header_list : Header → List ℕ
header_list h =
    h.issued ∷ h.front ∷ h.queued ∷ h.free ∷ h.slots ∷ h.budget ∷ h.group ∷ h.alive ∷ h.capacity ∷ h.channel
    ∷ h.cursor ∷ h.generation ∷ h.fast ∷ h.lanes ∷ h.living ∷ h.opening ∷ h.held ∷ []

-- the table with these words at its start
unfoldable pub put_header : List ℕ → Header → List ℕ
put_header t h = scatter t (λ i. i) (header_list h)
