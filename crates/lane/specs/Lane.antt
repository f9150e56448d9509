-- What each method of a lane does to its record. The window's items are charged to the counts before they are popped.
-- Assumes nothing.
use Rattle.std.specs.Prelude.{Bool, true, false, cond, ◌||◌, List, ℕ, ◌+◌, ◌-◌, min, eqb, Option, Some, None, Result, Ok, Err}
use Rattle.model.specs.declared.LaneKey.{LaneKey}
use Rattle.yring.specs.Cursor.{after, distance}
use Rattle.yring.specs.Ring.{item_at, items, push_item, push}
use Rattle.model.specs.State.{release_batch}
use Rattle.yring.specs.declared.ring.Ring.{Ring}
use Rattle.lane.specs.declared.producer.Sent.{Sent}
use Rattle.lane.specs.declared.consumer.Taken.{Taken}
use Rattle.lane.specs.declared.lane.Lane.{Lane}
use Rattle.lane.specs.declared.lane.Released.{Released}
use Rattle.lane.specs.declared.lane.EmptyLane.{EmptyLane}
use Rattle.lane.specs.declared.lane.LanePoll.{LanePoll}
use Rattle.lane.specs.declared.lane.Targeted.{Targeted}
use Rattle.lane.specs.declared.lane.BurstEnd.{BurstEnd}
use Rattle.lane.specs.declared.lane.Reloaded.{Reloaded}
use Rattle.yring.specs.declared.ring.Pushed.{Pushed}

-- a lane with other cursors
abbrev pub with_cursors : ℕ → ℕ → ℕ → ℕ → Lane → Lane
with_cursors tail released head known l =
    record {
      key = l.key;
      tail = tail;
      released = released;
      head = head;
      known = known;
      cached = l.cached;
      unreleased = l.unreleased;
      burst = l.burst;
      window = l.window;
      pending = l.pending;
      queued = l.queued;
      paused = l.paused;
      registered = l.registered;
      living = l.living;
    }

-- a lane with other counts
abbrev pub with_counts : ℕ → ℕ → ℕ → ℕ → Lane → Lane
with_counts cached unreleased burst window l =
    record {
      key = l.key;
      tail = l.tail;
      released = l.released;
      head = l.head;
      known = l.known;
      cached = cached;
      unreleased = unreleased;
      burst = burst;
      window = window;
      pending = l.pending;
      queued = l.queued;
      paused = l.paused;
      registered = l.registered;
      living = l.living;
    }

-- a lane with other flags
abbrev pub with_flags : ℕ → ℕ → ℕ → ℕ → ℕ → Lane → Lane
with_flags pending queued paused registered living l =
    record {
      key = l.key;
      tail = l.tail;
      released = l.released;
      head = l.head;
      known = l.known;
      cached = l.cached;
      unreleased = l.unreleased;
      burst = l.burst;
      window = l.window;
      pending = pending;
      queued = queued;
      paused = paused;
      registered = registered;
      living = living;
    }

-- "Every ring registered, in a freed slot too, starts with its cursors at the first cursor";
-- "A newly registered lane, in a freed slot too, is idle, unpaused and unqueued, with burst 0"
abbrev pub new_lane : LaneKey → ℕ → Lane
new_lane key cursor =
    record {
      key = key;
      tail = cursor;
      released = cursor;
      head = cursor;
      known = cursor;
      cached = 0;
      unreleased = 0;
      burst = 0;
      window = 0;
      pending = 0;
      queued = 0;
      paused = 0;
      registered = 1;
      living = 1;
    }

-- what a lane holds: "its accepted sends of both kinds not yet handed out, oldest next"
unfoldable pub held_items : Ring → List ℕ → Lane → List ℕ
held_items ring store l = items ring store l.head (distance l.tail l.head)

-- THE RING'S TWO ENDS

-- a send: "push refuses exactly if .."; else the item is stored and published
unfoldable pub sent : Lane → Option Pushed × List ℕ → Option Sent × List ℕ
sent l (Some p, store) = (Some (record { lane = with_cursors p.cursor l.released l.head l.known l; free = p.free }), store)
sent l (None, store) = (None, store)

unfoldable pub push_and_flush_item : Ring → List ℕ → ℕ → Lane → Option Sent × List ℕ
push_and_flush_item ring store item l = sent l (push_item ring store l.tail l.released item)

-- the lane that a send leaves, or the full one: a send but for the item's word
unfoldable pub sent_by : Lane → Option Pushed → Option Sent
sent_by l (Some p) = Some (record { lane = with_cursors p.cursor l.released l.head l.known l; free = p.free })
sent_by l None = None

unfoldable pub push_and_flush : Ring → Lane → Option Sent
push_and_flush ring l = sent_by l (push ring l.tail l.released)

-- what was published since the last look is counted, and known
abbrev pub prefetch : Lane → Lane
prefetch l = with_counts (distance l.tail l.known) l.unreleased l.burst l.window (with_cursors l.tail l.released l.head l.tail l)

unfoldable pub reload : Lane → Lane
reload l = cond (eqb l.cached 0) (prefetch l) l

-- credit goes back: the released head is the head
abbrev pub release : Lane → Lane
release l = with_counts l.cached 0 l.burst l.window (with_cursors l.tail l.head l.head l.known l)

-- the head n items further
abbrev pub advance : ℕ → Lane → Lane
advance n l = with_cursors l.tail l.released (after l.head n) l.known l

-- the item at the head, and the lane with the head past it
abbrev pub pop : Ring → List ℕ → Lane → Taken
pop ring store l = record { item = item_at ring store l.head; lane = advance 1 l }

-- THE WINDOW

-- what is left of the window goes back to the counts
abbrev pub close_fast : Lane → Lane
close_fast l = with_counts (l.cached + l.window) (l.unreleased - l.window) (l.burst - l.window) 0 l

-- one short of the release batch and of the burst limit, and within the budget
unfoldable pub window_for : ℕ → ℕ → Lane → ℕ
window_for C budget l = min (min (min l.cached (release_batch C - (l.unreleased + 1))) (64 - (l.burst + 1))) budget

abbrev pub open_window : ℕ → Lane → Lane
open_window n l = with_counts (l.cached - n) (l.unreleased + n) (l.burst + n) n l

unfoldable pub open_for : ℕ → ℕ → Lane → Lane
open_for C budget l = open_window (window_for C budget l) l

unfoldable pub grant_fast : ℕ → ℕ → Lane → Lane
grant_fast C budget l = open_for C budget (reload (close_fast l))

abbrev pub window_pop : Lane → Lane
window_pop l = with_counts l.cached l.unreleased l.burst (l.window - 1) (advance 1 l)

-- the window's next item, where it has one
abbrev pub pop_window : Ring → List ℕ → Lane → Taken
pop_window ring store l = record { item = item_at ring store l.head; lane = window_pop l }

-- "first the open fast window": its next item, with no other count changed
unfoldable pub pop_fast : Ring → List ℕ → Lane → Option Taken
pop_fast ring store l = cond (eqb l.window 0) None (Some (record { item = item_at ring store l.head; lane = window_pop l }))

-- CREDIT

-- "Credit goes back when the unreleased count reaches the release batch"
unfoldable pub release_at_batch : ℕ → Lane → Released
release_at_batch C l =
    cond (eqb l.unreleased (release_batch C))
    (record { lane = release l; released = true })
    (record { lane = l; released = false })

-- "when the lane is found empty; on `pause`; on `release_consumed`"
unfoldable pub release_any : Lane → Released
release_any l =
    cond (eqb l.unreleased 0)
    (record { lane = l; released = false })
    (record { lane = release l; released = true })

unfoldable pub release_pending : Lane → Released
release_pending l = release_any (close_fast l)

-- A LANE FOUND EMPTY

-- "its signal goes back to idle only when the lane is found empty"; burst 0, out of the queue
abbrev pub settled : Lane → Lane
settled l = with_counts l.cached l.unreleased 0 l.window (with_flags 0 0 l.paused l.registered l.living l)

unfoldable pub emptied : Released → EmptyLane
emptied r = record { lane = settled r.lane; disconnected = eqb r.lane.living 0; released = r.released }

unfoldable pub settle_empty : Lane → EmptyLane
settle_empty l = emptied (release_pending l)

unfoldable pub ready_or_idle : Lane → Result Lane EmptyLane
ready_or_idle l = cond (eqb l.cached 0) (Err (settle_empty l)) (Ok l)

unfoldable pub refill : Lane → Result Lane EmptyLane
refill l = ready_or_idle (reload (close_fast l))

unfoldable pub reload_is_empty : Lane → Reloaded
reload_is_empty l = record { lane = reload (close_fast l); empty = eqb (reload (close_fast l)).cached 0 }

-- ITEMS WITH FULL COUNTING

abbrev pub charge : ℕ → Lane → Lane
charge n l = with_counts (l.cached - n) (l.unreleased + n) l.burst l.window l

abbrev pub add_burst : ℕ → Lane → Lane
add_burst n l = with_counts l.cached l.unreleased (l.burst + n) l.window l

abbrev pub end_burst : Bool → Lane → Lane
end_burst ends l = cond ends (with_counts l.cached l.unreleased 0 l.window l) l

-- "Targeted: counts in neither burst nor budget"
unfoldable pub targeted : ℕ → Released → Targeted
targeted item r = record { item = item; lane = r.lane; released = r.released }

unfoldable pub pop_targeted : Ring → List ℕ → Lane → Targeted
pop_targeted ring store l = targeted (item_at ring store l.head) (release_at_batch ring.capacity (charge 1 (advance 1 l)))

-- the turn ends with every item of a fair receive, else at a burst of 64
unfoldable pub polled : Bool → Targeted → Result LanePoll EmptyLane
polled fair t =
    let l = add_burst 1 t.lane in
    let rotate = fair || eqb l.burst 64 in
    Ok (record { item = t.item; rotate = rotate; released = t.released; lane = end_burst rotate l })

unfoldable pub poll_item : Ring → List ℕ → Bool → Lane → Result LanePoll EmptyLane
poll_item ring store fair l = polled fair (pop_targeted ring store l)

unfoldable pub poll_refilled : Ring → List ℕ → Bool → Result Lane EmptyLane → Result LanePoll EmptyLane
poll_refilled ring store fair (Ok l) = poll_item ring store fair l
poll_refilled ring store fair (Err found) = Err found

unfoldable pub poll : Ring → List ℕ → Bool → Lane → Result LanePoll EmptyLane
poll ring store fair l = poll_refilled ring store fair (refill l)

-- "A lone lane takes `pop_fair`": through the window that is open, or one opened at burst 0
unfoldable pub fair_window : ℕ → ℕ → Lane → Lane
fair_window C budget l = cond (eqb l.window 0) (grant_fast C budget (end_burst true l)) l

abbrev pub burst_of_window : Lane → Lane
burst_of_window l = with_counts l.cached l.unreleased l.window l.window l

-- an item through that window, where it has one
abbrev pub pop_fair : Ring → List ℕ → Lane → Taken
pop_fair ring store l = record { item = item_at ring store l.head; lane = burst_of_window (window_pop l) }

unfoldable pub fairly : Option Taken → Option Taken
fairly (Some taken) = Some (record { item = taken.item; lane = burst_of_window taken.lane })
fairly None = None

unfoldable pub pop_lone : Ring → List ℕ → ℕ → Lane → Option Taken
pop_lone ring store budget l = fairly (pop_fast ring store (fair_window ring.capacity budget l))

-- CHUNKS

-- "A lane that reaches a burst of 64 goes to the back."
unfoldable pub end_full_burst : Lane → BurstEnd
end_full_burst l = record { lane = end_burst (eqb l.burst 64) l; ended = eqb l.burst 64 }

-- the most items before credit is due or the turn ends
unfoldable pub chunk_limit : ℕ → Lane → ℕ
chunk_limit C l = min (min l.cached (64 - l.burst)) (release_batch C - l.unreleased)

-- the lane after n of its items are moved: the counts go on by them, and "Credit goes back when the unreleased count reaches the release batch"
unfoldable pub move_chunk : ℕ → ℕ → Lane → Lane
move_chunk C n l = (release_at_batch C (add_burst n (charge n (advance n l)))).lane
