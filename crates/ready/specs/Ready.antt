-- "Ready marks": page and group words, marking a lane, collecting the marked ones.
-- Assumes nothing.
use Rattle.std.specs.Prelude.{◌≡◌, Bool, true, false, cond, ◌&&◌, ℕ, zero, suc, ◌+◌, ◌*◌, ◌/◌, ◌%◌, ◌<◌, eqb, ltb}
use mathlib.Core.List.{List, foldl}
use Rattle.lane.specs.Lane.{with_flags}
use Rattle.lane.specs.Table.{lane_words, cell, set_cell, lane_at, put_lane}
use Rattle.lane.specs.declared.lane.Lane.{Lane}
use Rattle.queues.specs.Header.{issued, group_cursor, set_group_cursor}
use Rattle.queues.specs.Queue.{push_back}
use Rattle.ready.specs.Bits.{bit, with_bit, bits_from}
use Rattle.ready.specs.declared.ready.Page.{Page}
use Rattle.ready.specs.declared.ready.Group.{Group}

-- the columns of the rows that hold the page words and the group words: page p in row p, group g in row g
abbrev pub page_column : ℕ
page_column = lane_words + 2

abbrev pub group_column : ℕ
group_column = lane_words + 3

abbrev pub page_word : List ℕ → ℕ → ℕ
page_word t page = cell t page_column page

abbrev pub group_word : List ℕ → ℕ → ℕ
group_word t group = cell t group_column group

-- a page, and a group, with no bit; as the table has it; with a bit set; stored in the table
abbrev pub new_page : ℕ → Page
new_page page = record { id = page; bits = 0 }

abbrev pub read_page : List ℕ → ℕ → Page
read_page t page = record { id = page; bits = page_word t page }

abbrev pub mark_page : Page → ℕ → Page
mark_page p b = record { id = p.id; bits = with_bit p.bits b }

abbrev pub put_page : List ℕ → Page → List ℕ
put_page t p = set_cell t page_column p.id p.bits

abbrev pub new_group : ℕ → Group
new_group group = record { id = group; bits = 0 }

abbrev pub read_group : List ℕ → ℕ → Group
read_group t group = record { id = group; bits = group_word t group }

abbrev pub mark_group : Group → ℕ → Group
mark_group g b = record { id = g.id; bits = with_bit g.bits b }

abbrev pub put_group : List ℕ → Group → List ℕ
put_group t g = set_cell t group_column g.id g.bits

-- "64 lanes to a page, 64 pages to a group": a slot's bit in its page, a page's bit in its group
abbrev pub page_bit : List ℕ → ℕ → ℕ
page_bit t slot = bit (page_word t (slot / 64)) (slot % 64)

abbrev pub group_bit : List ℕ → ℕ → ℕ
group_bit t page = bit (group_word t (page / 64)) (page % 64)

abbrev pub set_page_bit : List ℕ → ℕ → List ℕ
set_page_bit t slot = set_cell t page_column (slot / 64) (with_bit (page_word t (slot / 64)) (slot % 64))

abbrev pub set_group_bit : List ℕ → ℕ → List ℕ
set_group_bit t page = set_cell t group_column (page / 64) (with_bit (group_word t (page / 64)) (page % 64))

-- "sets the page bit; a page that was 0 sets its group bit"
unfoldable pub mark : List ℕ → ℕ → List ℕ
mark t slot = cond (eqb (page_word t (slot / 64)) 0) (set_group_bit (set_page_bit t slot) (slot / 64)) (set_page_bit t slot)

-- "A page or group exists once a slot of it has been issued": the first slot of a page makes its word 0,
-- the first page of a group the group's
unfoldable pub open_group : List ℕ → ℕ → List ℕ
open_group t page = cond (eqb (page % 64) 0) (set_cell t group_column (page / 64) 0) t

unfoldable pub open_page : List ℕ → ℕ → List ℕ
open_page t slot = cond (eqb (slot % 64) 0) (open_group (set_cell t page_column (slot / 64) 0) (slot / 64)) t

-- 0 of 0, and 1 of every other number
abbrev pub non_zero : ℕ → ℕ
non_zero zero = 0
non_zero (suc n) = 1

-- What a store in order has of its marks. A word of a page or group that does not exist is any number.
pub record Linked (t : List ℕ) : Type 0 where
  -- "a page bit is of an issued slot"
  pub of_issued : (slot : ℕ) → 64 * (slot / 64) < issued t → page_bit t slot ≡ 1 → slot < issued t
  -- "a page is non-zero exactly if its group bit is set"
  pub linked : (page : ℕ) → 64 * page < issued t → group_bit t page ≡ non_zero (page_word t page)
  -- a group bit is of a page that exists
  pub of_pages : (page : ℕ) → 4096 * (page / 64) < issued t → group_bit t page ≡ 1 → 64 * page < issued t

-- "a lane that is pending, unpaused and unqueued"
unfoldable pub wanted_lane : Lane → Bool
wanted_lane l = eqb l.registered 1 && (eqb l.pending 1 && (eqb l.paused 0 && eqb l.queued 0))

-- of an issued slot
unfoldable pub wanted : List ℕ → ℕ → Bool
wanted t slot = ltb slot (issued t) && wanted_lane (lane_at t slot)

-- a lane that is in the queue
abbrev pub queued_lane : Lane → Lane
queued_lane l = with_flags l.pending 1 l.paused l.registered l.living l

-- the lane of a slot goes to the back of the queue
unfoldable pub enqueue : List ℕ → ℕ → List ℕ
enqueue t slot = push_back (put_lane t (queued_lane (lane_at t slot))) slot

unfoldable pub offer : List ℕ → ℕ → List ℕ
offer t slot = cond (wanted t slot) (enqueue t slot) t

-- "Taking a page or group reads it and leaves 0." Its slots are offered, "lowest bit first".
unfoldable pub collect_page : List ℕ → ℕ → List ℕ
collect_page t page = foldl offer (set_cell t page_column page 0) (bits_from 64 (64 * page) (page_word t page))

unfoldable pub collect_group : List ℕ → ℕ → List ℕ
collect_group t group = foldl collect_page (set_cell t group_column group 0) (bits_from 64 (64 * group) (group_word t group))

-- "A page or group exists once a slot of it has been issued."
abbrev pub group_count : ℕ → ℕ
group_count n = (n + 4095) / 4096

-- "from the group cursor round": the group that `next` stands at, of n groups
unfoldable pub group_at : ℕ → ℕ → ℕ
group_at n next = cond (ltb next n) next 0

-- at most k of n groups, from `next` on. "The cursor then stands just after the last group that had bits.
-- Collecting one group stops after the first that had any."
unfoldable pub collected_from : ℕ → ℕ → Bool → List ℕ → ℕ → List ℕ
collected_from n zero all t next = t
collected_from n (suc k) all t next =
    let g = group_at n next in
    let after = set_group_cursor (collect_group t g) (g + 1) in
    cond (eqb (group_word t g) 0)
    (collected_from n k all t (g + 1))
    (cond all (collected_from n k all after (g + 1)) after)

unfoldable pub collect_ready : Bool → List ℕ → List ℕ
collect_ready all t = collected_from (group_count (issued t)) (group_count (issued t)) all t (group_cursor t)

-- whether one of the first n groups has bits
unfoldable pub has_ready : ℕ → List ℕ → Bool
has_ready zero t = false
has_ready (suc k) t = cond (eqb (group_word t k) 0) (has_ready k t) true
