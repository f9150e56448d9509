-- A lane's record as words of the table store.
-- Assumes nothing.
use Rattle.std.specs.Prelude.{List, [], ◌∷◌, ℕ, ◌+◌, ◌*◌, ◌/◌, ◌%◌, ◌≤◌, ◌<◌, get_or, set}
use Rattle.yring.specs.Lists.{scatter}
use Rattle.lane.specs.declared.lane.Lane.{Lane}

-- "The table store is then 16 × S + 512 words": the header's 512 words, then a row of 16 words for each slot
abbrev pub header_words : ℕ
header_words = 512

abbrev pub row_words : ℕ
row_words = 16

-- the words of a row that a lane's record takes; the columns after them are not the lane's
abbrev pub lane_words : ℕ
lane_words = 12

-- a word of the header, whose places are those below `header_words`
abbrev pub head : List ℕ → ℕ → ℕ
head t k = get_or t k 0

abbrev pub set_head : List ℕ → ℕ → ℕ → List ℕ
set_head t k v = set t k v

-- where a word of a slot's row stands
abbrev pub cell_at : ℕ → ℕ → ℕ
cell_at column slot = header_words + row_words * slot + column

abbrev pub cell : List ℕ → ℕ → ℕ → ℕ
cell t column slot = get_or t (cell_at column slot) 0

abbrev pub set_cell : List ℕ → ℕ → ℕ → ℕ → List ℕ
set_cell t column slot v = set t (cell_at column slot) v

-- a slot's row lies within a table of so many words
abbrev pub HasRow : ℕ → ℕ → Type 0
HasRow slot words = cell_at row_words slot ≤ words

-- "They are stored in 32 bits, two to a word": 2^32, and the lower and the upper half of a word
abbrev pub half : ℕ
half = 4294967296

abbrev pub low : ℕ → ℕ
low w = w % half

abbrev pub high : ℕ → ℕ
high w = w / half % half

-- the word of two halves, the lower one first; what does not fit loses its upper bits
abbrev pub packed : ℕ → ℕ → ℕ
packed a b = a % half + half * (b % half)

-- counts that 32 bits hold
pub record Narrow (cached unreleased burst window : ℕ) : Type 0 where
  pub cached_fits : cached < half
  pub unreleased_fits : unreleased < half
  pub burst_fits : burst < half
  pub window_fits : window < half

abbrev pub NarrowLane : Lane → Type 0
NarrowLane l = Narrow l.cached l.unreleased l.burst l.window

-- a lane's words, in the order of their columns
abbrev pub words : Lane → List ℕ
words l =
    l.key.generation ∷ l.tail ∷ l.released ∷ l.head ∷ l.known ∷ packed l.unreleased l.cached ∷ packed l.window l.burst
    ∷ l.pending ∷ l.queued ∷ l.paused ∷ l.registered ∷ l.living ∷ []

-- the lane of a slot whose words are f 0, f 1, ..
abbrev pub of_words : ℕ → (ℕ → ℕ) → Lane
of_words slot f =
    record {
      key = record { slot = slot; generation = f 0 };
      tail = f 1;
      released = f 2;
      head = f 3;
      known = f 4;
      cached = high (f 5);
      unreleased = low (f 5);
      burst = high (f 6);
      window = low (f 6);
      pending = f 7;
      queued = f 8;
      paused = f 9;
      registered = f 10;
      living = f 11;
    }

-- what 32 bits leave of a lane's counts
abbrev pub narrowed : Lane → Lane
narrowed l =
    record {
      key = l.key;
      tail = l.tail;
      released = l.released;
      head = l.head;
      known = l.known;
      cached = l.cached % half;
      unreleased = l.unreleased % half;
      burst = l.burst % half;
      window = l.window % half;
      pending = l.pending;
      queued = l.queued;
      paused = l.paused;
      registered = l.registered;
      living = l.living;
    }

-- the lane of a slot
unfoldable pub lane_at : List ℕ → ℕ → Lane
lane_at t slot = of_words slot (λ column. cell t column slot)

-- the table with a lane's words in its slot's row
unfoldable pub put_lane : List ℕ → Lane → List ℕ
put_lane t l = scatter t (λ i. cell_at i l.key.slot) (words l)
