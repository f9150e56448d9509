-- The free list: slot numbers, one place in each row of the table, the one freed last at the end.
-- Assumes nothing.
use Rattle.std.specs.Prelude.{List, ℕ, suc, ◌+◌, ◌-◌}
use Rattle.yring.specs.Lists.{tab, scatter}
use Rattle.lane.specs.Table.{lane_words, cell_at, cell, set_cell}
use Rattle.queues.specs.Header.{free_count, set_free_count}

-- the column of the rows that holds the free list's places
abbrev pub free_column : ℕ
free_column = lane_words + 1

-- the free slots, the one freed last first
unfoldable pub free_of : List ℕ → List ℕ
free_of t = tab (free_count t) (λ i. cell t free_column (free_count t - suc i))

unfoldable pub free : List ℕ → ℕ → List ℕ
free t slot = set_free_count (set_cell t free_column (free_count t) slot) (free_count t + 1)

-- the slot d places down the list; 0 is the one freed last
abbrev pub freed_at : List ℕ → ℕ → ℕ
freed_at t d = cell t free_column (free_count t - suc d)

-- the n slots above place p, each one place further down
abbrev pub moved_down : List ℕ → ℕ → ℕ → List ℕ
moved_down t p n = scatter t (λ i. cell_at free_column (p + i)) (tab n (λ i. cell t free_column (p + i + 1)))

-- Document 02, N4: the slot d places down is taken. "The slots passed over stay in the list in their order": the d above it move
-- down by one place.
unfoldable pub reissue : List ℕ → ℕ → List ℕ
reissue t d = set_free_count (moved_down t (free_count t - suc d) d) (free_count t - 1)
