-- A lane retires, as words.
-- Assumes nothing.
use Rattle.std.specs.Prelude.{cond, List, ℕ, ◌-◌, eqb}
use Rattle.lane.specs.declared.lane.Lane.{Lane}
use Rattle.lane.specs.Lane.{with_flags}
use Rattle.lane.specs.Table.{put_lane}
use Rattle.queues.specs.Header.{set_lane_count, lane_count}
use Rattle.queues.specs.Registry.{free}

-- a lane that is no longer registered
abbrev pub retired : Lane → Lane
retired l = with_flags l.pending l.queued 0 0 l.living l

-- "A slot retired at generation 2^64 - 1 is not freed."
unfoldable pub free_unless_last : List ℕ → Lane → List ℕ
free_unless_last t l = cond (eqb l.key.generation 18446744073709551615) t (free t l.key.slot)

unfoldable pub retire_lane : List ℕ → Lane → List ℕ
retire_lane t l = free_unless_last (set_lane_count (put_lane t (retired l)) (lane_count t - 1)) l
