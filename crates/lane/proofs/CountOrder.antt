-- Counts in order stay so; over bare numbers, so that each is plain arithmetic.
-- Assumes nothing.
use mathlib.Core.Path.{◌≡◌}
use Prim.Native.Nat.{ℕ, ◌+◌, ◌-◌, ◌≤◌, ◌<◌}
use native.Mathlib.Omega.{arith}
use Rattle.lane.specs.Order.{Counts}
use Rattle.lane.specs.Table.{Narrow}

module _ {B d m c u b w : ℕ} (o : Counts B d m c u b w) where
  -- the window goes back to the counts
  pub counts_close : Counts B d m (c + w) (u - w) (b - w) 0
  counts_close = record { cached_is = omega arith; unreleased_is = omega arith; unreleased_below = omega arith; window_most = omega arith; burst_most = omega arith }

  -- "never exceed 65,536": 32 bits hold them
  pub counts_narrow : d ≤ 65536 → m ≤ 65536 → Narrow c u b w
  counts_narrow e f = record { cached_fits = omega arith; unreleased_fits = omega arith; burst_fits = omega arith; window_fits = omega arith }

  -- n more items are known of, where none was cached
  pub counts_look : (n a : ℕ) → c ≡ 0 → a ≡ n + m → Counts B d a n u b w
  counts_look n a e f = record { cached_is = omega arith; unreleased_is = omega arith; unreleased_below = omega arith; window_most = omega arith; burst_most = omega arith }

  -- a window of n opens
  pub counts_open : (n : ℕ) → w ≡ 0 → n ≤ c → u + n < B → b + n ≤ 63 → Counts B d m (c - n) (u + n) (b + n) n
  counts_open n e f g h = record { cached_is = omega arith; unreleased_is = omega arith; unreleased_below = omega arith; window_most = omega arith; burst_most = omega arith }

  -- the window's next item is popped
  pub counts_pop : 0 < w → Counts B (d + 1) (m - 1) c u b (w - 1)
  counts_pop h = record { cached_is = omega arith; unreleased_is = omega arith; unreleased_below = omega arith; window_most = omega arith; burst_most = omega arith }

  -- n items are popped, short of the batch
  pub counts_charge : (n : ℕ) → w ≡ 0 → n ≤ c → u + n < B → Counts B (d + n) (m - n) (c - n) (u + n) b w
  counts_charge n e f g = record { cached_is = omega arith; unreleased_is = omega arith; unreleased_below = omega arith; window_most = omega arith; burst_most = omega arith }

  -- n items are popped, and all credit goes back
  pub counts_credit : (n : ℕ) → w ≡ 0 → n ≤ c → Counts B 0 (m - n) (c - n) 0 b w
  counts_credit n e f = record { cached_is = omega arith; unreleased_is = omega arith; unreleased_below = omega arith; window_most = omega arith; burst_most = omega arith }

  -- another burst
  pub counts_burst : (n : ℕ) → w ≤ n → n ≤ 63 → Counts B d m c u n w
  counts_burst n e f = record { cached_is = omega arith; unreleased_is = omega arith; unreleased_below = omega arith; window_most = omega arith; burst_most = omega arith }

  -- all credit goes back
  pub counts_release : w ≡ 0 → Counts B 0 m c 0 b w
  counts_release e = record { cached_is = omega arith; unreleased_is = omega arith; unreleased_below = omega arith; window_most = omega arith; burst_most = omega arith }
