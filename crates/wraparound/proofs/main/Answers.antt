-- `wraparound::main` meets its contract.
-- Assumes nothing.
use mathlib.Core.Path.{refl}
use native.Mathlib.Omega.{arith}
use Prim.Native.Nat.{ℕ, ◌^◌, ◌≤◌}
use Rattle.yring.specs.Cursor.{Capacity}
use Rattle.wraparound.proofs.main.Goals as goal

power : (n : ℕ) → n ≤ 16 → 2 ^ n ≤ 65536 → Capacity (2 ^ n)
power n h k = record { log = n; small = h; is = refl; most = k }

pub show-requires : goal.show-requires
show-requires c = (power 0 (omega arith) (omega arith), omega arith)

pub show-requires-2 : goal.show-requires-2
show-requires-2 c = (power 0 (omega arith) (omega arith), omega arith)

pub show-requires-3 : goal.show-requires-3
show-requires-3 c = (power 2 (omega arith) (omega arith), omega arith)

pub show-requires-4 : goal.show-requires-4
show-requires-4 c = (power 2 (omega arith) (omega arith), omega arith)

pub show-requires-5 : goal.show-requires-5
show-requires-5 c = (power 6 (omega arith) (omega arith), omega arith)

pub show-requires-6 : goal.show-requires-6
show-requires-6 c = (power 6 (omega arith) (omega arith), omega arith)
