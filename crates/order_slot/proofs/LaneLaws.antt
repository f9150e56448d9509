-- Laws of the test of a lane's record.
-- Assumes nothing.
use mathlib.Core.Path.{◌≡◌}
use mathlib.Core.Bool.{Bool}
use Prim.Native.Nat.{ℕ}
use Rattle.model.specs.State.{release_batch}
use Rattle.lane.specs.declared.lane.Lane.{Lane}
use Rattle.yring.specs.Cursor.{distance}
use Rattle.lane.specs.Order.{Cursors, Counts, InOrder}
use Rattle.order_slot.specs.Tells.{Tells}
use Rattle.order_slot.proofs.TellsLaws.{tells_of}

-- the cursors are in order, and the counts are tested
module _ (C : ℕ) (l : Lane) where
  pub lane_tells : Cursors C l.tail l.released l.head l.known → {batch taken ahead : ℕ} → batch ≡ release_batch C
      → taken ≡ distance l.head l.released → ahead ≡ distance l.known l.head → {a : Bool}
      → Tells (Counts batch taken ahead l.cached l.unreleased l.burst l.window) a → Tells (InOrder C l) a
  lane_tells o b d e {a} t = tells_of (λ n. record { cursors = o; counts = n }) (λ p. p.counts) (by b d e t)
    where
      by : {x y z x' y' z' : ℕ} → x ≡ x' → y ≡ y' → z ≡ z' → Tells (Counts x y z l.cached l.unreleased l.burst l.window) a
          → Tells (Counts x' y' z' l.cached l.unreleased l.burst l.window) a
      by p q r t = rw (← p, ← q, ← r) t
