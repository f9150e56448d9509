-- `order::names::note_all` meets its contract.
-- Assumes nothing.
use Prim.Native.Nat.{ℕ, ◌<◌}
use mathlib.Core.Path.{◌≡◌}
use Rattle.order.proofs.SeenLaws.{Noted}
use Rattle.order.proofs.names.note_all.Given as goal

abbrev pub invariant-loop-k : goal.invariant-loop-k
invariant-loop-k g l = (f : ℕ → ℕ) → ((k y : ℕ) → k < l.n → goal.F-post g l.slot_at k y → y ≡ f k) → Noted l.issued l.k f l.seen.words
