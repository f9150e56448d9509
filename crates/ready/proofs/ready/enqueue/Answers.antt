-- `ready::ready::enqueue` meets its contract.
-- Assumes nothing.
use native.Mathlib.Omega.{arith}
use Rattle.lane.proofs.TableLaws.{frames}
use Rattle.ready.specs.Ready.{enqueue}
use Rattle.ready.proofs.ready.enqueue.Goals as goal

pub store-requires : goal.store-requires
store-requires c = simp (c.queued_lane.ensures, c.load-l.ensures, frames) (omega arith)

pub push_back-requires : goal.push_back-requires
push_back-requires c = rw c.store.ensures (simp frames (c.requires.0, c.requires.2))

pub returns : goal.returns
unfolding enqueue
returns c = simp (c.push_back.ensures, c.store.ensures, c.queued_lane.ensures, c.load-l.ensures)
