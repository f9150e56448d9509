-- `sender::sender::send_unsignaled` meets its contract.
-- Assumes nothing.
use native.Mathlib.Omega.{arith}
use Rattle.lane.proofs.TableLaws.{slot_of_lane}
use Rattle.sender.proofs.FlushedLaws.{flushed_key, unsignaled_full, unsignaled_taken}
use Rattle.sender.proofs.sender.send_unsignaled.Goals as goal

pub store-requires : goal.store-requires
store-requires c = rw (flushed_key _ _ c.push_and_flush.ensures c.in-Some.is, c.load-l.ensures, slot_of_lane _ _) (omega (arith, c.requires.slot_in, c.requires.shaped.room))

pub returns-in-None : goal.returns-in-None
returns-in-None c = unsignaled_full _ _ c.push_and_flush.ensures _ c.args.r.now c.args.key c.args.item c.new-ring.ensures c.load-l.ensures c.in-None.is

pub returns-in-Some : goal.returns-in-Some
returns-in-Some c =
    unsignaled_taken _ _ c.push_and_flush.ensures _ c.args.r.now c.args.key c.args.item c.new-ring.ensures c.load-l.ensures c.in-Some.is c.store.ensures c.held_more.ensures c.put.ensures
