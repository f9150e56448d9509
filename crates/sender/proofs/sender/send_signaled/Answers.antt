-- `sender::sender::send_signaled` meets its contract.
-- Assumes nothing.
use mathlib.Core.Path.{ap, ◌∙◌}
use Prim.Native.Nat.{ℕ}
use lib.ListN.{set}
use Rattle.lane.proofs.TableLaws.{slot_of_lane}
use Rattle.sender.proofs.FlushedLaws.{flushed_key, signaled_full, signaled_taken}
use Rattle.sender.proofs.sender.send_signaled.Goals as goal

pub take_signaled-answer-requires : goal.take_signaled-answer-requires
take_signaled-answer-requires c = (c.requires.shaped, simp (flushed_key _ _ c.push_and_flush.ensures c.in-Some.is, c.load-l.ensures, slot_of_lane) c.requires.slot_in)

pub returns-in-None : goal.returns-in-None
returns-in-None c = signaled_full _ _ c.push_and_flush.ensures _ c.args.r.now c.args.key c.args.item c.new-ring.ensures c.load-l.ensures c.in-None.is

pub returns-in-Some : goal.returns-in-Some
returns-in-Some c =
    signaled_taken _ _ c.push_and_flush.ensures _ c.args.r.now c.args.key c.args.item c.new-ring.ensures c.load-l.ensures c.in-Some.is c.take_signaled-answer.ensures c.held_more.ensures
    (c.put_at.ensures ∙ ap (λ (x : ℕ). set c.args.r.now x c.args.item) c.index-at.ensures.0)
