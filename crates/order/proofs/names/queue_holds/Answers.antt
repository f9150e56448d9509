-- `order::names::queue_holds` meets its contract.
-- Assumes nothing.
use borrow.Author.Rules.{rules}
use Rattle.queues.specs.Queue.{queue_of}
use Rattle.order.proofs.names.queue_holds.Goals as goal

pub returns : goal.returns
unfolding queue_of
returns c = record {
  tells = c.note_all.ensures.tells _ (λ k y h p. search rules);
  seen = c.note_all.ensures.seen _ (λ k y h p. search rules);
}
