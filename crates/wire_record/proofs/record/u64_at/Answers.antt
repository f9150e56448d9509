-- `wire_record::record::u64_at` meets its contract.
-- Assumes nothing.
use borrow.Author.Rules.{rules}
use Rattle.wire_record.proofs.NumberLaws.{read_eight}
use Rattle.wire_record.proofs.record.u64_at.Goals as goal

pub returns : goal.returns
returns c = read_eight _ c.unwrap.result.now c.args.i (rw c.unwrap.ensures at c.first_chunk.ensures.cases).same (search rules)
