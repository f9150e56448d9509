-- `wire_record::record::u16_at` meets its contract.
-- Assumes nothing.
use borrow.Author.Rules.{rules}
use Rattle.wire_record.proofs.NumberLaws.{read_two}
use Rattle.wire_record.proofs.record.u16_at.Goals as goal

pub returns : goal.returns
returns c = read_two _ c.unwrap.result.now c.args.i (rw c.unwrap.ensures at c.first_chunk.ensures.cases).same (search rules)
