-- `wire_record::record::record_of` meets its contract.
-- Assumes nothing.
use mathlib.Core.Path.{sym, ap, ap₂, ◌∙◌}
use mathlib.Core.Option.{some}
use Prim.Native.Nat.{ℕ}
use Rattle.model.specs.declared.ReceiveCall.TheVariants.{TryRecvBatchIntoWhile}
use Rattle.model.specs.declared.Call.TheVariants.{Receive}
use Rattle.wire_record.specs.declared.record.Record.TheVariants.{Call}
use Rattle.wire_record.specs.declared.kind.Kind.{Kind}
use Rattle.wire_record.specs.Kind.{code_of}
use Rattle.wire_record.specs.Record.{room, said}
use Rattle.wire_record.proofs.record.record_of.Goals as goal

-- written out, so that a field in the other's place is an equation that is false
pub returns-in-TryRecvBatchIntoWhile : goal.returns-in-TryRecvBatchIntoWhile
unfolding said
returns-in-TryRecvBatchIntoWhile c =
    ap (λ (k : Kind). said (code_of k) c.args.b.now) c.in-TryRecvBatchIntoWhile.is
    ∙ ap₂ (λ (limit bound : ℕ). some (Call (Receive (TryRecvBatchIntoWhile limit bound room)))) (sym c.field-in-TryRecvBatchIntoWhile.ensures) (sym c.field-in-TryRecvBatchIntoWhile-2.ensures)
