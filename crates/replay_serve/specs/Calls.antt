-- What a record's call answers, and what it leaves of the stores and the output: the opening and the calls of crate `fanring`'s lists of calls.
-- Assumes nothing.
use Rattle.std.specs.Prelude.{List, [], ◌∷◌, ◌++◌, ℕ, replicate}
use Rattle.model.specs.declared.ReceiveCall.{ReceiveCall}
use Rattle.model.specs.declared.ReceiveCall.TheVariants.{TryRecv, TryRecvFair, TryRecvFrom, TryRecvBatchInto, TryRecvBatchIntoWhile}
use Rattle.model.specs.declared.Call.{Call}
use Rattle.model.specs.declared.Call.TheVariants.{Sender, Receive, Control}
use Rattle.model.specs.declared.Answer.{Answer}
use Rattle.wire_record.specs.declared.record.Record.{Record}
use Rattle.wire_record.specs.Record.{room}
use Rattle.wire_line.specs.Text.{answer_text}
use Rattle.fanring.specs.Runs.{the_calls}
use Rattle.replay_serve.specs.declared.calls.Stores.{Stores}

-- a batch is lent the whole output, whatever it was asked for with; other calls are lent none
abbrev pub lent : ReceiveCall → ReceiveCall
lent TryRecv = TryRecv
lent TryRecvFair = TryRecvFair
lent (TryRecvFrom i) = TryRecvFrom i
lent (TryRecvBatchInto limit asked) = TryRecvBatchInto limit room
lent (TryRecvBatchIntoWhile limit bound asked) = TryRecvBatchIntoWhile limit bound room

abbrev pub lent_call : Call → Call
lent_call (Sender c) = Sender c
lent_call (Receive c) = Receive (lent c)
lent_call (Control c) = Control c

-- the output after a call
abbrev pub output_after : Stores → Call → List ℕ
output_after s (Sender c) = s.out
output_after s (Receive c) = the_calls.output (s.table, s.rings) c s.out
output_after s (Control c) = s.out

abbrev pub called : Stores → Call → Answer × Stores
called s c = let w = the_calls.step (s.table, s.rings) c in (w.0, record { table = w.1.0; rings = w.1.1; out = output_after s c })

-- "An accepted opening starts afresh, a refused one changes nothing"; a call is made on the stores as the last one left them, whether they were opened or not
unfoldable pub answered : Record → Stores → Answer × Stores
answered (Record.Open o) s = let w = the_calls.opens o (s.table, s.rings) in (w.0, record { table = w.1.0; rings = w.1.1; out = s.out })
answered (Record.Call c) s = called s (lent_call c)

-- ---- records one after the other

-- the line of a record's answer
unfoldable pub line_of : Record → Stores → List ℕ
line_of r s = let w = answered r s in answer_text w.0 w.1.out

unfoldable pub lines_of : List Record → Stores → List ℕ
lines_of [] s = []
lines_of (r ∷ rs) s = line_of r s ++ lines_of rs (answered r s).1

-- the stores after them
unfoldable pub stores_after : List Record → Stores → Stores
stores_after [] s = s
stores_after (r ∷ rs) s = stores_after rs (answered r s).1

-- "Stores: 2,048 and 4,096 words; output 64": as the program finds them when it starts
unfoldable pub started : Stores
started = record { table = replicate 4096 0; rings = replicate 2048 0; out = replicate 64 0 }
