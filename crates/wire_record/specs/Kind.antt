-- Document 01, "Replay program": the kinds of records and their codes.
-- Assumes nothing.
use Rattle.std.specs.Prelude.{◌≡◌, ℕ, ◌<◌, ◌≤◌, Result, MatchResult}
use Rattle.wire_record.specs.declared.kind.Kind.{Kind}
use Rattle.wire_record.specs.declared.kind.Kind.TheVariants.{Open, RegisterSender, TrySend, TrySendUnsignaled, DropSender, TryRecv, TryRecvFair, TryRecvFrom, TryRecvBatchInto, Pause, Resume, CloseLane, ReleaseConsumed, PollAllLanes, CloseReceiver, CountHeld, TryRecvBatchIntoWhile}
use Rattle.wire_record.specs.declared.kind.UnknownKind.{UnknownKind}

-- the number of the "two-byte kind"
abbrev pub code_of : Kind → ℕ
code_of Open = 0
code_of RegisterSender = 1
code_of TrySend = 2
code_of TrySendUnsignaled = 3
code_of DropSender = 4
code_of TryRecv = 5
code_of TryRecvFair = 6
code_of TryRecvFrom = 7
code_of TryRecvBatchInto = 8
code_of Pause = 9
code_of Resume = 10
code_of CloseLane = 11
code_of ReleaseConsumed = 12
code_of PollAllLanes = 13
code_of CloseReceiver = 14
code_of CountHeld = 15
code_of TryRecvBatchIntoWhile = 16

-- the kind with this code, or an error with a code that no kind has
abbrev pub Decodes : ℕ → Result Kind UnknownKind → Type 0
Decodes code r = MatchResult r (λ kind. (code_of kind ≡ code) × (code ≤ 16)) (λ e. (e.0 ≡ code) × (16 < code))
