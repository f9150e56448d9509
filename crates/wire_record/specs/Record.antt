-- Document 01, "Replay program": records on bytes, "u16 length of what follows, two-byte kind, u64 fields, all little-endian".
-- Assumes nothing.
use Rattle.std.specs.Prelude.{cond, List, [], ◌∷◌, ℕ, zero, suc, ◌+◌, ◌*◌, length, get_or, ltb, eqb, Result, Ok, Err}
use Rattle.std.proofs.Math.Option.{Option, none, some}
use Rattle.std.proofs.Math.ListN.{get_elem?}
use Rattle.model.specs.declared.LaneKey.{LaneKey}
use Rattle.model.specs.declared.LaneId.{LaneId}
use Rattle.model.specs.declared.Opening.{Opening}
use Rattle.model.specs.declared.SenderCall.TheVariants.{RegisterSender, TrySend, TrySendUnsignaled, DropSender}
use Rattle.model.specs.declared.ReceiveCall.TheVariants.{TryRecv, TryRecvFair, TryRecvFrom, TryRecvBatchInto, TryRecvBatchIntoWhile}
use Rattle.model.specs.declared.ControlCall.TheVariants.{Pause, Resume, CloseLane, ReleaseConsumed, PollAllLanes, CloseReceiver, CountHeld}
use Rattle.model.specs.declared.Call.TheVariants.{Sender, Receive, Control}
use Rattle.wire_record.specs.declared.record.Record.{Record}
use Rattle.wire_record.specs.declared.record.Record.TheVariants.{Open, Call}
use Rattle.wire_record.specs.declared.record.Whole.{Whole}
use Rattle.wire_record.specs.declared.record.Unread.{Unread}
use Rattle.wire_record.specs.declared.record.Unread.TheVariants.{Incomplete, Malformed}

-- the number that the n bytes from place i on stand for: "little-endian", the lowest first
unfoldable pub number : List ℕ → ℕ → ℕ → ℕ
number b i zero = 0
number b i (suc n) = get_or b i 0 + 256 * number b (i + 1) n

-- field j of the record at the head, after the length and the kind
abbrev pub field : List ℕ → ℕ → ℕ
field b j = number b (4 + 8 * j) 8

-- "(slot, generation)", the fields from j on
abbrev pub key : List ℕ → ℕ → LaneKey
key b j = record { slot = field b j; generation = field b (j + 1) }

-- "(channel, slot, generation)" and, of document 02's N7, "the number as a last field"
abbrev pub id : List ℕ → LaneId
id b = record { channel = record { id = field b 0; opening = field b 3 }; key = key b 1 }

-- "(capacity, S, channel, cursor, generation)" and "the number as a last field"
abbrev pub opening : List ℕ → Opening
opening b = record { capacity = field b 0; slots = field b 1; channel = field b 2; cursor = field b 3; generation = field b 4; number = field b 5 }

-- "output 64"
abbrev pub room : ℕ
room = 64

-- A kind of record: how many fields it has, and what it asks for.
pub record Kind : Type 0 where
  pub fields : ℕ
  pub says : List ℕ → Record

-- "Kinds: 0 open (..), 1 register (most), 2 send, 3 unsignalled (slot, generation, item), 4 drop (slot, generation), 5 plain, 6 fair, 7 targeted (channel, slot, generation), 8 batch (limit),
-- 9 pause, 10 resume, 11 close (as 7), 12 release, 13 poll all, 14 close receiver, 15 held." Document 02, N7: "kind 0 and kinds 7, 9, 10 and 11 get the number as
-- a last field"; N2: "kind 16 (limit, bound)".
abbrev pub kinds : List Kind
kinds =
    record { fields = 6; says = λ (b : List ℕ). Open (opening b) }
    ∷ record { fields = 1; says = λ (b : List ℕ). Call (Sender (RegisterSender (field b 0))) }
    ∷ record { fields = 3; says = λ (b : List ℕ). Call (Sender (TrySend (key b 0) (field b 2))) }
    ∷ record { fields = 3; says = λ (b : List ℕ). Call (Sender (TrySendUnsignaled (key b 0) (field b 2))) }
    ∷ record { fields = 2; says = λ (b : List ℕ). Call (Sender (DropSender (key b 0))) }
    ∷ record { fields = 0; says = λ (b : List ℕ). Call (Receive TryRecv) }
    ∷ record { fields = 0; says = λ (b : List ℕ). Call (Receive TryRecvFair) }
    ∷ record { fields = 4; says = λ (b : List ℕ). Call (Receive (TryRecvFrom (id b))) }
    ∷ record { fields = 1; says = λ (b : List ℕ). Call (Receive (TryRecvBatchInto (field b 0) room)) }
    ∷ record { fields = 4; says = λ (b : List ℕ). Call (Control (Pause (id b))) }
    ∷ record { fields = 4; says = λ (b : List ℕ). Call (Control (Resume (id b))) }
    ∷ record { fields = 4; says = λ (b : List ℕ). Call (Control (CloseLane (id b))) }
    ∷ record { fields = 0; says = λ (b : List ℕ). Call (Control ReleaseConsumed) }
    ∷ record { fields = 0; says = λ (b : List ℕ). Call (Control PollAllLanes) }
    ∷ record { fields = 0; says = λ (b : List ℕ). Call (Control CloseReceiver) }
    ∷ record { fields = 0; says = λ (b : List ℕ). Call (Control CountHeld) }
    ∷ record { fields = 2; says = λ (b : List ℕ). Call (Receive (TryRecvBatchIntoWhile (field b 0) (field b 1) room)) }
    ∷ []

-- the fields of an opening; no kind has more
abbrev pub most_fields : ℕ
most_fields = 6

-- the two-byte kind, and the kind that is listed under it
abbrev pub kind_of : List ℕ → Option Kind
kind_of b = get_elem? kinds (number b 2 2)

-- of the kind listed under a number: what it says, and its number of fields
abbrev pub said_by : Option Kind → List ℕ → Option Record
said_by none b = none
said_by (some k) b = some (k.says b)

abbrev pub fields_by : Option Kind → ℕ
fields_by none = 0
fields_by (some k) = k.fields

unfoldable pub said : ℕ → List ℕ → Option Record
said k b = said_by (get_elem? kinds k) b

unfoldable pub fields_of : ℕ → ℕ
fields_of k = fields_by (get_elem? kinds k)

-- the bytes that a record with n fields takes, its length's two with them
abbrev pub size : ℕ → ℕ
size n = 4 + 8 * n

-- what stands at the head of some bytes
abbrev pub Parsed : Type 0
Parsed = Result Whole Unread

-- a record, and how many bytes it takes
abbrev pub whole : Record → ℕ → Parsed
whole r n = Ok (record { «record» = r; size = n })

-- "Length 2 + 8 × fields"; once the length is right, the record is there as soon as all of its bytes are
unfoldable pub parse_as : Option Kind → List ℕ → Parsed
parse_as none b = Err Malformed
parse_as (some k) b =
    cond (eqb (number b 0 2) (2 + 8 * k.fields))
    (cond (ltb (length b) (size k.fields)) (Err Incomplete) (whole (k.says b) (size k.fields)))
    (Err Malformed)

-- The record at the head of the bytes. "Malformed is a kind not listed, a length that is not its kind's, or input ending inside a record":
-- the first two are told as soon as the four bytes of length and kind are there, whatever follows them, and not before; fewer bytes, and bytes that end inside a record
-- whose length is its kind's, are incomplete: more bytes may make them a record, and where the input ends there it is malformed (`stream`).
unfoldable pub parse : List ℕ → Parsed
parse b = cond (ltb (length b) 4) (Err Incomplete) (parse_as (kind_of b) b)
