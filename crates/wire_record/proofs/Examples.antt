-- The records of document 01's example compute, and so do inputs around it.
-- Assumes nothing.
use mathlib.Core.Path.{◌≡◌, refl}
use mathlib.Core.List.{[], ◌∷◌, ◌++◌, map}
use Rattle.std.specs.Prelude.{Err}
use Rattle.model.specs.declared.ReceiveCall.TheVariants.{TryRecv, TryRecvBatchInto, TryRecvBatchIntoWhile}
use Rattle.model.specs.declared.Call.TheVariants.{Receive}
use Rattle.wire_record.specs.declared.record.Record.TheVariants.{Call}
use Rattle.wire_record.specs.declared.record.Unread.TheVariants.{Incomplete, Malformed}
use Rattle.wire_record.specs.Record.{most_fields, number, fields_of, whole, parse_as, parse}
use Rattle.wire_record.specs.Stream.{stream_in, stream, ended, malformed}
use Rattle.wire_record.specs.Examples.{u64, receive, seven_bytes, seven_records, each_kind_bytes, each_kind_records}

pub receive_is : parse receive ≡ whole (Call (Receive TryRecv)) 4
unfolding parse parse_as number
receive_is = refl

pub seven_records_lem : stream seven_bytes ≡ record { records = seven_records; ending = ended }
unfolding stream stream_in parse parse_as number
seven_records_lem = refl

pub each_kind_lem : stream each_kind_bytes ≡ record { records = each_kind_records; ending = ended }
unfolding stream stream_in parse parse_as number
each_kind_lem = refl

-- "input ending inside a record"
pub cut_record : stream (receive ++ (2 ∷ 0 ∷ 5 ∷ [])) ≡ record { records = Call (Receive TryRecv) ∷ []; ending = malformed }
unfolding stream stream_in parse parse_as number
cut_record = refl

-- "it stops": what follows a malformed record is not read
pub stops_there : stream (receive ++ (3 ∷ 0 ∷ 5 ∷ 0 ∷ 0 ∷ []) ++ receive) ≡ record { records = Call (Receive TryRecv) ∷ []; ending = malformed }
unfolding stream stream_in parse parse_as number
stops_there = refl

-- "a kind not listed", in its low and in its high byte, and "a length that is not its kind's"
pub not_listed : parse (2 ∷ 0 ∷ 17 ∷ 0 ∷ []) ≡ Err Malformed
unfolding parse parse_as number
not_listed = refl

pub not_listed_high : parse (2 ∷ 0 ∷ 5 ∷ 1 ∷ []) ≡ Err Malformed
unfolding parse parse_as number
not_listed_high = refl

pub other_length : parse ((10 ∷ 0 ∷ 5 ∷ 0 ∷ []) ++ u64 0) ≡ Err Malformed
unfolding parse parse_as number
other_length = refl

pub other_length_high : parse (2 ∷ 1 ∷ 5 ∷ 0 ∷ []) ≡ Err Malformed
unfolding parse parse_as number
other_length_high = refl

-- the bound on fields is met, by an opening
pub most_met : fields_of 0 ≡ most_fields
unfolding fields_of
most_met = refl

-- document 02, N7: the lengths without the opening number are no longer their kinds', of an opening and of the four calls by lane id
pub without_number :
    map parse ((42 ∷ 0 ∷ 0 ∷ 0 ∷ []) ∷ (26 ∷ 0 ∷ 7 ∷ 0 ∷ []) ∷ (26 ∷ 0 ∷ 9 ∷ 0 ∷ []) ∷ (26 ∷ 0 ∷ 10 ∷ 0 ∷ []) ∷ (26 ∷ 0 ∷ 11 ∷ 0 ∷ []) ∷ [])
    ≡ Err Malformed ∷ Err Malformed ∷ Err Malformed ∷ Err Malformed ∷ Err Malformed ∷ []
unfolding parse parse_as number
without_number = refl

-- document 02, N2: "kind 16 (limit, bound)", so any number of fields but two is not its kind's: none, one and three
pub other_length_while :
    map parse ((2 ∷ 0 ∷ 16 ∷ 0 ∷ []) ∷ ((10 ∷ 0 ∷ 16 ∷ 0 ∷ []) ++ u64 4) ∷ ((26 ∷ 0 ∷ 16 ∷ 0 ∷ []) ++ u64 4 ++ u64 5 ++ u64 6) ∷ []) ≡ Err Malformed ∷ Err Malformed ∷ Err Malformed ∷ []
unfolding parse parse_as number
other_length_while = refl

-- the beginning of a batch, and a batch with each byte of its limit another
pub begun : parse (10 ∷ 0 ∷ 8 ∷ 0 ∷ 1 ∷ 0 ∷ 0 ∷ []) ≡ Err Incomplete
unfolding parse parse_as number
begun = refl

pub batch : parse (10 ∷ 0 ∷ 8 ∷ 0 ∷ 8 ∷ 7 ∷ 6 ∷ 5 ∷ 4 ∷ 3 ∷ 2 ∷ 1 ∷ 255 ∷ []) ≡ whole (Call (Receive (TryRecvBatchInto 72623859790382856 64))) 12
unfolding parse parse_as number
batch = refl

-- a batch with a bound whose bytes end inside the bound, and one with each byte of its bound another, and a byte after it
pub begun_while : parse ((18 ∷ 0 ∷ 16 ∷ 0 ∷ []) ++ u64 4 ++ (5 ∷ 0 ∷ 0 ∷ [])) ≡ Err Incomplete
unfolding parse parse_as number
begun_while = refl

pub batch_while_lem : parse ((18 ∷ 0 ∷ 16 ∷ 0 ∷ []) ++ u64 4 ++ (8 ∷ 7 ∷ 6 ∷ 5 ∷ 4 ∷ 3 ∷ 2 ∷ 1 ∷ 255 ∷ [])) ≡ whole (Call (Receive (TryRecvBatchIntoWhile 4 72623859790382856 64))) 20
unfolding parse parse_as number
batch_while_lem = refl
