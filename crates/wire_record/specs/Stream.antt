-- Document 01, "Replay program": the records of a whole input.
-- Assumes nothing.
use Rattle.std.specs.Prelude.{cond, List, [], ◌∷◌, ◌≡◌, ℕ, zero, suc, eqb, length, drop, Ok, Err}
use Rattle.wire_record.specs.declared.record.Record.{Record}
use Rattle.wire_record.specs.declared.record.Unread.TheVariants.{Incomplete, Malformed}
use Rattle.wire_record.specs.Record.{Parsed, whole, parse}

-- after the last record: nothing, or what is malformed
pub data Ending : Type 0 where
  ended malformed : Ending

-- the records that are answered, in their order, and how the input ends for the program; "it stops" at what is malformed, so nothing after it counts
pub record Stream : Type 0 where
  pub records : List Record
  pub ending : Ending

abbrev pub no_more : Ending → Stream
no_more e = record { records = []; ending = e }

abbrev pub and_then : Record → Stream → Stream
and_then r s = record { records = r ∷ s.records; ending = s.ending }

-- by what stands at the head; "input ending inside a record" is malformed
abbrev pub stream_from : Parsed → (List ℕ → Stream) → List ℕ → Stream
stream_from (Ok w) next b = and_then w.«record» (next (drop w.size b))
stream_from (Err Malformed) next b = no_more malformed
stream_from (Err Incomplete) next b = no_more malformed

-- f is at least the number of bytes, and so of records
unfoldable pub stream_in : ℕ → List ℕ → Stream
stream_in zero b = no_more ended
stream_in (suc f) b = cond (eqb (length b) 0) (no_more ended) (stream_from (parse b) (λ (l : List ℕ). stream_in f l) b)

-- the input as the program takes it
unfoldable pub stream : List ℕ → Stream
stream b = stream_in (length b) b

-- the bytes b begin with these records, and the rest follows them
pub data Reads : List ℕ → List Record → List ℕ → Type 0 where
  none : {b : List ℕ} → Reads b [] b
  one : {b rest : List ℕ} {r : Record} {rs : List Record} {n : ℕ} → parse b ≡ whole r n → Reads (drop n b) rs rest → Reads b (r ∷ rs) rest

-- records before those of a stream
abbrev pub and_then_all : List Record → Stream → Stream
and_then_all [] s = s
and_then_all (r ∷ l) s = and_then r (and_then_all l s)
