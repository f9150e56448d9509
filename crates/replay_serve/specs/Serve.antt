-- What a turn and a run of turns do: the records of the input in their order, each answered on a line.
-- Assumes nothing.
use Rattle.std.specs.Prelude.{List, [], ◌++◌, ◌≡◌, ℕ, ◌+◌, ◌≤◌, ◌<◌, length, drop, Result, Ok, Err}
use Rattle.model.specs.declared.Answer.{Answer}
use Rattle.model.specs.declared.Refusal.TheVariants as Refusal
use Rattle.wire_record.specs.declared.record.Record.{Record}
use Rattle.wire_record.specs.declared.record.Unread.{Unread}
use Rattle.wire_record.specs.declared.record.Unread.TheVariants.{Incomplete, Malformed}
use Rattle.wire_record.specs.Record.{Parsed, parse}
use Rattle.wire_record.specs.Stream.{Reads}
use Rattle.wire_line.specs.Text.{Puts, answer_text, longest}
use Rattle.replay_serve.specs.declared.serve.Reached.{Reached}
use Rattle.replay_serve.specs.declared.calls.Stores.{Stores}
use Rattle.replay_serve.specs.Calls.{answered, line_of, lines_of, stores_after}

-- the line of a malformed record
abbrev pub malformed_line : List ℕ
malformed_line = answer_text (Answer.Refused Refusal.Malformed) []

-- what stood at the place reached: a record that was answered, or too little to tell, or no record
abbrev pub Found : Type 0
Found = Result Unit Unread

abbrev pub answered_one : Found
answered_one = Ok tt

-- by what stands at the place: nothing is done; a line is put and nothing else is done; the call is made and its line is put
abbrev pub TurnedBy : Parsed → ℕ → ℕ → Stores → Stores → List ℕ → List ℕ → Reached → Type 0
TurnedBy (Err Incomplete) at end s u text v t = (t.found ≡ Err Incomplete) × (t.at ≡ at) × (t.end ≡ end) × (u ≡ s) × (v ≡ text)
TurnedBy (Err Malformed) at end s u text v t = (t.found ≡ Err Malformed) × (t.at ≡ at) × (u ≡ s) × Puts text end malformed_line v t.end
TurnedBy (Ok w) at end s u text v t = (t.found ≡ answered_one) × (t.at ≡ at + w.size) × (u ≡ (answered w.«record» s).1) × Puts text end (line_of w.«record» s) v t.end

pub record Turned (input : List ℕ) (at end : ℕ) (s u : Stores) (text v : List ℕ) (t : Reached) : Type 0 where
  pub inside : t.at ≤ length input
  pub forward : t.found ≡ answered_one → at < t.at
  pub room : t.end ≤ end + longest
  pub does : TurnedBy (parse (drop at input)) at end s u text v t

-- what stands where a run stopped, or else that the text has no room for one more line, whatever it is; and the line that the run has left for it
abbrev pub StopsAt : Found → Parsed → ℕ → Type 0
StopsAt (Err Incomplete) p end = p ≡ Err Incomplete
StopsAt (Err Malformed) p end = p ≡ Err Malformed
StopsAt (Ok u) p end = 65536 < end + longest

abbrev pub last_line : Found → List ℕ
last_line (Err Incomplete) = []
last_line (Err Malformed) = malformed_line
last_line (Ok u) = []

-- The records from one place of the input to another are answered in their order: the stores are those after them, and the text has their lines.
pub record Served (input : List ℕ) (from : ℕ) (s u : Stores) (text v : List ℕ) (t : Reached) : Type 0 where
  pub inside : t.at ≤ length input
  pub room : t.end ≤ 65536
  pub records : List Record
  pub reads : Reads (drop from input) records (drop t.at input)
  pub stores : u ≡ stores_after records s
  pub stops : StopsAt t.found (parse (drop t.at input)) t.end
  pub put : Puts text 0 (lines_of records s ++ last_line t.found) v t.end
