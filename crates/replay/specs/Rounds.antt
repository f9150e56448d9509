-- Document 01, "Replay program", on an input that comes in parts: rounds of reading, answering and writing, one after the other.
-- Assumes nothing.
use Rattle.std.specs.Prelude.{List, [], ◌∷◌, ◌++◌, ◌≡◌, ℕ, zero, suc, ◌+◌, ◌<◌, length, Err}
use Rattle.wire_record.specs.declared.record.Record.{Record}
use Rattle.wire_record.specs.declared.record.Unread.TheVariants.{Incomplete, Malformed}
use Rattle.wire_record.specs.Record.{parse}
use Rattle.wire_record.specs.Stream.{Reads}
use Rattle.replay_serve.specs.declared.calls.Stores.{Stores}
use Rattle.replay_serve.specs.Calls.{lines_of, stores_after, started}
use Rattle.replay_serve.specs.Serve.{malformed_line}
use Rattle.replay.specs.declared.place.Next.{Next}
use Rattle.replay.specs.declared.place.Next.TheVariants.{Read, Answer, End, Stop}

-- "input ending inside a record" is malformed: the line that is due where so many bytes are left
abbrev pub cut_line : ℕ → List ℕ
cut_line zero = []
cut_line (suc n) = malformed_line

-- What comes after these records, by what stands behind them: too little to tell, so that more is read; anything, where the text was full, and a record at least was
-- answered; "malformed record; it stops". That the input has ended is told by a read, and by no round.
abbrev pub GoesOn : Next → List Record → List ℕ → Type 0
GoesOn Read records rest = parse rest ≡ Err Incomplete
GoesOn Answer records rest = 0 < length records
GoesOn End records rest = ⊥
GoesOn Stop records rest = parse rest ≡ Err Malformed

-- the line behind those of the records
abbrev pub last_line : Next → List ℕ
last_line Read = []
last_line Answer = []
last_line End = []
last_line Stop = malformed_line

-- A round, from stores s and the bytes b at hand: records that they begin with are answered in their order, and the rest follows them. The stores are u then, and the text has the lines.
pub record Round (s : Stores) (b : List ℕ) (u : Stores) (rest text : List ℕ) (n : Next) : Type 0 where
  pub records : List Record
  pub reads : Reads b records rest
  pub stores : u ≡ stores_after records s
  pub lines : text ≡ lines_of records s ++ last_line n
  pub goes : GoesOn n records rest

-- The last round, where a read brought nothing: the input has ended, and no call is made.
pub record Last (s : Stores) (b : List ℕ) (u : Stores) (rest text : List ℕ) (n : Next) : Type 0 where
  pub stores : u ≡ s
  pub same : rest ≡ b
  pub lines : text ≡ cut_line (length b)
  pub stops : n ≡ Stop

-- So many rounds from the start: the parts that the reads brought, the texts that were made, and the stores, the bytes that are left and what comes next after them. Only a round
-- after `Read` has a part of its own, which it takes behind the bytes that are left.
pub data Rounds : ℕ → List (List ℕ) → List (List ℕ) → Stores → List ℕ → Next → Type 0 where
  none : Rounds 0 [] [] started [] Read
  more : {k : ℕ} {parts texts : List (List ℕ)} {s u : Stores} {l rest text : List ℕ} {n : Next}
      → Rounds k parts texts s l Read → (part : List ℕ) → 0 < length part → Round s (l ++ part) u rest text n → Rounds (k + 1) (parts ++ part ∷ []) (texts ++ text ∷ []) u rest n
  again : {k : ℕ} {parts texts : List (List ℕ)} {s u : Stores} {l rest text : List ℕ} {n : Next}
      → Rounds k parts texts s l Answer → Round s l u rest text n → Rounds (k + 1) parts (texts ++ text ∷ []) u rest n
  end : {k : ℕ} {parts texts : List (List ℕ)} {s u : Stores} {l rest text : List ℕ} {n : Next}
      → Rounds k parts texts s l Read → Last s l u rest text n → Rounds (k + 1) (parts ++ [] ∷ []) (texts ++ text ∷ []) u rest n
