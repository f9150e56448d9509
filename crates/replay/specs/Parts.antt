-- What is claimed of an input that comes in parts, whatever they are: the texts, joined, are the lines of all its bytes.
-- Assumes nothing.
use Rattle.std.specs.Prelude.{List, [], ◌∷◌, ◌++◌, ◌≡◌, ℕ, ◌+◌, ◌*◌, ◌≤◌, length, Err}
use Rattle.wire_record.specs.declared.record.Record.{Record}
use Rattle.wire_record.specs.declared.record.Unread.TheVariants.{Incomplete}
use Rattle.wire_record.specs.Record.{parse}
use Rattle.wire_record.specs.Stream.{Reads, Ending, ended, malformed, stream}
use Rattle.replay_serve.specs.declared.calls.Stores.{Stores}
use Rattle.replay_serve.specs.Calls.{lines_of, stores_after, started}
use Rattle.replay_serve.specs.Serve.{malformed_line}
use Rattle.replay.specs.declared.place.Next.{Next}
use Rattle.replay.specs.declared.place.Next.TheVariants.{Read, Stop}
use Rattle.replay.specs.Rounds.{Rounds}

-- parts, one behind the other
abbrev pub joined : List (List ℕ) → List ℕ
joined [] = []
joined (p ∷ ps) = p ++ joined ps

abbrev pub ending_line : Ending → List ℕ
ending_line ended = []
ending_line malformed = malformed_line

-- The lines of a whole input, from these stores: one for each of its records, in their order, up to the end or to what is malformed, which has the last line.
unfoldable pub answers : List ℕ → Stores → List ℕ
answers b s = lines_of (stream b).records s ++ ending_line (stream b).ending

-- the last read brought nothing
pub record Ended (parts : List (List ℕ)) : Type 0 where
  pub before : List (List ℕ)
  pub last : parts ≡ before ++ [] ∷ []

-- Before the program stops: the texts are the lines of the first records that came, the rest follows these, and where more is read no whole record is left.
pub record SoFar (parts texts : List (List ℕ)) (s : Stores) (rest : List ℕ) (n : Next) : Type 0 where
  pub records : List Record
  pub reads : Reads (joined parts) records rest
  pub stores : s ≡ stores_after records started
  pub lines : joined texts ≡ lines_of records started
  pub all : n ≡ Read → parse rest ≡ Err Incomplete

pub record PartsAnswered : Type 0 where
  -- Once the program has stopped, whatever c follows that it has not read: nothing, where the last read brought nothing.
  pub whole : {k : ℕ} {parts texts : List (List ℕ)} {s : Stores} {rest : List ℕ} → Rounds k parts texts s rest Stop
      → (c : List ℕ) → (Ended parts → c ≡ []) → joined texts ≡ answers (joined parts ++ c) started
  pub stores : {k : ℕ} {parts texts : List (List ℕ)} {s : Stores} {rest : List ℕ} → Rounds k parts texts s rest Stop
      → s ≡ stores_after (stream (joined parts)).records started
  -- Before that: nothing is lost and nothing is answered twice, whatever follows.
  pub so_far : {k : ℕ} {parts texts : List (List ℕ)} {s : Stores} {rest : List ℕ} {n : Next} → Rounds k parts texts s rest n → (n ≡ Stop → ⊥)
      → SoFar parts texts s rest n
  pub first : {k : ℕ} {parts texts : List (List ℕ)} {s : Stores} {rest : List ℕ} {n : Next} → Rounds k parts texts s rest n → (n ≡ Stop → ⊥)
      → (c : List ℕ) → answers (joined parts ++ c) started ≡ joined texts ++ answers (rest ++ c) s
  -- The lines do not depend on the parts.
  pub alike : {k j : ℕ} {parts others texts lines : List (List ℕ)} {s u : Stores} {rest left : List ℕ} → Rounds k parts texts s rest Stop → Rounds j others lines u left Stop
      → joined parts ≡ joined others → joined texts ≡ joined lines
  -- Each round reads a byte, follows a full text or is the last.
  pub few : {k : ℕ} {parts texts : List (List ℕ)} {s : Stores} {rest : List ℕ} {n : Next} → Rounds k parts texts s rest n → k ≤ 2 * length (joined parts) + 1
