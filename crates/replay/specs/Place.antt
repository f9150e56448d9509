-- The bytes in the program's buffer, and a round over them.
-- Assumes nothing.
use Rattle.std.specs.Prelude.{List, ◌≡◌, ℕ, zero, suc, ◌+◌, ◌-◌, ◌≤◌, length, take, drop, Ok, Err}
use Rattle.wire_record.specs.declared.record.Unread.TheVariants.{Incomplete, Malformed}
use Rattle.wire_line.specs.Text.{Puts}
use Rattle.replay_serve.specs.declared.serve.Reached.{Reached}
use Rattle.replay_serve.specs.declared.calls.Stores.{Stores}
use Rattle.replay_serve.specs.Serve.{Found}
use Rattle.replay.specs.declared.place.Next.{Next}
use Rattle.replay.specs.declared.place.Next.TheVariants.{Read, Answer, End, Stop}
use Rattle.replay.specs.declared.place.Place.{Place}
use Rattle.replay.specs.Rounds.{cut_line, Round, Last}

-- the bytes from one place of the buffer to another
abbrev pub between : ℕ → ℕ → List ℕ → List ℕ
between at have b = take (have - at) (drop at b)

-- the buffer and the text have 65,536 bytes, as their types say
abbrev pub Sized : List ℕ → Type 0
Sized l = length l ≡ 65536

-- what comes next after a read that brought so many bytes: where it brought none, the input has ended
abbrev pub next_after : ℕ → Next
next_after zero = End
next_after (suc k) = Answer

-- A place that asks for bytes, after a read that did not fail: so many came behind those that the buffer has. That there was room for them the place says.
pub record Received (p q : Place) : Type 0 where
  pub size : ℕ
  pub next : q.next ≡ next_after size
  pub at : q.at ≡ p.at
  pub have : q.have ≡ p.have + size
  pub end : q.end ≡ p.end

-- only a place that asks for bytes gets any
abbrev pub FetchedBy : Next → Place → Place → Type 0
FetchedBy Read p q = Received p q
FetchedBy Answer p q = q ≡ p
FetchedBy End p q = q ≡ p
FetchedBy Stop p q = q ≡ p

-- the bytes that the buffer had stay where they are, and all of it where nothing is asked for
pub record Fetched (p : Place) (b d : List ℕ) (q : Place) : Type 0 where
  pub untouched : (p.next ≡ Read → ⊥) → d ≡ b
  pub kept : take p.have d ≡ take p.have b
  pub long : length d ≡ length b
  pub takes : FetchedBy p.next p q

-- a read that failed: the place had asked for bytes, and those that the buffer had stay where they are
pub record Unfetched (p : Place) (b d : List ℕ) : Type 0 where
  pub asked : p.next ≡ Read
  pub kept : take p.have d ≡ take p.have b
  pub long : length d ≡ length b

-- after a write of what is due of the text, nothing is due
pub record Flushed (p q : Place) : Type 0 where
  pub next : q.next ≡ p.next
  pub at : q.at ≡ p.at
  pub have : q.have ≡ p.have
  pub due : q.end ≡ 0

-- where the records up to a place are answered, by what was found there: the buffer stays, or what is left of it goes to the front
abbrev pub LeftBy : Found → ℕ → ℕ → List ℕ → List ℕ → Place → Type 0
LeftBy (Err Malformed) at have b d p = (p.next ≡ Stop) × (p.at ≡ at) × (p.have ≡ have) × (d ≡ b)
LeftBy (Ok u) at have b d p = (p.next ≡ Answer) × (p.at ≡ at) × (p.have ≡ have) × (d ≡ b)
LeftBy (Err Incomplete) at have b d p = (p.next ≡ Read) × (p.at ≡ 0) × (p.have ≡ have - at) × (take (have - at) d ≡ between at have b)

pub record Left (t : Reached) (have : ℕ) (b d : List ℕ) (p : Place) : Type 0 where
  pub end : p.end ≡ t.end
  pub long : length d ≡ length b
  pub does : LeftBy t.found t.at have b d p

-- where the input has ended: the line that is due is put, and the program stops
pub record Finished (p : Place) (text v : List ℕ) (q : Place) : Type 0 where
  pub next : q.next ≡ Stop
  pub at : q.at ≡ p.at
  pub have : q.have ≡ p.have
  pub put : Puts text 0 (cut_line (p.have - p.at)) v q.end
  pub room : q.end ≤ 65536

-- the last round where the input has ended, else a round over what is not answered yet
abbrev pub RoundBy : Next → Stores → List ℕ → Stores → List ℕ → List ℕ → Next → Type 0
RoundBy End s b u rest text n = Last s b u rest text n
RoundBy Read s b u rest text n = Round s b u rest text n
RoundBy Answer s b u rest text n = Round s b u rest text n
RoundBy Stop s b u rest text n = Round s b u rest text n

-- by what is asked; that the place after it is inside the buffer the place itself says
pub record Rounded (asked : Next) (p : Place) (s : Stores) (b : List ℕ) (u : Stores) (d text : List ℕ) (q : Place) : Type 0 where
  pub sized : Sized d × Sized text
  pub room : q.end ≤ 65536
  pub does : RoundBy asked s (between p.at p.have b) u (between q.at q.have d) (take q.end text) q.next
