-- How a run of the program ends, and what is claimed of it.
-- Assumes nothing.
use Rattle.std.specs.Prelude.{List, [], ◌∷◌, ◌++◌, ◌≡◌, ℕ, ◌+◌, ◌-◌, ◌^◌, ◌≤◌, ◌<◌, length, take, Result, Ok, Err}
use Rattle.wire_record.specs.Stream.{stream}
use Rattle.replay_serve.specs.declared.calls.Stores.{Stores}
use Rattle.replay_serve.specs.Calls.{stores_after, started}
use Rattle.replay.specs.declared.place.Next.{Next}
use Rattle.replay.specs.declared.place.Next.TheVariants.{Read, Answer, End, Stop}
use Rattle.replay.specs.declared.place.Place.{Place}
use Rattle.replay.specs.declared.failure.Failure.{Failure}
use Rattle.replay.specs.declared.failure.Failure.TheVariants.{ReadFailed, WriteFailed, TurnsOver}
use Rattle.replay.specs.Rounds.{Rounds}
use Rattle.replay.specs.Place.{between, Sized, Fetched, Rounded}
use Rattle.replay.specs.Parts.{joined, answers, Ended}

-- What a turn of the loop adds to the parts, by what came next before and after its read: the bytes that came, `[]` where a read brought none, nothing where none was asked for.
abbrev pub came_in : Next → Next → List ℕ → List (List ℕ)
came_in Read Answer part = part ∷ []
came_in Read End part = [] ∷ []
came_in Read Read part = []
came_in Read Stop part = []
came_in Answer n part = []
came_in End n part = []
came_in Stop n part = []

-- A turn of the loop, from place p over m to q, where the buffer is b, then d, then x, and the text v: `fetch` and `round` make one round more, whose part is the bytes that
-- then stand behind those that the buffer had, and whose text is what is due of v.
pub record TurnsAdd : Type 0 where
  pub turn : {k : ℕ} {parts texts : List (List ℕ)} {s u : Stores} {b d x v : List ℕ} {p m q : Place} → Sized b → (p.next ≡ Stop → ⊥)
      → Rounds k parts texts s (between p.at p.have b) p.next → Fetched p b d m → Rounded m.next m s d u x v q
      → Rounds (k + 1) (parts ++ came_in p.next m.next (between p.have m.have d)) (texts ++ take q.end v ∷ []) u (between q.at q.have x) q.next

-- the last of these texts has something in it
pub record LastDue (texts : List (List ℕ)) : Type 0 where
  pub before : List (List ℕ)
  pub text : List ℕ
  pub last : texts ≡ before ++ text ∷ []
  pub due : 0 < length text

-- how a run of the program ends
abbrev pub Outcome : Type 0
Outcome = Result Unit Failure

-- The program stopped; or a read that was asked for failed; or a write of the last text did, which is not empty; or all its turns were rounds.
abbrev pub EndsAs : Outcome → ℕ → List (List ℕ) → Next → Type 0
EndsAs (Ok u) k texts n = n ≡ Stop
EndsAs (Err ReadFailed) k texts n = n ≡ Read
EndsAs (Err WriteFailed) k texts n = LastDue texts
EndsAs (Err TurnsOver) k texts n = k ≡ 2 ^ 64 - 1

-- The stores at the end of a run are those after rounds from the start. That their parts and texts are what stood in the buffer and in the text is said of each turn, by `TurnsAdd`.
pub record Ran (o : Outcome) (s : Stores) : Type 0 where
  pub count : ℕ
  pub parts : List (List ℕ)
  pub texts : List (List ℕ)
  pub rest : List ℕ
  pub next : Next
  pub rounds : Rounds count parts texts s rest next
  pub ends : EndsAs o count texts next

pub record RunsAnswer : Type 0 where
  -- Where nothing failed: the lines of all that was read and of whatever follows, which is nothing where the last read brought nothing.
  pub lines : {s : Stores} (r : Ran (Ok tt) s) (c : List ℕ) → (Ended r.parts → c ≡ []) → joined r.texts ≡ answers (joined r.parts ++ c) started
  pub stores : {s : Stores} (r : Ran (Ok tt) s) → s ≡ stores_after (stream (joined r.parts)).records started
  -- No shorter input uses up the turns.
  pub long : {s : Stores} (r : Ran (Err TurnsOver) s) → 2 ^ 63 - 1 ≤ length (joined r.parts)
