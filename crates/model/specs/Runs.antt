-- Runs of any rules: an opening, then one call after the other, each on the state as the last one left it.
-- Assumes nothing.
use Rattle.std.specs.Prelude.{Bool, true, false, List, [], ◌∷◌, ◌++◌, map, ℕ, ◌+◌, eqb}
use Rattle.model.specs.declared.LaneKey.{LaneKey}
use Rattle.model.specs.declared.Opening.{Opening}
use Rattle.model.specs.declared.ReceiveCall.{ReceiveCall}
use Rattle.model.specs.declared.Call.{Call}
use Rattle.model.specs.declared.Call.TheVariants.{Sender, Receive, Control}
use Rattle.model.specs.declared.Answer.{Answer}
use Rattle.model.specs.declared.Answer.TheVariants.{Done, Registered, Taken, Item, Items, Stopped, Empty, Disconnected, Held, Refused}
use Rattle.model.specs.Lists.{if, both}

-- The lengths of the two stores that an opening is lent.
pub record Lent : Type 0 where
  pub rings : ℕ
  pub table : ℕ

-- Rules: what an opening and a call answer and leave, which items of which lanes a receive hands out, in order, and the lent output as it leaves it.
pub record Rules : Type 1 where
  pub State : Type 0
  -- what an opening is lent: in the rules the lengths of the two stores, in code their words
  pub Stores : Type 0
  pub lengths : Stores → Lent
  pub opens : Opening → Stores → Answer × State
  pub step : State → Call → Answer × State
  pub hands : State → ReceiveCall → List (LaneKey × ℕ)
  pub output : State → ReceiveCall → List ℕ → List ℕ

-- Which runs a claim is about, by the opening, what it is lent, and the calls.
abbrev pub RunsOf : Rules → Type 1
RunsOf R = Opening → R.Stores → List Call → Type 0

-- All runs.
abbrev pub all_runs : (R : Rules) → RunsOf R
all_runs R o lent calls = Unit {0}

-- "is a result or a refusal"
unfoldable pub accepted : Answer → Bool
accepted Done = true
accepted (Registered k) = true
accepted (Taken w f) = true
accepted (Item v i) = true
accepted (Items n) = true
accepted (Stopped n) = true
accepted Empty = true
accepted Disconnected = true
accepted (Held n) = true
accepted (Refused r) = false

-- One thing that happens in a run: a receive hands out an item of a lane, or a call ends with its answer.
-- "a point may lie between two of its items"
pub data Tick : Type 0 where
  gives : ReceiveCall → LaneKey → ℕ → Tick
  ends : Call → Answer → Tick

unfoldable pub handed : (R : Rules) → R.State → Call → List Tick
handed R s (Receive r) = map (λ g. gives r g.0 g.1) (R.hands s r)
handed R s (Sender c) = []
handed R s (Control c) = []

unfoldable pub ticks : (R : Rules) → R.State → Call → List Tick
ticks R s c = handed R s c ++ (ends c (R.step s c).0 ∷ [])

-- "each on the state and stores exactly as the last one left them"
unfoldable pub trace : (R : Rules) → R.State → List Call → List Tick
trace R s [] = []
trace R s (c ∷ cs) = ticks R s c ++ trace R (R.step s c).1 cs

-- The state after a list of calls.
unfoldable pub after_list : (R : Rules) → R.State → List Call → R.State
after_list R s [] = s
after_list R s (c ∷ cs) = after_list R (R.step s c).1 cs

-- What the calls of a list answer, in order.
unfoldable pub answers : (R : Rules) → R.State → List Call → List Answer
answers R s [] = []
answers R s (c ∷ cs) = (R.step s c).0 ∷ answers R (R.step s c).1 cs

-- Two lane keys are the same.
unfoldable pub same_key : LaneKey → LaneKey → Bool
same_key i j = both (eqb i.slot j.slot) (eqb i.generation j.generation)

-- How many things of a list pass a test.
unfoldable pub count_ticks : (Tick → Bool) → List Tick → ℕ
count_ticks p [] = 0
count_ticks p (t ∷ ts) = if (p t) 1 0 + count_ticks p ts

-- Lane j gives an item.
unfoldable pub of_lane : LaneKey → Tick → Bool
of_lane j (gives c i v) = same_key i j
of_lane j (ends c a) = false
