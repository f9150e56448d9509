-- The held count, by the calls and their answers alone.
-- Assumes nothing.
use Rattle.std.specs.Prelude.{◌≡◌, List, [], ◌∷◌, ◌++◌, ℕ, ◌+◌, length}
use Rattle.model.specs.declared.Opening.{Opening}
use Rattle.model.specs.declared.ControlCall.TheVariants.{CountHeld}
use Rattle.model.specs.declared.Call.{Call}
use Rattle.model.specs.declared.Call.TheVariants.{Control}
use Rattle.model.specs.declared.Answer.{Answer}
use Rattle.model.specs.declared.Answer.TheVariants.{Done, Held}
use Rattle.model.specs.Lists.{if}
use Rattle.model.specs.Runs.{Rules, RunsOf, all_runs, Tick, ends, trace}
use Rattle.model.specs.Ledger.{Lane, at_opening, ledger_after}

-- "the harness counts it, per registered lane, as accepted sends less items handed out"
-- A closed lane is not registered; one that was retired otherwise was empty.
unfoldable pub held_by : Lane → ℕ
held_by l = if l.closed 0 (length l.holds)

unfoldable pub held_by_lanes : List Lane → ℕ
held_by_lanes [] = 0
held_by_lanes (l ∷ ls) = held_by l + held_by_lanes ls

-- "the number of items in rings of registered lanes, paused ones too", as it has to be answered at every point of a run.
-- The claim is about all of `runs`.
unfoldable pub HeldAsCountedIn : (R : Rules) → RunsOf R → Type 0
HeldAsCountedIn R runs =
    (o : Opening) (lent : R.Stores) → (R.opens o lent).0 ≡ Done
    → (calls : List Call) → runs o lent calls
    → (before rest : List Tick) (a : Answer)
    → trace R (R.opens o lent).1 calls ≡ before ++ (ends (Control CountHeld) a ∷ rest)
    → a ≡ Held (held_by_lanes (ledger_after at_opening before).lanes)

unfoldable pub HeldAsCounted : Rules → Type 0
HeldAsCounted R = HeldAsCountedIn R (all_runs R)
