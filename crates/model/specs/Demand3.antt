-- Demand 3. A claim about any rules; it is proved of document 01's.
-- Assumes nothing.
use Rattle.std.specs.Prelude.{◌≡◌, true, false, List, ◌++◌, ℕ, ◌+◌, ◌-◌, ◌*◌, ◌≤◌}
use Rattle.model.specs.declared.LaneKey.{LaneKey}
use Rattle.model.specs.declared.Opening.{Opening}
use Rattle.model.specs.declared.Call.{Call}
use Rattle.model.specs.declared.Answer.TheVariants.{Done}
use Rattle.model.specs.Runs.{Rules, RunsOf, all_runs, Tick, trace, same_key, count_ticks, of_lane}
use Rattle.model.specs.Ledger.{Ledger, at_opening, ledger_after, waits}
use Rattle.model.specs.Stretch.{stretch, looks_in_vain, untargeted_of_other, not_fair, stopped, most_live, groups_at}

-- "64 × (G + R - 1)"
unfoldable pub bound : ℕ → ℕ → ℕ
bound G R = 64 * (G + R - 1)

-- What is promised of a stretch `st` of lane k that begins where the ledger is L.
pub record Promise (k : LaneKey) (L : Ledger) (st : List Tick) : Type 0 where
  -- "In it no plain, fair or non-zero batch receive answers Empty or Disconnected"
  pub sees : count_ticks looks_in_vain st ≡ 0
  -- "untargeted receives hand out at most 64 × (G + R - 1) items of other lanes", with G and R as the demand says
  pub bounded : count_ticks (untargeted_of_other k) st ≤ bound (groups_at (ledger_after L st)) (most_live L st)
  -- "If the stretch's receives, refused ones aside, are all fair, each other lane gives at most one."
  pub fair_once : count_ticks not_fair st ≡ 0 → (j : LaneKey) → same_key j k ≡ false → count_ticks (of_lane j) st ≤ 1

-- "For every list of sender calls, receiver calls and held, refused ones included, made from an accepted opening on"
-- "take any point where an unpaused, unclosed lane holds an ordinarily sent item and the receiver is open"
-- The claim is about all of `runs`.
unfoldable pub Demand3In : (R : Rules) → RunsOf R → Type 0
Demand3In R runs =
    (o : Opening) (lent : R.Stores) → (R.opens o lent).0 ≡ Done
    → (calls : List Call) → runs o lent calls
    → (before rest : List Tick) → trace R (R.opens o lent).1 calls ≡ before ++ rest
    → (k : LaneKey) → waits k (ledger_after at_opening before) ≡ true
    → Promise k (ledger_after at_opening before) (stretch k rest)

-- Document 02, N2: "demand 3's bounds cover stretches in which no batch was stopped". Demand 3 as it stands above covers the others too, and so says more.
unfoldable pub Demand3UnstoppedIn : (R : Rules) → RunsOf R → Type 0
Demand3UnstoppedIn R runs =
    (o : Opening) (lent : R.Stores) → (R.opens o lent).0 ≡ Done
    → (calls : List Call) → runs o lent calls
    → (before rest : List Tick) → trace R (R.opens o lent).1 calls ≡ before ++ rest
    → (k : LaneKey) → waits k (ledger_after at_opening before) ≡ true
    → count_ticks stopped (stretch k rest) ≡ 0
    → Promise k (ledger_after at_opening before) (stretch k rest)

unfoldable pub Demand3 : Rules → Type 0
Demand3 R = Demand3In R (all_runs R)
