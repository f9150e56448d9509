-- A closed lane gives nothing more, in the rest of any run.
-- Assumes nothing.
use Rattle.std.specs.Prelude.{◌≡◌, List, ◌∷◌, ◌++◌}
use Rattle.model.specs.declared.LaneId.{LaneId}
use Rattle.model.specs.declared.Opening.{Opening}
use Rattle.model.specs.declared.ControlCall.TheVariants.{CloseLane}
use Rattle.model.specs.declared.Call.{Call}
use Rattle.model.specs.declared.Call.TheVariants.{Control}
use Rattle.model.specs.declared.Answer.TheVariants.{Done}
use Rattle.model.specs.Runs.{Rules, RunsOf, all_runs, Tick, ends, trace, count_ticks, of_lane}

-- "closed by an accepted `close_lane`, after which none of its items is handed out"
-- The claim is about all of `runs`.
unfoldable pub NoneAfterCloseIn : (R : Rules) → RunsOf R → Type 0
NoneAfterCloseIn R runs =
    (o : Opening) (lent : R.Stores) → (R.opens o lent).0 ≡ Done
    → (calls : List Call) → runs o lent calls
    → (before rest : List Tick) (i : LaneId)
    → trace R (R.opens o lent).1 calls ≡ before ++ (ends (Control (CloseLane i)) Done ∷ rest)
    → count_ticks (of_lane i.key) rest ≡ 0

unfoldable pub NoneAfterClose : Rules → Type 0
NoneAfterClose R = NoneAfterCloseIn R (all_runs R)
