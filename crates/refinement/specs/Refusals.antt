-- Demand 1 on refusals, of any calls on two stores.
-- Assumes nothing.
use Rattle.std.specs.Prelude.{◌≡◌, List, ℕ}
use Rattle.model.specs.declared.Opening.{Opening}
use Rattle.model.specs.declared.ReceiveCall.{ReceiveCall}
use Rattle.model.specs.declared.Call.{Call}
use Rattle.model.specs.declared.Call.TheVariants.{Receive}
use Rattle.model.specs.declared.Refusal.{Refusal}
use Rattle.model.specs.declared.Answer.TheVariants.{Refused}
use Rattle.model.specs.Demand2.{HasRoom}
use Rattle.opening.specs.Opening.{open_store}
use Rattle.refinement.specs.Runs.{StoreCalls}

-- "a refusal leaves state, both stores and the output unchanged", of stores in order or not
pub record RefusalsLeaveAll (M : StoreCalls) : Type 0 where
  pub of_calls : (t r : List ℕ) (c : Call) (why : Refusal) → (M.words t r c).0 ≡ Refused why → M.words t r c ≡ (Refused why, t, r)
  pub of_outputs : (t r out : List ℕ) (c : ReceiveCall) (why : Refusal) → HasRoom c out → (M.words t r (Receive c)).0 ≡ Refused why → M.output t r c out ≡ out
  pub of_openings : (t r : List ℕ) (o : Opening) (why : Refusal) → (open_store o t r).0 ≡ Refused why → open_store o t r ≡ (Refused why, t, r)
