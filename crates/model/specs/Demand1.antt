-- Demand 1, what it says of the state. A claim about any rules; it is proved of document 01's.
-- Assumes nothing.
use Rattle.std.specs.Prelude.{◌≡◌}
use Rattle.model.specs.declared.Call.{Call}
use Rattle.model.specs.declared.Refusal.{Refusal}
use Rattle.model.specs.declared.Answer.TheVariants.{Refused}
use Rattle.model.specs.Runs.{Rules}

-- "a refusal leaves state, both stores and the output unchanged"; of the stores and the output it is shown of the code
unfoldable pub RefusalChangesNothing : Rules → Type 0
RefusalChangesNothing R = (s : R.State) (c : Call) (r : Refusal) → (R.step s c).0 ≡ Refused r → (R.step s c).1 ≡ s
