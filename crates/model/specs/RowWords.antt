-- Document 02, N9: "Answers of every run, the stores otherwise untouched, are those of before where the opening was accepted under both lengths."
-- The rules of an opening speak of the table store's length in one place, refusal 4. Those of before have 24 words for each slot there, document 01's
-- "a table store of at least 24 × S + 512". (Refusal 5 goes by the length too, and no call of a run from an accepted opening is refused so.)
-- A claim about any rules; it is proved of document 01's with the 16 of document 02.
-- Assumes nothing.
use Rattle.std.specs.Prelude.{◌≡◌, List, ℕ}
use Rattle.model.specs.declared.Opening.{Opening}
use Rattle.model.specs.declared.ReceiveCall.{ReceiveCall}
use Rattle.model.specs.declared.Call.{Call}
use Rattle.model.specs.declared.Answer.TheVariants.{Done}
use Rattle.model.specs.Runs.{Lent, Rules, RunsOf, all_runs, trace, after_list}
use Rattle.model.specs.Rules.{rules_with_rows_of}
use Rattle.model.specs.Demand2.{HasRoom}

-- What is claimed of an opening, where the rules of before have n words for each slot.
pub record SameWithRowsOf (n : ℕ) (R : Rules) (runs : RunsOf R) (o : Opening) (lent : R.Stores) : Type 0 where
  -- if it was accepted, it is accepted on the same stores
  pub still_accepted : ((rules_with_rows_of n).opens o (R.lengths lent)).0 ≡ Done → (R.opens o lent).0 ≡ Done
  -- if it is accepted, and was accepted on stores of these or of other lengths, the calls of a run answer the same and hand out the same items of the same lanes,
  pub same_run : (R.opens o lent).0 ≡ Done → (was : Lent) → ((rules_with_rows_of n).opens o was).0 ≡ Done → (calls : List Call) → runs o lent calls
      → trace R (R.opens o lent).1 calls ≡ trace (rules_with_rows_of n) ((rules_with_rows_of n).opens o was).1 calls
  -- and after them the next receive writes the same into its output
  pub same_output : (R.opens o lent).0 ≡ Done → (was : Lent) → ((rules_with_rows_of n).opens o was).0 ≡ Done → (calls : List Call) → runs o lent calls
      → (r : ReceiveCall) (out : List ℕ) → HasRoom r out
      → R.output (after_list R (R.opens o lent).1 calls) r out
      ≡ (rules_with_rows_of n).output (after_list (rules_with_rows_of n) ((rules_with_rows_of n).opens o was).1 calls) r out

-- The claim is about all of `runs`.
unfoldable pub AnswersAsBeforeIn : (R : Rules) → RunsOf R → Type 0
AnswersAsBeforeIn R runs = (o : Opening) (lent : R.Stores) → SameWithRowsOf 24 R runs o lent

unfoldable pub AnswersAsBefore : Rules → Type 0
AnswersAsBefore R = AnswersAsBeforeIn R (all_runs R)
