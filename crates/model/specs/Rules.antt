-- Document 01's rules, put together.
-- Assumes nothing.
use Rattle.std.specs.Prelude.{ℕ}
use Rattle.model.specs.declared.Opening.{Opening}
use Rattle.model.specs.declared.Call.{Call}
use Rattle.model.specs.declared.Call.TheVariants.{Sender, Receive, Control}
use Rattle.model.specs.State.{State}
use Rattle.model.specs.Outcome.{Outcome}
use Rattle.model.specs.Runs.{Lent, Rules}
use Rattle.model.specs.Sender.{sender_outcome}
use Rattle.model.specs.Receive.{receive_outcome, output_after}
use Rattle.model.specs.Control.{control_outcome}
use Rattle.model.specs.Opening.{opening_with_rows_of, opening_outcome}

unfoldable pub outcome : State → Call → Outcome
outcome s (Sender c) = sender_outcome s c
outcome s (Receive r) = receive_outcome s r
outcome s (Control c) = control_outcome s c

-- Document 01's calls, after the opening that is given.
abbrev pub rules_from : (Opening → Lent → Outcome) → Rules
rules_from opening = record {
  State = State;
  Stores = Lent;
  lengths = λ lent. lent;
  opens = λ o lent. (opening o lent).1;
  step = λ s c. (outcome s c).1;
  hands = λ s r. (receive_outcome s r).0;
  output = λ s r out. output_after s r out;
}

-- What demands 2 and 3 are proved of.
abbrev pub the_rules : Rules
the_rules = rules_from opening_outcome

-- The rules with rows of n words, n words of the table store for each slot: only the opening speaks of them.
abbrev pub rules_with_rows_of : ℕ → Rules
rules_with_rows_of n = rules_from (opening_with_rows_of n)
