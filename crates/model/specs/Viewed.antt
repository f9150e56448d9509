-- Calls whose states stand for states of the rules: the rules themselves, and calls on words. What is claimed of all of them is said once, of any.
-- Assumes nothing.
use Rattle.std.specs.Prelude.{List, ℕ}
use Rattle.model.specs.declared.LaneKey.{LaneKey}
use Rattle.model.specs.declared.Opening.{Opening}
use Rattle.model.specs.declared.ReceiveCall.{ReceiveCall}
use Rattle.model.specs.declared.Call.{Call}
use Rattle.model.specs.declared.Answer.{Answer}
use Rattle.model.specs.State.{State}
use Rattle.model.specs.Order.{InOrder}
use Rattle.model.specs.Runs.{Rules, RunsOf, all_runs, after_list}
use Rattle.model.specs.Rules.{the_rules}

pub record Viewed : Type 1 where
  pub rules : Rules
  -- the runs that are spoken of
  pub runs : RunsOf rules
  -- the rules' state that a state stands for
  pub view : rules.State → State
  -- which states are in order
  pub Ok : rules.State → Type 0

-- The rules themselves: a state stands for itself, and every run is spoken of.
abbrev pub rules_viewed : Viewed
rules_viewed = record { rules = the_rules; runs = all_runs the_rules; view = λ s. s; Ok = InOrder }

-- The rules on any state, in order or not: for sentences that hold of all.
abbrev pub rules_on_any_state : Viewed
rules_on_any_state = record { rules = the_rules; runs = all_runs the_rules; view = λ s. s; Ok = λ s. Unit {0} }

-- Of any calls W: what is set in below takes W first.
module _ (W : Viewed) where
  -- What an opening answers, and the state after it and a list of calls, each on the state as the last one left it.
  abbrev pub opening_answer : Opening → W.rules.Stores → Answer
  opening_answer o lent = (W.rules.opens o lent).0

  abbrev pub state_after_run : Opening → W.rules.Stores → List Call → W.rules.State
  state_after_run o lent calls = after_list W.rules (W.rules.opens o lent).1 calls

  -- What a receive hands out, what a call answers, and the rules' state that what it leaves stands for.
  abbrev pub items_of : W.rules.State → ReceiveCall → List (LaneKey × ℕ)
  items_of s r = W.rules.hands s r

  abbrev pub answer_of : W.rules.State → Call → Answer
  answer_of s c = (W.rules.step s c).0

  abbrev pub view_after : W.rules.State → Call → State
  view_after s c = W.view (W.rules.step s c).1
