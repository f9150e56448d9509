-- Calls on two stores do what document 01's rules do: each call on stores in order, lists of calls from an accepted opening on, and document 01's examples.
-- Said of any calls M, and so of the inner calls here and of the checked calls in crate `fanring`.
-- Assumes nothing.
use Rattle.std.specs.Prelude.{◌≡◌, List, ℕ, ◌+◌, ◌-◌, ◌*◌, ◌≤◌, ◌<◌, length}
use Rattle.std.proofs.Math.Option.{some}
use Rattle.model.specs.declared.ReceiveCall.{ReceiveCall}
use Rattle.model.specs.declared.Call.{Call}
use Rattle.model.specs.declared.Call.TheVariants.{Receive}
use Rattle.model.specs.declared.Answer.{Answer}
use Rattle.model.specs.declared.Answer.TheVariants.{Done}
use Rattle.model.specs.Lists.{Each}
use Rattle.model.specs.State.{State}
use Rattle.model.specs.Runs.{Lent, trace, after_list, answers}
use Rattle.model.specs.Receive.{output_after}
use Rattle.model.specs.Opening.{next_power_of_two, opening_outcome}
use Rattle.model.specs.Rules.{outcome, the_rules}
use Rattle.model.specs.Demand2.{HasRoom}
use Rattle.model.specs.Examples.Example.{Example, opening_of, said_calls, said_answers}
use Rattle.model.specs.Examples.Table.{credit_after, table}
use Rattle.yring.specs.Release.{entries, entry_for}
use Rattle.queues.specs.Header.{budget}
use Rattle.store.specs.View.{view}
use Rattle.store.specs.Order.{StoreInOrder}
use Rattle.opening.specs.Opening.{open_store}
use Rattle.refinement.specs.Runs.{StoreCalls, lists_of, Run, opened_stores, stores_after}

-- What the rules' opening is lent where code is lent the words t and r: their lengths.
abbrev pub lent_of : List ℕ → List ℕ → Lent
lent_of t r = record { rings = length r; table = length t }

-- demand 2: "each call is proved to do what document 01's rules say": on any stores in order it is the rules' step of what the words stand for
pub record EachCallAsRules (M : StoreCalls) : Type 0 where
  -- in its answer and the state that it leaves,
  pub answers_and_leaves : (t r : List ℕ) (c : Call) → StoreInOrder t r
      → let w = M.words t r c in ◌≡◌ {A = Answer × State} (w.0, view w.1 w.2) (outcome (view t r) c).1
  -- in the items that it hands out and the lanes that they are of, in order,
  pub hands_out : (t r : List ℕ) (c : ReceiveCall) → StoreInOrder t r → M.hands t r c ≡ (outcome (view t r) (Receive c)).0
  -- and in every word of the output that it is lent
  pub writes : (t r out : List ℕ) (c : ReceiveCall) → HasRoom c out → StoreInOrder t r → M.output t r c out ≡ output_after (view t r) c out

-- The rules' state after the opening of a run of code.
abbrev pub opened_by_rules : Run → State
opened_by_rules x = (opening_outcome x.opening (lent_of x.table x.rings)).1.1

-- A list of calls from an accepted opening on is the rules' run of the same opening and calls,
pub record ListsAsRules (M : StoreCalls) : Type 0 where
  -- in all answers, items and lanes,
  pub same_trace : (x : Run) → trace (lists_of M) (opened_stores x) x.calls ≡ trace the_rules (opened_by_rules x) x.calls
  -- in the state that the words then stand for,
  pub same_state : (x : Run) → let end = stores_after M x in view end.0 end.1 ≡ after_list the_rules (opened_by_rules x) x.calls
  -- and in what the next receive writes into its output
  pub same_output : (x : Run) (c : ReceiveCall) (out : List ℕ) → HasRoom c out
      → let end = stores_after M x in M.output end.0 end.1 c out ≡ output_after (after_list the_rules (opened_by_rules x) x.calls) c out

-- An example of crate `model`'s table, of calls on words: on any two stores of the lengths that its opening asks for, whatever they hold, the opening is
-- accepted, the calls answer what the example says, and the poll budget is then its number.
pub record AsExample (M : StoreCalls) (e : Example) (t r : List ℕ) : Type 0 where
  pub opens : (open_store (opening_of e) t r).0 ≡ Done
  pub calls_answer : let w = open_store (opening_of e) t r in answers (lists_of M) (w.1, w.2) (said_calls e) ≡ said_answers e
  pub leaves_budget : let w = open_store (opening_of e) t r in budget (after_list (lists_of M) (w.1, w.2) (said_calls e)).0 ≡ e.budget

-- "The examples marked P are proved in one go over a table": of all examples of the table, those marked P among them
unfoldable pub ExamplesOf : StoreCalls → Type 0
ExamplesOf M = Each (λ e. (t r : List ℕ) → 16 * e.slots + 512 ≤ length t → e.slots * next_power_of_two e.capacity ≤ length r → AsExample M e t r) table

-- The release batch that calls show at a capacity: the capacity has an entry in the table of release batches, and the run `credit_after` answers by its C and
-- its batch, on any two stores that are long enough for one lane, however many items are sent first and however many of them taken.
pub record CreditAt (M : StoreCalls) (c : ℕ) : Type 0 where
  pub C : ℕ
  pub batch : ℕ
  pub entry : entry_for c entries ≡ some (C, batch)
  pub shown : (sent taken : ℕ) → 1 ≤ sent → sent ≤ C → taken ≤ sent → taken < batch → (t r : List ℕ) → 16 + 512 ≤ length t → C ≤ length r
      → AsExample M (credit_after c C batch sent taken (64 - batch)) t r

-- document 02, N3: "Results for every capacity are those of the table.": as sends and plain receives of one lane show them
unfoldable pub CreditOf : StoreCalls → Type 0
CreditOf M = (c : ℕ) → 1 ≤ c → c ≤ 65536 → CreditAt M c
