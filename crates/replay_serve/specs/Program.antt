-- What is claimed of the records that the program answers: before an opening, at an opening, and that its calls are those of crate `fanring`'s lists of calls.
-- Assumes nothing.
use Rattle.std.specs.Prelude.{◌≡◌, List, [], ◌∷◌, map, ℕ, ◌<◌}
use Rattle.model.specs.declared.Opening.{Opening}
use Rattle.model.specs.declared.Call.{Call}
use Rattle.model.specs.declared.Refusal.{Refusal}
use Rattle.model.specs.declared.Refusal.TheVariants.{StoreNotInOrder}
use Rattle.model.specs.declared.Answer.TheVariants.{Done, Refused}
use Rattle.model.specs.Lists.{Each}
use Rattle.model.specs.Opening.{opened_state}
use Rattle.model.specs.Runs.{after_list}
use Rattle.model.specs.Simulation.{Fits, CallFits}
use Rattle.wire_record.specs.declared.record.Record.{Record}
use Rattle.wire_record.specs.Record.{whole, parse}
use Rattle.wire_record.specs.Stream.{Reads}
use Rattle.store.specs.View.{view}
use Rattle.fanring.specs.Runs.{the_calls}
use Rattle.replay_serve.specs.declared.calls.Stores.{Stores}
use Rattle.replay_serve.specs.Calls.{called, answered, stores_after, started}

-- ---- "Before an opening: refusal 5 to every kind but 0."

-- a record that is no accepted opening
abbrev pub OpensNothing : Record → Type 0
OpensNothing (Record.Open o) = (why : Refusal) × ((answered (Record.Open o) started).0 ≡ Refused why)
OpensNothing (Record.Call c) = Unit {0}

-- The refusal is that of the test of order: no flag tells whether a channel was opened. Until an opening is accepted the stores stay as they were at the start, and those are not in order.
pub record BeforeOpening : Type 0 where
  pub refused : (c : Call) → answered (Record.Call c) started ≡ (Refused StoreNotInOrder, started)
  pub unchanged : (rs : List Record) → Each OpensNothing rs → stores_after rs started ≡ started

-- ---- "An accepted opening starts afresh, a refused one changes nothing."

pub record Openings : Type 0 where
  pub afresh : (o : Opening) (s : Stores) → (answered (Record.Open o) s).0 ≡ Done → let u = (answered (Record.Open o) s).1 in view u.table u.rings ≡ opened_state o
  pub refused : (o : Opening) (s : Stores) (why : Refusal) → (answered (Record.Open o) s).0 ≡ Refused why → answered (Record.Open o) s ≡ (Refused why, s)

-- ---- calls

-- the numbers of a record are u64, as those of code are
abbrev pub RecordFits : Record → Type 0
RecordFits (Record.Open o) = Fits (o.capacity ∷ o.slots ∷ o.channel ∷ o.cursor ∷ o.generation ∷ o.number ∷ [])
RecordFits (Record.Call c) = CallFits c

-- A call that was read from bytes is answered as it is in a list of calls: a batch was read with the room that it is lent.
-- So what is claimed of lists of calls (crates/fanring/specs/Demands.antt) is claimed of the program's calls, from an accepted opening on.
pub record CallsAsListed : Type 0 where
  pub fit : (b : List ℕ) → Each (λ x. x < 256) b → (r : Record) (n : ℕ) → parse b ≡ whole r n → RecordFits r
  pub of_one : (b : List ℕ) (c : Call) (n : ℕ) → parse b ≡ whole (Record.Call c) n → (s : Stores) → answered (Record.Call c) s ≡ called s c
  pub of_many : (b rest : List ℕ) (cs : List Call) → Reads b (map (λ (c : Call). Record.Call c) cs) rest → (s : Stores)
      → let u = stores_after (map (λ (c : Call). Record.Call c) cs) s in (u.table, u.rings) ≡ after_list the_calls (s.table, s.rings) cs
