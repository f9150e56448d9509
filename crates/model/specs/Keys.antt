-- The keys that registrations answer: none comes again, and their slots are the issued ones. By the calls and their answers.
-- Assumes nothing.
use Rattle.std.specs.Prelude.{◌≡◌, Bool, false, List, ◌∷◌, ◌++◌, ℕ, ◌≤◌, ◌<◌, eqb}
use Rattle.model.specs.declared.LaneKey.{LaneKey}
use Rattle.model.specs.declared.Opening.{Opening}
use Rattle.model.specs.declared.Call.{Call}
use Rattle.model.specs.declared.Answer.{Answer}
use Rattle.model.specs.declared.Answer.TheVariants.{Done, Registered, Taken, Item, Items, Stopped, Empty, Disconnected, Held, Refused}
use Rattle.model.specs.Runs.{Rules, RunsOf, all_runs, Tick, gives, ends, trace, after_list, same_key, count_ticks}
use Rattle.model.specs.Ledger.{at_opening, ledger_after}

-- A registration's answer whose key passes a test; no other call answers a key so.
unfoldable pub registers_as : (LaneKey → Bool) → Answer → Bool
registers_as p (Registered k) = p k
registers_as p Done = false
registers_as p (Taken w f) = false
registers_as p (Item v i) = false
registers_as p (Items n) = false
registers_as p (Stopped n) = false
registers_as p Empty = false
registers_as p Disconnected = false
registers_as p (Held n) = false
registers_as p (Refused r) = false

unfoldable pub answers_key_that : (LaneKey → Bool) → Tick → Bool
answers_key_that p (ends c a) = registers_as p a
answers_key_that p (gives r j v) = false

-- A call ends with the key k as its answer; with a key of slot x.
abbrev pub answers_key : LaneKey → Tick → Bool
answers_key k = answers_key_that (λ j. same_key j k)

abbrev pub answers_slot : ℕ → Tick → Bool
answers_slot x = answers_key_that (λ j. eqb j.slot x)

-- A registration never answers a key that was answered before in the run.
-- The claim is about all of `runs`.
unfoldable pub KeysNeverAgainIn : (R : Rules) → RunsOf R → Type 0
KeysNeverAgainIn R runs =
    (o : Opening) (lent : R.Stores) → (R.opens o lent).0 ≡ Done
    → (calls : List Call) → runs o lent calls
    → (before rest : List Tick) (c : Call) (k : LaneKey)
    → trace R (R.opens o lent).1 calls ≡ before ++ (ends c (Registered k) ∷ rest)
    → count_ticks (answers_key k) before ≡ 0

unfoldable pub KeysNeverAgain : Rules → Type 0
KeysNeverAgain R = KeysNeverAgainIn R (all_runs R)

-- n slots are issued after all that happened in ts.
pub record SlotsAnswered (n : ℕ) (ts : List Tick) : Type 0 where
  -- they are as many as the ledger has, whose number demand 3's G is reckoned from
  pub as_ledger : n ≡ (ledger_after at_opening ts).issued
  -- each of them was answered by a registration, and no other slot was
  pub each_answered : (x : ℕ) → x < n → 1 ≤ count_ticks (answers_slot x) ts
  pub none_other : (x : ℕ) → 1 ≤ count_ticks (answers_slot x) ts → x < n

-- The issued slots are those of the answers, after any list of calls.
-- `issued_of` reads their number off the state; the claim is about all of `runs`.
unfoldable pub IssuedAsAnsweredIn : (R : Rules) → RunsOf R → (R.State → ℕ) → Type 0
IssuedAsAnsweredIn R runs issued_of =
    (o : Opening) (lent : R.Stores) → (R.opens o lent).0 ≡ Done
    → (calls : List Call) → runs o lent calls
    → SlotsAnswered (issued_of (after_list R (R.opens o lent).1 calls)) (trace R (R.opens o lent).1 calls)

unfoldable pub IssuedAsAnswered : (R : Rules) → (R.State → ℕ) → Type 0
IssuedAsAnswered R issued_of = IssuedAsAnsweredIn R (all_runs R) issued_of
