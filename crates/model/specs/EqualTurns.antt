-- Document 02, N10, "Equal turns over a whole recording", by the calls and their answers alone. A claim about any rules; it is proved of document 01's.
-- Assumes nothing.
use Rattle.std.specs.Prelude.{◌≡◌, Bool, true, false, List, [], ◌∷◌, ◌++◌, ◌+◌, ◌≤◌}
use Rattle.model.specs.declared.LaneKey.{LaneKey}
use Rattle.model.specs.declared.Opening.{Opening}
use Rattle.model.specs.declared.ReceiveCall.TheVariants.{TryRecv, TryRecvFair, TryRecvFrom, TryRecvBatchInto, TryRecvBatchIntoWhile}
use Rattle.model.specs.declared.Call.{Call}
use Rattle.model.specs.declared.Answer.TheVariants.{Done}
use Rattle.model.specs.Lists.{both, either}
use Rattle.model.specs.Runs.{Rules, RunsOf, all_runs, Tick, gives, ends, trace, same_key, count_ticks, of_lane}
use Rattle.model.specs.Ledger.{Ledger, at_opening, note, ledger_after, waits}

-- "only fair receives, targeted receives of other lanes": true of an item that any other receive hands out. Other lanes are those that are neither a nor b.
-- Calls that hand nothing out are not looked at: "sends, registrations and dropped senders", refused calls and held; and, more than is asked for, others such as
-- a pause of a third lane.
unfoldable pub out_of_turn : LaneKey → LaneKey → Tick → Bool
out_of_turn a b (gives TryRecvFair j v) = false
out_of_turn a b (gives (TryRecvFrom i) j v) = either (same_key i.key a) (same_key i.key b)
out_of_turn a b (gives TryRecv j v) = true
out_of_turn a b (gives (TryRecvBatchInto limit room) j v) = true
out_of_turn a b (gives (TryRecvBatchIntoWhile limit bound room) j v) = true
out_of_turn a b (ends c x) = false

-- p holds just before each thing in a list happens, as "never without" asks. What the last one leaves is not asked.
unfoldable pub throughout : (Ledger → Bool) → Ledger → List Tick → Bool
throughout p L [] = true
throughout p L (t ∷ ts) = both (p L) (throughout p (note L t) ts)

-- "the items handed out of the one and of the other differ by at most one"
pub record AtMostOneApart (a b : LaneKey) (ts : List Tick) : Type 0 where
  pub first_most : count_ticks (of_lane a) ts ≤ count_ticks (of_lane b) ts + 1
  pub second_most : count_ticks (of_lane b) ts ≤ count_ticks (of_lane a) ts + 1

-- "Two lanes": their keys differ.
-- "a stretch, here any part of a list as in demand 3": it begins at any point; "at every moment": so_far is what has happened in it up to then.
-- "both never without an ordinarily sent item, unpaused and open through a stretch", "with the receiver open": both wait throughout.
-- The claim is about all of `runs`.
unfoldable pub EqualTurnsIn : (R : Rules) → RunsOf R → Type 0
EqualTurnsIn R runs =
    (o : Opening) (lent : R.Stores) → (R.opens o lent).0 ≡ Done
    → (calls : List Call) → runs o lent calls
    → (before so_far rest : List Tick) → trace R (R.opens o lent).1 calls ≡ before ++ (so_far ++ rest)
    → (a b : LaneKey) → same_key a b ≡ false
    → throughout (waits a) (ledger_after at_opening before) so_far ≡ true
    → throughout (waits b) (ledger_after at_opening before) so_far ≡ true
    → count_ticks (out_of_turn a b) so_far ≡ 0
    → AtMostOneApart a b so_far

unfoldable pub EqualTurns : Rules → Type 0
EqualTurns R = EqualTurnsIn R (all_runs R)
