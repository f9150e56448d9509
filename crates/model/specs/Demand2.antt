-- Demand 2, what it says of runs. A claim about any rules; it is proved of document 01's.
-- Assumes nothing.
use Rattle.std.specs.Prelude.{◌≡◌, Bool, false, List, [], ◌∷◌, ◌++◌, map, ℕ, length, take, drop}
use Rattle.model.specs.declared.LaneKey.{LaneKey}
use Rattle.model.specs.declared.Opening.{Opening}
use Rattle.model.specs.declared.SenderCall.TheVariants.{RegisterSender, TrySend, TrySendUnsignaled, DropSender}
use Rattle.model.specs.declared.ReceiveCall.{ReceiveCall}
use Rattle.model.specs.declared.ReceiveCall.TheVariants.{TryRecv, TryRecvFair, TryRecvFrom, TryRecvBatchInto, TryRecvBatchIntoWhile}
use Rattle.model.specs.declared.ControlCall.TheVariants.{Pause, Resume, CloseLane, ReleaseConsumed, PollAllLanes, CloseReceiver, CountHeld}
use Rattle.model.specs.declared.Call.{Call}
use Rattle.model.specs.declared.Call.TheVariants.{Sender, Receive, Control}
use Rattle.model.specs.declared.Answer.{Answer}
use Rattle.model.specs.declared.Answer.TheVariants.{Done, Registered, Taken, Item, Items, Stopped, Empty, Disconnected, Held, Refused}
use Rattle.model.specs.Lists.{if, both}
use Rattle.model.specs.Runs.{Rules, RunsOf, all_runs, accepted, Tick, gives, ends, trace, after_list, same_key, count_ticks}

-- An item handed out of lane k.
unfoldable pub out_of : LaneKey → Tick → List ℕ
out_of k (gives r j v) = if (same_key j k) (v ∷ []) []
out_of k (ends c a) = []

-- An accepted send, of either kind, into lane k.
unfoldable pub into : LaneKey → Tick → List ℕ
into k (gives r j v) = []
into k (ends (Sender (TrySend j v)) a) = if (both (accepted a) (same_key j k)) (v ∷ []) []
into k (ends (Sender (TrySendUnsignaled j v)) a) = if (both (accepted a) (same_key j k)) (v ∷ []) []
into k (ends (Sender (RegisterSender m)) a) = []
into k (ends (Sender (DropSender j)) a) = []
into k (ends (Receive r) a) = []
into k (ends (Control c) a) = []

-- An accepted close of lane k.
unfoldable pub shuts : LaneKey → Tick → Bool
shuts k (gives r j v) = false
shuts k (ends c a) = both (accepted a) (closes_it c)
  where
    closes_it : Call → Bool
    closes_it (Control (CloseLane i)) = same_key i.key k
    closes_it (Control (Pause i)) = false
    closes_it (Control (Resume i)) = false
    closes_it (Control ReleaseConsumed) = false
    closes_it (Control PollAllLanes) = false
    closes_it (Control CloseReceiver) = false
    closes_it (Control CountHeld) = false
    closes_it (Sender c) = false
    closes_it (Receive r) = false

-- The values that f reads off all that happens, in order.
unfoldable pub values : (Tick → List ℕ) → List Tick → List ℕ
values f [] = []
values f (t ∷ ts) = f t ++ values f ts

-- "In a run from an opening, the stores otherwise untouched, items handed out of a lane never closed and then items still in its ring are its accepted sends, in order."
-- `ring` reads a lane's ring off the rules' state; the claim is about all of `runs`.
unfoldable pub Demand2In : (R : Rules) → RunsOf R → (R.State → LaneKey → List ℕ) → Type 0
Demand2In R runs ring =
    (o : Opening) (lent : R.Stores) → (R.opens o lent).0 ≡ Done
    → (calls : List Call) → runs o lent calls
    → (k : LaneKey) → count_ticks (shuts k) (trace R (R.opens o lent).1 calls) ≡ 0
    → values (out_of k) (trace R (R.opens o lent).1 calls) ++ ring (after_list R (R.opens o lent).1 calls) k
    ≡ values (into k) (trace R (R.opens o lent).1 calls)

unfoldable pub Demand2 : (R : Rules) → (R.State → LaneKey → List ℕ) → Type 0
Demand2 R ring = Demand2In R (all_runs R) ring

-- What ties the items handed out to the answers: a single receive hands out the item that it answers, of the lane that it answers;
-- a batch as many as it answers.
unfoldable pub Tells : Answer → List (LaneKey × ℕ) → Type 0
Tells (Item v i) l = l ≡ (i.key, v) ∷ []
Tells (Items n) l = length l ≡ n
Tells (Stopped n) l = length l ≡ n
Tells Done l = l ≡ []
Tells (Registered k) l = l ≡ []
Tells (Taken w f) l = l ≡ []
Tells Empty l = l ≡ []
Tells Disconnected l = l ≡ []
Tells (Held n) l = l ≡ []
Tells (Refused r) l = l ≡ []

-- "A batch hands out its output in order": an output `out` that becomes `now` begins with the items handed out, and the rest is as it was.
pub record OutputInOrder (n : ℕ) (l : List (LaneKey × ℕ)) (out now : List ℕ) : Type 0 where
  pub first_words : take n now ≡ map (λ g. g.1) l
  pub other_words : drop n now ≡ drop n out
  pub same_length : length now ≡ length out

-- Every answer but that of a batch with items leaves the output: "a refusal leaves state, both stores and the output unchanged".
unfoldable pub Writes : Answer → List (LaneKey × ℕ) → List ℕ → List ℕ → Type 0
Writes (Items n) l out now = OutputInOrder n l out now
Writes (Stopped n) l out now = OutputInOrder n l out now
Writes (Item v i) l out now = now ≡ out
Writes Done l out now = now ≡ out
Writes (Registered k) l out now = now ≡ out
Writes (Taken w f) l out now = now ≡ out
Writes Empty l out now = now ≡ out
Writes Disconnected l out now = now ≡ out
Writes (Held n) l out now = now ≡ out
Writes (Refused r) l out now = now ≡ out

pub record AsAnswered (a : Answer) (l : List (LaneKey × ℕ)) (out now : List ℕ) : Type 0 where
  pub tells : Tells a l
  pub writes : Writes a l out now

-- The output that a batch is lent has the length that the call gives as its room.
unfoldable pub HasRoom : ReceiveCall → List ℕ → Type 0
HasRoom (TryRecvBatchInto limit room) out = length out ≡ room
HasRoom (TryRecvBatchIntoWhile limit bound room) out = length out ≡ room
HasRoom TryRecv out = Unit {0}
HasRoom TryRecvFair out = Unit {0}
HasRoom (TryRecvFrom i) out = Unit {0}

unfoldable pub HandsAsAnswered : Rules → Type 0
HandsAsAnswered R =
    (s : R.State) (r : ReceiveCall) (out : List ℕ) → HasRoom r out
    → AsAnswered (R.step s (Receive r)).0 (R.hands s r) out (R.output s r out)

-- The same at every point of `runs` only: of code it is shown where the stores are as the last call left them.
unfoldable pub HandsAsAnsweredIn : (R : Rules) → RunsOf R → Type 0
HandsAsAnsweredIn R runs =
    (o : Opening) (lent : R.Stores) → (R.opens o lent).0 ≡ Done
    → (calls : List Call) (r : ReceiveCall) → runs o lent (calls ++ (Receive r ∷ []))
    → (s : R.State) → after_list R (R.opens o lent).1 calls ≡ s
    → (out : List ℕ) → HasRoom r out → AsAnswered (R.step s (Receive r)).0 (R.hands s r) out (R.output s r out)
