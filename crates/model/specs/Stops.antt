-- Document 02, N2, "A batch that stops in front of a mark", sentence by sentence.
-- Assumes nothing.
use Rattle.std.specs.Prelude.{◌≡◌, Bool, true, false, not, List, [], ◌∷◌, ◌++◌, ℕ, suc, ◌≤◌, ◌<◌, length, take, ltb}
use Rattle.model.specs.declared.LaneKey.{LaneKey}
use Rattle.model.specs.declared.Opening.{Opening}
use Rattle.model.specs.declared.ReceiveCall.{ReceiveCall}
use Rattle.model.specs.declared.ReceiveCall.TheVariants.{TryRecv, TryRecvFair, TryRecvFrom, TryRecvBatchInto, TryRecvBatchIntoWhile}
use Rattle.model.specs.declared.Call.{Call}
use Rattle.model.specs.declared.Call.TheVariants.{Sender, Receive, Control}
use Rattle.model.specs.declared.Answer.TheVariants.{Done, Stopped}
use Rattle.model.specs.Lists.{both, either, Each}
use Rattle.model.specs.State.{State, key_of}
use Rattle.model.specs.Changes.{with_budget}
use Rattle.model.specs.Turn.{refill, polled}
use Rattle.model.specs.Runs.{Rules, RunsOf, all_runs, accepted, Tick, gives, ends, trace}
use Rattle.model.specs.Ledger.{HeldItem, Lane, Ledger, at_opening, note, ledger_after, waits}
use Rattle.model.specs.Receive.{take_up_to, release_all}
use Rattle.model.specs.Stretch.{ends_stretch, says_stopped}
use Rattle.model.specs.Disconnected.{SameLane}
use Rattle.model.specs.Viewed.{Viewed, items_of, answer_of, view_after}

-- ---- one call, by the rules' states

-- The items that the plain batch of this limit would hand out.
abbrev pub plain_items : ℕ → State → List (LaneKey × ℕ)
plain_items limit s = (take_up_to limit s).0

-- The state in which a plain receive, after n items, would take the next one: "after any collection due there".
abbrev pub polled_after : ℕ → State → State
polled_after n s = polled (take_up_to n s).1

-- "an item is admitted if it is at most a bound given with the call"
abbrev pub AllAdmitted : ℕ → List (LaneKey × ℕ) → Type 0
AllAdmitted bound l = Each (λ g. g.1 ≤ bound) l

-- A batch stopped after n items, l: s is the state before it, u the state after it.
pub record StopsInFront (bound limit n : ℕ) (s u : State) (l : List (LaneKey × ℕ)) : Type 0 where
  -- "The batch is the plain one": its first n items
  pub handed : l ≡ take n (plain_items limit s)
  -- "it answers the count"
  pub counted : length l ≡ n
  -- "but below its limit it stops"
  pub below : n < limit
  pub all_admitted : AllAdmitted bound l
  -- "in front of the first item not admitted": `item`, the oldest of lane `lane`
  pub lane : ℕ
  pub item : ℕ
  pub others : List ℕ
  pub left : List ℕ
  pub in_front : u.queue ≡ lane ∷ others
  pub oldest : (u.slot_of lane).ring ≡ item ∷ left
  pub not_admitted : bound < item
  pub would_be_next : take (suc n) (plain_items limit s) ≡ l ++ ((key_of u lane, item) ∷ [])
  -- "in the lane whose turn it is, which stays in front with its burst"
  pub same_burst : (u.slot_of lane).burst ≡ ((polled_after n s).slot_of lane).burst
  pub same_queue : u.queue ≡ (polled_after n s).queue
  pub same_cursor : u.cursor ≡ (polled_after n s).cursor
  -- "after any collection due there": none is due any more
  pub none_due : 1 ≤ u.budget
  -- "Credit [..] as in the plain batch": every lane gives back
  pub gives_back : (x : ℕ) → (u.slot_of x).registered ≡ true → (u.slot_of x).unreleased ≡ 0
  -- and all of the state: what those n items and that poll leave, a budget of 0 set to 64, the credit given back
  pub state_then : u ≡ release_all (with_budget (refill (polled_after n s).budget) (polled_after n s))

-- A batch with a bound.
unfoldable pub has_bound : Call → Bool
has_bound (Receive (TryRecvBatchIntoWhile limit bound room)) = true
has_bound (Receive (TryRecvBatchInto limit room)) = false
has_bound (Receive TryRecv) = false
has_bound (Receive TryRecvFair) = false
has_bound (Receive (TryRecvFrom i)) = false
has_bound (Sender c) = false
has_bound (Control c) = false

-- ---- calls

-- Of any calls W: what is set in below takes W first.
module _ (W : Viewed) where
  -- Wherever the answer is that the batch stopped.
  unfoldable pub StoppedInFront : Type 0
  StoppedInFront =
      (s : W.rules.State) → W.Ok s → (limit bound room n : ℕ) → let r = TryRecvBatchIntoWhile limit bound room in
      answer_of W s (Receive r) ≡ Stopped n → StopsInFront bound limit n (W.view s) (view_after W s (Receive r)) (items_of W s r)

  -- A batch that is not refused stops exactly if some item of the plain batch of its limit is not admitted: it does not if all are, and only then.
  unfoldable pub StopsExactly : Type 0
  StopsExactly =
      (s : W.rules.State) → W.Ok s → (limit bound room : ℕ) → let a = answer_of W s (Receive (TryRecvBatchIntoWhile limit bound room)) in
      accepted a ≡ true
      → (AllAdmitted bound (plain_items limit (W.view s)) → says_stopped a ≡ false) × (says_stopped a ≡ false → AllAdmitted bound (plain_items limit (W.view s)))

  -- "A stop at count 0 is never Empty", nor Disconnected, whether a sender lives or not.
  unfoldable pub StopAtZero : Type 0
  StopAtZero =
      (s : W.rules.State) → W.Ok s → (limit bound room : ℕ) → let r = TryRecvBatchIntoWhile limit bound room in
      accepted (answer_of W s (Receive r)) ≡ true
      → (g : LaneKey × ℕ) (l : List (LaneKey × ℕ)) → plain_items limit (W.view s) ≡ g ∷ l → bound < g.1
      → (answer_of W s (Receive r) ≡ Stopped 0) × (items_of W s r ≡ [])

  -- No other call answers so.
  unfoldable pub OnlyBoundedStop : Type 0
  OnlyBoundedStop = (s : W.rules.State) → W.Ok s → (c : Call) → says_stopped (answer_of W s c) ≡ true → has_bound c ≡ true

  -- A stop retires no paused lane, whether a sender lives or not: a paused lane is after it as it was.
  unfoldable pub StopKeepsPaused : Type 0
  StopKeepsPaused =
      (s : W.rules.State) → W.Ok s → (c : Call) → says_stopped (answer_of W s c) ≡ true
      → (x : ℕ) → let l = (W.view s).slot_of x in l.registered ≡ true → l.paused ≡ true → SameLane l ((view_after W s c).slot_of x)

  -- Two receives are one: in items, answer and the state that they leave.
  pub record SameReceive (s : W.rules.State) (r other : ReceiveCall) : Type 0 where
    pub same_items : items_of W s r ≡ items_of W s other
    pub same_answer : answer_of W s (Receive r) ≡ answer_of W s (Receive other)
    pub same_state : view_after W s (Receive r) ≡ view_after W s (Receive other)

  -- "The batch is the plain one": where all of its items are admitted.
  unfoldable pub PlainWhereAdmitted : Type 0
  PlainWhereAdmitted =
      (s : W.rules.State) → W.Ok s → (limit bound room : ℕ) → AllAdmitted bound (plain_items limit (W.view s))
      → SameReceive s (TryRecvBatchIntoWhile limit bound room) (TryRecvBatchInto limit room)

  -- "refusals are as in the plain batch": both are refused or neither, and with the same number.
  unfoldable pub RefusedAsBatch : Type 0
  RefusedAsBatch =
      (s : W.rules.State) → W.Ok s → (limit bound room : ℕ) → let r = TryRecvBatchIntoWhile limit bound room in let plain = TryRecvBatchInto limit room in
      (accepted (answer_of W s (Receive r)) ≡ accepted (answer_of W s (Receive plain)))
      × (accepted (answer_of W s (Receive plain)) ≡ false → SameReceive s r plain)

-- ---- lists of calls, by the calls and their answers alone

-- "A lane stopped by the rule still counts as waiting": a stop changes no lane's wait, and ends no stretch.
unfoldable pub StillWaits : Type 0
StillWaits =
    (L : Ledger) (k : LaneKey) (r : ReceiveCall) (n : ℕ)
    → (waits k (note L (ends (Receive r) (Stopped n))) ≡ waits k L) × (ends_stretch k (ends (Receive r) (Stopped n)) ≡ false)

-- The oldest item that a lane holds is above the bound.
unfoldable pub oldest_above : ℕ → List HeldItem → Bool
oldest_above bound [] = false
oldest_above bound (v ∷ vs) = ltb bound v.value

-- An unpaused, unclosed lane's is.
unfoldable pub some_above : ℕ → List Lane → Bool
some_above bound [] = false
some_above bound (l ∷ ls) = either (both (not l.paused) (both (not l.closed) (oldest_above bound l.holds))) (some_above bound ls)

-- What the answer that it stopped after n items says of a call, and of the lanes at that point: it is a batch with a bound, below its limit, and some lane is
-- such a one.
unfoldable pub StopsAt : Call → ℕ → List Lane → Type 0
StopsAt (Receive (TryRecvBatchIntoWhile limit bound room)) n ls = (n < limit) × (some_above bound ls ≡ true)
StopsAt (Receive (TryRecvBatchInto limit room)) n ls = ⊥
StopsAt (Receive TryRecv) n ls = ⊥
StopsAt (Receive TryRecvFair) n ls = ⊥
StopsAt (Receive (TryRecvFrom i)) n ls = ⊥
StopsAt (Sender c) n ls = ⊥
StopsAt (Control c) n ls = ⊥

-- "but below its limit it stops in front of the first item not admitted", and only there.
-- The claim is about all of `runs`.
unfoldable pub StopsOnlyAtItemsIn : (R : Rules) → RunsOf R → Type 0
StopsOnlyAtItemsIn R runs =
    (o : Opening) (lent : R.Stores) → (R.opens o lent).0 ≡ Done
    → (calls : List Call) → runs o lent calls
    → (before rest : List Tick) (c : Call) (n : ℕ)
    → trace R (R.opens o lent).1 calls ≡ before ++ (ends c (Stopped n) ∷ rest)
    → StopsAt c n (ledger_after at_opening before).lanes

unfoldable pub StopsOnlyAtItems : Rules → Type 0
StopsOnlyAtItems R = StopsOnlyAtItemsIn R (all_runs R)

unfoldable pub is_plain : ReceiveCall → Bool
is_plain TryRecv = true
is_plain TryRecvFair = false
is_plain (TryRecvFrom i) = false
is_plain (TryRecvBatchInto limit room) = false
is_plain (TryRecvBatchIntoWhile limit bound room) = false

-- A plain receive, by what it gives or by its end.
unfoldable pub of_plain : Tick → Bool
of_plain (gives r k v) = is_plain r
of_plain (ends (Receive r) a) = is_plain r
of_plain (ends (Sender c) a) = false
of_plain (ends (Control c) a) = false

unfoldable pub gives_above : ℕ → Tick → Bool
gives_above bound (gives r k v) = ltb bound v
gives_above bound (ends c a) = false

-- "in the lane whose turn it is, which stays in front": a plain receive right after the stop hands out an item above the bound.
-- The claim is about all of `runs`.
unfoldable pub NextIsAboveIn : (R : Rules) → RunsOf R → Type 0
NextIsAboveIn R runs =
    (o : Opening) (lent : R.Stores) → (R.opens o lent).0 ≡ Done
    → (calls : List Call) → runs o lent calls
    → (before rest : List Tick) (limit bound room n : ℕ) (t : Tick)
    → trace R (R.opens o lent).1 calls ≡ before ++ (ends (Receive (TryRecvBatchIntoWhile limit bound room)) (Stopped n) ∷ (t ∷ rest))
    → of_plain t ≡ true
    → gives_above bound t ≡ true

unfoldable pub NextIsAbove : Rules → Type 0
NextIsAbove R = NextIsAboveIn R (all_runs R)

-- No item that it hands out is above its bound.
-- The claim is about all of `runs`.
unfoldable pub HandsOnlyAdmittedIn : (R : Rules) → RunsOf R → Type 0
HandsOnlyAdmittedIn R runs =
    (o : Opening) (lent : R.Stores) → (R.opens o lent).0 ≡ Done
    → (calls : List Call) → runs o lent calls
    → (before rest : List Tick) (limit bound room : ℕ) (k : LaneKey) (v : ℕ)
    → trace R (R.opens o lent).1 calls ≡ before ++ (gives (TryRecvBatchIntoWhile limit bound room) k v ∷ rest)
    → v ≤ bound

unfoldable pub HandsOnlyAdmitted : Rules → Type 0
HandsOnlyAdmitted R = HandsOnlyAdmittedIn R (all_runs R)
