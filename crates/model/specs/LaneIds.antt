-- Document 02, N7, "Lane ids that tell openings from each other": which ids are equal, which of them name a lane, which calls are refused 13, and that from an
-- opening on every id of another is refused. `EqualExactly` and `KnownExactly` are about ids and the rules' test of one, the other claims about any rules; they are
-- proved of document 01's.
-- Assumes nothing.
use Rattle.std.specs.Prelude.{◌≡◌, true, false, List, ◌∷◌, ◌++◌, ℕ}
use Rattle.model.specs.declared.LaneKey.{LaneKey}
use Rattle.model.specs.declared.LaneId.{LaneId}
use Rattle.model.specs.declared.Opening.{Opening}
use Rattle.model.specs.declared.ReceiveCall.TheVariants.{TryRecvFrom}
use Rattle.model.specs.declared.ControlCall.TheVariants.{Pause, Resume, CloseLane}
use Rattle.model.specs.declared.Call.{Call}
use Rattle.model.specs.declared.Call.TheVariants.{Receive, Control}
use Rattle.model.specs.declared.Refusal.TheVariants.{ReceiverClosed, NoSuchLane}
use Rattle.model.specs.declared.Answer.{Answer}
use Rattle.model.specs.declared.Answer.TheVariants.{Done, Registered, Item, Refused}
use Rattle.model.specs.State.{State, key_of, id_of, has_lane_id}
use Rattle.model.specs.Opening.{channel_of}
use Rattle.model.specs.Runs.{Rules, RunsOf, all_runs, accepted, Tick, ends, trace}
use Rattle.model.specs.Viewed.{Viewed, answer_of}

-- "Two ids are equal exactly if channel, opening number, slot and generation all agree"
pub record AllAgree (i j : LaneId) : Type 0 where
  pub channel : i.channel.id ≡ j.channel.id
  pub opening : i.channel.opening ≡ j.channel.opening
  pub slot : i.key.slot ≡ j.key.slot
  pub generation : i.key.generation ≡ j.key.generation

-- An id has these four numbers and no others; that the calls go by all of them say `KnownExactly` and `ThirteenExactly`, below.
abbrev pub EqualExactly : Type 0
EqualExactly = (i j : LaneId) → (i ≡ j → AllAgree i j) × (AllAgree i j → i ≡ j)

-- A registered lane has exactly this id.
pub record NamesLane (s : State) (i : LaneId) : Type 0 where
  pub slot : ℕ
  pub registered : (s.slot_of slot).registered ≡ true
  pub same : id_of s (key_of s slot) ≡ i

-- The rules' test of an id says so.
abbrev pub KnownExactly : Type 0
KnownExactly = (s : State) (i : LaneId) → (has_lane_id s i ≡ true → NamesLane s i) × (NamesLane s i → has_lane_id s i ≡ true)

-- The four calls by lane id.
pub data ByLaneId (i : LaneId) : Call → Type 0 where
  targets : ByLaneId i (Receive (TryRecvFrom i))
  pauses : ByLaneId i (Control (Pause i))
  resumes : ByLaneId i (Control (Resume i))
  closes : ByLaneId i (Control (CloseLane i))

-- "no lane with this id", where "receiver closed" does not come first
pub record NamesNoLane (s : State) (c : Call) : Type 0 where
  pub id : LaneId
  pub by_id : ByLaneId id c
  pub is_open : s.is_open ≡ true
  pub no_lane : NamesLane s id → ⊥

-- "refusal 13 reads accordingly": of all calls, those are refused 13 whose id no registered lane has while the receiver is open, and no others.
unfoldable pub ThirteenExactly : Viewed → Type 0
ThirteenExactly W =
    (s : W.rules.State) → W.Ok s → (c : Call)
    → (answer_of W s c ≡ Refused NoSuchLane → NamesNoLane (W.view s) c) × (NamesNoLane (W.view s) c → answer_of W s c ≡ Refused NoSuchLane)

-- What a call by id i answers on a state where it is not 13.
pub record SixOrAccepted (s : State) (i : LaneId) (a : Answer) : Type 0 where
  -- "receiver closed" comes first, whatever the id
  pub six : s.is_open ≡ false → a ≡ Refused ReceiverClosed
  -- while the receiver is open, an id that a registered lane has is not refused
  pub accepts : s.is_open ≡ true → NamesLane s i → accepted a ≡ true

unfoldable pub ElseSixOrAccepted : Viewed → Type 0
ElseSixOrAccepted W = (s : W.rules.State) → W.Ok s → (i : LaneId) (c : Call) → ByLaneId i c → SixOrAccepted (W.view s) i (answer_of W s c)

-- Refused 6, "receiver closed", or 13, "no lane with this id". That a refused call leaves all as it was is demand 1's.
pub data RefusedById : Answer → Type 0 where
  receiver_closed : RefusedById (Refused ReceiverClosed)
  no_such_lane : RefusedById (Refused NoSuchLane)

-- What is claimed of a call c and its answer a, from opening o on.
pub record ToldApart (o : Opening) (c : Call) (a : Answer) : Type 0 where
  -- a call by an id with another channel or another opening number is refused
  pub others_refused : (i : LaneId) → ByLaneId i c → (i.channel ≡ channel_of o → ⊥) → RefusedById a
  -- "a lane id carries it": the id of every item has this opening's channel and number
  pub items_carry : (v : ℕ) (i : LaneId) → a ≡ Item v i → i.channel ≡ channel_of o

-- From an accepted opening on, of every call. The claim is about all of `runs`.
unfoldable pub OpeningsToldApartIn : (R : Rules) → RunsOf R → Type 0
OpeningsToldApartIn R runs =
    (o : Opening) (lent : R.Stores) → (R.opens o lent).0 ≡ Done
    → (calls : List Call) → runs o lent calls
    → (before rest : List Tick) (c : Call) (a : Answer)
    → trace R (R.opens o lent).1 calls ≡ before ++ (ends c a ∷ rest)
    → ToldApart o c a

unfoldable pub OpeningsToldApart : Rules → Type 0
OpeningsToldApart R = OpeningsToldApartIn R (all_runs R)

-- Two openings with different numbers.
abbrev pub OtherNumber : Opening → Opening → Type 0
OtherNumber earlier next = earlier.number ≡ next.number → ⊥

-- An id that a host may save of an answer, from opening o on: an item's, and that of a lane just registered, which is the opening's channel and number with the
-- lane's key.
pub data SavedOf (o : Opening) : Answer → LaneId → Type 0 where
  of_item : (v : ℕ) (i : LaneId) → SavedOf o (Item v i) i
  of_lane : (k : LaneKey) → SavedOf o (Registered k) (record { channel = channel_of o; key = k })

-- The request's case: "A recorder restarted between patients opens with the same channel id, and an id saved for the earlier patient then names a lane of the
-- next." An id saved in a run from `earlier` on is refused by every call in a run from `next` on, if the two have other numbers.
unfoldable pub SavedIdsRefusedIn : (R : Rules) → RunsOf R → Type 0
SavedIdsRefusedIn R runs =
    (earlier next : Opening) (lent relent : R.Stores) → (R.opens earlier lent).0 ≡ Done → (R.opens next relent).0 ≡ Done
    → OtherNumber earlier next
    → (calls later : List Call) → runs earlier lent calls → runs next relent later
    → (before rest : List Tick) (c : Call) (a : Answer) (i : LaneId)
    → trace R (R.opens earlier lent).1 calls ≡ before ++ (ends c a ∷ rest) → SavedOf earlier a i
    → (since rest' : List Tick) (d : Call) (b : Answer)
    → trace R (R.opens next relent).1 later ≡ since ++ (ends d b ∷ rest')
    → ByLaneId i d → RefusedById b
