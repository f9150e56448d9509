-- When the answer is Disconnected, when it is Empty, and which lanes are retired on the way.
-- It is said of every state in order, and so of every state in a run from an accepted opening.
-- Assumes nothing.
use Rattle.std.specs.Prelude.{◌≡◌, ◌≢◌, true, false, List, [], ℕ}
use Rattle.model.specs.declared.LaneId.{LaneId}
use Rattle.model.specs.declared.Opening.{Opening}
use Rattle.model.specs.declared.ReceiveCall.{ReceiveCall}
use Rattle.model.specs.declared.ReceiveCall.TheVariants.{TryRecvFrom}
use Rattle.model.specs.declared.Call.{Call}
use Rattle.model.specs.declared.Call.TheVariants.{Receive}
use Rattle.model.specs.declared.Answer.TheVariants.{Done, Empty, Disconnected}
use Rattle.model.specs.State.{Slot, State, has_lane_id}
use Rattle.model.specs.Runs.{accepted}
use Rattle.model.specs.Viewed.{Viewed, opening_answer, state_after_run, items_of, answer_of, view_after}
use Rattle.model.specs.Stretch.{looks, says_stopped}

-- ---- of the rules' states

-- "no living sender"
unfoldable pub NoSenderLives : State → Type 0
NoSenderLives s = (x : ℕ) → (s.slot_of x).living ≡ false

-- "no registered lane"
unfoldable pub NoLaneRegistered : State → Type 0
NoLaneRegistered s = (x : ℕ) → (s.slot_of x).registered ≡ false

-- "after empty paused lanes are retired": none is left, and what was retired was empty with its sender dropped.
pub record EmptyOnesRetired (s u : State) : Type 0 where
  pub none_left : (x : ℕ) → (u.slot_of x).registered ≡ true → (u.slot_of x).paused ≡ true → (u.slot_of x).ring ≢ []
  pub only_empty : (x : ℕ) → (s.slot_of x).registered ≡ true → (u.slot_of x).registered ≡ false → (s.slot_of x).ring ≡ []
  pub only_dropped : (x : ℕ) → (s.slot_of x).registered ≡ true → (u.slot_of x).registered ≡ false → (s.slot_of x).living ≡ false

-- A lane that is there after the call as it was before it.
pub record SameLane (l m : Slot) : Type 0 where
  pub still_registered : m.registered ≡ true
  pub still_paused : m.paused ≡ true
  pub same_generation : m.generation ≡ l.generation
  pub same_items : m.ring ≡ l.ring

-- A lane that is left when nothing is found and no sender lives.
pub record PausedWithItems (l : Slot) : Type 0 where
  pub is_paused : l.paused ≡ true
  pub holds_items : l.ring ≢ []

-- A targeted receive's lane is known, empty, and its sender dropped.
pub record LaneDrained (s : State) (i : LaneId) : Type 0 where
  pub receiver_open : s.is_open ≡ true
  pub known_lane : has_lane_id s i ≡ true
  pub no_item : (s.slot_of i.key.slot).ring ≡ []
  pub sender_dropped : (s.slot_of i.key.slot).living ≡ false

-- ---- calls

-- Of any calls W: what is set in below takes W first, as in `DisconnectedExactly rules_viewed`.
module _ (W : Viewed) where
  -- A plain, fair or non-zero batch receive, not refused, on a state in order.
  pub record Looks (s : W.rules.State) (r : ReceiveCall) : Type 0 where
    pub in_order : W.Ok s
    pub untargeted : looks (Receive r) ≡ true
    pub not_refused : accepted (answer_of W s (Receive r)) ≡ true

  -- Nothing is handed out, and in the state that the call leaves no sender lives and no lane is registered.
  pub record Drained (s : W.rules.State) (r : ReceiveCall) : Type 0 where
    pub no_item : items_of W s r ≡ []
    pub no_sender : NoSenderLives (view_after W s (Receive r))
    pub no_lane : NoLaneRegistered (view_after W s (Receive r))

  -- Nothing is handed out, and not because of a stop. Document 02, N2: "A stop at count 0 is never Empty", and it retires no paused lane.
  pub record FindsNone (s : W.rules.State) (r : ReceiveCall) : Type 0 where
    pub no_item : items_of W s r ≡ []
    pub not_stopped : says_stopped (answer_of W s (Receive r)) ≡ false

  -- "Disconnected: no living sender and no registered lane": then, and only then.
  unfoldable pub DisconnectedExactly : Type 0
  DisconnectedExactly =
      (s : W.rules.State) (r : ReceiveCall) → Looks s r
      → (answer_of W s (Receive r) ≡ Disconnected → Drained s r) × (Drained s r → answer_of W s (Receive r) ≡ Disconnected)

  -- "after empty paused lanes are retired"
  unfoldable pub RetiresEmptyPaused : Type 0
  RetiresEmptyPaused =
      (s : W.rules.State) (r : ReceiveCall) → Looks s r → FindsNone s r → NoSenderLives (view_after W s (Receive r))
      → EmptyOnesRetired (W.view s) (view_after W s (Receive r))

  -- "With no living sender but a paused lane holding items: Empty."
  unfoldable pub EmptyWithPausedItems : Type 0
  EmptyWithPausedItems =
      (s : W.rules.State) (r : ReceiveCall) → Looks s r → FindsNone s r → NoSenderLives (view_after W s (Receive r))
      → (x : ℕ) → let l = (W.view s).slot_of x in l.registered ≡ true → l.paused ≡ true → l.ring ≢ []
      → (answer_of W s (Receive r) ≡ Empty) × SameLane l ((view_after W s (Receive r)).slot_of x)

  -- In a run from an accepted opening only paused lanes that hold items are left then: an unpaused lane whose sender is dropped is found and retired.
  -- So with no living sender the answer is Empty only if a paused lane holds items.
  unfoldable pub OnlyPausedItemsLeft : Type 0
  OnlyPausedItemsLeft =
      (o : Opening) (lent : W.rules.Stores) → opening_answer W o lent ≡ Done
      → (calls : List Call) → W.runs o lent calls
      → (s : W.rules.State) → state_after_run W o lent calls ≡ s
      → (r : ReceiveCall) → Looks s r → FindsNone s r → NoSenderLives (view_after W s (Receive r))
      → (x : ℕ) → ((view_after W s (Receive r)).slot_of x).registered ≡ true → PausedWithItems ((view_after W s (Receive r)).slot_of x)

  -- A targeted receive answers Disconnected exactly if its lane is known, empty, and its sender dropped.
  unfoldable pub TargetedDisconnectedExactly : Type 0
  TargetedDisconnectedExactly =
      (s : W.rules.State) → W.Ok s → (i : LaneId) → let a = answer_of W s (Receive (TryRecvFrom i)) in
      (a ≡ Disconnected → LaneDrained (W.view s) i) × (LaneDrained (W.view s) i → a ≡ Disconnected)
