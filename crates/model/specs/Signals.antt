-- When a lane's signal goes back to idle, and that a closed lane's is kept.
-- Said of every state in order, and so of every state in a run from an accepted opening.
-- Assumes nothing.
use Rattle.std.specs.Prelude.{◌≡◌, Bool, true, false, [], ℕ, ◌≤◌}
use Rattle.model.specs.declared.LaneKey.{LaneKey}
use Rattle.model.specs.declared.SenderCall.TheVariants.{RegisterSender, TrySend, TrySendUnsignaled, DropSender}
use Rattle.model.specs.declared.Call.{Call}
use Rattle.model.specs.declared.Call.TheVariants.{Sender, Receive, Control}
use Rattle.model.specs.State.{key_of}
use Rattle.model.specs.Runs.{same_key}
use Rattle.model.specs.Viewed.{Viewed, view_after}
use Rattle.model.specs.Events.{finds_empty, count_events, call_events}

-- Whether a call is a drop of the sender with key k.
unfoldable pub drops_sender : LaneKey → Call → Bool
drops_sender k (Sender (DropSender j)) = same_key j k
drops_sender k (Sender (RegisterSender most)) = false
drops_sender k (Sender (TrySend j v)) = false
drops_sender k (Sender (TrySendUnsignaled j v)) = false
drops_sender k (Receive r) = false
drops_sender k (Control c) = false

-- Of any calls W: what is set in below takes W first, as in `IdleOnlyWhenEmpty rules_viewed`.
module _ (W : Viewed) where
  -- Slot x's lane, as it was in state s, was found empty by call c.
  pub record FoundEmptyBy (s : W.rules.State) (c : Call) (x : ℕ) : Type 0 where
    -- among the events of the call, which only receives have, is one that finds this lane empty: taking its last item is none
    pub found : 1 ≤ count_events (finds_empty (key_of (W.view s) x)) (call_events (W.view s) c)
    -- and it is empty when the call ends
    pub no_items : ((view_after W s c).slot_of x).ring ≡ []

  -- "its signal goes back to idle only when the lane is found empty": of a registered lane that is pending before a call and idle after it
  unfoldable pub IdleOnlyWhenEmpty : Type 0
  IdleOnlyWhenEmpty =
      (s : W.rules.State) (c : Call) (x : ℕ) → W.Ok s → ((W.view s).slot_of x).registered ≡ true → ((W.view s).slot_of x).pending ≡ true
      → ((view_after W s c).slot_of x).pending ≡ false → FoundEmptyBy s c x

  -- Slot x, whose lane is closed and whose sender lives, after call c.
  pub record ClosedAfter (s : W.rules.State) (c : Call) (x : ℕ) : Type 0 where
    -- "a closed lane's signal is kept while its sender lives"
    pub signal_kept : drops_sender (key_of (W.view s) x) c ≡ false → ((view_after W s c).slot_of x).pending ≡ ((W.view s).slot_of x).pending
    -- until that sender is dropped: "Dropping a sender marks its lane"
    pub drop_marks : drops_sender (key_of (W.view s) x) c ≡ true → ((view_after W s c).slot_of x).pending ≡ true
    -- Meanwhile no lane is registered in the slot, and its sender lives.
    pub stays_closed : drops_sender (key_of (W.view s) x) c ≡ false → ((view_after W s c).slot_of x).registered ≡ false
    pub still_lives : drops_sender (key_of (W.view s) x) c ≡ false → ((view_after W s c).slot_of x).living ≡ true
    pub same_key : key_of (view_after W s c) x ≡ key_of (W.view s) x

  -- Of every call. That the lane is closed shows in that none is registered in the slot, though the sender lives.
  unfoldable pub ClosedSignalKept : Type 0
  ClosedSignalKept =
      (s : W.rules.State) (c : Call) (x : ℕ) → W.Ok s → ((W.view s).slot_of x).registered ≡ false → ((W.view s).slot_of x).living ≡ true
      → ClosedAfter s c x
