-- Document 01's sentences on order kept, the poll budget, turns of 64, collections, Disconnected and Empty, refusal 13, signals, first cursors and queued keys, and
-- document 02's on registrations and the free list (N4), on a batch that stops (N2) and on the held count (N6), of calls on two stores. Those that the rules
-- have too are crate `model`'s (its specs/Budget.antt, BudgetAfterNothing.antt, OneTurn.antt, Collections.antt, WhileMarked.antt, Disconnected.antt,
-- LaneIds.antt, Signals.antt, Registration.antt, ReceivesEnd.antt, Stops.antt, HeldCalls.antt), said of the state that the words show; those on words alone are
-- here, and in RegistrationOnWords.antt.
-- Assumes nothing.
use Rattle.std.specs.Prelude.{◌≡◌, Bool, true, false, List, ℕ, ◌+◌, ◌≤◌, length}
use Rattle.model.specs.declared.LaneKey.{LaneKey}
use Rattle.model.specs.declared.SenderCall.TheVariants.{RegisterSender}
use Rattle.model.specs.declared.Call.{Call}
use Rattle.model.specs.declared.ControlCall.TheVariants.{CountHeld}
use Rattle.model.specs.declared.Call.TheVariants.{Sender, Control}
use Rattle.model.specs.declared.Answer.TheVariants.{Registered, Held}
use Rattle.model.specs.Lists.{count}
use Rattle.model.specs.Budget.{BudgetCountsItems, EventsTell}
use Rattle.model.specs.OneTurn.{AtMost64InOneTurn}
use Rattle.model.specs.Collections.{AtMost64BetweenCollections, Collecting}
use Rattle.model.specs.WhileMarked.{AtMost64WhileMarked, AtMost64WhileMarkedInBatch, AtMost64WhileMarkedInWhile}
use Rattle.model.specs.BudgetAfterNothing.{BudgetAfterNothing, BudgetAfterStop, BudgetAsEventsSet}
use Rattle.model.specs.Disconnected.{DisconnectedExactly, RetiresEmptyPaused, EmptyWithPausedItems, OnlyPausedItemsLeft, TargetedDisconnectedExactly}
use Rattle.model.specs.LaneIds.{ThirteenExactly, ElseSixOrAccepted}
use Rattle.model.specs.ReceivesEnd.{EndsWithNothingLeft}
use Rattle.model.specs.Stops.{StoppedInFront, StopsExactly, StopAtZero, OnlyBoundedStop, StopKeepsPaused, PlainWhereAdmitted, RefusedAsBatch}
use Rattle.model.specs.Runs.{handed}
use Rattle.model.specs.HeldCalls.{items_sent, items_discarded, HeldAfterCall, HeldIsSum}
use Rattle.model.specs.Signals.{IdleOnlyWhenEmpty, ClosedSignalKept}
use Rattle.model.specs.Registration.{TakesFirstClear, TakesNextUnused, EightExactly, NineExactly, RefusedOnlyInVain, FreedOnTop}
use Rattle.lane.specs.Table.{lane_at}
use Rattle.queues.specs.Header.{held_count}
use Rattle.queues.specs.Queue.{queue_of}
use Rattle.ready.specs.Ready.{collect_ready}
use Rattle.store.specs.Order.{StoreInOrder}
use Rattle.store.specs.Held.{walked_held}
use Rattle.store.specs.View.{view}
use Rattle.opening.specs.FirstCursor.{StartsAt}
use Rattle.refinement.specs.Runs.{StoreCalls, lists_of, viewed_of, inner_calls, Run, stores_after}
use Rattle.refinement.specs.RegistrationOnWords.{EightByWords, NineByWords}

-- Of any calls M on two stores: what is set in below takes M first, as in `StaysInOrder inner_calls`.
module _ (M : StoreCalls) where
  -- "An accepted opening leaves a store in order, whatever the lent words held", and every call after it keeps it so.
  unfoldable pub StaysInOrder : Type 0
  StaysInOrder = (x : Run) → let end = stores_after M x in StoreInOrder end.0 end.1

  -- "Every ring registered, in a freed slot too, starts with its cursors at the first cursor": the one that the opening was given.
  -- k is the key that a registration answers, at any point of a run.
  unfoldable pub RingsStartAtFirstCursor : Type 0
  RingsStartAtFirstCursor =
      (x : Run) (most : ℕ) (k : LaneKey) → let v = stores_after M x in let w = M.words v.0 v.1 (Sender (RegisterSender most)) in
      w.0 ≡ Registered k → StartsAt x.opening.cursor (lane_at w.1 k.slot)

  -- For `Stale`: no call changes the key of a lane that is queued.
  unfoldable pub QueuedKeysKept : Type 0
  QueuedKeysKept =
      (t r : List ℕ) → StoreInOrder t r → (c : Call) (x : ℕ) → 1 ≤ count x (queue_of t)
      → (lane_at (M.words t r c).1 x).key ≡ (lane_at t x).key

  -- Document 02, N6: "It is stored, and every call keeps it true": from an opening on, after every call, the word is what the walk counts.
  unfoldable pub HeldWordTrue : Type 0
  HeldWordTrue = (x : Run) → let end = stores_after M x in held_count end.0 ≡ walked_held end.0

  -- "sends, every kind of receive, closing and retiring a lane": what one call does to the word.
  unfoldable pub HeldWordKept : Type 0
  HeldWordKept =
      (t r : List ℕ) → StoreInOrder t r → (c : Call) → let w = M.words t r c in
      held_count w.1 + length (handed (lists_of M) (t, r) c) + items_discarded (view t r) c w.0 ≡ held_count t + items_sent c w.0

  -- "Readers see the same number as from the walk": the word is the walk's sum on every store in order,
  -- and held answers it, changing no word of the two stores.
  unfoldable pub HeldAsWalked : Type 0
  HeldAsWalked =
      (t r : List ℕ) → StoreInOrder t r → (held_count t ≡ walked_held t) × (M.words t r (Control CountHeld) ≡ (Held (walked_held t), t, r))

-- All of them. It is proved of the inner calls here, and of the checked calls in crate `fanring`.
pub record KeepsRules (M : StoreCalls) : Type 0 where
  pub stays_in_order : StaysInOrder M
  pub events_tell : EventsTell (viewed_of M)
  pub budget_is_count : BudgetCountsItems (viewed_of M)
  pub at_most_64_in_turn : AtMost64InOneTurn (viewed_of M)
  pub at_most_64_between : AtMost64BetweenCollections (viewed_of M)
  pub at_most_64_while_marked : AtMost64WhileMarked (viewed_of M)
  pub at_most_64_while_marked_in_batch : AtMost64WhileMarkedInBatch (viewed_of M)
  pub at_most_64_while_marked_in_while : AtMost64WhileMarkedInWhile (viewed_of M)
  pub budget_after_nothing : BudgetAfterNothing (viewed_of M)
  pub budget_after_stop : BudgetAfterStop (viewed_of M)
  pub budget_as_events_set : BudgetAsEventsSet (viewed_of M)
  pub ends_with_nothing_left : EndsWithNothingLeft (viewed_of M)
  pub stopped_in_front : StoppedInFront (viewed_of M)
  pub stops_exactly : StopsExactly (viewed_of M)
  pub stop_at_zero : StopAtZero (viewed_of M)
  pub only_bounded_stop : OnlyBoundedStop (viewed_of M)
  pub stop_keeps_paused : StopKeepsPaused (viewed_of M)
  pub plain_where_admitted : PlainWhereAdmitted (viewed_of M)
  pub refused_as_batch : RefusedAsBatch (viewed_of M)
  pub disconnected_exactly : DisconnectedExactly (viewed_of M)
  pub retires_empty_paused : RetiresEmptyPaused (viewed_of M)
  pub empty_with_paused_items : EmptyWithPausedItems (viewed_of M)
  pub only_paused_items_left : OnlyPausedItemsLeft (viewed_of M)
  pub targeted_disconnected_exactly : TargetedDisconnectedExactly (viewed_of M)
  pub thirteen_exactly : ThirteenExactly (viewed_of M)
  pub else_six_or_accepted : ElseSixOrAccepted (viewed_of M)
  pub idle_only_when_empty : IdleOnlyWhenEmpty (viewed_of M)
  pub closed_signal_kept : ClosedSignalKept (viewed_of M)
  pub takes_first_clear : TakesFirstClear (viewed_of M)
  pub takes_next_unused : TakesNextUnused (viewed_of M)
  pub eight_exactly : EightExactly (viewed_of M)
  pub nine_exactly : NineExactly (viewed_of M)
  pub eight_by_words : EightByWords M
  pub nine_by_words : NineByWords M
  pub refused_only_in_vain : RefusedOnlyInVain (viewed_of M)
  pub freed_on_top : FreedOnTop (viewed_of M)
  pub held_after_call : HeldAfterCall (viewed_of M)
  pub held_is_sum : HeldIsSum (viewed_of M)
  pub rings_start_at_first_cursor : RingsStartAtFirstCursor M
  pub queued_keys_kept : QueuedKeysKept M
  pub held_word_true : HeldWordTrue M
  pub held_word_kept : HeldWordKept M
  pub held_as_walked : HeldAsWalked M

-- The collections inside the receives: one group, or all.
abbrev pub after_collecting : Bool → List ℕ × List ℕ → List ℕ × List ℕ
after_collecting all w = (collect_ready all w.0, w.1)

-- What they do to the words, as far as the rules see them.
abbrev pub WordsCollecting : Type 0
WordsCollecting = Collecting (viewed_of inner_calls) (after_collecting false) (after_collecting true)
