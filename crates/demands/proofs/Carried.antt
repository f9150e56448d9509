-- What is proved of the rules' runs and calls holds of all calls W that simulate them: those on 64, the budget, Disconnected, refusal 13, signals, where the
-- receives end, where a batch stops, and what a call does to the held count.
-- Assumes nothing.
use mathlib.Core.Path.{◌≡◌, sym, ap, ◌∙◌, subst}
use mathlib.Core.Logic.{◌⊎◌, inl, inr}
use mathlib.Core.Bool.{true}
use mathlib.Core.List.{List, [], map}
use Prim.Native.Nat.{ℕ}
use lib.ListN.{length}
use Rattle.model.specs.declared.LaneKey.{LaneKey}
use Rattle.model.specs.declared.ReceiveCall.{ReceiveCall}
use Rattle.model.specs.declared.ReceiveCall.TheVariants.{TryRecvFrom, TryRecvBatchInto, TryRecvBatchIntoWhile}
use Rattle.model.specs.declared.SenderCall.TheVariants.{RegisterSender}
use Rattle.model.specs.declared.ControlCall.TheVariants.{CountHeld}
use Rattle.model.specs.declared.Call.{Call}
use Rattle.model.specs.declared.Call.TheVariants.{Sender, Receive, Control}
use Rattle.model.specs.declared.Answer.{Answer}
use Rattle.model.specs.Lists.{if}
use Rattle.model.specs.State.{State, key_of}
use Rattle.model.specs.Ready.{collect_ready_group, collect_ready}
use Rattle.model.specs.Runs.{accepted}
use Rattle.model.specs.Rules.{the_rules}
use Rattle.model.specs.Viewed.{Viewed, rules_viewed, rules_on_any_state, items_of, answer_of, view_after}
use Rattle.model.specs.Events.{any_marked}
use Rattle.model.specs.Budget.{BudgetCountsItems, is_targeted, EventsTell}
use Rattle.model.specs.OneTurn.{AtMost64InOneTurn}
use Rattle.model.specs.Collections.{AtMost64BetweenCollections, TakesOneGroup, TakesAllGroups, StandsAfterLast, NothingToCollect, Collecting}
use Rattle.model.specs.Disconnected.{NoSenderLives, NoLaneRegistered, EmptyOnesRetired, SameLane, PausedWithItems, Looks, Drained, FindsNone, DisconnectedExactly, RetiresEmptyPaused, EmptyWithPausedItems, OnlyPausedItemsLeft, TargetedDisconnectedExactly}
use Rattle.model.specs.LaneIds.{ThirteenExactly, SixOrAccepted, ElseSixOrAccepted}
use Rattle.model.specs.Signals.{IdleOnlyWhenEmpty, ClosedSignalKept}
use Rattle.model.specs.Registration.{TakesFirstClear, TakesNextUnused, EightExactly, NineExactly, RefusedOnlyInVain, OnTop, FreedOnTop}
use Rattle.model.specs.PollLoop.{NothingLeft}
use Rattle.model.specs.ReceivesEnd.{items_asked, EndsWithNothingLeft}
use Rattle.model.specs.Stretch.{says_stopped}
use Rattle.model.specs.Stops.{StopsInFront, StoppedInFront, StopsExactly, StopAtZero, OnlyBoundedStop, StopKeepsPaused, SameReceive, PlainWhereAdmitted, RefusedAsBatch}
use Rattle.model.specs.HeldCalls.{HeldAfterCall, HeldIsSum}
use Rattle.model.specs.Simulation.{Simulation}
use Rattle.demands.proofs.Budget.{budget_counts_items, events_tell}
use Rattle.demands.proofs.OneTurn.{at_most_64_in_one_turn}
use Rattle.demands.proofs.Collections.{at_most_64_between_collections, takes_one_group, takes_all_groups, stands_after_last, one_of_none, all_of_none}
use Rattle.demands.proofs.Disconnected.{disconnected_exactly, retires_empty_paused, empty_with_paused_items, only_paused_items_left, targeted_disconnected_exactly}
use Rattle.demands.proofs.LaneIds.{thirteen_exactly, else_six_or_accepted}
use Rattle.demands.proofs.IdleWhenEmpty.{idle_only_when_empty}
use Rattle.demands.proofs.ClosedSignal.{closed_signal_kept}
use Rattle.demands.proofs.Registration.{takes_first_clear, takes_next_unused, eight_exactly, nine_exactly, refused_only_in_vain}
use Rattle.demands.proofs.FreedOnTop.{freed_on_top}
use Rattle.demands.proofs.ReceivesEnd.{ends_with_nothing_left}
use Rattle.demands.proofs.Stops.{stopped_in_front, stops_exactly, stop_at_zero, only_bounded_stop, stop_keeps_paused, plain_where_admitted, refused_as_batch}
use Rattle.demands.proofs.HeldCalls.{held_after_call, held_is_sum}
use Rattle.demands.proofs.Simulation.{same_handed, accepted_too, opened_after, opened_events}

module _ (W : Viewed) (sim : Simulation W) where
  -- ---- runs

  pub words_budget_counts_items : BudgetCountsItems W
  unfolding BudgetCountsItems
  words_budget_counts_items o lent d calls f =
      let b = budget_counts_items o (W.rules.lengths lent) (accepted_too W sim o lent d) calls tt in
      rw (opened_events W sim o lent d calls f) (ap (λ (s : State). s.budget) (opened_after W sim o lent d calls f) ∙ b.0, b.1)

  pub words_at_most_64_in_one_turn : AtMost64InOneTurn W
  unfolding AtMost64InOneTurn
  words_at_most_64_in_one_turn o lent d calls f before part rest e =
      at_most_64_in_one_turn o (W.rules.lengths lent) (accepted_too W sim o lent d) calls tt before part rest (sym (opened_events W sim o lent d calls f) ∙ e)

  pub words_at_most_64_between_collections : AtMost64BetweenCollections W
  unfolding AtMost64BetweenCollections
  words_at_most_64_between_collections o lent d calls f before part rest e =
      at_most_64_between_collections o (W.rules.lengths lent) (accepted_too W sim o lent d) calls tt before part rest (sym (opened_events W sim o lent d calls f) ∙ e)

  -- ---- one call

  pub words_events_tell : EventsTell W
  words_events_tell = record {
    lanes_handed = λ s o r. events_tell.lanes_handed (W.view s) tt r ∙ ap (λ (l : List (LaneKey × ℕ)). if (is_targeted r) [] (map (λ g. g.0) l)) (sym (sim.hands_alike s r o));
    as_many = λ s o r. events_tell.as_many (W.view s) tt r ∙ ap (λ (l : List (LaneKey × ℕ)). if (is_targeted r) 0 (length l)) (sym (sim.hands_alike s r o));
  }

  module _ (s : W.rules.State) (r : ReceiveCall) where
    looks_seen : Looks W s r → Looks rules_viewed (W.view s) r
    looks_seen l = record {
      in_order = sim.shows_in_order s l.in_order;
      untargeted = l.untargeted;
      not_refused = ap accepted (sym (sim.answers_alike s (Receive r) l.in_order)) ∙ l.not_refused;
    }

    module _ (o : W.Ok s) where
      left : view_after W s (Receive r) ≡ view_after rules_viewed (W.view s) (Receive r)
      left = sim.leaves_alike s (Receive r) o

      nothing_seen : items_of W s r ≡ [] → items_of rules_viewed (W.view s) r ≡ []
      nothing_seen n = sym (sim.hands_alike s r o) ∙ n

      finds_none_seen : FindsNone W s r → FindsNone rules_viewed (W.view s) r
      finds_none_seen n = record { no_item = nothing_seen n.no_item; not_stopped = ap says_stopped (sym (sim.answers_alike s (Receive r) o)) ∙ n.not_stopped }

      senders_seen : NoSenderLives (view_after W s (Receive r)) → NoSenderLives (view_after rules_viewed (W.view s) (Receive r))
      senders_seen n = subst NoSenderLives left n

      drained_seen : Drained W s r → Drained rules_viewed (W.view s) r
      drained_seen d = record { no_item = nothing_seen d.no_item; no_sender = senders_seen d.no_sender; no_lane = subst NoLaneRegistered left d.no_lane }

      seen_drained : Drained rules_viewed (W.view s) r → Drained W s r
      seen_drained d = record {
        no_item = sim.hands_alike s r o ∙ d.no_item;
        no_sender = subst NoSenderLives (sym left) d.no_sender;
        no_lane = subst NoLaneRegistered (sym left) d.no_lane;
      }

  pub words_disconnected_exactly : DisconnectedExactly W
  unfolding DisconnectedExactly
  words_disconnected_exactly s r l =
      let o = l.in_order in
      let d = disconnected_exactly (W.view s) r (looks_seen s r l) in
      let a = sim.answers_alike s (Receive r) o in
      (λ e. seen_drained s r o (d.0 (sym a ∙ e)), λ e. a ∙ d.1 (drained_seen s r o e))

  pub words_retires_empty_paused : RetiresEmptyPaused W
  unfolding RetiresEmptyPaused
  words_retires_empty_paused s r l n f =
      let o = l.in_order in
      subst (EmptyOnesRetired (W.view s)) (sym (left s r o)) (retires_empty_paused (W.view s) r (looks_seen s r l) (finds_none_seen s r o n) (senders_seen s r o f))

  pub words_empty_with_paused_items : EmptyWithPausedItems W
  unfolding EmptyWithPausedItems
  words_empty_with_paused_items s r l n f x e p some =
      let o = l.in_order in
      let d = empty_with_paused_items (W.view s) r (looks_seen s r l) (finds_none_seen s r o n) (senders_seen s r o f) x e p some in
      (sim.answers_alike s (Receive r) o ∙ d.0, subst (λ (u : State). SameLane ((W.view s).slot_of x) (u.slot_of x)) (sym (left s r o)) d.1)

  pub words_only_paused_items_left : OnlyPausedItemsLeft W
  unfolding OnlyPausedItemsLeft
  words_only_paused_items_left o lent d calls f s at r l n g x e =
      let k = l.in_order in
      let back = sym (left s r k) in
      subst (λ (u : State). PausedWithItems (u.slot_of x)) back
      (only_paused_items_left o (W.rules.lengths lent) (accepted_too W sim o lent d) calls tt (W.view s)
      (sym (opened_after W sim o lent d calls f) ∙ ap W.view at)
      r (looks_seen s r l) (finds_none_seen s r k n) (senders_seen s r k g) x (ap (λ (u : State). (u.slot_of x).registered) back ∙ e))

  pub words_targeted_disconnected_exactly : TargetedDisconnectedExactly W
  unfolding TargetedDisconnectedExactly
  words_targeted_disconnected_exactly s o i =
      let d = targeted_disconnected_exactly (W.view s) tt i in
      let a = sim.answers_alike s (Receive (TryRecvFrom i)) o in
      (λ e. d.0 (sym a ∙ e), λ e. a ∙ d.1 e)

  pub words_thirteen_exactly : ThirteenExactly W
  unfolding ThirteenExactly
  words_thirteen_exactly s o c =
      let d = thirteen_exactly (W.view s) tt c in
      let a = sim.answers_alike s c o in
      (λ e. d.0 (sym a ∙ e), λ n. a ∙ d.1 n)

  pub words_else_six_or_accepted : ElseSixOrAccepted W
  unfolding ElseSixOrAccepted
  words_else_six_or_accepted s o i c b =
      subst (SixOrAccepted (W.view s) i) (sym (sim.answers_alike s c o)) (else_six_or_accepted (W.view s) tt i c b)

  pub words_ends_with_nothing_left : EndsWithNothingLeft W
  unfolding EndsWithNothingLeft
  words_ends_with_nothing_left s r l = go (ends_with_nothing_left (W.view s) r (looks_seen s r l))
    where
      go : ((length (items_of rules_viewed (W.view s) r) ≡ items_asked r) ⊎ NothingLeft (view_after rules_viewed (W.view s) (Receive r))) ⊎ (says_stopped (answer_of rules_viewed (W.view s) (Receive r)) ≡ true)
          → ((length (items_of W s r) ≡ items_asked r) ⊎ NothingLeft (view_after W s (Receive r))) ⊎ (says_stopped (answer_of W s (Receive r)) ≡ true)
      go (inl (inl h)) = inl (inl (ap length (sim.hands_alike s r l.in_order) ∙ h))
      go (inl (inr n)) = inl (inr (subst NothingLeft (sym (left s r l.in_order)) n))
      go (inr h) = inr (ap says_stopped (sim.answers_alike s (Receive r) l.in_order) ∙ h)

  -- ---- a batch that stops

  pub words_stopped_in_front : StoppedInFront W
  unfolding StoppedInFront
  words_stopped_in_front s o limit bound room n e =
      let r = TryRecvBatchIntoWhile limit bound room in
      subst (λ (u : State). StopsInFront bound limit n (W.view s) u (items_of W s r)) (sym (left s r o))
      (subst (λ (l : List (LaneKey × ℕ)). StopsInFront bound limit n (W.view s) (view_after rules_viewed (W.view s) (Receive r)) l) (sym (sim.hands_alike s r o))
      (stopped_in_front (W.view s) tt limit bound room n (sym (sim.answers_alike s (Receive r) o) ∙ e)))

  pub words_stops_exactly : StopsExactly W
  unfolding StopsExactly
  words_stops_exactly s o limit bound room a =
      let e = sim.answers_alike s (Receive (TryRecvBatchIntoWhile limit bound room)) o in
      let d = stops_exactly (W.view s) tt limit bound room (ap accepted (sym e) ∙ a) in
      (λ h. ap says_stopped e ∙ d.0 h, λ h. d.1 (ap says_stopped (sym e) ∙ h))

  pub words_stop_at_zero : StopAtZero W
  unfolding StopAtZero
  words_stop_at_zero s o limit bound room a g l e h =
      let r = TryRecvBatchIntoWhile limit bound room in
      let k = sim.answers_alike s (Receive r) o in
      let d = stop_at_zero (W.view s) tt limit bound room (ap accepted (sym k) ∙ a) g l e h in
      (k ∙ d.0, sim.hands_alike s r o ∙ d.1)

  pub words_only_bounded_stop : OnlyBoundedStop W
  unfolding OnlyBoundedStop
  words_only_bounded_stop s o c w = only_bounded_stop (W.view s) tt c (ap says_stopped (sym (sim.answers_alike s c o)) ∙ w)

  pub words_stop_keeps_paused : StopKeepsPaused W
  unfolding StopKeepsPaused
  words_stop_keeps_paused s o c w x r p =
      subst (λ (u : State). SameLane ((W.view s).slot_of x) (u.slot_of x)) (sym (sim.leaves_alike s c o))
      (stop_keeps_paused (W.view s) (sim.shows_in_order s o) c (ap says_stopped (sym (sim.answers_alike s c o)) ∙ w) x r p)

  same_receive : (s : W.rules.State) (r other : ReceiveCall) → W.Ok s → SameReceive rules_on_any_state (W.view s) r other → SameReceive W s r other
  same_receive s r other o k = record {
    same_items = sim.hands_alike s r o ∙ k.same_items ∙ sym (sim.hands_alike s other o);
    same_answer = sim.answers_alike s (Receive r) o ∙ k.same_answer ∙ sym (sim.answers_alike s (Receive other) o);
    same_state = sim.leaves_alike s (Receive r) o ∙ k.same_state ∙ sym (sim.leaves_alike s (Receive other) o);
  }

  pub words_plain_where_admitted : PlainWhereAdmitted W
  unfolding PlainWhereAdmitted
  words_plain_where_admitted s o limit bound room h =
      same_receive s (TryRecvBatchIntoWhile limit bound room) (TryRecvBatchInto limit room) o (plain_where_admitted (W.view s) tt limit bound room h)

  pub words_refused_as_batch : RefusedAsBatch W
  unfolding RefusedAsBatch
  words_refused_as_batch s o limit bound room =
      let r = TryRecvBatchIntoWhile limit bound room in
      let plain = TryRecvBatchInto limit room in
      let d = refused_as_batch (W.view s) tt limit bound room in
      let k = sim.answers_alike s (Receive plain) o in
      (ap accepted (sim.answers_alike s (Receive r) o) ∙ d.0 ∙ ap accepted (sym k), λ e. same_receive s r plain o (d.1 (ap accepted (sym k) ∙ e)))

  -- ---- signals

  pub words_idle_only_when_empty : IdleOnlyWhenEmpty W
  unfolding IdleOnlyWhenEmpty
  words_idle_only_when_empty s c x o r p z =
      let back = sim.leaves_alike s c o in
      let f = idle_only_when_empty (W.view s) c x (sim.shows_in_order s o) r p (ap (λ (u : State). (u.slot_of x).pending) (sym back) ∙ z) in
      record { found = f.found; no_items = ap (λ (u : State). (u.slot_of x).ring) back ∙ f.no_items }

  pub words_closed_signal_kept : ClosedSignalKept W
  unfolding ClosedSignalKept
  words_closed_signal_kept s c x o r l =
      let back = sim.leaves_alike s c o in
      let k = closed_signal_kept (W.view s) c x (sim.shows_in_order s o) r l in
      record {
        signal_kept = λ e. ap (λ (u : State). (u.slot_of x).pending) back ∙ k.signal_kept e;
        drop_marks = λ e. ap (λ (u : State). (u.slot_of x).pending) back ∙ k.drop_marks e;
        stays_closed = λ e. ap (λ (u : State). (u.slot_of x).registered) back ∙ k.stays_closed e;
        still_lives = λ e. ap (λ (u : State). (u.slot_of x).living) back ∙ k.still_lives e;
        same_key = ap (λ (u : State). key_of u x) back ∙ k.same_key;
      }

  -- ---- registrations

  -- two equations of the rules, of calls that answer and leave as they do
  module _ (s : W.rules.State) (o : W.Ok s) (c : Call) (a : Answer) (u : State) where
    as_rules : ((the_rules.step (W.view s) c).0 ≡ a) × ((the_rules.step (W.view s) c).1 ≡ u) → (answer_of W s c ≡ a) × (view_after W s c ≡ u)
    as_rules k = (sim.answers_alike s c o ∙ k.0, sim.leaves_alike s c o ∙ k.1)

  pub words_takes_first_clear : TakesFirstClear W
  unfolding TakesFirstClear
  words_takes_first_clear s o most x p q l c = as_rules s o _ _ _ (takes_first_clear (W.view s) (sim.shows_in_order s o) most x p q l c)

  pub words_takes_next_unused : TakesNextUnused W
  unfolding TakesNextUnused
  words_takes_next_unused s o most l e h = as_rules s o _ _ _ (takes_next_unused (W.view s) tt most l e h)

  pub words_eight_exactly : EightExactly W
  unfolding EightExactly
  words_eight_exactly s o c =
      let k = eight_exactly (W.view s) tt c in
      (λ e. k.0 (sym (sim.answers_alike s c o) ∙ e), λ v e. sim.answers_alike s c o ∙ k.1 v e)

  pub words_nine_exactly : NineExactly W
  unfolding NineExactly
  words_nine_exactly s o c =
      let k = nine_exactly (W.view s) tt c in
      (λ e. k.0 (sym (sim.answers_alike s c o) ∙ e), λ v e. sim.answers_alike s c o ∙ k.1 v e)

  pub words_refused_only_in_vain : RefusedOnlyInVain W
  unfolding RefusedOnlyInVain
  words_refused_only_in_vain s o most why l e =
      refused_only_in_vain (W.view s) tt most why l (sym (sim.answers_alike s (Sender (RegisterSender most)) o) ∙ e)

  pub words_freed_on_top : FreedOnTop W
  unfolding FreedOnTop
  words_freed_on_top s o c g =
      let back = sim.leaves_alike s c o in
      subst (OnTop (W.view s)) (sym back) (freed_on_top (W.view s) tt c g)

  -- ---- the held count

  pub words_held_after_call : HeldAfterCall W
  unfolding HeldAfterCall
  words_held_after_call s o c =
      rw (sim.leaves_alike s c o, same_handed W sim s c o, sim.answers_alike s c o) (held_after_call (W.view s) (sim.shows_in_order s o) c)

  pub words_held_is_sum : HeldIsSum W
  unfolding HeldIsSum
  words_held_is_sum s o = sim.answers_alike s (Control CountHeld) o ∙ held_is_sum (W.view s) (sim.shows_in_order s o)

  -- ---- collections, by steps that do what the rules' do

  module _ (collect_one collect_all : W.rules.State → W.rules.State)
      (one_alike : (s : W.rules.State) → W.Ok s → W.view (collect_one s) ≡ collect_ready_group (W.view s))
      (all_alike : (s : W.rules.State) → W.Ok s → W.view (collect_all s) ≡ collect_ready (W.view s)) where
    pub words_collecting : Collecting W collect_one collect_all
    unfolding TakesOneGroup TakesAllGroups StandsAfterLast NothingToCollect
    words_collecting = record {
      takes_one = λ s o m.
          let g = takes_one_group (W.view s) (sim.shows_in_order s o) m in
          let v = one_alike s o in
          (g.0, g.1, v ∙ g.2, ap (λ (u : State). u.cursor) v ∙ g.3, g.4);
      takes_all = λ s o. ap any_marked (all_alike s o) ∙ takes_all_groups (W.view s) (sim.shows_in_order s o);
      stands_after_last = λ s o m.
          let g = stands_after_last (W.view s) (sim.shows_in_order s o) m in
          (g.0, g.1, ap (λ (u : State). u.cursor) (all_alike s o) ∙ g.2, g.3);
      one_of_none = λ s o n. one_alike s o ∙ one_of_none (W.view s) tt n;
      all_of_none = λ s o n. all_alike s o ∙ all_of_none (W.view s) tt n;
    }
