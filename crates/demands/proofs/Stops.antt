-- The batch that stops in front of an item: where it stops, and that otherwise it is the plain one.
-- Assumes nothing.
use mathlib.Core.Path.{◌≡◌, refl, ap, ap₂, sym, ◌∙◌, subst}
use mathlib.Core.Bool.{Bool, true, false, not}
use mathlib.Core.Option.{some}
use mathlib.Core.List.{List, [], ◌∷◌, ◌++◌, map}
use Prim.Native.Nat.{ℕ, zero, suc, ◌≤◌, ◌<◌}
use native.Mathlib.Omega.{arith}
use lib.ListN.{length, take}
use lib.Dec.{ltb}
use borrow.Author.Tests.{lt-leb, lt-ltb}
use Rattle.model.specs.declared.LaneKey.{LaneKey}
use Rattle.model.specs.declared.ReceiveCall.{ReceiveCall}
use Rattle.model.specs.declared.ReceiveCall.TheVariants.{TryRecv, TryRecvFair, TryRecvFrom, TryRecvBatchInto, TryRecvBatchIntoWhile}
use Rattle.model.specs.declared.Opening.{Opening}
use Rattle.model.specs.declared.SenderCall.{SenderCall}
use Rattle.model.specs.declared.SenderCall.TheVariants.{RegisterSender, TrySend, TrySendUnsignaled, DropSender}
use Rattle.model.specs.declared.ControlCall.{ControlCall}
use Rattle.model.specs.declared.ControlCall.TheVariants.{Pause, Resume, CloseLane, ReleaseConsumed, PollAllLanes, CloseReceiver, CountHeld}
use Rattle.model.specs.declared.Call.{Call}
use Rattle.model.specs.declared.Call.TheVariants.{Sender, Receive, Control}
use Rattle.model.specs.declared.Refusal.{Refusal}
use Rattle.model.specs.declared.Refusal.TheVariants.{ReceiverClosed, OutputShort}
use Rattle.model.specs.declared.Answer.{Answer}
use Rattle.model.specs.declared.Answer.TheVariants.{Done, Registered, Taken, Item, Items, Stopped, Empty, Disconnected, Held, Refused}
use Rattle.model.specs.Lists.{if, both, either, count, Each}
use Rattle.model.specs.State.{Slot, State, key_of}
use Rattle.model.specs.Turn.{Took, give_item, polled, take_one}
use Rattle.model.specs.Outcome.{Outcome, unless}
use Rattle.model.specs.Runs.{Lent, accepted, Tick, gives, ends, handed, ticks, trace, after_list}
use Rattle.model.specs.Ledger.{HeldItem, Lane, Ledger, at_opening, add_registered, apply_call, note, ledger_after}
use Rattle.model.specs.Receive.{answer_one, and_more, try_recv, try_recv_fair, try_recv_from, take_up_to, release_all, answer_items, admitted, halted, take_while, answer_while, try_recv_batch_into, try_recv_batch_into_while, receive_outcome}
use Rattle.model.specs.Stretch.{ends_wait, ends_stretch, says_stopped}
use Rattle.model.specs.Opening.{opening_outcome}
use Rattle.model.specs.Rules.{outcome, the_rules}
use Rattle.model.specs.Order.{Ordered}
use Rattle.model.specs.Viewed.{rules_viewed, rules_on_any_state}
use Rattle.model.specs.Disconnected.{SameLane}
use Rattle.model.specs.Sender.{clear_slots, issue_slot, sender_outcome, register_sender, try_send, try_send_unsignaled, drop_sender}
use Rattle.model.specs.Control.{control_outcome, pause, resume, close_lane, release_consumed, poll_all_lanes, close_receiver, count_held}
use Rattle.model.specs.Stops.{plain_items, AllAdmitted, StopsInFront, StoppedInFront, StopsExactly, StopAtZero, has_bound, OnlyBoundedStop, StopKeepsPaused, SameReceive, PlainWhereAdmitted, RefusedAsBatch, StillWaits, oldest_above, some_above, StopsAt, is_plain, of_plain, gives_above, NextIsAboveIn, NextIsAbove, StopsOnlyAtItemsIn, StopsOnlyAtItems, HandsOnlyAdmittedIn, HandsOnlyAdmitted}
use Rattle.demands.proofs.Counting.{no, not_false}
use Rattle.demands.proofs.OnTop.{each_append}
use Rattle.demands.proofs.Quiet.{poll, poll_quiet, polled_quiet}
use Rattle.demands.proofs.FrontItem.{take_one_front}
use Rattle.demands.proofs.PausedKept.{polled_kept, take_up_to_kept}
use Rattle.demands.proofs.OrderKept.{first_own, refill_pos, front_registered, take_up_to_ordered}
use Rattle.demands.proofs.StopLaws.{Stops, take_prefix, admitted_each, admitted_next, admitted_all, all_admitted, while_law, answer_one_unstopped, answer_items_unstopped, take_from_unstopped}
use Rattle.demands.proofs.Moves.{unless_law, TakeResult, took_none, took_one, take_one_taken, nothing_taken_gives_none, call_chain, trace_chain}
use Rattle.demands.proofs.Points.{ends_at, after_append}
use Rattle.demands.proofs.LedgerLaws.{alike, unlike, keys?, look}
use Rattle.demands.proofs.Demand2.{opens_as}
use Rattle.demands.proofs.Demand3.{opened_agrees}
use Rattle.demands.proofs.InOrder.{call_keeps_order, opening_in_order, run_in_order}
use Rattle.demands.proofs.Wake.{some_path, chain_agrees}
use Rattle.demands.proofs.HandsAsAnswered.{take_up_to_most}
use Rattle.demands.proofs.Demand1.{answer_items_accepted, answer_while_accepted}

-- the number of a stop's answer
stop_count : Answer → ℕ
stop_count (Stopped n) = n
stop_count Done = 0
stop_count (Registered k) = 0
stop_count (Taken w f) = 0
stop_count (Item v i) = 0
stop_count (Items n) = 0
stop_count Empty = 0
stop_count Disconnected = 0
stop_count (Held n) = 0
stop_count (Refused r) = 0

is_stop : {a : Answer} {n : ℕ} → a ≡ Stopped n → says_stopped a ≡ true
unfolding says_stopped
is_stop e = ap says_stopped e

module _ (s : State) (limit bound : ℕ) where
  stops_at : (k : ℕ) → Stops bound limit k s → StopsInFront bound limit k s (release_all (halted (polled (take_up_to k s).1))) (take_up_to k s).0
  unfolding release_all halted
  stops_at k w =
      record {
        handed = sym prefix;
        counted = w.all_there;
        below = omega (arith, w.fewer, take_up_to_most limit s);
        all_admitted = subst (λ (l : List (LaneKey × ℕ)). AllAdmitted bound l) prefix (subst (λ (j : ℕ). AllAdmitted bound (take j (plain_items limit s))) (sym w.is_count) (admitted_each bound (plain_items limit s)));
        lane = w.up.lane;
        item = w.up.item;
        others = w.up.others;
        left = w.up.left;
        in_front = w.up.first;
        oldest = w.up.oldest;
        not_admitted = admitted_next bound (plain_items limit s) next (subst (λ (j : ℕ). take (suc j) (plain_items limit s) ≡ take j (plain_items limit s) ++ (next ∷ [])) w.is_count w.up.next);
        would_be_next = w.up.next ∙ ap (λ (l : List (LaneKey × ℕ)). l ++ (next ∷ [])) prefix;
        none_due = refill_pos (polled (take_up_to k s).1).budget;
        same_queue = refl;
        same_cursor = refl;
        same_burst = refl;
        state_then = refl;
        gives_back = λ x r. none_owed ((polled (take_up_to k s).1).slot_of x).registered ((polled (take_up_to k s).1).slot_of x).unreleased r;
      }
    where
      next : LaneKey × ℕ
      next = (key_of (polled (take_up_to k s).1) w.up.lane, w.up.item)

      prefix : take k (plain_items limit s) ≡ (take_up_to k s).0
      prefix = take_prefix k limit s (omega (arith, w.fewer))

      none_owed : (b : Bool) (n : ℕ) → b ≡ true → if b 0 n ≡ 0
      none_owed b n e = rw e

  -- some item is not admitted, so that not all are
  not_all : (k : ℕ) → Stops bound limit k s → AllAdmitted bound (plain_items limit s) → ⊥
  not_all k w h = omega (arith, w.fewer, w.is_count, admitted_all bound (plain_items limit s) h)

pub stopped_in_front : StoppedInFront rules_on_any_state
unfolding StoppedInFront outcome receive_outcome try_recv_batch_into_while answer_while says_stopped stop_count
stopped_in_front s any limit bound room n =
    unless_law Front _ s _ (λ c e. absurd (no (is_stop e) refl))
    (λ p. while_law (λ t es. Front (answer_while limit t.0 t.1.0 (release_all t.1.1))) bound limit s
    (λ all e. absurd (no (is_stop e) (answer_items_unstopped limit _ _)))
    (λ k w e. at k w (sym w.all_there ∙ ap stop_count e)))
  where
    Front : Outcome → Type 0
    Front o = o.1.0 ≡ Stopped n → StopsInFront bound limit n s o.1.1 o.0

    at : (k : ℕ) → Stops bound limit k s → k ≡ n → StopsInFront bound limit n s (release_all (halted (polled (take_up_to k s).1))) (take_up_to k s).0
    at k w e = subst (λ (j : ℕ). StopsInFront bound limit j s (release_all (halted (polled (take_up_to k s).1))) (take_up_to k s).0) e (stops_at s limit bound k w)

pub stops_exactly : StopsExactly rules_on_any_state
unfolding StopsExactly outcome receive_outcome try_recv_batch_into_while answer_while says_stopped accepted
stops_exactly s any limit bound room =
    unless_law Exactly _ s _ (λ c a. absurd (no a refl))
    (λ p. while_law (λ t es. Exactly (answer_while limit t.0 t.1.0 (release_all t.1.1))) bound limit s
    (λ all a. (λ h. answer_items_unstopped limit _ _, λ e. all_admitted bound (plain_items limit s) all))
    (λ k w a. (λ h. absurd (not_all s limit bound k w h), λ e. absurd (no refl e))))
  where
    Exactly : Outcome → Type 0
    Exactly o =
        accepted o.1.0 ≡ true
        → (AllAdmitted bound (plain_items limit s) → says_stopped o.1.0 ≡ false) × (says_stopped o.1.0 ≡ false → AllAdmitted bound (plain_items limit s))

first_out : (b : ℕ) (g : LaneKey × ℕ) (l : List (LaneKey × ℕ)) → b < g.1 → admitted b (g ∷ l) ≡ 0
unfolding admitted
first_out b g l h = ap (λ (c : Bool). if {A = ℕ} c (suc (admitted b l)) 0) (lt-leb g.1 b h)

none_of_none : (s : State) → (take_up_to 0 s).0 ≡ []
unfolding take_up_to
none_of_none s = refl

pub stop_at_zero : StopAtZero rules_on_any_state
unfolding StopAtZero outcome receive_outcome try_recv_batch_into_while answer_while accepted
stop_at_zero s any limit bound room acc g l e h =
    unless_law AtZero _ s _ (λ c a. absurd (no a refl))
    (λ p. while_law (λ t es. AtZero (answer_while limit t.0 t.1.0 (release_all t.1.1))) bound limit s
    (λ all a. absurd (omega (arith, sym none ∙ all, ap length e)))
    (λ k w a. let z : k ≡ 0 = w.is_count ∙ none in (ap Stopped (w.all_there ∙ z), ap (λ (j : ℕ). (take_up_to j s).0) z ∙ none_of_none s))) acc
  where
    AtZero : Outcome → Type 0
    AtZero o = accepted o.1.0 ≡ true → (o.1.0 ≡ Stopped 0) × (o.0 ≡ [])

    none : admitted bound (plain_items limit s) ≡ 0
    none = ap (admitted bound) e ∙ first_out bound g l h

-- ---- no other call answers so

issue_unstopped : (f : List ℕ) (s : State) → says_stopped (issue_slot f s).1.0 ≡ false
unfolding issue_slot says_stopped
issue_unstopped [] s = refl
issue_unstopped (x ∷ f) s = refl

other_unstopped : (s : State) (c : Call) → has_bound c ≡ false → says_stopped (outcome s c).1.0 ≡ false
unfolding has_bound outcome sender_outcome register_sender try_send try_send_unsignaled drop_sender receive_outcome try_recv try_recv_fair try_recv_from try_recv_batch_into control_outcome pause resume close_lane release_consumed poll_all_lanes close_receiver count_held says_stopped
other_unstopped s (Sender (RegisterSender most)) b = unless_law Unstopped _ s _ (λ n. refl) (λ p. issued (clear_slots s))
  where
    Unstopped : Outcome → Type 0
    Unstopped o = says_stopped o.1.0 ≡ false

    issued : (f : List ℕ) → Unstopped (issue_slot f s)
    issued f = issue_unstopped f s
other_unstopped s (Sender (TrySend k v)) b = unless_law (λ o. says_stopped o.1.0 ≡ false) _ s _ (λ n. refl) (λ p. refl)
other_unstopped s (Sender (TrySendUnsignaled k v)) b = unless_law (λ o. says_stopped o.1.0 ≡ false) _ s _ (λ n. refl) (λ p. refl)
other_unstopped s (Sender (DropSender k)) b = unless_law (λ o. says_stopped o.1.0 ≡ false) _ s _ (λ n. refl) (λ p. refl)
other_unstopped s (Receive TryRecv) b = unless_law (λ o. says_stopped o.1.0 ≡ false) _ s _ (λ n. refl) (λ p. answer_one_unstopped _ _)
other_unstopped s (Receive TryRecvFair) b = unless_law (λ o. says_stopped o.1.0 ≡ false) _ s _ (λ n. refl) (λ p. answer_one_unstopped _ _)
other_unstopped s (Receive (TryRecvFrom i)) b = unless_law (λ o. says_stopped o.1.0 ≡ false) _ s _ (λ n. refl) (λ p. take_from_unstopped _ _ s)
other_unstopped s (Receive (TryRecvBatchInto m n)) b = unless_law (λ o. says_stopped o.1.0 ≡ false) _ s _ (λ n. refl) (λ p. answer_items_unstopped m _ _)
other_unstopped s (Receive (TryRecvBatchIntoWhile m a n)) b = absurd (no refl b)
other_unstopped s (Control (Pause i)) b = unless_law (λ o. says_stopped o.1.0 ≡ false) _ s _ (λ n. refl) (λ p. refl)
other_unstopped s (Control (Resume i)) b = unless_law (λ o. says_stopped o.1.0 ≡ false) _ s _ (λ n. refl) (λ p. refl)
other_unstopped s (Control (CloseLane i)) b = unless_law (λ o. says_stopped o.1.0 ≡ false) _ s _ (λ n. refl) (λ p. refl)
other_unstopped s (Control ReleaseConsumed) b = unless_law (λ o. says_stopped o.1.0 ≡ false) _ s _ (λ n. refl) (λ p. refl)
other_unstopped s (Control PollAllLanes) b = unless_law (λ o. says_stopped o.1.0 ≡ false) _ s _ (λ n. refl) (λ p. refl)
other_unstopped s (Control CloseReceiver) b = unless_law (λ o. says_stopped o.1.0 ≡ false) _ s _ (λ n. refl) (λ p. refl)
other_unstopped s (Control CountHeld) b = refl

pub only_bounded_stop : OnlyBoundedStop rules_on_any_state
unfolding OnlyBoundedStop
only_bounded_stop s any c w = go (has_bound c) refl
  where
    go : (b : Bool) → has_bound c ≡ b → b ≡ true
    go true e = refl
    go false e = absurd (no w (other_unstopped s c e))

-- ---- paused lanes

-- the budget and the credit leave it as it was
credited_lane : (x : ℕ) (l : Slot) (s : State) → SameLane l (s.slot_of x) → SameLane l ((release_all (halted s)).slot_of x)
unfolding release_all halted
credited_lane x l s k = record { still_registered = k.still_registered; still_paused = k.still_paused; same_generation = k.same_generation; same_items = k.same_items }

pub stop_keeps_paused : StopKeepsPaused rules_viewed
unfolding StopKeepsPaused has_bound outcome receive_outcome try_recv_batch_into_while answer_while says_stopped
stop_keeps_paused s i (Receive (TryRecvBatchIntoWhile limit bound room)) w x r p =
    unless_law Keeps _ s _ (λ n z. absurd (no z refl))
    (λ q. while_law (λ t es. Keeps (answer_while limit t.0 t.1.0 (release_all t.1.1))) bound limit s
    (λ all z. absurd (no z (answer_items_unstopped limit _ _))) (λ k h z. credited_lane x (s.slot_of x) _ (polled_kept x (s.slot_of x) _ (take_up_to_ordered k s i.ordered) (take_up_to_kept x (s.slot_of x) k s i.ordered as_it_is)))) w
  where
    Keeps : Outcome → Type 0
    Keeps o = says_stopped o.1.0 ≡ true → SameLane (s.slot_of x) (o.1.1.slot_of x)

    as_it_is : SameLane (s.slot_of x) (s.slot_of x)
    as_it_is = record { still_registered = r; still_paused = p; same_generation = refl; same_items = refl }
stop_keeps_paused s i (Receive (TryRecvBatchInto limit room)) w x r p = absurd (no w (other_unstopped s (Receive (TryRecvBatchInto limit room)) refl))
stop_keeps_paused s i (Receive TryRecv) w x r p = absurd (no w (other_unstopped s (Receive TryRecv) refl))
stop_keeps_paused s i (Receive TryRecvFair) w x r p = absurd (no w (other_unstopped s (Receive TryRecvFair) refl))
stop_keeps_paused s i (Receive (TryRecvFrom j)) w x r p = absurd (no w (other_unstopped s (Receive (TryRecvFrom j)) refl))
stop_keeps_paused s i (Sender c) w x r p = absurd (no w (other_unstopped s (Sender c) refl))
stop_keeps_paused s i (Control c) w x r p = absurd (no w (other_unstopped s (Control c) refl))

-- two receives with one outcome
same_receive : (s : State) (r other : ReceiveCall) → receive_outcome s r ≡ receive_outcome s other → SameReceive rules_on_any_state s r other
unfolding outcome
same_receive s r other e = record { same_items = ap (λ (o : Outcome). o.0) e; same_answer = ap (λ (o : Outcome). o.1.0) e; same_state = ap (λ (o : Outcome). o.1.1) e }

pub plain_where_admitted : PlainWhereAdmitted rules_on_any_state
unfolding PlainWhereAdmitted receive_outcome try_recv_batch_into_while try_recv_batch_into answer_while
plain_where_admitted s any limit bound room h =
    same_receive s (TryRecvBatchIntoWhile limit bound room) (TryRecvBatchInto limit room)
    (ap (unless ((not s.is_open, ReceiverClosed) ∷ (ltb room limit, OutputShort) ∷ []) s)
    (while_law (λ t es. answer_while limit t.0 t.1.0 (release_all t.1.1) ≡ answer_items limit (plain_items limit s) (release_all (take_up_to limit s).1)) bound limit s
    (λ all. refl) (λ k w. absurd (not_all s limit bound k w h))))

-- the same refusals before two outcomes that are none
unless_same : (cs : List (Bool × Refusal)) (s : State) (o p : Outcome) → accepted o.1.0 ≡ true → accepted p.1.0 ≡ true
    → (accepted (unless cs s o).1.0 ≡ accepted (unless cs s p).1.0) × (accepted (unless cs s p).1.0 ≡ false → unless cs s o ≡ unless cs s p)
unfolding unless
unless_same [] s o p a b = (a ∙ sym b, λ e. absurd (no b e))
unless_same (c ∷ cs) s o p a b = go c.0 (unless_same cs s o p a b)
  where
    first : Bool → Outcome → Outcome
    first x q = if x ([], (Refused c.1, s)) (unless cs s q)

    go : (x : Bool) → (accepted (unless cs s o).1.0 ≡ accepted (unless cs s p).1.0) × (accepted (unless cs s p).1.0 ≡ false → unless cs s o ≡ unless cs s p)
        → (accepted (first x o).1.0 ≡ accepted (first x p).1.0) × (accepted (first x p).1.0 ≡ false → first x o ≡ first x p)
    go true ih = (refl, λ e. refl)
    go false ih = ih

refusals_alike : (s : State) (limit bound room : ℕ)
    → let r = receive_outcome s (TryRecvBatchIntoWhile limit bound room) in let plain = receive_outcome s (TryRecvBatchInto limit room) in
    (accepted r.1.0 ≡ accepted plain.1.0) × (accepted plain.1.0 ≡ false → r ≡ plain)
unfolding receive_outcome try_recv_batch_into_while try_recv_batch_into
refusals_alike s limit bound room = unless_same _ s _ _ (answer_while_accepted limit (take_while bound limit s).0 _ _) (answer_items_accepted limit _ _)

pub refused_as_batch : RefusedAsBatch rules_on_any_state
unfolding RefusedAsBatch outcome
refused_as_batch s any limit bound room =
    let e = refusals_alike s limit bound room in
    (e.0, λ z. same_receive s (TryRecvBatchIntoWhile limit bound room) (TryRecvBatchInto limit room) (e.1 z))

pub still_waits : StillWaits
unfolding StillWaits note accepted apply_call add_registered ends_stretch ends_wait
still_waits L k r n = (refl, refl)

-- ---- lists of calls

-- an item that a batch with a bound hands out is at most it
Fine : Tick → Type 0
Fine (gives (TryRecvBatchIntoWhile limit bound room) k v) = v ≤ bound
Fine (gives TryRecv k v) = Unit {0}
Fine (gives TryRecvFair k v) = Unit {0}
Fine (gives (TryRecvFrom i) k v) = Unit {0}
Fine (gives (TryRecvBatchInto limit room) k v) = Unit {0}
Fine (ends c a) = Unit {0}

each_at : {A : Type 0} (P : A → Type 0) (xs : List A) (x : A) (ys : List A) → Each P (xs ++ (x ∷ ys)) → P x
unfolding Each
each_at P [] x ys f = f.0
each_at P (z ∷ xs) x ys f = each_at P xs x ys f.1

each_tick : (r : ReceiveCall) (l : List (LaneKey × ℕ)) → Each (λ g. Fine (gives r g.0 g.1)) l → Each Fine (map (λ g. gives r g.0 g.1) l)
unfolding Each
each_tick r [] f = tt
each_tick r (g ∷ l) f = (f.0, each_tick r l f.1)

each_all : {A : Type 0} (P : A → Type 0) (l : List A) → ((x : A) → P x) → Each P l
unfolding Each
each_all P [] f = tt
each_all P (x ∷ l) f = (f x, each_all P l f)

items_admitted : (b m : ℕ) (s : State) → AllAdmitted b (take_while b m s).1.0
items_admitted b m s =
    while_law (λ t es. AllAdmitted b t.1.0) b m s (λ all. all_admitted b (plain_items m s) all) (λ k w. (stops_at s m b k w).all_admitted)

answer_while_items : (m : ℕ) (c : Bool) (l : List (LaneKey × ℕ)) (s : State) → (answer_while m c l s).0 ≡ l
unfolding answer_while answer_items
answer_while_items m true l s = refl
answer_while_items m false l s = go m l
  where
    go : (m : ℕ) (l : List (LaneKey × ℕ)) → (answer_items m l s).0 ≡ l
    go zero l = refl
    go (suc m) [] = nothing_taken_gives_none s
    go (suc m) (g ∷ l) = refl

receive_fine : (s : State) (r : ReceiveCall) → Each (λ g. Fine (gives r g.0 g.1)) (receive_outcome s r).0
unfolding Fine receive_outcome try_recv_batch_into_while Each
receive_fine s TryRecv = each_all {A = LaneKey × ℕ} (λ g. Fine (gives TryRecv g.0 g.1)) (receive_outcome s TryRecv).0 (λ g. tt)
receive_fine s TryRecvFair = each_all {A = LaneKey × ℕ} (λ g. Fine (gives TryRecvFair g.0 g.1)) (receive_outcome s TryRecvFair).0 (λ g. tt)
receive_fine s (TryRecvFrom i) = each_all {A = LaneKey × ℕ} (λ g. Fine (gives (TryRecvFrom i) g.0 g.1)) (receive_outcome s (TryRecvFrom i)).0 (λ g. tt)
receive_fine s (TryRecvBatchInto limit room) = each_all {A = LaneKey × ℕ} (λ g. Fine (gives (TryRecvBatchInto limit room) g.0 g.1)) (receive_outcome s (TryRecvBatchInto limit room)).0 (λ g. tt)
receive_fine s (TryRecvBatchIntoWhile limit bound room) =
    unless_law (λ o. AllAdmitted bound o.0) _ s _ (λ n. tt)
    (λ p. subst (AllAdmitted bound) (sym (answer_while_items limit (take_while bound limit s).0 _ _)) (items_admitted bound limit s))

call_fine : (s : State) (c : Call) → Each Fine (ticks the_rules s c)
unfolding ticks handed Each Fine
call_fine s (Sender c) = (tt, tt)
call_fine s (Control c) = (tt, tt)
call_fine s (Receive r) =
    each_append Fine (map (λ g. gives r g.0 g.1) (receive_outcome s r).0) (ends (Receive r) (outcome s (Receive r)).1.0 ∷ []) (each_tick r (receive_outcome s r).0 (receive_fine s r)) (tt, tt)

run_fine : (s : State) (calls : List Call) → Each Fine (trace the_rules s calls)
unfolding trace Each
run_fine s [] = tt
run_fine s (c ∷ cs) = each_append Fine (ticks the_rules s c) (trace the_rules (outcome s c).1.1 cs) (call_fine s c) (run_fine (outcome s c).1.1 cs)

pub hands_only_admitted : HandsOnlyAdmitted the_rules
unfolding HandsOnlyAdmitted HandsOnlyAdmittedIn Fine
hands_only_admitted o lent d calls all before rest limit bound room k v e =
    each_at Fine before (gives (TryRecvBatchIntoWhile limit bound room) k v) rest (subst (Each Fine) e (run_fine (opening_outcome o lent).1.1 calls))

either_first : (a b : Bool) → a ≡ true → either a b ≡ true
either_first a b e = rw e

either_second : (a b : Bool) → b ≡ true → either a b ≡ true
either_second true b e = refl
either_second false b e = e

-- a lane of the ledger that is found in it
above_looked : (b : ℕ) (k : LaneKey) (ls : List Lane) (l : Lane) → look k ls ≡ some l → l.paused ≡ false → l.closed ≡ false → oldest_above b l.holds ≡ true → some_above b ls ≡ true
unfolding look some_above
above_looked b k [] l e p c h = let z : ◌≡◌ {A = ℕ} 0 1 = cc in absurd (omega arith)
above_looked b k (m ∷ ls) l e p c h = elim (keys? m.key k) [
  | alike q f ↦
      let same : m ≡ l = some_path (rw f at e) in
      either_first (next m) (some_above b ls)
      (ap next same ∙ ap₂ (λ (x y : Bool). both (not x) (both (not y) (oldest_above b l.holds))) p c ∙ h)
  | unlike q f ↦ either_second (next m) (some_above b ls) (above_looked b k ls l (rw f at e) p c h)
]
  where
    next : Lane → Bool
    next n = both (not n.paused) (both (not n.closed) (oldest_above b n.holds))

oldest_above_lem : (b v : ℕ) (hs : List HeldItem) (vs : List ℕ) → map (λ h. h.value) hs ≡ v ∷ vs → b < v → oldest_above b hs ≡ true
unfolding oldest_above
oldest_above_lem b v [] vs e h = let z : ◌≡◌ {A = ℕ} 0 1 = cc in absurd (omega arith)
oldest_above_lem b v (i ∷ hs) vs e h = let q : i.value ≡ v = cc in lt-ltb b i.value (omega (arith, q))

-- the ledger when such a call ends
stop_ledger : (L : Ledger) (s : State) (r : ReceiveCall) (done : List Tick) (n : ℕ) → (outcome s (Receive r)).1.0 ≡ Stopped n
    → ledger_after (ledger_after L done) (ticks the_rules s (Receive r)) ≡ ledger_after L (done ++ handed the_rules s (Receive r))
unfolding ticks ledger_after note accepted apply_call add_registered
stop_ledger L s r done n e =
    after_append (ledger_after L done) (handed the_rules s (Receive r)) _
    ∙ ap (λ (a : Answer). note (ledger_after (ledger_after L done) (handed the_rules s (Receive r))) (ends (Receive r) a)) e
    ∙ sym (after_append L done (handed the_rules s (Receive r)))

stops_at_item : (o : Opening) (lent : Lent) → (opening_outcome o lent).1.0 ≡ Done → (calls : List Call) (before rest : List Tick) (limit bound room n : ℕ)
    → trace the_rules (opening_outcome o lent).1.1 calls ≡ before ++ (ends (Receive (TryRecvBatchIntoWhile limit bound room)) (Stopped n) ∷ rest)
    → (n < limit) × (some_above bound (ledger_after at_opening before).lanes ≡ true)
unfolding StoppedInFront
stops_at_item o lent d calls before rest limit bound room n e =
    let c = Receive (TryRecvBatchIntoWhile limit bound room) in
    let s = (opening_outcome o lent).1.1 in
    let i = opening_in_order o lent d in
    let p = ends_at calls s before rest c (Stopped n) e in
    let u = after_list the_rules s p.made in
    let j = run_in_order o lent d p.made in
    let f = stopped_in_front u tt limit bound room n (sym p.answered) in
    let L = ledger_after at_opening (trace the_rules s p.made) in
    let g = chain_agrees L (call_chain u c) j.ordered (chain_agrees at_opening (trace_chain s p.made) i.ordered (rw (opens_as o lent) (opened_agrees o))) in
    let w = (outcome u c).1.1 in
    let ordered : Ordered w = (call_keeps_order u c j).ordered in
    let m = g.lane_of f.lane (front_registered w f.lane f.others f.in_front ordered) in
    let l = stop_ledger at_opening u (TryRecvBatchIntoWhile limit bound room) (trace the_rules s p.made) n (sym p.answered) ∙ ap (ledger_after at_opening) (sym p.so_far) in (
      f.below,
      ap (λ (M : Ledger). some_above bound M.lanes) (sym l)
          ∙ above_looked bound (key_of w f.lane) _ m.entry m.looked
          (m.matches.pauses_same ∙ (ordered.each_slot f.lane).queued_unpaused (omega (arith, ap (count f.lane) f.in_front, first_own f.lane f.others))) m.matches.unclosed
          (oldest_above_lem bound f.item m.entry.holds f.left (m.matches.values_same ∙ f.oldest) f.not_admitted),
    )

pub stops_only_at_items : StopsOnlyAtItems the_rules
unfolding StopsOnlyAtItems StopsOnlyAtItemsIn StopsAt has_bound
stops_only_at_items o lent d calls all before rest c n e = go c e (λ b. let p = ends_at calls s before rest c (Stopped n) e in no (is_stop (sym p.answered)) (other_unstopped (after_list the_rules s p.made) c b))
  where
    s : State
    s = (opening_outcome o lent).1.1

    go : (c : Call) → trace the_rules s calls ≡ before ++ (ends c (Stopped n) ∷ rest) → (has_bound c ≡ false → ⊥) → StopsAt c n (ledger_after at_opening before).lanes
    go (Receive (TryRecvBatchIntoWhile limit bound room)) e f = stops_at_item o lent d calls before rest limit bound room n e
    go (Receive (TryRecvBatchInto limit room)) e f = f refl
    go (Receive TryRecv) e f = f refl
    go (Receive TryRecvFair) e f = f refl
    go (Receive (TryRecvFrom i)) e f = f refl
    go (Sender c) e f = f refl
    go (Control c) e f = f refl

-- ---- the next item

give_item_open : (s : State) (y : ℕ) (q vs : List ℕ) (back : Bool) → (give_item s y q vs back).is_open ≡ s.is_open
unfolding give_item
give_item_open s y q vs back = refl

take_up_to_open : (n : ℕ) (s : State) → (take_up_to n s).1.is_open ≡ s.is_open
unfolding take_up_to and_more
take_up_to_open zero s = refl
take_up_to_open (suc n) s = go (take_one s).0 (take_up_to_open n (take_one s).1) (one (take_one s) (take_one_taken s))
  where
    one : (t : Took) → TakeResult false s t → t.1.is_open ≡ s.is_open
    one t (took_none e) = (poll_quiet false s).opens
    one t (took_one y v q vs e g) = give_item_open (poll false s) y q vs _ ∙ (poll_quiet false s).opens

    go : (l : List (LaneKey × ℕ)) → (take_up_to n (take_one s).1).1.is_open ≡ (take_one s).1.is_open → (take_one s).1.is_open ≡ s.is_open
        → (and_more l (take_one s).1 (take_up_to n (take_one s).1)).1.is_open ≡ s.is_open
    go [] ih e = e
    go (g ∷ l) ih e = ih ∙ e

-- one that stopped was not refused, and leaves the receiver open
stop_open : (s : State) (limit bound room n : ℕ) → let o = receive_outcome s (TryRecvBatchIntoWhile limit bound room) in o.1.0 ≡ Stopped n → o.1.1.is_open ≡ true
unfolding receive_outcome try_recv_batch_into_while answer_while says_stopped release_all halted
stop_open s limit bound room n =
    unless_law Open _ s _ (λ c e. absurd (no (is_stop e) refl))
    (λ p. while_law (λ t es. Open (answer_while limit t.0 t.1.0 (release_all t.1.1))) bound limit s
    (λ all e. absurd (no (is_stop e) (answer_items_unstopped limit _ _)))
    (λ k w e. (polled_quiet (take_up_to k s).1).opens ∙ take_up_to_open k s ∙ not_false p.0))
  where
    Open : Outcome → Type 0
    Open o = o.1.0 ≡ Stopped n → o.1.1.is_open ≡ true

answer_one_hands : (g : LaneKey × ℕ) (u : State) → (answer_one (g ∷ []) u).0 ≡ g ∷ []
unfolding answer_one
answer_one_hands g u = refl

-- what a plain receive hands out where the front lane holds an item and no collection is due
plain_hands : (s : State) (y v : ℕ) (q vs : List ℕ) → s.is_open ≡ true → s.queue ≡ y ∷ q → (s.slot_of y).ring ≡ v ∷ vs → 1 ≤ s.budget → (receive_outcome s TryRecv).0 ≡ (key_of s y, v) ∷ []
unfolding receive_outcome try_recv unless
plain_hands s y v q vs o e r b =
    ap (λ (c : Bool). (unless ((not c, ReceiverClosed) ∷ []) s (answer_one (take_one s).0 (take_one s).1)).0) o
    ∙ ap (λ (t : Took). (answer_one t.0 t.1).0) (take_one_front s y v q vs e r b) ∙ answer_one_hands (key_of s y, v) _

not_plain_sender : (c : SenderCall) (a : Answer) (t : Tick) → t ≡ ends (Sender c) a → of_plain t ≡ false
unfolding of_plain
not_plain_sender c a t k = ap of_plain k

not_plain_control : (c : ControlCall) (a : Answer) (t : Tick) → t ≡ ends (Control c) a → of_plain t ≡ false
unfolding of_plain
not_plain_control c a t k = ap of_plain k

-- the first thing of a call's: which receive's
first_of : (r : ReceiveCall) (l : List (LaneKey × ℕ)) (a : Answer) (more : List Tick) (t : Tick) (rest : List Tick)
    → t ∷ rest ≡ (map (λ g. gives r g.0 g.1) l ++ (ends (Receive r) a ∷ [])) ++ more → of_plain t ≡ is_plain r
unfolding of_plain
first_of r [] a more t rest e = let h : t ≡ ends (Receive r) a = cc in ap of_plain h
first_of r (g ∷ l) a more t rest e = let h : t ≡ gives r g.0 g.1 = cc in ap of_plain h

first_of_call : (s : State) (r : ReceiveCall) (cs : List Call) (t : Tick) (rest : List Tick) → t ∷ rest ≡ trace the_rules s (Receive r ∷ cs) → of_plain t ≡ is_plain r
unfolding trace ticks handed
first_of_call s r cs t rest e = first_of r (receive_outcome s r).0 (outcome s (Receive r)).1.0 (trace the_rules (outcome s (Receive r)).1.1 cs) t rest e

first_item : (r : ReceiveCall) (g : LaneKey × ℕ) (l : List (LaneKey × ℕ)) (a : Answer) (more : List Tick) (t : Tick) (rest : List Tick) (b : ℕ) → b < g.1
    → t ∷ rest ≡ (map (λ h. gives r h.0 h.1) (g ∷ l) ++ (ends (Receive r) a ∷ [])) ++ more → gives_above b t ≡ true
unfolding gives_above
first_item r g l a more t rest b h e = let k : t ≡ gives r g.0 g.1 = cc in ap (gives_above b) k ∙ lt-ltb b g.1 h

plain_first : (s : State) (bound y v : ℕ) (q vs : List ℕ) → s.is_open ≡ true → s.queue ≡ y ∷ q → (s.slot_of y).ring ≡ v ∷ vs → 1 ≤ s.budget → bound < v
    → (calls : List Call) (t : Tick) (rest : List Tick) → t ∷ rest ≡ trace the_rules s calls → of_plain t ≡ true → gives_above bound t ≡ true
unfolding trace ticks handed is_plain
plain_first s bound y v q vs o e r b h [] t rest f w = let z : ◌≡◌ {A = ℕ} 0 1 = cc in absurd (omega arith)
plain_first s bound y v q vs o e r b h (Sender c ∷ cs) t rest f w = let k : t ≡ ends (Sender c) (outcome s (Sender c)).1.0 = cc in absurd (no w (not_plain_sender c _ t k))
plain_first s bound y v q vs o e r b h (Control c ∷ cs) t rest f w = let k : t ≡ ends (Control c) (outcome s (Control c)).1.0 = cc in absurd (no w (not_plain_control c _ t k))
plain_first s bound y v q vs o e r b h (Receive TryRecv ∷ cs) t rest f w =
    first_item TryRecv (key_of s y, v) [] (outcome s (Receive TryRecv)).1.0 _ t rest bound h
    (f ∙ ap (λ (l : List (LaneKey × ℕ)). (map (λ g. gives TryRecv g.0 g.1) l ++ (ends (Receive TryRecv) (outcome s (Receive TryRecv)).1.0 ∷ [])) ++ trace the_rules (outcome s (Receive TryRecv)).1.1 cs) (plain_hands s y v q vs o e r b))
plain_first s bound y v q vs o e r b h (Receive TryRecvFair ∷ cs) t rest f w = absurd (no w (first_of_call s TryRecvFair cs t rest f))
plain_first s bound y v q vs o e r b h (Receive (TryRecvFrom i) ∷ cs) t rest f w = absurd (no w (first_of_call s (TryRecvFrom i) cs t rest f))
plain_first s bound y v q vs o e r b h (Receive (TryRecvBatchInto m n) ∷ cs) t rest f w = absurd (no w (first_of_call s (TryRecvBatchInto m n) cs t rest f))
plain_first s bound y v q vs o e r b h (Receive (TryRecvBatchIntoWhile m a n) ∷ cs) t rest f w = absurd (no w (first_of_call s (TryRecvBatchIntoWhile m a n) cs t rest f))

pub next_is_above : NextIsAbove the_rules
unfolding NextIsAbove NextIsAboveIn StoppedInFront outcome
next_is_above o lent d calls all before rest limit bound room n t e w =
    let c = Receive (TryRecvBatchIntoWhile limit bound room) in
    let s = (opening_outcome o lent).1.1 in
    let p = ends_at calls s before (t ∷ rest) c (Stopped n) e in
    let u = after_list the_rules s p.made in
    let f = stopped_in_front u tt limit bound room n (sym p.answered) in
    plain_first (outcome u c).1.1 bound f.lane f.item f.others f.left (stop_open u limit bound room n (sym p.answered)) f.in_front f.oldest f.none_due f.not_admitted
    p.left t rest p.goes_on w
