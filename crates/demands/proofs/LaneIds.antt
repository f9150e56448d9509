-- Which lane ids are equal, which name a lane and which calls are refused 13; and that ids tell openings from each other, as a call keeps channel and number.
-- Assumes nothing.
use mathlib.Core.Path.{◌≡◌, refl, ap, sym, ◌∙◌, subst}
use mathlib.Core.Bool.{Bool, true, false, not}
use mathlib.Core.List.{List, [], ◌∷◌}
use Prim.Native.Nat.{ℕ, zero, suc}
use native.Mathlib.Omega.{arith}
use lib.Dec.{eqb, leb}
use borrow.Author.Tests.{eqb-true}
use Rattle.model.specs.declared.LaneKey.{LaneKey}
use Rattle.model.specs.declared.OpenedChannel.{OpenedChannel}
use Rattle.model.specs.declared.LaneId.{LaneId}
use Rattle.model.specs.declared.Opening.{Opening}
use Rattle.model.specs.declared.SenderCall.{SenderCall}
use Rattle.model.specs.declared.SenderCall.TheVariants.{RegisterSender, TrySend, TrySendUnsignaled, DropSender}
use Rattle.model.specs.declared.ReceiveCall.TheVariants.{TryRecv, TryRecvFair, TryRecvFrom, TryRecvBatchInto, TryRecvBatchIntoWhile}
use Rattle.model.specs.declared.ControlCall.TheVariants.{Pause, Resume, CloseLane, ReleaseConsumed, PollAllLanes, CloseReceiver, CountHeld}
use Rattle.model.specs.declared.Call.{Call}
use Rattle.model.specs.declared.Call.TheVariants.{Sender, Receive, Control}
use Rattle.model.specs.declared.Refusal.TheVariants.{ReceiverClosed, NoSuchLane}
use Rattle.model.specs.declared.Answer.{Answer}
use Rattle.model.specs.declared.Answer.TheVariants.{Done, Registered, Taken, Item, Items, Stopped, Empty, Disconnected, Held, Refused}
use Rattle.model.specs.Answers.{number}
use Rattle.model.specs.Lists.{if, Each, from}
use Rattle.model.specs.State.{State, registered_lanes, living_senders, key_of, has_lane, same_opening, has_lane_id}
use Rattle.model.specs.Turn.{Took, take_one, take_fair}
use Rattle.model.specs.Outcome.{Outcome, says, unless}
use Rattle.model.specs.Runs.{Rules, RunsOf, accepted, after_list}
use Rattle.model.specs.Sender.{clear_slots, issue_slot, register_sender, try_send, try_send_unsignaled, drop_sender, sender_outcome}
use Rattle.model.specs.Receive.{retire_empty_paused_lanes, empty_or_drained, nothing_taken, answer_one, take_from, answer_items, try_recv, try_recv_fair, try_recv_from, try_recv_batch_into, take_while, answer_while, try_recv_batch_into_while, receive_outcome}
use Rattle.model.specs.Control.{pause, resume, close_lane, release_consumed, poll_all_lanes, close_receiver, count_held, control_outcome}
use Rattle.model.specs.Opening.{channel_of, opening_outcome}
use Rattle.model.specs.Rules.{outcome, the_rules}
use Rattle.model.specs.Viewed.{rules_on_any_state}
use Rattle.model.specs.LaneIds.{EqualExactly, KnownExactly, ByLaneId, targets, pauses, resumes, closes, NamesLane, NamesNoLane, ThirteenExactly, SixOrAccepted, ElseSixOrAccepted, RefusedById, receiver_closed, no_such_lane, ToldApart, OpeningsToldApartIn, OpeningsToldApart, SavedOf, of_item, of_lane, SavedIdsRefusedIn}
use Rattle.demands.proofs.Counting.{no, both_true, self}
use Rattle.demands.proofs.Quiet.{poll, poll_quiet}
use Rattle.demands.proofs.Moves.{unless_each, TakeResult, took_none, took_one, take_one_taken, take_fair_taken}
use Rattle.demands.proofs.MovesKeepOrder.{has_lane_parts, has_lane_intro}
use Rattle.demands.proofs.Points.{ends_at}
use Rattle.demands.proofs.LedgerAgrees.{key_path}
use Rattle.demands.proofs.ChannelKept.{give_item_channel, run_channel}

-- ---- ids

pub channel_path : (a b : OpenedChannel) → a.id ≡ b.id → a.opening ≡ b.opening → a ≡ b
channel_path a b p q = λ t. record { id = p t; opening = q t }

id_path : (i j : LaneId) → i.channel ≡ j.channel → i.key ≡ j.key → i ≡ j
id_path i j p q = λ t. record { channel = p t; key = q t }

pub equal_exactly : EqualExactly
equal_exactly i j = (
  λ e. record {
    channel = ap (λ (k : LaneId). k.channel.id) e;
    opening = ap (λ (k : LaneId). k.channel.opening) e;
    slot = ap (λ (k : LaneId). k.key.slot) e;
    generation = ap (λ (k : LaneId). k.key.generation) e;
  },
  λ a. id_path i j (channel_path i.channel j.channel a.channel a.opening) (key_path i.key j.key a.slot a.generation),
)

channel_of_id : (s : State) (i : LaneId) → has_lane_id s i ≡ true → i.channel ≡ s.channel
unfolding has_lane_id
channel_of_id s i e =
    let c = (both_true (same_opening i.channel s.channel) (has_lane s i.key) e).0 in
    let p = both_true (eqb i.channel.id s.channel.id) (eqb i.channel.opening s.channel.opening) c in
    channel_path i.channel s.channel (eqb-true _ _ p.0) (eqb-true _ _ p.1)

pub known_exactly : KnownExactly
unfolding has_lane_id
known_exactly s i = (
  λ e.
      let p = has_lane_parts s i.key (both_true (same_opening i.channel s.channel) (has_lane s i.key) e).1 in
      let k = key_path (key_of s i.key.slot) i.key refl p.1 in
      record { slot = i.key.slot; registered = p.0; same = id_path _ i (sym (channel_of_id s i e)) k },
  λ n.
      subst (λ (j : LaneId). has_lane_id s j ≡ true) n.same
      (rw (self s.channel.id, self s.channel.opening) (has_lane_intro s (key_of s n.slot) n.registered refl)),
)

-- ---- one call

-- An answer other than refusal 13; if it is an item, its id has this channel.
Proper : OpenedChannel → Answer → Type 0
Proper h (Item v i) = i.channel ≡ h
Proper h (Refused r) = eqb (number r) 13 ≡ false
Proper h Done = Unit {0}
Proper h (Registered k) = Unit {0}
Proper h (Taken w f) = Unit {0}
Proper h (Items n) = Unit {0}
Proper h (Stopped n) = Unit {0}
Proper h Empty = Unit {0}
Proper h Disconnected = Unit {0}
Proper h (Held n) = Unit {0}

module _ (h : OpenedChannel) where
  abbrev ProperOf : Outcome → Type 0
  ProperOf o = Proper h o.1.0

  nothing_taken_proper : (s : State) → ProperOf (nothing_taken s)
  unfolding nothing_taken empty_or_drained Proper
  nothing_taken_proper s = go (leb 1 (living_senders s)) (leb 1 (registered_lanes u))
    where
      u : State
      u = retire_empty_paused_lanes (from 0 s.issued) s

      go : (b c : Bool) → ProperOf (if b (says Empty s) (says (if c Empty Disconnected) u))
      go true c = tt
      go false true = tt
      go false false = tt

  answer_one_proper : {f : Bool} {s : State} (t : Took) → TakeResult f s t → t.1.channel ≡ h → ProperOf (answer_one t.0 t.1)
  unfolding answer_one Proper
  answer_one_proper t (took_none e) c = nothing_taken_proper _
  answer_one_proper t (took_one y v q vs e g) c = c

  answer_items_proper : (m : ℕ) (l : List (LaneKey × ℕ)) (s : State) → ProperOf (answer_items m l s)
  unfolding answer_items Proper
  answer_items_proper zero l s = tt
  answer_items_proper (suc m) [] s = nothing_taken_proper s
  answer_items_proper (suc m) (g ∷ l) s = tt

  answer_while_proper : (m : ℕ) (b : Bool) (l : List (LaneKey × ℕ)) (s : State) → ProperOf (answer_while m b l s)
  unfolding answer_while Proper
  answer_while_proper m true l s = tt
  answer_while_proper m false l s = answer_items_proper m l s

module _ (s : State) where
  abbrev h : OpenedChannel
  h = s.channel

  sender_proper : (c : SenderCall) → ProperOf h (sender_outcome s c)
  unfolding sender_outcome register_sender issue_slot try_send try_send_unsignaled drop_sender Proper number Each
  sender_proper (RegisterSender most) = unless_each (ProperOf h) _ s _ (refl, (refl, (refl, (refl, tt)))) (go (clear_slots s))
    where
      go : (f : List ℕ) → ProperOf h (issue_slot f s)
      go [] = tt
      go (x ∷ f) = tt
  sender_proper (TrySend k v) = unless_each (ProperOf h) _ s _ (refl, (refl, (refl, tt))) tt
  sender_proper (TrySendUnsignaled k v) = unless_each (ProperOf h) _ s _ (refl, (refl, (refl, tt))) tt
  sender_proper (DropSender k) = unless_each (ProperOf h) _ s _ (refl, tt) tt

  -- the answer of a call by id: "The first that applies is given."
  data First (i : LaneId) : Answer → Type 0 where
    closed : s.is_open ≡ false → First i (Refused ReceiverClosed)
    unknown : s.is_open ≡ true → has_lane_id s i ≡ false → First i (Refused NoSuchLane)
    known : (a : Answer) → s.is_open ≡ true → has_lane_id s i ≡ true → accepted a ≡ true → Proper h a → First i a

  first : (i : LaneId) (r : Outcome) → accepted r.1.0 ≡ true → ProperOf h r → First i (unless ((not s.is_open, ReceiverClosed) ∷ (not (has_lane_id s i), NoSuchLane) ∷ []) s r).1.0
  unfolding unless
  first i r y p = go s.is_open (has_lane_id s i) refl refl
    where
      go : (a b : Bool) → s.is_open ≡ a → has_lane_id s i ≡ b → First i (unless ((not a, ReceiverClosed) ∷ (not b, NoSuchLane) ∷ []) s r).1.0
      go false b e f = closed e
      go true false e f = unknown e f
      go true true e f = known _ e f y p

  by_id : (i : LaneId) {c : Call} → ByLaneId i c → First i (outcome s c).1.0
  unfolding outcome receive_outcome control_outcome try_recv_from pause resume close_lane take_from Proper accepted
  by_id i targets = let p = go (s.slot_of i.key.slot).ring in first i _ p.0 p.1
    where
      nothing : (b : Bool) → (accepted (if b Empty Disconnected) ≡ true) × Proper h (if b Empty Disconnected)
      nothing true = (refl, tt)
      nothing false = (refl, tt)

      go : (l : List ℕ) → (accepted (take_from l i.key.slot s).1.0 ≡ true) × ProperOf h (take_from l i.key.slot s)
      go [] = nothing (s.slot_of i.key.slot).living
      go (v ∷ vs) = (refl, refl)
  by_id i pauses = first i _ refl tt
  by_id i resumes = first i _ refl tt
  by_id i closes = first i _ refl tt

  -- ---- all calls

  taken_channel : {f : Bool} {t : Took} → TakeResult f s t → t.1.channel ≡ h
  taken_channel {f} (took_none e) = (poll_quiet f s).channels
  taken_channel {f} (took_one y v q vs e g) = give_item_channel (poll f s) y q vs _ ∙ (poll_quiet f s).channels

  data Kind (c : Call) : Type 0 where
    of_id : (i : LaneId) → ByLaneId i c → Kind c
    of_none : ProperOf h (outcome s c) → Kind c

  kind : (c : Call) → Kind c
  unfolding outcome receive_outcome control_outcome try_recv try_recv_fair try_recv_batch_into try_recv_batch_into_while release_consumed poll_all_lanes close_receiver count_held Proper number Each
  kind (Sender c) = of_none (sender_proper c)
  kind (Receive TryRecv) = of_none (unless_each (ProperOf h) _ s _ (refl, tt) (answer_one_proper h (take_one s) (take_one_taken s) (taken_channel (take_one_taken s))))
  kind (Receive TryRecvFair) = of_none (unless_each (ProperOf h) _ s _ (refl, tt) (answer_one_proper h (take_fair s) (take_fair_taken s) (taken_channel (take_fair_taken s))))
  kind (Receive (TryRecvFrom i)) = of_id i targets
  kind (Receive (TryRecvBatchInto limit room)) = of_none (unless_each (ProperOf h) _ s _ (refl, (refl, tt)) (answer_items_proper h limit _ _))
  kind (Receive (TryRecvBatchIntoWhile limit bound room)) = of_none (unless_each (ProperOf h) _ s _ (refl, (refl, tt)) (answer_while_proper h limit (take_while bound limit s).0 _ _))
  kind (Control (Pause i)) = of_id i pauses
  kind (Control (Resume i)) = of_id i resumes
  kind (Control (CloseLane i)) = of_id i closes
  kind (Control ReleaseConsumed) = of_none (unless_each (ProperOf h) _ s _ (refl, tt) tt)
  kind (Control PollAllLanes) = of_none (unless_each (ProperOf h) _ s _ (refl, tt) tt)
  kind (Control CloseReceiver) = of_none (unless_each (ProperOf h) _ s _ (refl, tt) tt)
  kind (Control CountHeld) = of_none tt

  not_thirteen : {a : Answer} → Proper h a → a ≡ Refused NoSuchLane → ⊥
  unfolding Proper number
  not_thirteen p e = no refl (subst (Proper h) e p)

  thirteen_then : (c : Call) → (outcome s c).1.0 ≡ Refused NoSuchLane → NamesNoLane s c
  unfolding Proper number
  thirteen_then c = go (kind c)
    where
      of : {a : Answer} (i : LaneId) → ByLaneId i c → First i a → a ≡ Refused NoSuchLane → NamesNoLane s c
      of i b (closed e) z = absurd (not_thirteen {a = Refused ReceiverClosed} refl z)
      of i b (unknown e f) z = record { id = i; by_id = b; is_open = e; no_lane = λ n. no ((known_exactly s i).1 n) f }
      of i b (known a e f y p) z = absurd (not_thirteen p z)

      go : Kind c → (outcome s c).1.0 ≡ Refused NoSuchLane → NamesNoLane s c
      go (of_id i b) z = of i b (by_id i b) z
      go (of_none p) z = absurd (not_thirteen p z)

  thirteen_only_then : (c : Call) → NamesNoLane s c → (outcome s c).1.0 ≡ Refused NoSuchLane
  thirteen_only_then c n = go (by_id n.id n.by_id)
    where
      go : {a : Answer} → First n.id a → a ≡ Refused NoSuchLane
      go (closed e) = absurd (no n.is_open e)
      go (unknown e f) = refl
      go (known a e f y p) = absurd (n.no_lane ((known_exactly s n.id).0 f))

  six_or_accepted : (i : LaneId) {c : Call} → ByLaneId i c → SixOrAccepted s i (outcome s c).1.0
  six_or_accepted i b = record { six = six (by_id i b); accepts = accepts (by_id i b) }
    where
      six : {a : Answer} → First i a → s.is_open ≡ false → a ≡ Refused ReceiverClosed
      six (closed e) z = refl
      six (unknown e f) z = absurd (no e z)
      six (known a e f y p) z = absurd (no e z)

      accepts : {a : Answer} → First i a → s.is_open ≡ true → NamesLane s i → accepted a ≡ true
      accepts (closed e) z n = absurd (no z e)
      accepts (unknown e f) z n = absurd (no ((known_exactly s i).1 n) f)
      accepts (known a e f y p) z n = y

  other_refused : (i : LaneId) {c : Call} → ByLaneId i c → (i.channel ≡ h → ⊥) → RefusedById (outcome s c).1.0
  other_refused i b n = go (by_id i b)
    where
      go : {a : Answer} → First i a → RefusedById a
      go (closed e) = receiver_closed
      go (unknown e f) = no_such_lane
      go (known a e f y p) = absurd (n (channel_of_id s i f))

  item_carries : (c : Call) (v : ℕ) (j : LaneId) → (outcome s c).1.0 ≡ Item v j → j.channel ≡ h
  unfolding Proper number
  item_carries c v j = go (kind c)
    where
      of : {a : Answer} (i : LaneId) → First i a → a ≡ Item v j → j.channel ≡ h
      of i (closed e) z = subst (Proper h) z refl
      of i (unknown e f) z = let x : ◌≡◌ {A = ℕ} 0 1 = cc in absurd (omega arith)
      of i (known a e f y p) z = subst (Proper h) z p

      go : Kind c → (outcome s c).1.0 ≡ Item v j → j.channel ≡ h
      go (of_id i b) z = of i (by_id i b) z
      go (of_none p) z = subst (Proper h) z p

pub thirteen_exactly : ThirteenExactly rules_on_any_state
unfolding ThirteenExactly
thirteen_exactly s any c = (thirteen_then s c, thirteen_only_then s c)

pub else_six_or_accepted : ElseSixOrAccepted rules_on_any_state
unfolding ElseSixOrAccepted
else_six_or_accepted s any i c b = six_or_accepted s i b

-- ---- runs

pub openings_told_apart : OpeningsToldApart the_rules
unfolding OpeningsToldApart OpeningsToldApartIn
openings_told_apart o lent d calls all before rest c a e =
    let opened = (opening_outcome o lent).1.1 in
    let p = ends_at calls opened before rest c a e in
    let s = after_list the_rules opened p.made in
    let same = run_channel o lent p.made in
    record {
      others_refused = λ i b n. subst RefusedById (sym p.answered) (other_refused s i b (λ q. n (q ∙ same)));
      items_carry = λ v i q. item_carries s c v i (sym p.answered ∙ q) ∙ same;
    }

saved_channel : {o : Opening} {c : Call} {a : Answer} {i : LaneId} → SavedOf o a i → ToldApart o c a → i.channel ≡ channel_of o
saved_channel (of_item v i) t = t.items_carry v i refl
saved_channel (of_lane k) t = refl

pub saved_ids_refused : (R : Rules) (runs : RunsOf R) → OpeningsToldApartIn R runs → SavedIdsRefusedIn R runs
unfolding OpeningsToldApartIn SavedIdsRefusedIn
saved_ids_refused R runs h earlier next lent relent d m other calls later f g before rest c a i e s since rest' b w z by =
    let saved = saved_channel s (h earlier lent d calls f before rest c a e) in
    (h next relent m later g since rest' b w z).others_refused i by (λ q. other (ap (λ (x : OpenedChannel). x.opening) (sym saved ∙ q)))
