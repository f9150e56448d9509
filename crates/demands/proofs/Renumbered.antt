-- The opening number does nothing but tell ids: every step of the rules commutes with giving another number, and only the test of an id looks at it.
-- Assumes nothing.
use mathlib.Core.Path.{◌≡◌, refl, ap, ap₂, sym, ◌∙◌}
use mathlib.Core.Bool.{Bool, true, false, not}
use mathlib.Core.List.{List, [], ◌∷◌, ◌++◌, map, map-map, map-append}
use mathlib.Mathlib.Logic.Function.Defs.{Injective}
use Prim.Native.Nat.{ℕ, zero, suc}
use lib.ListN.{length, take}
use lib.Dec.{eqb, leb, ltb}
use borrow.Author.Tests.{eqb-true, eqb-false, eq-eqb, ne_eqb}
use Rattle.model.specs.declared.LaneKey.{LaneKey}
use Rattle.model.specs.declared.LaneId.{LaneId}
use Rattle.model.specs.declared.Opening.{Opening}
use Rattle.model.specs.declared.SenderCall.{SenderCall}
use Rattle.model.specs.declared.SenderCall.TheVariants.{RegisterSender, TrySend, TrySendUnsignaled, DropSender}
use Rattle.model.specs.declared.ReceiveCall.{ReceiveCall}
use Rattle.model.specs.declared.ReceiveCall.TheVariants.{TryRecv, TryRecvFair, TryRecvFrom, TryRecvBatchInto, TryRecvBatchIntoWhile}
use Rattle.model.specs.declared.ControlCall.{ControlCall}
use Rattle.model.specs.declared.ControlCall.TheVariants.{Pause, Resume, CloseLane, ReleaseConsumed, PollAllLanes, CloseReceiver, CountHeld}
use Rattle.model.specs.declared.Call.{Call}
use Rattle.model.specs.declared.Call.TheVariants.{Sender, Receive, Control}
use Rattle.model.specs.declared.Refusal.{Refusal}
use Rattle.model.specs.declared.Refusal.TheVariants.{ReceiverClosed, NoSuchLane}
use Rattle.model.specs.declared.Answer.TheVariants.{Done, Item, Empty, Disconnected, Refused}
use Rattle.model.specs.Lists.{if, both, non_empty, without, from}
use Rattle.model.specs.State.{State, may_queue, registered_lanes, living_senders, items_held, key_of, id_of, sender_lives, has_lane, has_lane_id, is_full, free_places}
use Rattle.model.specs.Changes.{with_budget}
use Rattle.model.specs.Ready.{marks, is_ready, collect_marks, collect_group, start_group, groups_round, collect_first, collect_each, collect_ready_group, collect_ready}
use Rattle.model.specs.Turn.{retire_lane, retire_lane_if, settle_empty, before_next_turn, run_down_from, run_down, unreleased_after_one, give_item, Took, give_oldest, give_front, collect_if_due, collect_if_none_queued, polled, take_one, take_fair}
use Rattle.model.specs.Outcome.{Outcome, says, unless}
use Rattle.model.specs.Runs.{Lent, Tick, gives, ends, handed, ticks, trace, after_list}
use Rattle.model.specs.Sender.{clear_slots, issue_slot, all_issued, register_sender, try_send, try_send_unsignaled, drop_sender, sender_outcome}
use Rattle.model.specs.Receive.{retire_empty_paused_lanes, empty_or_drained, nothing_taken, answer_one, try_recv, try_recv_fair, queue_lane_if, take_from, try_recv_from, and_more, take_up_to, release_all, answer_items, try_recv_batch_into, admitted, halted, take_while, answer_while, try_recv_batch_into_while, written_to, receive_outcome, output_after}
use Rattle.model.specs.Control.{pause, resume_if, resume, close_lane, release_consumed, poll_all_lanes, close_receiver, count_held, control_outcome}
use Rattle.model.specs.Opening.{opened_state, opening_outcome}
use Rattle.model.specs.Rules.{outcome, the_rules}
use Rattle.model.specs.Renumbered.{renumbered_opening, renumbered_channel, renumbered_id, renumbered_receive, renumbered_control, renumbered_call, renumbered_answer, renumbered_tick, NumberOnlyTellsIdsIn, NumberOnlyTellsIds}
use Rattle.demands.proofs.Moves.{unless_law}

module _ (f : ℕ → ℕ) where
  -- a state, what is taken and what a call comes to, with f's number for the opening's
  abbrev renumbered : State → State
  renumbered s = record {
    slot_of = s.slot_of;
    queue = s.queue;
    free = s.free;
    issued = s.issued;
    budget = s.budget;
    cursor = s.cursor;
    is_open = s.is_open;
    capacity = s.capacity;
    slots = s.slots;
    channel = renumbered_channel f s.channel;
    first_generation = s.first_generation;
  }

  abbrev renumbered_took : Took → Took
  renumbered_took t = (t.0, renumbered t.1)

  abbrev renumbered_outcome : Outcome → Outcome
  renumbered_outcome o = (o.0, (renumbered_answer f o.1.0, renumbered o.1.1))

  -- ---- collecting

  collect_marks_lem : (ms : List ℕ) (s : State) (g : ℕ) → collect_marks ms (renumbered s) g ≡ renumbered (collect_marks ms s g)
  unfolding collect_marks is_ready may_queue
  collect_marks_lem [] s g = refl
  collect_marks_lem (m ∷ ms) s g = refl

  collect_group_lem : (s : State) (g : ℕ) → collect_group (renumbered s) g ≡ renumbered (collect_group s g)
  unfolding collect_group marks
  collect_group_lem s g = collect_marks_lem (marks s g) s g

  collect_first_lem : (gs : List ℕ) (s : State) → collect_first gs (renumbered s) ≡ renumbered (collect_first gs s)
  unfolding collect_first marks
  collect_first_lem [] s = refl
  collect_first_lem (g ∷ gs) s = go (non_empty (marks s g)) (collect_first_lem gs s)
    where
      go : (b : Bool) → collect_first gs (renumbered s) ≡ renumbered (collect_first gs s)
          → if b (collect_group (renumbered s) g) (collect_first gs (renumbered s)) ≡ renumbered (if b (collect_group s g) (collect_first gs s))
      go true ih = collect_group_lem s g
      go false ih = ih

  collect_each_lem : (gs : List ℕ) (s : State) → collect_each gs (renumbered s) ≡ renumbered (collect_each gs s)
  unfolding collect_each
  collect_each_lem [] s = refl
  collect_each_lem (g ∷ gs) s = ap (collect_each gs) (collect_group_lem s g) ∙ collect_each_lem gs (collect_group s g)

  collect_ready_group_lem : (s : State) → collect_ready_group (renumbered s) ≡ renumbered (collect_ready_group s)
  unfolding collect_ready_group groups_round start_group
  collect_ready_group_lem s = collect_first_lem (groups_round s) s

  collect_ready_lem : (s : State) → collect_ready (renumbered s) ≡ renumbered (collect_ready s)
  unfolding collect_ready groups_round start_group
  collect_ready_lem s = collect_each_lem (groups_round s) s

  -- ---- a turn

  retire_lane_if_lem : (b : Bool) (x : ℕ) (s : State) → retire_lane_if b x (renumbered s) ≡ renumbered (retire_lane_if b x s)
  unfolding retire_lane_if retire_lane
  retire_lane_if_lem true x s = refl
  retire_lane_if_lem false x s = refl

  settle_empty_lem : (x : ℕ) (q : List ℕ) (s : State) → settle_empty x q (renumbered s) ≡ renumbered (settle_empty x q s)
  unfolding settle_empty
  settle_empty_lem x q s = retire_lane_if_lem (not (s.slot_of x).living) x _

  before_next_turn_lem : (q : List ℕ) (s : State) → before_next_turn q (renumbered s) ≡ renumbered (before_next_turn q s)
  unfolding before_next_turn
  before_next_turn_lem [] s = refl
  before_next_turn_lem (y ∷ q) s = refl

  run_down_from_lem : (q : List ℕ) (s : State) → run_down_from q (renumbered s) ≡ renumbered (run_down_from q s)
  unfolding run_down_from
  run_down_from_lem [] s = refl
  run_down_from_lem (y ∷ q) s = go (non_empty (s.slot_of y).ring) (run_down_from_lem q (before_next_turn q (settle_empty y q s)))
    where
      next : State → State
      next u = before_next_turn q (settle_empty y q u)

      go : (b : Bool) → run_down_from q (renumbered (next s)) ≡ renumbered (run_down_from q (next s))
          → if b (renumbered s) (run_down_from q (next (renumbered s))) ≡ renumbered (if b s (run_down_from q (next s)))
      go true ih = refl
      go false ih = ap (λ (u : State). run_down_from q (before_next_turn q u)) (settle_empty_lem y q s) ∙ ap (run_down_from q) (before_next_turn_lem q (settle_empty y q s)) ∙ ih

  run_down_lem : (s : State) → run_down (renumbered s) ≡ renumbered (run_down s)
  unfolding run_down
  run_down_lem s = run_down_from_lem s.queue s

  collect_if_due_lem : (n : ℕ) (q : List ℕ) (s : State) → collect_if_due n q (renumbered s) ≡ renumbered (collect_if_due n q s)
  unfolding collect_if_due
  collect_if_due_lem zero (y ∷ q) s = ap (with_budget 64) (collect_ready_group_lem s)
  collect_if_due_lem zero [] s = refl
  collect_if_due_lem (suc n) q s = refl

  collect_if_none_queued_lem : (q : List ℕ) (s : State) → collect_if_none_queued q (renumbered s) ≡ renumbered (collect_if_none_queued q s)
  unfolding collect_if_none_queued
  collect_if_none_queued_lem [] s = ap run_down (collect_ready_lem s) ∙ run_down_lem (collect_ready s)
  collect_if_none_queued_lem (y ∷ q) s = refl

  poll_loop_lem : (s : State) → polled (renumbered s) ≡ renumbered (polled s)
  unfolding polled
  poll_loop_lem s =
      let t = collect_if_due s.budget s.queue s in
      ap (λ (u : State). collect_if_none_queued u.queue u) (ap run_down (collect_if_due_lem s.budget s.queue s) ∙ run_down_lem t)
      ∙ collect_if_none_queued_lem (run_down t).queue (run_down t)

  give_front_lem : (fairly : Bool) (s : State) (q : List ℕ) → give_front fairly (renumbered s) q ≡ renumbered_took (give_front fairly s q)
  unfolding give_front give_oldest give_item unreleased_after_one
  give_front_lem fairly s [] = refl
  give_front_lem fairly s (y ∷ q) = go (s.slot_of y).ring
    where
      go : (vs : List ℕ) → give_oldest (renumbered s) fairly y q vs ≡ renumbered_took (give_oldest s fairly y q vs)
      go [] = refl
      go (v ∷ vs) = refl

  give_queued : (fairly : Bool) {u : State} (s : State) → u ≡ renumbered s → give_front fairly u u.queue ≡ renumbered_took (give_front fairly s s.queue)
  give_queued fairly s e = ap (λ (u : State). give_front fairly u u.queue) e ∙ give_front_lem fairly s s.queue

  take_one_lem : (s : State) → take_one (renumbered s) ≡ renumbered_took (take_one s)
  unfolding take_one
  take_one_lem s = give_queued false (polled s) (poll_loop_lem s)

  take_fair_lem : (s : State) → take_fair (renumbered s) ≡ renumbered_took (take_fair s)
  unfolding take_fair
  take_fair_lem s = give_queued true _ (ap (λ (u : State). run_down (with_budget 64 u)) (collect_ready_lem s) ∙ run_down_lem (with_budget 64 (collect_ready s)))

  and_more_lem : (l : List (LaneKey × ℕ)) (s : State) (r : Took) → and_more l (renumbered s) (renumbered_took r) ≡ renumbered_took (and_more l s r)
  unfolding and_more
  and_more_lem [] s r = refl
  and_more_lem (g ∷ l) s r = refl

  take_up_to_lem : (m : ℕ) (s : State) → take_up_to m (renumbered s) ≡ renumbered_took (take_up_to m s)
  unfolding take_up_to
  take_up_to_lem zero s = refl
  take_up_to_lem (suc m) s =
      let t = take_one s in
      ap (λ (u : Took). and_more u.0 u.1 (take_up_to m u.1)) (take_one_lem s) ∙ ap (and_more t.0 (renumbered t.1)) (take_up_to_lem m t.1) ∙ and_more_lem t.0 t.1 (take_up_to m t.1)

  -- ---- what a call comes to

  unless_renumbered : (cs : List (Bool × Refusal)) (s : State) (r : Outcome) → unless cs (renumbered s) (renumbered_outcome r) ≡ renumbered_outcome (unless cs s r)
  unfolding unless renumbered_answer
  unless_renumbered [] s r = refl
  unless_renumbered (c ∷ cs) s r = go c.0 (unless_renumbered cs s r)
    where
      go : (b : Bool) → unless cs (renumbered s) (renumbered_outcome r) ≡ renumbered_outcome (unless cs s r)
          → if b ([], (Refused c.1, renumbered s)) (unless cs (renumbered s) (renumbered_outcome r)) ≡ renumbered_outcome (if b ([], (Refused c.1, s)) (unless cs s r))
      go true ih = refl
      go false ih = ih

  -- a call whose tests do not look at the number
  passing : (cs : List (Bool × Refusal)) (s : State) (r : Outcome) {u : Outcome} → u ≡ renumbered_outcome r → unless cs (renumbered s) u ≡ renumbered_outcome (unless cs s r)
  passing cs s r e = ap (unless cs (renumbered s)) e ∙ unless_renumbered cs s r

  issue_slot_lem : (l : List ℕ) (s : State) → issue_slot l (renumbered s) ≡ renumbered_outcome (issue_slot l s)
  unfolding issue_slot renumbered_answer
  issue_slot_lem [] s = refl
  issue_slot_lem (x ∷ l) s = refl

  sender_call_lem : (s : State) (c : SenderCall) → sender_outcome (renumbered s) c ≡ renumbered_outcome (sender_outcome s c)
  unfolding sender_outcome register_sender clear_slots all_issued registered_lanes try_send try_send_unsignaled drop_sender sender_lives is_full free_places renumbered_answer
  sender_call_lem s (RegisterSender most) = passing _ s (issue_slot (clear_slots s) s) (issue_slot_lem (clear_slots s) s)
  sender_call_lem s (TrySend k v) = passing _ s _ refl
  sender_call_lem s (TrySendUnsignaled k v) = passing _ s _ refl
  sender_call_lem s (DropSender k) = passing _ s _ refl

  retire_empty_paused_lem : (xs : List ℕ) (s : State) → retire_empty_paused_lanes xs (renumbered s) ≡ renumbered (retire_empty_paused_lanes xs s)
  unfolding retire_empty_paused_lanes
  retire_empty_paused_lem [] s = refl
  retire_empty_paused_lem (x ∷ xs) s = ap (retire_empty_paused_lanes xs) (retire_lane_if_lem _ x s) ∙ retire_empty_paused_lem xs _

  -- an answer that names no lane
  empty_or : (b : Bool) (s : State) → says (if b Empty Disconnected) (renumbered s) ≡ renumbered_outcome (says (if b Empty Disconnected) s)
  unfolding renumbered_answer
  empty_or true s = refl
  empty_or false s = refl

  nothing_taken_lem : (s : State) → nothing_taken (renumbered s) ≡ renumbered_outcome (nothing_taken s)
  unfolding nothing_taken empty_or_drained registered_lanes living_senders renumbered_answer
  nothing_taken_lem s = go (leb 1 (living_senders s))
    where
      drained : State
      drained = retire_empty_paused_lanes (from 0 s.issued) s

      go : (b : Bool) → if b (says Empty (renumbered s)) (empty_or_drained (retire_empty_paused_lanes (from 0 s.issued) (renumbered s))) ≡ renumbered_outcome (if b (says Empty s) (empty_or_drained drained))
      go true = refl
      go false = ap empty_or_drained (retire_empty_paused_lem (from 0 s.issued) s) ∙ empty_or (leb 1 (registered_lanes drained)) drained

  answer_one_lem : (l : List (LaneKey × ℕ)) (s : State) → answer_one l (renumbered s) ≡ renumbered_outcome (answer_one l s)
  unfolding answer_one renumbered_answer
  answer_one_lem [] s = nothing_taken_lem s
  answer_one_lem (g ∷ l) s = refl

  answer_took : {t : Took} (u : Took) → t ≡ renumbered_took u → answer_one t.0 t.1 ≡ renumbered_outcome (answer_one u.0 u.1)
  answer_took u e = ap (λ (t : Took). answer_one t.0 t.1) e ∙ answer_one_lem u.0 u.1

  answer_items_lem : (m : ℕ) (l : List (LaneKey × ℕ)) (s : State) → answer_items m l (renumbered s) ≡ renumbered_outcome (answer_items m l s)
  unfolding answer_items renumbered_answer
  answer_items_lem zero l s = refl
  answer_items_lem (suc m) [] s = nothing_taken_lem s
  answer_items_lem (suc m) (g ∷ l) s = refl

  answer_while_lem : (m : ℕ) (b : Bool) (l : List (LaneKey × ℕ)) (s : State) → answer_while m b l (renumbered s) ≡ renumbered_outcome (answer_while m b l s)
  unfolding answer_while renumbered_answer
  answer_while_lem m true l s = refl
  answer_while_lem m false l s = answer_items_lem m l s

  take_while_lem : (b m : ℕ) (s : State) → ◌≡◌ {A = Bool × Took} (take_while b m (renumbered s)) ((take_while b m s).0, renumbered_took (take_while b m s).1)
  unfolding take_while halted
  take_while_lem b m s = ap₂ at_stop all next ∙ go (ltb n (length (take_up_to m s).0))
    where
      n : ℕ
      n = admitted b (take_up_to m s).0

      at_stop : Took → State → Bool × Took
      at_stop t p = let k = admitted b t.0 in if (ltb k (length t.0)) (true, (take k t.0, halted p)) (false, t)

      all : take_up_to m (renumbered s) ≡ renumbered_took (take_up_to m s)
      all = take_up_to_lem m s

      next : polled (take_up_to (admitted b (take_up_to m (renumbered s)).0) (renumbered s)).1 ≡ renumbered (polled (take_up_to n s).1)
      next =
          ap (λ (t : Took). polled (take_up_to (admitted b t.0) (renumbered s)).1) all ∙ ap (λ (t : Took). polled t.1) (take_up_to_lem n s)
          ∙ poll_loop_lem (take_up_to n s).1

      stop : Bool → Bool × Took
      stop c = if c (true, (take n (take_up_to m s).0, halted (polled (take_up_to n s).1))) (false, take_up_to m s)

      there : Bool → Bool × Took
      there c = if c (true, (take n (take_up_to m s).0, halted (renumbered (polled (take_up_to n s).1)))) (false, renumbered_took (take_up_to m s))

      go : (c : Bool) → ◌≡◌ {A = Bool × Took} (there c) ((stop c).0, renumbered_took (stop c).1)
      go true = refl
      go false = refl

  queue_lane_if_lem : (b : Bool) (x : ℕ) (s : State) → queue_lane_if b x (renumbered s) ≡ renumbered (queue_lane_if b x s)
  unfolding queue_lane_if
  queue_lane_if_lem true x s = refl
  queue_lane_if_lem false x s = refl

  take_from_lem : (l : List ℕ) (x : ℕ) (s : State) → take_from l x (renumbered s) ≡ renumbered_outcome (take_from l x s)
  unfolding take_from may_queue unreleased_after_one renumbered_answer
  take_from_lem [] x s = ap (says (if (s.slot_of x).living Empty Disconnected)) (settle_empty_lem x (without x s.queue) s) ∙ empty_or (s.slot_of x).living _
  take_from_lem (v ∷ vs) x s = ap (λ (u : State). ((key_of s x, v) ∷ [], (Item v (renumbered_id f (id_of s (key_of s x))), u))) (queue_lane_if_lem (may_queue s x) x _)

  resume_if_lem : (b : Bool) (x : ℕ) (s : State) → resume_if b x (renumbered s) ≡ renumbered (resume_if b x s)
  unfolding resume_if
  resume_if_lem true x s = refl
  resume_if_lem false x s = refl

  -- ---- ids

  module _ (apart : Injective f) where
    same_test : (m n : ℕ) → eqb (f m) (f n) ≡ eqb m n
    same_test m n = go (eqb m n) refl
      where
        go : (b : Bool) → eqb m n ≡ b → eqb (f m) (f n) ≡ b
        go true e = eq-eqb (f m) (f n) (ap f (eqb-true m n e))
        go false e = ne_eqb (f m) (f n) (λ h. eqb-false m n e (apart m n h))

    has_lane_id_lem : (s : State) (i : LaneId) → has_lane_id (renumbered s) (renumbered_id f i) ≡ has_lane_id s i
    unfolding has_lane_id has_lane
    has_lane_id_lem s i = ap (λ (b : Bool). both (both (eqb i.channel.id s.channel.id) b) (has_lane s i.key)) (same_test i.channel.opening s.channel.opening)

    -- a call by id
    passing_id : (s : State) (i : LaneId) (r : Outcome) {u : Outcome} → u ≡ renumbered_outcome r
        → unless ((not s.is_open, ReceiverClosed) ∷ (not (has_lane_id (renumbered s) (renumbered_id f i)), NoSuchLane) ∷ []) (renumbered s) u
        ≡ renumbered_outcome (unless ((not s.is_open, ReceiverClosed) ∷ (not (has_lane_id s i), NoSuchLane) ∷ []) s r)
    passing_id s i r {u} e =
        ap (λ (b : Bool). unless ((not s.is_open, ReceiverClosed) ∷ (not b, NoSuchLane) ∷ []) (renumbered s) u) (has_lane_id_lem s i) ∙ passing _ s r e

    receive_call_lem : (s : State) (r : ReceiveCall) → receive_outcome (renumbered s) (renumbered_receive f r) ≡ renumbered_outcome (receive_outcome s r)
    unfolding receive_outcome try_recv try_recv_fair try_recv_from try_recv_batch_into try_recv_batch_into_while release_all renumbered_receive
    receive_call_lem s TryRecv = passing _ s _ (answer_took (take_one s) (take_one_lem s))
    receive_call_lem s TryRecvFair = passing _ s _ (answer_took (take_fair s) (take_fair_lem s))
    receive_call_lem s (TryRecvFrom i) = passing_id s i _ (take_from_lem (s.slot_of i.key.slot).ring i.key.slot s)
    receive_call_lem s (TryRecvBatchInto limit room) =
        let t = take_up_to limit s in
        passing _ s _ (ap (λ (u : Took). answer_items limit u.0 (release_all u.1)) (take_up_to_lem limit s) ∙ answer_items_lem limit t.0 (release_all t.1))
    receive_call_lem s (TryRecvBatchIntoWhile limit bound room) =
        let t = take_while bound limit s in
        passing _ s _ (ap (λ (u : Bool × Took). answer_while limit u.0 u.1.0 (release_all u.1.1)) (take_while_lem bound limit s) ∙ answer_while_lem limit t.0 t.1.0 (release_all t.1.1))

    control_call_lem : (s : State) (c : ControlCall) → control_outcome (renumbered s) (renumbered_control f c) ≡ renumbered_outcome (control_outcome s c)
    unfolding control_outcome pause resume close_lane retire_lane release_consumed release_all poll_all_lanes may_queue close_receiver count_held items_held renumbered_control renumbered_answer
    control_call_lem s (Pause i) = passing_id s i _ refl
    control_call_lem s (Resume i) = passing_id s i _ (ap (says Done) (resume_if_lem (s.slot_of i.key.slot).paused i.key.slot s))
    control_call_lem s (CloseLane i) = passing_id s i _ refl
    control_call_lem s ReleaseConsumed = passing _ s _ refl
    control_call_lem s PollAllLanes = passing _ s _ refl
    control_call_lem s CloseReceiver = passing _ s _ refl
    control_call_lem s CountHeld = refl

    call : (s : State) (c : Call) → outcome (renumbered s) (renumbered_call f c) ≡ renumbered_outcome (outcome s c)
    unfolding outcome renumbered_call
    call s (Sender c) = sender_call_lem s c
    call s (Receive r) = receive_call_lem s r
    call s (Control c) = control_call_lem s c

    -- ---- runs

    items : (s : State) (c : Call) → handed the_rules (renumbered s) (renumbered_call f c) ≡ map (renumbered_tick f) (handed the_rules s c)
    unfolding handed renumbered_call renumbered_tick
    items s (Sender c) = refl
    items s (Control c) = refl
    items s (Receive r) =
        ap (λ (o : Outcome). map (λ g. gives (renumbered_receive f r) g.0 g.1) o.0) (receive_call_lem s r)
        ∙ sym (map-map (renumbered_tick f) (λ g. gives r g.0 g.1) (receive_outcome s r).0)

    call_ticks : (s : State) (c : Call) → ticks the_rules (renumbered s) (renumbered_call f c) ≡ map (renumbered_tick f) (ticks the_rules s c)
    unfolding ticks renumbered_tick
    call_ticks s c =
        ap₂ (λ (l : List Tick) (o : Outcome). l ++ (ends (renumbered_call f c) o.1.0 ∷ [])) (items s c) (call s c)
        ∙ sym (map-append (renumbered_tick f) (handed the_rules s c) (ends c (outcome s c).1.0 ∷ []))

    run : (s : State) (calls : List Call) → trace the_rules (renumbered s) (map (renumbered_call f) calls) ≡ map (renumbered_tick f) (trace the_rules s calls)
    unfolding trace
    run s [] = refl
    run s (c ∷ cs) =
        let u = (outcome s c).1.1 in
        ap₂ ◌++◌ (call_ticks s c) (ap (λ (o : Outcome). trace the_rules o.1.1 (map (renumbered_call f) cs)) (call s c) ∙ run u cs)
        ∙ sym (map-append (renumbered_tick f) (ticks the_rules s c) (trace the_rules u cs))

    after : (s : State) (calls : List Call) → after_list the_rules (renumbered s) (map (renumbered_call f) calls) ≡ renumbered (after_list the_rules s calls)
    unfolding after_list
    after s [] = refl
    after s (c ∷ cs) = ap (λ (o : Outcome). after_list the_rules o.1.1 (map (renumbered_call f) cs)) (call s c) ∙ after (outcome s c).1.1 cs

    written : (s : State) (r : ReceiveCall) (out : List ℕ) → output_after (renumbered s) (renumbered_receive f r) out ≡ output_after s r out
    unfolding output_after renumbered_receive receive_outcome
    written s TryRecv out = refl
    written s TryRecvFair out = refl
    written s (TryRecvFrom i) out = refl
    written s (TryRecvBatchInto limit room) out = ap (λ (o : Outcome). written_to o.0 out) (receive_call_lem s (TryRecvBatchInto limit room))
    written s (TryRecvBatchIntoWhile limit bound room) out = ap (λ (o : Outcome). written_to o.0 out) (receive_call_lem s (TryRecvBatchIntoWhile limit bound room))

  opening : (o : Opening) (lent : Lent) → opening_outcome (renumbered_opening f o) lent ≡ renumbered_outcome (opening_outcome o lent)
  unfolding opening_outcome opened_state renumbered_answer
  opening o lent = passing _ (opened_state o) _ refl

  -- it answers no id
  opening_answer_lem : (o : Opening) (lent : Lent) → renumbered_answer f (opening_outcome o lent).1.0 ≡ (opening_outcome o lent).1.0
  unfolding opening_outcome renumbered_answer
  opening_answer_lem o lent = unless_law (λ r. renumbered_answer f r.1.0 ≡ r.1.0) _ (opened_state o) _ (λ n. refl) (λ p. refl)

pub number_only_tells_ids : NumberOnlyTellsIds the_rules
unfolding NumberOnlyTellsIds NumberOnlyTellsIdsIn
number_only_tells_ids f apart o lent = record {
  same_opening = ap (λ (r : Outcome). r.1.0) (opening f o lent) ∙ opening_answer_lem f o lent;
  same_run = λ d calls t u. ap (λ (r : Outcome). trace the_rules r.1.1 (map (renumbered_call f) calls)) (opening f o lent) ∙ run f apart _ calls;
  same_output = λ d calls t u r out room.
      ap (λ (s : Outcome). output_after (after_list the_rules s.1.1 (map (renumbered_call f) calls)) (renumbered_receive f r) out) (opening f o lent)
      ∙ ap (λ (s : State). output_after s (renumbered_receive f r) out) (after f apart (opening_outcome o lent).1.1 calls)
      ∙ written f apart (after_list the_rules (opening_outcome o lent).1.1 calls) r out;
}
