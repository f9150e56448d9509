-- A run as a chain of small moves, each with what it needs to know; a point may lie between any two.
-- Assumes nothing.
use mathlib.Core.Path.{◌≡◌, refl, ap}
use mathlib.Core.Bool.{Bool, true, false, not}
use mathlib.Core.List.{List, [], ◌∷◌, ◌++◌, map}
use Prim.Native.Nat.{ℕ, zero, suc, ◌+◌, ◌≤◌, ◌<◌}
use native.Mathlib.Omega.{arith}
use lib.ListN.{length}
use borrow.Author.Tests.{leb-false}
use lib.Dec.{leb}
use Rattle.model.specs.declared.LaneKey.{LaneKey}
use Rattle.model.specs.declared.LaneId.{LaneId}
use Rattle.model.specs.declared.SenderCall.{SenderCall}
use Rattle.model.specs.declared.SenderCall.TheVariants.{RegisterSender, TrySend, TrySendUnsignaled, DropSender}
use Rattle.model.specs.declared.ReceiveCall.{ReceiveCall}
use Rattle.model.specs.declared.ReceiveCall.TheVariants.{TryRecv, TryRecvFair, TryRecvFrom, TryRecvBatchInto, TryRecvBatchIntoWhile}
use Rattle.model.specs.declared.ControlCall.{ControlCall}
use Rattle.model.specs.declared.ControlCall.TheVariants.{Pause, Resume, CloseLane, ReleaseConsumed, PollAllLanes, CloseReceiver, CountHeld}
use Rattle.model.specs.declared.Call.{Call}
use Rattle.model.specs.declared.Call.TheVariants.{Sender, Receive, Control}
use Rattle.model.specs.declared.Refusal.{Refusal}
use Rattle.model.specs.declared.Answer.{Answer}
use Rattle.model.specs.declared.Answer.TheVariants.{Done, Registered, Taken, Item, Items, Stopped, Empty, Disconnected, Refused}
use Rattle.model.specs.Lists.{non_empty, if, both, either, Each, count, keep, from, without}
use Rattle.model.specs.State.{State, may_queue, registered_lanes, key_of, sender_lives, has_lane, same_opening, has_lane_id, is_full, living_senders}
use Rattle.model.specs.Changes.{with_queue, with_free, with_budget, with_issued, with_open, put, new_lane, signalled, pushed, sender_dropped, popped, with_paused, credited}
use Rattle.model.specs.Ready.{collect_ready}
use Rattle.model.specs.Turn.{retire_lane, settle_empty, unreleased_after_one, give_item, Took, give_oldest, give_front, run_down, polled, take_one, take_fair}
use Rattle.model.specs.Outcome.{Outcome, unless, says}
use Rattle.model.specs.Runs.{accepted, Tick, gives, ends, handed, ticks, trace, after_list}
use Rattle.model.specs.Sender.{clear_slots, issue_slot, all_issued, sender_outcome, register_sender, try_send, try_send_unsignaled, drop_sender}
use Rattle.model.specs.Receive.{retire_empty_paused_lanes, empty_or_drained, nothing_taken, answer_one, and_more, take_up_to, release_all, answer_items, halted, take_while, answer_while, queue_lane_if, take_from, receive_outcome, try_recv, try_recv_fair, try_recv_from, try_recv_batch_into, try_recv_batch_into_while}
use Rattle.model.specs.Control.{resume_if, control_outcome, pause, resume, close_lane, release_consumed, poll_all_lanes, close_receiver, count_held}
use Rattle.model.specs.Rules.{outcome, the_rules}
use Rattle.model.specs.Order.{Ordered}
use Rattle.model.specs.Ledger.{Ledger, add_registered, apply_call, note}
use Rattle.model.specs.Stretch.{looks, finds_nothing, looks_in_vain}
use Rattle.model.specs.Demand2.{into}
use Rattle.demands.proofs.Counting.{both_true, not_false}
use Rattle.demands.proofs.OrderKept.{release_all_ordered}
use Rattle.demands.proofs.Quiet.{Quietly, trans, release_all_quiet, nothing_taken_quiet, nothing_taken_ordered, poll, calm}
use Rattle.demands.proofs.ClearSlots.{clear_slot}
use Rattle.demands.proofs.WaitInReceive.{Settled, nothing_queued, front, poll_settled}
use Rattle.demands.proofs.StopLaws.{while_law}

pub record Silent (c : Call) (a : Answer) : Type 0 where
  pub noted : (L : Ledger) → note L (ends c a) ≡ L
  pub sees : looks_in_vain (ends c a) ≡ false
  pub sends_none : (k : LaneKey) → into k (ends c a) ≡ []

pub data How : Bool → ReceiveCall → Type 0 where
  by_plain : How false TryRecv
  by_batch : (m n : ℕ) → How false (TryRecvBatchInto m n)
  by_while : (m b n : ℕ) → How false (TryRecvBatchIntoWhile m b n)
  by_fair : How true TryRecvFair

pub data Moves : State → Tick → State → Type 0 where
  stays_put : (s : State) (c : Call) (a : Answer) → Silent c a → Moves s (ends c a) s
  credits : (s : State) (c : Call) (a : Answer) → Silent c a → Moves s (ends c a) (release_all s)
  registers_new : (s : State) (m : ℕ) → s.issued < s.slots
      → Moves s (ends (Sender (RegisterSender m)) (Registered record { slot = s.issued; generation = s.first_generation })) (with_issued (suc s.issued) (put s.issued (new_lane s.first_generation (s.slot_of s.issued)) s))
  registers_old : (s : State) (m x : ℕ) → 1 ≤ count x s.free → (s.slot_of x).living ≡ false
      → Moves s (ends (Sender (RegisterSender m)) (Registered record { slot = x; generation = (s.slot_of x).generation + 1 })) (with_free (without x s.free) (put x (new_lane ((s.slot_of x).generation + 1) (s.slot_of x)) s))
  sends : (s : State) (k : LaneKey) (v : ℕ) (w : Bool) (free : ℕ) → sender_lives s k ≡ true → (s.slot_of k.slot).registered ≡ true → is_full s k.slot ≡ false
      → Moves s (ends (Sender (TrySend k v)) (Taken w free)) (put k.slot (signalled (pushed v (s.slot_of k.slot))) s)
  posts : (s : State) (k : LaneKey) (v : ℕ) (w : Bool) (free : ℕ) → sender_lives s k ≡ true → (s.slot_of k.slot).registered ≡ true → is_full s k.slot ≡ false
      → Moves s (ends (Sender (TrySendUnsignaled k v)) (Taken w free)) (put k.slot (pushed v (s.slot_of k.slot)) s)
  drops_it : (s : State) (k : LaneKey) → sender_lives s k ≡ true → Moves s (ends (Sender (DropSender k)) Done) (put k.slot (signalled (sender_dropped (s.slot_of k.slot))) s)
  pauses_it : (s : State) (i : LaneId) → has_lane s i.key ≡ true
      → Moves s (ends (Control (Pause i)) Done) (with_queue (without i.key.slot s.queue) (put i.key.slot (with_paused true (credited (s.slot_of i.key.slot))) s))
  resumes : (s : State) (i : LaneId) → has_lane s i.key ≡ true → (s.slot_of i.key.slot).paused ≡ true
      → Moves s (ends (Control (Resume i)) Done) (with_queue (s.queue ++ (i.key.slot ∷ [])) (put i.key.slot (signalled (with_paused false (s.slot_of i.key.slot))) s))
  resumes_not : (s : State) (i : LaneId) → has_lane s i.key ≡ true → (s.slot_of i.key.slot).paused ≡ false → Moves s (ends (Control (Resume i)) Done) s
  closes_it : (s : State) (i : LaneId) → has_lane s i.key ≡ true → Moves s (ends (Control (CloseLane i)) Done) (retire_lane i.key.slot (with_queue (without i.key.slot s.queue) s))
  polls_all : (s : State) → Moves s (ends (Control PollAllLanes) Done) (with_queue (s.queue ++ keep (may_queue s) (from 0 s.issued)) s)
  shuts_it : (s : State) → Moves s (ends (Control CloseReceiver) Done) (with_open false s)
  takes : (f : Bool) (r : ReceiveCall) (s : State) (y v : ℕ) (q vs : List ℕ) → How f r → (poll f s).queue ≡ y ∷ q → ((poll f s).slot_of y).ring ≡ v ∷ vs
      → Moves s (gives r (key_of (poll f s) y) v) (give_item (poll f s) y q vs (either f (leb 63 ((poll f s).slot_of y).burst)))
  stops : (f : Bool) (r : ReceiveCall) (s u : State) (a : Answer) → How f r → (poll f s).queue ≡ [] → Quietly (poll f s) u → (Ordered (poll f s) → Ordered u) → ((L : Ledger) → note L (ends (Receive r) a) ≡ L)
      → Moves s (ends (Receive r) a) u
  halts : (s : State) (m b n j y : ℕ) (q : List ℕ) → (poll false s).queue ≡ y ∷ q → Silent (Receive (TryRecvBatchIntoWhile m b n)) (Stopped j)
      → Moves s (ends (Receive (TryRecvBatchIntoWhile m b n)) (Stopped j)) (release_all (halted (poll false s)))
  aims : (s : State) (i : LaneId) (v : ℕ) (vs : List ℕ) → has_lane s i.key ≡ true → (s.slot_of i.key.slot).ring ≡ v ∷ vs
      → Moves s (gives (TryRecvFrom i) (key_of s i.key.slot) v) (queue_lane_if (may_queue s i.key.slot) i.key.slot (put i.key.slot (popped vs (unreleased_after_one s i.key.slot) (s.slot_of i.key.slot).burst (s.slot_of i.key.slot)) s))
  aims_none : (s : State) (i : LaneId) (a : Answer) → has_lane s i.key ≡ true → (s.slot_of i.key.slot).ring ≡ [] → Silent (Receive (TryRecvFrom i)) a
      → Moves s (ends (Receive (TryRecvFrom i)) a) (settle_empty i.key.slot (without i.key.slot s.queue) s)

-- a run
pub data Chain : State → List Tick → State → Type 0 where
  stay : (s : State) → Chain s [] s
  move : {s u w : State} {t : Tick} {ts : List Tick} → Moves s t u → Chain u ts w → Chain s (t ∷ ts) w

chain : {s u w : State} {ts us : List Tick} → Chain s ts u → Chain u us w → Chain s (ts ++ us) w
chain (stay s) d = d
chain (move m c) d = move m (chain c d)

-- refusals
abbrev pub NoneApplies : List (Bool × Refusal) → Type 0
NoneApplies [] = Unit {0}
NoneApplies (c ∷ cs) = (c.0 ≡ false) × NoneApplies cs

pub unless_law : (P : Outcome → Type 0) (cs : List (Bool × Refusal)) (s : State) (r : Outcome) → ((n : Refusal) → P ([], (Refused n, s))) → (NoneApplies cs → P r) → P (unless cs s r)
unfolding unless
unless_law P [] s r f g = g tt
unless_law P (c ∷ cs) s r f g = go c.0 refl (unless_law P cs s r f)
  where
    go : (b : Bool) → c.0 ≡ b → ((NoneApplies cs → P r) → P (unless cs s r)) → P (if b ([], (Refused c.1, s)) (unless cs s r))
    go true e ih = f c.1
    go false e ih = ih (λ p. g (e, p))

-- what holds of each of a call's refusals and of the call let through
pub unless_each : (P : Outcome → Type 0) (cs : List (Bool × Refusal)) (s : State) (r : Outcome) → Each (λ c. P ([], (Refused c.1, s))) cs → P r → P (unless cs s r)
unfolding unless Each
unless_each P [] s r e p = p
unless_each P (c ∷ cs) s r e p = go c.0 (unless_each P cs s r e.1 p)
  where
    go : (b : Bool) → P (unless cs s r) → P (if b ([], (Refused c.1, s)) (unless cs s r))
    go true ih = e.0
    go false ih = ih

turned_away : (c : Call) (n : Refusal) → Silent c (Refused n)
unfolding note looks_in_vain into accepted finds_nothing
turned_away c n = record { noted = λ L. refl; sees = never (looks c); sends_none = λ k. no_send c k }
  where
    never : (b : Bool) → both b false ≡ false
    never true = refl
    never false = refl

    no_send : (c : Call) (k : LaneKey) → into k (ends c (Refused n)) ≡ []
    no_send (Sender (TrySend j v)) k = refl
    no_send (Sender (TrySendUnsignaled j v)) k = refl
    no_send (Sender (RegisterSender m)) k = refl
    no_send (Sender (DropSender j)) k = refl
    no_send (Receive r) k = refl
    no_send (Control c) k = refl

pub has_lane_of_id : (s : State) (i : LaneId) → has_lane_id s i ≡ true → has_lane s i.key ≡ true
unfolding has_lane_id
has_lane_of_id s i e = (both_true (same_opening i.channel s.channel) (has_lane s i.key) e).1

-- calls that are no receives: one move
pub sender_move : (s : State) (c : SenderCall) → Moves s (ends (Sender c) (sender_outcome s c).1.0) (sender_outcome s c).1.1
unfolding sender_outcome register_sender try_send try_send_unsignaled drop_sender issue_slot all_issued
sender_move s (RegisterSender m) =
    unless_law (λ o. Moves s (ends (Sender (RegisterSender m)) o.1.0) o.1.1) _ s _ (λ n. stays_put s _ _ (turned_away _ n)) (λ p. go (clear_slots s) refl p.1.1.1.0)
  where
    go : (f : List ℕ) → clear_slots s ≡ f → both (not (non_empty f)) (leb s.slots s.issued) ≡ false → Moves s (ends (Sender (RegisterSender m)) (issue_slot f s).1.0) (issue_slot f s).1.1
    go [] e h = registers_new s m (omega (arith, leb-false s.slots s.issued h))
    go (x ∷ f) e h = let c = clear_slot s x f e in registers_old s m x c.listed c.clear
sender_move s (TrySend k v) =
    unless_law (λ o. Moves s (ends (Sender (TrySend k v)) o.1.0) o.1.1) _ s _ (λ n. stays_put s _ _ (turned_away _ n))
    (λ p. sends s k v _ _ (not_false p.0) (both_true s.is_open (s.slot_of k.slot).registered (not_false p.1.0)).1 p.1.1.0)
sender_move s (TrySendUnsignaled k v) =
    unless_law (λ o. Moves s (ends (Sender (TrySendUnsignaled k v)) o.1.0) o.1.1) _ s _ (λ n. stays_put s _ _ (turned_away _ n))
    (λ p. posts s k v false _ (not_false p.0) (both_true s.is_open (s.slot_of k.slot).registered (not_false p.1.0)).1 p.1.1.0)
sender_move s (DropSender k) =
    unless_law (λ o. Moves s (ends (Sender (DropSender k)) o.1.0) o.1.1) _ s _ (λ n. stays_put s _ _ (turned_away _ n)) (λ p. drops_it s k (not_false p.0))

quiet_control : (c : ControlCall) (a : Answer) → ((L : Ledger) → note L (ends (Control c) a) ≡ L) → Silent (Control c) a
unfolding looks_in_vain looks into
quiet_control c a h = record { noted = h; sees = refl; sends_none = λ k. refl }

pub control_move : (s : State) (c : ControlCall) → Moves s (ends (Control c) (control_outcome s c).1.0) (control_outcome s c).1.1
unfolding control_outcome pause resume close_lane release_consumed poll_all_lanes close_receiver count_held resume_if note apply_call add_registered accepted
control_move s (Pause i) =
    unless_law (λ o. Moves s (ends (Control (Pause i)) o.1.0) o.1.1) _ s _ (λ n. stays_put s _ _ (turned_away _ n)) (λ p. pauses_it s i (has_lane_of_id s i (not_false p.1.0)))
control_move s (Resume i) =
    unless_law (λ o. Moves s (ends (Control (Resume i)) o.1.0) o.1.1) _ s _ (λ n. stays_put s _ _ (turned_away _ n))
    (λ p. go (s.slot_of i.key.slot).paused refl (has_lane_of_id s i (not_false p.1.0)))
  where
    go : (b : Bool) → (s.slot_of i.key.slot).paused ≡ b → has_lane s i.key ≡ true → Moves s (ends (Control (Resume i)) Done) (resume_if b i.key.slot s)
    go true e c = resumes s i c e
    go false e c = resumes_not s i c e
control_move s (CloseLane i) =
    unless_law (λ o. Moves s (ends (Control (CloseLane i)) o.1.0) o.1.1) _ s _ (λ n. stays_put s _ _ (turned_away _ n)) (λ p. closes_it s i (has_lane_of_id s i (not_false p.1.0)))
control_move s ReleaseConsumed =
    unless_law (λ o. Moves s (ends (Control ReleaseConsumed) o.1.0) o.1.1) _ s _ (λ n. stays_put s _ _ (turned_away _ n)) (λ p. credits s _ _ (quiet_control ReleaseConsumed Done (λ L. refl)))
control_move s PollAllLanes =
    unless_law (λ o. Moves s (ends (Control PollAllLanes) o.1.0) o.1.1) _ s _ (λ n. stays_put s _ _ (turned_away _ n)) (λ p. polls_all s)
control_move s CloseReceiver =
    unless_law (λ o. Moves s (ends (Control CloseReceiver) o.1.0) o.1.1) _ s _ (λ n. stays_put s _ _ (turned_away _ n)) (λ p. shuts_it s)
control_move s CountHeld = stays_put s _ _ (quiet_control CountHeld _ (λ L. refl))

-- receives
abbrev puts : ReceiveCall → List (LaneKey × ℕ) → List Tick
puts r l = map (λ g. gives r g.0 g.1) l

abbrev Receives : State → ReceiveCall → Outcome → Type 0
Receives s r o = Chain s (puts r o.0 ++ (ends (Receive r) o.1.0 ∷ [])) o.1.1

refusing : (s : State) (r : ReceiveCall) (n : Refusal) → Receives s r ([], (Refused n, s))
refusing s r n = move (stays_put s _ _ (turned_away _ n)) (stay s)

-- the answers of a receive
gave_item : (r : ReceiveCall) (v : ℕ) (i : LaneId) → Silent (Receive r) (Item v i)
unfolding note apply_call add_registered accepted looks_in_vain looks finds_nothing into
gave_item r v i = record { noted = λ L. refl; sees = never (looks (Receive r)); sends_none = λ k. refl }
  where
    never : (b : Bool) → both b false ≡ false
    never true = refl
    never false = refl

gave_items : (r : ReceiveCall) (n : ℕ) → Silent (Receive r) (Items n)
unfolding note apply_call add_registered accepted looks_in_vain looks finds_nothing into
gave_items r n = record { noted = λ L. refl; sees = never (looks (Receive r)); sends_none = λ k. refl }
  where
    never : (b : Bool) → both b false ≡ false
    never true = refl
    never false = refl

gave_stopped : (r : ReceiveCall) (n : ℕ) → Silent (Receive r) (Stopped n)
unfolding note apply_call add_registered accepted looks_in_vain looks finds_nothing into
gave_stopped r n = record { noted = λ L. refl; sees = never (looks (Receive r)); sends_none = λ k. refl }
  where
    never : (b : Bool) → both b false ≡ false
    never true = refl
    never false = refl

-- a take: nothing, or one item
pub data TakeResult (f : Bool) (s : State) : Took → Type 0 where
  took_none : (poll f s).queue ≡ [] → TakeResult f s ([], poll f s)
  took_one : (y v : ℕ) (q vs : List ℕ) → (poll f s).queue ≡ y ∷ q → ((poll f s).slot_of y).ring ≡ v ∷ vs
      → TakeResult f s ((key_of (poll f s) y, v) ∷ [], give_item (poll f s) y q vs (either f (leb 63 ((poll f s).slot_of y).burst)))

give_front_taken : (f : Bool) (s : State) (q : List ℕ) → (poll f s).queue ≡ q → Settled (poll f s) → TakeResult f s (give_front f (poll f s) q)
unfolding give_front give_oldest
give_front_taken f s [] e h = took_none e
give_front_taken f s (y ∷ q) e h = go ((poll f s).slot_of y).ring refl h
  where
    go : (l : List ℕ) → ((poll f s).slot_of y).ring ≡ l → Settled (poll f s) → TakeResult f s (give_oldest (poll f s) f y q l)
    go (v ∷ vs) g h = took_one y v q vs e g
    go [] g (nothing_queued n) = let z : ◌≡◌ {A = ℕ} 0 1 = cc in absurd (omega arith)
    go [] g (front z v p vs n m) = let w : z ≡ y = cc in absurd (omega (arith, ap length g, ap length m, ap (λ (a : ℕ). length ((poll f s).slot_of a).ring) w))

pub take_one_taken : (s : State) → TakeResult false s (take_one s)
unfolding take_one poll
take_one_taken s = give_front_taken false s (polled s).queue refl (poll_settled false s)

pub take_fair_taken : (s : State) → TakeResult true s (take_fair s)
unfolding take_fair poll
take_fair_taken s = give_front_taken true s (run_down (with_budget 64 (collect_ready s))).queue refl (poll_settled true s)

-- Empty or Disconnected
nothing_taken_noted : (s : State) (r : ReceiveCall) (L : Ledger) → note L (ends (Receive r) (nothing_taken s).1.0) ≡ L
unfolding nothing_taken empty_or_drained note apply_call add_registered accepted
nothing_taken_noted s r L = go (leb 1 (living_senders s)) (leb 1 (registered_lanes (retire_empty_paused_lanes (from 0 s.issued) s)))
  where
    go : (b c : Bool) → note L (ends (Receive r) (if b (says Empty s) (says (if c Empty Disconnected) (retire_empty_paused_lanes (from 0 s.issued) s))).1.0) ≡ L
    go true c = refl
    go false true = refl
    go false false = refl

pub nothing_taken_gives_none : (s : State) → (nothing_taken s).0 ≡ []
unfolding nothing_taken empty_or_drained
nothing_taken_gives_none s = go (leb 1 (living_senders s))
  where
    go : (b : Bool) → (if b (says Empty s) (empty_or_drained (retire_empty_paused_lanes (from 0 s.issued) s))).0 ≡ []
    go true = refl
    go false = refl

nothing_taken_chain : (f : Bool) (r : ReceiveCall) (s p : State) → How f r → (poll f s).queue ≡ [] → Quietly (poll f s) p → (Ordered (poll f s) → Ordered p) → Receives s r (nothing_taken p)
nothing_taken_chain f r s p h e q o =
    rw (nothing_taken_gives_none p) (move (stops f r s _ _ h e (trans q (nothing_taken_quiet p)) (λ d. nothing_taken_ordered p (o d)) (nothing_taken_noted p r)) (stay _))

answer_one_chain : (f : Bool) (r : ReceiveCall) (s : State) → How f r → (t : Took) → TakeResult f s t → Receives s r (answer_one t.0 t.1)
unfolding answer_one
answer_one_chain f r s h t (took_none e) = nothing_taken_chain f r s (poll f s) h e (calm _) (λ o. o)
answer_one_chain f r s h t (took_one y v q vs e g) = move (takes f r s y v q vs h e g) (move (stays_put _ _ _ (gave_item r v _)) (stay _))

-- a batch, by a receive r: m more, and then the answer `Items n`
take_up_to_chain : (r : ReceiveCall) → How false r → (m n : ℕ) (s : State) → Chain s (puts r (take_up_to m s).0 ++ (ends (Receive r) (Items n) ∷ [])) (release_all (take_up_to m s).1)
unfolding take_up_to and_more
take_up_to_chain r w zero n s = move (credits s _ _ (gave_items r n)) (stay _)
take_up_to_chain r w (suc m) n s = go (take_one s) (take_one_taken s) (λ u. take_up_to_chain r w m n u)
  where
    go : (t : Took) → TakeResult false s t → ((u : State) → Chain u (puts r (take_up_to m u).0 ++ (ends (Receive r) (Items n) ∷ [])) (release_all (take_up_to m u).1))
        → Chain s (puts r (and_more t.0 t.1 (take_up_to m t.1)).0 ++ (ends (Receive r) (Items n) ∷ [])) (release_all (and_more t.0 t.1 (take_up_to m t.1)).1)
    go t (took_none e) ih = move (stops false _ s _ _ w e (release_all_quiet _) (release_all_ordered _) (gave_items r n).noted) (stay _)
    go t (took_one y v q vs e g) ih = move (takes false _ s y v q vs w e g) (ih _)

batch_chain : (r : ReceiveCall) → How false r → (m : ℕ) (s : State) → Receives s r (answer_items m (take_up_to m s).0 (release_all (take_up_to m s).1))
unfolding take_up_to answer_items and_more
batch_chain r w zero s = take_up_to_chain r w zero 0 s
batch_chain r w (suc m) s = go (take_one s) (take_one_taken s)
  where
    go : (t : Took) → TakeResult false s t
        → Receives s r (answer_items (suc m) (and_more t.0 t.1 (take_up_to m t.1)).0 (release_all (and_more t.0 t.1 (take_up_to m t.1)).1))
    go t (took_none e) = nothing_taken_chain false _ s _ w e (release_all_quiet _) (release_all_ordered _)
    go t (took_one y v q vs e g) = move (takes false _ s y v q vs w e g) (take_up_to_chain r w m _ _)

-- a batch that stops: k more, and then the stop in front of an item
module _ (m b n j : ℕ) where
  abbrev by : ReceiveCall
  by = TryRecvBatchIntoWhile m b n

  halts_chain : (k : ℕ) (s : State) (y : ℕ) (q : List ℕ) → length (take_up_to k s).0 ≡ k → (polled (take_up_to k s).1).queue ≡ y ∷ q
      → Chain s (puts by (take_up_to k s).0 ++ (ends (Receive by) (Stopped j) ∷ [])) (release_all (halted (polled (take_up_to k s).1)))
  unfolding take_up_to and_more poll
  halts_chain zero s y q h e = move (halts s m b n j y q e (gave_stopped by j)) (stay _)
  halts_chain (suc k) s y q h e = go (take_one s) (take_one_taken s) h e (λ u. halts_chain k u y q)
    where
      go : (t : Took) → TakeResult false s t → length (and_more t.0 t.1 (take_up_to k t.1)).0 ≡ suc k → (polled (and_more t.0 t.1 (take_up_to k t.1)).1).queue ≡ y ∷ q
          → ((u : State) → length (take_up_to k u).0 ≡ k → (polled (take_up_to k u).1).queue ≡ y ∷ q → Chain u (puts by (take_up_to k u).0 ++ (ends (Receive by) (Stopped j) ∷ [])) (release_all (halted (polled (take_up_to k u).1))))
          → Chain s (puts by (and_more t.0 t.1 (take_up_to k t.1)).0 ++ (ends (Receive by) (Stopped j) ∷ [])) (release_all (halted (polled (and_more t.0 t.1 (take_up_to k t.1)).1)))
      go t (took_none i) h e ih = absurd (omega (arith, h))
      go t (took_one z v p vs i g) h e ih = move (takes false _ s z v p vs (by_while m b n) i g) (ih _ (omega (arith, h)) e)

while_chain : (m b n : ℕ) (s : State) → let t = take_while b m s in Receives s (TryRecvBatchIntoWhile m b n) (answer_while m t.0 t.1.0 (release_all t.1.1))
unfolding answer_while
while_chain m b n s =
    while_law (λ t es. Receives s (TryRecvBatchIntoWhile m b n) (answer_while m t.0 t.1.0 (release_all t.1.1))) b m s
    (λ all. batch_chain (TryRecvBatchIntoWhile m b n) (by_while m b n) m s)
    (λ k h. halts_chain m b n _ k s h.up.lane h.up.others h.all_there h.up.first)

take_from_chain : (s : State) (i : LaneId) → has_lane s i.key ≡ true → Receives s (TryRecvFrom i) (take_from (s.slot_of i.key.slot).ring i.key.slot s)
unfolding take_from note apply_call add_registered accepted looks_in_vain looks into
take_from_chain s i c = go (s.slot_of i.key.slot).ring refl
  where
    silent : (b : Bool) → Silent (Receive (TryRecvFrom i)) (if b Empty Disconnected)
    silent true = record { noted = λ L. noted_empty L; sees = blind_empty; sends_none = λ k. none_empty k }
      where
        noted_empty : (L : Ledger) → note L (ends (Receive (TryRecvFrom i)) Empty) ≡ L
        noted_empty L = refl

        blind_empty : looks_in_vain (ends (Receive (TryRecvFrom i)) Empty) ≡ false
        blind_empty = refl

        none_empty : (k : LaneKey) → into k (ends (Receive (TryRecvFrom i)) Empty) ≡ []
        none_empty k = refl
    silent false = record { noted = λ L. refl; sees = refl; sends_none = λ k. refl }

    go : (l : List ℕ) → (s.slot_of i.key.slot).ring ≡ l → Receives s (TryRecvFrom i) (take_from l i.key.slot s)
    go [] e = move (aims_none s i _ c e (silent (s.slot_of i.key.slot).living)) (stay _)
    go (v ∷ vs) e = move (aims s i v vs c e) (move (stays_put _ _ _ (gave_item (TryRecvFrom i) v _)) (stay _))

receive_chain : (s : State) (r : ReceiveCall) → Receives s r (receive_outcome s r)
unfolding receive_outcome try_recv try_recv_fair try_recv_from try_recv_batch_into try_recv_batch_into_while
receive_chain s TryRecv = unless_law (Receives s TryRecv) _ s _ (refusing s TryRecv) (λ p. answer_one_chain false TryRecv s by_plain (take_one s) (take_one_taken s))
receive_chain s TryRecvFair = unless_law (Receives s TryRecvFair) _ s _ (refusing s TryRecvFair) (λ p. answer_one_chain true TryRecvFair s by_fair (take_fair s) (take_fair_taken s))
receive_chain s (TryRecvFrom i) = unless_law (Receives s (TryRecvFrom i)) _ s _ (refusing s (TryRecvFrom i)) (λ p. take_from_chain s i (has_lane_of_id s i (not_false p.1.0)))
receive_chain s (TryRecvBatchInto m n) = unless_law (Receives s (TryRecvBatchInto m n)) _ s _ (refusing s (TryRecvBatchInto m n)) (λ p. batch_chain (TryRecvBatchInto m n) (by_batch m n) m s)
receive_chain s (TryRecvBatchIntoWhile m b n) = unless_law (Receives s (TryRecvBatchIntoWhile m b n)) _ s _ (refusing s (TryRecvBatchIntoWhile m b n)) (λ p. while_chain m b n s)

pub call_chain : (s : State) (c : Call) → Chain s (ticks the_rules s c) (outcome s c).1.1
unfolding ticks handed outcome
call_chain s (Sender c) = move (sender_move s c) (stay _)
call_chain s (Control c) = move (control_move s c) (stay _)
call_chain s (Receive r) = receive_chain s r

pub trace_chain : (s : State) (cs : List Call) → Chain s (trace the_rules s cs) (after_list the_rules s cs)
unfolding trace after_list
trace_chain s [] = stay s
trace_chain s (c ∷ cs) = chain (call_chain s c) (trace_chain (outcome s c).1.1 cs)
