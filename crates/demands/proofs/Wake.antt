-- No wake-up is lost: where a receiver may sleep every unpaused lane's signal is idle, and sender calls leave it so until the lane is sent to.
-- Assumes nothing.
use mathlib.Core.Path.{◌≡◌, refl, ap, sym, ◌∙◌}
use mathlib.Core.Logic.{◌⊎◌, inl, inr}
use mathlib.Core.Bool.{Bool, true, false, not}
use mathlib.Core.Option.{some}
use mathlib.Core.List.{List, [], ◌∷◌, ◌++◌, append-nil}
use Prim.Native.Nat.{ℕ, zero, suc, ◌+◌}
use native.Mathlib.Omega.{arith}
use lib.ListN.{length}
use lib.Dec.{leb}
use borrow.Author.Tests.{ltb-true}
use Rattle.model.specs.declared.LaneKey.{LaneKey}
use Rattle.model.specs.declared.LaneId.{LaneId}
use Rattle.model.specs.declared.SenderCall.TheVariants.{RegisterSender, TrySend, TrySendUnsignaled, DropSender}
use Rattle.model.specs.declared.ReceiveCall.{ReceiveCall}
use Rattle.model.specs.declared.ReceiveCall.TheVariants.{TryRecv, TryRecvFair, TryRecvFrom, TryRecvBatchInto, TryRecvBatchIntoWhile}
use Rattle.model.specs.declared.Call.{Call}
use Rattle.model.specs.declared.Call.TheVariants.{Sender, Receive, Control}
use Rattle.model.specs.declared.Refusal.{Refusal}
use Rattle.model.specs.declared.Answer.{Answer}
use Rattle.model.specs.declared.Answer.TheVariants.{Done, Registered, Taken, Item, Items, Stopped, Empty, Disconnected, Held, Refused}
use Rattle.model.specs.Lists.{if, count, from}
use Rattle.model.specs.State.{Slot, State, living_senders, key_of}
use Rattle.model.specs.Changes.{put, new_lane, signalled, pushed, sender_dropped, retired}
use Rattle.model.specs.Turn.{Took, retire_lane, retire_lane_if, take_one, take_fair}
use Rattle.model.specs.Outcome.{Outcome, says}
use Rattle.model.specs.Runs.{accepted, Tick, gives, ends, handed, ticks, trace, after_list, count_ticks}
use Rattle.model.specs.Sender.{sender_outcome, try_send}
use Rattle.model.specs.Receive.{retire_empty_paused_lanes, empty_or_drained, nothing_taken, answer_one, take_up_to, release_all, answer_items, try_recv, try_recv_fair, try_recv_batch_into, answer_while, try_recv_batch_into_while, receive_outcome}
use Rattle.model.specs.Opening.{opening_outcome}
use Rattle.model.specs.Rules.{outcome, the_rules}
use Rattle.model.specs.Order.{Ordered, InOrder}
use Rattle.model.specs.PollLoop.{NothingLeft, TakesUnlessNothingLeft, PlainUnlessNothingLeft, FairUnlessNothingLeft, BatchUnlessNothingLeft}
use Rattle.model.specs.Ledger.{Lane, Ledger, at_opening, add_registered, apply_call, note, ledger_after, waits}
use Rattle.model.specs.Stretch.{looks, finds_nothing, looks_in_vain}
use Rattle.model.specs.Wake.{items_below, below_limit, may_sleep, while_asleep, ends_sleep, sends_to, says_woken, wakes, paused_in, NoLostWakeIn, NoLostWake, NothingWaitsIn, NothingWaits}
use Rattle.demands.proofs.Counting.{Same, equal, other, same?, no, both_true, not_false}
use Rattle.demands.proofs.OrderKept.{take_one_ordered, take_fair_ordered, take_up_to_ordered}
use Rattle.demands.proofs.Moves.{unless_law, Moves, stays_put, credits, registers_new, registers_old, sends, posts, drops_it, pauses_it, resumes, resumes_not, closes_it, polls_all, shuts_it, takes, stops, halts, aims, aims_none, Chain, stay, move, call_chain, trace_chain}
use Rattle.demands.proofs.StopLaws.{while_law}
use Rattle.demands.proofs.Points.{ends_at, after_append}
use Rattle.demands.proofs.MovesKeepOrder.{move_ordered}
use Rattle.demands.proofs.LedgerLaws.{alike, unlike, keys?, look}
use Rattle.demands.proofs.Demand2.{sender_parts, opens_as}
use Rattle.demands.proofs.LedgerAgrees.{Agrees, move_agrees, key_path}
use Rattle.demands.proofs.Demand3.{opened_agrees, hold_start}
use Rattle.demands.proofs.InOrder.{opening_in_order, run_in_order}
use Rattle.demands.proofs.PollLoop.{plain_unless_nothing_left, fair_unless_nothing_left, batch_unless_nothing_left}

-- ---- where a receiver may sleep, every unpaused lane is idle

record Idle (s : State) : Type 0 where
  idle : (y : ℕ) → (s.slot_of y).registered ≡ true → (s.slot_of y).paused ≡ false → (s.slot_of y).pending ≡ false

-- a pending one would be queued or marked
nothing_left_idle : (s : State) → Ordered s → NothingLeft s → Idle s
unfolding count
nothing_left_idle s o n = record { idle = λ y r p. go y r p (s.slot_of y).pending refl }
  where
    go : (y : ℕ) → (s.slot_of y).registered ≡ true → (s.slot_of y).paused ≡ false → (b : Bool) → (s.slot_of y).pending ≡ b → b ≡ false
    go y r p true e = absurd (no ((o.each_slot y).is_marked r p e (ap (count y) n.none_queued)) (n.none_ready y))
    go y r p false e = refl

release_idle : (s : State) → Idle s → Idle (release_all s)
unfolding release_all
release_idle s h = record { idle = h.idle }

retire_if_idle : (b : Bool) (x : ℕ) (s : State) → Idle s → Idle (retire_lane_if b x s)
unfolding retire_lane_if retire_lane
retire_if_idle false x s h = h
retire_if_idle true x s h = record { idle = λ y r p. go y (same? x y) r p }
  where
    go : (y : ℕ) → Same x y → ((put x (retired (s.slot_of x)) s).slot_of y).registered ≡ true → ((put x (retired (s.slot_of x)) s).slot_of y).paused ≡ false → ((put x (retired (s.slot_of x)) s).slot_of y).pending ≡ false
    go y (equal q e i) r p = absurd (no r (rw e))
    go y (other d e i) r p = rw e (h.idle y (rw e at r) (rw e at p))

retire_empty_idle : (xs : List ℕ) (s : State) → Idle s → Idle (retire_empty_paused_lanes xs s)
unfolding retire_empty_paused_lanes
retire_empty_idle [] s h = h
retire_empty_idle (x ∷ xs) s h = retire_empty_idle xs _ (retire_if_idle _ x s h)

nothing_taken_idle : (s : State) → Idle s → Idle (nothing_taken s).1.1
unfolding nothing_taken empty_or_drained
nothing_taken_idle s h = go (leb 1 (living_senders s))
  where
    go : (b : Bool) → Idle (if b (says Empty s) (empty_or_drained (retire_empty_paused_lanes (from 0 s.issued) s))).1.1
    go true = h
    go false = retire_empty_idle (from 0 s.issued) s h

-- a receive that takes one item
answer_one_idle : (c : Call) → ((v : ℕ) (i : LaneId) → may_sleep c (Item v i) ≡ false) → (t : Took) → Ordered t.1 → TakesUnlessNothingLeft 1 t
    → may_sleep c (answer_one t.0 t.1).1.0 ≡ true → Idle (answer_one t.0 t.1).1.1
unfolding TakesUnlessNothingLeft answer_one
answer_one_idle c n ([], s) o (inl e) m = absurd (omega arith)
answer_one_idle c n ([], s) o (inr h) m = nothing_taken_idle s (nothing_left_idle s o h)
answer_one_idle c n (g ∷ l, s) o h m = absurd (no m (n _ _))

-- a batch
answer_items_idle : (limit room : ℕ) (l : List (LaneKey × ℕ)) (s : State) → Ordered s → (length l ≡ limit) ⊎ NothingLeft s
    → may_sleep (Receive (TryRecvBatchInto limit room)) (answer_items limit l (release_all s)).1.0 ≡ true → Idle (answer_items limit l (release_all s)).1.1
unfolding answer_items may_sleep looks_in_vain looks finds_nothing below_limit items_below
answer_items_idle zero room l s o h m = absurd (omega (arith, ltb-true (length l) 0 m))
answer_items_idle (suc n) room [] s o (inl e) m = absurd (omega arith)
answer_items_idle (suc n) room [] s o (inr h) m = nothing_taken_idle (release_all s) (release_idle s (nothing_left_idle s o h))
answer_items_idle (suc n) room (g ∷ l) s o (inl e) m = absurd (omega (arith, ltb-true (length (g ∷ l)) (suc n) m))
answer_items_idle (suc n) room (g ∷ l) s o (inr h) m = release_idle s (nothing_left_idle s o h)

-- a batch with a bound says by its answer what one without says
while_sleeps : (limit bound room : ℕ) (a : Answer) → may_sleep (Receive (TryRecvBatchIntoWhile limit bound room)) a ≡ may_sleep (Receive (TryRecvBatchInto limit room)) a
unfolding may_sleep looks_in_vain looks below_limit
while_sleeps zero bound room a = refl
while_sleeps (suc n) bound room a = refl

may_sleep_idle : (s : State) (c : Call) → InOrder s → may_sleep c (outcome s c).1.0 ≡ true → Idle (outcome s c).1.1
unfolding outcome receive_outcome try_recv try_recv_fair try_recv_batch_into try_recv_batch_into_while answer_while may_sleep looks_in_vain looks finds_nothing below_limit items_below TakesUnlessNothingLeft PlainUnlessNothingLeft FairUnlessNothingLeft BatchUnlessNothingLeft
may_sleep_idle s (Sender c) i = λ m. absurd (no m refl)
may_sleep_idle s (Control c) i = λ m. absurd (no m refl)
may_sleep_idle s (Receive (TryRecvFrom j)) i = λ m. absurd (no m refl)
may_sleep_idle s (Receive TryRecv) i =
    unless_law (λ o. may_sleep (Receive TryRecv) o.1.0 ≡ true → Idle o.1.1) _ s _ (λ n m. absurd (no m refl))
    (λ p. answer_one_idle (Receive TryRecv) (λ v j. refl) (take_one s) (take_one_ordered s i.ordered) (plain_unless_nothing_left s i))
may_sleep_idle s (Receive TryRecvFair) i =
    unless_law (λ o. may_sleep (Receive TryRecvFair) o.1.0 ≡ true → Idle o.1.1) _ s _ (λ n m. absurd (no m refl))
    (λ p. answer_one_idle (Receive TryRecvFair) (λ v j. refl) (take_fair s) (take_fair_ordered s i.ordered) (fair_unless_nothing_left s i))
may_sleep_idle s (Receive (TryRecvBatchInto limit room)) i =
    unless_law (λ o. may_sleep (Receive (TryRecvBatchInto limit room)) o.1.0 ≡ true → Idle o.1.1) _ s _ (λ n m. absurd (no m (refused limit n)))
    (λ p. answer_items_idle limit room (take_up_to limit s).0 (take_up_to limit s).1 (take_up_to_ordered limit s i.ordered) (batch_unless_nothing_left limit s i))
  where
    refused : (limit : ℕ) (n : Refusal) → may_sleep (Receive (TryRecvBatchInto limit room)) (Refused n) ≡ false
    refused zero n = refl
    refused (suc m) n = refl
may_sleep_idle s (Receive (TryRecvBatchIntoWhile limit bound room)) i =
    unless_law Sleeps _ s _ (λ n m. absurd (no m (refused limit n)))
    (λ p. while_law (λ t es. Sleeps (answer_while limit t.0 t.1.0 (release_all t.1.1))) bound limit s
    (λ all m. answer_items_idle limit room (take_up_to limit s).0 (take_up_to limit s).1 (take_up_to_ordered limit s i.ordered) (batch_unless_nothing_left limit s i) (sym (while_sleeps limit bound room (answer_items limit (take_up_to limit s).0 (release_all (take_up_to limit s).1)).1.0) ∙ m))
    (λ k w m. absurd (no m (stops limit (length (take_up_to k s).0)))))
  where
    Sleeps : Outcome → Type 0
    Sleeps o = may_sleep (Receive (TryRecvBatchIntoWhile limit bound room)) o.1.0 ≡ true → Idle o.1.1

    refused : (limit : ℕ) (n : Refusal) → may_sleep (Receive (TryRecvBatchIntoWhile limit bound room)) (Refused n) ≡ false
    refused zero n = refl
    refused (suc m) n = refl

    stops : (limit n : ℕ) → may_sleep (Receive (TryRecvBatchIntoWhile limit bound room)) (Stopped n) ≡ false
    stops zero n = refl
    stops (suc m) n = refl

-- ---- while it sleeps

-- lane k, if a sender can send to it, is idle
record Asleep (k : LaneKey) (s : State) : Type 0 where
  idle : (s.slot_of k.slot).registered ≡ true → (s.slot_of k.slot).generation ≡ k.generation → (s.slot_of k.slot).living ≡ true → (s.slot_of k.slot).pending ≡ false

put_asleep : (k : LaneKey) (s : State) (x : ℕ) (l : Slot) → (x ≡ k.slot → l.registered ≡ true → l.generation ≡ k.generation → l.living ≡ true → l.pending ≡ false) → Asleep k s → Asleep k (put x l s)
put_asleep k s x l f h = record { idle = go (same? x k.slot) }
  where
    go : Same x k.slot → ((put x l s).slot_of k.slot).registered ≡ true → ((put x l s).slot_of k.slot).generation ≡ k.generation → ((put x l s).slot_of k.slot).living ≡ true → ((put x l s).slot_of k.slot).pending ≡ false
    go (equal p e i) r g v = rw e (f p (rw e at r) (rw e at g) (rw e at v))
    go (other d e i) r g v = rw e (h.idle (rw e at r) (rw e at g) (rw e at v))

pub some_path : {a b : Lane} → some a ≡ some b → a ≡ b
some_path e = cc

module _ (k : LaneKey) where
  move_asleep : {s u : State} {t : Tick} → Moves s t u → ends_sleep t ≡ false → sends_to k t ≡ false → Asleep k s → Asleep k u
  unfolding ends_sleep while_asleep sends_to accepted release_all
  move_asleep (stays_put s c a n) e f h = h
  move_asleep (credits s c a n) e f h = record { idle = h.idle }
  move_asleep (registers_new s m lt) e f h = record { idle = (put_asleep k s s.issued (new_lane s.first_generation (s.slot_of s.issued)) (λ p r g v. refl) h).idle }
  move_asleep (registers_old s m x i l) e f h = record { idle = (put_asleep k s x (new_lane ((s.slot_of x).generation + 1) (s.slot_of x)) (λ p r g v. refl) h).idle }
  move_asleep (sends s j v w free a r nf) e f h =
      put_asleep k s j.slot (signalled (pushed v (s.slot_of j.slot)))
      (λ p r g l. elim (keys? j k) [ alike q b ↦ absurd (no b f) | unlike d b ↦ absurd (d (key_path j k p (sym (sender_parts s j a).1 ∙ g))) ]) h
  move_asleep (posts s j v w free a r nf) e f h =
      put_asleep k s j.slot (pushed v (s.slot_of j.slot))
      (λ p r g l.
      ap (λ (x : ℕ). (s.slot_of x).pending) p
      ∙ h.idle (ap (λ (x : ℕ). (s.slot_of x).registered) (sym p) ∙ r) (ap (λ (x : ℕ). (s.slot_of x).generation) (sym p) ∙ g) (ap (λ (x : ℕ). (s.slot_of x).living) (sym p) ∙ l)) h
  move_asleep (drops_it s j a) e f h = put_asleep k s j.slot (signalled (sender_dropped (s.slot_of j.slot))) (λ p r g l. absurd (no l refl)) h
  move_asleep (pauses_it s i c) e f h = absurd (no refl e)
  move_asleep (resumes s i c p) e f h = absurd (no refl e)
  move_asleep (resumes_not s i c p) e f h = absurd (no refl e)
  move_asleep (closes_it s i c) e f h = absurd (no refl e)
  move_asleep (polls_all s) e f h = absurd (no refl e)
  move_asleep (shuts_it s) e f h = absurd (no refl e)
  move_asleep (takes g r s y v q vs w n i) e f h = absurd (no refl e)
  move_asleep (stops g r s u a w n q l m) e f h = absurd (no refl e)
  move_asleep (halts s m b n j y q g r) e f h = absurd (no refl e)
  move_asleep (aims s i v vs c g) e f h = absurd (no refl e)
  move_asleep (aims_none s i a c g n) e f h = absurd (no refl e)

  none_first : (p : Tick → Bool) (t : Tick) (ts : List Tick) → count_ticks p (t ∷ ts) ≡ 0 → (p t ≡ false) × (count_ticks p ts ≡ 0)
  unfolding count_ticks
  none_first p t ts e = go (p t) refl
    where
      go : (b : Bool) → p t ≡ b → (b ≡ false) × (count_ticks p ts ≡ 0)
      go true f = absurd (omega (arith, rw f at e))
      go false f = (refl, omega (arith, rw f at e))

  chain_asleep : {s u : State} {ts : List Tick} → Chain s ts u → count_ticks ends_sleep ts ≡ 0 → count_ticks (sends_to k) ts ≡ 0 → Asleep k s → Asleep k u
  chain_asleep (stay s) e f h = h
  chain_asleep (move {t = t} {ts = ts} m c) e f h =
      let a = none_first ends_sleep t ts e in
      let b = none_first (sends_to k) t ts f in
      chain_asleep c a.1 b.1 (move_asleep m a.0 b.0 h)

  -- the lane is unpaused in the ledger, and so in the state
  paused_looked : (ls : List Lane) (l : Lane) → look k ls ≡ some l → paused_in k ls ≡ l.paused
  unfolding look paused_in
  paused_looked [] l e = let z : ◌≡◌ {A = ℕ} 0 1 = cc in absurd (omega arith)
  paused_looked (m ∷ ls) l e = elim (keys? m.key k) [
    | alike p b ↦ rw b (ap (λ (n : Lane). n.paused) (some_path (rw b at e)))
    | unlike d b ↦ rw b (paused_looked ls l (rw b at e))
  ]

  falls_asleep : (L : Ledger) (s : State) → Agrees L s → paused_in k L.lanes ≡ false → Idle s → Asleep k s
  falls_asleep L s a p h = record {
    idle = λ r g l.
        let f = a.lane_of k.slot r in
        let e = ap (λ (i : LaneKey). look i L.lanes) (key_path k (key_of s k.slot) refl (sym g)) ∙ f.looked in
        h.idle k.slot r (sym f.matches.pauses_same ∙ sym (paused_looked L.lanes f.entry e) ∙ p);
  }

  -- a send to it that is accepted says that the signal went from idle to pending
  send_wakes : (s : State) (j : LaneKey) (v : ℕ) → Asleep k s → let a = (outcome s (Sender (TrySend j v))).1.0 in sends_to k (ends (Sender (TrySend j v)) a) ≡ true → says_woken a ≡ true
  unfolding outcome sender_outcome try_send sends_to accepted says_woken
  send_wakes s j v h =
      unless_law (λ o. sends_to k (ends (Sender (TrySend j v)) o.1.0) ≡ true → says_woken o.1.0 ≡ true) _ s _ (λ n e. absurd (no e refl))
      (λ p e. elim (keys? j k) [
        | unlike d b ↦ absurd (no e b)
        | alike q b ↦
            let l = sender_parts s j (not_false p.0) in
            let r = (both_true s.is_open (s.slot_of j.slot).registered (not_false p.1.0)).1 in
            ap not (ap (λ (i : LaneKey). (s.slot_of i.slot).pending) q
            ∙ h.idle (ap (λ (i : LaneKey). (s.slot_of i.slot).registered) (sym q) ∙ r) (ap (λ (i : LaneKey). (s.slot_of i.slot).generation) (sym q) ∙ l.1 ∙ ap (λ (i : LaneKey). i.generation) q) (ap (λ (i : LaneKey). (s.slot_of i.slot).living) (sym q) ∙ l.0))
      ])

  -- the first send to it in what follows
  first_wakes : (left : List Call) (s : State) → Asleep k s → (asleep rest : List Tick) (t : Tick) → trace the_rules s left ≡ asleep ++ (t ∷ rest)
      → count_ticks ends_sleep asleep ≡ 0 → count_ticks (sends_to k) asleep ≡ 0 → sends_to k t ≡ true → wakes t ≡ true
  unfolding sends_to wakes handed
  first_wakes left s h asleep rest (ends (Sender (TrySend j v)) a) e z n w =
      let p = ends_at left s asleep rest (Sender (TrySend j v)) a e in
      let q : asleep ≡ trace the_rules s p.made = p.so_far ∙ append-nil (trace the_rules s p.made) in
      let u = after_list the_rules s p.made in
      let b = chain_asleep (trace_chain s p.made) (ap (count_ticks ends_sleep) (sym q) ∙ z) (ap (count_ticks (sends_to k)) (sym q) ∙ n) h in
      ap says_woken p.answered ∙ send_wakes u j v b (ap (λ (x : Answer). sends_to k (ends (Sender (TrySend j v)) x)) (sym p.answered) ∙ w)
  first_wakes left s h asleep rest (ends (Sender (TrySendUnsignaled j v)) a) e z n w = absurd (no w refl)
  first_wakes left s h asleep rest (ends (Sender (RegisterSender m)) a) e z n w = absurd (no w refl)
  first_wakes left s h asleep rest (ends (Sender (DropSender j)) a) e z n w = absurd (no w refl)
  first_wakes left s h asleep rest (ends (Receive r) a) e z n w = absurd (no w refl)
  first_wakes left s h asleep rest (ends (Control c) a) e z n w = absurd (no w refl)
  first_wakes left s h asleep rest (gives r j v) e z n w = absurd (no w refl)

-- ---- of runs

-- the answer after which a receiver may sleep changes nothing of the ledger
sleep_noted : (L : Ledger) (c : Call) (a : Answer) → may_sleep c a ≡ true → note L (ends c a) ≡ L
unfolding note accepted add_registered apply_call may_sleep looks_in_vain looks finds_nothing below_limit items_below
sleep_noted L (Receive r) Empty m = refl
sleep_noted L (Receive r) Disconnected m = refl
sleep_noted L (Receive r) (Items n) m = refl
sleep_noted L (Receive r) (Stopped n) m = refl
sleep_noted L (Receive r) Done m = refl
sleep_noted L (Receive r) (Registered k) m = absurd (no m (never r))
  where
    never : (r : ReceiveCall) → may_sleep (Receive r) (Registered k) ≡ false
    never TryRecv = refl
    never TryRecvFair = refl
    never (TryRecvFrom i) = refl
    never (TryRecvBatchInto zero room) = refl
    never (TryRecvBatchInto (suc n) room) = refl
    never (TryRecvBatchIntoWhile zero bound room) = refl
    never (TryRecvBatchIntoWhile (suc n) bound room) = refl
sleep_noted L (Receive r) (Taken w f) m = refl
sleep_noted L (Receive r) (Item v i) m = refl
sleep_noted L (Receive r) (Held n) m = refl
sleep_noted L (Receive r) (Refused n) m = refl
sleep_noted L (Sender c) a m = absurd (no m refl)
sleep_noted L (Control c) a m = absurd (no m refl)

pub chain_agrees : (L : Ledger) {s u : State} {ts : List Tick} → Chain s ts u → Ordered s → Agrees L s → Agrees (ledger_after L ts) u
unfolding ledger_after
chain_agrees L (stay s) o a = a
chain_agrees L (move {t = t} m c) o a = chain_agrees (note L t) c (move_ordered o m) (move_agrees L o a m)

-- the ledger when the call ends
ledger_at : (L : Ledger) (s : State) (c : Call) (done : List Tick) → let a = (outcome s c).1.0 in may_sleep c a ≡ true
    → ledger_after (ledger_after L done) (ticks the_rules s c) ≡ ledger_after L (done ++ handed the_rules s c)
unfolding ticks ledger_after
ledger_at L s c done m =
    after_append (ledger_after L done) (handed the_rules s c) _ ∙ sleep_noted _ c _ m ∙ sym (after_append L done (handed the_rules s c))

pub no_lost_wake : NoLostWake the_rules
unfolding NoLostWake NoLostWakeIn
no_lost_wake o lent d calls all before asleep rest c a t e m z k q n w =
    let s = (opening_outcome o lent).1.1 in
    let i = opening_in_order o lent d in
    let p = ends_at calls s before (asleep ++ (t ∷ rest)) c a e in
    let u = after_list the_rules s p.made in
    let j = run_in_order o lent d p.made in
    let y : may_sleep c (outcome u c).1.0 ≡ true = ap (may_sleep c) (sym p.answered) ∙ m in
    let L = ledger_after at_opening (trace the_rules s p.made) in
    let g = chain_agrees L (call_chain u c) j.ordered (chain_agrees at_opening (trace_chain s p.made) i.ordered (rw (opens_as o lent) (opened_agrees o))) in
    let l = ledger_at at_opening u c (trace the_rules s p.made) y ∙ ap (ledger_after at_opening) (sym p.so_far) in
    first_wakes k p.left (outcome u c).1.1
    (falls_asleep k (ledger_after L (ticks the_rules u c)) _ g (ap (λ (M : Ledger). paused_in k M.lanes) l ∙ q) (may_sleep_idle u c j y))
    asleep rest t (sym p.goes_on) z n w

-- one that waits would be pending
idle_waits_not : (L : Ledger) (s : State) (k : LaneKey) → Agrees L s → Idle s → waits k L ≡ false
idle_waits_not L s k a h = go (waits k L) refl
  where
    go : (b : Bool) → waits k L ≡ b → b ≡ false
    go true w = let f = hold_start L s k a w in absurd (no f.is_pending (h.idle k.slot f.is_registered f.is_unpaused))
    go false w = refl

pub nothing_waits : NothingWaits the_rules
unfolding NothingWaits NothingWaitsIn
nothing_waits o lent d calls all before rest c a e m k =
    let s = (opening_outcome o lent).1.1 in
    let i = opening_in_order o lent d in
    let p = ends_at calls s before rest c a e in
    let u = after_list the_rules s p.made in
    let j = run_in_order o lent d p.made in
    let y : may_sleep c (outcome u c).1.0 ≡ true = ap (may_sleep c) (sym p.answered) ∙ m in
    let L = ledger_after at_opening (trace the_rules s p.made) in
    let g = chain_agrees L (call_chain u c) j.ordered (chain_agrees at_opening (trace_chain s p.made) i.ordered (rw (opens_as o lent) (opened_agrees o))) in
    let l = ledger_at at_opening u c (trace the_rules s p.made) y ∙ ap (ledger_after at_opening) (sym p.so_far) in
    ap (waits k) (sym l) ∙ idle_waits_not (ledger_after L (ticks the_rules u c)) _ k g (may_sleep_idle u c j y)
