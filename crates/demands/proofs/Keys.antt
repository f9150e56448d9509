-- No key is answered again, and the issued slots are those of the answered keys: a key stands once in the ledger, which has an entry for each answer.
-- Assumes nothing.
use mathlib.Core.Path.{◌≡◌, refl, ap, sym, subst}
use mathlib.Core.Bool.{Bool, true, false}
use mathlib.Core.List.{List, [], ◌∷◌, append-nil}
use Prim.Native.Nat.{ℕ, ◌+◌, ◌≤◌, ◌<◌}
use native.Mathlib.Omega.{arith}
use lib.Dec.{eqb}
use Rattle.model.specs.declared.LaneKey.{LaneKey}
use Rattle.model.specs.declared.SenderCall.TheVariants.{RegisterSender, TrySend, TrySendUnsignaled, DropSender}
use Rattle.model.specs.declared.ControlCall.TheVariants.{Pause, Resume, CloseLane, ReleaseConsumed, PollAllLanes, CloseReceiver, CountHeld}
use Rattle.model.specs.declared.Call.{Call}
use Rattle.model.specs.declared.Call.TheVariants.{Sender, Receive, Control}
use Rattle.model.specs.declared.Answer.TheVariants.{Done, Registered, Taken, Item, Items, Stopped, Empty, Disconnected, Held, Refused}
use Rattle.model.specs.Lists.{if}
use Rattle.model.specs.State.{State}
use Rattle.model.specs.Runs.{same_key, accepted, Tick, gives, ends, trace, after_list, count_ticks}
use Rattle.model.specs.Opening.{opening_outcome}
use Rattle.model.specs.Rules.{the_rules}
use Rattle.model.specs.Order.{Ordered}
use Rattle.model.specs.Ledger.{Lane, Ledger, at_opening, change_lane, remove_oldest, add_registered, apply_call, note, ledger_after}
use Rattle.model.specs.Keys.{registers_as, answers_key_that, answers_key, answers_slot, KeysNeverAgainIn, KeysNeverAgain, SlotsAnswered, IssuedAsAnsweredIn, IssuedAsAnswered}
use Rattle.demands.proofs.Counting.{Same, equal, other, same?}
use Rattle.demands.proofs.Moves.{Moves, stays_put, credits, registers_new, registers_old, sends, posts, drops_it, pauses_it, resumes, resumes_not, closes_it, polls_all, shuts_it, takes, stops, halts, aims, aims_none, Chain, stay, move, trace_chain}
use Rattle.demands.proofs.Opened.{opened_ordered}
use Rattle.demands.proofs.MovesKeepOrder.{move_ordered}
use Rattle.demands.proofs.LedgerLaws.{alike, unlike, keys?, times, change_in}
use Rattle.demands.proofs.Demand2.{opens_as}
use Rattle.demands.proofs.LedgerAgrees.{Agrees, move_agrees, add_item_key, remove_oldest_key, set_dropped_key, set_paused_key, set_closed_key}
use Rattle.demands.proofs.Demand3.{at_point, opened_agrees}
use Rattle.demands.proofs.Held.{KeysOnce, move_keys}

-- ---- the ledger has an entry for each key that was answered

-- how many lanes of a list have a key that passes a test
unfoldable lanes_that : (LaneKey → Bool) → List Lane → ℕ
lanes_that p [] = 0
lanes_that p (l ∷ ls) = if (p l.key) 1 0 + lanes_that p ls

module _ (p : LaneKey → Bool) where
  changed_that : (j : LaneKey) (f : Lane → Lane) → ((l : Lane) → (f l).key ≡ l.key) → (ls : List Lane) → lanes_that p (change_in j f ls) ≡ lanes_that p ls
  unfolding lanes_that
  changed_that j f keeps [] = refl
  changed_that j f keeps (l ∷ ls) = elim (keys? l.key j) [
    | alike q e ↦ rw e (omega (arith, ap (λ (k : LaneKey). if {A = ℕ} (p k) 1 0) (keeps l), changed_that j f keeps ls))
    | unlike d e ↦ rw e (omega (arith, changed_that j f keeps ls))
  ]

  applied_that : (c : Call) (L : Ledger) → lanes_that p (apply_call c L).lanes ≡ lanes_that p L.lanes
  unfolding apply_call change_lane
  applied_that (Receive r) L = refl
  applied_that (Sender (RegisterSender m)) L = refl
  applied_that (Sender (TrySend k v)) L = changed_that k _ (add_item_key record { value = v; ordinary = true }) L.lanes
  applied_that (Sender (TrySendUnsignaled k v)) L = changed_that k _ (add_item_key record { value = v; ordinary = false }) L.lanes
  applied_that (Sender (DropSender k)) L = changed_that k _ set_dropped_key L.lanes
  applied_that (Control (Pause i)) L = changed_that i.key _ (set_paused_key true) L.lanes
  applied_that (Control (Resume i)) L = changed_that i.key _ (set_paused_key false) L.lanes
  applied_that (Control (CloseLane i)) L = changed_that i.key _ set_closed_key L.lanes
  applied_that (Control CloseReceiver) L = refl
  applied_that (Control ReleaseConsumed) L = refl
  applied_that (Control PollAllLanes) L = refl
  applied_that (Control CountHeld) L = refl

  noted_that : (L : Ledger) (t : Tick) → lanes_that p (note L t).lanes ≡ if (answers_key_that p t) 1 0 + lanes_that p L.lanes
  unfolding note change_lane accepted add_registered answers_key_that registers_as lanes_that
  noted_that L (gives r k v) = omega (arith, changed_that k remove_oldest remove_oldest_key L.lanes)
  noted_that L (ends c (Registered k)) = omega (arith, applied_that c (add_registered (Registered k) L))
  noted_that L (ends c Done) = omega (arith, applied_that c L)
  noted_that L (ends c (Taken w f)) = omega (arith, applied_that c L)
  noted_that L (ends c (Item v i)) = omega (arith, applied_that c L)
  noted_that L (ends c (Items n)) = omega (arith, applied_that c L)
  noted_that L (ends c (Stopped n)) = omega (arith, applied_that c L)
  noted_that L (ends c Empty) = omega (arith, applied_that c L)
  noted_that L (ends c Disconnected) = omega (arith, applied_that c L)
  noted_that L (ends c (Held n)) = omega (arith, applied_that c L)
  noted_that L (ends c (Refused r)) = omega arith

  after_that : (L : Ledger) (ts : List Tick) → lanes_that p (ledger_after L ts).lanes ≡ count_ticks (answers_key_that p) ts + lanes_that p L.lanes
  unfolding ledger_after count_ticks
  after_that L [] = omega arith
  after_that L (t ∷ ts) = omega (arith, after_that (note L t) ts, noted_that L t)

  answered_that : (ts : List Tick) → lanes_that p (ledger_after at_opening ts).lanes ≡ count_ticks (answers_key_that p) ts
  unfolding at_opening lanes_that
  answered_that ts = omega (arith, after_that at_opening ts)

times_that : (k : LaneKey) (ls : List Lane) → times k ls ≡ lanes_that (λ j. same_key j k) ls
unfolding times lanes_that
times_that k [] = refl
times_that k (l ∷ ls) = omega (arith, times_that k ls)

-- ---- no key again

opened_keys : (s : State) → KeysOnce at_opening s
unfolding at_opening times
opened_keys s = record { once = λ k. omega arith; known = λ k n. absurd (omega arith) }

pub keys_never_again : KeysNeverAgain the_rules
unfolding KeysNeverAgain KeysNeverAgainIn answers_key_that registers_as
keys_never_again o lent d calls t before rest c k e =
    let s = (opening_outcome o lent).1.1 in
    let p = at_point (λ L u. Ordered u × KeysOnce L u) (λ L u v t h m. (move_ordered h.0 m, move_keys L h.0 h.1 m)) at_opening s _ before (ends c (Registered k) ∷ rest)
    (rw (opens_as o lent) (opened_ordered o lent d), opened_keys s) (rw e at (trace_chain s calls)) in
    go {u = p.0} p.1.0 p.1.1 p.2
  where
    L : Ledger
    L = ledger_after at_opening before

    own : if {A = ℕ} (answers_key k (ends c (Registered k))) 1 0 ≡ 1
    own = elim (keys? k k) [ alike q e ↦ rw e | unlike n e ↦ absurd (n refl) ]

    go : {u w : State} → Ordered u → KeysOnce L u → Chain u (ends c (Registered k) ∷ rest) w → count_ticks (answers_key k) before ≡ 0
    go o h (move m r) =
        omega (arith, (move_keys L o h m).once k, times_that k (note L (ends c (Registered k))).lanes, noted_that (λ j. same_key j k) L (ends c (Registered k)), own, answered_that (λ j. same_key j k) before)

-- ---- the issued slots

unfoldable in_slot : ℕ → List Lane → ℕ
in_slot x ls = lanes_that (λ j. eqb j.slot x) ls

-- slots 0 to issued - 1 have a lane in the ledger, and no other slot has
record Slots (L : Ledger) : Type 0 where
  each : (x : ℕ) → x < L.issued → 1 ≤ in_slot x L.lanes
  none : (x : ℕ) → 1 ≤ in_slot x L.lanes → x < L.issued

slots_as : (L M : Ledger) → M.issued ≡ L.issued → ((x : ℕ) → in_slot x M.lanes ≡ in_slot x L.lanes) → Slots L → Slots M
slots_as L M i e h = record { each = λ x l. omega (arith, i, e x, h.each x (omega (arith, i))); none = λ x n. omega (arith, i, h.none x (omega (arith, e x))) }

slots_same : (L M : Ledger) → M ≡ L → Slots L → Slots M
slots_same L M e h = subst Slots (sym e) h

-- a lane of the next slot, or of an issued one, is registered
slots_more : (L : Ledger) (m : ℕ) (k : LaneKey) → k.slot ≤ L.issued → Slots L → Slots (note L (ends (Sender (RegisterSender m)) (Registered k)))
unfolding note accepted apply_call add_registered in_slot lanes_that
slots_more L m k low h = record { each = λ x l. go x (same? k.slot x) l; none = λ x n. back x (same? k.slot x) n }
  where
    u : Ledger
    u = note L (ends (Sender (RegisterSender m)) (Registered k))

    go : (x : ℕ) → Same k.slot x → x < u.issued → 1 ≤ in_slot x u.lanes
    go x (equal p e i) l = rw e (omega arith)
    go x (other d e i) l = rw e (omega (arith, h.each x (omega (arith, d))))

    back : (x : ℕ) → Same k.slot x → 1 ≤ in_slot x u.lanes → x < u.issued
    back x (equal p e i) n = omega arith
    back x (other d e i) n = omega (arith, h.none x (omega (arith, rw e at n)))

-- a tick that registers nothing
slots_given : (L : Ledger) {s u : State} {t : Tick} → Moves s t u → ((x : ℕ) → answers_slot x t ≡ false) → (note L t).issued ≡ L.issued → Slots L → Slots (note L t)
unfolding in_slot
slots_given L {t = t} m n i h = slots_as L (note L t) i (λ x. omega (arith, noted_that (λ j. eqb j.slot x) L t, ap (λ (b : Bool). if {A = ℕ} b 1 0) (n x))) h

move_slots_lem : (L : Ledger) {s u : State} {t : Tick} → Ordered s → Agrees L s → Slots L → Moves s t u → Slots (note L t)
unfolding note change_lane accepted apply_call add_registered answers_key_that registers_as
move_slots_lem L o a h (stays_put s c b n) = slots_same L _ (n.noted L) h
move_slots_lem L o a h (credits s c b n) = slots_same L _ (n.noted L) h
move_slots_lem L o a h (registers_new s m lt) = slots_more L m _ (omega (arith, a.issued_same)) h
move_slots_lem L o a h (registers_old s m x i l) = slots_more L m _ (omega (arith, a.issued_same, (o.each_slot x).free_issued i)) h
move_slots_lem L o a h (sends s k v w free l r nf) = slots_given L (sends s k v w free l r nf) (λ x. refl) refl h
move_slots_lem L o a h (posts s k v w free l r nf) = slots_given L (posts s k v w free l r nf) (λ x. refl) refl h
move_slots_lem L o a h (drops_it s k l) = slots_given L (drops_it s k l) (λ x. refl) refl h
move_slots_lem L o a h (pauses_it s i c) = slots_given L (pauses_it s i c) (λ x. refl) refl h
move_slots_lem L o a h (resumes s i c p) = slots_given L (resumes s i c p) (λ x. refl) refl h
move_slots_lem L o a h (resumes_not s i c p) = slots_given L (resumes_not s i c p) (λ x. refl) refl h
move_slots_lem L o a h (closes_it s i c) = slots_given L (closes_it s i c) (λ x. refl) refl h
move_slots_lem L o a h (polls_all s) = slots_given L (polls_all s) (λ x. refl) refl h
move_slots_lem L o a h (shuts_it s) = slots_given L (shuts_it s) (λ x. refl) refl h
move_slots_lem L o a h (takes f r s y v q vs w e g) = slots_given L (takes f r s y v q vs w e g) (λ x. refl) refl h
move_slots_lem L o a h (stops f r s u b w e q k n) = slots_same L _ (n L) h
move_slots_lem L o a h (halts s m b n j y q e w) = slots_same L _ (w.noted L) h
move_slots_lem L o a h (aims s i v vs c g) = slots_given L (aims s i v vs c g) (λ x. refl) refl h
move_slots_lem L o a h (aims_none s i b c g n) = slots_same L _ (n.noted L) h

opened_slots : Slots at_opening
unfolding at_opening in_slot lanes_that
opened_slots = record { each = λ x l. absurd (omega arith); none = λ x n. absurd (omega arith) }

slots_answered : (n : ℕ) (ts : List Tick) → (ledger_after at_opening ts).issued ≡ n → Slots (ledger_after at_opening ts) → SlotsAnswered n ts
unfolding in_slot
slots_answered n ts i h = record {
  as_ledger = sym i;
  each_answered = λ x l. omega (arith, answered_that (λ j. eqb j.slot x) ts, h.each x (omega (arith, i)));
  none_other = λ x k. omega (arith, i, h.none x (omega (arith, answered_that (λ j. eqb j.slot x) ts)));
}

pub issued_as_answered : IssuedAsAnswered the_rules (λ s. s.issued)
unfolding IssuedAsAnswered IssuedAsAnsweredIn
issued_as_answered o lent d calls t =
    let s = (opening_outcome o lent).1.1 in
    let ts = trace the_rules s calls in
    let p = at_point (λ L u. Ordered u × (Agrees L u × Slots L)) (λ L u v t h m. (move_ordered h.0 m, (move_agrees L h.0 h.1.0 m, move_slots_lem L h.0 h.1.0 h.1.1 m))) at_opening s (after_list the_rules s calls) ts []
    (rw (opens_as o lent) (opened_ordered o lent d), (rw (opens_as o lent) (opened_agrees o), opened_slots)) (rw (append-nil ts) (trace_chain s calls)) in
    go ts {u = p.0} p.1.1.0 p.1.1.1 p.2
  where
    go : (ts : List Tick) {u w : State} → Agrees (ledger_after at_opening ts) u → Slots (ledger_after at_opening ts) → Chain u [] w → SlotsAnswered w.issued ts
    go ts a h (stay u) = slots_answered u.issued ts a.issued_same h
