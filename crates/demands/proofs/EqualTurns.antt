-- Two lanes that wait throughout get the same turns: whichever gives stands behind the other.
-- Assumes nothing.
use mathlib.Core.Path.{◌≡◌, refl, ap, sym, ◌∙◌}
use mathlib.Core.Logic.{◌≢◌}
use mathlib.Core.Bool.{Bool, true, false, not}
use mathlib.Core.Option.{some}
use mathlib.Core.List.{List, [], ◌∷◌, ◌++◌}
use Prim.Native.Nat.{ℕ, ◌+◌, ◌*◌, ◌-◌, ◌≤◌}
use native.Mathlib.Omega.{arith}
use Rattle.model.specs.declared.LaneKey.{LaneKey}
use Rattle.model.specs.declared.ReceiveCall.TheVariants.{TryRecv, TryRecvFair, TryRecvFrom, TryRecvBatchInto, TryRecvBatchIntoWhile}
use Rattle.model.specs.declared.ControlCall.TheVariants.{Pause, Resume, CloseLane, ReleaseConsumed, PollAllLanes, CloseReceiver, CountHeld}
use Rattle.model.specs.declared.Call.{Call}
use Rattle.model.specs.declared.Call.TheVariants.{Sender, Receive, Control}
use Rattle.model.specs.declared.Answer.{Answer}
use Rattle.model.specs.Lists.{if, both, either}
use Rattle.model.specs.State.{State}
use Rattle.model.specs.Ready.{groups_in}
use Rattle.model.specs.Runs.{accepted, Tick, gives, ends, same_key, count_ticks, of_lane}
use Rattle.model.specs.Rules.{the_rules}
use Rattle.model.specs.Order.{Ordered}
use Rattle.model.specs.Ledger.{Lane, Ledger, at_opening, change_lane, set_paused, set_closed, add_registered, apply_call, note, ledger_after, waits_in, waits, live_lanes}
use Rattle.model.specs.Stretch.{ends_wait, ends_stretch}
use Rattle.model.specs.EqualTurns.{out_of_turn, throughout, EqualTurnsIn, EqualTurns}
use Rattle.demands.proofs.Counting.{no, both_true}
use Rattle.demands.proofs.WaitInReceive.{On, wait_start}
use Rattle.demands.proofs.Moves.{Moves, Chain, move}
use Rattle.demands.proofs.MovesKeepOrder.{move_ordered}
use Rattle.demands.proofs.LedgerLaws.{alike, unlike, keys?, change_in}
use Rattle.demands.proofs.LedgerAgrees.{seen, seen_closed, Agrees, move_agrees, set_paused_key, set_closed_key}
use Rattle.demands.proofs.LiveCount.{agrees_few}
use Rattle.demands.proofs.FairOnce.{Once, fresh, move_once}
use Rattle.demands.proofs.Demand3.{hold_start, first_none, agrees_at}

-- ---- a lane that waits after a call was not paused or closed by it, and the receiver is open

-- by a change after which it does not wait
module _ (f : Lane → Lane) (keeps : (l : Lane) → (f l).key ≡ l.key) (stops : (l : Lane) → seen (some (f l)) ≡ false) where
  stopped : (k : LaneKey) (ls : List Lane) → waits_in k (change_in k f ls) ≡ false
  unfolding waits_in seen
  stopped k [] = refl
  stopped k (l ∷ ls) = elim (keys? l.key k) [
    | alike p e ↦ rw (e, ap (λ (i : LaneKey). same_key i k) (keeps l) ∙ e) (stops l)
    | unlike d e ↦ rw (e, e) (stopped k ls)
  ]

  other_changed : (i k : LaneKey) (L : Ledger) → waits k (change_lane i f L) ≡ true → same_key i k ≡ false
  unfolding waits change_lane
  other_changed i k L w = elim (keys? i k) [
    | alike p e ↦ absurd (no (both_true (not L.receiver_closed) (waits_in k (change_in i f L.lanes)) w).1 (ap (λ (j : LaneKey). waits_in k (change_in j f L.lanes)) p ∙ stopped k L.lanes))
    | unlike d e ↦ e
  ]

paused_stops : (l : Lane) → seen (some (set_paused true l)) ≡ false
unfolding seen set_paused
paused_stops l = refl

closed_stops : (l : Lane) → seen (some (set_closed l)) ≡ false
unfolding set_closed
closed_stops l = seen_closed (set_closed l) refl

call_left_waiting : (k : LaneKey) (c : Call) (L : Ledger) → waits k (apply_call c L) ≡ true → ends_wait k c ≡ false
unfolding ends_wait apply_call waits
call_left_waiting k (Sender c) L w = refl
call_left_waiting k (Receive r) L w = refl
call_left_waiting k (Control (Pause i)) L w = other_changed (set_paused true) (set_paused_key true) paused_stops i.key k L w
call_left_waiting k (Control (CloseLane i)) L w = other_changed set_closed set_closed_key closed_stops i.key k L w
call_left_waiting k (Control CloseReceiver) L w = absurd (no w refl)
call_left_waiting k (Control (Resume i)) L w = refl
call_left_waiting k (Control ReleaseConsumed) L w = refl
call_left_waiting k (Control PollAllLanes) L w = refl
call_left_waiting k (Control CountHeld) L w = refl

left_waiting : (k : LaneKey) (c : Call) (x : Answer) (L : Ledger) → waits k (note L (ends c x)) ≡ true → ends_stretch k (ends c x) ≡ false
unfolding note ends_stretch
left_waiting k c x L w = go (accepted x) w
  where
    go : (b : Bool) → waits k (if b (apply_call c (add_registered x L)) L) ≡ true → both b (ends_wait k c) ≡ false
    go true h = call_left_waiting k c (add_registered x L) h
    go false h = refl

-- ---- lane a is never ahead of lane b by more than one, while b waits

-- a has given `na`, b `nb`; a may give `left` more before b does
record Lead (a b : LaneKey) (na nb : ℕ) (s : State) : Type 0 where
  left : ℕ
  most : na + left ≤ nb + 1
  once : Once b.slot a.slot left s

-- lane b waits in s
on_start : (L : Ledger) (s : State) (b : LaneKey) → Ordered s → Agrees L s → waits b L ≡ true
    → On (groups_in s.issued) (live_lanes L.lanes) b.slot b.generation (64 * (groups_in s.issued + live_lanes L.lanes - 1)) s
on_start L s b o a w =
    let h = hold_start L s b a w in
    let f = agrees_few (live_lanes L.lanes) L s a (omega arith) in
    record { ord = o; hold = h; few_live = f; wide = omega arith; wait = wait_start (groups_in s.issued) (live_lanes L.lanes) b.slot b.generation s o h f (omega arith) }

-- no item is of two lanes
one_lane : (a b : LaneKey) (t : Tick) → a ≢ b → of_lane b t ≡ true → of_lane a t ≡ false
unfolding of_lane
one_lane a b (gives r j v) d e = elim (keys? j b) [
  | alike p f ↦ elim (keys? j a) [ alike q g ↦ absurd (d (sym q ∙ p)) | unlike q g ↦ g ]
  | unlike p f ↦ absurd (no e f)
]
one_lane a b (ends c x) d e = refl

module _ (a b : LaneKey) (d : a ≢ b) where
  -- b's item lets a give one again; a's own uses that up; nothing else changes it
  lead_after : (t : Tick) (L : Ledger) (s u : State) (na nb : ℕ) → Ordered s → Agrees L s → Moves s t u → waits b L ≡ true → out_of_turn b a t ≡ false → ends_stretch b t ≡ of_lane b t → Lead a b na nb s
      → Lead a b (if (of_lane a t) 1 0 + na) (if (of_lane b t) 1 0 + nb) u
  lead_after t L s u na nb o g m w f x h = go (of_lane b t) refl
    where
      go : (c : Bool) → of_lane b t ≡ c → Lead a b (if (of_lane a t) 1 0 + na) (if c 1 0 + nb) u
      go true e = rw (one_lane a b t d e) record { left = 1; most = omega (arith, h.most); once = fresh (omega arith) }
      go false e =
          let r = move_once (groups_in s.issued) (live_lanes L.lanes) b a _ h.left (on_start L s b o g w) m (x ∙ e) f h.once in
          record { left = r.rest; most = omega (arith, r.pays, h.most); once = r.once }

  lead_run : (ts rest : List Tick) (L : Ledger) (s e : State) (na nb : ℕ) → Ordered s → Agrees L s → Chain s (ts ++ rest) e
      → throughout (waits b) L ts ≡ true → count_ticks (out_of_turn b a) ts ≡ 0 → Lead a b na nb s → count_ticks (of_lane a) ts + na ≤ count_ticks (of_lane b) ts + nb + 1
  unfolding count_ticks throughout of_lane ends_stretch
  lead_run [] rest L s e na nb o g c w z h = omega (arith, h.most)
  lead_run (gives r j v ∷ ts) rest L s e na nb o g (move {u = u} m c) w z h =
      let p = both_true (waits b L) (throughout (waits b) (note L (gives r j v)) ts) w in
      let q = first_none (out_of_turn b a) (gives r j v) ts z in
      let k = lead_after (gives r j v) L s u na nb o g m p.0 q.0 refl h in
      omega (arith, lead_run ts rest (note L (gives r j v)) u e _ _ (move_ordered o m) (move_agrees L o g m) c p.1 q.1 k)
  -- what happens last may be a pause of b
  lead_run (ends x y ∷ []) rest L s e na nb o g c w z h = omega (arith, h.most)
  lead_run (ends x y ∷ t ∷ ts) rest L s e na nb o g (move {u = u} m c) w z h =
      let p = both_true (waits b L) (throughout (waits b) (note L (ends x y)) (t ∷ ts)) w in
      let q = first_none (out_of_turn b a) (ends x y) (t ∷ ts) z in
      let l = left_waiting b x y L (both_true (waits b (note L (ends x y))) _ p.1).0 in
      let k = lead_after (ends x y) L s u na nb o g m p.0 q.0 l h in
      omega (arith, lead_run (t ∷ ts) rest (note L (ends x y)) u e _ _ (move_ordered o m) (move_agrees L o g m) c p.1 q.1 k)

start : (a b : LaneKey) (s : State) → Lead a b 0 0 s
start a b s = record { left = 1; most = omega arith; once = fresh (omega arith) }

-- ---- which of the two is named first does not matter

either_swap : (c d : Bool) → either c d ≡ either d c
either_swap true true = refl
either_swap true false = refl
either_swap false true = refl
either_swap false false = refl

turn_swap : (a b : LaneKey) (ts : List Tick) → count_ticks (out_of_turn b a) ts ≡ count_ticks (out_of_turn a b) ts
unfolding count_ticks out_of_turn
turn_swap a b [] = refl
turn_swap a b (t ∷ ts) = rw (one t, turn_swap a b ts)
  where
    one : (t : Tick) → out_of_turn b a t ≡ out_of_turn a b t
    one (gives TryRecv j v) = refl
    one (gives TryRecvFair j v) = refl
    one (gives (TryRecvBatchInto limit room) j v) = refl
    one (gives (TryRecvBatchIntoWhile limit bound room) j v) = refl
    one (gives (TryRecvFrom i) j v) = either_swap (same_key i.key b) (same_key i.key a)
    one (ends c x) = refl

pub equal_turns : EqualTurns the_rules
unfolding EqualTurns EqualTurnsIn
equal_turns o lent k calls t before so_far rest e a b d wa wb z =
    let p = agrees_at o lent k calls before (so_far ++ rest) e in
    let u : a ≢ b = elim (keys? a b) [ alike q f ↦ absurd (no f d) | unlike q f ↦ q ] in
    let one = lead_run a b u so_far rest (ledger_after at_opening before) p.0 _ 0 0 p.1.0 p.1.1 p.2 wb (turn_swap a b so_far ∙ z) (start a b p.0) in
    let two = lead_run b a (λ q. u (sym q)) so_far rest (ledger_after at_opening before) p.0 _ 0 0 p.1.0 p.1.1 p.2 wa z (start b a p.0) in
    record { first_most = omega (arith, one); second_most = omega (arith, two) }
