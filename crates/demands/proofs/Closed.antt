-- A closed lane gives nothing more: its key never comes back, since generations only grow.
-- Assumes nothing.
use mathlib.Core.Path.{◌≡◌, refl, ap, sym, ◌∙◌}
use mathlib.Core.Logic.{◌⊎◌, inl, inr}
use mathlib.Core.Bool.{Bool, true, false}
use mathlib.Core.List.{List, [], ◌∷◌}
use Prim.Native.Nat.{ℕ, ◌≤◌, ◌<◌}
use native.Mathlib.Omega.{arith}
use Rattle.model.specs.declared.LaneKey.{LaneKey}
use Rattle.model.specs.declared.LaneId.{LaneId}
use Rattle.model.specs.declared.ControlCall.TheVariants.{CloseLane}
use Rattle.model.specs.declared.Call.TheVariants.{Control}
use Rattle.model.specs.declared.Answer.TheVariants.{Done}
use Rattle.model.specs.Lists.{without}
use Rattle.model.specs.State.{Slot, State, key_of}
use Rattle.model.specs.Changes.{with_queue, retired}
use Rattle.model.specs.Turn.{retire_lane}
use Rattle.model.specs.Runs.{same_key, accepted, Tick, ends, of_lane, count_ticks}
use Rattle.model.specs.Opening.{opening_outcome}
use Rattle.model.specs.Rules.{the_rules}
use Rattle.model.specs.Order.{Ordered}
use Rattle.model.specs.Ledger.{at_opening, Lane, Ledger, change_lane, set_closed, add_registered, apply_call, note}
use Rattle.model.specs.Closed.{NoneAfterCloseIn, NoneAfterClose}
use Rattle.demands.proofs.Counting.{self, no}
use Rattle.demands.proofs.OrderKept.{front_registered}
use Rattle.demands.proofs.Quiet.{poll, poll_quiet, poll_ordered}
use Rattle.demands.proofs.Moves.{Silent, Moves, stays_put, credits, registers_new, registers_old, sends, posts, drops_it, pauses_it, resumes, resumes_not, closes_it, polls_all, shuts_it, takes, stops, halts, aims, aims_none, Chain, stay, move, trace_chain}
use Rattle.demands.proofs.Opened.{opened_ordered}
use Rattle.demands.proofs.MovesKeepOrder.{has_lane_parts, move_ordered}
use Rattle.demands.proofs.LedgerLaws.{alike, unlike, keys?}
use Rattle.demands.proofs.Demand2.{opens_as}
use Rattle.demands.proofs.LedgerAgrees.{retire_lane_slot, retire_lane_issued}
use Rattle.demands.proofs.Grows.{Older, Grows, grows_quiet, move_grows}
use Rattle.demands.proofs.Demand3.{at_point}

-- key k is gone for good
record Gone (k : LaneKey) (s : State) : Type 0 where
  low : k.slot < s.issued
  least : k.generation ≤ (s.slot_of k.slot).generation
  more : (s.slot_of k.slot).registered ≡ true → k.generation < (s.slot_of k.slot).generation

gone_on : (k : LaneKey) (s u : State) → Grows s u → Gone k s → Gone k u
gone_on k s u h g = let o = h.slots k.slot g.low in record { low = omega (arith, g.low, h.issues); least = omega (arith, g.least, o.gens); more = λ e. go o (o.regs e) }
  where
    go : Older (s.slot_of k.slot) (u.slot_of k.slot) → ((s.slot_of k.slot).registered ≡ true) ⊎ ((s.slot_of k.slot).generation < (u.slot_of k.slot).generation) → k.generation < (u.slot_of k.slot).generation
    go o (inl e) = omega (arith, g.more e, o.gens)
    go o (inr l) = omega (arith, g.least)

-- it gives nothing
not_gone : (k : LaneKey) (s : State) (y : ℕ) → (s.slot_of y).registered ≡ true → Gone k s → same_key (key_of s y) k ≡ false
not_gone k s y r g = elim (keys? (key_of s y) k) [
  | alike p e ↦
      let q : y ≡ k.slot = ap (λ (i : LaneKey). i.slot) p in
      absurd (omega (arith, g.more (ap (λ (z : ℕ). (s.slot_of z).registered) (sym q) ∙ r), ap (λ (i : LaneKey). i.generation) p, ap (λ (z : ℕ). (s.slot_of z).generation) q))
  | unlike d e ↦ e
]

move_silent : (k : LaneKey) {s u : State} {t : Tick} → Ordered s → Gone k s → Moves s t u → of_lane k t ≡ false
unfolding of_lane
move_silent k o g (stays_put s c a h) = refl
move_silent k o g (credits s c a h) = refl
move_silent k o g (registers_new s m lt) = refl
move_silent k o g (registers_old s m x i l) = refl
move_silent k o g (sends s j v w free a r nf) = refl
move_silent k o g (posts s j v w free a r nf) = refl
move_silent k o g (drops_it s j a) = refl
move_silent k o g (pauses_it s i c) = refl
move_silent k o g (resumes s i c p) = refl
move_silent k o g (resumes_not s i c p) = refl
move_silent k o g (closes_it s i c) = refl
move_silent k o g (polls_all s) = refl
move_silent k o g (shuts_it s) = refl
move_silent k o g (takes f r s y v q vs h e i) = not_gone k (poll f s) y (front_registered (poll f s) y q e (poll_ordered f s o)) (gone_on k s (poll f s) (grows_quiet s (poll f s) (poll_quiet f s)) g)
move_silent k o g (stops f r s u a h e q l n) = refl
move_silent k o g (halts s m b n j y q e h) = refl
move_silent k o g (aims s i v vs c e) = not_gone k s i.key.slot (has_lane_parts s i.key c).0 g
move_silent k o g (aims_none s i a c e h) = refl

chain_silent : (k : LaneKey) {s u : State} {ts : List Tick} → Chain s ts u → Ordered s → Gone k s → count_ticks (of_lane k) ts ≡ 0
unfolding count_ticks
chain_silent k (stay s) o g = refl
chain_silent k (move {ts = ts} m c) o g = rw (move_silent k o g m) (omega (arith, chain_silent k c (move_ordered o m) (gone_on k _ _ (move_grows m) g)))

-- an accepted close
not_silent : (i : LaneId) → Silent (Control (CloseLane i)) Done → ⊥
unfolding note accepted apply_call add_registered change_lane set_closed
not_silent i h =
    let l : Lane = record { key = i.key; holds = []; paused = false; closed = false; dropped = false } in
    let L : Ledger = record { lanes = l ∷ []; receiver_closed = false; issued = 0 } in
    let e = ap (λ (M : Ledger). heads M.lanes) (h.noted L) in
    elim (keys? i.key i.key) [
      | alike p b ↦ (let t : heads (note L (ends (Control (CloseLane i)) Done)).lanes ≡ true = rw b in no t e)
      | unlike d b ↦ d refl
    ]
  where
    heads : List Lane → Bool
    heads [] = false
    heads (l ∷ ls) = l.closed

close_gone : (i : LaneId) {s u : State} → Ordered s → Moves s (ends (Control (CloseLane i)) Done) u → Gone i.key u
close_gone i o (stays_put s c a h) = absurd (not_silent i h)
close_gone i o (credits s c a h) = absurd (not_silent i h)
close_gone i o (closes_it s j c) =
    let x = i.key.slot in
    let p = has_lane_parts s i.key c in
    let e : (retire_lane x (with_queue (without x s.queue) s)).slot_of x ≡ retired (s.slot_of x) = retire_lane_slot x s _ x ∙ rw (self x) in
    record { low = omega (arith, (o.each_slot x).registered_issued p.0, retire_lane_issued x (with_queue (without x s.queue) s)); least = omega (arith, ap (λ (l : Slot). l.generation) e, p.1); more = λ r. absurd (no r (ap (λ (l : Slot). l.registered) e)) }

pub none_after_close : NoneAfterClose the_rules
unfolding NoneAfterClose NoneAfterCloseIn
none_after_close o lent a calls t before rest i e =
    let s = (opening_outcome o lent).1.1 in
    let p = at_point (λ L u. Ordered u) (λ L u v t h m. move_ordered h m) at_opening s _ before (ends (Control (CloseLane i)) Done ∷ rest)
    (rw (opens_as o lent) (opened_ordered o lent a)) (rw e at (trace_chain s calls)) in
    go p.1 p.2
  where
    go : {u w : State} → Ordered u → Chain u (ends (Control (CloseLane i)) Done ∷ rest) w → count_ticks (of_lane i.key) rest ≡ 0
    go o (move m c) = chain_silent i.key c (move_ordered o m) (close_gone i o m)
