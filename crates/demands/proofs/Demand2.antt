-- Demand 2 holds of the rules: the items handed out of a lane, and then those still in its ring, are its accepted sends.
-- Assumes nothing.
use mathlib.Core.Path.{◌≡◌, refl, ap, sym, ◌∙◌}
use mathlib.Core.Logic.{◌≢◌}
use mathlib.Core.Bool.{Bool, true, false}
use mathlib.Core.List.{List, [], ◌∷◌, ◌++◌, append_assoc, append-nil}
use Prim.Native.Nat.{ℕ, ◌+◌}
use native.Mathlib.Omega.{arith}
use lib.Dec.{eqb, leb}
use borrow.Author.Tests.{ne_eqb, eqb-true}
use Rattle.model.specs.declared.LaneKey.{LaneKey}
use Rattle.model.specs.declared.LaneId.{LaneId}
use Rattle.model.specs.declared.Opening.{Opening}
use Rattle.model.specs.declared.ReceiveCall.{ReceiveCall}
use Rattle.model.specs.declared.ReceiveCall.TheVariants.{TryRecvFrom}
use Rattle.model.specs.declared.Call.{Call}
use Rattle.model.specs.declared.Call.TheVariants.{Receive}
use Rattle.model.specs.declared.Refusal.{Refusal}
use Rattle.model.specs.declared.Answer.{Answer}
use Rattle.model.specs.declared.ReceiveCall.TheVariants.{TryRecvBatchIntoWhile}
use Rattle.model.specs.declared.Answer.TheVariants.{Done, Stopped, Refused}
use Rattle.model.specs.Lists.{if, both, either, without}
use Rattle.model.specs.State.{Slot, State, vacant, may_queue, key_of, sender_lives, has_lane, ring_of}
use Rattle.model.specs.Changes.{with_queue, put, new_lane, signalled, pushed, sender_dropped, popped, with_paused, credited, retired}
use Rattle.model.specs.Turn.{retire_lane, unreleased_after_one, give_item}
use Rattle.model.specs.Outcome.{unless, says}
use Rattle.model.specs.Runs.{same_key, accepted, Tick, gives, ends, trace, count_ticks, Lent}
use Rattle.model.specs.Receive.{queue_lane_if}
use Rattle.model.specs.Opening.{opened_state, opening_outcome}
use Rattle.model.specs.Rules.{the_rules}
use Rattle.model.specs.Order.{Ordered}
use Rattle.model.specs.Demand2.{out_of, into, shuts, values, Demand2In, Demand2}
use Rattle.demands.proofs.Counting.{Same, equal, other, same?, self, no, both_true}
use Rattle.demands.proofs.OrderKept.{front_registered}
use Rattle.demands.proofs.Quiet.{Quiet, stays, goes, Quietly, trans, poll, poll_quiet, poll_ordered, release_all_quiet, settle_empty_quiet}
use Rattle.demands.proofs.Moves.{Moves, stays_put, credits, registers_new, registers_old, sends, posts, drops_it, pauses_it, resumes, resumes_not, closes_it, polls_all, shuts_it, takes, stops, halts, aims, aims_none, Chain, stay, move, trace_chain}
use Rattle.demands.proofs.StopLaws.{halts_quiet}
use Rattle.demands.proofs.Opened.{opened_ordered}
use Rattle.demands.proofs.MovesKeepOrder.{has_lane_parts, unissued, move_ordered}
use Rattle.demands.proofs.LedgerLaws.{alike, unlike, keys?}

-- what a slot's ring is to a key of generation g
unfoldable pub ring_in : Slot → ℕ → List ℕ
ring_in l g = if (both l.registered (eqb l.generation g)) l.ring []

pub ring_at : (s : State) (k : LaneKey) → ring_of s k ≡ ring_in (s.slot_of k.slot) k.generation
unfolding ring_of has_lane ring_in
ring_at s k = refl

ring_own : (l : Slot) (g : ℕ) → l.registered ≡ true → l.generation ≡ g → ring_in l g ≡ l.ring
unfolding ring_in
ring_own l g r e = rw (r, e, self g)

ring_none : (l : Slot) (g : ℕ) → l.registered ≡ false → ring_in l g ≡ []
unfolding ring_in
ring_none l g r = rw r

ring_not : (l : Slot) (g : ℕ) → l.generation ≢ g → ring_in l g ≡ []
unfolding ring_in
ring_not l g d = rw (ne_eqb l.generation g d) (go l.registered)
  where
    go : (b : Bool) → if (both b false) l.ring [] ≡ []
    go true = refl
    go false = refl

ring_same : (l m : Slot) (g : ℕ) → m.registered ≡ l.registered → m.generation ≡ l.generation → m.ring ≡ l.ring → ring_in m g ≡ ring_in l g
unfolding ring_in
ring_same l m g r e i = rw (r, e, i)

empty_ring : (l : Slot) (g : ℕ) → l.ring ≡ [] → ring_in l g ≡ []
unfolding ring_in
empty_ring l g e = go (both l.registered (eqb l.generation g))
  where
    go : (b : Bool) → if b l.ring [] ≡ []
    go true = e
    go false = refl

ring_quiet_in : (l m : Slot) (g : ℕ) → Quiet l m → ring_in m g ≡ ring_in l g
ring_quiet_in l m g (stays a) = ring_same l m g a.registers a.generations a.rings
ring_quiet_in l m g (goes e r h) = ring_none m g r ∙ sym (empty_ring l g e)

ring_quiet : (s u : State) (k : LaneKey) → Quietly s u → ring_of u k ≡ ring_of s k
ring_quiet s u k q = ring_at u k ∙ ring_quiet_in (s.slot_of k.slot) (u.slot_of k.slot) k.generation (q.each k.slot) ∙ sym (ring_at s k)

-- one slot changes
ring_put : (s u : State) (x : ℕ) (m : Slot) (k : LaneKey) → ((y : ℕ) → u.slot_of y ≡ if (eqb x y) m (s.slot_of y)) → ((g : ℕ) → ring_in m g ≡ ring_in (s.slot_of x) g) → ring_of u k ≡ ring_of s k
ring_put s u x m k e h = ring_at u k ∙ ap (λ (l : Slot). ring_in l k.generation) (e k.slot) ∙ go (same? x k.slot) ∙ sym (ring_at s k)
  where
    go : Same x k.slot → ring_in (if (eqb x k.slot) m (s.slot_of k.slot)) k.generation ≡ ring_in (s.slot_of k.slot) k.generation
    go (equal p b i) = rw (b, ← p) (h k.generation)
    go (other d b i) = rw b

-- lane x, of key j, changes its ring
data Rings (s u : State) (x : ℕ) (m : Slot) (j k : LaneKey) : Type 0 where
  of_it : j ≡ k → same_key j k ≡ true → ring_of s k ≡ (s.slot_of x).ring → ring_of u k ≡ m.ring → Rings s u x m j k
  of_others : same_key j k ≡ false → ring_of u k ≡ ring_of s k → Rings s u x m j k

rings : (s u : State) (x : ℕ) (m : Slot) (j k : LaneKey) → ((y : ℕ) → u.slot_of y ≡ if (eqb x y) m (s.slot_of y)) → x ≡ j.slot → (s.slot_of x).registered ≡ true → (s.slot_of x).generation ≡ j.generation
    → m.registered ≡ true → m.generation ≡ j.generation → Rings s u x m j k
rings s u x m j k e p r g a b = elim (keys? j k) [
  | alike q f ↦
      let x_k : x ≡ k.slot = p ∙ ap (λ (i : LaneKey). i.slot) q in
      let g_k : j.generation ≡ k.generation = ap (λ (i : LaneKey). i.generation) q in
      of_it q f (ring_at s k ∙ ap (λ (z : ℕ). ring_in (s.slot_of z) k.generation) (sym x_k) ∙ ring_own (s.slot_of x) k.generation r (g ∙ g_k))
      (ring_at u k ∙ ap (λ (z : ℕ). ring_in (u.slot_of z) k.generation) (sym x_k) ∙ ap (λ (l : Slot). ring_in l k.generation) (e x ∙ rw (self x)) ∙ ring_own m k.generation a (b ∙ g_k))
  | unlike d f ↦ of_others f (elim (same? x k.slot) [
    | equal q c i ↦
        let n : j.generation ≢ k.generation = λ z. d (λ t. record { slot = (sym p ∙ q) t; generation = z t }) in
        ring_at u k ∙ ap (λ (z : ℕ). ring_in (u.slot_of z) k.generation) (sym q) ∙ ap (λ (l : Slot). ring_in l k.generation) (e x ∙ rw (self x)) ∙ ring_not m k.generation (λ z. n (sym b ∙ z))
        ∙ sym (ring_at s k ∙ ap (λ (z : ℕ). ring_in (s.slot_of z) k.generation) (sym q) ∙ ring_not (s.slot_of x) k.generation (λ z. n (sym g ∙ z)))
    | other q c i ↦ ring_at u k ∙ ap (λ (l : Slot). ring_in l k.generation) (e k.slot ∙ rw c) ∙ sym (ring_at s k)
  ])
]

unfoldable pub Kept : LaneKey → State → Tick → State → Type 0
Kept k s t u = out_of k t ++ ring_of u k ≡ ring_of s k ++ into k t

kept_quiet : (k : LaneKey) (s u : State) (c : Call) (a : Answer) → into k (ends c a) ≡ [] → ring_of u k ≡ ring_of s k → Kept k s (ends c a) u
unfolding Kept out_of
kept_quiet k s u c a e h = rw (e, append-nil) h

kept_give : (k j : LaneKey) (s u : State) (x v : ℕ) (vs : List ℕ) (m : Slot) (r : ReceiveCall) → (s.slot_of x).ring ≡ v ∷ vs → m.ring ≡ vs → Rings s u x m j k → Kept k s (gives r j v) u
unfolding Kept out_of into
kept_give k j s u x v vs m r e f (of_it q c a b) = rw (c, a, b, e, f, append-nil)
kept_give k j s u x v vs m r e f (of_others c a) = rw (c, append-nil) a

kept_send : (k j : LaneKey) (s u : State) (x v : ℕ) (m : Slot) → m.ring ≡ (s.slot_of x).ring ++ (v ∷ []) → Rings s u x m j k → ring_of u k ≡ ring_of s k ++ if (same_key j k) (v ∷ []) []
kept_send k j s u x v m e (of_it q c a b) = rw (c, a, b, e)
kept_send k j s u x v m e (of_others c a) = rw (c, append-nil) a

pub sender_parts : (s : State) (k : LaneKey) → sender_lives s k ≡ true → ((s.slot_of k.slot).living ≡ true) × ((s.slot_of k.slot).generation ≡ k.generation)
unfolding sender_lives
sender_parts s k e =
    let r = both_true (s.slot_of k.slot).living (eqb (s.slot_of k.slot).generation k.generation) e in
    (r.0, eqb-true _ _ r.1)

pub queue_lane_slot : (b : Bool) (x : ℕ) (s : State) (y : ℕ) → (queue_lane_if b x s).slot_of y ≡ if (eqb x y) ((queue_lane_if b x s).slot_of x) (s.slot_of y)
unfolding queue_lane_if
queue_lane_slot true x s y = elim (same? x y) [ equal p e i ↦ rw (e, self x) | other d e i ↦ rw e ]
queue_lane_slot false x s y = elim (same? x y) [ equal p e i ↦ rw (e, p) | other d e i ↦ rw e ]

pub queue_lane_parts : (b : Bool) (x : ℕ) (s : State) → (((queue_lane_if b x s).slot_of x).registered ≡ (s.slot_of x).registered) × (((queue_lane_if b x s).slot_of x).generation ≡ (s.slot_of x).generation) × (((queue_lane_if b x s).slot_of x).ring ≡ (s.slot_of x).ring)
unfolding queue_lane_if
queue_lane_parts true x s = (rw (self x), rw (self x), rw (self x))
queue_lane_parts false x s = (refl, refl, refl)

-- a closed lane: its own key is not asked about
closed : (s : State) (i : LaneId) (k : LaneKey) → has_lane s i.key ≡ true → same_key i.key k ≡ false → ring_of (retire_lane i.key.slot (with_queue (without i.key.slot s.queue) s)) k ≡ ring_of s k
unfolding retire_lane
closed s i k c z =
    let x = i.key.slot in
    let p = has_lane_parts s i.key c in
    elim (same? x k.slot) [
      | equal q b j ↦
          ring_at _ k ∙ ap (λ (l : Slot). ring_in l k.generation) (rw b) ∙ ring_none (retired (s.slot_of x)) k.generation refl
          ∙ sym (ring_at s k ∙ ap (λ (y : ℕ). ring_in (s.slot_of y) k.generation) (sym q) ∙ ring_not (s.slot_of x) k.generation (λ g. differ q (sym p.1 ∙ g)))
      | other d b j ↦ ring_at _ k ∙ ap (λ (l : Slot). ring_in l k.generation) (rw b) ∙ sym (ring_at s k)
    ]
  where
    differ : i.key.slot ≡ k.slot → i.key.generation ≡ k.generation → ⊥
    differ p q = elim (keys? i.key k) [ alike r e ↦ no e z | unlike d e ↦ d (λ t. record { slot = p t; generation = q t }) ]

pub give_item_slot : (p : State) (y : ℕ) (q vs : List ℕ) (back : Bool) (z : ℕ) → (give_item p y q vs back).slot_of z ≡ if (eqb y z) (popped vs (unreleased_after_one p y) (if back 0 ((p.slot_of y).burst + 1)) (p.slot_of y)) (p.slot_of z)
unfolding give_item
give_item_slot p y q vs back z = refl

pub move_kept : (k : LaneKey) {s u : State} {t : Tick} → Ordered s → shuts k t ≡ false → Moves s t u → Kept k s t u
unfolding Kept out_of into shuts accepted
move_kept k o z (stays_put s c a h) = kept_quiet k s s c a (h.sends_none k) refl
move_kept k o z (credits s c a h) = kept_quiet k s _ c a (h.sends_none k) (ring_quiet s _ k (release_all_quiet s))
move_kept k o z (registers_new s m lt) = rw append-nil (ring_put s _ s.issued (new_lane s.first_generation (s.slot_of s.issued)) k (λ y. refl) (λ g. empty_ring (new_lane s.first_generation (s.slot_of s.issued)) g refl ∙ sym (ring_none (s.slot_of s.issued) g (unissued s o))))
move_kept k o z (registers_old s m x i l) = rw append-nil (ring_put s _ x (new_lane ((s.slot_of x).generation + 1) (s.slot_of x)) k (λ y. refl)
    (λ g. empty_ring (new_lane ((s.slot_of x).generation + 1) (s.slot_of x)) g refl ∙ sym (ring_none (s.slot_of x) g ((o.each_slot x).free_unregistered i))))
move_kept k o z (sends s j v w free a r nf) =
    let g = sender_parts s j a in
    kept_send k j s _ j.slot v (signalled (pushed v (s.slot_of j.slot))) refl (rings s _ j.slot _ j k (λ y. refl) refl r g.1 r g.1)
move_kept k o z (posts s j v w free a r nf) =
    let g = sender_parts s j a in
    kept_send k j s _ j.slot v (pushed v (s.slot_of j.slot)) refl (rings s _ j.slot _ j k (λ y. refl) refl r g.1 r g.1)
move_kept k o z (drops_it s j a) = rw append-nil (ring_put s _ j.slot (signalled (sender_dropped (s.slot_of j.slot))) k (λ y. refl) (λ g. ring_same (s.slot_of j.slot) _ g refl refl refl))
move_kept k o z (pauses_it s i c) = rw append-nil (ring_put s _ i.key.slot (with_paused true (credited (s.slot_of i.key.slot))) k (λ y. refl) (λ g. ring_same (s.slot_of i.key.slot) _ g refl refl refl))
move_kept k o z (resumes s i c p) = rw append-nil (ring_put s _ i.key.slot (signalled (with_paused false (s.slot_of i.key.slot))) k (λ y. refl) (λ g. ring_same (s.slot_of i.key.slot) _ g refl refl refl))
move_kept k o z (resumes_not s i c p) = rw append-nil
move_kept k o z (closes_it s i c) = rw append-nil (closed s i k c z)
move_kept k o z (polls_all s) = rw append-nil (ring_at _ k ∙ sym (ring_at s k))
move_kept k o z (shuts_it s) = rw append-nil (ring_at _ k ∙ sym (ring_at s k))
move_kept k o z (takes f r s y v q vs h e g) =
    let p = poll f s in
    let back = either f (leb 63 (p.slot_of y).burst) in
    let m = popped vs (unreleased_after_one p y) (if back 0 ((p.slot_of y).burst + 1)) (p.slot_of y) in
    let w : Kept k p (gives r (key_of p y) v) (give_item p y q vs back) =
    kept_give k (key_of p y) p (give_item p y q vs back) y v vs m r g refl (rings p (give_item p y q vs back) y m (key_of p y) k (give_item_slot p y q vs back) refl (front_registered p y q e (poll_ordered f s o)) refl (front_registered p y q e (poll_ordered f s o)) refl) in
    w ∙ ap (λ (l : List ℕ). l ++ []) (ring_quiet s p k (poll_quiet f s))
move_kept k o z (stops f r s u a h e q n m) = kept_quiet k s u (Receive r) a refl (ring_quiet s u k (trans (poll_quiet f s) q))
move_kept k o z (halts s m b n j y q e h) = kept_quiet k s _ (Receive (TryRecvBatchIntoWhile m b n)) (Stopped j) refl (ring_quiet s _ k (halts_quiet s))
move_kept k o z (aims s i v vs c g) =
    let x = i.key.slot in
    let r = has_lane_parts s i.key c in
    let m = popped vs (unreleased_after_one s x) (s.slot_of x).burst (s.slot_of x) in
    let t = put x m s in
    let u = queue_lane_if (may_queue s x) x t in
    let b = queue_lane_parts (may_queue s x) x t in
    let at_x : t.slot_of x ≡ m = rw (self x) in
    kept_give k (key_of s x) s u x v vs (u.slot_of x) (TryRecvFrom i) g (b.2 ∙ ap (λ (l : Slot). l.ring) at_x)
    (rings s u x (u.slot_of x) (key_of s x) k (λ y. queue_lane_slot (may_queue s x) x t y ∙ again_put x m s (u.slot_of x) y) refl r.0 refl (b.0 ∙ ap (λ (l : Slot). l.registered) at_x ∙ r.0) (b.1 ∙ ap (λ (l : Slot). l.generation) at_x))
  where
    again_put : (x : ℕ) (m : Slot) (s : State) (l : Slot) (y : ℕ) → if (eqb x y) l ((put x m s).slot_of y) ≡ if (eqb x y) l (s.slot_of y)
    again_put x m s l y = elim (same? x y) [ equal p e i ↦ rw e | other d e i ↦ rw e ]
move_kept k o z (aims_none s i a c g h) = kept_quiet k s _ (Receive (TryRecvFrom i)) a refl (ring_quiet s _ k (settle_empty_quiet i.key.slot _ s g))

-- over a run
first_none : (p : Tick → Bool) (t : Tick) (ts : List Tick) → count_ticks p (t ∷ ts) ≡ 0 → (p t ≡ false) × (count_ticks p ts ≡ 0)
unfolding count_ticks
first_none p t ts e = go (p t) refl
  where
    go : (b : Bool) → p t ≡ b → (b ≡ false) × (count_ticks p ts ≡ 0)
    go true f = absurd (omega (arith, rw f at e))
    go false f = (refl, omega (arith, rw f at e))

chain_kept : (k : LaneKey) {s u : State} {ts : List Tick} → Chain s ts u → Ordered s → count_ticks (shuts k) ts ≡ 0 → values (out_of k) ts ++ ring_of u k ≡ ring_of s k ++ values (into k) ts
unfolding values Kept
chain_kept k (stay s) o z = rw append-nil
chain_kept k (move {s = s} {u = u} {t = t} {ts = ts} m c) o z =
    let n = first_none (shuts k) t ts z in
    let w : out_of k t ++ ring_of u k ≡ ring_of s k ++ into k t = move_kept k o n.0 m in
    rw (append_assoc, chain_kept k c (move_ordered o m) n.1, ← append_assoc, w, append_assoc)

pub unless_state : (cs : List (Bool × Refusal)) (s : State) (r : Answer) → (unless cs s (says r s)).1.1 ≡ s
unfolding unless
unless_state [] s r = refl
unless_state (c ∷ cs) s r = go c.0 (unless_state cs s r)
  where
    go : (b : Bool) → (unless cs s (says r s)).1.1 ≡ s → (if b (says (Refused c.1) s) (unless cs s (says r s))).1.1 ≡ s
    go true h = refl
    go false h = h

pub opens_as : (o : Opening) (lent : Lent) → (opening_outcome o lent).1.1 ≡ opened_state o
unfolding opening_outcome
opens_as o lent = unless_state _ (opened_state o) Done

pub demand2 : Demand2 the_rules ring_of
unfolding Demand2 Demand2In opened_state vacant
demand2 o lent a calls t k z =
    let s = (opening_outcome o lent).1.1 in
    let c = chain_kept k (trace_chain s calls) (rw (opens_as o lent) (opened_ordered o lent a)) z in
    c ∙ ap (λ (l : List ℕ). l ++ values (into k) (trace the_rules s calls)) (ap (λ (t : State). ring_of t k) (opens_as o lent) ∙ ring_at (opened_state o) k ∙ ring_none ((opened_state o).slot_of k.slot) k.generation (closed_slot o k.slot))
  where
    closed_slot : (o : Opening) (x : ℕ) → ((opened_state o).slot_of x).registered ≡ false
    closed_slot o x = refl
