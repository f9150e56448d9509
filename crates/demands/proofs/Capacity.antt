-- No ring holds more than the capacity, unreleased items counted; between calls the unreleased count is below the release batch. So refusal 11 is given exactly at the capacity.
-- Assumes nothing.
use mathlib.Core.Path.{◌≡◌, refl, ap, sym, ◌∙◌, subst}
use mathlib.Core.Logic.{◌≢◌}
use mathlib.Core.Bool.{Bool, true, false}
use mathlib.Core.List.{List, [], ◌∷◌, ◌++◌}
use Prim.Native.Nat.{ℕ, zero, suc, ◌+◌, ◌≤◌, ◌<◌}
use native.Mathlib.Omega.{arith}
use lib.ListN.{length, length-append}
use lib.Dec.{eqb, leb}
use borrow.Author.Tests.{leb-true, leb-false, eqb-false}
use Rattle.model.specs.declared.Opening.{Opening}
use Rattle.model.specs.Lists.{if, either, without}
use Rattle.model.specs.State.{Slot, State, vacant, may_queue, is_full, release_batch}
use Rattle.model.specs.Changes.{put, new_lane, signalled, pushed, sender_dropped, popped, with_paused, credited, retired}
use Rattle.model.specs.Turn.{retire_lane, unreleased_after_one, give_item}
use Rattle.model.specs.Runs.{Tick}
use Rattle.model.specs.Receive.{queue_lane_if}
use Rattle.model.specs.Opening.{doubled_until, opened_state}
use Rattle.model.specs.Order.{LaneFits, RingsFit}
use Rattle.demands.proofs.Counting.{no, Same, equal, other, same?, self}
use Rattle.demands.proofs.Quiet.{Quiet, stays, goes, Quietly, trans, poll, poll_quiet, release_all_quiet, settle_empty_quiet}
use Rattle.demands.proofs.Moves.{Moves, stays_put, credits, registers_new, registers_old, sends, posts, drops_it, pauses_it, resumes, resumes_not, closes_it, polls_all, shuts_it, takes, stops, halts, aims, aims_none}
use Rattle.demands.proofs.StopLaws.{halts_quiet}
use Rattle.demands.proofs.MovesKeepOrder.{has_lane_parts}
use Rattle.demands.proofs.Demand2.{give_item_slot, queue_lane_slot}
use Rattle.demands.proofs.LedgerAgrees.{retire_lane_slot, again_put}

batch_pos : (c : ℕ) → 1 ≤ c → 1 ≤ release_batch c
unfolding release_batch
batch_pos c h = omega arith

was_registered : {l m : Slot} → Quiet l m → m.registered ≡ true → l.registered ≡ true
was_registered (stays a) e = sym a.registers ∙ e
was_registered (goes a r g) e = absurd (no e r)

pub rings_fit_quiet : (s u : State) → Quietly s u → RingsFit s → RingsFit u
rings_fit_quiet s u q r = record {
  positive = omega (arith, r.positive, q.capacities);
  each_fits = λ y h. let f = r.each_fits y (was_registered (q.each y) h) in record {
    inside = omega (arith, f.inside, ap length (q.held_same y), q.credit y, q.capacities);
    below_batch = omega (arith, f.below_batch, q.credit y, ap release_batch q.capacities);
  };
}

rings_fit_put : (s u : State) (x : ℕ) (m : Slot) → ((y : ℕ) → u.slot_of y ≡ if (eqb x y) m (s.slot_of y)) → u.capacity ≡ s.capacity → (m.registered ≡ true → LaneFits s.capacity m) → RingsFit s → RingsFit u
rings_fit_put s u x m at c f r = record { positive = omega (arith, r.positive); each_fits = λ y h. subst (λ (n : ℕ). LaneFits n (u.slot_of y)) (sym c) (subst (λ (l : Slot). LaneFits s.capacity l) (sym (at y)) (go y (same? x y) (ap (λ (l : Slot). l.registered) (sym (at y)) ∙ h))) }
  where
    go : (y : ℕ) → Same x y → (if (eqb x y) m (s.slot_of y)).registered ≡ true → LaneFits s.capacity (if (eqb x y) m (s.slot_of y))
    go y (equal p e i) h = rw e (f (rw e at h))
    go y (other d e i) h = rw e (r.each_fits y (rw e at h))

fits_same : (c : ℕ) (l m : Slot) → m.ring ≡ l.ring → m.unreleased ≤ l.unreleased → LaneFits c l → LaneFits c m
fits_same c l m r u f = record { inside = omega (arith, f.inside, ap length r); below_batch = omega (arith, f.below_batch) }

fits_push : (s : State) (x v : ℕ) (m : Slot) → is_full s x ≡ false → m.ring ≡ (s.slot_of x).ring ++ (v ∷ []) → m.unreleased ≡ (s.slot_of x).unreleased → LaneFits s.capacity (s.slot_of x) → LaneFits s.capacity m
unfolding is_full
fits_push s x v m n r u f = record {
  inside = omega (arith, leb-false s.capacity (length (s.slot_of x).ring + (s.slot_of x).unreleased) n, ap length r, length-append (s.slot_of x).ring (v ∷ []));
  below_batch = omega (arith, f.below_batch);
}

fits_pop : (s : State) (x v : ℕ) (vs : List ℕ) (m : Slot) → 1 ≤ s.capacity → (s.slot_of x).ring ≡ v ∷ vs → m.ring ≡ vs → m.unreleased ≡ unreleased_after_one s x → LaneFits s.capacity (s.slot_of x) → LaneFits s.capacity m
unfolding unreleased_after_one
fits_pop s x v vs m p r e u f = go (eqb ((s.slot_of x).unreleased + 1) (release_batch s.capacity)) refl u
  where
    go : (b : Bool) → eqb ((s.slot_of x).unreleased + 1) (release_batch s.capacity) ≡ b → m.unreleased ≡ if b 0 ((s.slot_of x).unreleased + 1) → LaneFits s.capacity m
    go true q w = record { inside = omega (arith, f.inside, ap length r, ap length e); below_batch = omega (arith, batch_pos s.capacity p) }
    go false q w = record { inside = omega (arith, f.inside, ap length r, ap length e); below_batch = omega (arith, f.below_batch, not_equal (eqb-false _ _ q)) }
      where
        not_equal : (s.slot_of x).unreleased + 1 ≢ release_batch s.capacity → (s.slot_of x).unreleased + 1 < release_batch s.capacity
        not_equal d = elim (same? ((s.slot_of x).unreleased + 1) (release_batch s.capacity)) [ equal a b i ↦ absurd (d a) | other a b i ↦ omega (arith, f.below_batch) ]

new_lane_fits : (c g : ℕ) (l : Slot) → 1 ≤ c → LaneFits c (new_lane g l)
new_lane_fits c g l h = record { inside = omega arith; below_batch = omega (arith, batch_pos c h) }

pub queue_lane_room : (b : Bool) (x : ℕ) (s : State) → (((queue_lane_if b x s).slot_of x).ring ≡ (s.slot_of x).ring) × (((queue_lane_if b x s).slot_of x).unreleased ≡ (s.slot_of x).unreleased) × ((queue_lane_if b x s).capacity ≡ s.capacity)
unfolding queue_lane_if
queue_lane_room true x s = (rw (self x), rw (self x), refl)
queue_lane_room false x s = (refl, refl, refl)

pub credited_less : (l : Slot) → (credited l).unreleased ≤ l.unreleased
credited_less l = less l.registered l.unreleased
  where
    less : (b : Bool) (n : ℕ) → if b 0 n ≤ n
    less true n = omega arith
    less false n = omega arith

pub retire_lane_capacity : (x : ℕ) (s : State) → (retire_lane x s).capacity ≡ s.capacity
unfolding retire_lane
retire_lane_capacity x s = refl

pub give_item_capacity : (p : State) (y : ℕ) (q vs : List ℕ) (back : Bool) → (give_item p y q vs back).capacity ≡ p.capacity
unfolding give_item
give_item_capacity p y q vs back = refl

pub move_rings_fit : {s u : State} {t : Tick} → RingsFit s → Moves s t u → RingsFit u
move_rings_fit r (stays_put s c a h) = r
move_rings_fit r (credits s c a h) = rings_fit_quiet s _ (release_all_quiet s) r
move_rings_fit r (registers_new s m lt) = rings_fit_put s _ s.issued _ (λ y. refl) refl (λ h. new_lane_fits s.capacity s.first_generation (s.slot_of s.issued) r.positive) r
move_rings_fit r (registers_old s m x i l) = rings_fit_put s _ x _ (λ y. refl) refl (λ h. new_lane_fits s.capacity ((s.slot_of x).generation + 1) (s.slot_of x) r.positive) r
move_rings_fit r (sends s k v w free a g nf) = rings_fit_put s _ k.slot _ (λ y. refl) refl (λ h. fits_push s k.slot v (signalled (pushed v (s.slot_of k.slot))) nf refl refl (r.each_fits k.slot h)) r
move_rings_fit r (posts s k v w free a g nf) = rings_fit_put s _ k.slot _ (λ y. refl) refl (λ h. fits_push s k.slot v (pushed v (s.slot_of k.slot)) nf refl refl (r.each_fits k.slot h)) r
move_rings_fit r (drops_it s k a) = rings_fit_put s _ k.slot _ (λ y. refl) refl (λ h. fits_same s.capacity (s.slot_of k.slot) (signalled (sender_dropped (s.slot_of k.slot))) refl (omega arith) (r.each_fits k.slot h)) r
move_rings_fit r (pauses_it s i c) =
    let l = s.slot_of i.key.slot in rings_fit_put s _ i.key.slot _ (λ y. refl) refl (λ h. fits_same s.capacity l (with_paused true (credited l)) refl (credited_less l) (r.each_fits i.key.slot h)) r
move_rings_fit r (resumes s i c p) =
    let l = s.slot_of i.key.slot in rings_fit_put s _ i.key.slot _ (λ y. refl) refl (λ h. fits_same s.capacity l (signalled (with_paused false l)) refl (omega arith) (r.each_fits i.key.slot h)) r
move_rings_fit r (resumes_not s i c p) = r
move_rings_fit r (closes_it s i c) =
    let l = s.slot_of i.key.slot in
    rings_fit_put s _ i.key.slot (retired l) (retire_lane_slot i.key.slot s _) (retire_lane_capacity _ _) (λ h. absurd (no h refl)) r
move_rings_fit r (polls_all s) = record { positive = r.positive; each_fits = r.each_fits }
move_rings_fit r (shuts_it s) = record { positive = r.positive; each_fits = r.each_fits }
move_rings_fit r (takes f w s y v q vs h e g) =
    let p = poll f s in
    let b = either f (leb 63 (p.slot_of y).burst) in
    let m = rings_fit_quiet s p (poll_quiet f s) r in
    let n = popped vs (unreleased_after_one p y) (if b 0 ((p.slot_of y).burst + 1)) (p.slot_of y) in
    rings_fit_put p (give_item p y q vs b) y n (give_item_slot p y q vs b) (give_item_capacity p y q vs b) (λ h. fits_pop p y v vs n m.positive g refl refl (m.each_fits y h)) m
move_rings_fit r (stops f w s u a h e q k n) = rings_fit_quiet s u (trans (poll_quiet f s) q) r
move_rings_fit r (halts s m b n j y q e h) = rings_fit_quiet s _ (halts_quiet s) r
move_rings_fit r (aims s i v vs c g) =
    let x = i.key.slot in
    let n = popped vs (unreleased_after_one s x) (s.slot_of x).burst (s.slot_of x) in
    let t = put x n s in
    let u = queue_lane_if (may_queue s x) x t in
    let b = queue_lane_room (may_queue s x) x t in
    let at_x : t.slot_of x ≡ n = rw (self x) in
    rings_fit_put s u x (u.slot_of x) (λ y. queue_lane_slot (may_queue s x) x t y ∙ again_put x n s (u.slot_of x) y) b.2
    (λ h. fits_pop s x v vs (u.slot_of x) r.positive g (b.0 ∙ ap (λ (l : Slot). l.ring) at_x) (b.1 ∙ ap (λ (l : Slot). l.unreleased) at_x) (r.each_fits x (has_lane_parts s i.key c).0)) r
move_rings_fit r (aims_none s i a c g h) = rings_fit_quiet s _ (settle_empty_quiet i.key.slot (without i.key.slot s.queue) s g) r

doubled_pos : (n p c : ℕ) → 1 ≤ p → 1 ≤ doubled_until n p c
unfolding doubled_until
doubled_pos zero p c h = h
doubled_pos (suc n) p c h = go (leb c p) (doubled_pos n (p + p) c (omega arith))
  where
    go : (b : Bool) → 1 ≤ doubled_until n (p + p) c → 1 ≤ if b p (doubled_until n (p + p) c)
    go true k = h
    go false k = k

pub opened_rings_fit : (o : Opening) → RingsFit (opened_state o)
unfolding opened_state vacant
opened_rings_fit o =
    let c = doubled_pos 16 1 o.capacity (omega arith) in
    record { positive = c; each_fits = λ y h. record { inside = omega (arith, c); below_batch = omega (arith, batch_pos (doubled_until 16 1 o.capacity) c) } }

-- refusal 11 is given exactly at the capacity
pub full_exactly : (s : State) (x : ℕ) → RingsFit s → (s.slot_of x).registered ≡ true → is_full s x ≡ true → length (s.slot_of x).ring + (s.slot_of x).unreleased ≡ s.capacity
unfolding is_full
full_exactly s x r h e = omega (arith, leb-true s.capacity (length (s.slot_of x).ring + (s.slot_of x).unreleased) e, (r.each_fits x h).inside)
