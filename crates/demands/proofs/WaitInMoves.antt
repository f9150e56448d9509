-- Every move while lane x waits: the wait falls with each item of another lane, and rises with nothing.
-- Assumes nothing.
use mathlib.Core.Path.{◌≡◌, refl, ap, sym, ◌∙◌, subst}
use mathlib.Core.Logic.{◌≢◌}
use mathlib.Core.Bool.{Bool, true, false, not}
use mathlib.Core.List.{List, [], ◌∷◌, ◌++◌}
use Prim.Native.Nat.{ℕ, ◌+◌, ◌≤◌}
use native.Mathlib.Omega.{arith}
use lib.ListN.{length, length-append}
use lib.Dec.{eqb, leb}
use borrow.Author.Tests.{ne_eqb}
use Rattle.model.specs.declared.LaneKey.{LaneKey}
use Rattle.model.specs.declared.ReceiveCall.{ReceiveCall}
use Rattle.model.specs.Lists.{if, either, count, keep, from, without}
use Rattle.model.specs.State.{Slot, State, may_queue, key_of}
use Rattle.model.specs.Changes.{with_queue, put, signalled, pushed, sender_dropped, popped, with_paused, retired}
use Rattle.model.specs.Ready.{group_of}
use Rattle.model.specs.Turn.{retire_lane, settle_empty, unreleased_after_one, give_item}
use Rattle.model.specs.Runs.{same_key, accepted, Tick, gives}
use Rattle.model.specs.Receive.{release_all, halted, queue_lane_if}
use Rattle.model.specs.Stretch.{ends_wait, ends_stretch, untargeted}
use Rattle.demands.proofs.Counting.{Same, equal, other, same?, self, no, count_append, keep_in, without_own, without_other, from_in}
use Rattle.demands.proofs.OrderKept.{last_other, back_room, settle_empty_queue}
use Rattle.demands.proofs.Quiet.{Hold, hold_quiet, release_all_quiet, poll, settle_empty_quiet}
use Rattle.demands.proofs.Ahead.{live, share, ahead, live_ring, live_living, share_live, share_most, ahead_append, ahead_without, ahead_le, Few, before, before_append, before_without, away}
use Rattle.demands.proofs.WaitInReceive.{Wait, in_queue, in_marks, On, Polled, polled_to, poll_on, halted_on, give_item_on, queued_most, settle_empty_other, settle_empty_budget, settle_empty_cursor}
use Rattle.demands.proofs.Moves.{How, by_plain, by_batch, by_while, by_fair, Moves, stays_put, credits, registers_new, registers_old, sends, posts, drops_it, pauses_it, resumes, resumes_not, closes_it, polls_all, shuts_it, takes, stops, halts, aims, aims_none}
use Rattle.demands.proofs.MovesKeepOrder.{has_lane_parts, unissued, move_ordered, unqueued_of}
use Rattle.demands.proofs.LedgerLaws.{alike, unlike, keys?}
use Rattle.demands.proofs.Demand2.{sender_parts, queue_lane_slot, give_item_slot}
use Rattle.demands.proofs.LedgerAgrees.{key_path, retire_lane_slot}

-- how a queue may change before lane x
pub record Shrinks (x : ℕ) (q r : List ℕ) : Type 0 where
  pub stays_in : 1 ≤ count x q → 1 ≤ count x r
  pub ahead_less : 1 ≤ count x q → (f : ℕ → Slot) → ahead f r x ≤ ahead f q x
  pub before_less : 1 ≤ count x q → (y : ℕ) → before y r x ≤ before y q x

pub shrinks_same : (x : ℕ) (q : List ℕ) → Shrinks x q q
shrinks_same x q = record { stays_in = λ c. c; ahead_less = λ c f. omega arith; before_less = λ c y. omega arith }

pub shrinks_append : (x : ℕ) (q r : List ℕ) → Shrinks x q (q ++ r)
shrinks_append x q r = record { stays_in = λ c. omega (arith, count_append x q r); ahead_less = λ c f. omega (arith, ahead_append f q r x c); before_less = λ c y. omega (arith, before_append y q r x c) }

pub shrinks_without : (x y : ℕ) (q : List ℕ) → x ≢ y → Shrinks x q (without y q)
shrinks_without x y q d = record { stays_in = λ c. omega (arith, without_other y x q (λ p. d (sym p))); ahead_less = λ c f. ahead_without f y q x d; before_less = λ c z. before_without z y q x d }

pub hold_at : {x g : ℕ} (s u : State) → u.slot_of x ≡ s.slot_of x → Hold x g s → Hold x g u
hold_at s u e h = record {
  is_registered = ap (λ (l : Slot). l.registered) e ∙ h.is_registered;
  is_generation = ap (λ (l : Slot). l.generation) e ∙ h.is_generation;
  is_unpaused = ap (λ (l : Slot). l.paused) e ∙ h.is_unpaused;
  is_pending = ap (λ (l : Slot). l.pending) e ∙ h.is_pending;
  some_item = omega (arith, h.some_item, ap (λ (l : Slot). length l.ring) e);
}

-- slot y changes
wait_put : {E R x k : ℕ} (s u : State) (y : ℕ) (m : Slot) → ((z : ℕ) → u.slot_of z ≡ if (eqb y z) m (s.slot_of z)) → u.budget ≡ s.budget → u.cursor ≡ s.cursor
    → (x ≡ y → (s.slot_of x).marked ≡ true → m.marked ≡ true) → (x ≢ y → 1 ≤ count y u.queue → share m ≤ share (s.slot_of y))
    → Shrinks x s.queue u.queue → (count x s.queue ≡ 0 → count x u.queue ≡ 0) → Wait E R x k s → Wait E R x k u
wait_put {E} {R} {x} {k} s u y m at b c mm sm q z (in_queue i a) =
    in_queue (q.stays_in i) (omega (arith, q.ahead_less i s.slot_of, ahead_le s.slot_of u.slot_of u.queue x (λ w d n. less w d n (same? y w))))
  where
    less : (w : ℕ) → x ≢ w → 1 ≤ count w u.queue → Same y w → share (u.slot_of w) ≤ share (s.slot_of w)
    less w d n (equal p e j) =
        let o : u.slot_of w ≡ m = at w ∙ rw e in
        omega (arith, ap share o, ap (λ (v : ℕ). share (s.slot_of v)) p, sm (λ r. d (r ∙ p)) (omega (arith, n, ap (λ (v : ℕ). count v u.queue) p)))
    less w d n (other r e j) =
        let o : u.slot_of w ≡ s.slot_of w = at w ∙ rw e in
        omega (arith, ap share o)
wait_put {E} {R} {x} {k} s u y m at b c mm sm q z (in_marks i t a) =
    in_marks (z i) (mark (same? y x)) (omega (arith, ap (λ (v : ℕ). away E v (group_of x)) c))
  where
    mark : Same y x → (u.slot_of x).marked ≡ true
    mark (equal p e j) = (let o : u.slot_of x ≡ m = at x ∙ rw e in ap (λ (l : Slot). l.marked) o ∙ mm (sym p) t)
    mark (other d e j) = (let o : u.slot_of x ≡ s.slot_of x = at x ∙ rw e in ap (λ (l : Slot). l.marked) o ∙ t)

-- the signal of a marked lane leaves it marked
either_true : (a b : Bool) → b ≡ true → either a b ≡ true
either_true true b e = refl
either_true false b e = e

-- live lanes stay as live as they were, or less
share_same : (l m : Slot) → m.burst ≡ l.burst → live m ≡ live l → share m ≤ share l
share_same l m b e = rw (b, e) (omega arith)

share_less : (l m : Slot) → m.burst ≡ l.burst → live l ≡ true → share m ≤ share l
share_less l m b e = omega (arith, share_most m, share_live l e)

may_queue_intro : (s : State) (y : ℕ) → (s.slot_of y).registered ≡ true → (s.slot_of y).paused ≡ false → count y s.queue ≡ 0 → may_queue s y ≡ true
unfolding may_queue
may_queue_intro s y r p z = rw (r, p, z)

pub retire_lane_queue : (x : ℕ) (s : State) → (retire_lane x s).queue ≡ s.queue
unfolding retire_lane
retire_lane_queue x s = refl

retire_lane_budget : (x : ℕ) (s : State) → (retire_lane x s).budget ≡ s.budget
unfolding retire_lane
retire_lane_budget x s = refl

retire_lane_cursor : (x : ℕ) (s : State) → (retire_lane x s).cursor ≡ s.cursor
unfolding retire_lane
retire_lane_cursor x s = refl

one_item : {b : Bool} {r : ReceiveCall} (j : LaneKey) (v : ℕ) → How b r → if {A = ℕ} (untargeted (gives r j v)) 1 0 ≡ 1
unfolding untargeted
one_item j v by_plain = refl
one_item j v (by_batch m n) = refl
one_item j v (by_while m b n) = refl
one_item j v by_fair = refl

-- what is to be shown of a move
pub record Onward (E R : ℕ) (K : LaneKey) (c k : ℕ) (u : State) : Type 0 where
  pub rest : ℕ
  pub pays : c + rest ≤ k
  pub hold : Hold K.slot K.generation u
  pub wait : Wait E R K.slot rest u

-- the slot of a registered lane whose key is not K is not K's
pub not_own : (s : State) (K j : LaneKey) → Hold K.slot K.generation s → (s.slot_of j.slot).generation ≡ j.generation → same_key j K ≡ false → K.slot ≢ j.slot
not_own s K j h g f p = elim (keys? j K) [
  | alike q e ↦ no e f
  | unlike d e ↦ d (key_path j K (sym p) (sym g ∙ ap (λ (y : ℕ). (s.slot_of y).generation) (sym p) ∙ h.is_generation))
]

module _ (E R : ℕ) (K : LaneKey) where
  -- a slot that is not x's
  off : (s u : State) (k y : ℕ) (m : Slot) → K.slot ≢ y → ((z : ℕ) → u.slot_of z ≡ if (eqb y z) m (s.slot_of z)) → u.budget ≡ s.budget → u.cursor ≡ s.cursor
      → (1 ≤ count y u.queue → share m ≤ share (s.slot_of y)) → Shrinks K.slot s.queue u.queue → (count K.slot s.queue ≡ 0 → count K.slot u.queue ≡ 0) → On E R K.slot K.generation k s → Onward E R K 0 k u
  off s u k y m d at b c sm q z w =
      let e : u.slot_of K.slot ≡ s.slot_of K.slot = at K.slot ∙ rw (ne_eqb y K.slot (λ p. d (sym p))) in
      record { rest = k; pays = omega arith; hold = hold_at s u e w.hold; wait = wait_put s u y m at b c (λ p. absurd (d p)) (λ n. sm) q z w.wait }

  -- a sender's call at a lane y, x's own too
  at_sender : (s : State) (k y : ℕ) (m : Slot) → ((s.slot_of K.slot).marked ≡ true → K.slot ≡ y → m.marked ≡ true) → share m ≤ share (s.slot_of y) → (K.slot ≡ y → Hold K.slot K.generation s → Hold K.slot K.generation (put y m s))
      → On E R K.slot K.generation k s → Onward E R K 0 k (put y m s)
  at_sender s k y m mm sm hh w = record {
    rest = k;
    pays = omega arith;
    hold = elim (same? y K.slot) [
      | equal p e i ↦ hh (sym p) w.hold
      | other d e i ↦ (let o : (put y m s).slot_of K.slot ≡ s.slot_of K.slot = rw e in hold_at s (put y m s) o w.hold)
    ];
    wait = wait_put s (put y m s) y m (λ z. refl) refl refl (λ p e. mm e p) (λ d n. sm) (shrinks_same K.slot s.queue) (λ z. z) w.wait;
  }

  put_hold : (s : State) (y : ℕ) (m : Slot) → K.slot ≡ y → Hold K.slot K.generation s → m.registered ≡ (s.slot_of y).registered → m.generation ≡ (s.slot_of y).generation → m.paused ≡ (s.slot_of y).paused → m.pending ≡ true
      → length (s.slot_of y).ring ≤ length m.ring → Hold K.slot K.generation (put y m s)
  put_hold s y m p h r e q n l =
      let o : (put y m s).slot_of K.slot ≡ m = rw (p, self y) in
      record {
        is_registered = ap (λ (z : Slot). z.registered) o ∙ r ∙ ap (λ (z : ℕ). (s.slot_of z).registered) (sym p) ∙ h.is_registered;
        is_generation = ap (λ (z : Slot). z.generation) o ∙ e ∙ ap (λ (z : ℕ). (s.slot_of z).generation) (sym p) ∙ h.is_generation;
        is_unpaused = ap (λ (z : Slot). z.paused) o ∙ q ∙ ap (λ (z : ℕ). (s.slot_of z).paused) (sym p) ∙ h.is_unpaused;
        is_pending = ap (λ (z : Slot). z.pending) o ∙ n;
        some_item = omega (arith, h.some_item, ap (λ (z : ℕ). length (s.slot_of z).ring) p, ap (λ (z : Slot). length z.ring) o);
      }

  queue_lane_hold : (b : Bool) (y : ℕ) (s : State) → K.slot ≢ y → Hold K.slot K.generation s → Hold K.slot K.generation (queue_lane_if b y s)
  queue_lane_hold b y s d h = (let o : (queue_lane_if b y s).slot_of K.slot ≡ s.slot_of K.slot = queue_lane_slot b y s K.slot ∙ rw (ne_eqb y K.slot (λ p. d (sym p))) in hold_at s (queue_lane_if b y s) o h)

  queue_lane_wait : (b : Bool) {k : ℕ} (y : ℕ) (s : State) → K.slot ≢ y → Wait E R K.slot k s → Wait E R K.slot k (queue_lane_if b y s)
  unfolding queue_lane_if
  queue_lane_wait true y s d w =
      wait_put s _ y (signalled (s.slot_of y)) (λ z. refl) refl refl (λ p. absurd (d p)) (λ n c. share_same (s.slot_of y) (signalled (s.slot_of y)) refl refl) (shrinks_append K.slot s.queue (y ∷ [])) (λ z. last_other y K.slot s.queue (λ p. d (sym p)) ∙ z) w
  queue_lane_wait false y s d w = w

  settle_empty_wait : (s : State) (k y : ℕ) → K.slot ≢ y → On E R K.slot K.generation k s → Wait E R K.slot k (settle_empty y (without y s.queue) s)
  settle_empty_wait s k y d w =
      wait_put s (settle_empty y q s) y ((settle_empty y q s).slot_of y) (λ z. at z (same? y z)) (settle_empty_budget y q s) (settle_empty_cursor y q s) (λ p. absurd (d p))
      (λ n c. absurd (omega (arith, c, ap (count y) (settle_empty_queue y q s), without_own y s.queue)))
      (subst (λ (r : List ℕ). Shrinks K.slot s.queue r) (sym (settle_empty_queue y q s)) (shrinks_without K.slot y s.queue d))
      (λ z. ap (count K.slot) (settle_empty_queue y q s) ∙ without_other y K.slot s.queue (λ p. d (sym p)) ∙ z) w.wait
    where
      q : List ℕ
      q = without y s.queue

      at : (z : ℕ) → Same y z → (settle_empty y q s).slot_of z ≡ if (eqb y z) ((settle_empty y q s).slot_of y) (s.slot_of z)
      at z (equal p e i) = rw (e, p)
      at z (other n e i) = rw e (settle_empty_other y q s z n)

  -- every lane gives back its credit
  credited_on : (k : ℕ) (s : State) → On E R K.slot K.generation k s → Onward E R K 0 k (release_all s)
  unfolding release_all
  credited_on k s w = record { rest = k; pays = omega arith; hold = hold_quiet (release_all_quiet s) w.hold; wait = go w.wait }
    where
      go : Wait E R K.slot k s → Wait E R K.slot k (release_all s)
      go (in_queue i a) = in_queue i (omega (arith, ahead_le s.slot_of (release_all s).slot_of s.queue K.slot (λ y d c. omega arith)))
      go (in_marks z m a) = in_marks z m a

  pub move_on : {s u : State} {t : Tick} (k : ℕ) → On E R K.slot K.generation k s → Few R u.slot_of → Moves s t u → ends_stretch K t ≡ false → Onward E R K (if (untargeted t) 1 0) k u
  unfolding ends_stretch accepted ends_wait untargeted release_all
  move_on k w n (stays_put s c a h) f = record { rest = k; pays = omega arith; hold = w.hold; wait = w.wait }
  move_on k w n (credits s c a h) f = credited_on k s w
  move_on k w n (registers_new s m lt) f =
      let o = w.ord in
      off s _ k s.issued _ (λ p. omega (arith, (o.each_slot K.slot).registered_issued w.hold.is_registered, p)) (λ z. refl) refl refl
      (λ c. absurd (omega (arith, c, unqueued_of (o.each_slot s.issued) (unissued s o)))) (shrinks_same K.slot s.queue) (λ z. z) w
  move_on k w n (registers_old s m y i l) f =
      let o = w.ord in
      let v = (o.each_slot y).free_unregistered i in
      off s _ k y _ (λ p. no w.hold.is_registered (ap (λ (z : ℕ). (s.slot_of z).registered) p ∙ v)) (λ z. refl) refl refl
      (λ c. absurd (omega (arith, c, unqueued_of (o.each_slot y) v))) (shrinks_same K.slot s.queue) (λ z. z) w
  move_on k w n (sends s j v i free a r nf) f =
      let l = s.slot_of j.slot in
      at_sender s k j.slot (signalled (pushed v l)) (λ e p. either_true (not l.pending) l.marked (ap (λ (z : ℕ). (s.slot_of z).marked) (sym p) ∙ e))
      (share_less l (signalled (pushed v l)) refl (live_living l (sender_parts s j a).0))
      (λ p h. put_hold s j.slot _ p h refl refl refl refl (omega (arith, length-append l.ring (v ∷ [])))) w
  move_on k w n (posts s j v i free a r nf) f =
      let l = s.slot_of j.slot in
      at_sender s k j.slot (pushed v l) (λ e p. ap (λ (z : ℕ). (s.slot_of z).marked) (sym p) ∙ e)
      (share_less l (pushed v l) refl (live_living l (sender_parts s j a).0))
      (λ p h. put_hold s j.slot _ p h refl refl refl (ap (λ (z : ℕ). (s.slot_of z).pending) (sym p) ∙ h.is_pending) (omega (arith, length-append l.ring (v ∷ [])))) w
  move_on k w n (drops_it s j a) f =
      let l = s.slot_of j.slot in
      at_sender s k j.slot (signalled (sender_dropped l)) (λ e p. either_true (not l.pending) l.marked (ap (λ (z : ℕ). (s.slot_of z).marked) (sym p) ∙ e))
      (share_less l (signalled (sender_dropped l)) refl (live_living l (sender_parts s j a).0))
      (λ p h. put_hold s j.slot _ p h refl refl refl refl (omega arith)) w
  move_on k w n (pauses_it s i c) f =
      let d = not_own s K i.key w.hold (has_lane_parts s i.key c).1 f in
      off s _ k i.key.slot _ d (λ z. refl) refl refl (λ q. absurd (omega (arith, q, without_own i.key.slot s.queue))) (shrinks_without K.slot i.key.slot s.queue d) (λ z. without_other i.key.slot K.slot s.queue (λ p. d (sym p)) ∙ z) w
  move_on k w n (resumes s i c p) f =
      let d : K.slot ≢ i.key.slot = λ q. no (ap (λ (y : ℕ). (s.slot_of y).paused) q ∙ p) w.hold.is_unpaused in
      off s _ k i.key.slot _ d (λ z. refl) refl refl (λ q. share_same (s.slot_of i.key.slot) (signalled (with_paused false (s.slot_of i.key.slot))) refl refl) (shrinks_append K.slot s.queue (i.key.slot ∷ [])) (λ z. last_other i.key.slot K.slot s.queue (λ q. d (sym q)) ∙ z) w
  move_on k w n (resumes_not s i c p) f = record { rest = k; pays = omega arith; hold = w.hold; wait = w.wait }
  move_on k w n (closes_it s i c) f =
      let d = not_own s K i.key w.hold (has_lane_parts s i.key c).1 f in
      off s _ k i.key.slot (retired (s.slot_of i.key.slot)) d (retire_lane_slot i.key.slot s _) (retire_lane_budget _ _) (retire_lane_cursor _ _)
      (λ q. absurd (omega (arith, q, ap (count i.key.slot) (retire_lane_queue i.key.slot (with_queue (without i.key.slot s.queue) s)), without_own i.key.slot s.queue)))
      (subst (λ (r : List ℕ). Shrinks K.slot s.queue r) (sym (retire_lane_queue i.key.slot (with_queue (without i.key.slot s.queue) s))) (shrinks_without K.slot i.key.slot s.queue d))
      (λ z. ap (count K.slot) (retire_lane_queue i.key.slot (with_queue (without i.key.slot s.queue) s)) ∙ without_other i.key.slot K.slot s.queue (λ p. d (sym p)) ∙ z) w
  move_on k w n (polls_all s) f =
      let u = with_queue (s.queue ++ keep (may_queue s) (from 0 s.issued)) s in
      let h : Hold K.slot K.generation u = hold_at s u refl w.hold in
      record { rest = k; pays = omega arith; hold = h; wait = go h w.wait }
    where
      go : Hold K.slot K.generation (with_queue (s.queue ++ keep (may_queue s) (from 0 s.issued)) s) → Wait E R K.slot k s → Wait E R K.slot k (with_queue (s.queue ++ keep (may_queue s) (from 0 s.issued)) s)
      go h (in_queue i a) = let q = shrinks_append K.slot s.queue (keep (may_queue s) (from 0 s.issued)) in in_queue (q.stays_in i) (omega (arith, q.ahead_less i s.slot_of))
      go h (in_marks z m a) =
          let c : 1 ≤ count K.slot (s.queue ++ keep (may_queue s) (from 0 s.issued)) =
          omega (
            arith,
            count_append K.slot s.queue (keep (may_queue s) (from 0 s.issued)),
            keep_in (may_queue s) K.slot (from 0 s.issued) (may_queue_intro s K.slot w.hold.is_registered w.hold.is_unpaused z),
            from_in K.slot 0 s.issued (omega arith) (omega (arith, (w.ord.each_slot K.slot).registered_issued w.hold.is_registered)),
          ) in
          in_queue c (omega (arith, queued_most E R K.slot K.generation _ (move_ordered w.ord (polls_all s)) h n c))
  move_on k w n (shuts_it s) f = absurd (no refl f)
  move_on k w n (takes b r s y v q vs h e i) f = go (poll_on E R K.slot K.generation b s w)
    where
      p : State
      p = poll b s

      go : Polled E R K.slot K.generation k (poll b s) → Onward E R K (if (untargeted (gives r (key_of p y) v)) 1 0) k (give_item p y q vs (either b (leb 63 (p.slot_of y).burst)))
      go (polled_to o pd ne) =
          let d = not_own p K (key_of p y) o.hold refl f in
          let t = give_item_on E R K.slot K.generation p y v q vs (either b (leb 63 (p.slot_of y).burst)) e i d (back_room b (p.slot_of y).burst) pd o in
          let at_x : (give_item p y q vs (either b (leb 63 (p.slot_of y).burst))).slot_of K.slot ≡ p.slot_of K.slot = give_item_slot p y q vs (either b (leb 63 (p.slot_of y).burst)) K.slot ∙ rw (ne_eqb y K.slot (λ z. d (sym z))) in
          record { rest = t.0; pays = omega (arith, t.1, one_item (key_of p y) v h); hold = hold_at p _ at_x o.hold; wait = t.2 }
  move_on k w n (stops b r s u a h e q o m) f = absurd (go (poll_on E R K.slot K.generation b s w))
    where
      go : Polled E R K.slot K.generation k (poll b s) → ⊥
      go (polled_to o pd ne) = ne e
  move_on k w n (halts s m b l j y q e h) f = credited_on k (halted (poll false s)) (halted_on E R K.slot K.generation s w)
  move_on k w n (aims s i v vs c e) f =
      let y = i.key.slot in
      let d = not_own s K (key_of s y) w.hold refl f in
      let m = popped vs (unreleased_after_one s y) (s.slot_of y).burst (s.slot_of y) in
      let t = put y m s in
      let at_y : t.slot_of y ≡ m = rw (self y) in
      let a = off s t k y m d (λ z. refl) refl refl (λ q. share_less (s.slot_of y) m refl (live_ring (s.slot_of y) (omega (arith, ap length e)))) (shrinks_same K.slot s.queue) (λ z. z) w in
      record { rest = k; pays = omega arith; hold = queue_lane_hold (may_queue s y) y t d a.hold; wait = queue_lane_wait (may_queue s y) y t d (popped_wait s k y m d e w) }
    where
      popped_wait : (s : State) (k y : ℕ) (m : Slot) → K.slot ≢ y → (s.slot_of y).ring ≡ v ∷ vs → On E R K.slot K.generation k s → Wait E R K.slot k (put y (popped vs (unreleased_after_one s y) (s.slot_of y).burst (s.slot_of y)) s)
      popped_wait s k y m d e w = wait_put s _ y (popped vs (unreleased_after_one s y) (s.slot_of y).burst (s.slot_of y)) (λ z. refl) refl refl (λ p. absurd (d p)) (λ n q. share_less (s.slot_of y) (popped vs (unreleased_after_one s y) (s.slot_of y).burst (s.slot_of y)) refl (live_ring (s.slot_of y) (omega (arith, ap length e)))) (shrinks_same K.slot s.queue) (λ z. z) w.wait
  move_on k w n (aims_none s i a c e h) f =
      let y = i.key.slot in
      let d : K.slot ≢ y = λ p. omega (arith, w.hold.some_item, ap (λ (z : ℕ). length (s.slot_of z).ring) p, ap length e) in
      record { rest = k; pays = omega arith; hold = hold_quiet (settle_empty_quiet y (without y s.queue) s e) w.hold; wait = settle_empty_wait s k y d w }
