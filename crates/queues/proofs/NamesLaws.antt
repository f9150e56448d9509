-- The queue goes on naming each queued lane once, under every change of one lane and of the queue.
-- Assumes nothing.
use mathlib.Core.Path.{◌≡◌, refl, sym, ap, ◌∙◌}
use mathlib.Core.Bool.{cond, not}
use mathlib.Core.List.{List, [], ◌∷◌, ◌++◌}
use Prim.Native.Nat.{ℕ, ◌+◌, ◌≤◌, ◌<◌}
use native.Mathlib.Decide.{ℕ_discrete}
use native.Mathlib.Omega.{arith}
use borrow.Author.Tests.{eq-eqb, ne_eqb}
use lib.Dec.{eqb}
use Rattle.model.specs.Lists.{if, count, same}
use Rattle.model.specs.Lists as rules
use Rattle.demands.proofs.Counting.{Same, equal, other, same?, same_self, count_append, without_own, without_other}
use Rattle.lane.specs.Table.{narrowed, lane_at, put_lane}
use Rattle.lane.specs.declared.lane.Lane.{Lane}
use Rattle.lane.proofs.TableLaws.{frames, has_row, lane_own, other_lane_kept}
use Rattle.queues.specs.Header.{Shaped, issued, queue_count, slots}
use Rattle.queues.specs.Queue.{queue_of, push_back, pop_front, rotate_left, without, remove, QueueNames}
use Rattle.queues.proofs.QueueLaws.{queue_frames, queue_pushed_back, queue_popped_front, queue_rotated, queue_removed, queue_has_room, shaped_put_lane}

-- ---- how often a slot stands in the queue

-- the list without a number is the rules'
pub without_is_the_rules : (x : ℕ) (l : List ℕ) → without x l ≡ rules.without x l
unfolding rules.without rules.keep
without_is_the_rules x [] = refl
without_is_the_rules x (y ∷ l) = go (same? x y) (without_is_the_rules x l)
  where
    go : Same x y → without x l ≡ rules.without x l
        → cond (eqb y x) (without x l) (y ∷ without x l) ≡ if (not (eqb x y)) (y ∷ rules.without x l) (rules.without x l)
    go (equal p e i) h = rw (e, eq-eqb y x (sym p)) h
    go (other d e i) h = rw (e, ne_eqb y x (λ q. d (sym q))) (ap (λ (r : List ℕ). y ∷ r) h)

pub count_at_back_own : (x : ℕ) (l : List ℕ) → count x (l ++ (x ∷ [])) ≡ count x l + 1
unfolding count
count_at_back_own x l = omega (arith, count_append x l (x ∷ []), same_self x)

pub count_at_back_other : (x y : ℕ) (l : List ℕ) → (y ≡ x → ⊥) → count y (l ++ (x ∷ [])) ≡ count y l
unfolding count
count_at_back_other x y l d = elim (same? y x) [ equal p e i ↦ absurd (d p) | other n e i ↦ omega (arith, count_append y l (x ∷ [])) ]

count_front_other : (x y : ℕ) (l : List ℕ) → (y ≡ x → ⊥) → count y (x ∷ l) ≡ count y l
unfolding count
count_front_other x y l d = elim (same? y x) [ equal p e i ↦ absurd (d p) | other n e i ↦ omega arith ]

count_front_own : (x : ℕ) (l : List ℕ) → count x (x ∷ l) ≡ count x l + 1
unfolding count
count_front_own x l = omega (arith, same_self x)

count_turned : (x y : ℕ) (l : List ℕ) → count y (l ++ (x ∷ [])) ≡ count y (x ∷ l)
unfolding count
count_turned x y l = omega (arith, count_append y l (x ∷ []))

-- ---- a change at one slot: what is owed of that slot alone

module _ (t u : List ℕ) (x : ℕ) (q : QueueNames t) where
  pub names_changed : issued t ≤ issued u → ((y : ℕ) → (y ≡ x → ⊥) → y < issued u → y < issued t)
      → ((y : ℕ) → (y ≡ x → ⊥) → lane_at u y ≡ lane_at t y) → ((y : ℕ) → (y ≡ x → ⊥) → count y (queue_of u) ≡ count y (queue_of t))
      → count x (queue_of u) ≤ 1 → (1 ≤ count x (queue_of u) → x < issued u)
      → ((lane_at u x).registered ≡ 1 → (lane_at u x).queued ≡ count x (queue_of u)) → QueueNames u
  names_changed i j lanes counts most inside flag =
      record { once = λ y. one y (ℕ_discrete y x); issued_only = λ y. known y (ℕ_discrete y x); flagged = λ y. flags y (ℕ_discrete y x) }
    where
      one : (y : ℕ) → Dec (y ≡ x) → count y (queue_of u) ≤ 1
      one y (yes e) = rw e most
      one y (no d) = rw (counts y d) (q.once y)

      known : (y : ℕ) → Dec (y ≡ x) → 1 ≤ count y (queue_of u) → y < issued u
      known y (yes e) = rw e inside
      known y (no d) = rw (counts y d) (λ h. omega (arith, i, q.issued_only y h))

      flags : (y : ℕ) → Dec (y ≡ x) → y < issued u → (lane_at u y).registered ≡ 1 → (lane_at u y).queued ≡ count y (queue_of u)
      flags y (yes e) = rw e (λ h r. flag r)
      flags y (no d) = rw (lanes y d, counts y d) (λ h r. q.flagged y (j y d h) r)

-- the same lanes and the same queue, or one that names the same
pub names_same : (t u : List ℕ) → QueueNames t → issued u ≡ issued t → ((y : ℕ) → lane_at u y ≡ lane_at t y)
    → ((y : ℕ) → count y (queue_of u) ≡ count y (queue_of t)) → QueueNames u
names_same t u q i lanes counts =
    record {
      once = λ y. rw (counts y) (q.once y);
      issued_only = λ y. rw (counts y, i) (q.issued_only y);
      flagged = λ y. rw (counts y, i, lanes y) (q.flagged y);
    }

module _ (t : List ℕ) (s : Shaped t) (q : QueueNames t) where
  -- the front lane goes to the back
  pub names_rotated : (x : ℕ) (rest : List ℕ) → queue_of t ≡ x ∷ rest → QueueNames (rotate_left t)
  names_rotated x rest e =
      names_same t (rotate_left t) q (simp queue_frames) (λ y. simp queue_frames) (λ y. rw (queue_rotated t s x rest e, e) (count_turned x y rest))

  -- the lane of an issued slot x is stored, and x then stands k times in the queue
  module _ (x : ℕ) (l : Lane) (is : l.key.slot ≡ x) (h : x < issued t) where
    own : lane_at (put_lane t l) x ≡ narrowed l
    own = lane_own t l x is (has_row t x (omega (arith, s.room, s.issued_most)))

    pub names_stored : (u : List ℕ) (k : ℕ) → issued u ≡ issued t → ((y : ℕ) → lane_at u y ≡ lane_at (put_lane t l) y)
        → ((y : ℕ) → (y ≡ x → ⊥) → count y (queue_of u) ≡ count y (queue_of t)) → count x (queue_of u) ≡ k → k ≤ 1
        → (l.registered ≡ 1 → l.queued ≡ k) → QueueNames u
    names_stored u k i lanes counts n most f =
        names_changed t u x q (omega arith) (λ y d b. omega arith) (λ y d. lanes y ∙ other_lane_kept t l y (λ p. d (p ∙ is))) counts (omega arith)
        (λ b. omega arith) (rw (lanes x, own, n) f)

    -- the queue stays
    pub names_put_lane : (l.registered ≡ 1 → l.queued ≡ count x (queue_of t)) → QueueNames (put_lane t l)
    names_put_lane =
        names_stored (put_lane t l) (count x (queue_of t)) (simp frames) (λ y. refl) (λ y d. simp queue_frames) (simp queue_frames) (q.once x)

    -- x goes to the back of the queue
    pub names_pushed_back : count x (queue_of t) ≡ 0 → l.queued ≡ 1 → QueueNames (push_back (put_lane t l) x)
    names_pushed_back z f =
        let u : List ℕ = put_lane t l in
        let r : queue_count u < slots u = simp frames (queue_has_room t s q x h z) in
        let e : queue_of (push_back u x) ≡ queue_of t ++ (x ∷ []) = queue_pushed_back u (shaped_put_lane t s l) x r ∙ simp queue_frames in
        names_stored (push_back u x) 1 (simp (queue_frames, frames)) (λ y. simp queue_frames) (λ y d. rw e (count_at_back_other x y (queue_of t) d))
        (rw e (omega (arith, count_at_back_own x (queue_of t)))) (omega arith) (λ b. f)

    -- x leaves the queue, wherever it stands
    pub names_removed : (l.registered ≡ 1 → l.queued ≡ 0) → QueueNames (remove (put_lane t l) x)
    names_removed =
        let u : List ℕ = put_lane t l in
        let e : queue_of (remove u x) ≡ rules.without x (queue_of t) =
        queue_removed u (shaped_put_lane t s l) x ∙ without_is_the_rules x (queue_of u) ∙ simp queue_frames in
        names_stored (remove u x) 0 (simp (queue_frames, frames)) (λ y. simp queue_frames)
        (λ y d. rw e (without_other x y (queue_of t) (λ p. d (sym p)))) (rw e (without_own x (queue_of t))) (omega arith)

    -- x leaves the queue, whose front it was
    pub names_popped_front : (rest : List ℕ) → queue_of t ≡ x ∷ rest → (l.registered ≡ 1 → l.queued ≡ 0) → QueueNames (pop_front (put_lane t l))
    names_popped_front rest g =
        let u : List ℕ = put_lane t l in
        let e : queue_of (pop_front u) ≡ rest = queue_popped_front u (shaped_put_lane t s l) x rest (simp queue_frames g) in
        let m : count x (x ∷ rest) ≤ 1 = rw g at (q.once x) in
        names_stored (pop_front u) 0 (simp (queue_frames, frames)) (λ y. simp queue_frames) (λ y d. rw (e, g) (sym (count_front_other x y rest d)))
        (rw e (omega (arith, count_front_own x rest))) (omega arith)
