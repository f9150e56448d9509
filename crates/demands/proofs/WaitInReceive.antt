-- The wait of lane x, through all that a receive does.
-- Assumes nothing.
use mathlib.Core.Path.{◌≡◌, refl, ap, sym, ◌∙◌}
use mathlib.Core.Logic.{◌≢◌, ◌⊎◌, inl, inr}
use mathlib.Core.Bool.{Bool, true, false, not}
use mathlib.Core.List.{List, [], ◌∷◌, ◌++◌, append-nil}
use Prim.Native.Nat.{ℕ, zero, suc, ◌+◌, ◌*◌, ◌-◌, ◌≤◌, ◌<◌}
use native.Mathlib.Omega.{arith}
use lib.ListN.{length}
use lib.Dec.{eqb, leb, ltb}
use borrow.Author.Tests.{ne_eqb, leb-true, leb-false, ltb-true, ltb-false}
use Rattle.model.specs.Lists.{if, both, count, keep, from, non_empty}
use Rattle.model.specs.State.{Slot, State}
use Rattle.model.specs.Changes.{with_queue, with_budget, put, settled_empty, popped, unmarked}
use Rattle.model.specs.Ready.{group_of, groups_in, marks, is_ready, collect_marks, collect_group, start_group, groups_round, collect_first, collect_each, collect_ready_group, collect_ready}
use Rattle.model.specs.Turn.{retire_lane, retire_lane_if, settle_empty, refill, before_next_turn, run_down_from, unreleased_after_one, give_item, collect_if_due, run_down, collect_if_none_queued, polled}
use Rattle.model.specs.Receive.{halted}
use Rattle.model.specs.Order.{Ordered}
use Rattle.demands.proofs.Counting.{Same, equal, other, same?, self, no, count_append, keep_in, keep_out, from_in}
use Rattle.demands.proofs.OrderKept.{is_ready_intro, marks_in, first_own, first_other, last_other, collect_group_ordered, Exist, exist_rest, exist_collect_group, groups_round_exist, start_group_le, collect_ready_ordered, collect_if_due_ordered, budget_ordered, before_next_turn_ordered, settle_empty_ordered, front_registered, front_rest, front_alone, settle_empty_queue, before_next_turn_queue, refill_pos}
use Rattle.demands.proofs.Quiet.{Quietly, trans, settle_empty_quiet, before_next_turn_quiet, collect_group_quiet, budget_quiet, collect_ready_group_quiet, Hold, hold_quiet, collect_ready_quiet, poll}
use Rattle.demands.proofs.Ahead.{share, bit, ahead, weigh, live_ring, share_live, share_most, ahead_weigh, ahead_append, ahead_le, Few, few_quiet, away, away_up, away_round}

-- what collecting a group does
pub collect_group_queue : (s : State) (f : ℕ) → (collect_group s f).queue ≡ s.queue ++ keep (is_ready s) (marks s f)
unfolding collect_group collect_marks keep
collect_group_queue s f = go (marks s f)
  where
    go : (m : List ℕ) → (collect_marks m s f).queue ≡ s.queue ++ keep (is_ready s) m
    go [] = rw append-nil
    go (x ∷ m) = refl

collect_group_budget : (s : State) (f : ℕ) → (collect_group s f).budget ≡ s.budget
unfolding collect_group collect_marks
collect_group_budget s f = go (marks s f)
  where
    go : (m : List ℕ) → (collect_marks m s f).budget ≡ s.budget
    go [] = refl
    go (x ∷ m) = refl

pub collect_group_cursor : (s : State) (f : ℕ) → non_empty (marks s f) ≡ true → (collect_group s f).cursor ≡ suc f
unfolding collect_group collect_marks
collect_group_cursor s f e = go (marks s f) e
  where
    go : (m : List ℕ) → non_empty m ≡ true → (collect_marks m s f).cursor ≡ suc f
    go [] e = absurd (no e refl)
    go (x ∷ m) e = refl

collect_group_share : (s : State) (f y : ℕ) → share ((collect_group s f).slot_of y) ≡ share (s.slot_of y)
unfolding collect_group collect_marks
collect_group_share s f y = go (marks s f)
  where
    un : (b : Bool) → share (if b (unmarked (s.slot_of y)) (s.slot_of y)) ≡ share (s.slot_of y)
    un true = refl
    un false = refl

    go : (m : List ℕ) → share ((collect_marks m s f).slot_of y) ≡ share (s.slot_of y)
    go [] = refl
    go (x ∷ m) = un (eqb (group_of y) f)

collect_group_marked : (s : State) (f y : ℕ) → group_of y ≢ f → ((collect_group s f).slot_of y).marked ≡ (s.slot_of y).marked
unfolding collect_group collect_marks
collect_group_marked s f y d = go (marks s f)
  where
    go : (m : List ℕ) → ((collect_marks m s f).slot_of y).marked ≡ (s.slot_of y).marked
    go [] = refl
    go (x ∷ m) = rw (ne_eqb (group_of y) f d)

marks_out : (s : State) (y f : ℕ) → group_of y ≢ f → count y (marks s f) ≡ 0
unfolding marks
marks_out s y f d = keep_out (λ x. both (s.slot_of x).marked (eqb (group_of x) f)) y (from 0 s.issued) (rw (ne_eqb (group_of y) f d) (last (s.slot_of y).marked))
  where
    last : (b : Bool) → both b false ≡ false
    last true = refl
    last false = refl

non_empty_count : (x : ℕ) (l : List ℕ) → 1 ≤ count x l → non_empty l ≡ true
unfolding count
non_empty_count x [] h = absurd (omega arith)
non_empty_count x (y ∷ l) h = refl

-- finding the next group
seek_in : (s : State) (a n g : ℕ) (rest : List ℕ) → a ≤ g → g < a + n → non_empty (marks s g) ≡ true
    → (f : ℕ) × (a ≤ f) × (f ≤ g) × (non_empty (marks s f) ≡ true) × (collect_first (from a n ++ rest) s ≡ collect_group s f)
unfolding collect_first from
seek_in s a zero g rest l h m = absurd (omega arith)
seek_in s a (suc n) g rest l h m = go (non_empty (marks s a)) refl (seek_in s (suc a) n g rest)
  where
    go : (b : Bool) → non_empty (marks s a) ≡ b
        → (suc a ≤ g → g < suc a + n → non_empty (marks s g) ≡ true → (f : ℕ) × (suc a ≤ f) × (f ≤ g) × (non_empty (marks s f) ≡ true) × (collect_first (from (suc a) n ++ rest) s ≡ collect_group s f))
        → (f : ℕ) × (a ≤ f) × (f ≤ g) × (non_empty (marks s f) ≡ true) × (if b (collect_group s a) (collect_first (from (suc a) n ++ rest) s) ≡ collect_group s f)
    go true e ih = (a, omega arith, l, e, refl)
    go false e ih =
        let d : a ≢ g = λ p. no m (ap (λ (z : ℕ). non_empty (marks s z)) (sym p) ∙ e) in
        let r = ih (elim (same? a g) [ equal p b i ↦ absurd (d p) | other q b i ↦ omega arith ]) (omega arith) m in
        (r.0, omega (arith, r.1), r.2, r.3, r.4)

seek_wrap : (s : State) (a n g c : ℕ) → g < c → non_empty (marks s g) ≡ true
    → (f : ℕ) × (((a ≤ f) × (f < a + n)) ⊎ (f ≤ g)) × (non_empty (marks s f) ≡ true) × (collect_first (from a n ++ from 0 c) s ≡ collect_group s f)
unfolding collect_first from
seek_wrap s a zero g c h m =
    let r = seek_in s 0 c g [] (omega arith) (omega arith) m in
    (r.0, inr r.2, r.3, rw append-nil at r.4)
seek_wrap s a (suc n) g c h m = go (non_empty (marks s a)) refl (seek_wrap s (suc a) n g c h m)
  where
    go : (b : Bool) → non_empty (marks s a) ≡ b
        → (f : ℕ) × (((suc a ≤ f) × (f < suc a + n)) ⊎ (f ≤ g)) × (non_empty (marks s f) ≡ true) × (collect_first (from (suc a) n ++ from 0 c) s ≡ collect_group s f)
        → (f : ℕ) × (((a ≤ f) × (f < a + suc n)) ⊎ (f ≤ g)) × (non_empty (marks s f) ≡ true) × (if b (collect_group s a) (collect_first (from (suc a) n ++ from 0 c) s) ≡ collect_group s f)
    go true e r = (a, inl (omega arith, omega arith), e, refl)
    go false e r = (r.0, weaken r.1, r.2, r.3)
      where
        weaken : {f : ℕ} → ((suc a ≤ f) × (f < suc a + n)) ⊎ (f ≤ g) → ((a ≤ f) × (f < a + suc n)) ⊎ (f ≤ g)
        weaken (inl p) = inl (omega (arith, p.0), omega (arith, p.1))
        weaken (inr p) = inr p

-- collecting one group takes group g, or brings the cursor closer to it
Nearer : ℕ → State → ℕ → Type 0
Nearer E s g = (f : ℕ) × (f < groups_in s.issued) × (non_empty (marks s f) ≡ true) × (collect_ready_group s ≡ collect_group s f) × ((f ≡ g) ⊎ (away E (suc f) g < away E s.cursor g))

nearer : (E : ℕ) (s : State) (g : ℕ) → Ordered s → g < groups_in s.issued → groups_in s.issued ≤ E → non_empty (marks s g) ≡ true → Nearer E s g
unfolding Nearer collect_ready_group groups_round start_group
nearer E s g o l w m = go (ltb s.cursor (groups_in s.issued)) refl
  where
    go : (b : Bool) → ltb s.cursor (groups_in s.issued) ≡ b
        → (f : ℕ) × (f < groups_in s.issued) × (non_empty (marks s f) ≡ true) × (collect_first (from (if b s.cursor 0) (groups_in s.issued - if b s.cursor 0) ++ from 0 (if b s.cursor 0)) s ≡ collect_group s f)
        × ((f ≡ g) ⊎ (away E (suc f) g < away E s.cursor g))
    go true e = turn_at (leb s.cursor g) refl
      where
        c_low : s.cursor < groups_in s.issued
        c_low = ltb-true s.cursor (groups_in s.issued) e

        turn_at : (b : Bool) → leb s.cursor g ≡ b
            → (f : ℕ) × (f < groups_in s.issued) × (non_empty (marks s f) ≡ true) × (collect_first (from s.cursor (groups_in s.issued - s.cursor) ++ from 0 s.cursor) s ≡ collect_group s f)
            × ((f ≡ g) ⊎ (away E (suc f) g < away E s.cursor g))
        turn_at true q =
            let c_le : s.cursor ≤ g = leb-true s.cursor g q in
            let r = seek_in s s.cursor (groups_in s.issued - s.cursor) g (from 0 s.cursor) c_le (omega arith) m in (
              r.0,
              omega (arith, r.2),
              r.3,
              r.4,
              elim (same? r.0 g) [
                | equal p b i ↦ inl p
                | other d b i ↦ inr (omega (arith, r.1, r.2, away_up E (suc r.0) g (omega (arith, r.2)), away_up E s.cursor g c_le))
              ],
            )
        turn_at false q =
            let g_low : g < s.cursor = leb-false s.cursor g q in
            let r = seek_wrap s s.cursor (groups_in s.issued - s.cursor) g s.cursor g_low m in
            let p = finish r.0 g_low r.1 in
            (r.0, p.0, r.2, r.3, p.1)
          where
            finish : (f : ℕ) → g < s.cursor → ((s.cursor ≤ f) × (f < s.cursor + (groups_in s.issued - s.cursor))) ⊎ (f ≤ g) → (f < groups_in s.issued) × ((f ≡ g) ⊎ (away E (suc f) g < away E s.cursor g))
            finish f h (inl p) = (omega (arith, p.1, c_low), inr (omega (arith, p.0, p.1, c_low, away_round E (suc f) g (omega (arith, p.0)), away_round E s.cursor g h)))
            finish f h (inr p) = (
              omega (arith, c_low),
              elim (same? f g) [
                | equal q b i ↦ inl q
                | other d b i ↦ inr (omega (arith, c_low, away_up E (suc f) g (omega arith), away_round E s.cursor g h))
              ],
            )
    go false e =
        let c_high : groups_in s.issued ≤ s.cursor = ltb-false s.cursor (groups_in s.issued) e in
        let r = seek_in s 0 (groups_in s.issued - 0) g (from 0 0) (omega arith) (omega arith) m in (
          r.0,
          omega (arith, r.2),
          r.3,
          r.4,
          elim (same? r.0 g) [
            | equal p b i ↦ inl p
            | other d b i ↦ inr (omega (arith, r.2, o.cursor_most, away_up E (suc r.0) g (omega (arith, r.2)), away_round E s.cursor g (omega arith)))
          ],
        )

pub group_low : (s : State) (x : ℕ) → x < s.issued → group_of x < groups_in s.issued
unfolding group_of groups_in
group_low s x h = omega arith

-- what leaves the queue leaves the other slots alone
pub settle_empty_other : (y : ℕ) (q : List ℕ) (s : State) (z : ℕ) → y ≢ z → (settle_empty y q s).slot_of z ≡ s.slot_of z
unfolding settle_empty retire_lane_if retire_lane
settle_empty_other y q s z d = go (not (s.slot_of y).living)
  where
    go : (b : Bool) → (retire_lane_if b y (with_queue q (put y (settled_empty (s.slot_of y)) s))).slot_of z ≡ s.slot_of z
    go true = rw (ne_eqb y z d)
    go false = rw (ne_eqb y z d)

pub settle_empty_budget : (y : ℕ) (q : List ℕ) (s : State) → (settle_empty y q s).budget ≡ s.budget
unfolding settle_empty retire_lane_if retire_lane
settle_empty_budget y q s = go (not (s.slot_of y).living)
  where
    go : (b : Bool) → (retire_lane_if b y (with_queue q (put y (settled_empty (s.slot_of y)) s))).budget ≡ s.budget
    go true = refl
    go false = refl

pub settle_empty_cursor : (y : ℕ) (q : List ℕ) (s : State) → (settle_empty y q s).cursor ≡ s.cursor
unfolding settle_empty retire_lane_if retire_lane
settle_empty_cursor y q s = go (not (s.slot_of y).living)
  where
    go : (b : Bool) → (retire_lane_if b y (with_queue q (put y (settled_empty (s.slot_of y)) s))).cursor ≡ s.cursor
    go true = refl
    go false = refl

-- the front lane holds an item, or nothing is queued
pub data Settled (s : State) : Type 0 where
  nothing_queued : s.queue ≡ [] → Settled s
  front : (y v : ℕ) (q vs : List ℕ) → s.queue ≡ y ∷ q → (s.slot_of y).ring ≡ v ∷ vs → Settled s

settled : (q : List ℕ) (s : State) → s.queue ≡ q → Settled (run_down_from q s)
unfolding run_down_from
settled [] s e = nothing_queued e
settled (y ∷ q) s e = go (s.slot_of y).ring refl (settled q (before_next_turn q (settle_empty y q s)) (before_next_turn_queue q q (settle_empty y q s) (settle_empty_queue y q s)))
  where
    go : (l : List ℕ) → (s.slot_of y).ring ≡ l → Settled (run_down_from q (before_next_turn q (settle_empty y q s))) → Settled (if (non_empty l) s (run_down_from q (before_next_turn q (settle_empty y q s))))
    go [] f r = r
    go (v ∷ vs) f r = front y v q vs e f

pub run_down_settled : (s : State) → Settled (run_down s)
unfolding run_down
run_down_settled s = settled s.queue s refl

collect_if_none_settled : (q : List ℕ) (s : State) → s.queue ≡ q → Settled s → Settled (collect_if_none_queued q s)
unfolding collect_if_none_queued
collect_if_none_settled [] s e h = run_down_settled (collect_ready s)
collect_if_none_settled (y ∷ q) s e h = h

pub poll_settled : (f : Bool) (s : State) → Settled (poll f s)
unfolding poll polled
poll_settled true s = run_down_settled _
poll_settled false s = collect_if_none_settled _ _ refl (run_down_settled _)

-- Lane x, of generation g, waits. E: the groups at the stretch's end. R: the most live lanes
pub data Wait (E R x k : ℕ) (s : State) : Type 0 where
  in_queue : 1 ≤ count x s.queue → ahead s.slot_of s.queue x ≤ k → Wait E R x k s
  in_marks : count x s.queue ≡ 0 → (s.slot_of x).marked ≡ true → s.budget + 64 * away E s.cursor (group_of x) + 64 * R ≤ k + 64 → Wait E R x k s

pub record On (E R x g k : ℕ) (s : State) : Type 0 where
  pub ord : Ordered s
  pub hold : Hold x g s
  pub few_live : Few R s.slot_of
  pub wide : groups_in s.issued ≤ E
  pub wait : Wait E R x k s

-- the budget is not spent, or it does not matter
pub data Paid (x : ℕ) (s : State) : Type 0 where
  x_queued : 1 ≤ count x s.queue → Paid x s
  budget_left : 1 ≤ s.budget → Paid x s
  no_queue : s.queue ≡ [] → Paid x s

module _ (E R x g : ℕ) where
  -- carried over what is quiet
  onward : {k j : ℕ} (s u : State) → Quietly s u → Ordered u → On E R x g k s → Wait E R x j u → On E R x g j u
  onward s u q o w h = record { ord = o; hold = hold_quiet q w.hold; few_live = few_quiet q w.few_live; wide = omega (arith, w.wide, ap groups_in q.issues); wait = h }

  -- once queued, the wait is at most 64 × (R - 1)
  pub queued_most : (s : State) → Ordered s → Hold x g s → Few R s.slot_of → 1 ≤ count x s.queue → ahead s.slot_of s.queue x + 64 ≤ 64 * R
  queued_most s o h f c =
      omega (arith, ahead_weigh s.slot_of s.queue x c, f.few s.queue (λ y. (o.each_slot y).queued_once) (λ y n. (o.each_slot y).queued_registered n), ap bit (live_ring (s.slot_of x) h.some_item))

  collect_group_in : (s : State) (f : ℕ) {k : ℕ} → 1 ≤ count x s.queue → ahead s.slot_of s.queue x ≤ k → Wait E R x k (collect_group s f)
  collect_group_in s f c a =
      in_queue (rw (collect_group_queue s f) (omega (arith, count_append x s.queue (keep (is_ready s) (marks s f)))))
      (rw (collect_group_queue s f) (omega (
        arith,
        ahead_le s.slot_of (collect_group s f).slot_of (s.queue ++ keep (is_ready s) (marks s f)) x (λ y d n. omega (arith, collect_group_share s f y)),
        ahead_append s.slot_of s.queue (keep (is_ready s) (marks s f)) x c,
      )))

  x_ready : (s : State) → Hold x g s → count x s.queue ≡ 0 → is_ready s x ≡ true
  x_ready s h z = is_ready_intro s x h.is_pending h.is_registered h.is_unpaused z

  x_mark : (s : State) → Ordered s → Hold x g s → (s.slot_of x).marked ≡ true → count x (marks s (group_of x)) ≡ 1
  x_mark s o h m = marks_in s x (group_of x) m refl ∙ from_in x 0 s.issued (omega arith) (omega (arith, (o.each_slot x).registered_issued h.is_registered))

  -- its own group: it is queued
  collect_group_own : (s : State) → Ordered s → Hold x g s → count x s.queue ≡ 0 → (s.slot_of x).marked ≡ true → 1 ≤ count x (collect_group s (group_of x)).queue
  collect_group_own s o h z m =
      rw (collect_group_queue s (group_of x)) (omega (arith, count_append x s.queue (keep (is_ready s) (marks s (group_of x))), keep_in (is_ready s) x (marks s (group_of x)) (x_ready s h z), x_mark s o h m))

  collect_group_not : (s : State) (f : ℕ) → group_of x ≢ f → count x s.queue ≡ 0 → Hold x g s → count x (collect_group s f).queue ≡ 0
  collect_group_not s f d z h =
      rw (collect_group_queue s f) (omega (arith, count_append x s.queue (keep (is_ready s) (marks s f)), keep_in (is_ready s) x (marks s f) (x_ready s h z), marks_out s x f d))

  -- collecting one group, at a budget of 0
  one_wait : (s : State) {k : ℕ} → s.budget ≡ 0 → On E R x g k s → Wait E R x k (with_budget 64 (collect_ready_group s))
  unfolding collect_ready_group collect_first Nearer
  one_wait s {k} b w = go w.wait
    where
      o : Ordered s
      o = w.ord

      low : group_of x < groups_in s.issued
      low = group_low s x ((o.each_slot x).registered_issued w.hold.is_registered)

      raise : (u : State) → ((1 ≤ count x u.queue) × (ahead u.slot_of u.queue x ≤ k)) ⊎ ((count x u.queue ≡ 0) × ((u.slot_of x).marked ≡ true) × (64 + 64 * away E u.cursor (group_of x) + 64 * R ≤ k + 64)) → Wait E R x k (with_budget 64 u)
      raise u (inl p) = in_queue p.0 p.1
      raise u (inr p) = in_marks p.0 p.1 p.2

      first_in : (gs : List ℕ) → 1 ≤ count x s.queue → ahead s.slot_of s.queue x ≤ k → (1 ≤ count x (collect_first gs s).queue) × (ahead (collect_first gs s).slot_of (collect_first gs s).queue x ≤ k)
      first_in [] c a = (c, a)
      first_in (f ∷ gs) c a = pick (non_empty (marks s f)) (first_in gs c a)
        where
          open_in : Wait E R x k (collect_group s f) → (1 ≤ count x (collect_group s f).queue) × (ahead (collect_group s f).slot_of (collect_group s f).queue x ≤ k)
          open_in (in_queue c a) = (c, a)
          open_in (in_marks z m a) = absurd (omega (arith, z, count_append x s.queue (keep (is_ready s) (marks s f)), ap (count x) (collect_group_queue s f)))

          pick : (t : Bool) → (1 ≤ count x (collect_first gs s).queue) × (ahead (collect_first gs s).slot_of (collect_first gs s).queue x ≤ k)
              → (1 ≤ count x (if t (collect_group s f) (collect_first gs s)).queue) × (ahead (if t (collect_group s f) (collect_first gs s)).slot_of (if t (collect_group s f) (collect_first gs s)).queue x ≤ k)
          pick true r = open_in (collect_group_in s f c a)
          pick false r = r

      go : Wait E R x k s → Wait E R x k (with_budget 64 (collect_ready_group s))
      go (in_queue c a) = raise (collect_ready_group s) (inl (first_in (groups_round s) c a))
      go (in_marks z m a) = at_group (nearer E s (group_of x) o low w.wide (non_empty_count x (marks s (group_of x)) (omega (arith, x_mark s o w.hold m))))
        where
          near : (f : ℕ) → f < groups_in s.issued → non_empty (marks s f) ≡ true → (f ≡ group_of x) ⊎ (away E (suc f) (group_of x) < away E s.cursor (group_of x)) → Same f (group_of x) → Wait E R x k (with_budget 64 (collect_group s f))
          near f l n d (equal p e i) =
              let c : 1 ≤ count x (collect_group s f).queue = rw p (collect_group_own s o w.hold z m) in
              let q = collect_group_quiet s f in
              raise (collect_group s f) (inl (c, omega (arith, queued_most (collect_group s f) (collect_group_ordered s f l o) (hold_quiet q w.hold) (few_quiet q w.few_live) c)))
          near f l n (inl p) (other d e i) = absurd (d p)
          near f l n (inr p) (other d e i) =
              raise (collect_group s f) (inr (
                collect_group_not s f (λ q. d (sym q)) z w.hold,
                collect_group_marked s f x (λ q. d (sym q)) ∙ m,
                omega (arith, ap (λ (c : ℕ). away E c (group_of x)) (collect_group_cursor s f n)),
              ))

          at_group : Nearer E s (group_of x) → Wait E R x k (with_budget 64 (collect_ready_group s))
          at_group r = rw r.3 (near r.0 r.1 r.2 r.4 (same? r.0 (group_of x)))

  pub collect_if_due_on : (s : State) {k : ℕ} → On E R x g k s → On E R x g k (collect_if_due s.budget s.queue s)
  unfolding collect_if_due
  collect_if_due_on s {k} w = go s.budget s.queue refl
    where
      go : (n : ℕ) (q : List ℕ) → s.budget ≡ n → On E R x g k (collect_if_due n q s)
      go zero (y ∷ q) b = onward s _ (trans (collect_ready_group_quiet s) (budget_quiet 64 (collect_ready_group s))) (collect_if_due_ordered zero (y ∷ q) s w.ord) w (one_wait s b w)
      go zero [] b = w
      go (suc n) q b = w

  -- collecting all groups: x is queued by the end
  data Soon (k : ℕ) (gs : List ℕ) (s : State) : Type 0 where
    now : 1 ≤ count x s.queue → ahead s.slot_of s.queue x ≤ k → Soon k gs s
    later : count x s.queue ≡ 0 → (s.slot_of x).marked ≡ true → 1 ≤ count (group_of x) gs → 64 * R ≤ k + 64 → Soon k gs s

  each_now : (k : ℕ) (gs : List ℕ) (s : State) → Exist s gs → Ordered s → Hold x g s → Few R s.slot_of → Soon k gs s
      → (1 ≤ count x (collect_each gs s).queue) × (ahead (collect_each gs s).slot_of (collect_each gs s).queue x ≤ k)
  unfolding collect_each count
  each_now k [] s e o h w (now c a) = (c, a)
  each_now k [] s e o h w (later z m c a) = absurd (omega arith)
  each_now k (f ∷ gs) s e o h w n =
      let q = collect_group_quiet s f in
      each_now k gs (collect_group s f) (exist_collect_group s f gs (exist_rest s f gs e)) (collect_group_ordered s f (e f (omega (arith, first_own f gs))) o) (hold_quiet q h) (few_quiet q w) (go n (same? (group_of x) f))
    where
      from_wait : Wait E R x k (collect_group s f) → 1 ≤ count x s.queue → Soon k gs (collect_group s f)
      from_wait (in_queue c a) p = now c a
      from_wait (in_marks z m a) p = absurd (omega (arith, z, count_append x s.queue (keep (is_ready s) (marks s f)), ap (count x) (collect_group_queue s f)))

      go : Soon k (f ∷ gs) s → Same (group_of x) f → Soon k gs (collect_group s f)
      go (now c a) r = from_wait (collect_group_in s f c a) c
      go (later z m c a) (equal p b i) =
          let q = collect_group_quiet s f in
          let c : 1 ≤ count x (collect_group s f).queue = rw (← p) (collect_group_own s o h z m) in
          now c (omega (arith, queued_most (collect_group s f) (collect_group_ordered s f (e f (omega (arith, first_own f gs))) o) (hold_quiet q h) (few_quiet q w) c))
      go (later z m c a) (other d b i) = later (collect_group_not s f d z h) (collect_group_marked s f x d ∙ m) (omega arith) a

  groups_round_has : (s : State) (f : ℕ) → f < groups_in s.issued → 1 ≤ count f (groups_round s)
  unfolding groups_round
  groups_round_has s f l = go (leb (start_group s) f) refl
    where
      app : count f (from (start_group s) (groups_in s.issued - start_group s) ++ from 0 (start_group s)) ≡ count f (from (start_group s) (groups_in s.issued - start_group s)) + count f (from 0 (start_group s))
      app = count_append f (from (start_group s) (groups_in s.issued - start_group s)) (from 0 (start_group s))

      go : (b : Bool) → leb (start_group s) f ≡ b → 1 ≤ count f (from (start_group s) (groups_in s.issued - start_group s) ++ from 0 (start_group s))
      go true e = omega (arith, app, from_in f (start_group s) (groups_in s.issued - start_group s) (leb-true (start_group s) f e) (omega (arith, start_group_le s, leb-true (start_group s) f e)))
      go false e = omega (arith, app, from_in f 0 (start_group s) (omega arith) (omega (arith, leb-false (start_group s) f e)))

  all_on : (s : State) {k : ℕ} → On E R x g k s → On E R x g k (collect_ready s) × (1 ≤ count x (collect_ready s).queue)
  unfolding collect_ready
  all_on s {k} w =
      let r = each_now k (groups_round s) s (groups_round_exist s) w.ord w.hold w.few_live (go w.wait) in
      (onward s (collect_ready s) (collect_ready_quiet s) (collect_ready_ordered s w.ord) w (in_queue r.0 r.1), r.0)
    where
      go : Wait E R x k s → Soon k (groups_round s) s
      go (in_queue c a) = now c a
      go (in_marks z m a) = later z m (groups_round_has s (group_of x) (group_low s x ((w.ord.each_slot x).registered_issued w.hold.is_registered))) (omega arith)

  -- empty lanes leave the front
  not_x : (s : State) (y : ℕ) → Hold x g s → (s.slot_of y).ring ≡ [] → x ≢ y
  not_x s y h e p = omega (arith, h.some_item, ap (λ (z : ℕ). length (s.slot_of z).ring) p, ap length e)

  settle_wait : (s : State) (y : ℕ) (q : List ℕ) {k : ℕ} → s.queue ≡ y ∷ q → (s.slot_of y).ring ≡ [] → On E R x g k s → Wait E R x k (settle_empty y q s)
  unfolding ahead
  settle_wait s y q {k} e r w = go w.wait
    where
      d : x ≢ y
      d = not_x s y w.hold r

      same_x : (settle_empty y q s).slot_of x ≡ s.slot_of x
      same_x = settle_empty_other y q s x (λ p. d (sym p))

      count_x : count x (settle_empty y q s).queue ≡ count x s.queue
      count_x = ap (count x) (settle_empty_queue y q s) ∙ front_rest s y q e x (λ p. d (sym p))

      less : ahead (settle_empty y q s).slot_of q x ≤ ahead s.slot_of q x
      less = ahead_le s.slot_of (settle_empty y q s).slot_of q x (λ z n c. elim (same? y z) [
        | equal p b i ↦ absurd (omega (arith, front_alone s y q e w.ord, ap (λ (m : ℕ). count m q) p))
        | other m b i ↦ rw (settle_empty_other y q s z m) (omega arith)
      ])

      tail_ahead : ahead s.slot_of q x ≤ ahead s.slot_of (y ∷ q) x
      tail_ahead = rw (ne_eqb x y d) (omega arith)

      go : Wait E R x k s → Wait E R x k (settle_empty y q s)
      go (in_queue c a) =
          in_queue (omega (arith, count_x)) (rw (settle_empty_queue y q s) (omega (arith, less, tail_ahead, ap (λ (l : List ℕ). ahead s.slot_of l x) e)))
      go (in_marks z m a) =
          in_marks (count_x ∙ z) (ap (λ (l : Slot). l.marked) same_x ∙ m) (omega (arith, settle_empty_budget y q s, ap (λ (c : ℕ). away E c (group_of x)) (settle_empty_cursor y q s)))

  next_wait : (s : State) (q : List ℕ) {k : ℕ} → Wait E R x k s → (count x s.queue ≡ 0 → (1 ≤ s.budget) ⊎ (q ≡ [])) → Wait E R x k (before_next_turn q s)
  unfolding before_next_turn refill
  next_wait s [] w p = w
  next_wait s (y ∷ q) {k} (in_queue c a) p = in_queue c a
  next_wait s (y ∷ q) {k} (in_marks z m a) p = in_marks z m (go s.budget refl (p z))
    where
      go : (b : ℕ) → s.budget ≡ b → (1 ≤ s.budget) ⊎ (y ∷ q ≡ []) → refill b + 64 * away E s.cursor (group_of x) + 64 * R ≤ k + 64
      go zero e (inl h) = absurd (omega arith)
      go zero e (inr h) = let z : ◌≡◌ {A = ℕ} 0 1 = cc in absurd (omega arith)
      go (suc b) e h = omega arith

  next_budget : (s : State) (q : List ℕ) → 1 ≤ s.budget → 1 ≤ (before_next_turn q s).budget
  unfolding before_next_turn
  next_budget s [] h = h
  next_budget s (y ∷ q) h = refill_pos s.budget

  paid_rich : (s : State) → Paid x s → count x s.queue ≡ 0 → (y : ℕ) (q : List ℕ) → s.queue ≡ y ∷ q → 1 ≤ s.budget
  paid_rich s (x_queued c) z y q e = absurd (omega arith)
  paid_rich s (budget_left b) z y q e = b
  paid_rich s (no_queue n) z y q e = let c : ◌≡◌ {A = ℕ} 0 1 = cc in absurd (omega arith)

  run_down_from_on : (q : List ℕ) (s : State) {k : ℕ} → s.queue ≡ q → Paid x s → On E R x g k s
      → On E R x g k (run_down_from q s) × Paid x (run_down_from q s) × (1 ≤ count x s.queue → 1 ≤ count x (run_down_from q s).queue)
  unfolding run_down_from
  run_down_from_on [] s e p w = (w, p, λ c. c)
  run_down_from_on (y ∷ q) s {k} e p w = go (s.slot_of y).ring refl (run_down_from_on q (before_next_turn q (settle_empty y q s)) {k = k} (before_next_turn_queue q q (settle_empty y q s) (settle_empty_queue y q s)))
    where
      t : State
      t = before_next_turn q (settle_empty y q s)

      go : (l : List ℕ) → (s.slot_of y).ring ≡ l → (Paid x t → On E R x g k t → On E R x g k (run_down_from q t) × Paid x (run_down_from q t) × (1 ≤ count x t.queue → 1 ≤ count x (run_down_from q t).queue))
          → On E R x g k (if (non_empty l) s (run_down_from q t)) × Paid x (if (non_empty l) s (run_down_from q t)) × (1 ≤ count x s.queue → 1 ≤ count x (if (non_empty l) s (run_down_from q t)).queue)
      go (v ∷ vs) r ih = (w, p, λ c. c)
      go [] r ih =
          let d = not_x s y w.hold r in
          let lv = settle_empty_quiet y q s r in
          let o = settle_empty_ordered y q s w.ord (front_registered s y q e w.ord) (front_rest s y q e) (front_alone s y q e w.ord) in
          let lw = onward s (settle_empty y q s) lv o w (settle_wait s y q e r w) in
          let cx : count x (settle_empty y q s).queue ≡ count x s.queue = ap (count x) (settle_empty_queue y q s) ∙ front_rest s y q e x (λ p. d (sym p)) in
          let nx : count x t.queue ≡ count x s.queue = ap (count x) (before_next_turn_queue q q (settle_empty y q s) (settle_empty_queue y q s)) ∙ front_rest s y q e x (λ p. d (sym p)) in
          let rich : count x s.queue ≡ 0 → 1 ≤ (settle_empty y q s).budget = λ z. omega (arith, settle_empty_budget y q s, paid_rich s p z y q e) in
          let nw = next_wait (settle_empty y q s) q lw.wait (λ z. inl (rich (sym cx ∙ z))) in
          let m = ih (paying (count x s.queue) refl nx rich) (onward (settle_empty y q s) t (before_next_turn_quiet q (settle_empty y q s)) (before_next_turn_ordered q (settle_empty y q s) o) lw nw) in
          (m.0, m.1, λ c. m.2 (omega (arith, nx)))
        where
          paying : (n : ℕ) → count x s.queue ≡ n → count x t.queue ≡ count x s.queue → (count x s.queue ≡ 0 → 1 ≤ (settle_empty y q s).budget) → Paid x t
          paying zero z nx r = budget_left (next_budget (settle_empty y q s) q (r z))
          paying (suc n) z nx r = x_queued (omega (arith, nx))

  run_down_on : (s : State) {k : ℕ} → Paid x s → On E R x g k s → On E R x g k (run_down s) × Paid x (run_down s) × (1 ≤ count x s.queue → 1 ≤ count x (run_down s).queue)
  unfolding run_down
  run_down_on s p w = run_down_from_on s.queue s refl p w

  due_paid : (s : State) → Paid x (collect_if_due s.budget s.queue s)
  unfolding collect_if_due
  due_paid s = go s.budget s.queue refl refl
    where
      go : (n : ℕ) (q : List ℕ) → s.budget ≡ n → s.queue ≡ q → Paid x (collect_if_due n q s)
      go zero (y ∷ q) b e = budget_left (omega arith)
      go zero [] b e = no_queue e
      go (suc n) q b e = budget_left (omega arith)

  -- after the poll lane x still waits, and some lane is queued
  nil_count : (q : List ℕ) → q ≡ [] → 1 ≤ count x q → ⊥
  unfolding count
  nil_count q e c = omega (arith, ap (count x) e)

  pub data Polled (k : ℕ) (s : State) : Type 0 where
    polled_to : On E R x g k s → Paid x s → (s.queue ≡ [] → ⊥) → Polled k s

  collect_if_none_on : (q : List ℕ) (s : State) {k : ℕ} → s.queue ≡ q → Paid x s → On E R x g k s → Polled k (collect_if_none_queued q s)
  unfolding collect_if_none_queued
  collect_if_none_on [] s e p w =
      let a = all_on s w in
      let r = run_down_on (collect_ready s) (x_queued a.1) a.0 in
      polled_to r.0 r.1 (λ z. nil_count _ z (r.2 a.1))
  collect_if_none_on (y ∷ q) s e p w = polled_to w p (λ z. let c : ◌≡◌ {A = ℕ} 0 1 = cc in omega arith)

  pub poll_on : (f : Bool) (s : State) {k : ℕ} → On E R x g k s → Polled k (poll f s)
  unfolding poll polled
  poll_on true s w =
      let a = all_on s w in
      let b : On E R x g _ (with_budget 64 (collect_ready s)) = onward (collect_ready s) _ (budget_quiet 64 (collect_ready s)) (budget_ordered 64 (collect_ready s) (omega arith) a.0.ord) a.0 (raise (collect_ready s) a.1 a.0.wait) in
      let r = run_down_on (with_budget 64 (collect_ready s)) (x_queued a.1) b in
      polled_to r.0 r.1 (λ z. nil_count _ z (r.2 a.1))
    where
      raise : {k : ℕ} (u : State) → 1 ≤ count x u.queue → Wait E R x k u → Wait E R x k (with_budget 64 u)
      raise u c (in_queue d a) = in_queue d a
      raise u c (in_marks z m a) = absurd (omega arith)
  poll_on false s w =
      let r = run_down_on (collect_if_due s.budget s.queue s) (due_paid s) (collect_if_due_on s w) in
      collect_if_none_on _ _ refl r.1 r.0

  -- another lane's turn: the wait falls by one
  pub give_item_on : (s : State) (y v : ℕ) (q vs : List ℕ) (back : Bool) {k : ℕ} → s.queue ≡ y ∷ q → (s.slot_of y).ring ≡ v ∷ vs → x ≢ y → (back ≡ false → (s.slot_of y).burst < 63) → Paid x s → On E R x g k s
      → (j : ℕ) × (1 + j ≤ k) × Wait E R x j (give_item s y q vs back)
  unfolding give_item ahead refill count weigh
  give_item_on s y v q vs back {k} e r d b p w = go w.wait back b
    where
      o : Ordered s
      o = w.ord

      alone : count y q ≡ 0
      alone = front_alone s y q e o

      count_x : count x q ≡ count x s.queue
      count_x = front_rest s y q e x (λ p. d (sym p))

      full : share (s.slot_of y) ≡ 64 - (s.slot_of y).burst
      full = share_live (s.slot_of y) (live_ring (s.slot_of y) (omega (arith, ap length r)))

      less : (bk : Bool) (l : Slot) → ahead (λ z. if (eqb y z) l (s.slot_of z)) q x ≤ ahead s.slot_of q x
      less bk l = ahead_le s.slot_of (λ z. if (eqb y z) l (s.slot_of z)) q x (λ z n c. elim (same? y z) [
        | equal m b i ↦ absurd (omega (arith, alone, ap (λ (a : ℕ). count a q) m))
        | other m b i ↦ rw b (omega arith)
      ])

      was : ahead s.slot_of s.queue x ≡ share (s.slot_of y) + ahead s.slot_of q x
      was = ap (λ (l : List ℕ). ahead s.slot_of l x) e ∙ rw (ne_eqb x y d)

      go : Wait E R x k s → (bk : Bool) → (bk ≡ false → (s.slot_of y).burst < 63) → (j : ℕ) × (1 + j ≤ k) × Wait E R x j (give_item s y q vs bk)
      go (in_queue c a) true f =
          let l = popped vs (unreleased_after_one s y) 0 (s.slot_of y) in (
            ahead s.slot_of q x,
            omega (arith, was, full, (o.each_slot y).burst_most (front_registered s y q e o)),
            in_queue (omega (arith, count_append x q (y ∷ []), count_x)) (rw (ahead_append (λ z. if (eqb y z) l (s.slot_of z)) q (y ∷ []) x (omega (arith, count_x))) (less true l)),
          )
      go (in_queue c a) false f =
          let l = popped vs (unreleased_after_one s y) ((s.slot_of y).burst + 1) (s.slot_of y) in (
            64 - ((s.slot_of y).burst + 1) + ahead s.slot_of q x,
            omega (arith, was, full, f refl),
            in_queue (omega (arith, count_x, first_other y x q (λ p. d (sym p)))) (rw (ne_eqb x y d, self y) (omega (arith, share_most l, less false l))),
          )
      go (in_marks z m a) bk f =
          (k - 1, omega (arith, paid_rich s p z y q e, pos), in_marks (gone bk) (rw (ne_eqb y x (λ p. d (sym p))) m) (omega (arith, paid_rich s p z y q e, spent s.budget refl (paid_rich s p z y q e), pos)))
        where
          spent : (n : ℕ) → s.budget ≡ n → 1 ≤ s.budget → refill n ≡ n
          spent zero q h = absurd (omega arith)
          spent (suc n) q h = refl

          pos : 1 ≤ R
          pos = omega (arith, w.few_live.few (x ∷ []) (λ y. single y) (λ y c. mine y c), alive)
            where
              single : (y : ℕ) → count y (x ∷ []) ≤ 1
              single y = elim (same? y x) [ equal p b i ↦ omega (arith, i) | other n b i ↦ omega (arith, i) ]

              mine : (y : ℕ) → 1 ≤ count y (x ∷ []) → (s.slot_of y).registered ≡ true
              mine y c = elim (same? y x) [ equal p b i ↦ rw p w.hold.is_registered | other n b i ↦ absurd (omega (arith, i)) ]

              alive : weigh s.slot_of (x ∷ []) ≡ 1
              alive = rw (live_ring (s.slot_of x) w.hold.some_item)

          gone : (b : Bool) → count x (if b (q ++ (y ∷ [])) (y ∷ q)) ≡ 0
          gone true = last_other y x q (λ p. d (sym p)) ∙ count_x ∙ z
          gone false = first_other y x q (λ p. d (sym p)) ∙ count_x ∙ z

  -- a fair receive queues it
  pub fair_queued : (s : State) {k : ℕ} → On E R x g k s → 1 ≤ count x (poll true s).queue
  unfolding poll
  fair_queued s w =
      let a = all_on s w in
      let b : On E R x g _ (with_budget 64 (collect_ready s)) = onward (collect_ready s) _ (budget_quiet 64 (collect_ready s)) (budget_ordered 64 (collect_ready s) (omega arith) a.0.ord) a.0 (raise (collect_ready s) a.1 a.0.wait) in
      (run_down_on (with_budget 64 (collect_ready s)) (x_queued a.1) b).2 a.1
    where
      raise : {k : ℕ} (u : State) → 1 ≤ count x u.queue → Wait E R x k u → Wait E R x k (with_budget 64 u)
      raise u c (in_queue d a) = in_queue d a
      raise u c (in_marks z m a) = absurd (omega arith)

  -- at the start of a stretch
  pub wait_start : (s : State) → Ordered s → Hold x g s → Few R s.slot_of → groups_in s.issued ≤ E → Wait E R x (64 * (E + R - 1)) s
  wait_start s o h f w = go (count x s.queue) refl
    where
      low : group_of x < groups_in s.issued
      low = group_low s x ((o.each_slot x).registered_issued h.is_registered)

      go : (n : ℕ) → count x s.queue ≡ n → Wait E R x (64 * (E + R - 1)) s
      go zero e = in_marks e ((o.each_slot x).is_marked h.is_registered h.is_unpaused h.is_pending e) (near (leb s.cursor (group_of x)) refl)
        where
          near : (b : Bool) → leb s.cursor (group_of x) ≡ b → s.budget + 64 * away E s.cursor (group_of x) + 64 * R ≤ 64 * (E + R - 1) + 64
          near true q = omega (arith, low, w, o.budget_most, away_up E s.cursor (group_of x) (leb-true s.cursor (group_of x) q))
          near false q = omega (arith, low, w, o.budget_most, away_round E s.cursor (group_of x) (leb-false s.cursor (group_of x) q), leb-false s.cursor (group_of x) q, o.cursor_most)
      go (suc n) e = in_queue (omega arith) (omega (arith, low, w, queued_most s o h f (omega arith)))

  -- a batch stopped in front of an item: polled, and a budget of 0 set to 64
  pub halted_on : (s : State) {k : ℕ} → On E R x g k s → On E R x g k (halted (poll false s))
  unfolding refill halted
  halted_on s {k} w = go (poll_on false s w)
    where
      most : (b : ℕ) → b ≤ 64 → refill b ≤ 64
      most zero h = omega arith
      most (suc b) h = h

      raise : (u : State) → (u.queue ≡ [] → ⊥) → Paid x u → Wait E R x k u → Wait E R x k (with_budget (refill u.budget) u)
      raise u ne p (in_queue d a) = in_queue d a
      raise u ne (x_queued c) (in_marks z m a) = absurd (omega arith)
      raise u ne (no_queue e) (in_marks z m a) = absurd (ne e)
      raise u ne (budget_left b) (in_marks z m a) = in_marks z m (same u.budget b a)
        where
          same : (n : ℕ) → 1 ≤ n → n + 64 * away E u.cursor (group_of x) + 64 * R ≤ k + 64 → refill n + 64 * away E u.cursor (group_of x) + 64 * R ≤ k + 64
          same zero h i = absurd (omega arith)
          same (suc n) h i = i

      go : Polled k (poll false s) → On E R x g k (halted (poll false s))
      go (polled_to o p ne) =
          onward (poll false s) _ (budget_quiet _ (poll false s)) (budget_ordered _ (poll false s) (most (poll false s).budget o.ord.budget_most) o.ord) o (raise (poll false s) ne p o.wait)
