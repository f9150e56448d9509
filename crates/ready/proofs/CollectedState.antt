-- Collecting a group of the table is the rules' collecting of that group: `Sees t s` says what the rules' state s has of the table t, as far
-- as collecting reads or changes it.
-- Assumes nothing.
use mathlib.Core.Path.{◌≡◌, refl, sym, ap, ap₂, ◌∙◌, subst}
use mathlib.Core.Bool.{Bool, true, false, not, cond, ◌&&◌}
use mathlib.Core.List.{List, [], ◌∷◌, ◌++◌}
use Prim.Native.Nat.{ℕ, zero, suc, ◌+◌, ◌-◌, ◌*◌, ◌/◌, ◌%◌, ◌^◌, ◌≤◌, ◌<◌}
use native.Mathlib.Nat.{pos_of_ne-zero}
use native.Mathlib.Omega.{arith}
use borrow.Author.Tests.{lt-ltb, le-leb, ne_eqb, eqb-true}
use lib.Dec.{lit<, leb, eqb}
use lib.Bits.{bit_and}
use lib.Count.{count_trailing_zeros}
use Rattle.model.specs.Lists.{if, keep, from, count}
use Rattle.model.specs.Lists as rules
use Rattle.model.specs.State.{State, may_queue}
use Rattle.model.specs.Changes.{with_slots, with_queue, with_cursor, unmarked}
use Rattle.model.specs.Ready.{group_of, marks, is_ready, collect_marks}
use Rattle.model.specs.Ready as ready_rules
use Rattle.demands.proofs.Counting.{equal, other, same?}
use Rattle.lane.specs.declared.lane.Lane.{Lane}
use Rattle.lane.specs.Table.{lane_at}
use Rattle.lane.proofs.TableLaws.{frames}
use Rattle.queues.specs.Header.{Shaped, issued, group_cursor, set_group_cursor}
use Rattle.queues.specs.Queue.{queue_of, QueueNames}
use Rattle.ready.specs.Bits.{bits_from}
use Rattle.ready.specs.Ready.{page_word, group_word, page_bit, group_bit, non_zero, Linked, wanted_lane, wanted, collect_group}
use Rattle.ready.proofs.BitLaws.{bits_next, bits_zero, tz_lt, tz_set, bit_zero, Each, none, both}
use Rattle.queues.proofs.QueueLaws.{queue_frames, header_in}
use Rattle.ready.proofs.CollectLaws.{kept_group, beside_group, group_taken, other_group_left, pages_taken, other_pages_left}
use Rattle.ready.proofs.CollectedQueue.{slots_of_pages, keep_each, each_map}
use Rattle.ready.proofs.CollectedMarks.{SameMarks, group_marks, queue_collected}

-- ---- a group has bits exactly if it has a marked slot

-- the words of the pages and groups that exist are u64
pub record WordsFit (t : List ℕ) : Type 0 where
  pub pages_fit : (page : ℕ) → 64 * page < issued t → page_word t page < 2 ^ 64
  pub groups_fit : (group : ℕ) → 4096 * group < issued t → group_word t group < 2 ^ 64

module _ (t : List ℕ) (s : State) (k : Linked t) (m : SameMarks t s) (group : ℕ) (h : 4096 * group < issued t) where
  pub no_marks : group_word t group ≡ 0 → marks s group ≡ []
  no_marks z = sym (group_marks t s k m group h) ∙ ap (λ (w : ℕ). slots_of_pages t (bits_from 64 (64 * group) w)) z ∙ ap (slots_of_pages t) (bits_zero 64 (64 * group))

  pub some_marks : WordsFit t → (group_word t group ≡ 0 → ⊥) → (x : ℕ) × (l : List ℕ) × (marks s group ≡ x ∷ l)
  some_marks f n =
      let w = group_word t group in
      let b = count_trailing_zeros 64 w in
      let page = 64 * group + b in
      let low : b < 64 = tz_lt 64 w (pos_of_ne-zero n) (f.groups_fit group h) in
      let d : page / 64 ≡ group = omega arith in
      let r : page % 64 ≡ b = omega arith in
      let one : group_bit t page ≡ 1 = rw (d, r) (tz_set 64 w (pos_of_ne-zero n) (f.groups_fit group h)) in
      let there : 64 * page < issued t = k.of_pages page (omega arith) one in
      let set : page_word t page ≡ 0 → ⊥ = λ z. absurd (differ (sym one ∙ k.linked page there ∙ ap non_zero z)) in
      let lanes = bits_next 64 (64 * page) (page_word t page) (pos_of_ne-zero set) (f.pages_fit page there) in
      let pages = bits_next 64 (64 * group) w (pos_of_ne-zero n) (f.groups_fit group h) in
      (_, _, sym (group_marks t s k m group h) ∙ ap (slots_of_pages t) pages ∙ ap (λ (l : List ℕ). l ++ slots_of_pages t (bits_from 64 (64 * group) (bit_and w (w - 1)))) lanes)
    where
      differ : ◌≡◌ {A = ℕ} 1 0 → ⊥
      differ e = omega arith

-- ---- the marks after it

module _ (t : List ℕ) (group : ℕ) (sh : Shaped t) (q : QueueNames t) (k : Linked t) where
  pub bits_collected : (x : ℕ) → x < issued t → page_bit (collect_group t group) x ≡ cond (eqb (x / 4096) group) 0 (page_bit t x)
  bits_collected x h =
      let d : x / 64 / 64 ≡ x / 4096 = omega arith in
      elim (same? (x / 4096) group) [
        | equal e p i ↦ rw (p, pages_taken t group sh q k (x / 64) (d ∙ e) (omega arith)) (bit_zero (x % 64))
        | other n p i ↦ rw (p, other_pages_left t group sh q (x / 64) (λ e. n (sym d ∙ e)))
      ]

  pub fit_collected : WordsFit t → 4096 * group < issued t → WordsFit (collect_group t group)
  fit_collected f h =
      let same : issued (collect_group t group) ≡ issued t = (kept_group t group sh q).same_issued in
      record {
        pages_fit = λ page l. elim (same? (page / 64) group) [
          | equal e p i ↦ rw (pages_taken t group sh q k page e (rw same at l)) (lit< tt)
          | other n p i ↦ rw (other_pages_left t group sh q page n) (f.pages_fit page (rw same at l))
        ];
        groups_fit = λ g l. elim (same? g group) [
          | equal e p i ↦ rw (e, group_taken t group sh q (omega (arith, sh.room, sh.issued_most))) (lit< tt)
          | other n p i ↦ rw (other_group_left t group sh q g p) (f.groups_fit g (rw same at l))
        ];
      }

-- ---- what the rules' state has of the table

-- a lane that is registered, pending and unpaused
abbrev pub calling : Lane → Bool
calling l = eqb l.registered 1 && (eqb l.pending 1 && eqb l.paused 0)

pub record Sees (t : List ℕ) (s : State) : Type 0 where
  pub same_marks : SameMarks t s
  pub same_queue : s.queue ≡ queue_of t
  pub same_cursor : s.cursor ≡ group_cursor t
  pub same_lanes : (x : ℕ) → x < issued t
      → rules.both (s.slot_of x).pending (rules.both (s.slot_of x).registered (not (s.slot_of x).paused)) ≡ calling (lane_at t x)

-- the lanes that are wanted are the rules' ready lanes
wanted_calling : (t : List ℕ) → QueueNames t → (x : ℕ) → x < issued t → wanted t x ≡ rules.both (calling (lane_at t x)) (not (leb 1 (count x (queue_of t))))
unfolding wanted wanted_lane
wanted_calling t q x h = rw (lt-ltb x (issued t) h) (go (eqb (lane_at t x).registered 1) refl)
  where
    none_there : (n : ℕ) → eqb n 0 ≡ not (leb 1 n)
    none_there zero = refl
    none_there (suc n) = rw (ne_eqb (suc n) 0 (λ e. omega arith), le-leb 1 (suc n) (omega arith))

    rest : (a b c d : Bool) → c ≡ d → (a && (b && c)) ≡ rules.both (a && b) d
    rest true true c d e = e
    rest true false c d e = refl
    rest false b c d e = refl

    go : (b : Bool) → eqb (lane_at t x).registered 1 ≡ b
        → (b && (eqb (lane_at t x).pending 1 && (eqb (lane_at t x).paused 0 && eqb (lane_at t x).queued 0)))
        ≡ rules.both (b && (eqb (lane_at t x).pending 1 && eqb (lane_at t x).paused 0)) (not (leb 1 (count x (queue_of t))))
    go true e =
        rest (eqb (lane_at t x).pending 1) (eqb (lane_at t x).paused 0) (eqb (lane_at t x).queued 0) (not (leb 1 (count x (queue_of t))))
        (ap (λ (n : ℕ). eqb n 0) (q.flagged x h (eqb-true (lane_at t x).registered 1 e)) ∙ none_there (count x (queue_of t)))
    go false e = refl

pub wanted_ready : (t : List ℕ) (s : State) → QueueNames t → Sees t s → (x : ℕ) → x < issued t → wanted t x ≡ is_ready s x
unfolding is_ready may_queue
wanted_ready t s q v x h =
    wanted_calling t q x h
    ∙ ap₂ (λ (b : Bool) (l : List ℕ). rules.both b (not (leb 1 (count x l)))) (sym (v.same_lanes x h)) (sym v.same_queue)
    ∙ regroup (s.slot_of x).pending (s.slot_of x).registered (not (s.slot_of x).paused) (not (leb 1 (count x s.queue)))
  where
    regroup : (a b c d : Bool) → rules.both (rules.both a (rules.both b c)) d ≡ rules.both a (rules.both b (rules.both c d))
    regroup true true c d = refl
    regroup true false c d = refl
    regroup false b c d = refl

-- ---- one group

each_from : (n a m : ℕ) → a + n ≤ m → Each (λ x. x < m) (from a n)
unfolding from
each_from zero a m h = none
each_from (suc n) a m h = let l : a < m = omega arith in both l (each_from n (suc a) m (omega arith))

each_keep : {P : ℕ → Type 0} (p : ℕ → Bool) (l : List ℕ) → Each P l → Each P (keep p l)
unfolding keep
each_keep p [] none = none
each_keep {P} p (x ∷ l) (both h r) = go (p x) (each_keep p l r)
  where
    go : (b : Bool) → Each P (keep p l) → Each P (if b (x ∷ keep p l) (keep p l))
    go true e = both h e
    go false e = e

each_marked : (s : State) (group : ℕ) → Each (λ x. x < s.issued) (marks s group)
unfolding marks
each_marked s group = each_keep (λ x. rules.both (s.slot_of x).marked (eqb (group_of x) group)) (from 0 s.issued) (each_from s.issued 0 s.issued (omega arith))

-- the rules, for a group that has a mark
collect_some : (s : State) (group x : ℕ) (l : List ℕ) → marks s group ≡ x ∷ l
    → ready_rules.collect_group s group
    ≡ with_cursor (suc group)
    (with_queue (s.queue ++ keep (is_ready s) (marks s group))
    (with_slots (λ y. if (eqb (group_of y) group) (unmarked (s.slot_of y)) (s.slot_of y)) s))
unfolding ready_rules.collect_group collect_marks
collect_some s group x l e = rw e

module _ (t : List ℕ) (s : State) (group : ℕ) (sh : Shaped t) (q : QueueNames t) (k : Linked t) (v : Sees t s) (h : 4096 * group < issued t) where
  same_issued_after : issued (set_group_cursor (collect_group t group) (group + 1)) ≡ issued t
  same_issued_after = let a : issued (set_group_cursor (collect_group t group) (group + 1)) ≡ issued (collect_group t group) = simp frames in a ∙ (kept_group t group sh q).same_issued

  -- the queue, with the group's ready lanes at its back
  queue_after_lem : queue_of (set_group_cursor (collect_group t group) (group + 1)) ≡ s.queue ++ keep (is_ready s) (marks s group)
  queue_after_lem =
      let a : queue_of (set_group_cursor (collect_group t group) (group + 1)) ≡ queue_of (collect_group t group) = simp queue_frames in
      a ∙ queue_collected t s k v.same_marks sh q group h
      ∙ ap₂ ◌++◌ (sym v.same_queue)
      (keep_each (wanted t) (is_ready s) (marks s group)
      (each_map (marks s group) (λ x l. wanted_ready t s q v x (omega (arith, v.same_marks.slots_issued))) (each_marked s group)))

  marks_after : SameMarks (set_group_cursor (collect_group t group) (group + 1))
      (with_cursor (suc group)
      (with_queue (s.queue ++ keep (is_ready s) (marks s group))
      (with_slots (λ y. if (eqb (group_of y) group) (unmarked (s.slot_of y)) (s.slot_of y)) s)))
  unfolding group_of
  marks_after =
      record {
        slots_issued = v.same_marks.slots_issued ∙ sym same_issued_after;
        marked_issued = λ x l.
            let c : x < issued t = rw same_issued_after at l in
            let w : page_bit (set_group_cursor (collect_group t group) (group + 1)) x ≡ page_bit (collect_group t group) x = simp frames in
            slot x (eqb (x / 4096) group) c ∙ ap (λ (n : ℕ). eqb n 1) (sym (w ∙ bits_collected t group sh q k x c));
        unmarked_past = λ x l. past x (eqb (x / 4096) group) (v.same_marks.unmarked_past x (rw same_issued_after at l));
      }
    where
      slot : (x : ℕ) (b : Bool) → x < issued t → (if b (unmarked (s.slot_of x)) (s.slot_of x)).marked ≡ eqb (cond b 0 (page_bit t x)) 1
      slot x true l = refl
      slot x false l = v.same_marks.marked_issued x l

      past : (x : ℕ) (b : Bool) → (s.slot_of x).marked ≡ false → (if b (unmarked (s.slot_of x)) (s.slot_of x)).marked ≡ false
      past x true e = refl
      past x false e = e

  lanes_after : (x : ℕ) (b : Bool) → x < issued t
      → rules.both (if b (unmarked (s.slot_of x)) (s.slot_of x)).pending
      (rules.both (if b (unmarked (s.slot_of x)) (s.slot_of x)).registered (not (if b (unmarked (s.slot_of x)) (s.slot_of x)).paused))
      ≡ calling (lane_at (set_group_cursor (collect_group t group) (group + 1)) x)
  lanes_after x b l =
      let a : lane_at (set_group_cursor (collect_group t group) (group + 1)) x ≡ lane_at (collect_group t group) x = simp frames in
      same b ∙ v.same_lanes x l ∙ sym (ap calling a ∙ ap calling ((beside_group t group sh q).lanes x))
    where
      same : (b : Bool)
          → rules.both (if b (unmarked (s.slot_of x)) (s.slot_of x)).pending
          (rules.both (if b (unmarked (s.slot_of x)) (s.slot_of x)).registered (not (if b (unmarked (s.slot_of x)) (s.slot_of x)).paused))
          ≡ rules.both (s.slot_of x).pending (rules.both (s.slot_of x).registered (not (s.slot_of x).paused))
      same true = refl
      same false = refl

  -- the rules' collecting of a group that has bits
  pub sees_group : WordsFit t → (group_word t group ≡ 0 → ⊥) → Sees (set_group_cursor (collect_group t group) (group + 1)) (ready_rules.collect_group s group)
  sees_group f n =
      let (x, l, e) = some_marks t s k v.same_marks group h f n in
      subst (Sees (set_group_cursor (collect_group t group) (group + 1))) (sym (collect_some s group x l e))
      (record {
        same_marks = marks_after;
        same_queue = sym queue_after_lem;
        same_cursor = sym (stored ∙ omega arith);
        same_lanes = λ x l. lanes_after x (eqb (group_of x) group) (rw same_issued_after at l);
      })
    where
      stored : group_cursor (set_group_cursor (collect_group t group) (group + 1)) ≡ group + 1
      stored = simp (frames, header_in (collect_group t group) (kept_group t group sh q).shaped)

  -- of a group that has none
  pub sees_none : group_word t group ≡ 0 → ready_rules.collect_group s group ≡ s
  unfolding ready_rules.collect_group collect_marks
  sees_none z = rw (no_marks t s k v.same_marks group h z)
