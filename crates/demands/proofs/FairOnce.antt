-- Under fair receives, each other lane gives at most one item while lane x waits: once it has given, it stands behind x. Targeted receives of third lanes do not
-- change that.
-- Assumes nothing.
use mathlib.Core.Path.{◌≡◌, refl, ap, sym, ◌∙◌, subst}
use mathlib.Core.Logic.{◌≢◌}
use mathlib.Core.Bool.{Bool, true, false}
use mathlib.Core.List.{List, [], ◌∷◌, ◌++◌}
use Prim.Native.Nat.{ℕ, zero, suc, ◌+◌, ◌-◌, ◌≤◌}
use native.Mathlib.Omega.{arith}
use lib.ListN.{length}
use borrow.Author.Tests.{ne_eqb}
use Rattle.model.specs.declared.LaneKey.{LaneKey}
use Rattle.model.specs.declared.ReceiveCall.TheVariants.{TryRecv, TryRecvFair, TryRecvFrom, TryRecvBatchInto, TryRecvBatchIntoWhile}
use Rattle.model.specs.Lists.{if, same, count, keep, from, non_empty, without}
use Rattle.model.specs.State.{State, may_queue, key_of}
use Rattle.model.specs.Changes.{with_queue, with_budget, put, popped}
use Rattle.model.specs.Ready.{marks, is_ready, collect_group, groups_round, collect_first, collect_each, collect_ready_group, collect_ready}
use Rattle.model.specs.Turn.{unreleased_after_one, settle_empty, give_item, before_next_turn, run_down_from, run_down, collect_if_due, collect_if_none_queued, polled}
use Rattle.model.specs.Runs.{same_key, accepted, Tick, gives, ends, of_lane}
use Rattle.model.specs.Receive.{release_all, halted, queue_lane_if}
use Rattle.model.specs.Order.{Ordered}
use Rattle.model.specs.Stretch.{ends_wait, ends_stretch, other_receive, not_fair}
use Rattle.model.specs.EqualTurns.{out_of_turn}
use Rattle.demands.proofs.Counting.{Same, equal, other, same?, same_self, no, either_false, count_append}
use Rattle.demands.proofs.OrderKept.{front_alone, front_rest, settle_empty_queue, before_next_turn_queue, first_other}
use Rattle.demands.proofs.Quiet.{Hold, hold_quiet, poll, poll_quiet, poll_ordered, settle_empty_quiet, before_next_turn_quiet, collect_ready_quiet, collect_if_due_quiet, run_down_quiet, trans, budget_quiet}
use Rattle.demands.proofs.Ahead.{ahead, before, before_append, before_count}
use Rattle.demands.proofs.WaitInReceive.{On, Polled, polled_to, poll_on, collect_group_queue, fair_queued}
use Rattle.demands.proofs.Moves.{by_plain, by_batch, by_while, by_fair, Moves, stays_put, credits, registers_new, registers_old, sends, posts, drops_it, pauses_it, resumes, resumes_not, closes_it, polls_all, shuts_it, takes, stops, halts, aims, aims_none}
use Rattle.demands.proofs.MovesKeepOrder.{has_lane_parts}
use Rattle.demands.proofs.LedgerLaws.{alike, unlike, keys?}
use Rattle.demands.proofs.LedgerAgrees.{key_path}
use Rattle.demands.proofs.WaitInMoves.{Shrinks, shrinks_same, shrinks_append, shrinks_without, not_own, retire_lane_queue}

-- the queue through a fair poll
shrinks_trans : {x : ℕ} {p q r : List ℕ} → Shrinks x p q → Shrinks x q r → Shrinks x p r
shrinks_trans a b = record { stays_in = λ c. b.stays_in (a.stays_in c); ahead_less = λ c f. omega (arith, a.ahead_less c f, b.ahead_less (a.stays_in c) f); before_less = λ c y. omega (arith, a.before_less c y, b.before_less (a.stays_in c) y) }

shrinks_tail : (x y : ℕ) (q : List ℕ) → x ≢ y → Shrinks x (y ∷ q) q
unfolding ahead before
shrinks_tail x y q d = record {
  stays_in = λ c. omega (arith, first_other y x q (λ p. d (sym p)));
  ahead_less = λ c f. rw (ne_eqb x y d) (omega arith);
  before_less = λ c z. rw (ne_eqb x y d) (omega arith);
}

pub shrinks_to : {x : ℕ} {p q r : List ℕ} → q ≡ r → Shrinks x p r → Shrinks x p q
shrinks_to {x} {p} {q} {r} e h = subst (λ (l : List ℕ). Shrinks x p l) (sym e) h

collect_each_shrinks : (x : ℕ) (gs : List ℕ) (s : State) → Shrinks x s.queue (collect_each gs s).queue
unfolding collect_each
collect_each_shrinks x [] s = shrinks_same x s.queue
collect_each_shrinks x (g ∷ gs) s = shrinks_trans (shrinks_to (collect_group_queue s g) (shrinks_append x s.queue (keep (is_ready s) (marks s g)))) (collect_each_shrinks x gs (collect_group s g))

run_down_shrinks : {x g : ℕ} (q : List ℕ) (s : State) → s.queue ≡ q → Hold x g s → Shrinks x q (run_down_from q s).queue
unfolding run_down_from
run_down_shrinks {x} {g} [] s e h = shrinks_to e (shrinks_same x [])
run_down_shrinks {x} {g} (y ∷ q) s e h = go (s.slot_of y).ring refl (run_down_shrinks {x = x} {g = g} q (before_next_turn q (settle_empty y q s)) (before_next_turn_queue q q (settle_empty y q s) (settle_empty_queue y q s)))
  where
    t : State
    t = before_next_turn q (settle_empty y q s)

    go : (l : List ℕ) → (s.slot_of y).ring ≡ l → (Hold x g t → Shrinks x q (run_down_from q t).queue) → Shrinks x (y ∷ q) (if (non_empty l) s (run_down_from q t)).queue
    go [] r ih =
        shrinks_trans (shrinks_tail x y q (λ p. omega (arith, h.some_item, ap (λ (z : ℕ). length (s.slot_of z).ring) p, ap length r)))
        (ih (hold_quiet (trans (settle_empty_quiet y q s r) (before_next_turn_quiet q (settle_empty y q s))) h))
    go (v ∷ vs) r ih = shrinks_to e (shrinks_same x (y ∷ q))

pub fair_shrinks : {x g : ℕ} (s : State) → Hold x g s → Shrinks x s.queue (poll true s).queue
unfolding poll run_down collect_ready
fair_shrinks {x} {g} s h =
    shrinks_trans (collect_each_shrinks x (groups_round s) s) (run_down_shrinks {x = x} {g = g} _ (with_budget 64 (collect_each (groups_round s) s)) refl (hold_quiet (trans (collect_ready_quiet s) (budget_quiet 64 (collect_ready s))) h))

collect_first_shrinks : (x : ℕ) (gs : List ℕ) (s : State) → Shrinks x s.queue (collect_first gs s).queue
unfolding collect_first
collect_first_shrinks x [] s = shrinks_same x s.queue
collect_first_shrinks x (g ∷ gs) s = go (non_empty (marks s g)) (collect_first_shrinks x gs s)
  where
    go : (b : Bool) → Shrinks x s.queue (collect_first gs s).queue → Shrinks x s.queue (if b (collect_group s g) (collect_first gs s)).queue
    go true ih = shrinks_to (collect_group_queue s g) (shrinks_append x s.queue (keep (is_ready s) (marks s g)))
    go false ih = ih

collect_if_due_shrinks : (x n : ℕ) (q : List ℕ) (s : State) → Shrinks x s.queue (collect_if_due n q s).queue
unfolding collect_if_due collect_ready_group
collect_if_due_shrinks x zero (y ∷ q) s = collect_first_shrinks x (groups_round s) s
collect_if_due_shrinks x zero [] s = shrinks_same x s.queue
collect_if_due_shrinks x (suc n) q s = shrinks_same x s.queue

collect_if_none_shrinks : {x g : ℕ} (q : List ℕ) (s : State) → Hold x g s → Shrinks x s.queue (collect_if_none_queued q s).queue
unfolding collect_if_none_queued run_down collect_ready
collect_if_none_shrinks {x} {g} [] s h =
    shrinks_trans (collect_each_shrinks x (groups_round s) s) (run_down_shrinks {x = x} {g = g} _ (collect_each (groups_round s) s) refl (hold_quiet (collect_ready_quiet s) h))
collect_if_none_shrinks {x} (y ∷ q) s h = shrinks_same x s.queue

-- and through another poll
plain_shrinks : {x g : ℕ} (s : State) → Hold x g s → Shrinks x s.queue (poll false s).queue
unfolding poll polled run_down
plain_shrinks {x} {g} s h =
    let t = collect_if_due s.budget s.queue s in
    let due : Hold x g t = hold_quiet (collect_if_due_quiet s.budget s.queue s) h in
    shrinks_trans (collect_if_due_shrinks x s.budget s.queue s)
    (shrinks_trans (run_down_shrinks {x = x} {g = g} _ t refl due) (collect_if_none_shrinks {x = x} {g = g} _ (run_down t) (hold_quiet (run_down_quiet t) due)))

-- lane y may still give k: one, or none once it stands behind x
pub data Once (x y k : ℕ) (s : State) : Type 0 where
  fresh : 1 ≤ k → Once x y k s
  spent : 1 ≤ count x s.queue → before y s.queue x ≡ 0 → Once x y k s

pub once_shrinks : {x y k : ℕ} (s u : State) → Shrinks x s.queue u.queue → Once x y k s → Once x y k u
once_shrinks s u q (fresh l) = fresh l
once_shrinks {x} {y} s u q (spent c b) = spent (q.stays_in c) (omega (arith, q.before_less c y))

pub give_item_once : {x k : ℕ} (y : ℕ) (s : State) (z : ℕ) (q vs : List ℕ) → s.queue ≡ z ∷ q → x ≢ z → 1 ≤ count x s.queue → Ordered s → Once x y k s
    → (j : ℕ) × (same y z + j ≤ k) × Once x y j (give_item s z q vs true)
unfolding give_item before count
give_item_once {x} {k} y s z q vs e d i o w = go (same? y z) w
  where
    behind_it : 1 ≤ count x q
    behind_it = omega (arith, front_rest s z q e x (λ p. d (sym p)))

    there : 1 ≤ count x (q ++ (z ∷ []))
    there = omega (arith, behind_it, count_append x q (z ∷ []))

    here : before y (q ++ (z ∷ [])) x ≡ before y q x
    here = before_append y q (z ∷ []) x behind_it

    go : Same y z → Once x y k s → (j : ℕ) × (same y z + j ≤ k) × Once x y j (give_item s z q vs true)
    go (equal p f u) (fresh l) = (k - 1, omega arith, spent there (omega (arith, here, before_count y q x, front_alone s z q e o, ap (λ (n : ℕ). count n q) p)))
    go (equal p f u) (spent c b) = absurd (omega (arith, rw (ne_eqb x z d) at (rw e at b)))
    go (other g f u) (fresh l) = (k, omega arith, fresh l)
    go (other g f u) (spent c b) = (k, omega arith, spent there (omega (arith, here, rw (ne_eqb x z d) at (rw e at b))))

-- every move of a stretch whose items are not out of turn
pub record Singly (x : ℕ) (j : LaneKey) (c k : ℕ) (u : State) : Type 0 where
  pub rest : ℕ
  pub pays : c + rest ≤ k
  pub once : Once x j.slot rest u

pub key_same : (i j : LaneKey) → (if (same_key i j) 1 0) ≤ same j.slot i.slot
key_same i j = elim (keys? i j) [
  | alike p e ↦ rw e (omega (arith, ap (λ (a : LaneKey). same j.slot a.slot) p, same_self j.slot))
  | unlike d e ↦ rw e (omega arith)
]

-- what a fair receive hands out is not out of turn, whichever two lanes are asked about
pub fair_in_turn : (a b : LaneKey) (t : Tick) → not_fair t ≡ false → out_of_turn a b t ≡ false
unfolding not_fair other_receive out_of_turn
fair_in_turn a b (gives TryRecv j v) e = absurd (no refl e)
fair_in_turn a b (gives TryRecvFair j v) e = refl
fair_in_turn a b (gives (TryRecvFrom i) j v) e = absurd (no refl e)
fair_in_turn a b (gives (TryRecvBatchInto limit room) j v) e = absurd (no refl e)
fair_in_turn a b (gives (TryRecvBatchIntoWhile limit bound room) j v) e = absurd (no refl e)
fair_in_turn a b (ends c x) e = refl

-- a targeted receive leaves its lane where it stands, or puts it at the back
queue_lane_shrinks : (b : Bool) (x y : ℕ) (s : State) → Shrinks x s.queue (queue_lane_if b y s).queue
unfolding queue_lane_if
queue_lane_shrinks true x y s = shrinks_append x s.queue (y ∷ [])
queue_lane_shrinks false x y s = shrinks_same x s.queue

module _ (E R : ℕ) (K j : LaneKey) where
  calmly : {k : ℕ} (s u : State) → Shrinks K.slot s.queue u.queue → Once K.slot j.slot k s → Singly K.slot j 0 k u
  calmly {k} s u q o = record { rest = k; pays = omega arith; once = once_shrinks s u q o }

  pub move_once : {s u : State} {t : Tick} (n k : ℕ) → On E R K.slot K.generation n s → Moves s t u → ends_stretch K t ≡ false → out_of_turn K j t ≡ false → Once K.slot j.slot k s → Singly K.slot j (if (of_lane j t) 1 0) k u
  unfolding ends_stretch accepted ends_wait out_of_turn of_lane release_all halted
  move_once n k w (stays_put s c a h) f b o = calmly s s (shrinks_same _ _) o
  move_once n k w (credits s c a h) f b o = calmly s _ (shrinks_same _ _) o
  move_once n k w (registers_new s m lt) f b o = calmly s _ (shrinks_same _ _) o
  move_once n k w (registers_old s m y i l) f b o = calmly s _ (shrinks_same _ _) o
  move_once n k w (sends s i v a free c r nf) f b o = calmly s _ (shrinks_same _ _) o
  move_once n k w (posts s i v a free c r nf) f b o = calmly s _ (shrinks_same _ _) o
  move_once n k w (drops_it s i a) f b o = calmly s _ (shrinks_same _ _) o
  move_once n k w (pauses_it s i c) f b o = calmly s _ (shrinks_without K.slot i.key.slot s.queue (not_own s K i.key w.hold (has_lane_parts s i.key c).1 f)) o
  move_once n k w (resumes s i c p) f b o = calmly s _ (shrinks_append K.slot s.queue (i.key.slot ∷ [])) o
  move_once n k w (resumes_not s i c p) f b o = calmly s s (shrinks_same _ _) o
  move_once n k w (closes_it s i c) f b o =
      calmly s _ (shrinks_to (retire_lane_queue i.key.slot (with_queue (without i.key.slot s.queue) s)) (shrinks_without K.slot i.key.slot s.queue (not_own s K i.key w.hold (has_lane_parts s i.key c).1 f))) o
  move_once n k w (polls_all s) f b o = calmly s _ (shrinks_append K.slot s.queue (keep (may_queue s) (from 0 s.issued))) o
  move_once n k w (shuts_it s) f b o = absurd (no refl f)
  move_once n k w (takes c r s y v q vs by_plain e i) f b o = absurd (no refl b)
  move_once n k w (takes c r s y v q vs (by_batch l m) e i) f b o = absurd (no refl b)
  move_once n k w (takes c r s y v q vs (by_while l a m) e i) f b o = absurd (no refl b)
  move_once n k w (takes c r s y v q vs by_fair e i) f b o =
      let p = poll true s in
      let d = not_own p K (key_of p y) (hold_quiet (poll_quiet true s) w.hold) refl f in
      let r = give_item_once j.slot p y q vs e d (fair_queued E R K.slot K.generation s w) (poll_ordered true s w.ord) (once_shrinks s p (fair_shrinks s w.hold) o) in
      record { rest = r.0; pays = omega (arith, r.1, key_same (key_of p y) j); once = r.2 }
  move_once n k w (stops b r s u a h e q l m) f c o = absurd (go (poll_on E R K.slot K.generation b s w))
    where
      go : Polled E R K.slot K.generation n (poll b s) → ⊥
      go (polled_to a pd ne) = ne e
  move_once n k w (halts s m a l i y q e h) f b o = calmly s _ (plain_shrinks s w.hold) o
  move_once n k w (aims s i v vs c e) f b o =
      let y = i.key.slot in
      let same : key_of s y ≡ i.key = key_path (key_of s y) i.key refl (has_lane_parts s i.key c).1 in
      let third : same_key (key_of s y) j ≡ false = ap (λ (z : LaneKey). same_key z j) same ∙ (either_false (same_key i.key K) (same_key i.key j) b).1 in
      rw third (calmly s _ (queue_lane_shrinks (may_queue s y) K.slot y (put y (popped vs (unreleased_after_one s y) (s.slot_of y).burst (s.slot_of y)) s)) o)
  move_once n k w (aims_none s i a c e h) f b o =
      let d : K.slot ≢ i.key.slot = λ p. omega (arith, w.hold.some_item, ap (λ (z : ℕ). length (s.slot_of z).ring) p, ap length e) in
      calmly s _ (shrinks_to (settle_empty_queue i.key.slot (without i.key.slot s.queue) s) (shrinks_without K.slot i.key.slot s.queue d)) o
