-- Collecting from the group cursor round is the rules' collecting, of all groups and of the first that has bits.
-- Assumes nothing.
use mathlib.Core.Path.{◌≡◌, refl, sym, ap, ◌∙◌, subst}
use mathlib.Core.Bool.{Bool, true, false, cond}
use mathlib.Core.List.{List, [], ◌∷◌, ◌++◌}
use Prim.Native.Nat.{ℕ, zero, suc, ◌+◌, ◌-◌, ◌*◌, ◌≤◌, ◌<◌}
use native.Mathlib.Omega.{arith}
use borrow.Author.Tests.{eqb-true, eqb-false}
use lib.Dec.{ltb, eqb}
use Rattle.model.specs.Lists.{if, from, non_empty}
use Rattle.model.specs.State.{State}
use Rattle.model.specs.Ready.{marks, collect_first, collect_each, groups_in, start_group, groups_round, collect_ready_group}
use Rattle.model.specs.Ready as rules
use Rattle.lane.proofs.TableLaws.{frames}
use Rattle.queues.specs.Header.{Shaped, issued, group_cursor, set_group_cursor}
use Rattle.queues.specs.Queue.{QueueNames}
use Rattle.ready.specs.Ready.{group_word, Linked, collect_group, group_count, group_at, collected_from, collect_ready}
use Rattle.ready.proofs.CollectLaws.{keeps_group, group_lt}
use Rattle.ready.proofs.CollectedState.{WordsFit, fit_collected, no_marks, some_marks, Sees, sees_group, sees_none}

-- ---- the groups that are looked at: k of n, from `next` round

unfoldable round : ℕ → ℕ → ℕ → List ℕ
round n zero next = []
round n (suc k) next = group_at n next ∷ round n k (group_at n next + 1)

-- with at most two groups, these are the rules'
rounds : (n c : ℕ) → n ≤ 2 → c ≤ 2 → round n n c ≡ from (if (ltb c n) c 0) (n - if (ltb c n) c 0) ++ from 0 (if (ltb c n) c 0)
unfolding round group_at from
rounds zero zero h g = refl
rounds zero (suc zero) h g = refl
rounds zero (suc (suc zero)) h g = refl
rounds zero (suc (suc (suc c))) h g = absurd (omega arith)
rounds (suc zero) zero h g = refl
rounds (suc zero) (suc zero) h g = refl
rounds (suc zero) (suc (suc zero)) h g = refl
rounds (suc zero) (suc (suc (suc c))) h g = absurd (omega arith)
rounds (suc (suc zero)) zero h g = refl
rounds (suc (suc zero)) (suc zero) h g = refl
rounds (suc (suc zero)) (suc (suc zero)) h g = refl
rounds (suc (suc zero)) (suc (suc (suc c))) h g = absurd (omega arith)
rounds (suc (suc (suc n))) c h g = absurd (omega arith)

-- ---- one group and the cursor after it

-- what every step needs
record Ready (n : ℕ) (t : List ℕ) (s : State) : Type 0 where
  shaped : Shaped t
  names : QueueNames t
  linked : Linked t
  fit : WordsFit t
  groups : group_count (issued t) ≡ n
  sees : Sees t s

module _ {n : ℕ} {t : List ℕ} {s : State} (r : Ready n t s) (g : ℕ) (low : g < n) where
  exists : 4096 * g < issued t
  exists = omega (arith, r.groups)

  ready_group : (group_word t g ≡ 0 → ⊥) → Ready n (set_group_cursor (collect_group t g) (g + 1)) (rules.collect_group s g)
  ready_group some =
      let a = keeps_group t g r.shaped r.names r.linked (omega (arith, r.groups)) in
      let f = fit_collected t g r.shaped r.names r.linked r.fit exists in
      record {
        shaped = a.kept.shaped;
        names = a.kept.names;
        linked = a.linked;
        fit = record { pages_fit = simp frames f.pages_fit; groups_fit = simp frames f.groups_fit };
        groups = ap group_count a.kept.same_issued ∙ r.groups;
        sees = sees_group t s g r.shaped r.names r.linked r.sees exists r.fit some;
      }

-- ---- all groups, and the first that has bits

sees_each : (n k : ℕ) (t : List ℕ) (s : State) (next : ℕ) → k ≤ n → Ready n t s → Sees (collected_from n k true t next) (collect_each (round n k next) s)
unfolding collected_from round collect_each
sees_each n zero t s next h r = r.sees
sees_each n (suc k) t s next h r =
    let g = group_at n next in
    let low : g < n = group_lt n next (omega arith) in
    go (eqb (group_word t g) 0) refl low
    (sees_each n k t s (g + 1) (omega arith) r)
    (λ r'. sees_each n k (set_group_cursor (collect_group t g) (g + 1)) (rules.collect_group s g) (g + 1) (omega arith) r')
  where
    go : (b : Bool) → eqb (group_word t (group_at n next)) 0 ≡ b → group_at n next < n
        → Sees (collected_from n k true t (group_at n next + 1)) (collect_each (round n k (group_at n next + 1)) s)
        → (Ready n (set_group_cursor (collect_group t (group_at n next)) (group_at n next + 1)) (rules.collect_group s (group_at n next))
        → Sees (collected_from n k true (set_group_cursor (collect_group t (group_at n next)) (group_at n next + 1)) (group_at n next + 1))
        (collect_each (round n k (group_at n next + 1)) (rules.collect_group s (group_at n next))))
        → Sees (cond b (collected_from n k true t (group_at n next + 1))
        (collected_from n k true (set_group_cursor (collect_group t (group_at n next)) (group_at n next + 1)) (group_at n next + 1)))
        (collect_each (round n k (group_at n next + 1)) (rules.collect_group s (group_at n next)))
    go true e low a f =
        rw (sees_none t s (group_at n next) r.shaped r.names r.linked r.sees (exists r (group_at n next) low) (eqb-true (group_word t (group_at n next)) 0 e)) a
    go false e low a f = f (ready_group r (group_at n next) low (eqb-false (group_word t (group_at n next)) 0 e))

sees_first : (n k : ℕ) (t : List ℕ) (s : State) (next : ℕ) → k ≤ n → Ready n t s → Sees (collected_from n k false t next) (collect_first (round n k next) s)
unfolding collected_from round collect_first
sees_first n zero t s next h r = r.sees
sees_first n (suc k) t s next h r =
    let g = group_at n next in
    go (eqb (group_word t g) 0) refl (group_lt n next (omega arith)) (sees_first n k t s (g + 1) (omega arith) r)
  where
    go : (b : Bool) → eqb (group_word t (group_at n next)) 0 ≡ b → group_at n next < n
        → Sees (collected_from n k false t (group_at n next + 1)) (collect_first (round n k (group_at n next + 1)) s)
        → Sees (cond b (collected_from n k false t (group_at n next + 1)) (set_group_cursor (collect_group t (group_at n next)) (group_at n next + 1)))
        (if (non_empty (marks s (group_at n next))) (rules.collect_group s (group_at n next)) (collect_first (round n k (group_at n next + 1)) s))
    go true e low a =
        rw (no_marks t s r.linked r.sees.same_marks (group_at n next) (exists r (group_at n next) low) (eqb-true (group_word t (group_at n next)) 0 e)) a
    go false e low a =
        let some = eqb-false (group_word t (group_at n next)) 0 e in
        let (x, l, m) = some_marks t s r.linked r.sees.same_marks (group_at n next) (exists r (group_at n next) low) r.fit some in
        subst (λ (b : Bool). Sees (set_group_cursor (collect_group t (group_at n next)) (group_at n next + 1)) (if b (rules.collect_group s (group_at n next)) (collect_first (round n k (group_at n next + 1)) s)))
        (sym (ap non_empty m)) (ready_group r (group_at n next) low some).sees

-- ---- from the group cursor round

module _ (t : List ℕ) (s : State) (sh : Shaped t) (q : QueueNames t) (k : Linked t) (f : WordsFit t) (v : Sees t s) where
  start : Ready (group_count (issued t)) t s
  start = record { shaped = sh; names = q; linked = k; fit = f; groups = refl; sees = v }

  the_rounds : round (group_count (issued t)) (group_count (issued t)) (group_cursor t) ≡ groups_round s
  unfolding groups_round start_group groups_in
  the_rounds =
      rounds (group_count (issued t)) (group_cursor t) (omega (arith, sh.issued_most, sh.slots_most)) sh.cursor_most
      ∙ rw (v.same_marks.slots_issued, v.same_cursor)

  -- "all groups"
  pub collects_all : Sees (collect_ready true t) (rules.collect_ready s)
  unfolding collect_ready rules.collect_ready
  collects_all =
      subst (λ (l : List ℕ). Sees (collected_from (group_count (issued t)) (group_count (issued t)) true t (group_cursor t)) (collect_each l s)) the_rounds
      (sees_each (group_count (issued t)) (group_count (issued t)) t s (group_cursor t) (omega arith) start)

  -- "Collecting one group stops after the first that had any."
  pub collects_first : Sees (collect_ready false t) (collect_ready_group s)
  unfolding collect_ready collect_ready_group
  collects_first =
      subst (λ (l : List ℕ). Sees (collected_from (group_count (issued t)) (group_count (issued t)) false t (group_cursor t)) (collect_first l s)) the_rounds
      (sees_first (group_count (issued t)) (group_count (issued t)) t s (group_cursor t) (omega arith) start)
