-- Where no group has bits there is nothing to collect.
-- Assumes nothing.
use mathlib.Core.Bool.{Bool, true, false, cond}
use mathlib.Core.List.{List}
use mathlib.Core.Path.{◌≡◌, refl, sym, ap, ◌∙◌}
use Prim.Native.Nat.{ℕ, zero, suc, ◌+◌, ◌-◌, ◌<◌, ◌≤◌}
use native.Mathlib.Omega.{arith}
use borrow.Author.Tests.{eq-eqb, ne_eqb, eqb-true, eqb-false, ltb-true}
use lib.Dec.{eqb, ltb}
use lib.ListN.{length}
use Rattle.lane.specs.Table.{HasRow}
use Rattle.queues.specs.Header.{Shaped, issued, group_cursor}
use Rattle.ready.specs.Ready.{group_word, group_count, group_at, collected_from, collect_ready, has_ready}

pred_suc : (k : ℕ) → suc k - 1 ≡ k
pred_suc k = omega arith

module _ (t : List ℕ) where
  -- the last of n groups has bits
  pub any_here : (n : ℕ) → (n ≡ 0 → ⊥) → (group_word t (n - 1) ≡ 0 → ⊥) → has_ready n t ≡ true
  unfolding has_ready
  any_here zero h m = absurd (h refl)
  any_here (suc k) h m = simp (ne_eqb (group_word t k) 0 (rw (pred_suc k) at m))

  -- it has none
  pub any_below : (n : ℕ) → (n ≡ 0 → ⊥) → group_word t (n - 1) ≡ 0 → has_ready n t ≡ has_ready (n - 1) t
  unfolding has_ready
  any_below zero h e = absurd (h refl)
  any_below (suc k) h e = rw (pred_suc k) (simp (eq-eqb (group_word t k) 0 (rw (pred_suc k) at e)))

  none_has : (n : ℕ) → has_ready n t ≡ false → (g : ℕ) → g < n → group_word t g ≡ 0
  unfolding has_ready
  none_has zero e g h = absurd (omega arith)
  none_has (suc k) e g h = go (eqb (group_word t k) 0) refl e (λ f. none_has k f g)
    where
      go : (b : Bool) → eqb (group_word t k) 0 ≡ b → cond b (has_ready k t) true ≡ false → (has_ready k t ≡ false → g < k → group_word t g ≡ 0) → group_word t g ≡ 0
      go true a f below = at (eqb g k) refl
        where
          at : (b : Bool) → eqb g k ≡ b → group_word t g ≡ 0
          at true s = rw (eqb-true g k s) (eqb-true (group_word t k) 0 a)
          at false s = below f (nearer (eqb-false g k s) h)
            where
              nearer : (g ≡ k → ⊥) → g < suc k → g < k
              nearer n l = omega arith
      go false a f below = let z : true ≡ false = f in let y : ◌≡◌ {A = ℕ} 0 1 = cc in absurd (omega arith)

  at_below : (n next : ℕ) → 0 < n → group_at n next < n
  unfolding group_at
  at_below n next h = go (ltb next n) refl
    where
      go : (b : Bool) → ltb next n ≡ b → cond b next 0 < n
      go true e = ltb-true next n e
      go false e = h

  nothing_from : (n k : ℕ) (all : Bool) (next : ℕ) → 0 < n → ((g : ℕ) → g < n → group_word t g ≡ 0) → collected_from n k all t next ≡ t
  unfolding collected_from
  nothing_from n zero all next h z = refl
  nothing_from n (suc k) all next h z =
      simp (eq-eqb (group_word t (group_at n next)) 0 (z (group_at n next) (at_below n next h))) (nothing_from n k all (group_at n next + 1) h z)

  pub none_collected : (all : Bool) → has_ready (group_count (issued t)) t ≡ false → collect_ready all t ≡ t
  unfolding collect_ready collected_from
  none_collected all e = go (group_count (issued t)) e
    where
      go : (n : ℕ) → has_ready n t ≡ false → collected_from n n all t (group_cursor t) ≡ t
      go zero f = refl
      go (suc k) f = nothing_from (suc k) (suc k) all (group_cursor t) (omega arith) (none_has (suc k) f)

  -- no group is left to look at
  pub none_left : {b : Bool} {n : ℕ} → b ≡ has_ready n t → n ≡ 0 → false ≡ b
  unfolding has_ready
  none_left e z = sym (e ∙ ap (λ (k : ℕ). has_ready k t) z)

  -- a group that exists has a row
  pub groups_fit : (n : ℕ) → Shaped t → n ≤ group_count (issued t) → (n ≡ 0 → ⊥) → HasRow (n - 1) (length t)
  groups_fit n s h z = omega (arith, s.issued_most, s.room)
