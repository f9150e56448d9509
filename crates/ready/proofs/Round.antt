-- The definition counts the groups that are left down to 0: `Round` is the loop's invariant, that what is left to do from
-- here gives what was to be done.
-- Assumes nothing.
use mathlib.Core.Path.{◌≡◌, refl, sym, ap, ◌∙◌, subst}
use mathlib.Core.Bool.{Bool, true, false}
use mathlib.Core.List.{List}
use Prim.Native.Nat.{ℕ, zero, suc, ◌+◌, ◌-◌, ◌*◌, ◌≤◌, ◌<◌}
use native.Mathlib.Nat.{le_refl}
use native.Mathlib.Omega.{arith}
use borrow.Author.Tests.{eq-eqb, ne_eqb}
use Rattle.queues.specs.Header.{Shaped, issued, group_cursor, set_group_cursor}
use Rattle.queues.specs.Queue.{QueueNames}
use Rattle.ready.specs.Ready.{group_word, Linked, collect_group, group_count, group_at, collected_from, collect_ready}
use Rattle.ready.proofs.CollectLaws.{Kept, kept_self, kept_then, Keeps, keeps_group}

-- ---- one turn of the definition, at the code's `left - 1` and at what the code has for the group and for the table

pred_suc : (k : ℕ) → suc k - 1 ≡ k
pred_suc k = omega arith

module _ (n : ℕ) (all : Bool) (t : List ℕ) (next g : ℕ) (at : g ≡ group_at n next) where
  from_none : (left : ℕ) → (left ≡ 0 → ⊥) → group_word t g ≡ 0 → collected_from n left all t next ≡ collected_from n (left - 1) all t (g + 1)
  unfolding collected_from
  from_none zero h e = absurd (h refl)
  from_none (suc k) h e = rw (← at, eq-eqb _ _ e, pred_suc k)

  module _ (u : List ℕ) (did : u ≡ collect_group t g) (some : group_word t g ≡ 0 → ⊥) where
    from_all : (left : ℕ) → (left ≡ 0 → ⊥) → all ≡ true → collected_from n left all t next ≡ collected_from n (left - 1) all (set_group_cursor u (g + 1)) (g + 1)
    unfolding collected_from
    from_all zero h e = absurd (h refl)
    from_all (suc k) h e = rw (e, ← at, ne_eqb _ _ some, pred_suc k, did)

    from_first : (left : ℕ) → (left ≡ 0 → ⊥) → all ≡ false → collected_from n left all t next ≡ set_group_cursor u (g + 1)
    unfolding collected_from
    from_first zero h e = absurd (h refl)
    from_first (suc k) h e = rw (e, ← at, ne_eqb _ _ some, did)

-- ---- the invariant

pub record Round (n : ℕ) (all : Bool) (t₀ t : List ℕ) (left next : ℕ) : Type 0 where
  pub kept : Kept t₀ t
  pub linked : Linked t
  pub groups : group_count (issued t₀) ≡ n
  pub most : left ≤ n
  pub same : collected_from n left all t next ≡ collect_ready all t₀

pub round_start : (n : ℕ) (all : Bool) (t : List ℕ) → Shaped t → QueueNames t → Linked t → n ≡ group_count (issued t) → Round n all t t n (group_cursor t)
unfolding collect_ready
round_start n all t s q l e =
    record {
      kept = kept_self t s q;
      linked = l;
      groups = sym e;
      most = le_refl n;
      same = ap (λ (m : ℕ). collected_from m m all t (group_cursor t)) e;
    }

-- as many left, written otherwise
pub round_left : {n : ℕ} {all : Bool} {t₀ t : List ℕ} {left left' next : ℕ} → left ≡ left' → Round n all t₀ t left next → Round n all t₀ t left' next
round_left {n} {all} {t₀} {t} {left} {left'} {next} e k = subst (λ (x : ℕ). Round n all t₀ t x next) e k

module _ {n : ℕ} {all : Bool} {t₀ t : List ℕ} {left next : ℕ} (k : Round n all t₀ t left next) where
  -- a group below n exists, and n is at most 2
  pub group_exists : (g : ℕ) → g < n → 4096 * g < issued t
  group_exists g l = omega (arith, k.groups, k.kept.same_issued)

  pub groups_most : n ≤ 2
  groups_most = omega (arith, k.groups, k.kept.same_issued, k.kept.shaped.issued_most, k.kept.shaped.slots_most)

  module _ (h : left ≡ 0 → ⊥) (g : ℕ) (at : g ≡ group_at n next) where
    pub round_none : group_word t g ≡ 0 → Round n all t₀ t (left - 1) (g + 1)
    round_none e =
        record { kept = k.kept; linked = k.linked; groups = k.groups; most = omega (arith, k.most); same = sym (from_none n all t next g at left h e) ∙ k.same }

    module _ (u : List ℕ) (did : u ≡ collect_group t g) (low : g < n) where
      keeps_round : Keeps t (set_group_cursor u (g + 1))
      keeps_round =
          subst (λ (w : List ℕ). Keeps t (set_group_cursor w (g + 1))) (sym did)
          (keeps_group t g k.kept.shaped k.kept.names k.linked (omega (arith, k.groups, k.kept.same_issued)))

      pub kept_round : Kept t₀ (set_group_cursor u (g + 1))
      kept_round = kept_then k.kept keeps_round.kept

      pub round_all : (group_word t g ≡ 0 → ⊥) → all ≡ true → Round n all t₀ (set_group_cursor u (g + 1)) (left - 1) (g + 1)
      round_all some e =
          record { kept = kept_round; linked = keeps_round.linked; groups = k.groups; most = omega (arith, k.most); same = sym (from_all n all t next g at u did some left h e) ∙ k.same }

      pub round_first : (group_word t g ≡ 0 → ⊥) → all ≡ false → set_group_cursor u (g + 1) ≡ collect_ready all t₀
      round_first some e = sym (from_first n all t next g at u did some left h e) ∙ k.same

  pub round_end : left ≡ 0 → t ≡ collect_ready all t₀
  unfolding collected_from
  round_end e = subst (λ (x : ℕ). collected_from n x all t next ≡ collect_ready all t₀) e k.same
