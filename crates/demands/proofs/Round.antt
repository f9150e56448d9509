-- The way from the group cursor round: the first group with bits on it, which collecting one takes, and the last, behind which the cursor stands after collecting all.
-- Assumes nothing.
use mathlib.Core.Path.{◌≡◌, refl, ap, sym, ◌∙◌}
use mathlib.Core.Logic.{◌≢◌}
use mathlib.Core.Bool.{Bool, true, false}
use mathlib.Core.List.{List, [], ◌∷◌, ◌++◌, append-nil}
use Prim.Native.Nat.{ℕ, zero, suc, ◌+◌, ◌*◌, ◌-◌, ◌%◌, ◌≤◌, ◌<◌}
use native.Mathlib.Omega.{arith}
use lib.Arith.{digits_mod}
use lib.Dec.{eqb, ltb}
use borrow.Author.Tests.{ltb-true, ltb-false, ne_eqb}
use Rattle.model.specs.Lists.{if, both, non_empty, from}
use Rattle.model.specs.State.{State}
use Rattle.model.specs.Changes.{unmarked}
use Rattle.model.specs.Ready.{group_of, groups_in, marks, collect_marks, collect_group, start_group, groups_round, collect_first, collect_each, collect_ready_group, collect_ready}
use Rattle.model.specs.Order.{Ordered}
use Rattle.model.specs.Collections.{groups_before}
use Rattle.demands.proofs.Counting.{equal, other, same?, no}
use Rattle.demands.proofs.OrderKept.{start_group_le}
use Rattle.demands.proofs.Pages.{keep_same}
use Rattle.demands.proofs.WaitInReceive.{collect_group_cursor}

-- ---- how far a group is on the way

-- of n groups, from group c on: group h, from c on, and one before c
distance_on : (n c h : ℕ) → c ≤ h → h < n → (h + (n - c)) % n ≡ h - c
distance_on n c h l u = ap (λ (z : ℕ). z % n) (whole n c h l u) ∙ digits_mod 1 (omega arith)
  where
    whole : (n c h : ℕ) → c ≤ h → h < n → h + (n - c) ≡ 1 * n + (h - c)
    whole n c h l u = omega arith

distance_round : (n c h : ℕ) → h < c → c ≤ n → (h + (n - c)) % n ≡ h + (n - c)
distance_round n c h l u = ap (λ (z : ℕ). z % n) (alone n (h + (n - c))) ∙ digits_mod 0 (omega arith)
  where
    alone : (n r : ℕ) → r ≡ 0 * n + r
    alone n r = omega arith

-- the cursor is at the first group on the way, or past the last group, and then that is group 0
before_on : (s : State) → Ordered s → (h : ℕ) → start_group s ≤ h → h < groups_in s.issued → groups_before s h ≡ h - start_group s
unfolding groups_before start_group
before_on s o h = go (ltb s.cursor (groups_in s.issued)) refl
  where
    n : ℕ
    n = groups_in s.issued

    go : (b : Bool) → ltb s.cursor n ≡ b → if b s.cursor 0 ≤ h → h < n → (h + (n - s.cursor)) % n ≡ h - if b s.cursor 0
    go true e l u = distance_on n s.cursor h l u
    go false e l u = distance_round n s.cursor h (omega (arith, ltb-false s.cursor n e)) o.cursor_most ∙ past s.cursor (ltb-false s.cursor n e)
      where
        past : (c : ℕ) → n ≤ c → h + (n - c) ≡ h - 0
        past c l = omega arith

before_round : (s : State) (h : ℕ) → h < start_group s → groups_before s h ≡ h + (groups_in s.issued - start_group s)
unfolding groups_before start_group
before_round s h = go (ltb s.cursor (groups_in s.issued)) refl
  where
    n : ℕ
    n = groups_in s.issued

    go : (b : Bool) → ltb s.cursor n ≡ b → h < if b s.cursor 0 → (h + (n - s.cursor)) % n ≡ h + (n - if b s.cursor 0)
    go true e l = distance_round n s.cursor h l (omega (arith, ltb-true s.cursor n e))
    go false e l = absurd (omega arith)

abbrev Bits : State → ℕ → Bool
Bits s g = non_empty (marks s g)

-- no group from a to b - 1 has bits
abbrev NoBits : State → ℕ → ℕ → Type 0
NoBits s a b = (h : ℕ) → a ≤ h → h < b → Bits s h ≡ false

-- ---- the first

-- groups a to a + k - 1, and then others: one of these is the first with bits and u is what collecting it leaves; or none has bits, and u is v
data First (s : State) (a k : ℕ) (u v : State) : Type 0 where
  Found : (f : ℕ) → a ≤ f → f < a + k → Bits s f ≡ true → NoBits s a f → u ≡ collect_group s f → First s a k u v
  none : NoBits s a (a + k) → u ≡ v → First s a k u v

first_in : (s : State) (a k : ℕ) (gs : List ℕ) → First s a k (collect_first (from a k ++ gs) s) (collect_first gs s)
unfolding collect_first from
first_in s a zero gs = none (λ h l m. absurd (omega arith)) refl
first_in s a (suc k) gs = go (Bits s a) refl (first_in s (suc a) k gs)
  where
    u : State
    u = collect_first (from (suc a) k ++ gs) s

    from_next : (h : ℕ) → Bits s a ≡ false → a ≤ h → (suc a ≤ h → Bits s h ≡ false) → Bits s h ≡ false
    from_next h e l n = elim (same? a h) [ equal p c w ↦ ap (Bits s) (sym p) ∙ e | other d c w ↦ n (omega arith) ]

    go : (b : Bool) → Bits s a ≡ b → First s (suc a) k u (collect_first gs s) → First s a (suc k) (if b (collect_group s a) u) (collect_first gs s)
    go true e r = Found a (omega arith) (omega arith) e (λ h l m. absurd (omega arith)) refl
    go false e (Found f l m t n q) = Found f (omega arith) (omega arith) t (λ h i j. from_next h e i (λ g. n h g j)) q
    go false e (none n q) = none (λ h i j. from_next h e i (λ g. n h g (omega arith))) q

-- this group has bits, no group on the way before it has, and collecting one group takes it
pub record TakesFirst (s : State) : Type 0 where
  pub group : ℕ
  pub has_bits : non_empty (marks s group) ≡ true
  pub is_taken : collect_ready_group s ≡ collect_group s group
  pub none_before : (h : ℕ) → h < groups_in s.issued → groups_before s h < groups_before s group → non_empty (marks s h) ≡ false

pub takes_first : (s : State) → Ordered s → (g : ℕ) → g < groups_in s.issued → non_empty (marks s g) ≡ true → TakesFirst s
unfolding collect_ready_group groups_round
takes_first s o g low m = go (first_in s a (n - a) (from 0 a)) (first_in s 0 a [])
  where
    a : ℕ
    a = start_group s

    n : ℕ
    n = groups_in s.issued

    inside : a ≤ n
    inside = start_group_le s

    two_parts : {z : ℕ} → NoBits s a (a + (n - a)) → NoBits s 0 z → z ≤ a → (h : ℕ) → h < n → (h < a → h < z) → Bits s h ≡ false
    two_parts x y w h u f = split (ltb h a) refl
      where
        split : (b : Bool) → ltb h a ≡ b → Bits s h ≡ false
        split true e = y h (omega arith) (f (ltb-true h a e))
        split false e = x h (ltb-false h a e) (omega (arith, inside))

    go : First s a (n - a) (collect_first (from a (n - a) ++ from 0 a) s) (collect_first (from 0 a) s) → First s 0 a (collect_first (from 0 a ++ []) s) (collect_first [] s) → TakesFirst s
    go (Found f l u t b q) r = record { group = f; has_bits = t; is_taken = q; none_before = before }
      where
        f_low : f < n
        f_low = omega (arith, u, inside)

        before : (h : ℕ) → h < n → groups_before s h < groups_before s f → Bits s h ≡ false
        before h v w = split (ltb h a) refl
          where
            split : (c : Bool) → ltb h a ≡ c → Bits s h ≡ false
            split true e = absurd (omega (arith, w, before_round s h (ltb-true h a e), before_on s o f l f_low, f_low, inside))
            split false e = b h (ltb-false h a e) (omega (arith, w, before_on s o h (ltb-false h a e) v, before_on s o f l f_low))
    go (none x p) (Found f l u t b q) = record { group = f; has_bits = t; is_taken = p ∙ ap (λ (gs : List ℕ). collect_first gs s) (sym (append-nil (from 0 a))) ∙ q; none_before = before }
      where
        before : (h : ℕ) → h < n → groups_before s h < groups_before s f → Bits s h ≡ false
        before h v w = two_parts x b (omega arith) h v (λ e. omega (arith, w, before_round s h e, before_round s f (omega arith)))
    go (none x p) (none y q) = absurd (no m (two_parts x y (omega arith) g low (λ e. omega arith)))

-- ---- the last

both_no : (b : Bool) → both b false ≡ false
both_no true = refl
both_no false = refl

-- collecting a group leaves the bits of the others
marks_other : (s : State) (g h : ℕ) → g ≢ h → marks (collect_group s g) h ≡ marks s h
unfolding marks collect_group collect_marks
marks_other s g h d = go (marks s g)
  where
    unmark : (y : ℕ) → both (if (eqb (group_of y) g) (unmarked (s.slot_of y)) (s.slot_of y)).marked (eqb (group_of y) h) ≡ both (s.slot_of y).marked (eqb (group_of y) h)
    unmark y = elim (same? (group_of y) h) [
      | equal p e i ↦ rw (ne_eqb (group_of y) g (λ q. d (sym q ∙ p)))
      | other n e i ↦ rw e (both_no (if (eqb (group_of y) g) (unmarked (s.slot_of y)) (s.slot_of y)).marked ∙ sym (both_no (s.slot_of y).marked))
    ]

    go : (m : List ℕ) → marks (collect_marks m s g) h ≡ marks s h
    go [] = refl
    go (x ∷ m) = keep_same _ _ 0 s.issued (λ y l u. unmark y)

-- a group without bits is left alone
pub collect_group_none : (s : State) (g : ℕ) → non_empty (marks s g) ≡ false → collect_group s g ≡ s
unfolding collect_group collect_marks
collect_group_none s g e = go (marks s g) e
  where
    go : (m : List ℕ) → non_empty m ≡ false → collect_marks m s g ≡ s
    go [] e = refl
    go (x ∷ m) e = absurd (no refl e)

collect_each_other : (a k : ℕ) (s : State) (h : ℕ) → h < a → marks (collect_each (from a k) s) h ≡ marks s h
unfolding collect_each from
collect_each_other a zero s h l = refl
collect_each_other a (suc k) s h l = collect_each_other (suc a) k (collect_group s a) h (omega arith) ∙ marks_other s a h (λ e. omega arith)

collect_each_append : (gs hs : List ℕ) (s : State) → collect_each (gs ++ hs) s ≡ collect_each hs (collect_each gs s)
unfolding collect_each
collect_each_append [] hs s = refl
collect_each_append (g ∷ gs) hs s = collect_each_append gs hs (collect_group s g)

-- groups a to a + k - 1: one of these is the last with bits and the cursor stands at v behind it; or none has bits, and v is where it was, at c
data Last (s : State) (a k c v : ℕ) : Type 0 where
  Found : (f : ℕ) → a ≤ f → f < a + k → Bits s f ≡ true → NoBits s (suc f) (a + k) → v ≡ suc f → Last s a k c v
  none : NoBits s a (a + k) → v ≡ c → Last s a k c v

last_in : (a k : ℕ) (s : State) → Last s a k s.cursor (collect_each (from a k) s).cursor
unfolding collect_each from
last_in a zero s = none (λ h l m. absurd (omega arith)) refl
last_in a (suc k) s = go (last_in (suc a) k (collect_group s a))
  where
    t : State
    t = collect_group s a

    v : ℕ
    v = (collect_each (from (suc a) k) t).cursor

    as_before : (h : ℕ) → suc a ≤ h → Bits s h ≡ Bits t h
    as_before h l = ap non_empty (sym (marks_other s a h (λ e. omega arith)))

    go : Last t (suc a) k t.cursor v → Last s a (suc k) s.cursor v
    go (Found f l m b n q) = Found f (omega arith) (omega arith) (as_before f l ∙ b) (λ h i j. as_before h (omega arith) ∙ n h i (omega arith)) q
    go (none n q) = at (Bits s a) refl
      where
        rest : NoBits s (suc a) (a + suc k)
        rest h i j = as_before h i ∙ n h i (omega arith)

        at : (b : Bool) → Bits s a ≡ b → Last s a (suc k) s.cursor v
        at true e = Found a (omega arith) (omega arith) e rest (q ∙ collect_group_cursor s a e)
        at false e = none (λ h i j. elim (same? a h) [ equal p c w ↦ ap (Bits s) (sym p) ∙ e | other d c w ↦ rest h (omega arith) j ]) (q ∙ ap (λ (u : State). u.cursor) (collect_group_none s a e))

-- this group has bits, no group on the way behind it has, and after collecting all the cursor stands just after it
pub record LeavesLast (s : State) : Type 0 where
  pub group : ℕ
  pub has_bits : non_empty (marks s group) ≡ true
  pub cursor_after : (collect_ready s).cursor ≡ suc group
  pub none_behind : (h : ℕ) → h < groups_in s.issued → groups_before s group < groups_before s h → non_empty (marks s h) ≡ false

pub leaves_last : (s : State) → Ordered s → (g : ℕ) → g < groups_in s.issued → non_empty (marks s g) ≡ true → LeavesLast s
unfolding collect_ready groups_round
leaves_last s o g low m = go (last_in a (n - a) s) (last_in 0 a t)
  where
    a : ℕ
    a = start_group s

    n : ℕ
    n = groups_in s.issued

    inside : a ≤ n
    inside = start_group_le s

    -- groups from the cursor on are collected
    t : State
    t = collect_each (from a (n - a)) s

    as_before : (h : ℕ) → h < a → Bits s h ≡ Bits t h
    as_before h l = ap non_empty (sym (collect_each_other a (n - a) s h l))

    all : collect_each (from a (n - a) ++ from 0 a) s ≡ collect_each (from 0 a) t
    all = collect_each_append (from a (n - a)) (from 0 a) s

    stands : {v : ℕ} → (collect_each (from 0 a) t).cursor ≡ v → (collect_each (from a (n - a) ++ from 0 a) s).cursor ≡ v
    stands q = ap (λ (u : State). u.cursor) all ∙ q

    go : Last s a (n - a) s.cursor t.cursor → Last t 0 a t.cursor (collect_each (from 0 a) t).cursor → LeavesLast s
    go r (Found f l u b x q) = record { group = f; has_bits = as_before f f_low ∙ b; cursor_after = stands q; none_behind = behind }
      where
        f_low : f < a
        f_low = omega arith

        behind : (h : ℕ) → h < n → groups_before s f < groups_before s h → Bits s h ≡ false
        behind h v w = split (ltb h a) refl
          where
            split : (c : Bool) → ltb h a ≡ c → Bits s h ≡ false
            split true e = as_before h (ltb-true h a e) ∙ x h (omega (arith, w, before_round s h (ltb-true h a e), before_round s f f_low)) (omega (arith, ltb-true h a e))
            split false e = absurd (omega (arith, w, before_round s f f_low, before_on s o h (ltb-false h a e) v, inside))
    go (Found f l u b x q) (none y p) = record { group = f; has_bits = b; cursor_after = stands (p ∙ q); none_behind = behind }
      where
        f_low : f < n
        f_low = omega (arith, u, inside)

        behind : (h : ℕ) → h < n → groups_before s f < groups_before s h → Bits s h ≡ false
        behind h v w = split (ltb h a) refl
          where
            split : (c : Bool) → ltb h a ≡ c → Bits s h ≡ false
            split true e = as_before h (ltb-true h a e) ∙ y h (omega arith) (omega (arith, ltb-true h a e))
            split false e = x h (omega (arith, w, before_on s o h (ltb-false h a e) v, before_on s o f l f_low)) (omega (arith, inside))
    go (none x q) (none y p) = absurd (no m (nowhere (ltb g a) refl))
      where
        nowhere : (c : Bool) → ltb g a ≡ c → Bits s g ≡ false
        nowhere true e = as_before g (ltb-true g a e) ∙ y g (omega arith) (omega (arith, ltb-true g a e))
        nowhere false e = x g (ltb-false g a e) (omega (arith, inside))
