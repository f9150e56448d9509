-- For code that keeps the marks in page words: the marked slots of a group are those of its 4,096 slots, page after page, lowest first.
-- Assumes nothing.
use mathlib.Core.Path.{◌≡◌, refl, ap, sym, ◌∙◌}
use mathlib.Core.Bool.{Bool, true, false}
use mathlib.Core.List.{List, [], ◌∷◌, ◌++◌, append-nil}
use Prim.Native.Nat.{ℕ, zero, suc, ◌+◌, ◌*◌, ◌/◌, ◌≤◌, ◌<◌}
use native.Mathlib.Omega.{arith}
use lib.Dec.{eqb}
use borrow.Author.Tests.{ne_eqb, eq-eqb}
use Rattle.model.specs.Lists.{if, both, keep, from}
use Rattle.model.specs.State.{State}
use Rattle.model.specs.Ready.{group_of, marks}

from_split : (a m n : ℕ) → from a (m + n) ≡ from a m ++ from (a + m) n
unfolding from
from_split a zero n = let e : 0 + n ≡ n = omega arith in let f : a + 0 ≡ a = omega arith in rw (e, f)
from_split a (suc m) n =
    let e : suc m + n ≡ suc (m + n) = omega arith in
    let f : suc a + m ≡ a + suc m = omega arith in
    rw e (ap (λ (l : List ℕ). a ∷ l) (from_split (suc a) m n ∙ ap (λ (b : ℕ). from (suc a) m ++ from b n) f))

keep_append : (p : ℕ → Bool) (a b : List ℕ) → keep p (a ++ b) ≡ keep p a ++ keep p b
unfolding keep
keep_append p [] b = refl
keep_append p (x ∷ a) b = go (p x) (keep_append p a b)
  where
    go : (c : Bool) → keep p (a ++ b) ≡ keep p a ++ keep p b → if c (x ∷ keep p (a ++ b)) (keep p (a ++ b)) ≡ if c (x ∷ keep p a) (keep p a) ++ keep p b
    go true e = ap (λ (l : List ℕ). x ∷ l) e
    go false e = e

-- the same test on a range
pub keep_same : (p q : ℕ → Bool) (a n : ℕ) → ((x : ℕ) → a ≤ x → x < a + n → p x ≡ q x) → keep p (from a n) ≡ keep q (from a n)
unfolding keep from
keep_same p q a zero h = refl
keep_same p q a (suc n) h = rw (h a (omega arith) (omega arith), keep_same p q (suc a) n (λ x l m. h x (omega arith) (omega arith)))

keep_none : (p : ℕ → Bool) (a n : ℕ) → ((x : ℕ) → a ≤ x → x < a + n → p x ≡ false) → keep p (from a n) ≡ []
unfolding keep from
keep_none p a zero h = refl
keep_none p a (suc n) h = rw (h a (omega arith) (omega arith)) (keep_none p (suc a) n (λ x l m. h x (omega arith) (omega arith)))

-- no slot that is not issued is marked: then the group's marks are those of all its slots
pub marks_range : (s : State) (g : ℕ) → ((x : ℕ) → s.issued ≤ x → (s.slot_of x).marked ≡ false) → marks s g ≡ keep (λ x. (s.slot_of x).marked) (from (4096 * g) 4096)
unfolding marks group_of
marks_range s g h =
    let n = s.issued in
    let all : keep p (from 0 (n + (4096 * g + 4096))) ≡ keep p (from 0 n) =
    ap (keep p) (from_split 0 n (4096 * g + 4096)) ∙ keep_append p (from 0 n) (from (0 + n) (4096 * g + 4096)) ∙ ap (λ (l : List ℕ). keep p (from 0 n) ++ l) (keep_none p (0 + n) (4096 * g + 4096) (λ x l m. out x (h x (omega arith)))) ∙ append-nil _ in
    let re : n + (4096 * g + 4096) ≡ 4096 * g + (4096 + n) = omega arith in
    let low : keep p (from 0 (4096 * g)) ≡ [] = keep_none p 0 (4096 * g) (λ x l m. off x (omega arith)) in
    let high : keep p (from (0 + 4096 * g + 4096) n) ≡ [] = keep_none p (0 + 4096 * g + 4096) n (λ x l m. off x (omega arith)) in
    let mid : keep p (from (0 + 4096 * g) 4096) ≡ keep (λ x. (s.slot_of x).marked) (from (0 + 4096 * g) 4096) = keep_same p (λ x. (s.slot_of x).marked) (0 + 4096 * g) 4096 (λ x l m. inside x (omega arith)) in
    let zero_off : 0 + 4096 * g ≡ 4096 * g = omega arith in
    sym all ∙ ap (λ (m : ℕ). keep p (from 0 m)) re
    ∙ ap (keep p) (from_split 0 (4096 * g) (4096 + n)) ∙ keep_append p (from 0 (4096 * g)) (from (0 + 4096 * g) (4096 + n)) ∙ ap (λ (l : List ℕ). l ++ keep p (from (0 + 4096 * g) (4096 + n))) low
    ∙ ap (keep p) (from_split (0 + 4096 * g) 4096 n) ∙ keep_append p (from (0 + 4096 * g) 4096) (from (0 + 4096 * g + 4096) n) ∙ ap (λ (l : List ℕ). keep p (from (0 + 4096 * g) 4096) ++ l) high ∙ append-nil _ ∙ mid
    ∙ ap (λ (b : ℕ). keep (λ x. (s.slot_of x).marked) (from b 4096)) zero_off
  where
    p : ℕ → Bool
    p x = both (s.slot_of x).marked (eqb (x / 4096) g)

    last : (b : Bool) → both b false ≡ false
    last true = refl
    last false = refl

    same : (b : Bool) → both b true ≡ b
    same true = refl
    same false = refl

    out : (x : ℕ) → (s.slot_of x).marked ≡ false → p x ≡ false
    out x e = rw e

    off : (x : ℕ) → (x / 4096 ≡ g → ⊥) → p x ≡ false
    off x d = rw (ne_eqb (x / 4096) g d) (last (s.slot_of x).marked)

    inside : (x : ℕ) → x / 4096 ≡ g → p x ≡ (s.slot_of x).marked
    inside x e = rw (eq-eqb (x / 4096) g e) (same (s.slot_of x).marked)

keep_zero : (p : ℕ → Bool) (a : ℕ) → keep p (from a 0) ≡ []
unfolding keep from
keep_zero p a = refl

-- page after page
unfoldable pub by_pages : (ℕ → Bool) → ℕ → ℕ → List ℕ
by_pages p a zero = []
by_pages p a (suc n) = keep p (from a 64) ++ by_pages p (a + 64) n

pub pages : (p : ℕ → Bool) (a n : ℕ) → keep p (from a (64 * n)) ≡ by_pages p a n
unfolding by_pages
pages p a zero = keep_zero p a
pages p a (suc n) =
    let e : 64 * suc n ≡ 64 + 64 * n = omega arith in
    rw e (ap (keep p) (from_split a 64 (64 * n)) ∙ keep_append p (from a 64) (from (a + 64) (64 * n)) ∙ ap (λ (l : List ℕ). keep p (from a 64) ++ l) (pages p (a + 64) n))
