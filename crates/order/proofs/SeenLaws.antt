-- Laws of the bitmap, and of a loop that notes the slots of a list in it.
-- Assumes nothing.
use mathlib.Core.Path.{◌≡◌, refl, ap, ◌∙◌}
use mathlib.Core.List.{List}
use Prim.Native.Nat.{ℕ, zero, suc, ◌+◌, ◌*◌, ◌/◌, ◌%◌, ◌^◌, ◌≤◌, ◌<◌}
use native.Mathlib.Nat.{mod-lt, zero-lt-suc}
use native.Mathlib.Numerals.{add-one}
use native.Mathlib.Omega.{arith}
use lib.ListN.{length, get_or, set, replicate, length-set}
use lib.Bits.{bit_or}
use lib.Seq.{get_or-set_same, get_or-set_other}
use Rattle.model.specs.Lists.{count, same}
use Rattle.demands.proofs.Counting.{equal, other, same?, same_self}
use Rattle.yring.specs.Lists.{tab}
use Rattle.ready.specs.Bits.{bit}
use Rattle.ready.proofs.BitLaws.{bit_set_same, bit_set_other, bit_zero, one_shl}
use Rattle.order_slot.specs.Clauses.{Names}
use Rattle.order.specs.Seen.{has, add, Seen}

-- ---- the bitmap

module _ (seen : List ℕ) (x : ℕ) where
  pub long_added : length (add seen x) ≡ length seen
  unfolding add
  long_added = length-set seen _ _

  has_same : x / 64 < length seen → has (add seen x) x ≡ 1
  unfolding has add
  has_same h = ap (λ (w : ℕ). bit w (x % 64)) (get_or-set_same seen (x / 64) _ 0 h) ∙ bit_set_same (get_or seen (x / 64) 0) (x % 64)

  has_other : (y : ℕ) → x / 64 < length seen → (y ≡ x → ⊥) → has (add seen x) y ≡ has seen y
  unfolding has add
  has_other y h n = elim (same? (y / 64) (x / 64)) [
    | equal e b i ↦
        rw e
        (ap (λ (w : ℕ). bit w (y % 64)) (get_or-set_same seen (x / 64) _ 0 h)
        ∙ bit_set_other (get_or seen (x / 64) 0) (x % 64) (y % 64) (λ f. n (omega arith)))
    | other f b i ↦ ap (λ (w : ℕ). bit w (y % 64)) (get_or-set_other seen (x / 64) (y / 64) _ 0 f)
  ]

  pub has_most : has seen x ≤ 1
  unfolding has
  has_most = omega (arith, mod-lt (get_or seen (x / 64) 0 / 2 ^ (x % 64)) (zero-lt-suc 1))

-- the store that the code makes
pub added_word : (seen : List ℕ) (x : ℕ) → set seen (x / 64) (bit_or (get_or seen (x / 64) 0) (1 * 2 ^ (x % 64) % 2 ^ 64)) ≡ add seen x
unfolding add
added_word seen x = rw (one_shl (x % 64) (omega arith))

get_d_none : (n i : ℕ) → ◌≡◌ {A = ℕ} (get_or (replicate n 0) i 0) 0
get_d_none zero i = refl
get_d_none (suc n) zero = refl
get_d_none (suc n) (suc i) = get_d_none n i

has_none : (n x : ℕ) → has (replicate n 0) x ≡ 0
unfolding has
has_none n x = ap (λ (w : ℕ). bit w (x % 64)) (get_d_none n (x / 64)) ∙ bit_zero (x % 64)

-- ---- how often a number is among the first of a list

count_more : (x k : ℕ) (f : ℕ → ℕ) → count x (tab (suc k) f) ≡ count x (tab k f) + same x (f k)
unfolding count
count_more x zero f = omega arith
count_more x (suc k) f = omega (arith, count_more x k (λ i. f (suc i)))

count_most : (x k n : ℕ) (f : ℕ → ℕ) → k ≤ n → count x (tab k f) ≤ count x (tab n f)
unfolding count
count_most x zero n f h = omega arith
count_most x (suc k) zero f h = absurd (omega arith)
count_most x (suc k) (suc n) f h = omega (arith, count_most x k n (λ i. f (suc i)) (omega arith))

-- ---- the first k of a list are noted

pub record Noted (issued k : ℕ) (f : ℕ → ℕ) (seen : List ℕ) : Type 0 where
  pub seen_is : Seen seen (tab k f)
  pub issued_only : (x : ℕ) → 1 ≤ count x (tab k f) → x < issued
  pub long : length seen ≡ 128

pub noted_none : (issued : ℕ) (f : ℕ → ℕ) {seen : List ℕ} → seen ≡ replicate 128 0 → Noted issued 0 f seen
unfolding count
noted_none issued f e = record { seen_is = λ x. rw e (has_none 128 x); issued_only = λ x h. absurd (omega arith); long = ap length e }

module _ (issued k : ℕ) (f : ℕ → ℕ) (seen : List ℕ) (o : Noted issued k f seen) where
  pub noted_more : issued ≤ 8192 → (f k < issued) × (has seen (f k) ≡ 0) → {u : List ℕ} → u ≡ add seen (f k) → Noted issued (k + 1) f u
  noted_more b q e = rw (e, add-one k) (record { seen_is = seen_more; issued_only = only; long = long_added seen (f k) ∙ o.long })
    where
      row : f k / 64 < length seen
      row = omega (arith, o.long, q.0)

      seen_more : (x : ℕ) → has (add seen (f k)) x ≡ count x (tab (suc k) f)
      seen_more x = elim (same? x (f k)) [
        | equal e b i ↦ rw e (has_same seen (f k) row ∙ omega (arith, count_more (f k) k f, same_self (f k), o.seen_is (f k), q.1))
        | other d b i ↦ has_other seen (f k) x row d ∙ omega (arith, count_more x k f, i, o.seen_is x)
      ]

      only : (x : ℕ) → 1 ≤ count x (tab (suc k) f) → x < issued
      only x h = elim (same? x (f k)) [
        | equal e b i ↦ rw e q.0
        | other d b i ↦ o.issued_only x (omega (arith, count_more x k f, i))
      ]

  -- what is not issued, or was seen before, is not in a list of names
  pub noted_no : (n : ℕ) → k < n → ((f k < issued) × (has seen (f k) ≡ 0) → ⊥) → Names issued (tab n f) → ⊥
  noted_no n h d a =
      let c = count_most (f k) (suc k) n f (omega arith) in
      d (
        a.issued_only (f k) (omega (arith, c, count_more (f k) k f, same_self (f k))),
        omega (arith, c, count_more (f k) k f, same_self (f k), o.seen_is (f k), a.once (f k)),
      )

  pub noted_all_lem : (n : ℕ) → k ≤ n → n ≤ k → Names issued (tab n f) × Seen seen (tab n f)
  noted_all_lem n h g =
      let e : n ≡ k = omega arith in
      rw e (record { once = λ x. omega (arith, o.seen_is x, has_most seen x); issued_only = o.issued_only }, o.seen_is)
