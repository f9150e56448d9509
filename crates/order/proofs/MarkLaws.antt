-- Laws of the tests of page and group words.
-- Assumes nothing.
use mathlib.Core.Path.{◌≡◌, refl, sym, ap, ◌∙◌, subst}
use mathlib.Core.Bool.{Bool, true, false, not}
use mathlib.Core.List.{List}
use Prim.Native.Nat.{ℕ, zero, suc, ◌+◌, ◌-◌, ◌*◌, ◌/◌, ◌%◌, ◌^◌, ◌≤◌, ◌<◌}
use native.Mathlib.Nat.{pos_of_ne-zero, div-div-eq-div-mul}
use native.Mathlib.Omega.{arith}
use borrow.Author.Tests.{ltb-true, ltb-false, eqb-true, eqb-false, ne_eqb}
use lib.Count.{count_trailing_zeros}
use mir.Val.{bool_byte}
use lib.Dec.{ltb, eqb}
use lib.Pow.{pow-add, shr_lt}
use Rattle.ready.specs.Bits.{bit}
use Rattle.queues.specs.Header.{issued}
use Rattle.ready.specs.Ready.{page_word, group_word, non_zero}
use Rattle.ready.proofs.BitLaws.{tz_lt, tz_set, bit_zero}
use Rattle.order_slot.specs.Tells.{Tells}
use Rattle.order_slot.specs.Clauses.{PageHolds, GroupHolds}
use Rattle.order_slot.proofs.TellsLaws.{tells_of, tells_eq}

-- bit k + j of w is bit j of w shifted by k
bit_past : (w k j : ℕ) → bit w (k + j) ≡ bit (w / 2 ^ k) j
bit_past w k j = ap (λ (x : ℕ). x % 2) (ap (λ (x : ℕ). w / x) (pow-add 2 k j) ∙ sym (div-div-eq-div-mul w (2 ^ k) (2 ^ j)))

-- with nothing from k on, a set bit is below k
bit_low : (w k b : ℕ) → w / 2 ^ k ≡ 0 → bit w b ≡ 1 → b < k
bit_low w k b z e = go (ltb b k) refl
  where
    go : (a : Bool) → ltb b k ≡ a → b < k
    go true p = ltb-true b k p
    go false p =
        let h = ltb-false b k p in
        let y : ◌≡◌ {A = ℕ} 0 1 = sym (bit_zero (b - k)) ∙ ap (λ (x : ℕ). bit x (b - k)) (sym z) ∙ sym (bit_past w k (b - k)) ∙ ap (bit w) (omega arith) ∙ e in
        absurd (omega arith)

-- with something from k on, there is a set bit there
bit_high : (w k : ℕ) → k < 64 → w < 2 ^ 64 → (w / 2 ^ k ≡ 0 → ⊥) → (b : ℕ) × (k ≤ b) × (b < 64) × (bit w b ≡ 1)
bit_high w k h l n =
    let v = w / 2 ^ k in
    let e : 64 ≡ 64 - k + k = omega arith in
    let small : v < 2 ^ (64 - k) = shr_lt (64 - k) k (subst (λ (x : ℕ). w < 2 ^ x) e l) in
    let lt : count_trailing_zeros (64 - k) v < 64 - k = tz_lt (64 - k) v (pos_of_ne-zero n) small in
    (k + count_trailing_zeros (64 - k) v, omega arith, omega arith, bit_past w k (count_trailing_zeros (64 - k) v) ∙ tz_set (64 - k) v (pos_of_ne-zero n) small)

pub shifted_tells : (w k : ℕ) → k < 64 → w < 2 ^ 64 → Tells ((b : ℕ) → b < 64 → bit w b ≡ 1 → b < k) (eqb (w / 2 ^ k) 0)
shifted_tells w k h l = tells_eq (w / 2 ^ k) 0 (λ z b g e. bit_low w k b z e) (λ p. go (eqb (w / 2 ^ k) 0) refl p)
  where
    go : (a : Bool) → eqb (w / 2 ^ k) 0 ≡ a → ((b : ℕ) → b < 64 → bit w b ≡ 1 → b < k) → w / 2 ^ k ≡ 0
    go true q p = eqb-true (w / 2 ^ k) 0 q
    go false q p =
        let b = bit_high w k h l (eqb-false (w / 2 ^ k) 0 q) in
        absurd (omega (arith, b.1, p b.0 b.2 b.3))

-- a truth value as a word
pub as_bit : (w : ℕ) → bool_byte (not (eqb w 0)) ≡ non_zero w
as_bit zero = refl
as_bit (suc w) = ap (λ (b : Bool). bool_byte (not b)) (ne_eqb (suc w) 0 (λ e. absurd (omega arith)))

-- ---- a page and a group, in the words of the code

module _ (t : List ℕ) (page : ℕ) {w g z : ℕ} (is : w ≡ page_word t page) (of : g ≡ group_word t (page / 64)) (some : z ≡ non_zero w) where
  pub page_no : (g / 2 ^ (page % 64) % 2 ≡ z → ⊥) → PageHolds t page → ⊥
  page_no d p = d (ap (λ (x : ℕ). bit x (page % 64)) of ∙ p.linked ∙ ap non_zero (sym is) ∙ sym some)

  pub page_tells : g / 2 ^ (page % 64) % 2 ≡ z → page_word t page < 2 ^ 64 → {n : ℕ} → ((b : ℕ) → b < n → 64 * page + b < issued t)
      → ((b : ℕ) → 64 * page + b < issued t → b < n) → {a : Bool} → Tells ((b : ℕ) → b < 64 → bit w b ≡ 1 → b < n) a → Tells (PageHolds t page) a
  page_tells e f h k =
      tells_of
      (λ p. record {
        fits = f;
        of_issued = λ b l o. h b (p b l (ap (λ (x : ℕ). bit x b) is ∙ o));
        linked = ap (λ (x : ℕ). bit x (page % 64)) (sym of) ∙ e ∙ some ∙ ap non_zero is;
      })
      (λ q b l o. k b (q.of_issued b l (ap (λ (x : ℕ). bit x b) (sym is) ∙ o)))

pub group_tells : (t : List ℕ) (group : ℕ) {w : ℕ} → w ≡ group_word t group → group_word t group < 2 ^ 64 → {n : ℕ}
    → ((b : ℕ) → b < n → 64 * (64 * group + b) < issued t) → ((b : ℕ) → 64 * (64 * group + b) < issued t → b < n) → {a : Bool}
    → Tells ((b : ℕ) → b < 64 → bit w b ≡ 1 → b < n) a → Tells (GroupHolds t group) a
group_tells t group is f h k =
    tells_of
    (λ p. record { fits = f; of_pages = λ b l o. h b (p b l (ap (λ (x : ℕ). bit x b) is ∙ o)) })
    (λ q b l o. k b (q.of_pages b l (ap (λ (x : ℕ). bit x b) (sym is) ∙ o)))
