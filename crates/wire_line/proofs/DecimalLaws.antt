-- Laws of numbers in decimal.
-- Assumes nothing.
use mathlib.Core.Path.{◌≡◌, refl, sym, ap, ◌∙◌, subst}
use mathlib.Core.Bool.{Bool, true, false, cond}
use mathlib.Core.List.{List, [], ◌∷◌, ◌++◌, append_assoc}
use Prim.Native.Nat.{ℕ, zero, suc, ◌+◌, ◌-◌, ◌*◌, ◌/◌, ◌%◌, ◌^◌, ◌≤◌, ◌<◌}
use native.Mathlib.Nat.{pow-suc, div-lt_iff_lt-mul, zero-lt-suc, le_refl}
use native.Mathlib.Omega.{arith}
use borrow.Author.Tests.{eqb-true, eq-eqb, ne_eqb}
use lib.Dec.{eqb}
use lib.ListN.{length, set, drop, length-set, drop_of_length-le}
use lib.Seq.{drop-cons, drop-set-lt, get_or-set_same}
use Rattle.std.specs.Fmt as written
use Rattle.std.proofs.lemmas.Fmt.{decimal_by_steps}
use Rattle.wire_line.specs.Text.{digits_in, digits, decimal, last_digit, value_from}

digits_of_none : (f m : ℕ) → m ≡ 0 → digits_in f m ≡ []
unfolding digits_in
digits_of_none zero m e = refl
digits_of_none (suc f) m e = simp (eq-eqb m 0 e)

-- more than enough changes nothing
digits_enough : (f g m : ℕ) → m ≤ f → m ≤ g → digits_in f m ≡ digits_in g m
unfolding digits_in
digits_enough zero g m p q = sym (digits_of_none g m (omega arith))
digits_enough (suc f) zero m p q = digits_of_none (suc f) m (omega arith)
digits_enough (suc f) (suc g) m p q =
    ap (λ (l : List ℕ). cond (eqb m 0) [] (l ++ last_digit m ∷ [])) (digits_enough f g (m / 10) (omega arith) (omega arith))

-- the digits of a number that is not 0 are the number in decimal
pub digits_decimal : (m : ℕ) → 0 < m → digits m ≡ decimal m
unfolding digits digits_in decimal
digits_decimal zero h = absurd (omega arith)
digits_decimal (suc m) h = simp (ne_eqb (suc m) 0 (λ e. omega arith)) (ap (λ (l : List ℕ). l ++ last_digit (suc m) ∷ []) (digits_enough m (suc m / 10) (suc m / 10) (omega arith) (le_refl _)))

-- ---- a number in decimal stands for the number

value_append : (a : ℕ) (l m : List ℕ) → value_from a (l ++ m) ≡ value_from (value_from a l) m
value_append a [] m = refl
value_append a (d ∷ l) m = value_append (10 * a + (d - 48)) l m

value_more : (l : List ℕ) (n : ℕ) → value_from 0 l ≡ n / 10 → value_from 0 (l ++ last_digit n ∷ []) ≡ n
value_more l n e = value_append 0 l (last_digit n ∷ []) ∙ omega (arith, e)

digits_value : (f n : ℕ) → n ≤ f → value_from 0 (digits_in f n) ≡ n
unfolding digits_in
digits_value zero n h = omega arith
digits_value (suc f) n h = go (eqb n 0) refl (digits_value f (n / 10) (omega arith))
  where
    go : (b : Bool) → eqb n 0 ≡ b → value_from 0 (digits_in f (n / 10)) ≡ n / 10 → value_from 0 (cond b [] (digits_in f (n / 10) ++ last_digit n ∷ [])) ≡ n
    go true e i = omega (arith, eqb-true n 0 e)
    go false e i = value_more (digits_in f (n / 10)) n i

pub decimal_value : (n : ℕ) → value_from 0 (decimal n) ≡ n
unfolding decimal digits
decimal_value n = value_more (digits_in (n / 10) (n / 10)) n (digits_value (n / 10) (n / 10) (le_refl _))

-- ---- the loop of `spell`

-- digits to come, and those that stand at the end of the array
pub record Spelled (n left at : ℕ) (d : List ℕ) : Type 0 where
  pub place : at ≤ 19
  pub long : length d ≡ 20
  pub few : left < 10 ^ at
  pub is : digits left ++ drop at d ≡ decimal n

store_first : (d : List ℕ) (i v : ℕ) → i < length d → drop i (set d i v) ≡ v ∷ drop (suc i) d
store_first d i v h =
    drop-cons (set d i v) i 0 (omega (arith, length-set d i v))
    ∙ ap (λ (x : ℕ). x ∷ drop (suc i) (set d i v)) (get_or-set_same d i v 0 h)
    ∙ ap (λ (l : List ℕ). v ∷ l) (drop-set-lt (suc i) d i v (omega arith))

pub spell_start : (n : ℕ) (d : List ℕ) (v : ℕ) → n < 2 ^ 64 → length d ≡ 20 → v ≡ last_digit n → Spelled n (n / 10) 19 (set d 19 v)
unfolding decimal
spell_start n d v h l e =
    record {
      place = omega arith;
      long = length-set d 19 v ∙ l;
      few = omega arith;
      is = ap (λ (m : List ℕ). digits (n / 10) ++ m) (store_first d 19 v (omega arith) ∙ ap (λ (m : List ℕ). v ∷ m) (drop_of_length-le d {i = 20} (omega arith)) ∙ ap (λ (x : ℕ). x ∷ []) e);
    }

pub spell_room : {left : ℕ} (at : ℕ) → left < 10 ^ at → 0 < left → 1 ≤ at
spell_room zero h p = absurd (omega arith)
spell_room (suc k) h p = omega arith

tenth : (k m : ℕ) → m < 10 ^ suc k → m / 10 < 10 ^ k
tenth k m h = (div-lt_iff_lt-mul (zero-lt-suc 9)).1 (rw pow-suc at h)

pub spell_more : {n left : ℕ} (at : ℕ) (d : List ℕ) (v : ℕ) → Spelled n left at d → 0 < left → v ≡ last_digit left → Spelled n (left / 10) (at - 1) (set d (at - 1) v)
unfolding decimal
spell_more zero d v s p e = absurd (omega (arith, s.few))
spell_more {n} {left} (suc k) d v s p e =
    let q : suc k - 1 ≡ k = omega arith in
    subst (λ (i : ℕ). Spelled n (left / 10) i (set d i v)) (sym q) (record {
      place = omega (arith, s.place);
      long = length-set d k v ∙ s.long;
      few = tenth k left s.few;
      is = ap (λ (m : List ℕ). digits (left / 10) ++ m) (store_first d k v (omega (arith, s.place, s.long)) ∙ ap (λ (x : ℕ). x ∷ drop (suc k) d) e)
          ∙ sym (append_assoc (digits (left / 10)) (last_digit left ∷ []) (drop (suc k) d))
          ∙ ap (λ (m : List ℕ). m ++ drop (suc k) d) (sym (digits_decimal left p))
          ∙ s.is;
    })

pub spell_end : {n left at : ℕ} {d : List ℕ} → Spelled n left at d → left ≡ 0 → drop at d ≡ decimal n
unfolding digits
spell_end {n} {left} {at} {d} s e = sym (ap (λ (m : List ℕ). m ++ drop at d) (digits_of_none left left e)) ∙ s.is

-- ---- the library's digits

decimal_digit : (n : ℕ) → n < 10 → decimal n ≡ (48 + n) ∷ []
unfolding decimal digits
decimal_digit n h = rw (digits_of_none (n / 10) (n / 10) (omega arith)) (ap (λ (d : ℕ). (48 + d) ∷ []) (omega arith))

decimal_step : (n : ℕ) (l : List ℕ) → 10 ≤ n → decimal (n / 10) ≡ l → decimal n ≡ l ++ ((48 + n % 10) ∷ [])
unfolding decimal
decimal_step n l h e = ap (λ (m : List ℕ). m ++ last_digit n ∷ []) (digits_decimal (n / 10) (omega arith) ∙ e)

-- what the library writes of a number is the number in decimal
pub decimal_is : (n : ℕ) → n < 2 ^ 64 → written.decimal n ≡ decimal n
decimal_is n h = sym (decimal_by_steps (λ m l. decimal m ≡ l) decimal_digit decimal_step n h)
