-- The bits of a word: trailing zeros and `w & (w - 1)` give the next, setting one changes no other, and what every set bit is known to be.
-- Assumes nothing.
use mathlib.Core.Path.{◌≡◌, refl, sym, ap, ap₂, ◌∙◌, subst}
use mathlib.Core.List.{List, [], ◌∷◌}
use Prim.Native.Nat.{ℕ, zero, suc, ◌+◌, ◌-◌, ◌*◌, ◌/◌, ◌%◌, ◌^◌, ◌≤◌, ◌<◌, min, max, suc-le-suc}
use native.Mathlib.Nat.{pow-suc, pow-succ', div-lt_iff_lt-mul, zero-lt-suc, div-div-eq-div-mul, div-one, min-zero, zero-min, le_of_suc-le-suc, not-suc-le-zero, le_refl, le_trans, add-zero, one-mul, div_self, zero-div, max-zero, max-eq_right, max-le, mul-mod_left, mul-div_cancel, mod-lt}
use native.Mathlib.Numerals.{add-one}
use native.Mathlib.Omega.{arith}
use lib.Arith.{digits_mod}
use lib.Bits.{bit_and, bit_or, and_step, and_self, and_le_r, or_step, or_shr}
use lib.Pow.{shl_exact, pow_pos}
use lib.Dec.{lit<}
use lib.Count.{count_trailing_zeros, under}
use Rattle.ready.specs.Bits.{bit, keep_if, bits_from}

-- ---- the next set bit

half_pow : (k w : ℕ) → w < 2 ^ suc k → w / 2 < 2 ^ k
half_pow k w h = (div-lt_iff_lt-mul (zero-lt-suc 1)).1 (rw pow-suc at h)

none_below_one : (w : ℕ) → 0 < w → w < 1 → ⊥
none_below_one w h k = omega arith

half_pos : (w : ℕ) → 0 < w → w % 2 ≡ 0 → 0 < w / 2
half_pos w h e = omega arith

-- no set bit in 0
pub bits_zero : (k p : ℕ) → bits_from k p 0 ≡ []
unfolding bits_from
bits_zero zero p = refl
bits_zero (suc k) p = bits_zero k (p + 1)

-- `w & (w - 1)` of an odd w, and of an even one: halves and lowest digits
odd_half : (w r : ℕ) → w % 2 ≡ suc r → (w - 1) / 2 ≡ w / 2
odd_half w r e = omega arith

odd_digit : (w r : ℕ) → w % 2 ≡ suc r → (w - 1) % 2 ≡ 0
odd_digit w r e = omega arith

even_half : (w : ℕ) → 0 < w → w % 2 ≡ 0 → (w - 1) / 2 ≡ w / 2 - 1
even_half w h e = omega arith

and_odd : (w r : ℕ) → w % 2 ≡ suc r → bit_and w (w - 1) ≡ w / 2 * 2
and_odd w r e =
    and_step w (w - 1)
    ∙ ap₂ (λ (x y : ℕ). bit_and (w / 2) x * 2 + min (w % 2) y) (odd_half w r e) (odd_digit w r e)
    ∙ ap₂ (λ (x y : ℕ). x * 2 + y) (and_self (w / 2)) (min-zero (w % 2))
    ∙ omega arith

and_even : (w : ℕ) → 0 < w → w % 2 ≡ 0 → bit_and w (w - 1) ≡ bit_and (w / 2) (w / 2 - 1) * 2
and_even w h e =
    and_step w (w - 1)
    ∙ ap₂ (λ (x y : ℕ). bit_and (w / 2) x * 2 + min y ((w - 1) % 2)) (even_half w h e) e
    ∙ ap (λ (x : ℕ). bit_and (w / 2) (w / 2 - 1) * 2 + x) (zero-min ((w - 1) % 2))
    ∙ omega arith

twice_half : (a : ℕ) → a * 2 / 2 ≡ a
twice_half a = omega arith

twice_even : (a : ℕ) → a * 2 % 2 ≡ 0
twice_even a = omega arith

-- one step: the digit list of an even number 2 a
bits_twice : (k p a : ℕ) → bits_from (suc k) p (a * 2) ≡ bits_from k (p + 1) a
unfolding bits_from
bits_twice k p a = rw (twice_even a, twice_half a)

head_suc : (p t : ℕ) → p + 1 + t ≡ p + suc t
head_suc p t = omega arith

-- the set bits of w are the lowest, at `trailing_zeros`, and then those of `w & (w - 1)`
pub bits_next : (k p w : ℕ) → 0 < w → w < 2 ^ k → bits_from k p w ≡ (p + count_trailing_zeros k w) ∷ bits_from k p (bit_and w (w - 1))
unfolding bits_from count_trailing_zeros
bits_next zero p w h l = absurd (none_below_one w h l)
bits_next (suc k) p w h l = go (w % 2) refl (λ e. bits_next k (p + 1) (w / 2) (half_pos w h e) (half_pow k w l))
  where
    go : (d : ℕ) → w % 2 ≡ d
        → (w % 2 ≡ 0 → bits_from k (p + 1) (w / 2) ≡ (p + 1 + count_trailing_zeros k (w / 2)) ∷ bits_from k (p + 1) (bit_and (w / 2) (w / 2 - 1)))
        → keep_if d p (bits_from k (p + 1) (w / 2)) ≡ (p + under d (count_trailing_zeros k (w / 2))) ∷ bits_from (suc k) p (bit_and w (w - 1))
    go zero e ih =
        ih e
        ∙ ap₂ (λ (x : ℕ) (r : List ℕ). x ∷ r) (head_suc p (count_trailing_zeros k (w / 2)))
        (sym (ap (bits_from (suc k) p) (and_even w h e) ∙ bits_twice k p (bit_and (w / 2) (w / 2 - 1))))
    go (suc d) e ih =
        ap₂ (λ (x : ℕ) (r : List ℕ). x ∷ r) (sym (add-zero p))
        (sym (ap (bits_from (suc k) p) (and_odd w d e) ∙ bits_twice k p (w / 2)))

-- the word that is left is less, so a loop that clears the lowest bit ends
pub clear_less : (w : ℕ) → 0 < w → bit_and w (w - 1) < w
clear_less w h = omega (arith, and_le_r w (w - 1))

-- ---- where the lowest set bit is

pub tz_lt : (k w : ℕ) → 0 < w → w < 2 ^ k → count_trailing_zeros k w < k
unfolding count_trailing_zeros
tz_lt zero w h l = absurd (none_below_one w h l)
tz_lt (suc k) w h l = go (w % 2) refl (λ e. tz_lt k (w / 2) (half_pos w h e) (half_pow k w l))
  where
    go : (d : ℕ) → w % 2 ≡ d → (w % 2 ≡ 0 → count_trailing_zeros k (w / 2) < k) → under d (count_trailing_zeros k (w / 2)) < suc k
    go zero e ih = suc-le-suc (ih e)
    go (suc d) e ih = zero-lt-suc k

-- bit b + 1 of w is bit b of w / 2
pub bit_suc : (w b : ℕ) → bit w (suc b) ≡ bit (w / 2) b
bit_suc w b = ap (λ (x : ℕ). x % 2) (ap (λ (x : ℕ). w / x) (pow-succ' 2 b) ∙ sym (div-div-eq-div-mul w 2 (2 ^ b)))

is_one : (w d : ℕ) → w % 2 ≡ suc d → w % 2 ≡ 1
is_one w d e = omega arith

pub tz_set : (k w : ℕ) → 0 < w → w < 2 ^ k → bit w (count_trailing_zeros k w) ≡ 1
unfolding count_trailing_zeros
tz_set zero w h l = absurd (none_below_one w h l)
tz_set (suc k) w h l = go (w % 2) refl (λ e. tz_set k (w / 2) (half_pos w h e) (half_pow k w l))
  where
    go : (d : ℕ) → w % 2 ≡ d → (w % 2 ≡ 0 → bit (w / 2) (count_trailing_zeros k (w / 2)) ≡ 1) → bit w (under d (count_trailing_zeros k (w / 2))) ≡ 1
    go zero e ih = bit_suc w (count_trailing_zeros k (w / 2)) ∙ ih e
    go (suc d) e ih = ap (λ (x : ℕ). x % 2) (div-one w) ∙ is_one w d e

pub tz_clear : (k w a : ℕ) → a < count_trailing_zeros k w → bit w a ≡ 0
unfolding count_trailing_zeros
tz_clear zero w a h = absurd (not-suc-le-zero h)
tz_clear (suc k) w a h = go (w % 2) refl a h (λ x. tz_clear k (w / 2) x)
  where
    go : (d : ℕ) → w % 2 ≡ d → (a : ℕ) → a < under d (count_trailing_zeros k (w / 2))
        → ((x : ℕ) → x < count_trailing_zeros k (w / 2) → bit (w / 2) x ≡ 0) → bit w a ≡ 0
    go (suc d) e a h ih = absurd (not-suc-le-zero h)
    go zero e zero h ih = ap (λ (x : ℕ). x % 2) (div-one w) ∙ e
    go zero e (suc a) h ih = bit_suc w a ∙ ih a (le_of_suc-le-suc h)

-- ---- `1 << b` of a u64

pub one_shl : (b : ℕ) → b < 64 → 1 * 2 ^ b % 2 ^ 64 ≡ 2 ^ b
one_shl b h = shl_exact 1 b 64 (lit< tt) (omega arith) ∙ one-mul (2 ^ b)

-- ---- a bit set

two_pos : 0 < 2
two_pos = zero-lt-suc 1

or_low : (x y : ℕ) → bit_or x y % 2 ≡ max (x % 2) (y % 2)
or_low x y =
    ap (λ (z : ℕ). z % 2) (or_step x y)
    ∙ digits_mod (bit_or (x / 2) (y / 2)) (suc-le-suc (max-le (le_of_suc-le-suc (mod-lt x two_pos)) (le_of_suc-le-suc (mod-lt y two_pos))))

pub bit_or_lem : (a b k : ℕ) → bit (bit_or a b) k ≡ max (bit a k) (bit b k)
bit_or_lem a b k = ap (λ (x : ℕ). x % 2) (or_shr a b k) ∙ or_low (a / 2 ^ k) (b / 2 ^ k)

bit_pow_same : (b : ℕ) → bit (2 ^ b) b ≡ 1
bit_pow_same b = ap (λ (x : ℕ). x % 2) (div_self (pow_pos b))

pub bit_zero : (b : ℕ) → bit 0 b ≡ 0
bit_zero b = ap (λ (x : ℕ). x % 2) (zero-div (2 ^ b))

bit_pow_other : (b c : ℕ) → (c ≡ b → ⊥) → bit (2 ^ b) c ≡ 0
bit_pow_other zero zero n = absurd (n refl)
bit_pow_other zero (suc c) n = bit_suc 1 c ∙ bit_zero c
bit_pow_other (suc b) zero n = ap (λ (x : ℕ). x % 2) (div-one (2 ^ suc b) ∙ pow-suc 2 b) ∙ mul-mod_left (2 ^ b) 2
bit_pow_other (suc b) (suc c) n =
    bit_suc (2 ^ suc b) c ∙ ap (λ (x : ℕ). bit x c) (ap (λ (x : ℕ). x / 2) (pow-suc 2 b) ∙ mul-div_cancel (2 ^ b) two_pos)
    ∙ bit_pow_other b c (λ e. n (ap suc e))

pub bit_set_same : (w b : ℕ) → bit (bit_or w (2 ^ b)) b ≡ 1
bit_set_same w b =
    bit_or_lem w (2 ^ b) b ∙ ap (max (bit w b)) (bit_pow_same b) ∙ max-eq_right (le_of_suc-le-suc (mod-lt (w / 2 ^ b) two_pos))

pub bit_set_other : (w b c : ℕ) → (c ≡ b → ⊥) → bit (bit_or w (2 ^ b)) c ≡ bit w c
bit_set_other w b c n = bit_or_lem w (2 ^ b) c ∙ ap (max (bit w c)) (bit_pow_other b c n) ∙ max-zero (bit w c)

-- a word with a bit set is not 0
pub set_not_zero : (w b : ℕ) → bit_or w (2 ^ b) ≡ 0 → ⊥
set_not_zero w b e = let z : ◌≡◌ {A = ℕ} 1 0 = sym (bit_set_same w b) ∙ ap (λ (x : ℕ). bit x b) e ∙ bit_zero b in omega arith

-- ---- what holds of every set bit holds of every element of the list

pub data Each (P : ℕ → Type 0) : List ℕ → Type 0 where
  none : Each P []
  both : {x : ℕ} {l : List ℕ} → P x → Each P l → Each P (x ∷ l)

pub bits_each : (P : ℕ → Type 0) (k p w : ℕ) → ((b : ℕ) → b < k → bit w b ≡ 1 → P (p + b)) → Each P (bits_from k p w)
unfolding bits_from
bits_each P zero p w h = none
bits_each P (suc k) p w h =
    go (w % 2) refl
    (bits_each P k (p + 1) (w / 2) (λ b l e. subst P (shift p b) (h (suc b) (suc-le-suc l) (bit_suc w b ∙ e))))
  where
    shift : (p b : ℕ) → p + suc b ≡ p + 1 + b
    shift p b = omega arith

    one : (d : ℕ) → w % 2 ≡ suc d → w / 1 % 2 ≡ 1
    one d e = ap (λ (x : ℕ). x % 2) (div-one w) ∙ omega arith

    go : (d : ℕ) → w % 2 ≡ d → Each P (bits_from k (p + 1) (w / 2)) → Each P (keep_if d p (bits_from k (p + 1) (w / 2)))
    go zero e r = r
    go (suc d) e r = both (subst P (add-zero p) (h 0 (zero-lt-suc k) (one d e))) r

-- ---- a set bit is in the list

pub data In (q : ℕ) : List ℕ → Type 0 where
  here : {x : ℕ} {l : List ℕ} → q ≡ x → In q (x ∷ l)
  there : {x : ℕ} {l : List ℕ} → In q l → In q (x ∷ l)

pub bits_in : (k p w b q : ℕ) → q ≡ p + b → b < k → bit w b ≡ 1 → In q (bits_from k p w)
unfolding bits_from
bits_in zero p w b q i l e = absurd (not-suc-le-zero l)
bits_in (suc k) p w zero q i l e = go (w % 2) refl
  where
    go : (d : ℕ) → w % 2 ≡ d → In q (keep_if d p (bits_from k (p + 1) (w / 2)))
    go zero f = let z : ◌≡◌ {A = ℕ} 1 0 = sym e ∙ ap (λ (x : ℕ). x % 2) (div-one w) ∙ f in absurd (omega arith)
    go (suc d) f = here (i ∙ add-zero p)
bits_in (suc k) p w (suc b) q i l e = go (w % 2) (bits_in k (p + 1) (w / 2) b q (omega arith) (le_of_suc-le-suc l) (sym (bit_suc w b) ∙ e))
  where
    go : (d : ℕ) → In q (bits_from k (p + 1) (w / 2)) → In q (keep_if d p (bits_from k (p + 1) (w / 2)))
    go zero r = r
    go (suc d) r = there r

-- ---- a list that ascends, from a on

pub data Ascends : ℕ → List ℕ → Type 0 where
  end : {a : ℕ} → Ascends a []
  next : {a x : ℕ} {l : List ℕ} → a ≤ x → Ascends (suc x) l → Ascends a (x ∷ l)

pub ascends_below : {a b : ℕ} {l : List ℕ} → a ≤ b → Ascends b l → Ascends a l
ascends_below h end = end
ascends_below h (next g r) = next (le_trans h g) r

-- the set bits ascend
pub bits_ascend : (k p w : ℕ) → Ascends p (bits_from k p w)
unfolding bits_from
bits_ascend zero p w = end
bits_ascend (suc k) p w = go (w % 2) (bits_ascend k (p + 1) (w / 2))
  where
    go : (d : ℕ) → Ascends (p + 1) (bits_from k (p + 1) (w / 2)) → Ascends p (keep_if d p (bits_from k (p + 1) (w / 2)))
    go zero r = ascends_below (omega arith) r
    go (suc d) r = next (le_refl p) (subst (λ (a : ℕ). Ascends a (bits_from k (p + 1) (w / 2))) (add-one p) r)

-- ---- an example: 40 has its bits 3 and 5 set

lowest_first : bits_from 6 64 40 ≡ 67 ∷ 69 ∷ []
unfolding bits_from
lowest_first = refl
