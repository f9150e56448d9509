-- Cursors: a capacity divides 2^64, so a place is the same past the top as before it; and distances add up.
-- Assumes nothing.
use Rattle.std.proofs.Common.{◌≡◌, ℕ, zero, suc, ◌+◌, ◌-◌, ◌/◌, ◌%◌, ◌^◌, ◌<◌, ◌≤◌, sym, refl, ap, ◌∙◌, subst, add_comm, arith, pow_pos}
use lib.Bits.{bit_and, and_mask}
use lib.Count.{count_trailing_zeros}
use lib.Pow.{mod-mod-pow}
use Rattle.yring.specs.Cursor.{after, distance, Capacity}

-- 2^i has i trailing zeros
zeros_of_power : (width i : ℕ) → i < width → count_trailing_zeros width (2 ^ i) ≡ i
unfolding count_trailing_zeros
zeros_of_power zero i h = absurd (omega arith)
zeros_of_power (suc w) zero h = refl
zeros_of_power (suc w) (suc i) h =
    let even : 2 ^ suc i % 2 ≡ 0 = omega arith in
    let half : 2 ^ suc i / 2 ≡ 2 ^ i = omega arith in
    rw (even, half, zeros_of_power w i (omega arith)) refl

module _ (C : ℕ) (k : Capacity C) where
  -- reducing a cursor first changes no place
  pub wraps : (n : ℕ) → n % 2 ^ 64 % C ≡ n % C
  wraps n =
      let l : ℕ = k.log in
      let split : (64 - l) + l ≡ 64 = omega (arith, k.small) in
      rw k.is (subst (λ (m : ℕ). n % 2 ^ m % 2 ^ l ≡ n % 2 ^ l) split (mod-mod-pow n (64 - l) l))

  pub some : 0 < C
  some = rw k.is (pow_pos k.log)

  -- a capacity's trailing zeros are its logarithm
  pub log_is : count_trailing_zeros 64 C ≡ k.log
  log_is = rw k.is (zeros_of_power 64 k.log (omega (arith, k.small)))

  -- the mask is the remainder
  pub masked : (n : ℕ) → bit_and n (C - 1) ≡ n % C
  masked n = rw k.is (and_mask n k.log)

pub distance_self : (a : ℕ) → a < 2 ^ 64 → distance a a ≡ 0
distance_self a h = omega arith

pub distance_none : (a b : ℕ) → a < 2 ^ 64 → b < 2 ^ 64 → distance a b ≡ 0 → a ≡ b
distance_none a b ha hb e = omega arith

-- a cursor that goes on by n is n further from what lies behind it, and n nearer to what lies ahead
pub behind_after : (a b n : ℕ) → a < 2 ^ 64 → b < 2 ^ 64 → distance a b + n < 2 ^ 64 → distance (after a n) b ≡ distance a b + n
behind_after a b n ha hb f = omega arith

pub ahead_after : (a b n : ℕ) → a < 2 ^ 64 → b < 2 ^ 64 → n ≤ distance a b → distance a (after b n) ≡ distance a b - n
ahead_after a b n ha hb f = omega arith

-- a cursor is reached by going its distance
pub after_distance : (a b : ℕ) → a < 2 ^ 64 → b < 2 ^ 64 → after b (distance a b) ≡ a
after_distance a b ha hb = omega arith

-- the distances of a way in two parts add up, where the sum does not wrap
pub distance_adds : (a b c : ℕ) → a < 2 ^ 64 → b < 2 ^ 64 → c < 2 ^ 64 → distance a b + distance b c < 2 ^ 64 → distance a c ≡ distance a b + distance b c
distance_adds a b c ha hb hc f =
    ap (λ (x : ℕ). distance x c) (sym (after_distance a b ha hb)) ∙ behind_after b c (distance a b) hb hc (swap (distance a b) (distance b c) f)
    ∙ add_comm (distance b c) (distance a b)
  where
    swap : (m n : ℕ) → m + n < 2 ^ 64 → n + m < 2 ^ 64
    swap m n h = omega arith

pub after_u64 : (a n : ℕ) → after a n < 2 ^ 64
after_u64 a n = omega arith
