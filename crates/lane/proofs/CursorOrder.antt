-- Cursors in order stay so as the tail, the head, the known tail and the released head go on.
-- Assumes nothing.
use mathlib.Core.Path.{◌≡◌, ◌∙◌, ap}
use Prim.Native.Nat.{ℕ, ◌+◌, ◌-◌, ◌≤◌, ◌<◌, ◌^◌}
use native.Mathlib.Omega.{arith}
use Rattle.yring.specs.Cursor.{after, distance}
use Rattle.lane.specs.Order.{Cursors}
use Rattle.yring.proofs.CursorLaws.{distance_self, distance_adds, behind_after, ahead_after, after_u64}

module _ (C tail released head known : ℕ) (small : C ≤ 65536) (o : Cursors C tail released head known) where
  two : {m n : ℕ} → m ≤ C → n ≤ C → m + n < 2 ^ 64
  two a b = omega arith

  three : {l m n : ℕ} → l ≤ C → m ≤ C → n ≤ C → l + m + n < 2 ^ 64
  three a b c = omega arith

  -- what a lane holds: what was published since the last look, and what is known of
  pub held_adds : distance tail head ≡ distance tail known + distance known head
  held_adds = distance_adds tail known head o.tail_u64 o.known_u64 o.head_u64 (two o.tail_on o.known_on)

  -- the whole span
  pub span_adds : distance tail released ≡ distance tail known + distance known head + distance head released
  span_adds =
      distance_adds tail head released o.tail_u64 o.head_u64 o.released_u64
      (rw held_adds (three o.tail_on o.known_on o.head_on))
      ∙ ap (λ (n : ℕ). n + distance head released) held_adds

  -- the head goes on by items that are known of
  pub head_goes_on : (n : ℕ) → n ≤ distance known head → Cursors C tail released (after head n) known
  head_goes_on n m =
      record {
        tail_u64 = o.tail_u64;
        released_u64 = o.released_u64;
        head_u64 = after_u64 head n;
        known_u64 = o.known_u64;
        head_on =
            rw (behind_after head released n o.head_u64 o.released_u64 (two o.head_on (most m o.known_on)))
            (within (distance tail known) (distance known head) (distance head released) m span_adds o.tail_within);
        known_on = rw (ahead_after known head n o.known_u64 o.head_u64 m) (less m o.known_on);
        tail_on = o.tail_on;
        tail_within = o.tail_within;
      }
    where
      most : {a b : ℕ} → a ≤ b → b ≤ C → a ≤ C
      most h k = omega arith

      less : {a b : ℕ} → a ≤ b → b ≤ C → b - a ≤ C
      less h k = omega arith

      within : {a e : ℕ} (b c d : ℕ) → a ≤ c → e ≡ b + c + d → e ≤ C → d + a ≤ C
      within b c d h k l = omega arith

  -- the tail goes on by one where the ring is not full
  pub tail_goes_on : (distance tail released ≡ C → ⊥) → Cursors C (after tail 1) released head known
  tail_goes_on f =
      let whole : distance (after tail 1) released ≡ distance tail released + 1 = behind_after tail released 1 o.tail_u64 o.released_u64 (one o.tail_within) in
      let new : distance (after tail 1) known ≡ distance tail known + 1 = behind_after tail known 1 o.tail_u64 o.known_u64 (one o.tail_on) in
      record {
        tail_u64 = after_u64 tail 1;
        released_u64 = o.released_u64;
        head_u64 = o.head_u64;
        known_u64 = o.known_u64;
        head_on = o.head_on;
        known_on = o.known_on;
        tail_on = rw new (part (distance tail known) (distance known head) (distance head released) o.tail_within f span_adds);
        tail_within = rw whole (below o.tail_within f);
      }
    where
      one : {a : ℕ} → a ≤ C → a + 1 < 2 ^ 64
      one h = omega arith

      below : {a : ℕ} → a ≤ C → (a ≡ C → ⊥) → a + 1 ≤ C
      below h n = omega arith

      part : {a : ℕ} (b c d : ℕ) → a ≤ C → (a ≡ C → ⊥) → a ≡ b + c + d → b + 1 ≤ C
      part b c d h n e = omega arith

  -- a look makes the known tail the tail
  pub known_is_tail : Cursors C tail released head tail
  known_is_tail =
      record {
        tail_u64 = o.tail_u64;
        released_u64 = o.released_u64;
        head_u64 = o.head_u64;
        known_u64 = o.tail_u64;
        head_on = o.head_on;
        known_on = part (distance tail known) (distance known head) (distance head released) held_adds span_adds o.tail_within;
        tail_on = rw (distance_self tail o.tail_u64) (omega arith);
        tail_within = o.tail_within;
      }
    where
      part : {a e : ℕ} (b c d : ℕ) → a ≡ b + c → e ≡ b + c + d → e ≤ C → a ≤ C
      part b c d h k l = omega arith

  -- credit back makes the released head the head
  pub released_is_head : Cursors C tail head head known
  released_is_head =
      record {
        tail_u64 = o.tail_u64;
        released_u64 = o.head_u64;
        head_u64 = o.head_u64;
        known_u64 = o.known_u64;
        head_on = rw (distance_self head o.head_u64) (omega arith);
        known_on = o.known_on;
        tail_on = o.tail_on;
        tail_within = known_is_tail.known_on;
      }
