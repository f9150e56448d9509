-- Numbers that are sums over the issued slots, on the words and as the rules see them: the counts of registered lanes, of living senders and of held items.
-- Assumes nothing.
use mathlib.Core.Path.{◌≡◌, refl, sym, ap, ◌∙◌}
use mathlib.Core.Logic.{◌≢◌}
use mathlib.Core.Bool.{Bool, true, false, cond}
use mathlib.Core.List.{List, [], ◌∷◌}
use Prim.Native.Nat.{ℕ, suc, ◌+◌, ◌≤◌, ◌<◌}
use native.Mathlib.Numerals.{add-one}
use native.Mathlib.Omega.{arith}
use lib.ListN.{length}
use Rattle.model.specs.Lists.{if, keep, from, total}
use Rattle.model.specs.State.{Slot, State, registered_lanes, living_senders, items_held}
use Rattle.demands.proofs.Totals.{total_more, total_some, total_same, total_but, sum_of}
use Rattle.demands.proofs.Held.{ring_count, items_held_sum}
use Rattle.lane.specs.declared.lane.Lane.{Lane}
use Rattle.yring.specs.Cursor.{distance}
use Rattle.yring.specs.Ring.{new_ring}
use Rattle.lane.specs.Lane.{held_items}
use Rattle.lane.specs.Table.{lane_at}
use Rattle.yring.proofs.RingLaws.{length_items}
use Rattle.queues.specs.Header.{issued, capacity}
use Rattle.store.specs.View.{flag, slot_at, view}
use Rattle.store.specs.Held.{held_in}
use Rattle.store.proofs.ViewLaws.{slot_in}

-- 1 of a test that holds
abbrev pub one : Bool → ℕ
one b = if b 1 0

-- ---- how many of n numbers from a on pass a test

abbrev pub passing : (ℕ → Bool) → ℕ → ℕ → ℕ
passing p a n = length (keep p (from a n))

passing_total : (p : ℕ → Bool) (l : List ℕ) → length (keep p l) ≡ total (λ x. one (p x)) l
unfolding keep total
passing_total p [] = refl
passing_total p (x ∷ l) = go (p x) (passing_total p l)
  where
    go : (b : Bool) → length (keep p l) ≡ total (λ x. one (p x)) l → length (if b (x ∷ keep p l) (keep p l)) ≡ one b + total (λ x. one (p x)) l
    go true e = omega arith
    go false e = omega arith

pub passing_none : (p : ℕ → Bool) (a : ℕ) → passing p a 0 ≡ 0
unfolding keep from
passing_none p a = refl

-- two tests that agree on the numbers
pub passing_same : (p q : ℕ → Bool) (a n : ℕ) → ((y : ℕ) → a ≤ y → y < a + n → p y ≡ q y) → passing p a n ≡ passing q a n
passing_same p q a n h =
    passing_total p (from a n) ∙ total_same (λ x. one (p x)) (λ x. one (q x)) a n (λ y g l. ap one (h y g l)) ∙ sym (passing_total q (from a n))

-- two tests that agree but at x
pub passing_but : (p q : ℕ → Bool) (x a n : ℕ) → a ≤ x → x < a + n → ((y : ℕ) → x ≢ y → p y ≡ q y) → passing p a n + one (q x) ≡ passing q a n + one (p x)
passing_but p q x a n g l h =
    omega (arith, passing_total p (from a n), passing_total q (from a n), total_but (λ x. one (p x)) (λ x. one (q x)) x a n g l (λ y d. ap one (h y d)))

-- one more number
pub passing_more : (p : ℕ → Bool) (a n b : ℕ) → b ≡ a + n → passing p a (suc n) ≡ passing p a n + one (p b)
passing_more p a n b e = omega (arith, passing_total p (from a (suc n)), passing_total p (from a n), total_more (λ x. one (p x)) a n b e)

-- a number that passes is counted
pub passing_some : (p : ℕ → Bool) (x a n : ℕ) → a ≤ x → x < a + n → p x ≡ true → 0 < passing p a n
passing_some p x a n g l h =
    let e : one (p x) ≡ 1 = ap one h in
    omega (arith, e, passing_total p (from a n), total_some (λ x. one (p x)) x a n g l)

-- ---- a number of the rules that is a sum over the issued slots

pub record SlotSum : Type 0 where
  pub number : State → ℕ
  -- what a slot adds to it, as the rules see the slot and by its lane's words
  pub by_rules : Slot → ℕ
  pub by_words : Lane → ℕ
  pub is_sum : (s : State) → number s ≡ sum_of by_rules s
  pub agree : (t r : List ℕ) (x : ℕ) → by_rules (slot_at t r x) ≡ by_words (lane_at t x)

pub registered_sum : (s : State) → registered_lanes s ≡ sum_of (λ m. one m.registered) s
unfolding registered_lanes
registered_sum s = passing_total (λ x. (s.slot_of x).registered) (from 0 s.issued)

pub registered_agree : (t r : List ℕ) (x : ℕ) → one (slot_at t r x).registered ≡ one (flag (lane_at t x).registered)
unfolding slot_at
registered_agree t r x = refl

pub living_senders_sum : (s : State) → living_senders s ≡ sum_of (λ m. one m.living) s
unfolding living_senders
living_senders_sum s = passing_total (λ x. (s.slot_of x).living) (from 0 s.issued)

pub living_agree : (t r : List ℕ) (x : ℕ) → one (slot_at t r x).living ≡ one (flag (lane_at t x).living)
unfolding slot_at
living_agree t r x = refl

abbrev pub lanes_sum : SlotSum
lanes_sum =
    record {
      number = registered_lanes;
      by_rules = λ m. one m.registered;
      by_words = λ l. one (flag l.registered);
      is_sum = registered_sum;
      agree = registered_agree;
    }

abbrev pub living_sum : SlotSum
living_sum =
    record {
      number = living_senders;
      by_rules = λ m. one m.living;
      by_words = λ l. one (flag l.living);
      is_sum = living_senders_sum;
      agree = living_agree;
    }

pub held_agree : (t r : List ℕ) (x : ℕ) → ring_count (slot_at t r x) ≡ held_in (lane_at t x)
unfolding ring_count held_in slot_at held_items
held_agree t r x =
    let l = lane_at t x in
    rw (length_items (new_ring x (capacity t)) r l.head (distance l.tail l.head)) (same (flag l.registered) _)
  where
    same : (b : Bool) (n : ℕ) → if b n 0 ≡ cond b n 0
    same true n = refl
    same false n = refl

abbrev pub held_sum : SlotSum
held_sum =
    record {
      number = items_held;
      by_rules = ring_count;
      by_words = held_in;
      is_sum = items_held_sum;
      agree = held_agree;
    }

module _ (c : SlotSum) where
  -- by the words
  abbrev part : List ℕ → ℕ → ℕ
  part t x = c.by_words (lane_at t x)

  pub number_is : (t r : List ℕ) → c.number (view t r) ≡ total (part t) (from 0 (issued t))
  unfolding view
  number_is t r =
      c.is_sum (view t r)
      ∙ total_same (λ x. c.by_rules ((view t r).slot_of x)) (part t) 0 (issued t) (λ y g l. ap c.by_rules (slot_in t r y (omega arith)) ∙ c.agree t r y)

  -- a slot's part is at most the number
  pub number_some : (t r : List ℕ) (x : ℕ) → x < issued t → c.by_words (lane_at t x) ≤ c.number (view t r)
  number_some t r x h = omega (arith, number_is t r, total_some (part t) x 0 (issued t) (omega arith) (omega arith))

  module _ (t r u q : List ℕ) where
    -- every slot has the part that it had
    pub number_same : issued u ≡ issued t → ((y : ℕ) → c.by_words (lane_at u y) ≡ c.by_words (lane_at t y)) → c.number (view u q) ≡ c.number (view t r)
    number_same i e = number_is u q ∙ rw i (total_same (part u) (part t) 0 (issued t) (λ y g l. e y)) ∙ sym (number_is t r)

    -- lane x changes
    pub number_but : issued u ≡ issued t → (x : ℕ) → x < issued t → ((y : ℕ) → x ≢ y → lane_at u y ≡ lane_at t y)
        → c.number (view u q) + c.by_words (lane_at t x) ≡ c.number (view t r) + c.by_words (lane_at u x)
    number_but i x h e =
        let b = total_but (part u) (part t) x 0 (issued t) (omega arith) (omega arith) (λ y d. ap c.by_words (e y d)) in
        omega (arith, number_is t r, rw i at (number_is u q), b)

    -- one slot more is issued
    pub number_more : issued u ≡ issued t + 1 → ((y : ℕ) → y < issued t → lane_at u y ≡ lane_at t y)
        → c.number (view u q) ≡ c.number (view t r) + c.by_words (lane_at u (issued t))
    number_more i e =
        let b = total_more (part u) 0 (issued t) (issued t) (omega arith) in
        let s = total_same (part u) (part t) 0 (issued t) (λ y g l. ap c.by_words (e y (omega arith))) in
        omega (arith, number_is t r, rw (i ∙ add-one (issued t)) at (number_is u q), b, s)
