-- Document 01's example of release batches, for every capacity: before the last receive of a release batch a ring has room as if nothing had been received, and
-- after it for as many items more as the batch has.
-- Assumes nothing.
use mathlib.Core.Path.{◌≡◌, refl, ap, ap₂, sym, ◌∙◌, subst, fun_ext}
use mathlib.Core.Bool.{Bool, true, false, not}
use mathlib.Core.List.{List, [], ◌∷◌, ◌++◌}
use Prim.Native.Nat.{ℕ, zero, suc, ◌+◌, ◌-◌, ◌*◌, ◌/◌, ◌^◌, ◌%◌, ◌<◌, ◌≤◌}
use native.Mathlib.Omega.{arith}
use lib.ListN.{length, length-append}
use lib.Dec.{eqb, leb}
use lib.Pow.{pow_pos, pow_mono, pow-add}
use borrow.Author.Tests.{eq-eqb, ne_eqb, le-leb, lt-leb, leb-true, leb-false}
use Rattle.model.specs.declared.Call.{Call}
use Rattle.model.specs.declared.Refusal.TheVariants.{Full}
use Rattle.model.specs.declared.Answer.{Answer}
use Rattle.model.specs.declared.Answer.TheVariants.{Taken, Refused}
use Rattle.model.specs.Lists.{if, either}
use Rattle.model.specs.State.{Slot, State, vacant, release_batch}
use Rattle.model.specs.Changes.{with_slots, put, unmarked}
use Rattle.model.specs.Turn.{refill, unreleased_after_one, give_item}
use Rattle.model.specs.Runs.{answers, after_list}
use Rattle.model.specs.Opening.{next_power_of_two, opened_state}
use Rattle.model.specs.Rules.{outcome, the_rules}
use Rattle.model.specs.Examples.Example.{opening_of, repeat, in_a_row, calls_of, answers_of, said_calls, said_answers, compute_examples, registers, sends, plain, lane, gave}
use Rattle.model.specs.Examples.Table.{credit_after}
use Rattle.model.proofs.Examples.Calls.{compute, Found, expected}
use Rattle.demands.proofs.Opened.{doubled_power}

-- ---- the state

-- lane 0 and no other; its slot is l, q is the queue, p the poll budget, g the group cursor
abbrev only : ℕ → Slot → List ℕ → ℕ → ℕ → State
only C l q p g = record {
  slot_of = λ y. if (eqb 0 y) l vacant;
  queue = q;
  free = [];
  issued = 1;
  budget = p;
  cursor = g;
  is_open = true;
  capacity = C;
  slots = 1;
  channel = record { id = 7; opening = 0 };
  first_generation = 0;
}

-- a slot with a lane that lives and is not paused
abbrev slot_with : Bool → Bool → List ℕ → ℕ → ℕ → Slot
slot_with pending marked ring unreleased burst = record {
  registered = true;
  living = true;
  paused = false;
  pending = pending;
  marked = marked;
  generation = 0;
  ring = ring;
  unreleased = unreleased;
  burst = burst;
}

put_only : (C : ℕ) (l m : Slot) (q : List ℕ) (p g : ℕ) → put 0 m (only C l q p g) ≡ only C m q p g
put_only C l m q p g = ap (λ (f : ℕ → Slot). with_slots f (only C l q p g)) (fun_ext (λ y. twice (eqb 0 y)))
  where
    twice : (b : Bool) → if b m (if b l vacant) ≡ if b m vacant
    twice true = refl
    twice false = refl

-- ---- one call

send_taken : (C v : ℕ) (pending marked : Bool) (vs : List ℕ) (u b : ℕ) (q : List ℕ) (p g : ℕ) → length vs + u < C
    → (outcome (only C (slot_with pending marked vs u b) q p g) (sends 0 v)).1
    ≡ (Taken (not pending) (C - (length vs + u + 1)), only C (slot_with true (either (not pending) marked) (vs ++ (v ∷ [])) u b) q p g)
unfolding compute compute_examples
send_taken C v pending marked vs u b q p g h =
    let one_less : C - (length (vs ++ (v ∷ [])) + u) ≡ C - (length vs + u + 1) = rw (length-append vs (v ∷ [])) (omega arith) in
    rw (lt-leb C (length vs + u) h)
    (ap₂ (λ (f : ℕ) (s : State). (Taken (not pending) f, s)) one_less (put_only C (slot_with pending marked vs u b) (slot_with true (either (not pending) marked) (vs ++ (v ∷ [])) u b) q p g))

send_refused_lem : (C v : ℕ) (pending marked : Bool) (vs : List ℕ) (u b : ℕ) (q : List ℕ) (p g : ℕ) → C ≤ length vs + u
    → let s = only C (slot_with pending marked vs u b) q p g in (outcome s (sends 0 v)).1 ≡ (Refused Full, s)
unfolding compute compute_examples
send_refused_lem C v pending marked vs u b q p g h = rw (le-leb C (length vs + u) h)

-- the count after one more item
abbrev one_more : ℕ → ℕ → ℕ
one_more C u = if (eqb (u + 1) (release_batch C)) 0 (u + 1)

-- the first receive collects the lane
first_given : (C v : ℕ) (vs : List ℕ) (u : ℕ)
    → (outcome (only C (slot_with true true (v ∷ vs) u 0) [] 64 0) plain).1
    ≡ (gave v 0, only C (slot_with true false vs (one_more C u) 1) (0 ∷ []) 63 1)
unfolding compute compute_examples
first_given C v vs u =
    ap (λ (f : ℕ → Slot). (gave v 0, with_slots f (only C (slot_with true false vs (one_more C u) 1) (0 ∷ []) 63 1)))
    (fun_ext (λ y. collected (eqb 0 y) (eqb (y / 4096) 0)))
  where
    collected : (b c : Bool)
        → let l = slot_with true true (v ∷ vs) u 0 in
        let m = slot_with true false vs (one_more C u) 1 in if b m (if c (unmarked (if b l vacant)) (if b l vacant)) ≡ if b m vacant
    collected true c = refl
    collected false true = refl
    collected false false = refl

-- the others find it in front: after a full burst it goes to the back of a queue of one, and where the budget is 0 nothing is marked
module _ (C v : ℕ) (vs : List ℕ) (u b : ℕ) where
  front_given : (p : ℕ) (back : Bool)
      → give_item (only C (slot_with true false (v ∷ vs) u b) (0 ∷ []) p 1) 0 [] vs back
      ≡ only C (slot_with true false vs (one_more C u) (if back 0 (b + 1))) (0 ∷ []) (refill p - 1) 1
  unfolding give_item unreleased_after_one
  front_given p true = put_only C (slot_with true false (v ∷ vs) u b) (slot_with true false vs (one_more C u) 0) (0 ∷ []) (refill p - 1) 1
  front_given p false = put_only C (slot_with true false (v ∷ vs) u b) (slot_with true false vs (one_more C u) (b + 1)) (0 ∷ []) (refill p - 1) 1

  next_given : (p : ℕ)
      → (outcome (only C (slot_with true false (v ∷ vs) u b) (0 ∷ []) p 1) plain).1
      ≡ (gave v 0, only C (slot_with true false vs (one_more C u) (if (leb 63 b) 0 (b + 1))) (0 ∷ []) (refill p - 1) 1)
  unfolding compute compute_examples
  next_given zero = ap (λ (s : State). (gave v 0, s)) (front_given 64 (leb 63 b))
  next_given (suc p) = ap (λ (s : State). (gave v 0, s)) (front_given (suc p) (leb 63 b))

-- ---- calls one after the other

-- from s the calls answer `told`, and leave u
record Comes (s : State) (cs : List Call) (told : List Answer) (u : State) : Type 0 where
  answered : answers the_rules s cs ≡ told
  leaves : after_list the_rules s cs ≡ u

done : (s : State) → Comes s [] [] s
unfolding answers after_list
done s = record { answered = refl; leaves = refl }

then : {c : Call} {a : Answer} {s t u : State} {cs : List Call} {told : List Answer} → (outcome s c).1 ≡ (a, t) → Comes t cs told u → Comes s (c ∷ cs) (a ∷ told) u
unfolding answers after_list
then {cs = cs} h r = record {
  answered = rw (h, r.answered);
  leaves = ap (λ (w : Answer × State). after_list the_rules w.1 cs) h ∙ r.leaves;
}

-- ---- the run

length_repeat : (n v : ℕ) → length (repeat n v) ≡ n
unfolding repeat
length_repeat zero v = refl
length_repeat (suc n) v = ap suc (length_repeat n v)

repeat_more : (n v : ℕ) → repeat n v ++ (v ∷ []) ≡ repeat (suc n) v
unfolding repeat
repeat_more zero v = refl
repeat_more (suc n) v = ap (λ (l : List ℕ). v ∷ l) (repeat_more n v)

one_in_a_row : (w : Bool) (f : ℕ) → in_a_row 1 (Taken w f) ≡ Taken w f ∷ []
unfolding in_a_row
one_in_a_row w zero = refl
one_in_a_row w (suc f) = refl

-- a burst is 64 items, and so is what the budget allows
burst_next : (k : ℕ) → if (leb 63 (k % 64)) 0 (k % 64 + 1) ≡ suc k % 64
burst_next k = go (leb 63 (k % 64)) refl
  where
    go : (b : Bool) → leb 63 (k % 64) ≡ b → if b 0 (k % 64 + 1) ≡ suc k % 64
    go true e = omega (arith, leb-true 63 (k % 64) e)
    go false e = omega (arith, leb-false 63 (k % 64) e)

budget_next : (k : ℕ) → refill (63 - k % 64) - 1 ≡ 63 - suc k % 64
unfolding refill
budget_next k = go (63 - k % 64) refl
  where
    go : (p : ℕ) → 63 - k % 64 ≡ p → refill p - 1 ≡ 63 - suc k % 64
    go zero e = omega (arith, e)
    go (suc p) e = omega (arith, e)

module _ (C : ℕ) where
  -- k items are taken, u of them not released, and n are in the ring. The first receive collects the lane
  abbrev given : ℕ → ℕ → ℕ → State
  given zero u n = only C (slot_with true true (repeat n 5) u 0) [] 64 0
  given (suc k) u n = only C (slot_with true false (repeat n 5) u (suc k % 64)) (0 ∷ []) (63 - k % 64) 1

  one_sent : (k u n : ℕ) → n + u < C → (outcome (given k u n) (sends 0 5)).1 ≡ (Taken false (C - (n + u + 1)), given k u (suc n))
  one_sent zero u n h =
      send_taken C 5 true true (repeat n 5) u 0 [] 64 0 (omega (arith, length_repeat n 5))
      ∙ ap₂ (λ (m : ℕ) (l : List ℕ). (Taken false (C - (m + u + 1)), only C (slot_with true true l u 0) [] 64 0)) (length_repeat n 5) (repeat_more n 5)
  one_sent (suc k) u n h =
      send_taken C 5 true false (repeat n 5) u (suc k % 64) (0 ∷ []) (63 - k % 64) 1 (omega (arith, length_repeat n 5))
      ∙ ap₂ (λ (m : ℕ) (l : List ℕ). (Taken false (C - (m + u + 1)), only C (slot_with true false l u (suc k % 64)) (0 ∷ []) (63 - k % 64) 1)) (length_repeat n 5) (repeat_more n 5)

  none_sent : (k u n : ℕ) → n + u ≡ C → (outcome (given k u n) (sends 0 5)).1 ≡ (Refused Full, given k u n)
  none_sent zero u n h = send_refused_lem C 5 true true (repeat n 5) u 0 [] 64 0 (omega (arith, length_repeat n 5))
  none_sent (suc k) u n h = send_refused_lem C 5 true false (repeat n 5) u (suc k % 64) (0 ∷ []) (63 - k % 64) 1 (omega (arith, length_repeat n 5))

  one_given : (k u n : ℕ) → (outcome (given k u (suc n)) plain).1 ≡ (gave 5 0, given (suc k) (one_more C u) n)
  unfolding repeat
  one_given zero u n = first_given C 5 (repeat n 5) u
  one_given (suc k) u n =
      next_given C 5 (repeat n 5) u (suc k % 64) (63 - k % 64)
      ∙ ap₂ (λ (b p : ℕ). (gave 5 0, only C (slot_with true false (repeat n 5) (one_more C u) b) (0 ∷ []) p 1)) (burst_next (suc k)) (budget_next k)

  -- so many sends, from n items in the ring to `after`; the first says f
  all_sent : (m k u n after f : ℕ) {t : State} {cs : List Call} {told : List Answer} → n + m ≡ after → after + u ≤ C → f ≡ C - (n + u + 1) → Comes (given k u after) cs told t
      → Comes (given k u n) (repeat m (sends 0 5) ++ cs) (in_a_row m (Taken false f) ++ told) t
  unfolding repeat in_a_row
  all_sent zero k u n after f {t = t} {cs = cs} {told = told} e h z r = let same : after ≡ n = omega (arith, e) in subst (λ (x : ℕ). Comes (given k u x) cs told t) same r
  all_sent (suc m) k u n after zero e h z r =
      then (one_sent k u n (omega (arith, e)) ∙ ap (λ (f : ℕ). (Taken false f, given k u (suc n))) (sym z)) (all_sent m k u (suc n) after 0 (omega (arith, e)) h (omega (arith, z)) r)
  all_sent (suc m) k u n after (suc f) e h z r =
      then (one_sent k u n (omega (arith, e)) ∙ ap (λ (f : ℕ). (Taken false f, given k u (suc n))) (sym z)) (all_sent m k u (suc n) after f (omega (arith, e)) h (omega (arith, z)) r)

  -- so many receives, none of which reaches the release batch: from k items that are taken to `end`
  all_given : (m k end n left : ℕ) {t : State} {cs : List Call} {told : List Answer} → k + m ≡ end → left + m ≡ n → end < release_batch C → Comes (given end end left) cs told t
      → Comes (given k k n) (repeat m plain ++ cs) (in_a_row m (gave 5 0) ++ told) t
  unfolding repeat in_a_row gave
  all_given zero k end n left {t = t} {cs = cs} {told = told} e l h r =
      let same : end ≡ k = omega (arith, e) in
      let rest : left ≡ n = omega (arith, l) in
      subst (λ (x : ℕ). Comes (given k k x) cs told t) rest (subst (λ (x : ℕ). Comes (given x x left) cs told t) same r)
  all_given (suc m) k end n left e l h r =
      let one : n ≡ suc (left + m) = omega (arith, l) in
      let count : one_more C k ≡ suc k = rw (ne_eqb (k + 1) (release_batch C) (λ z. omega (arith, z, e))) (omega arith) in
      then (ap (λ (x : ℕ). (outcome (given k k x) plain).1) one ∙ one_given k k (left + m) ∙ ap (λ (u : ℕ). (gave 5 0, given (suc k) u (left + m))) count)
      (all_given m (suc k) end (left + m) left (omega (arith, e)) refl h r)

  -- k items are taken before the one with which the release batch is reached; of n items that are sent first, j are taken before the ring is filled
  module _ (k n j : ℕ) (e : release_batch C ≡ suc k) (b : suc k ≤ C) (some : 1 ≤ n) (most : n ≤ C) (d : j ≤ n) (l : j ≤ k) where
    returned : one_more C k ≡ 0
    returned = rw (eq-eqb (k + 1) (release_batch C) (omega (arith, e)))

    last_given : (outcome (given k k (C - k)) plain).1 ≡ (gave 5 0, given (suc k) 0 (C - suc k))
    last_given =
        let one : C - k ≡ suc (C - suc k) = omega arith in
        ap (λ (x : ℕ). (outcome (given k k x) plain).1) one ∙ one_given k k (C - suc k) ∙ ap (λ (u : ℕ). (gave 5 0, given (suc k) u (C - suc k))) returned

    credit_run : Comes (only C (slot_with false false [] 0 0) [] 64 0)
        (sends 0 5 ∷ repeat (n - 1) (sends 0 5) ++ (repeat j plain ++ (repeat (C - n) (sends 0 5) ++ (sends 0 5 ∷ repeat (k - j) plain ++ (sends 0 5 ∷ plain ∷ repeat (release_batch C) (sends 0 5) ++ (sends 0 5 ∷ []))))))
        (in_a_row 1 (Taken true (C - 1)) ++ (in_a_row (n - 1) (Taken false (C - 2)) ++ (in_a_row j (gave 5 0) ++ (in_a_row (C - n) (Taken false (C - (n + 1))) ++ (Refused Full ∷ in_a_row (k - j) (gave 5 0) ++ (Refused Full ∷ gave 5 0 ∷ in_a_row (release_batch C) (Taken false (release_batch C - 1)) ++ (Refused Full ∷ [])))))))
        (given (suc k) 0 C)
    unfolding repeat
    credit_run =
        rw (one_in_a_row true (C - 1))
        (then (send_taken C 5 false false [] 0 0 [] 64 0 (omega arith))
        (all_sent (n - 1) 0 0 1 n (C - 2) (omega arith) (omega arith) (omega arith)
        (all_given j 0 j n (n - j) (omega arith) (omega arith) (omega (arith, e))
        (all_sent (C - n) j j (n - j) (C - j) (C - (n + 1)) (omega arith) (omega arith) (omega arith)
        (then (none_sent j j (C - j) (omega arith))
        (all_given (k - j) j k (C - j) (C - k) (omega arith) (omega arith) (omega (arith, e))
        (then (none_sent k k (C - k) (omega arith))
        (then last_given
        (all_sent (release_batch C) (suc k) 0 (C - suc k) C (release_batch C - 1) (omega (arith, e)) (omega arith) (omega (arith, e))
        (then (none_sent (suc k) 0 C (omega arith))
        (done (given (suc k) 0 C))))))))))))

-- ---- every capacity

-- the budget after a release batch of suc k items: they are at most 64, or a multiple of 64, as C is a power of two
batch_small : (C k : ℕ) → C ≤ 128 → release_batch C ≡ suc k → 63 - k % 64 ≡ 64 - suc k
unfolding release_batch
batch_small C k h e = let l : suc k ≤ 64 = omega (arith, e) in omega (arith, l)

batch_whole : (C m k : ℕ) → C ≡ 256 * m → release_batch C ≡ suc k → 63 - k % 64 ≡ 64 - suc k
unfolding release_batch
batch_whole C m k h e = let l : suc k ≡ 128 * m = omega (arith, h, e) in omega (arith, l)

batch_budget : (C n k : ℕ) → C ≡ 2 ^ n → release_batch C ≡ suc k → 63 - k % 64 ≡ 64 - suc k
batch_budget C n k p e = go (leb n 7) refl
  where
    go : (b : Bool) → leb n 7 ≡ b → 63 - k % 64 ≡ 64 - suc k
    go true h = batch_small C k (omega (arith, p, pow_mono {i = n} {j = 7} (leb-true n 7 h))) e
    go false h =
        let l : n ≡ 8 + (n - 8) = omega (arith, leb-false n 7 h) in
        batch_whole C (2 ^ (n - 8)) k (p ∙ ap (λ (j : ℕ). 2 ^ j) l ∙ pow-add 2 8 (n - 8)) e

registered : (c C batch sent taken p : ℕ)
    → (outcome (opened_state (opening_of (credit_after c C batch sent taken p))) registers).1
    ≡ (lane 0 0, only (next_power_of_two c) (slot_with false false [] 0 0) [] 64 0)
unfolding compute compute_examples credit_after
registered c C batch sent taken p = refl

batch_within : (C : ℕ) → 1 ≤ C → (release_batch C ≡ suc (release_batch C - 1)) × (suc (release_batch C - 1) ≤ C)
unfolding release_batch
batch_within C h = (omega arith, omega arith)

pub credit_after_lem : (c sent taken : ℕ)
    → let C = next_power_of_two c in 1 ≤ sent → sent ≤ C → taken ≤ sent → taken < release_batch C
    → let e = credit_after c C (release_batch C) sent taken (64 - release_batch C) in Found e ≡ expected e
unfolding Found expected credit_after said_calls said_answers calls_of answers_of in_a_row repeat lane gave
credit_after_lem c sent taken some most d l =
    let C = next_power_of_two c in
    let k = release_batch C - 1 in
    let n = doubled_power 16 0 1 c refl in
    let b = batch_within C (omega (arith, n.2, pow_pos n.0)) in
    let r = then (registered c C (release_batch C) sent taken (64 - release_batch C)) (credit_run C k sent taken b.0 b.1 some most d (omega (arith, l, b.0))) in
    ap₂ (λ (a : List Answer) (m : ℕ). (a, m)) r.answered
    (ap (λ (s : State). s.budget) r.leaves ∙ batch_budget C n.0 k n.2 b.0 ∙ ap (λ (m : ℕ). 64 - m) (sym b.0))
