-- An accepted opening leaves a state in order.
-- Assumes nothing.
use mathlib.Core.Path.{◌≡◌, refl}
use mathlib.Core.Bool.{Bool, true, false}
use mathlib.Core.List.{List}
use Prim.Native.Nat.{ℕ, zero, suc, ◌+◌, ◌^◌, ◌≤◌}
use native.Mathlib.Omega.{arith}
use lib.Dec.{leb, ltb}
use borrow.Author.Tests.{ltb-false}
use Rattle.model.specs.declared.Opening.{Opening}
use Rattle.model.specs.declared.Refusal.{Refusal}
use Rattle.model.specs.declared.Answer.TheVariants.{Done}
use Rattle.model.specs.Lists.{if, count}
use Rattle.model.specs.State.{State, vacant}
use Rattle.model.specs.Outcome.{Outcome, unless}
use Rattle.model.specs.Runs.{Lent}
use Rattle.model.specs.Opening.{doubled_until, opened_state, opening_outcome}
use Rattle.model.specs.Order.{Ordered}
use Rattle.demands.proofs.Counting.{no, either_false}
use Rattle.demands.proofs.Moves.{NoneApplies, unless_law}

-- an opening's capacity
pub doubled_power : (n j p c : ℕ) → p ≡ 2 ^ j → (k : ℕ) × (k ≤ j + n) × (doubled_until n p c ≡ 2 ^ k)
unfolding doubled_until
doubled_power zero j p c e = (j, omega arith, e)
doubled_power (suc n) j p c e = go (leb c p) (doubled_power n (suc j) (p + p) c (twice j p e))
  where
    twice : (j p : ℕ) → p ≡ 2 ^ j → p + p ≡ 2 ^ suc j
    twice j p e = omega (arith, e)

    go : (b : Bool) → (k : ℕ) × (k ≤ suc j + n) × (doubled_until n (p + p) c ≡ 2 ^ k) → (k : ℕ) × (k ≤ j + suc n) × (if b p (doubled_until n (p + p) c) ≡ 2 ^ k)
    go true r = (j, omega arith, e)
    go false r = (r.0, omega (arith, r.1), r.2)

-- a call that is not refused has passed every test
unless_done : (cs : List (Bool × Refusal)) (s : State) (r : Outcome) → (unless cs s r).1.0 ≡ Done → NoneApplies cs
unless_done cs s r = unless_law (λ o. o.1.0 ≡ Done → NoneApplies cs) cs s r (λ n e. let z : ◌≡◌ {A = ℕ} 0 1 = cc in absurd (omega arith)) (λ p e. p)

taken_slots : (o : Opening) (lent : Lent) → (opening_outcome o lent).1.0 ≡ Done → (1 ≤ o.slots) × (o.slots ≤ 8192)
unfolding opening_outcome
taken_slots o lent a =
    let p = unless_done _ _ _ a in
    let e = either_false (ltb o.slots 1) (ltb 8192 o.slots) p.1.0 in
    (omega (arith, ltb-false o.slots 1 e.0), omega (arith, ltb-false 8192 o.slots e.1))

pub opened_ordered : (o : Opening) (lent : Lent) → (opening_outcome o lent).1.0 ≡ Done → Ordered (opened_state o)
unfolding opened_state vacant count
opened_ordered o lent a = record {
  each_slot = λ y. record {
    queued_once = omega arith;
    free_once = omega arith;
    queued_registered = λ h. absurd (omega arith);
    queued_unpaused = λ h. refl;
    is_marked = λ h p g n. absurd (no h refl);
    registered_issued = λ h. absurd (no h refl);
    free_issued = λ h. absurd (omega arith);
    free_unregistered = λ h. refl;
    burst_most = λ h. omega arith;
    living_issued = λ h. absurd (no h refl);
    marked_issued = λ h. absurd (no h refl);
    free_generation = λ h. absurd (omega arith);
  };
  budget_most = omega arith;
  cursor_most = omega arith;
  sizes =
      let p = doubled_power 16 0 1 o.capacity refl in
      record { power_of_two = (p.0, omega (arith, p.1), p.2); some_slots = (taken_slots o lent a).0; most_slots = (taken_slots o lent a).1; issued_most = omega arith };
}
