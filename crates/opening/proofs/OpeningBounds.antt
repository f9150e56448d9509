-- What an opening's tests say when they pass, and the doublings that round a capacity up.
-- Assumes nothing.
use Rattle.std.specs.Prelude.{Ok}
use Rattle.std.specs.Int.{IsPowerOfTwo}
use mathlib.Core.Path.{◌≡◌, refl, sym, ap, ◌∙◌}
use mathlib.Core.Bool.{Bool, true, false}
use Prim.Native.Nat.{ℕ, zero, suc, ◌+◌, ◌*◌, ◌/◌, ◌^◌, ◌≤◌, ◌<◌, max}
use native.Mathlib.Nat.{pow-le-pow_right}
use native.Mathlib.Omega.{arith}
use borrow.Author.Tests.{leb-true, leb-false}
use lib.Dec.{leb}
use Rattle.model.specs.Lists.{if}
use Rattle.model.specs.declared.Opening.{Opening}
use Rattle.model.specs.Opening.{doubled_until, next_power_of_two}
use Rattle.lane.specs.Table.{header_words, row_words}
use Rattle.opening.specs.Opening.{sizes_verdict, stores_verdict}
use Rattle.store.proofs.RefusalLaws.{passes}

-- the sizes of an opening that is not refused for them
pub record Sized (o : Opening) : Type 0 where
  pub capacity_some : 1 ≤ o.capacity
  pub capacity_most : o.capacity ≤ 65536
  pub slots_some : 1 ≤ o.slots
  pub slots_most : o.slots ≤ 8192

pub sizes_pass : (o : Opening) → sizes_verdict o ≡ Ok (tt {0}) → Sized o
unfolding sizes_verdict
sizes_pass o e =
    let a = passes (leb 1 o.capacity) _ _ e in
    let b = passes (leb o.capacity 65536) _ _ a.1 in
    let c = passes (leb 1 o.slots) _ _ b.1 in
    let d = passes (leb o.slots 8192) _ _ c.1 in
    record {
      capacity_some = leb-true _ _ a.0;
      capacity_most = leb-true _ _ b.0;
      slots_some = leb-true _ _ c.0;
      slots_most = leb-true _ _ d.0;
    }

pub stores_pass : (S C table rings : ℕ) → stores_verdict S C table rings ≡ Ok (tt {0}) → (S * C ≤ rings) × (row_words * S + header_words ≤ table)
unfolding stores_verdict
stores_pass S C table rings e =
    let a = passes (leb (S * C) rings) _ _ e in
    let b = passes (leb (row_words * S + header_words) table) _ _ a.1 in
    (leb-true _ _ a.0, leb-true _ _ b.0)

-- ---- a capacity rounded up by doublings is the least power of two that is not below it

-- j is the logarithm of what is reached, and k that of the least power
rounds : (n j k c : ℕ) → j ≤ k → k ≤ j + n → c ≤ 2 ^ k → 2 ^ k / 2 < max 1 c → doubled_until n (2 ^ j) c ≡ 2 ^ k
unfolding doubled_until
rounds zero j k c h l b u = ap (λ (i : ℕ). 2 ^ i) (omega arith)
rounds (suc n) j k c h l b u = go (leb c (2 ^ j)) refl (λ m. rounds n (suc j) k c m (omega arith) b u)
  where
    no_less : c ≤ 2 ^ j → j < k → ⊥
    no_less g m =
        let z : 0 ≤ j = omega arith in
        let some : 1 ≤ 2 ^ j = pow-le-pow_right {n = 2} (omega arith) z in
        let twofold : 2 ^ suc j ≤ 2 ^ k = pow-le-pow_right {n = 2} (omega arith) m in
        omega (arith, some, twofold, g, u)

    no_more : 2 ^ j < c → k ≤ j → ⊥
    no_more g m = let less : 2 ^ k ≤ 2 ^ j = pow-le-pow_right {n = 2} (omega arith) m in omega (arith, less, g, b)

    twice : 2 ^ j + 2 ^ j ≡ 2 ^ suc j
    twice = omega arith

    go : (a : Bool) → leb c (2 ^ j) ≡ a → (j < k → doubled_until n (2 ^ suc j) c ≡ 2 ^ k) → if a (2 ^ j) (doubled_until n (2 ^ j + 2 ^ j) c) ≡ 2 ^ k
    go true e more = let n : j < k → ⊥ = no_less (leb-true _ _ e) in ap (λ (i : ℕ). 2 ^ i) (omega (arith, n))
    go false e more = let m : k ≤ j → ⊥ = no_more (leb-false _ _ e) in rw twice (more (omega (arith, m)))

pub rounded : (c p : ℕ) → IsPowerOfTwo p → c ≤ p → p / 2 < max 1 c → c ≤ 65536 → (p ≡ next_power_of_two c) × (p ≤ 65536)
rounded c p w b u m =
    let k = w.0 in
    let e : p ≡ 2 ^ k = w.1 in
    let large : 17 ≤ k → ⊥ = λ h. let l : 131072 ≤ 2 ^ k = pow-le-pow_right {n = 2} (omega arith) h in omega (arith, l, e, u, m) in
    let small : k ≤ 16 = omega (arith, large) in
    let most : 2 ^ k ≤ 65536 = pow-le-pow_right {n = 2} (omega arith) small in
    (e ∙ sym (rounds 16 0 k c (omega arith) (omega arith) (omega (arith, e, b)) (rw e at u)), omega (arith, e, most))
