-- Laws of the header's test.
-- Assumes nothing.
use mathlib.Core.Path.{◌≡◌, sym, ap, ◌∙◌}
use Prim.Native.Nat.{ℕ, ◌*◌, ◌%◌, ◌^◌, ◌≤◌}
use native.Mathlib.Nat.{mul-le-mul}
use native.Mathlib.Omega.{arith}
use lib.Count.{count_trailing_zeros}
use lib.Pow.{pow_mono}
use Rattle.yring.specs.Cursor.{Capacity}
use Rattle.yring.proofs.CursorLaws.{log_is}
use Rattle.ready.proofs.BitLaws.{one_shl}

module _ (c : ℕ) where
  abbrev zeros : ℕ
  zeros = count_trailing_zeros 64 c

  pub capacity_small : Capacity c → zeros ≤ 16
  capacity_small k = omega (arith, log_is c k, k.small)

  pub capacity_is : Capacity c → c ≡ 1 * 2 ^ zeros % 2 ^ 64
  capacity_is k = k.is ∙ ap (λ (n : ℕ). 2 ^ n) (sym (log_is c k)) ∙ sym (one_shl zeros (omega (arith, capacity_small k)))

  pub capacity_of : zeros ≤ 16 → c ≡ 1 * 2 ^ zeros % 2 ^ 64 → Capacity c
  capacity_of h e =
      let p : c ≡ 2 ^ zeros = e ∙ one_shl zeros (omega arith) in
      record { log = zeros; small = h; is = p; most = omega (arith, p, pow_mono {i = zeros} {j = 16} h) }

pub area : (s c : ℕ) → s ≤ 8192 → c ≤ 65536 → s * c ≤ 536870912
area s c h l = mul-le-mul h l
