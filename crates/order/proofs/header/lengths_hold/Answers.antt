-- `order::header::lengths_hold` meets its contract.
-- Assumes nothing.
use Prim.Native.Nat.{◌≤◌}
use Rattle.yring.specs.Cursor.{Capacity}
use Rattle.queues.specs.Header.{capacity, slots}
use native.Mathlib.Omega.{arith}
use Rattle.std.proofs.lemmas.Bool.Decides.{nat_tests}
use Rattle.order_slot.specs.Tells.{no}
use Rattle.order_slot.proofs.TellsLaws.{told, untold, tells_by, denied}
use Rattle.order.proofs.HeaderLaws.{area}
use Rattle.order.proofs.header.lengths_hold.Goals as goal

pub returns-then-t-lt-HEADER_WORDS : goal.returns-then-t-lt-HEADER_WORDS
returns-then-t-lt-HEADER_WORDS c = no (λ p. omega arith)

pub overflow_mul-result : goal.overflow_mul-result
overflow_mul-result c =
    let k : Capacity (capacity c.args.t.now) = grind (arith, told) in
    let s : slots c.args.t.now ≤ 8192 = grind arith in
    omega (arith, area _ _ s k.most)

pub returns-then-is_capacity : goal.returns-then-is_capacity
returns-then-is_capacity c =
    tells_by _
    (λ e. record {
      some_slots = grind arith;
      slots_most = grind arith;
      room = grind arith;
      power = grind (arith, told);
      rings_room = grind (arith, nat_tests);
    })
    (λ p. grind (arith, nat_tests, p.rings_room))

pub returns-else-is_capacity : goal.returns-else-is_capacity
returns-else-is_capacity c = denied (cc) (λ p. grind (arith, untold, p))
