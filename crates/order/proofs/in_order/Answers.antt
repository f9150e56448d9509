-- `order::in_order` meets its contract.
-- Assumes nothing.
use native.Mathlib.Omega.{arith}
use Rattle.queues.specs.Queue.{queue_of}
use Rattle.queues.specs.Registry.{free_of}
use Rattle.order_slot.specs.Clauses.{SlotsHold, CountsHold}
use Rattle.order.specs.Seen.{has, Seen}
use Rattle.order_slot.proofs.TellsLaws.{told, untold, tells_true, tells_by, denied}
use Rattle.order.proofs.AnswerLaws.{slots_by_lists, slots_by_bits, answers, refuses}
use Rattle.order.proofs.in_order.Goals as goal
use Rattle.order.proofs.in_order.Goals.{then-free_holds, else-free_holds}

pub returns-then-not-header_holds : goal.returns-then-not-header_holds
returns-then-not-header_holds c = refuses _ _ (λ p. untold c.header_holds.ensures c.if-not-header_holds.true p.header)

pub returns-then-not-queue_holds : goal.returns-then-not-queue_holds
returns-then-not-queue_holds c = refuses _ _ (λ p. untold c.queue_holds.ensures.tells c.if-not-queue_holds.true p.queue)

pub returns-then-pages_hold : goal.returns-then-pages_hold
returns-then-pages_hold c =
    answers _ _
    (tells_by _
    (λ e.
    let t = c.args.t.now in
    let q : Seen c.queue_holds.new.seen.words (queue_of t) = λ x. grind arith in
    let f : Seen c.free_holds.new.seen.words (free_of t) = λ x. grind arith in
    let s : SlotsHold t (has c.queue_holds.new.seen.words) (has c.free_holds.new.seen.words) × CountsHold t = grind (arith, told) in
    record {
      header = grind (arith, told);
      queue = grind (arith, told);
      free = grind (arith, told);
      each_slot = slots_by_lists _ _ _ q f s.0;
      counts = s.1;
      pages = grind (arith, told);
      groups = told c.groups_hold.ensures e;
    })
    (λ p. tells_true c.groups_hold.ensures p.groups))

pub returns-else-pages_hold : goal.returns-else-pages_hold
returns-else-pages_hold c =
    answers _ _
    (denied (cc)
    (λ p. elim c.if-free_holds.branch [
      | then-free_holds w ↦
          let t = c.args.t.now in
          let q : Seen c.queue_holds.new.seen.words (queue_of t) = λ x. grind arith in
          let f : Seen c.free_holds.new.seen.words (free_of t) = λ x. grind arith in
          let s = slots_by_bits _ _ _ q f p.each_slot in
          grind (arith, untold, p, s)
      | else-free_holds w ↦ grind (arith, untold, p)
    ]))
