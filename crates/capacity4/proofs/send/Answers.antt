-- `capacity4::send` meets its contract.
-- Assumes nothing.
use Rattle.std.specs.Prelude.{Some, None}
use mathlib.Core.Path.{refl, sym, ◌∙◌}
use Rattle.lane.proofs.FlushLaws.{flush_taken, flush_full}
use Rattle.capacity4.proofs.Four.{four, sends}
use borrow.Author.Rules.{rules}
use Rattle.capacity4.proofs.send.Goals as goal

pub put-requires : goal.put-requires
put-requires g c = rw c.new-ring.ensures (record { power = four; fits = search rules })

pub returns-in-None : goal.returns-in-None
returns-in-None g c =
    sends c.args.store.now c.args.lane c.requires c.new-ring.result c.new-ring.ensures _ c.args.item None c.args.store.now
    (sym (flush_full c.new-ring.result c.args.store.now c.args.item c.args.lane (sym c.in-None.is ∙ c.push_and_flush.ensures))) refl

pub returns-in-Some : goal.returns-in-Some
returns-in-Some g c =
    rw c.put.ensures
    (sends c.args.store.now c.args.lane c.requires c.new-ring.result c.new-ring.ensures _ c.args.item (Some c.in-Some.sent) _
    (sym (flush_taken c.new-ring.result c.args.store.now c.args.item c.args.lane c.in-Some.sent.lane (sym c.in-Some.is ∙ c.push_and_flush.ensures))) refl)
