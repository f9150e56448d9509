-- `lane::lane::Lane::poll` meets its contract.
-- Assumes nothing.
use Rattle.lane.proofs.OrderLaws.{refundable, refill_fills}
use Rattle.lane.specs.Lane.{poll, poll_refilled}
use Rattle.std.proofs.lemmas.Result.{err_from_is_err_and}
use mathlib.Core.Path.{◌∙◌, ap, sym}
use Rattle.lane.proofs.lane.Lane.poll.Goals as goal

pub refill-requires : goal.refill-requires
refill-requires c = refundable _ c.requires.0.power.most _ c.requires.1

pub poll_item-requires : goal.poll_item-requires
poll_item-requires c = (c.requires.0, refill_fills _ c.requires.0.power.most _ c.requires.1 _ (sym c.refill.ensures ∙ c.in_ok-refill.was))

pub returns-in_err-refill : goal.returns-in_err-refill
unfolding poll poll_refilled
returns-in_err-refill c =
    let p = err_from_is_err_and c.from_residual.result c.from_residual.ensures.1 in
    rw (p.1, p.2) (ap (poll_refilled c.args.ring c.args.store.now c.args.fair) (sym c.in_err-refill.was ∙ c.refill.ensures))

pub returns : goal.returns
unfolding poll poll_refilled
returns c = c.poll_item.ensures ∙ ap (poll_refilled c.args.ring c.args.store.now c.args.fair) (sym c.in_ok-refill.was ∙ c.refill.ensures)
