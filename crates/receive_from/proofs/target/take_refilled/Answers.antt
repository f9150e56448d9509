-- `receive_from::target::take_refilled` meets its contract.
-- Assumes nothing.
use Rattle.receive_from.proofs.TargetLaws.{target_refunds, target_below, target_ring, settled_room, target_filled, kept_room, take_from_is, refilled_as}
use Rattle.receive_from.specs.Target.{target_took}
use native.Mathlib.Omega.{arith}
use mathlib.Core.Path.{sym, ◌∙◌}
use Rattle.receive_from.proofs.target.take_refilled.Goals as goal

pub new-ring-requires : goal.new-ring-requires
new-ring-requires c = (omega (arith, target_below _ c.args.r.now c.requires.0 _ c.requires.1 c.requires.2, c.requires.0.stores.shaped.slots_most), c.requires.0.stores.power.most)

pub load-requires : goal.load-requires
load-requires c = omega (arith, target_below _ c.args.r.now c.requires.0 _ c.requires.1 c.requires.2, c.requires.0.stores.shaped.room)

pub refill-requires : goal.refill-requires
refill-requires c = rw c.load.ensures (target_refunds _ c.args.r.now c.requires.0 _ c.requires.1 c.requires.2)

pub settle_target-requires : goal.settle_target-requires
settle_target-requires c = settled_room _ c.args.r.now c.requires.0 _ c.requires.1 c.requires.2 _ (sym (refilled_as _ _ _ _ c.load.ensures c.refill.ensures) ∙ c.in-Err.is)

pub pop_targeted-taken-requires : goal.pop_targeted-taken-requires
pop_targeted-taken-requires c = rw c.new-ring.ensures (target_ring _ c.args.r.now c.requires.0 _ c.requires.1 c.requires.2, target_filled _ c.args.r.now c.requires.0 _ c.requires.1 c.requires.2 _ (sym (refilled_as _ _ _ _ c.load.ensures c.refill.ensures) ∙ c.in-Ok.is))

pub keep_target-requires : goal.keep_target-requires
keep_target-requires c = rw (c.pop_targeted-taken.ensures, c.new-ring.ensures) (kept_room _ c.args.r.now c.requires.0 _ c.requires.1 c.requires.2 _ (sym (refilled_as _ _ _ _ c.load.ensures c.refill.ensures) ∙ c.in-Ok.is))

pub returns-in-Err : goal.returns-in-Err
unfolding target_took
returns-in-Err c = c.settle_target.ensures ∙ take_from_is _ c.args.r.now _ _ (sym (refilled_as _ _ _ _ c.load.ensures c.refill.ensures) ∙ c.in-Err.is)

pub returns-in-Ok : goal.returns-in-Ok
unfolding target_took
returns-in-Ok c = rw (c.channel-channel.ensures, c.held_less.ensures, c.keep_target.ensures, c.pop_targeted-taken.ensures, c.new-ring.ensures) (take_from_is _ c.args.r.now _ _ (sym (refilled_as _ _ _ _ c.load.ensures c.refill.ensures) ∙ c.in-Ok.is))
