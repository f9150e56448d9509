-- `receive_from::target::take_from` meets its contract.
-- Assumes nothing.
use Rattle.receive_from.proofs.TargetLaws.{loaded_slot, loaded_sizes, loaded_at_hand, target_below}
use Rattle.receive_from.specs.Target.{take_from}
use native.Mathlib.Omega.{arith}
use mathlib.Core.Path.{ap, ◌∙◌}
use Rattle.receive_from.proofs.target.take_from.Goals as goal

pub load-l-requires : goal.load-l-requires
load-l-requires c = omega (arith, target_below _ c.args.r.now c.requires.0 _ c.requires.1 c.requires.2, c.requires.0.stores.shaped.room)

pub is_at_hand-requires : goal.is_at_hand-requires
is_at_hand-requires c = loaded_sizes _ c.args.r.now c.requires.0 _ c.requires.1 c.requires.2 _ c.load-l.ensures

pub take_at_hand-requires : goal.take_at_hand-requires
take_at_hand-requires c =
    loaded_at_hand _ _ c.requires.0 _ c.requires.1 c.requires.2 _ c.load-l.ensures (c.is_at_hand.ensures c.if-not-is_at_hand.false).0 c.if-l-eq0.false

pub returns : goal.returns
returns c =
    c.take_at_hand.ensures
    ∙ ap (take_from _ _) (loaded_slot _ c.args.r.now c.requires.0 _ c.requires.1 c.requires.2 _ c.load-l.ensures)
