-- `receive_from::target::take_at_hand` meets its contract.
-- Assumes nothing.
use Rattle.receive_from.proofs.TargetLaws.{hand_below, hand_pop, hand_slot, hand_channel, hand_taken}
use native.Mathlib.Omega.{arith}
use Rattle.receive_from.proofs.target.take_at_hand.Goals as goal

pub new-requires : goal.new-requires
new-requires c =
    (omega (arith, hand_below _ _ _ c.requires, c.requires.in_order.stores.shaped.slots_most), c.requires.in_order.stores.power.most)

pub pop_targeted-taken-requires : goal.pop_targeted-taken-requires
pop_targeted-taken-requires c = rw c.new.ensures (hand_pop _ _ _ c.requires)

pub store-requires : goal.store-requires
store-requires c =
    rw (c.pop_targeted-taken.ensures, c.new.ensures, hand_slot _ _ _ c.requires) (omega (arith, hand_below _ _ _ c.requires, c.requires.in_order.stores.shaped.room))

pub returns : goal.returns
returns c =
    rw (c.channel-channel.ensures, c.held_less.ensures, c.store.ensures, c.pop_targeted-taken.ensures, c.new.ensures, hand_channel _ _ _ c.requires) (hand_taken _ _ _ c.requires)
