-- `receive::receiver::answer_window` meets its contract.
-- Assumes nothing.
use native.Mathlib.Omega.{arith}
use mathlib.Core.Path.{sym, ap₂, ◌∙◌, subst}
use Rattle.turns.specs.Drained.{Rests}
use Rattle.receive.specs.Receive.{answer_one}
use Rattle.receive.proofs.FastLaws.{open_sizes, open_ring, open_within, open_room, open_take, window_rests, window_channel}
use Rattle.receive.proofs.receiver.answer_window.Goals as goal

pub new-requires : goal.new-requires
new-requires c = open_sizes _ _ _ c.requires

pub pop_window-taken-requires : goal.pop_window-taken-requires
pop_window-taken-requires c = open_within _ _ _ c.requires _ c.new.ensures

pub take_from_window-took-requires : goal.take_from_window-took-requires
take_from_window-took-requires c = open_room _ _ _ c.requires _ (open_ring _ _ _ c.requires _ c.new.ensures) _ c.pop_window-taken.ensures

pub answer_one-requires : goal.answer_one-requires
answer_one-requires c = (omega (arith, c.requires.in_order.stores.shaped.room), subst Rests (sym c.take_from_window-took.ensures) (window_rests _ _ _))

pub returns : goal.returns
returns c =
    c.answer_one.ensures
    ∙ ap₂ answer_one (c.channel-channel.ensures ∙ window_channel _ _ _ _ _ c.take_from_window-took.ensures)
    (c.take_from_window-took.ensures ∙ open_take _ _ _ c.requires _ (open_ring _ _ _ c.requires _ c.new.ensures) _ c.pop_window-taken.ensures)
