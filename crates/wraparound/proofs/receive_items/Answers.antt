-- `wraparound::receive_items` meets its contract. The measure is what the lane holds.
-- Assumes nothing.
use mathlib.Core.Path.{◌∙◌, sym}
use Rattle.wraparound.proofs.Ends.{polled_less, polled_empty}
use borrow.Author.Rules.{rules}
use Rattle.wraparound.proofs.receive_items.Goals as goal

pub poll-requires : goal.poll-requires
poll-requires c = (record { power = c.requires.0.power; fits = search rules }, c.loop-found.invariant)

pub returns-in-Err : goal.returns-in-Err
returns-in-Err c = polled_empty _ c.requires.0.power.most _ _ c.loop-found.invariant _ (sym c.poll.ensures ∙ c.in-Err.is)

pub loop-found-smaller : goal.loop-found-smaller
loop-found-smaller c = (polled_less _ c.requires.0.power.most _ _ c.loop-found.invariant _ _ _ _ (sym c.poll.ensures ∙ c.in-Ok.is)).1

pub loop-found-preserved : goal.loop-found-preserved
loop-found-preserved c = (polled_less _ c.requires.0.power.most _ _ c.loop-found.invariant _ _ _ _ (sym c.poll.ensures ∙ c.in-Ok.is)).0
