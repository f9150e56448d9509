-- `wraparound::fill` meets its contract. The measure is the room that is left.
-- Assumes nothing.
use mathlib.Core.Path.{sym, ◌∙◌}
use mathlib.Core.List.{[]}
use Rattle.lane.proofs.FlushLaws.{flush_taken, flush_full}
use Rattle.wraparound.proofs.Ends.{refused, taken}
use borrow.Author.Rules.{rules}
use Rattle.wraparound.proofs.fill.Goals as goal

-- what is stored does not matter to the lane: an empty store and the item 0 will do
pub returns : goal.returns
returns c =
    (c.loop-sent.invariant, refused _ c.requires.0.power.most [] 0 _ c.loop-sent.invariant c.loop-sent.lane _ (sym (flush_full _ [] 0 _ (sym c.in_default.is ∙ c.push_and_flush.ensures))))

pub put-requires : goal.put-requires
put-requires c = record { power = c.requires.0.power; fits = search rules }

pub loop-sent-smaller : goal.loop-sent-smaller
loop-sent-smaller c =
    (taken _ c.requires.0.power.most [] 0 _ c.loop-sent.invariant _ _ (sym (flush_taken _ [] 0 _ _ (sym c.in-Some.is ∙ c.push_and_flush.ensures)))).1

pub loop-sent-preserved : goal.loop-sent-preserved
loop-sent-preserved c =
    (taken _ c.requires.0.power.most [] 0 _ c.loop-sent.invariant _ _ (sym (flush_taken _ [] 0 _ _ (sym c.in-Some.is ∙ c.push_and_flush.ensures)))).0
