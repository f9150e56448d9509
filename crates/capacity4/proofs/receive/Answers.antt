-- `capacity4::receive` meets its contract.
-- Assumes nothing.
use mathlib.Core.Path.{ap}
use Rattle.lane.specs.Order.{polled_lane}
use Rattle.capacity4.proofs.Four.{four, receives}
use borrow.Author.Rules.{rules}
use Rattle.capacity4.proofs.receive.Goals as goal

pub poll-requires : goal.poll-requires
poll-requires g c = rw c.new.ensures (record { power = four; fits = search rules }, c.requires)

pub returns-in-Err : goal.returns-in-Err
returns-in-Err g c = receives _ _ c.requires c.new.result c.new.ensures _ _ c.poll.ensures (ap polled_lane c.in-Err.is)

pub returns-in-Ok : goal.returns-in-Ok
returns-in-Ok g c = receives _ _ c.requires c.new.result c.new.ensures _ _ c.poll.ensures (ap polled_lane c.in-Ok.is)
