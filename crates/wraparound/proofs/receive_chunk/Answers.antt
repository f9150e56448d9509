-- `wraparound::receive_chunk` meets its contract.
-- Assumes nothing.
use mathlib.Core.Path.{ap}
use native.Mathlib.Omega.{arith}
use Rattle.lane.specs.declared.lane.BurstEnd.{BurstEnd}
use Rattle.lane.proofs.OrderLaws.{chunk_room}
use Rattle.wraparound.proofs.Ends.{chunk_taken}
use borrow.Author.Rules.{rules}
use Rattle.wraparound.proofs.receive_chunk.Goals as goal

pub move_chunk-moved-requires : goal.move_chunk-moved-requires
move_chunk-moved-requires c = (c.requires.0.power, c.requires.1, omega (arith, c.chunk_limit-take.ensures))

pub pop_into-requires : goal.pop_into-requires
pop_into-requires c =
    let room = chunk_room _ c.requires.0.power.most _ c.requires.1 c.chunk_limit-take.result (omega (arith, c.chunk_limit-take.ensures)) in
    (record { power = c.requires.0.power; fits = search rules }, room.0, room.1, omega (arith, room.1))

pub numbered-good-requires : goal.numbered-good-requires
numbered-good-requires c = (chunk_room _ c.requires.0.power.most _ c.requires.1 c.chunk_limit-take.result (omega (arith, c.chunk_limit-take.ensures))).1

pub returns : goal.returns
returns c = chunk_taken c.args.ring c.requires.0.power.most c.args.store.now c.args.lane c.requires.1 _ _ _ c.chunk_limit-take.ensures c.move_chunk-moved.ensures (ap (λ (b : BurstEnd). b.lane) c.end_full_burst.ensures)
