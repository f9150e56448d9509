-- `receive_batch::batch::give_chunk` meets its contract.
-- Assumes nothing.
use Rattle.receive_batch.proofs.ChunkLaws.{chunk_least, chunk_filled, chunk_slot, chunk_below, chunk_ring, loaded_again, lane_slot}
use Rattle.receive_batch.proofs.LookLaws.{front_refunds}
use Rattle.lane.proofs.OrderLaws.{chunk_room}
use Rattle.turns.proofs.TurnLaws.{slot_below, front_issued}
use Rattle.yring.specs.Ring.{pop_into}
use Rattle.receive_batch.specs.Batch.{chunk_size, chunk_items, chunk_given, give_chunk}
use mathlib.Core.Path.{◌∙◌, ap}
use native.Mathlib.Omega.{arith}
use Rattle.receive_batch.proofs.batch.give_chunk.Goals as goal

pub load-requires : goal.load-requires
load-requires c = omega (arith, chunk_below c.args.t.now c.args.front c.requires.0, c.requires.0.turning.shaped.room)

pub reload_is_empty-looked-requires : goal.reload_is_empty-looked-requires
reload_is_empty-looked-requires c = rw (c.load.ensures, chunk_slot c.args.t.now c.args.front c.requires.0) (front_refunds c.args.t.now c.requires.0.turning c.requires.0.some)

pub chunk_size-take-requires : goal.chunk_size-take-requires
chunk_size-take-requires c =
    rw (loaded_again c.args.t.now c.args.front c.requires.0 _ _ c.load.ensures c.reload_is_empty-looked.ensures)
    (c.requires.0.turning.shaped, c.requires.0.turning.power, (chunk_filled c.args.t.now c.args.front c.requires.0).order)

pub move_chunk-requires : goal.move_chunk-requires
move_chunk-requires c =
    let same = loaded_again c.args.t.now c.args.front c.requires.0 _ _ c.load.ensures c.reload_is_empty-looked.ensures in
    let size = c.chunk_size-take.ensures ∙ ap (chunk_size c.args.t.now c.args.left) same in
    rw (same, size) (c.requires.0.turning.power, chunk_filled c.args.t.now c.args.front c.requires.0, (chunk_least c.args.t.now c.args.left c.args.front).2)

pub gave_chunk-requires : goal.gave_chunk-requires
gave_chunk-requires c =
    let same = loaded_again c.args.t.now c.args.front c.requires.0 _ _ c.load.ensures c.reload_is_empty-looked.ensures in
    let size = c.chunk_size-take.ensures ∙ ap (chunk_size c.args.t.now c.args.left) same in
    rw (c.move_chunk.ensures, same, size, lane_slot c.args.t.now c.args.front c.requires.0 (chunk_size c.args.t.now c.args.left c.args.front) (chunk_least c.args.t.now c.args.left c.args.front).2)
    (c.requires.0.turning.shaped, slot_below _ c.requires.0.turning _ (front_issued _ c.requires.0.turning c.requires.0.some), omega (arith, c.requires.0.some), (chunk_least c.args.t.now c.args.left c.args.front).1)

pub new-requires : goal.new-requires
new-requires c =
    rw (loaded_again c.args.t.now c.args.front c.requires.0 _ _ c.load.ensures c.reload_is_empty-looked.ensures)
    (omega (arith, chunk_below c.args.t.now c.args.front c.requires.0, c.requires.0.turning.shaped.slots_most), c.requires.0.turning.power.most)

pub pop_into-requires : goal.pop_into-requires
pop_into-requires c =
    let same = loaded_again c.args.t.now c.args.front c.requires.0 _ _ c.load.ensures c.reload_is_empty-looked.ensures in
    let size = c.chunk_size-take.ensures ∙ ap (chunk_size c.args.t.now c.args.left) same in
    let room = chunk_room _ c.requires.0.turning.power.most _ (chunk_filled c.args.t.now c.args.front c.requires.0) _ (chunk_least c.args.t.now c.args.left c.args.front).2 in
    rw (c.new.ensures, same, size)
    (chunk_ring c.args.t.now c.args.front c.requires.0 c.args.r.now c.requires.1, room.0, room.1, omega (arith, (chunk_least c.args.t.now c.args.left c.args.front).0, c.requires.2))

pub returns : goal.returns
unfolding give_chunk chunk_given chunk_items pop_into
returns c =
    let same = loaded_again c.args.t.now c.args.front c.requires.0 _ _ c.load.ensures c.reload_is_empty-looked.ensures in
    let size = c.chunk_size-take.ensures ∙ ap (chunk_size c.args.t.now c.args.left) same in
    rw (c.pop_into.ensures, c.new.ensures, c.gave_chunk.ensures, c.move_chunk.ensures, same, size)
