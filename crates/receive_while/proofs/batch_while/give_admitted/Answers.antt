-- `receive_while::batch_while::give_admitted` meets its contract.
-- Assumes nothing.
use Rattle.receive_batch.proofs.ChunkLaws.{chunk_least, chunk_filled, chunk_slot, chunk_below, chunk_ring, loaded_again, lane_slot}
use Rattle.receive_batch.proofs.LookLaws.{front_refunds}
use Rattle.lane.proofs.OrderLaws.{chunk_room}
use Rattle.turns.proofs.TurnLaws.{slot_below, front_issued}
use Rattle.yring.specs.Ring.{pop_into}
use Rattle.receive_batch.specs.Batch.{chunk_size, chunk_items, chunk_given}
use Rattle.receive_while.specs.While.{chunk_admitted, give_admitted}
use mathlib.Core.Path.{◌∙◌, ap}
use native.Mathlib.Omega.{arith}
use Rattle.receive_while.proofs.batch_while.give_admitted.Goals as goal

pub load-requires : goal.load-requires
load-requires c =
    omega (arith, chunk_below c.args.t.now c.args.front c.requires.0, c.requires.0.turning.shaped.room)

pub reload_is_empty-looked-requires : goal.reload_is_empty-looked-requires
reload_is_empty-looked-requires c =
    rw (c.load.ensures, chunk_slot c.args.t.now c.args.front c.requires.0) (front_refunds c.args.t.now c.requires.0.turning c.requires.0.some)

pub chunk_size-take-requires : goal.chunk_size-take-requires
chunk_size-take-requires c =
    rw (loaded_again c.args.t.now c.args.front c.requires.0 _ _ c.load.ensures c.reload_is_empty-looked.ensures)
    (c.requires.0.turning.shaped, c.requires.0.turning.power, (chunk_filled c.args.t.now c.args.front c.requires.0).order)

pub new-requires : goal.new-requires
new-requires c =
    rw (loaded_again c.args.t.now c.args.front c.requires.0 _ _ c.load.ensures c.reload_is_empty-looked.ensures)
    (omega (arith, chunk_below c.args.t.now c.args.front c.requires.0, c.requires.0.turning.shaped.slots_most), c.requires.0.turning.power.most)

pub accepted_prefix-count-requires : goal.accepted_prefix-count-requires
accepted_prefix-count-requires c =
    rw (c.new.ensures, loaded_again c.args.t.now c.args.front c.requires.0 _ _ c.load.ensures c.reload_is_empty-looked.ensures)
    (chunk_ring c.args.t.now c.args.front c.requires.0 c.args.r.now c.requires.1)

pub move_chunk-requires : goal.move_chunk-requires
move_chunk-requires c =
    let same = loaded_again c.args.t.now c.args.front c.requires.0 _ _ c.load.ensures c.reload_is_empty-looked.ensures in
    let size = c.chunk_size-take.ensures ∙ ap (chunk_size c.args.t.now c.args.left) same in
    rw same (c.requires.0.turning.power, chunk_filled c.args.t.now c.args.front c.requires.0, omega (arith, c.accepted_prefix-count.ensures.1, size, (chunk_least c.args.t.now c.args.left c.args.front).2))

pub gave_chunk-requires : goal.gave_chunk-requires
gave_chunk-requires c =
    let same = loaded_again c.args.t.now c.args.front c.requires.0 _ _ c.load.ensures c.reload_is_empty-looked.ensures in
    let size = c.chunk_size-take.ensures ∙ ap (chunk_size c.args.t.now c.args.left) same in
    rw (c.move_chunk.ensures, same, lane_slot c.args.t.now c.args.front c.requires.0 c.accepted_prefix-count.result (omega (arith, c.accepted_prefix-count.ensures.1, size, (chunk_least c.args.t.now c.args.left c.args.front).2)))
    (c.requires.0.turning.shaped, slot_below _ c.requires.0.turning _ (front_issued _ c.requires.0.turning c.requires.0.some), omega (arith, c.requires.0.some), omega (arith, c.accepted_prefix-count.ensures.1, size, (chunk_least c.args.t.now c.args.left c.args.front).1))

pub new-requires-2 : goal.new-requires-2
new-requires-2 c =
    rw (loaded_again c.args.t.now c.args.front c.requires.0 _ _ c.load.ensures c.reload_is_empty-looked.ensures)
    (omega (arith, chunk_below c.args.t.now c.args.front c.requires.0, c.requires.0.turning.shaped.slots_most), c.requires.0.turning.power.most)

-- the bounds are the whole chunk's, so that they hold of every number up to it
pub pop_into-requires : goal.pop_into-requires
pop_into-requires c =
    let t = c.args.t.now in
    let front = c.args.front in
    let left = c.args.left in
    let same = loaded_again t front c.requires.0 _ _ c.load.ensures c.reload_is_empty-looked.ensures in
    let size = c.chunk_size-take.ensures ∙ ap (chunk_size t left) same in
    let most = c.accepted_prefix-count.ensures.1 in
    let least = chunk_least t left front in
    let room = chunk_room _ c.requires.0.turning.power.most _ (chunk_filled t front c.requires.0) (chunk_size t left front) least.2 in
    rw (c.new-2.ensures, same)
    (chunk_ring t front c.requires.0 c.args.r.now c.requires.1, omega (arith, most, size, room.0), omega (arith, most, size, room.1), omega (arith, most, size, least.0, c.requires.2))

pub returns : goal.returns
unfolding give_admitted chunk_admitted chunk_given chunk_items pop_into
returns c =
    let same = loaded_again c.args.t.now c.args.front c.requires.0 _ _ c.load.ensures c.reload_is_empty-looked.ensures in
    let size = c.chunk_size-take.ensures ∙ ap (chunk_size c.args.t.now c.args.left) same in
    rw (c.pop_into.ensures, c.new-2.ensures, c.gave_chunk.ensures, c.move_chunk.ensures, c.accepted_prefix-count.ensures.0, c.new.ensures, same, size)
