-- `lane::lane::Lane::move_chunk` meets its contract.
-- Assumes nothing.
use Rattle.lane.proofs.OrderLaws.{chunk_within}
use Rattle.yring.proofs.ReleaseLaws.{batch_most}
use Rattle.lane.specs.Lane.{release_at_batch, charge, add_burst, move_chunk}
use Rattle.lane.specs.declared.lane.Lane.{Lane}
use Rattle.lane.specs.declared.lane.Released.{Released}
use mathlib.Core.Path.{◌∙◌, ap}
use native.Mathlib.Omega.{arith}
use Rattle.lane.proofs.lane.Lane.move_chunk.Goals as goal

pub charge-requires : goal.charge-requires
charge-requires c =
    let w = chunk_within c.args.capacity c.requires.0.most c.args.self c.requires.1 c.args.take c.requires.2 in
    rw c.advance.ensures (w.0, omega (arith, w.1, batch_most c.args.capacity, c.requires.0.most))

pub add_burst-requires : goal.add_burst-requires
add_burst-requires c =
    let w = chunk_within c.args.capacity c.requires.0.most c.args.self c.requires.1 c.args.take c.requires.2 in
    rw (c.charge.ensures, c.advance.ensures) (omega (arith, w.2))

pub release_at_batch-done-requires : goal.release_at_batch-done-requires
release_at_batch-done-requires c = (c.requires.0, rw (c.add_burst.ensures, c.charge.ensures, c.advance.ensures) c.requires.1.closed)

pub returns : goal.returns
unfolding move_chunk
returns c =
    let a = c.args in
    ap (λ (r : Released). r.lane) c.release_at_batch-done.ensures
    ∙ ap (λ (l : Lane). (release_at_batch a.capacity l).lane) (c.add_burst.ensures ∙ ap (add_burst a.take) (c.charge.ensures ∙ ap (charge a.take) c.advance.ensures))
