-- `yring::ring::copy_words` meets its contract. The loop's invariant: the words moved so far stand in the output.
-- Assumes nothing.
use Rattle.std.proofs.Common.{◌≡◌, sym, refl, arith, length-set}
use Rattle.yring.specs.Ring.{run}
use Rattle.yring.proofs.ListLaws.{written_none}
use Rattle.yring.proofs.RingLaws.{run_written_step}
use Rattle.yring.proofs.ring.copy_words.Goals as goal

pub loop-i-init : goal.loop-i-init
unfolding run
loop-i-init c = (refl, sym (written_none c.args.out.now c.args.at))

pub loop-i-preserved : goal.loop-i-preserved
loop-i-preserved c =
    let a = c.args in
    let l = c.loop-i in (
      simp length-set l.invariant.0,
      rw l.invariant.1 (run_written_step a.src.now a.start l.i a.out.now a.at (omega arith)),
    )

pub returns : goal.returns
returns c =
    let e : c.loop-i.i ≡ c.args.len = omega arith in
    rw e at c.loop-i.invariant.1
