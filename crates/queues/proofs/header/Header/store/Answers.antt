-- `queues::header::Header::store` meets its contract.
-- Assumes nothing.
use Rattle.std.proofs.Common.{◌≡◌, ◌∙◌, refl, ap, arith, take}
use lib.Seq.{take_all}
use Rattle.yring.specs.Lists.{scatter}
use Rattle.yring.proofs.ListLaws.{scatter_step}
use Rattle.queues.specs.Header.{put_header}
use Rattle.queues.proofs.header.Header.store.Goals as goal

pub loop-i-init : goal.loop-i-init
loop-i-init c = refl

pub loop-i-preserved : goal.loop-i-preserved
loop-i-preserved c =
    let t = c.args.table.now in
    let ws = c.words-words.result in
    let l = c.loop-i in
    rw l.invariant (scatter_step ws t (λ j. j) l.i (omega arith))

pub returns : goal.returns
unfolding put_header
returns c =
    let t = c.args.table.now in
    let ws = c.words-words.result in
    let l = c.loop-i in
    let whole : take l.i ws ≡ ws = take_all l.i ws (omega arith) in
    l.invariant ∙ ap (scatter t (λ j. j)) (whole ∙ c.words-words.ensures)
