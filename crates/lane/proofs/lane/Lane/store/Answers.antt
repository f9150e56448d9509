-- `lane::lane::Lane::store` meets its contract.
-- Assumes nothing.
use Rattle.std.proofs.Common.{◌≡◌, ◌∙◌, refl, ap, arith, take, length-set}
use lib.Seq.{take_all}
use Rattle.yring.specs.Lists.{scatter}
use Rattle.lane.specs.Table.{cell_at, put_lane}
use Rattle.yring.proofs.ListLaws.{scatter_step}
use Rattle.lane.proofs.lane.Lane.store.Goals as goal

pub loop-i-init : goal.loop-i-init
loop-i-init c = refl

pub loop-i-preserved : goal.loop-i-preserved
loop-i-preserved c =
    let t = c.args.table.now in
    let ws = c.words-words.result in
    let s = c.args.self.key.slot in
    let l = c.loop-i in
    rw l.invariant (scatter_step ws t (λ j. cell_at j s) l.i (omega arith))

pub returns : goal.returns
unfolding put_lane
returns c =
    let t = c.args.table.now in
    let ws = c.words-words.result in
    let s = c.args.self.key.slot in
    let l = c.loop-i in
    let whole : take l.i ws ≡ ws = take_all l.i ws (omega arith) in
    l.invariant ∙ ap (scatter t (λ j. cell_at j s)) (whole ∙ c.words-words.ensures)
