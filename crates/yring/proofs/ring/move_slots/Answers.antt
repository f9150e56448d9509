-- `yring::ring::move_slots` meets its contract.
-- Assumes nothing.
use Rattle.std.proofs.Common.{ℕ, List, ap, ◌∙◌}
use Rattle.yring.specs.Lists.{written}
use Rattle.yring.specs.Ring.{run}
use Rattle.yring.proofs.RingLaws.{run_read_back}
use Rattle.yring.proofs.ring.move_slots.Goals as goal

pub returns : goal.returns
returns c =
    let a = c.args in
    c.copy_words-2.ensures
    ∙ ap (λ (ws : List ℕ). written a.out.now a.at ws) (ap (λ (block : List ℕ). run block 0 a.len) c.copy_words.ensures ∙ run_read_back a.src.now a.start a.len _)
