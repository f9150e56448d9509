-- `yring::ring::copy_words` meets its contract. The loop's invariant: the words moved so far stand in the output.
-- Assumes nothing.
use Rattle.std.proofs.Common.{◌≡◌, length}
use Rattle.yring.specs.Lists.{written}
use Rattle.yring.specs.Ring.{run}
use Rattle.yring.proofs.ring.copy_words.Given as goal

abbrev pub invariant-loop-i : goal.invariant-loop-i
invariant-loop-i l = (length l.out ≡ length l.initial.out) × (l.out ≡ written l.initial.out l.at (run l.src l.start l.i))
