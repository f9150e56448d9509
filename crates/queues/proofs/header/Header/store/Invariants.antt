-- `queues::header::Header::store` meets its contract.
-- Assumes nothing.
use Rattle.std.proofs.Common.{◌≡◌, take}
use Rattle.yring.specs.Lists.{scatter}
use Rattle.queues.proofs.header.Header.store.Given as goal

-- the first i words are stored
abbrev pub invariant-loop-i : goal.invariant-loop-i
invariant-loop-i l = l.table ≡ scatter l.initial.table (λ j. j) (take l.i l.words)
