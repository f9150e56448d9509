-- `ready::ready::collect_ready` meets its contract.
-- Assumes nothing.
use Rattle.std.proofs.Common.{◌-◌}
use Rattle.ready.proofs.Round.{Round}
use Rattle.ready.proofs.ready.collect_ready.Given as goal

-- what is left to do, after some groups
abbrev pub invariant-loop : goal.invariant-loop
invariant-loop l = Round l.n l.all l.initial.t l.t (l.n - l.counter) l.next
