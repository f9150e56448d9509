-- `ready::ready::collect_if_ready` meets its contract.
-- Assumes nothing.
use mathlib.Core.Path.{sym, ◌∙◌}
use Rattle.ready.proofs.NoneReady.{none_collected}
use Rattle.ready.proofs.ready.collect_if_ready.Goals as goal

pub returns-then-has_ready : goal.returns-then-has_ready
returns-then-has_ready c = c.collect_ready.ensures

pub returns-else-has_ready : goal.returns-else-has_ready
returns-else-has_ready c = sym (none_collected _ _ (sym c.has_ready.ensures ∙ c.if-has_ready.false))
