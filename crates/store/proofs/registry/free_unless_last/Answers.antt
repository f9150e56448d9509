-- `store::registry::free_unless_last` meets its contract.
-- Assumes nothing.
use mathlib.Core.Path.{sym, ap}
use mathlib.Core.Bool.{Bool, cond}
use Rattle.queues.specs.Registry.{free}
use Rattle.store.specs.Registry.{free_unless_last}
use borrow.Author.Tests.{eq-eqb, ne_eqb}
use Rattle.store.proofs.registry.free_unless_last.Goals as goal

pub returns-then-l-eq18446744073709551615 : goal.returns-then-l-eq18446744073709551615
unfolding free_unless_last
returns-then-l-eq18446744073709551615 c = ap (λ (b : Bool). cond b c.args.t.now (free c.args.t.now c.args.l.key.slot)) (sym (eq-eqb _ _ c.if-l-eq18446744073709551615.true))

pub returns : goal.returns
unfolding free_unless_last
returns c = simp (ne_eqb _ _ c.if-l-eq18446744073709551615.false) c.free.ensures
