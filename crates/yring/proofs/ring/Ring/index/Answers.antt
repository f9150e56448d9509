-- `yring::ring::Ring::index` meets its contract.
-- Assumes nothing.
use Rattle.yring.proofs.CursorLaws.{some, masked}
use Rattle.std.proofs.Common.{mod-lt, arith}
use Rattle.yring.proofs.ring.Ring.index.Goals as goal

pub overflow_sub-result : goal.overflow_sub-result
overflow_sub-result c = omega (arith, some _ c.requires.0)

pub overflow_add-result : goal.overflow_add-result
overflow_add-result c = omega (arith, masked _ c.requires.0 c.args.cursor, mod-lt c.args.cursor (some _ c.requires.0))

pub returns : goal.returns
returns c = omega (arith, masked _ c.requires.0 c.args.cursor, mod-lt c.args.cursor (some _ c.requires.0))
