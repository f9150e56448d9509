-- `ready::ready::with_bit` meets its contract.
-- Assumes nothing.
use mathlib.Core.Path.{ap}
use lib.Bits.{bit_or}
use Rattle.ready.proofs.BitLaws.{one_shl}
use Rattle.ready.proofs.ready.with_bit.Goals as goal

pub returns : goal.returns
returns c = ap (bit_or c.args.word) (one_shl c.args.b c.requires)
