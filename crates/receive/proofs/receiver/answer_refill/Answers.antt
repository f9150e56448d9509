-- `receive::receiver::answer_refill` meets its contract.
-- Assumes nothing.
use Rattle.store.specs.Order.{but_held}
use native.Mathlib.Omega.{arith}
use mathlib.Core.Path.{sym, ap₂, ◌∙◌, subst}
use Rattle.turns.specs.Drained.{Rests}
use Rattle.receive.specs.Receive.{answer_one}
use Rattle.receive.proofs.ReceiveLaws.{refill_rest}
use Rattle.turns.proofs.DueLaws.{turning_of, ringed_of}
use Rattle.receive.proofs.receiver.answer_refill.Goals as goal

pub try_recv_refill-took-requires : goal.try_recv_refill-took-requires
try_recv_refill-took-requires c = (turning_of _ _ (but_held c.requires), ringed_of _ _ (but_held c.requires))

pub answer_one-requires : goal.answer_one-requires
answer_one-requires c = (omega (arith, c.requires.stores.shaped.room), subst Rests (sym c.try_recv_refill-took.ensures) (refill_rest _ c.args.r.now (turning_of _ _ (but_held c.requires))))

pub returns : goal.returns
returns c = c.answer_one.ensures ∙ ap₂ answer_one c.channel-channel.ensures c.try_recv_refill-took.ensures
