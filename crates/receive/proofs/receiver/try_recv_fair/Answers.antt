-- `receive::receiver::try_recv_fair` meets its contract.
-- Assumes nothing.
use Rattle.store.specs.Order.{but_held}
use Rattle.model.specs.declared.Answer.{Answer}
use Rattle.receive.proofs.ReceiveLaws.{take_fair_rest}
use Rattle.turns.proofs.DueLaws.{turning_of, ringed_of}
use Rattle.receive.specs.Receive.{try_recv_fair, answer_one}
use Rattle.store.specs.Words.{with_rings, unless_refused}
use Rattle.turns.specs.Drained.{Rests}
use Prim.Native.Nat.{ℕ}
use mathlib.Core.List.{List}
use native.Mathlib.Omega.{arith}
use mathlib.Core.Path.{sym, ap, ap₂, ◌∙◌, subst}
use Rattle.receive.proofs.receiver.try_recv_fair.Goals as goal

pub take_fair-took-requires : goal.take_fair-took-requires
take_fair-took-requires c = (turning_of _ _ (but_held c.requires), ringed_of _ _ (but_held c.requires))

pub answer_one-requires : goal.answer_one-requires
answer_one-requires c = (omega (arith, c.requires.stores.shaped.room), subst Rests (sym c.take_fair-took.ensures) (take_fair_rest _ c.args.r.now (turning_of _ _ (but_held c.requires))))

pub returns-in-Err : goal.returns-in-Err
unfolding try_recv_fair unless_refused
returns-in-Err c = rw (sym c.receiver_verdict.ensures ∙ c.in-Err.is)

pub returns-in-Ok : goal.returns-in-Ok
unfolding try_recv_fair unless_refused
returns-in-Ok c =
    rw (sym c.receiver_verdict.ensures ∙ c.in-Ok.is)
    (ap (λ (o : Answer × List ℕ). with_rings c.args.r.now o) (c.answer_one.ensures ∙ ap₂ answer_one c.channel-channel.ensures c.take_fair-took.ensures))
