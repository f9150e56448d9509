-- `receive::receiver::try_recv` meets its contract.
-- Assumes nothing.
use mathlib.Core.Path.{sym, ap, ◌∙◌}
use mathlib.Core.List.{List}
use Prim.Native.Nat.{ℕ}
use Rattle.model.specs.declared.Answer.{Answer}
use Rattle.store.specs.Words.{unless_refused, with_rings}
use Rattle.receive.specs.Receive.{try_recv}
use Rattle.receive.proofs.receiver.try_recv.Goals as goal

pub returns-in-Err : goal.returns-in-Err
unfolding try_recv unless_refused
returns-in-Err c = rw (sym c.receiver_verdict.ensures ∙ c.in-Err.is)

pub returns-in-Ok : goal.returns-in-Ok
unfolding try_recv unless_refused
returns-in-Ok c =
    rw (sym c.receiver_verdict.ensures ∙ c.in-Ok.is)
    (ap (λ (o : Answer × List ℕ). with_rings c.args.r.now o) c.try_recv_output.ensures)
