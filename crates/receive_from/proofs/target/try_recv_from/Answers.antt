-- `receive_from::target::try_recv_from` meets its contract.
-- Assumes nothing.
use Rattle.store.proofs.RefusalLaws.{id_passes}
use Rattle.receive_from.specs.Target.{try_recv_from}
use Rattle.store.specs.Words.{with_rings, unless_refused}
use Rattle.model.specs.declared.Answer.{Answer}
use Prim.Native.Nat.{ℕ}
use mathlib.Core.List.{List}
use mathlib.Core.Path.{sym, ap, ◌∙◌}
use Rattle.receive_from.proofs.target.try_recv_from.Goals as goal

pub take_from-requires : goal.take_from-requires
take_from-requires c =
    let k = (id_passes _ _ (sym c.id_verdict.ensures ∙ c.in-Ok.is)).1 in
    (c.requires, k.is_issued, k.registered)

pub returns-in-Err : goal.returns-in-Err
unfolding try_recv_from unless_refused
returns-in-Err c = rw (sym c.id_verdict.ensures ∙ c.in-Err.is)

pub returns-in-Ok : goal.returns-in-Ok
unfolding try_recv_from unless_refused
returns-in-Ok c = rw (sym c.id_verdict.ensures ∙ c.in-Ok.is) (ap (λ (o : Answer × List ℕ). with_rings c.args.r.now o) c.take_from.ensures)
