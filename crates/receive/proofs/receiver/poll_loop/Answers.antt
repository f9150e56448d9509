-- `receive::receiver::poll_loop` meets its contract.
-- Assumes nothing.
use Rattle.std.specs.Prelude.{Option}
use mathlib.Core.Bool.{false}
use Rattle.turns.proofs.FrontLaws.{Keeps, keeps_then, keeps_ringed, turns_keep}
use Rattle.turns.specs.declared.turn.Took.{Took}
use Prim.Native.Nat.{ℕ}
use mathlib.Core.List.{List}
use Rattle.receive.specs.Receive.{poll_loop}
use Rattle.turns.proofs.CollectKeeps.{collect_keeps}
use Rattle.receive.proofs.ReceiveLaws.{else_item, else_nothing}
use mathlib.Core.Path.{sym, ◌∙◌, subst}
use Rattle.receive.proofs.receiver.poll_loop.Goals as goal

pub collect_ready-requires : goal.collect_ready-requires
collect_ready-requires c =
    let k = subst (λ (o : Option Took × List ℕ). Keeps c.args.t.now o.1) (sym c.turns.ensures) (turns_keep _ c.args.r.now false c.requires.0) in
    (k.turning.shaped, k.turning.names, k.turning.linked)

pub turns-requires-2 : goal.turns-requires-2
turns-requires-2 c =
    let k = subst (λ (o : Option Took × List ℕ). Keeps c.args.t.now o.1) (sym c.turns.ensures) (turns_keep _ c.args.r.now false c.requires.0) in
    let m = collect_keeps _ _ k.turning in
    rw c.collect_ready.ensures (m.turning, keeps_ringed (keeps_then k m) c.args.r.now c.requires.1)

pub returns-in-Some : goal.returns-in-Some
unfolding poll_loop
returns-in-Some c = else_item _ _ _ _ (rw c.in-Some.is at c.turns.ensures)

pub returns : goal.returns
unfolding poll_loop
returns c = rw c.collect_ready.ensures at c.turns-2.ensures ∙ else_nothing _ _ _ (rw c.in_default.is at c.turns.ensures)
