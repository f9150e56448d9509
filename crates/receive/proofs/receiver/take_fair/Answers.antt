-- `receive::receiver::take_fair` meets its contract.
-- Assumes nothing.
use Rattle.std.specs.Prelude.{Option}
use Rattle.receive.proofs.ReceiveLaws.{take_lone_long, fair_budget}
use mathlib.Core.Bool.{true}
use lib.ListN.{length}
use Rattle.turns.specs.declared.turn.Took.{Took}
use Prim.Native.Nat.{ℕ}
use mathlib.Core.List.{List}
use Rattle.receive.specs.Receive.{take_fair}
use Rattle.turns.proofs.FrontLaws.{keeps_ringed, turns_keep}
use Rattle.receive.proofs.ReceiveLaws.{else_item, else_nothing, take_lone_unmoved, unmoved_is, fair_keeps}
use mathlib.Core.Path.{ap, ◌∙◌}
use Rattle.receive.proofs.receiver.take_fair.Goals as goal

pub take_lone-requires : goal.take_lone-requires
take_lone-requires c =
    let k = fair_keeps _ c.requires.0 in
    rw c.collect_if_ready.ensures (k.turning, keeps_ringed k c.args.r.now c.requires.1, fair_budget _ c.requires.0)

pub fair_turns-requires : goal.fair_turns-requires
fair_turns-requires c =
    let k = fair_keeps _ c.requires.0 in
    let u = unmoved_is _ _ _ (rw c.in_default.is at c.take_lone.ensures) (take_lone_unmoved _ c.args.r.now) in
    rw (u, c.collect_if_ready.ensures) (k.turning, keeps_ringed k c.args.r.now c.requires.1)

pub shape_of-t-in-Some : goal.shape_of-t-in-Some
shape_of-t-in-Some c = ap (λ (o : Option Took × List ℕ). length o.1) (rw c.collect_if_ready.ensures at c.take_lone.ensures) ∙ take_lone_long _ c.args.r.now ∙ (fair_keeps _ c.requires.0).long

pub returns-in-Some : goal.returns-in-Some
unfolding take_fair
returns-in-Some c = else_item _ _ _ _ (rw (c.in-Some.is, c.collect_if_ready.ensures) at c.take_lone.ensures)

pub shape_of-t : goal.shape_of-t
shape_of-t c =
    let k = fair_keeps _ c.requires.0 in
    let u = unmoved_is _ _ _ (rw (c.in_default.is, c.collect_if_ready.ensures) at c.take_lone.ensures) (take_lone_unmoved _ c.args.r.now) in
    ap (λ (o : Option Took × List ℕ). length o.1) (rw u at c.fair_turns.ensures) ∙ (turns_keep _ c.args.r.now true k.turning).long ∙ k.long

pub returns : goal.returns
unfolding take_fair
returns c = c.fair_turns.ensures ∙ else_nothing _ _ _ (rw (c.in_default.is, c.collect_if_ready.ensures) at c.take_lone.ensures)
