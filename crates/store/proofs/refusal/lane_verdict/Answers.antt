-- `store::refusal::lane_verdict` meets its contract.
-- Assumes nothing.
use Rattle.std.proofs.Common.{◌≡◌, ◌∙◌, ap, arith}
use Rattle.std.proofs.lemmas.Grind.{common_steps}
use Rattle.std.proofs.lemmas.Bool.Decides.{nat_tests}
use Rattle.lane.specs.declared.lane.Lane.{Lane}
use Rattle.lane.proofs.TableLaws.{slot_of_lane}
use Rattle.store.specs.Refusal.{lane_verdict}
use Rattle.store.proofs.refusal.lane_verdict.Goals as goal

pub returns-then-ne : goal.returns-then-ne
unfolding lane_verdict
returns-then-ne c = grind (arith, common_steps, nat_tests)

pub returns-then-l-ne1 : goal.returns-then-l-ne1
unfolding lane_verdict
returns-then-l-ne1 c =
    let slot : c.load-l.result.key.slot ≡ c.args.id.key.slot = ap (λ (l : Lane). l.key.slot) c.load-l.ensures ∙ slot_of_lane _ _ in
    grind (arith, common_steps, nat_tests)

pub returns : goal.returns
unfolding lane_verdict
returns c =
    let slot : c.load-l.result.key.slot ≡ c.args.id.key.slot = ap (λ (l : Lane). l.key.slot) c.load-l.ensures ∙ slot_of_lane _ _ in
    grind (arith, common_steps, nat_tests)
