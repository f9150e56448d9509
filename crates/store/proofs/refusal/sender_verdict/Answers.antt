-- `store::refusal::sender_verdict` meets its contract.
-- Assumes nothing.
use Rattle.std.proofs.Common.{◌≡◌, ◌∙◌, ap, arith}
use Rattle.std.proofs.lemmas.Grind.{common_steps}
use Rattle.std.proofs.lemmas.Bool.Decides.{nat_tests}
use Rattle.lane.specs.declared.lane.Lane.{Lane}
use Rattle.lane.proofs.TableLaws.{slot_of_lane}
use Rattle.store.specs.Refusal.{sender_verdict}
use Rattle.store.proofs.refusal.sender_verdict.Goals as goal

pub returns-then-key-t : goal.returns-then-key-t
unfolding sender_verdict
returns-then-key-t c = grind (arith, common_steps, nat_tests)

pub returns-then-l-ne1 : goal.returns-then-l-ne1
unfolding sender_verdict
returns-then-l-ne1 c =
    let slot : c.load-l.result.key.slot ≡ c.args.key.slot = ap (λ (l : Lane). l.key.slot) c.load-l.ensures ∙ slot_of_lane _ _ in
    grind (arith, common_steps, nat_tests)

pub returns : goal.returns
unfolding sender_verdict
returns c =
    let slot : c.load-l.result.key.slot ≡ c.args.key.slot = ap (λ (l : Lane). l.key.slot) c.load-l.ensures ∙ slot_of_lane _ _ in
    grind (arith, common_steps, nat_tests)
