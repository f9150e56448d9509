-- `ready::ready::has_ready` meets its contract.
-- Assumes nothing.
use Rattle.std.proofs.Common.{ℕ, ◌≡◌, ◌<◌, sym, ap, ◌∙◌, arith}
use Rattle.ready.specs.declared.ready.Group.{Group}
use Rattle.ready.proofs.NoneReady.{any_here, any_below, none_left}
use Rattle.ready.proofs.ready.has_ready.Goals as goal

some : {n : ℕ} → 0 < n → (n ≡ 0 → ⊥)
some h e = omega arith

pub returns-then-load-ne0 : goal.returns-then-load-ne0
returns-then-load-ne0 c = sym (c.loop-group.invariant ∙ any_here _ _ (some c.loop-group-test.true) (λ e. c.if-load-ne0.true (ap (λ (g : Group). g.bits) c.load.ensures ∙ e)))

pub loop-group-preserved : goal.loop-group-preserved
loop-group-preserved c =
    c.loop-group.invariant ∙ any_below _ _ (some c.loop-group-test.true) (sym (ap (λ (g : Group). g.bits) c.load.ensures) ∙ c.if-load-ne0.false)

pub returns : goal.returns
returns c = none_left _ c.loop-group.invariant (omega arith)
