-- `lane::lane::Lane::release_at_batch` meets its contract.
-- Assumes nothing.
use Rattle.model.specs.State.{release_batch}
use Rattle.lane.specs.Lane.{release_at_batch}
use mathlib.Core.Path.{◌≡◌, ◌∙◌, sym}
use native.Mathlib.Omega.{arith}
use borrow.Author.Tests.{eq-eqb, ne_eqb}
use Rattle.lane.proofs.lane.Lane.release_at_batch.Goals as goal

pub returns-then-self-release_batch : goal.returns-then-self-release_batch
unfolding release_at_batch
returns-then-self-release_batch c =
    let a = c.args in
    let e : a.self.unreleased ≡ release_batch a.capacity = omega (arith, c.if-self-release_batch.true, c.release_batch.ensures) in
    simp (eq-eqb _ _ e, c.release.ensures)

pub returns : goal.returns
unfolding release_at_batch
returns c = simp (ne_eqb _ _ (λ e. c.if-self-release_batch.false (e ∙ sym c.release_batch.ensures)))
