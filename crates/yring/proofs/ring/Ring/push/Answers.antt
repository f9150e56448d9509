-- `yring::ring::Ring::push` meets its contract.
-- Assumes nothing.
use Rattle.std.proofs.Common.{◌≡◌, ℕ, sym, ◌∙◌, arith, eq-eqb, ne_eqb}
use Rattle.yring.specs.Cursor.{distance}
use Rattle.yring.specs.Ring.{push}
use Rattle.yring.proofs.ring.Ring.push.Goals as goal

-- where all places are in use, none is left
none_left : (capacity used : ℕ) → used ≡ capacity → distance capacity used ≡ 0
none_left capacity used e = omega (arith, e)

pub returns-then-free-eq0 : goal.returns-then-free-eq0
unfolding push
returns-then-free-eq0 c = simp (eq-eqb _ _ (sym c.distance.ensures ∙ c.free_places-free.ensures.1 c.if-free-eq0.true))

pub returns : goal.returns
unfolding push
returns c =
    let used = c.distance.ensures in
    let left = c.free_places-free.ensures.0 in
    simp (ne_eqb _ _ (λ e. c.if-free-eq0.false (left ∙ none_left _ _ (used ∙ e))), left, used, c.after.ensures)
