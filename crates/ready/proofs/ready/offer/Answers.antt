-- `ready::ready::offer` meets its contract.
-- Assumes nothing.
use mathlib.Core.Path.{sym, ◌∙◌}
use native.Mathlib.Omega.{arith}
use Rattle.ready.specs.Ready.{offer}
use Rattle.ready.proofs.OfferLaws.{wants, wants_room}
use Rattle.ready.proofs.ready.offer.Goals as goal

pub enqueue-requires : goal.enqueue-requires
enqueue-requires c =
    let s = c.requires.0 in
    let w = wants _ _ (sym c.wanted.ensures ∙ c.if-wanted.true) in
    (s, omega (arith, s.issued_most, w.is_issued), wants_room _ _ s c.requires.1 w)

pub returns-then-wanted : goal.returns-then-wanted
unfolding offer
returns-then-wanted c = simp (← c.wanted.ensures, c.if-wanted.true) (cc)

pub returns-else-wanted : goal.returns-else-wanted
unfolding offer
returns-else-wanted c = simp (← c.wanted.ensures, c.if-wanted.false) (cc)
