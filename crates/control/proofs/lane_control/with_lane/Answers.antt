-- `control::lane_control::with_lane` meets its contract.
-- Assumes nothing.
use mathlib.Core.Path.{◌∙◌, refl, sym}
use native.Mathlib.Omega.{arith}
use Rattle.store.proofs.RefusalLaws.{id_passes}
use Rattle.control.proofs.lane_control.with_lane.Goals as goal

pub load-l-requires : goal.load-l-requires
load-l-requires g c =
    let s = c.requires.shaped in
    omega (arith, (id_passes _ _ (sym c.id_verdict.ensures ∙ c.in-Ok.is)).1.is_issued, s.issued_most, s.room)

pub returns-in-Ok-clause-done : goal.returns-in-Ok-clause-done
returns-in-Ok-clause-done g c = λ v. (refl, _, _, refl, refl, rw c.load-l.ensures at c.act.ensures)
