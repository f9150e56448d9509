-- `sender::sender::drop_sender` meets its contract.
-- Assumes nothing.
use mathlib.Core.Path.{◌∙◌, sym}
use native.Mathlib.Omega.{arith}
use Rattle.lane.proofs.TableLaws.{slot_of_lane}
use Rattle.store.specs.Words.{unless_refused}
use Rattle.sender.specs.Sender.{drop_sender}
use Rattle.store.proofs.RefusalLaws.{sender_passes}
use Rattle.store.proofs.StoreLaws.{living_counted}
use Rattle.sender.proofs.sender.drop_sender.Goals as goal

pub load-l-requires : goal.load-l-requires
load-l-requires c = omega (arith, (sender_passes _ _ (sym c.sender_verdict.ensures ∙ c.in-Ok.is)).is_issued, c.requires.stores.shaped.issued_most, c.requires.stores.shaped.room)

pub drop_lane-requires : goal.drop_lane-requires
drop_lane-requires c =
    let p = sender_passes _ _ (sym c.sender_verdict.ensures ∙ c.in-Ok.is) in
    rw (c.load-l.ensures, slot_of_lane _ _)
    (c.requires.stores.shaped, omega (arith, p.is_issued, c.requires.stores.shaped.issued_most), living_counted _ _ c.requires.stores _ p.is_issued p.living)

pub returns-in-Err : goal.returns-in-Err
unfolding drop_sender unless_refused
returns-in-Err c = rw (sym c.sender_verdict.ensures ∙ c.in-Err.is)

pub returns-in-Ok : goal.returns-in-Ok
unfolding drop_sender unless_refused
returns-in-Ok c = rw (sym c.sender_verdict.ensures ∙ c.in-Ok.is, c.drop_lane.ensures, c.load-l.ensures)
