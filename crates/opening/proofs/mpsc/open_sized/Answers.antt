-- `opening::mpsc::open_sized` meets its contract.
-- Assumes nothing.
use mathlib.Core.Path.{◌∙◌, sym}
use native.Mathlib.Omega.{arith}
use Rattle.opening.specs.Opening.{open_sized}
use Rattle.store.specs.Words.{unless_refused}
use Rattle.opening.proofs.OpeningBounds.{stores_pass, rounded}
use Rattle.opening.proofs.mpsc.open_sized.Goals as goal

pub stores_verdict-requires : goal.stores_verdict-requires
stores_verdict-requires c = let p = c.next_power_of_two-capacity.ensures in (c.requires.0, (rounded _ _ p.power p.lower_bound p.upper_bound c.requires.1).1)

pub store-requires : goal.store-requires
store-requires c = omega (arith, (stores_pass _ _ _ _ (sym c.stores_verdict.ensures ∙ c.in-Ok.is)).1)

pub returns-in-Err : goal.returns-in-Err
unfolding open_sized unless_refused
returns-in-Err c = let p = c.next_power_of_two-capacity.ensures in rw (← (rounded _ _ p.power p.lower_bound p.upper_bound c.requires.1).0, sym c.stores_verdict.ensures ∙ c.in-Err.is)

pub returns-in-Ok : goal.returns-in-Ok
unfolding open_sized unless_refused
returns-in-Ok c = let p = c.next_power_of_two-capacity.ensures in rw (← (rounded _ _ p.power p.lower_bound p.upper_bound c.requires.1).0, sym c.stores_verdict.ensures ∙ c.in-Ok.is, c.store.ensures, c.new.ensures)
