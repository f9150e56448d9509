-- `replay::flush` meets its contract.
-- Assumes nothing.
use mathlib.Core.Path.{refl}
use Rattle.replay.proofs.flush.Goals as goal

-- written out, so that another place is an equation that is false
pub returns-clause-place : goal.returns-clause-place
returns-clause-place g c = record { next = refl; at = refl; have = refl; due = refl }
