-- `yring::ring::Ring::item_at` meets its contract.
-- Assumes nothing.

use Rattle.yring.proofs.ring.Ring.item_at.Goals as goal

pub returns : goal.returns
returns c = cc
