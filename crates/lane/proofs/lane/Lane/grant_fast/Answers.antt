-- `lane::lane::Lane::grant_fast` meets its contract.
-- Assumes nothing.
use Rattle.lane.specs.Order.{InOrder}
use Rattle.lane.proofs.OrderLaws.{closed_reload_keeps, window_for_fits}
use Rattle.yring.proofs.ReleaseLaws.{batch_most}
use Rattle.lane.specs.Lane.{grant_fast, open_for}
use native.Mathlib.Omega.{arith}
use Rattle.lane.proofs.lane.Lane.grant_fast.Goals as goal

pub window_for-n-requires : goal.window_for-n-requires
window_for-n-requires c = (c.requires.0, rw (c.reload-lane.ensures, c.close_fast.ensures) (closed_reload_keeps _ c.requires.0.most _ c.requires.1))

pub open_window-requires : goal.open_window-requires
open_window-requires c =
    let k : InOrder c.args.capacity c.reload-lane.result = rw (c.reload-lane.ensures, c.close_fast.ensures) (closed_reload_keeps _ c.requires.0.most _ c.requires.1) in
    let w = window_for_fits _ c.requires.0.most c.args.budget _ k in
    rw c.window_for-n.ensures (w.0, omega (arith, w, batch_most c.args.capacity), omega (arith, w))

pub returns : goal.returns
unfolding grant_fast open_for
returns c = cc
