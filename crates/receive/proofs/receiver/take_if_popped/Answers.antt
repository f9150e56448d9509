-- `receive::receiver::take_if_popped` meets its contract.
-- Assumes nothing.
use mathlib.Core.Path.{sym, ap, ◌∙◌, subst}
use Rattle.receive.specs.Receive.{take_if_popped, Affords}
use Rattle.receive.proofs.receiver.take_if_popped.Goals as goal

pub take_from_new_window-requires : goal.take_from_new_window-requires
take_from_new_window-requires c = (c.requires.0, c.requires.1 _ c.in_ok-taken.was, subst (Affords c.args.t.now) c.in_ok-taken.was c.requires.2)

pub returns-in_err-taken : goal.returns-in_err-taken
unfolding take_if_popped
returns-in_err-taken c = rw c.from_residual.ensures (sym (ap (take_if_popped c.args.t.now) c.in_err-taken.was))

pub returns : goal.returns
returns c = c.take_from_new_window.ensures ∙ sym (ap (take_if_popped c.args.t.now) c.in_ok-taken.was)
