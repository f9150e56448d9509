-- `receive::receiver::take_from_lone_window` meets its contract.
-- Assumes nothing.
use Rattle.std.specs.Prelude.{Some}
use mathlib.Core.Path.{ap, ◌∙◌}
use Rattle.lane.specs.declared.consumer.Taken.{Taken}
use Rattle.receive.specs.Receive.{take_if_popped}
use Rattle.receive.proofs.receiver.take_from_lone_window.Goals as goal

pub returns : goal.returns
returns c = c.take_from_new_window.ensures ∙ ap (λ (x : Taken). take_if_popped c.args.t.now (Some x)) c.pop_fair-taken.ensures
