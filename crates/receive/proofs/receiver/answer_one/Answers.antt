-- `receive::receiver::answer_one` meets its contract.
-- Assumes nothing.
use Rattle.std.specs.Prelude.{Option}
use Rattle.receive.specs.Receive.{answer_one}
use Rattle.turns.specs.Drained.{Rests}
use Rattle.turns.specs.declared.turn.Took.{Took}
use mathlib.Core.Path.{sym, ap, ◌∙◌, subst}
use Rattle.receive.proofs.receiver.answer_one.Goals as goal

pub nothing_taken-requires : goal.nothing_taken-requires
nothing_taken-requires c = subst (λ (z : Option Took). Rests (z, c.args.t.now)) c.in-None.is c.requires.1

pub returns-in-None : goal.returns-in-None
unfolding answer_one
returns-in-None c = c.nothing_taken.ensures ∙ sym (ap (λ (z : Option Took). answer_one c.args.channel (z, c.args.t.now)) c.in-None.is)

pub returns-in-Some : goal.returns-in-Some
unfolding answer_one
returns-in-Some c =
    rw c.held_less.ensures (sym (ap (λ (z : Option Took). answer_one c.args.channel (z, c.args.t.now)) c.in-Some.is))
