-- `replay_serve::serve::turn` meets its contract.
-- Assumes nothing.
use mathlib.Core.Path.{ap, ◌∙◌}
use native.Mathlib.Omega.{arith}
use Rattle.std.specs.Prelude.{Err}
use Rattle.model.specs.Answers.{line}
use Rattle.replay_serve.proofs.ServeLaws.{found_at, next_inside, turned_malformed, turned_whole}
use Rattle.replay_serve.proofs.serve.turn.Goals as goal

pub overflow_add-result : goal.overflow_add-result
overflow_add-result c = omega (arith, (next_inside c.args.input.now c.args.at 0 c.requires.0 (found_at c.args.input.now c.args.at c.parse.ensures c.in-Ok.is)).1)

pub returns-in-Err-Malformed : goal.returns-in-Err-Malformed
unfolding line
returns-in-Err-Malformed c = turned_malformed _ _ _ c.requires.0 _ (found_at c.args.input.now c.args.at c.parse.ensures (c.in-Err-Malformed.is ∙ ap Err c.in-Err-Malformed.field-0-is)) c.put_line-in-Err-Malformed.ensures.puts c.put_line-in-Err-Malformed.ensures.upper_bound

pub returns-in-Ok : goal.returns-in-Ok
returns-in-Ok c = turned_whole _ _ _ c.requires.0 _ (found_at c.args.input.now c.args.at c.parse.ensures c.in-Ok.is) c.answer-answer.ensures c.put_line.ensures.puts c.put_line.ensures.upper_bound
