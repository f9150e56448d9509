-- `replay_serve::calls::Stores::answer` meets its contract.
-- Assumes nothing.
use Rattle.replay_serve.proofs.CallLaws.{open_answered}
use Rattle.replay_serve.proofs.calls.Stores.answer.Goals as goal

pub returns-in-Open : goal.returns-in-Open
returns-in-Open c = open_answered _ _ _ c.in-Open.is c.«open».ensures
