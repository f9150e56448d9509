-- A look for ready lanes when the budget is used up, as words.
-- Assumes nothing.
use Rattle.std.specs.Prelude.{false, cond, List, ℕ, eqb}
use Rattle.queues.specs.Header.{set_budget, queue_count, budget}
use Rattle.ready.specs.Ready.{collect_ready}

-- "else, budget 0 and queue non-empty, collect one group and set the budget to 64"
unfoldable pub collect_if_due : List ℕ → List ℕ
collect_if_due t = cond (eqb (budget t) 0) (cond (eqb (queue_count t) 0) t (set_budget (collect_ready false t) 64)) t
