-- A state in order stays so: an accepted opening leaves one, every call keeps it, and so it holds after any run.
-- Assumes nothing.
use mathlib.Core.Path.{◌≡◌}
use mathlib.Core.List.{List, [], ◌∷◌}
use Rattle.model.specs.declared.Opening.{Opening}
use Rattle.model.specs.declared.Call.{Call}
use Rattle.model.specs.declared.Answer.TheVariants.{Done}
use Rattle.model.specs.State.{State}
use Rattle.model.specs.Runs.{Lent, Tick, after_list}
use Rattle.model.specs.Opening.{opening_outcome}
use Rattle.model.specs.Rules.{outcome, the_rules}
use Rattle.model.specs.Order.{InOrder}
use Rattle.demands.proofs.Moves.{Chain, stay, move, call_chain}
use Rattle.demands.proofs.Opened.{opened_ordered}
use Rattle.demands.proofs.MovesKeepOrder.{move_ordered}
use Rattle.demands.proofs.Demand2.{opens_as}
use Rattle.demands.proofs.Capacity.{move_rings_fit, opened_rings_fit}

chain_in_order : {s u : State} {ts : List Tick} → Chain s ts u → InOrder s → InOrder u
chain_in_order (stay s) i = i
chain_in_order (move m c) i = chain_in_order c record { ordered = move_ordered i.ordered m; rings_fit = move_rings_fit i.rings_fit m }

-- every call, refused ones included
pub call_keeps_order : (s : State) (c : Call) → InOrder s → InOrder (outcome s c).1.1
call_keeps_order s c i = chain_in_order (call_chain s c) i

pub opening_in_order : (o : Opening) (lent : Lent) → (opening_outcome o lent).1.0 ≡ Done → InOrder (opening_outcome o lent).1.1
opening_in_order o lent a = rw (opens_as o lent) record { ordered = opened_ordered o lent a; rings_fit = opened_rings_fit o }

calls_keep_order : (s : State) (calls : List Call) → InOrder s → InOrder (after_list the_rules s calls)
unfolding after_list
calls_keep_order s [] i = i
calls_keep_order s (c ∷ cs) i = calls_keep_order (outcome s c).1.1 cs (call_keeps_order s c i)

pub run_in_order : (o : Opening) (lent : Lent) → (opening_outcome o lent).1.0 ≡ Done → (calls : List Call) → InOrder (after_list the_rules (opening_outcome o lent).1.1 calls)
run_in_order o lent a calls = calls_keep_order (opening_outcome o lent).1.1 calls (opening_in_order o lent a)
