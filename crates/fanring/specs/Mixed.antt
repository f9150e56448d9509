-- Lists of calls on the same two stores in which each is made checked or inner.
-- Assumes nothing.
use Rattle.std.specs.Prelude.{◌≡◌, List, [], ◌∷◌, ◌++◌, ℕ}
use Rattle.model.specs.declared.ReceiveCall.{ReceiveCall}
use Rattle.model.specs.declared.Call.{Call}
use Rattle.model.specs.Runs.{Tick, ticks, trace}
use Rattle.refinement.specs.Runs.{StoreCalls, lists_of, inner_calls, Run, opened_stores, stores_after}
use Rattle.fanring.specs.Runs.{checked_calls, the_calls}

-- How a call is made.
pub data Way : Type 0 where
  as_checked : Way
  as_inner : Way

unfoldable pub calls_of : Way → StoreCalls
calls_of as_checked = checked_calls
calls_of as_inner = inner_calls

-- All that happens in such a list, and the two stores after it: each call on the words as the last one left them.
unfoldable pub mixed_trace : List ℕ × List ℕ → List (Way × Call) → List Tick
mixed_trace w [] = []
mixed_trace w (m ∷ ms) = let R = lists_of (calls_of m.0) in ticks R w m.1 ++ mixed_trace (R.step w m.1).1 ms

unfoldable pub mixed_after : List ℕ × List ℕ → List (Way × Call) → List ℕ × List ℕ
mixed_after w [] = w
mixed_after w (m ∷ ms) = mixed_after ((lists_of (calls_of m.0)).step w m.1).1 ms

-- ms, the calls of the run x each made checked or inner, come to what x comes to with all of them made checked:
pub record MixedAs (x : Run) (ms : List (Way × Call)) : Type 0 where
  -- in all answers, items and lanes,
  pub same_trace : mixed_trace (opened_stores x) ms ≡ trace the_calls (opened_stores x) x.calls
  -- in every word of the two stores,
  pub same_stores : mixed_after (opened_stores x) ms ≡ stores_after checked_calls x
  -- and in every word that the next receive, made either way, leaves in its output
  pub same_output : (way : Way) (c : ReceiveCall) (out : List ℕ)
      → let end = mixed_after (opened_stores x) ms in let only = stores_after checked_calls x in (calls_of way).output end.0 end.1 c out ≡ checked_calls.output only.0 only.1 c out
