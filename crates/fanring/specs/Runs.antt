-- Lists of checked calls: each tests its two stores first, and is then the inner call.
-- Assumes nothing.
use Rattle.std.specs.Prelude.{cond, List, [], ℕ}
use Rattle.model.specs.declared.LaneKey.{LaneKey}
use Rattle.model.specs.declared.ReceiveCall.{ReceiveCall}
use Rattle.model.specs.declared.Call.{Call}
use Rattle.model.specs.Runs.{Rules}
use Rattle.store.specs.Words.{Words}
use Rattle.refinement.specs.Runs.{call_words, hands_words, output_words, StoreCalls, lists_of}
use Rattle.order.specs.InOrder.{in_order}
use Rattle.fanring.specs.Checked.{checked}

-- every call: its answer and every word of the two stores
unfoldable pub checked_words : List ℕ → List ℕ → Call → Words
checked_words t r c = checked t r (call_words t r c)

-- what a receive hands out: nothing where it is refused for its stores
unfoldable pub checked_hands : List ℕ → List ℕ → ReceiveCall → List (LaneKey × ℕ)
checked_hands t r c = cond (in_order t r) (hands_words t r c) []

-- the lent output: as it was where the call is refused for its stores
unfoldable pub checked_output : List ℕ → List ℕ → ReceiveCall → List ℕ → List ℕ
checked_output t r c out = cond (in_order t r) (output_words t r c out) out

-- these together, and lists of them
abbrev pub checked_calls : StoreCalls
checked_calls = record { words = checked_words; hands = checked_hands; output = checked_output }

abbrev pub the_calls : Rules
the_calls = lists_of checked_calls
