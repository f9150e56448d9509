-- What calls on words have to show so that what is proved of the rules holds of them too: a simulation. And which numbers code takes.
-- Assumes nothing.
use Rattle.std.specs.Prelude.{◌≡◌, List, [], ◌∷◌, ℕ, ◌^◌, ◌<◌}
use Rattle.model.specs.declared.LaneId.{LaneId}
use Rattle.model.specs.declared.Opening.{Opening}
use Rattle.model.specs.declared.SenderCall.TheVariants.{RegisterSender, TrySend, TrySendUnsignaled, DropSender}
use Rattle.model.specs.declared.ReceiveCall.{ReceiveCall}
use Rattle.model.specs.declared.ReceiveCall.TheVariants.{TryRecv, TryRecvFair, TryRecvFrom, TryRecvBatchInto, TryRecvBatchIntoWhile}
use Rattle.model.specs.declared.ControlCall.TheVariants.{Pause, Resume, CloseLane, ReleaseConsumed, PollAllLanes, CloseReceiver, CountHeld}
use Rattle.model.specs.declared.Call.{Call}
use Rattle.model.specs.declared.Call.TheVariants.{Sender, Receive, Control}
use Rattle.model.specs.declared.Answer.TheVariants.{Done}
use Rattle.model.specs.Lists.{Each}
use Rattle.model.specs.Order.{InOrder}
use Rattle.model.specs.Runs.{Rules, RunsOf}
use Rattle.model.specs.Rules.{the_rules}
use Rattle.model.specs.Demand2.{HasRoom}
use Rattle.model.specs.Viewed.{Viewed, opening_answer, items_of, answer_of, view_after}

-- The runs of code. Of all numbers of a run one has to fit: the first cursor, "any u64", as cursors wrap. Code has it as a u64, and every other number
-- too, so that no run of code is left out; of the other numbers nothing is asked.
unfoldable pub runs_that_fit : (R : Rules) → RunsOf R
runs_that_fit R o lent calls = o.cursor < 2 ^ 64

-- The calls W do what document 01's rules do: their openings do, and on a state in order each call does.
-- What the rules are lent has the lengths of what W's opening is lent.
pub record Simulation (W : Viewed) : Type 0 where
  pub opens_alike : (o : Opening) (lent : W.rules.Stores) → opening_answer W o lent ≡ (the_rules.opens o (W.rules.lengths lent)).0
  pub opens_view : (o : Opening) (lent : W.rules.Stores) → opening_answer W o lent ≡ Done
      → W.view (W.rules.opens o lent).1 ≡ (the_rules.opens o (W.rules.lengths lent)).1
  -- "An accepted opening leaves a store in order, whatever the lent words held."
  pub opens_ok : (o : Opening) (lent : W.rules.Stores) (calls : List Call) → W.runs o lent calls → opening_answer W o lent ≡ Done → W.Ok (W.rules.opens o lent).1
  pub shows_in_order : (s : W.rules.State) → W.Ok s → InOrder (W.view s)
  pub answers_alike : (s : W.rules.State) (c : Call) → W.Ok s → answer_of W s c ≡ (the_rules.step (W.view s) c).0
  pub leaves_alike : (s : W.rules.State) (c : Call) → W.Ok s → view_after W s c ≡ (the_rules.step (W.view s) c).1
  pub hands_alike : (s : W.rules.State) (r : ReceiveCall) → W.Ok s → items_of W s r ≡ the_rules.hands (W.view s) r
  -- the words that a call leaves in its output are those that the rules write
  pub output_alike : (s : W.rules.State) (r : ReceiveCall) (out : List ℕ) → HasRoom r out → W.Ok s → W.rules.output s r out ≡ the_rules.output (W.view s) r out
  pub keeps_ok : (s : W.rules.State) (c : Call) → W.Ok s → W.Ok (W.rules.step s c).1

-- ---- numbers that code takes, as a record of the replay program has them

-- The numbers that a call is given.
unfoldable pub numbers_of_id : LaneId → List ℕ
numbers_of_id i = i.channel.id ∷ i.key.slot ∷ i.key.generation ∷ i.channel.opening ∷ []

unfoldable pub numbers_of_call : Call → List ℕ
numbers_of_call (Sender (RegisterSender most)) = most ∷ []
numbers_of_call (Sender (TrySend k v)) = k.slot ∷ k.generation ∷ v ∷ []
numbers_of_call (Sender (TrySendUnsignaled k v)) = k.slot ∷ k.generation ∷ v ∷ []
numbers_of_call (Sender (DropSender k)) = k.slot ∷ k.generation ∷ []
numbers_of_call (Receive TryRecv) = []
numbers_of_call (Receive TryRecvFair) = []
numbers_of_call (Receive (TryRecvFrom i)) = numbers_of_id i
numbers_of_call (Receive (TryRecvBatchInto limit room)) = limit ∷ room ∷ []
numbers_of_call (Receive (TryRecvBatchIntoWhile limit bound room)) = limit ∷ bound ∷ room ∷ []
numbers_of_call (Control (Pause i)) = numbers_of_id i
numbers_of_call (Control (Resume i)) = numbers_of_id i
numbers_of_call (Control (CloseLane i)) = numbers_of_id i
numbers_of_call (Control ReleaseConsumed) = []
numbers_of_call (Control PollAllLanes) = []
numbers_of_call (Control CloseReceiver) = []
numbers_of_call (Control CountHeld) = []

-- "any u64": each of the numbers is below 2 ^ 64.
unfoldable pub Fits : List ℕ → Type 0
Fits numbers = Each (λ n. n < 2 ^ 64) numbers

abbrev pub CallFits : Call → Type 0
CallFits c = Fits (numbers_of_call c)
