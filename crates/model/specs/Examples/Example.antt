-- What an example of a run is, and the calls and answers that examples are made of.
-- Assumes nothing.
use Rattle.std.specs.Prelude.{◌≡◌, refl, false, List, [], ◌∷◌, ◌++◌, ℕ, zero, suc}
use Rattle.model.specs.declared.LaneKey.{LaneKey}
use Rattle.model.specs.declared.LaneId.{LaneId}
use Rattle.model.specs.declared.Opening.{Opening}
use Rattle.model.specs.declared.SenderCall.TheVariants.{RegisterSender, TrySend, TrySendUnsignaled, DropSender}
use Rattle.model.specs.declared.ReceiveCall.TheVariants.{TryRecv, TryRecvFair, TryRecvFrom, TryRecvBatchInto, TryRecvBatchIntoWhile}
use Rattle.model.specs.declared.ControlCall.TheVariants.{Pause, Resume, CloseLane, PollAllLanes, CountHeld}
use Rattle.model.specs.declared.Call.{Call}
use Rattle.model.specs.declared.Call.TheVariants.{Sender, Receive, Control}
use Rattle.model.specs.declared.Answer.{Answer}
use Rattle.model.specs.declared.Answer.TheVariants.{Done, Registered, Taken, Item, Items, Stopped, Empty, Disconnected, Held, Refused}

-- An example: an opening with its first generation, what document 01 says comes of calls after it, and the poll budget at the end.
-- Each line of it is how many times in a row a call comes, the call, and the answer to each: (64, plain, gave 5 0). Of sends that are accepted in a row each says
-- one free place less than the one before, and the line has the first: (63, sends 0 5, Taken false 62).
pub record Example : Type 0 where
  pub capacity : ℕ
  pub slots : ℕ
  pub generation : ℕ
  pub budget : ℕ
  pub said : List (ℕ × Call × Answer)

-- its opening; channel 7 and opening number 0, as in document 02's "0 (4, 2, 7, 0, 0, 0)"
unfoldable pub opening_of : Example → Opening
opening_of e = record { capacity = e.capacity; slots = e.slots; channel = 7; cursor = 0; generation = e.generation; number = 0 }

unfoldable pub repeat : {A : Type 0} → ℕ → A → List A
repeat zero a = []
repeat (suc n) a = a ∷ repeat n a

-- the answers to a call that is made so many times, from the first one on
unfoldable pub in_a_row : ℕ → Answer → List Answer
in_a_row zero a = []
in_a_row (suc n) (Taken w zero) = Taken w 0 ∷ in_a_row n (Taken w 0)
in_a_row (suc n) (Taken w (suc f)) = Taken w (suc f) ∷ in_a_row n (Taken w f)
in_a_row (suc n) Done = Done ∷ in_a_row n Done
in_a_row (suc n) (Registered k) = Registered k ∷ in_a_row n (Registered k)
in_a_row (suc n) (Item v i) = Item v i ∷ in_a_row n (Item v i)
in_a_row (suc n) (Items m) = Items m ∷ in_a_row n (Items m)
in_a_row (suc n) (Stopped m) = Stopped m ∷ in_a_row n (Stopped m)
in_a_row (suc n) Empty = Empty ∷ in_a_row n Empty
in_a_row (suc n) Disconnected = Disconnected ∷ in_a_row n Disconnected
in_a_row (suc n) (Held m) = Held m ∷ in_a_row n (Held m)
in_a_row (suc n) (Refused r) = Refused r ∷ in_a_row n (Refused r)

-- its calls, one by one, and their answers
unfoldable pub calls_of : List (ℕ × Call × Answer) → List Call
calls_of [] = []
calls_of (l ∷ ls) = repeat l.0 l.1 ++ calls_of ls

unfoldable pub answers_of : List (ℕ × Call × Answer) → List Answer
answers_of [] = []
answers_of (l ∷ ls) = in_a_row l.0 l.2 ++ answers_of ls

unfoldable pub said_calls : Example → List Call
said_calls e = calls_of e.said

unfoldable pub said_answers : Example → List Answer
said_answers e = answers_of e.said

unfoldable pub key_at : ℕ → ℕ → LaneKey
key_at x g = record { slot = x; generation = g }

-- of a channel and an opening of it
unfoldable pub id_on : ℕ → ℕ → ℕ → ℕ → LaneId
id_on c n x g = record { channel = record { id = c; opening = n }; key = key_at x g }

unfoldable pub id_at : ℕ → ℕ → LaneId
id_at x g = id_on 7 0 x g

-- the calls and answers that the examples are made of, for lanes of generation 0
unfoldable pub registers : Call
registers = Sender (RegisterSender 9)

unfoldable pub sends : ℕ → ℕ → Call
sends x v = Sender (TrySend (key_at x 0) v)

unfoldable pub sends_unsignalled : ℕ → ℕ → Call
sends_unsignalled x v = Sender (TrySendUnsignaled (key_at x 0) v)

unfoldable pub drops : ℕ → Call
drops x = Sender (DropSender (key_at x 0))

unfoldable pub plain : Call
plain = Receive TryRecv

unfoldable pub fair : Call
fair = Receive TryRecvFair

unfoldable pub batch : ℕ → ℕ → Call
batch limit room = Receive (TryRecvBatchInto limit room)

-- with as much room as the limit
unfoldable pub batch_while : ℕ → ℕ → Call
batch_while limit bound = Receive (TryRecvBatchIntoWhile limit bound limit)

unfoldable pub targeted : ℕ → Call
targeted x = Receive (TryRecvFrom (id_at x 0))

unfoldable pub pauses : ℕ → Call
pauses x = Control (Pause (id_at x 0))

unfoldable pub resumes : ℕ → Call
resumes x = Control (Resume (id_at x 0))

unfoldable pub closes : ℕ → Call
closes x = Control (CloseLane (id_at x 0))

unfoldable pub polls_all : Call
polls_all = Control PollAllLanes

unfoldable pub held : Call
held = Control CountHeld

unfoldable pub lane : ℕ → ℕ → Answer
lane x g = Registered (key_at x g)

unfoldable pub gave : ℕ → ℕ → Answer
gave v x = Item v (id_at x 0)

-- All of these, for computing with examples.
unfoldable pub compute_examples : Unit {0}
unfolding opening_of repeat in_a_row calls_of answers_of said_calls said_answers key_at id_on id_at registers sends sends_unsignalled drops plain fair batch batch_while targeted pauses resumes closes polls_all held lane gave
compute_examples = tt

-- lines once, twice and not at all; two sends in a row
four_lines : Example
four_lines = record {
  capacity = 4;
  slots = 1;
  generation = 0;
  budget = 64;
  said = (1, registers, lane 0 0)
      ∷ (2, plain, Empty)
      ∷ (0, fair, Empty)
      ∷ (2, sends 0 5, Taken false 2)
      ∷ [];
}

calls_said : said_calls four_lines ≡ registers ∷ plain ∷ plain ∷ sends 0 5 ∷ sends 0 5 ∷ []
unfolding compute_examples four_lines
calls_said = refl

answers_said : said_answers four_lines ≡ lane 0 0 ∷ Empty ∷ Empty ∷ Taken false 2 ∷ Taken false 1 ∷ []
unfolding compute_examples four_lines
answers_said = refl
