-- Lists of calls on the two stores: each call by its word-level definition, from an opening on.
-- Assumes nothing.
use Rattle.std.specs.Prelude.{◌≡◌, List, ℕ, length}
use Rattle.model.specs.declared.LaneKey.{LaneKey}
use Rattle.model.specs.declared.Opening.{Opening}
use Rattle.model.specs.declared.ReceiveCall.{ReceiveCall}
use Rattle.model.specs.declared.ReceiveCall.TheVariants.{TryRecv, TryRecvFair, TryRecvFrom, TryRecvBatchInto, TryRecvBatchIntoWhile}
use Rattle.model.specs.declared.Call.{Call}
use Rattle.model.specs.declared.Call.TheVariants.{Sender, Receive, Control}
use Rattle.model.specs.declared.Answer.{Answer}
use Rattle.model.specs.declared.Answer.TheVariants.{Done}
use Rattle.model.specs.Runs.{Rules, after_list}
use Rattle.model.specs.Viewed.{Viewed}
use Rattle.model.specs.Simulation.{runs_that_fit}
use Rattle.store.specs.Words.{Words}
use Rattle.store.specs.View.{view}
use Rattle.store.specs.Order.{StoreInOrder}
use Rattle.opening.specs.Opening.{open_store}
use Rattle.sender.specs.Sender.{sender_words}
use Rattle.control.specs.Calls.{control_words}
use Rattle.receive.specs.Receive.{try_recv, try_recv_fair}
use Rattle.receive_from.specs.Target.{try_recv_from}
use Rattle.receive_batch.specs.Batch.{batch_words, batch_hands, try_recv_batch_into}
use Rattle.receive_while.specs.While.{while_words, while_hands, try_recv_batch_into_while}
use Rattle.refinement.specs.Hands.{hands_of}

-- every receive
unfoldable pub receive_words : List ℕ → List ℕ → ReceiveCall → Words
receive_words t r TryRecv = try_recv t r
receive_words t r TryRecvFair = try_recv_fair t r
receive_words t r (TryRecvFrom i) = try_recv_from t r i
receive_words t r (TryRecvBatchInto limit room) = batch_words t r limit room
receive_words t r (TryRecvBatchIntoWhile limit bound room) = while_words t r limit bound room

-- what a receive hands out: a single one the item that it answers
unfoldable pub hands_words : List ℕ → List ℕ → ReceiveCall → List (LaneKey × ℕ)
hands_words t r TryRecv = hands_of (try_recv t r).0
hands_words t r TryRecvFair = hands_of (try_recv_fair t r).0
hands_words t r (TryRecvFrom i) = hands_of (try_recv_from t r i).0
hands_words t r (TryRecvBatchInto limit room) = batch_hands t r limit room
hands_words t r (TryRecvBatchIntoWhile limit bound room) = while_hands t r limit bound room

-- the lent output; single receives are lent none
unfoldable pub output_words : List ℕ → List ℕ → ReceiveCall → List ℕ → List ℕ
output_words t r TryRecv out = out
output_words t r TryRecvFair out = out
output_words t r (TryRecvFrom i) out = out
output_words t r (TryRecvBatchInto limit room) out = (try_recv_batch_into t r out limit).3
output_words t r (TryRecvBatchIntoWhile limit bound room) out = (try_recv_batch_into_while t r out limit bound).3

-- every call
unfoldable pub call_words : List ℕ → List ℕ → Call → Words
call_words t r (Sender c) = sender_words t r c
call_words t r (Receive c) = receive_words t r c
call_words t r (Control c) = control_words t r c

-- Calls on two stores: what each answers and leaves, what a receive hands out, and the lent output as it leaves it.
-- There are two such: the inner calls and, in crate `fanring`, the checked calls, which test their stores first. What is claimed of either is said once, of any.
pub record StoreCalls : Type 0 where
  pub words : List ℕ → List ℕ → Call → Words
  pub hands : List ℕ → List ℕ → ReceiveCall → List (LaneKey × ℕ)
  pub output : List ℕ → List ℕ → ReceiveCall → List ℕ → List ℕ

-- A receive with the output that it is lent, as contracts name it: the answer, and every word of both stores and of the output.
abbrev pub receive_into : StoreCalls → List ℕ → List ℕ → ReceiveCall → List ℕ → Answer × List ℕ × List ℕ × List ℕ
receive_into M t r c out = let w = M.words t r (Receive c) in (w.0, w.1, w.2, M.output t r c out)

-- "each on the state and stores exactly as the last one left them": the state is every word of the table store and of the ring store
abbrev pub lists_of : StoreCalls → Rules
lists_of M = record {
  State = List ℕ × List ℕ;
  Stores = List ℕ × List ℕ;
  lengths = λ w. record { rings = length w.1; table = length w.0 };
  opens = λ o w. let a = open_store o w.0 w.1 in (a.0, (a.1, a.2));
  step = λ w c. let a = M.words w.0 w.1 c in (a.0, (a.1, a.2));
  hands = λ w c. M.hands w.0 w.1 c;
  output = λ w c out. M.output w.0 w.1 c out;
}

-- What the calls' stores stand for: the rules' state that is read off their words, where they are in order. So what crate `model` says of any `Viewed` is said of
-- the words that contracts name. The runs are those of code.
abbrev pub viewed_of : StoreCalls → Viewed
viewed_of M = record { rules = lists_of M; runs = runs_that_fit (lists_of M); view = λ w. view w.0 w.1; Ok = λ w. StoreInOrder w.0 w.1 }

-- A list is made of what contracts name: its opening is `open_store`, and its calls and outputs are those of M.
pub record MadeOfCalls (M : StoreCalls) : Type 0 where
  pub opening : (o : Opening) (t r : List ℕ) → let w = open_store o t r in ◌≡◌ {A = Answer × (List ℕ × List ℕ)} ((lists_of M).opens o (t, r)) (w.0, (w.1, w.2))
  pub call : (t r : List ℕ) (c : Call) → let w = M.words t r c in ◌≡◌ {A = Answer × (List ℕ × List ℕ)} ((lists_of M).step (t, r) c) (w.0, (w.1, w.2))
  pub output_left : (t r : List ℕ) (c : ReceiveCall) (out : List ℕ) → (lists_of M).output (t, r) c out ≡ M.output t r c out

abbrev pub inner_calls : StoreCalls
inner_calls = record { words = call_words; hands = hands_words; output = output_words }

abbrev pub the_stores : Rules
the_stores = lists_of inner_calls

-- A run of code: an accepted opening, whatever words the two stores hold before it, and calls. The first cursor is a u64.
pub record Run : Type 0 where
  pub opening : Opening
  pub table : List ℕ
  pub rings : List ℕ
  pub accepted : (open_store opening table rings).0 ≡ Done
  pub calls : List Call
  pub fits : runs_that_fit the_stores opening (table, rings) calls

-- The two stores after the opening, and after all its calls.
abbrev pub opened_stores : Run → List ℕ × List ℕ
opened_stores x = (the_stores.opens x.opening (x.table, x.rings)).1

abbrev pub stores_after : StoreCalls → Run → List ℕ × List ℕ
stores_after M x = after_list (lists_of M) (opened_stores x) x.calls
