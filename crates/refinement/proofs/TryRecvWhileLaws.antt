-- The batch that stops does what the rules say, hands out and writes what they hand out and write, and leaves a store in order.
-- Assumes nothing.
use mathlib.Core.Path.{◌≡◌, refl, sym, ap, ◌∙◌}
use mathlib.Core.Bool.{Bool, true, false}
use mathlib.Core.List.{List}
use Prim.Native.Nat.{ℕ}
use lib.ListN.{length}
use Rattle.model.specs.declared.LaneKey.{LaneKey}
use Rattle.model.specs.declared.ReceiveCall.TheVariants.{TryRecvBatchIntoWhile}
use Rattle.model.specs.declared.Answer.TheVariants.{Stopped}
use Rattle.model.specs.State.{State}
use Rattle.model.specs.Outcome.{Outcome}
use Rattle.model.specs.Turn.{Took}
use Rattle.model.specs.Receive as rules
use Rattle.store.specs.Refusal.{Verdict}
use Rattle.store.specs.View.{view}
use Rattle.store.specs.Order.{InOrderButHeld}
use Rattle.store.specs.Words.{Words, with_rings}
use Rattle.all_lanes.specs.AllLanes.{release_all}
use Rattle.receive_batch.specs.Batch.{batch_verdict, handed_by}
use Rattle.receive_while.specs.While.{DrainedWhile, drained_while, answer_while, while_answer, while_words, while_hands}
use Rattle.store.proofs.RefusalLaws.{seen, first_of, refused_alike, unless_refused_case}
use Rattle.refinement.proofs.TryRecvBatchLaws.{released_held, view_released, answer_items_alike, answer_items_keeps, answer_items_hands, handed_by_tests, tests, batch_verdict_lem}
use Rattle.refinement.proofs.WhileView.{WhileAs, drained_while_alike}

-- the answer to items handed out from a table, by whether it stopped
module _ (t r : List ℕ) (o : InOrderButHeld t r) where
  answer_while_alike : (limit : ℕ) (b : Bool) (l : List (LaneKey × ℕ))
      → seen (with_rings r (answer_while limit record { received = length l; rejected = b } (release_all t))) ≡ (rules.answer_while limit b l (rules.release_all (view t r))).1
  unfolding answer_while rules.answer_while
  answer_while_alike limit true l = ap (λ (s : State). (Stopped (length l), s)) (view_released t r o (length l))
  answer_while_alike limit false l = answer_items_alike t r o limit l

  answer_while_keeps : (limit n : ℕ) (b : Bool) → InOrderButHeld (answer_while limit record { received = n; rejected = b } (release_all t)).1 r
  unfolding answer_while
  answer_while_keeps limit n true = released_held t r o n
  answer_while_keeps limit n false = answer_items_keeps t r o limit n

answer_while_hands : (limit : ℕ) (b : Bool) (l : List (LaneKey × ℕ)) (s : State) → (rules.answer_while limit b l s).0 ≡ l
unfolding rules.answer_while
answer_while_hands limit true l s = refl
answer_while_hands limit false l s = answer_items_hands limit l s

module _ (t r : List ℕ) (o : InOrderButHeld t r) (limit bound room : ℕ) where
  abbrev d : DrainedWhile
  d = drained_while t r limit bound

  abbrev w : Bool × Took
  w = rules.take_while bound limit (view t r)

  taken : WhileAs r d w
  taken = drained_while_alike t r limit bound o

  outcome : Outcome
  outcome = rules.answer_while limit w.0 w.1.0 (rules.release_all w.1.1)

  while_answer_alike : seen (with_rings r (while_answer t r limit bound)) ≡ outcome.1
  unfolding while_answer outcome
  while_answer_alike =
      answer_while_alike d.1.1 r taken.in_order limit d.0 d.1.0
      ∙ ap (λ (z : Bool × Took). (rules.answer_while limit z.0 z.1.0 (rules.release_all z.1.1)).1) taken.alike

  pub try_recv_while_alike : seen (while_words t r limit bound room) ≡ (rules.try_recv_batch_into_while (view t r) limit bound room).1
  unfolding while_words rules.try_recv_batch_into_while outcome
  try_recv_while_alike =
      refused_alike (batch_verdict t limit room) (tests t r limit room) t r (with_rings r (while_answer t r limit bound)) outcome (batch_verdict_lem t r limit room) (λ e. while_answer_alike)

  pub try_recv_while_keeps : InOrderButHeld (while_words t r limit bound room).1 (while_words t r limit bound room).2
  unfolding while_words while_answer
  try_recv_while_keeps =
      unless_refused_case (λ (z : Words). InOrderButHeld z.1 z.2) (batch_verdict t limit room) t r (with_rings r (while_answer t r limit bound)) (λ why e. o)
      (λ e. answer_while_keeps d.1.1 r taken.in_order limit (length d.1.0) d.0)

  -- each item with its lane's key, in order
  pub try_recv_while_hands : while_hands t r limit bound room ≡ (rules.try_recv_batch_into_while (view t r) limit bound room).0
  unfolding while_hands rules.try_recv_batch_into_while outcome
  try_recv_while_hands =
      ap (λ (v : Verdict). handed_by v d.1.0) (batch_verdict_lem t r limit room)
      ∙ ap (handed_by (first_of (tests t r limit room))) handed
      ∙ handed_by_tests (tests t r limit room) (view t r) outcome
    where
      handed : d.1.0 ≡ outcome.0
      handed =
          sym (answer_while_hands limit d.0 d.1.0 (rules.release_all (view d.1.1 r)))
          ∙ ap (λ (z : Bool × Took). (rules.answer_while limit z.0 z.1.0 (rules.release_all z.1.1)).0) taken.alike

-- "A batch hands out its output in order": the output's words
pub try_recv_while_output : (t r out : List ℕ) → InOrderButHeld t r → (limit bound room : ℕ) → rules.written_to (while_hands t r limit bound room) out ≡ rules.output_after (view t r) (TryRecvBatchIntoWhile limit bound room) out
unfolding rules.output_after
try_recv_while_output t r out o limit bound room = ap (λ (l : List (LaneKey × ℕ)). rules.written_to l out) (try_recv_while_hands t r o limit bound room)
