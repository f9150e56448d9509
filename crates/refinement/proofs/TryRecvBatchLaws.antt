-- The batch does what the rules say, hands out and writes what they hand out and write, and leaves a store in order.
-- Assumes nothing.
use mathlib.Core.Path.{◌≡◌, refl, sym, ap, ◌∙◌, subst}
use mathlib.Core.Bool.{Bool, true, false, cond, not}
use mathlib.Core.List.{List, [], ◌∷◌}
use Prim.Native.Nat.{ℕ, zero, suc}
use native.Mathlib.Omega.{arith}
use borrow.Author.Tests.{ne_eqb}
use lib.Dec.{eqb, ltb}
use lib.ListN.{length}
use Rattle.model.specs.declared.LaneKey.{LaneKey}
use Rattle.model.specs.declared.ReceiveCall.TheVariants.{TryRecvBatchInto}
use Rattle.model.specs.declared.Answer.TheVariants.{Items, Refused}
use Rattle.model.specs.declared.Refusal.{Refusal}
use Rattle.model.specs.declared.Refusal.TheVariants.{ReceiverClosed, OutputShort}
use Rattle.model.specs.Lists.{if}
use Rattle.model.specs.State.{State}
use Rattle.model.specs.Order.{Ordered}
use Rattle.model.specs.Outcome.{Outcome, unless}
use Rattle.model.specs.Turn.{Took}
use Rattle.model.specs.Receive as rules
use Rattle.demands.proofs.Moves.{nothing_taken_gives_none}
use Rattle.demands.proofs.OrderKept.{release_all_ordered}
use Rattle.queues.specs.Header.{held_less}
use Rattle.store.specs.Refusal.{Verdict}
use Rattle.std.specs.Prelude.{Ok, Err}
use Rattle.store.specs.View.{view}
use Rattle.store.specs.Order.{InOrderButHeld}
use Rattle.store.specs.Refusal.{and_then}
use Rattle.store.specs.Words.{Words, with_rings}
use Rattle.turns.specs.Drained.{nothing_taken}
use Rattle.all_lanes.specs.AllLanes.{release_all}
use Rattle.receive_batch.specs.Batch.{HandsAndTable, drained, room_verdict, batch_verdict, answer_items, batch_answer, batch_words, handed_by, batch_hands}
use Rattle.store.proofs.ViewLaws.{view_held_count}
use Rattle.store.proofs.HeldLaws.{but_held_count}
use Rattle.store.proofs.RefusalLaws.{seen, first_of, first_of_append, receiver_verdict_lem, refused_alike, unless_refused_case}
use Rattle.all_lanes.proofs.ReleaseConsumedLaws.{view_release_all, stores_release_all}
use Rattle.refinement.proofs.NothingTakenLaws.{nothing_taken_alike, nothing_taken_keeps}
use Rattle.refinement.proofs.DrainView.{DrainedAs, drained_alike}

-- ---- every lane has given back its credit

module _ (t r : List ℕ) (o : InOrderButHeld t r) where
  pub released_in_order : InOrderButHeld (release_all t) r
  released_in_order =
      record {
        stores = stores_release_all t r o.stores;
        ordered = subst Ordered (sym (view_release_all t r o.stores)) (release_all_ordered (view t r) o.ordered);
      }

  -- and n items are held no more
  pub released_held : (n : ℕ) → InOrderButHeld (held_less (release_all t) n) r
  released_held n = but_held_count (release_all t) r _ released_in_order

  pub view_released : (n : ℕ) → view (held_less (release_all t) n) r ≡ rules.release_all (view t r)
  view_released n = view_held_count (release_all t) r released_in_order.stores.shaped _ ∙ view_release_all t r o.stores

  -- the answer to items handed out from that table
  pub answer_items_alike : (limit : ℕ) (l : List (LaneKey × ℕ))
      → seen (with_rings r (answer_items limit (length l) (release_all t))) ≡ (rules.answer_items limit l (rules.release_all (view t r))).1
  unfolding answer_items rules.answer_items
  answer_items_alike zero [] = ap (λ (s : State). (Items 0, s)) (view_release_all t r o.stores)
  answer_items_alike zero (g ∷ l) = rw (ne_eqb (suc (length l)) 0 (λ z. omega arith)) (ap (λ (s : State). (Items (suc (length l)), s)) (view_released (suc (length l))))
  answer_items_alike (suc n) [] =
      rw (ne_eqb (suc n) 0 (λ z. omega arith)) (nothing_taken_alike (release_all t) r released_in_order ∙ ap (λ (s : State). (rules.nothing_taken s).1) (view_release_all t r o.stores))
  answer_items_alike (suc n) (g ∷ l) = rw (ne_eqb (suc (length l)) 0 (λ z. omega arith)) (ap (λ (s : State). (Items (suc (length l)), s)) (view_released (suc (length l))))

  pub answer_items_keeps : (limit n : ℕ) → InOrderButHeld (answer_items limit n (release_all t)).1 r
  unfolding answer_items
  answer_items_keeps limit n = go (eqb n 0) (eqb limit 0)
    where
      go : (a b : Bool) → InOrderButHeld (cond a (cond b (Items 0, release_all t) (nothing_taken (release_all t))) (Items n, held_less (release_all t) n)).1 r
      go true true = released_in_order
      go true false = nothing_taken_keeps (release_all t) r released_in_order
      go false b = released_held n

-- the rules' answer goes with what they hand out
pub answer_items_hands : (limit : ℕ) (l : List (LaneKey × ℕ)) (s : State) → (rules.answer_items limit l s).0 ≡ l
unfolding rules.answer_items
answer_items_hands zero l s = refl
answer_items_hands (suc n) [] s = nothing_taken_gives_none s
answer_items_hands (suc n) (g ∷ l) s = refl

-- ---- the refusals

-- a call that the rules refuse hands out nothing
pub handed_by_tests : (cs : List (Bool × Refusal)) (s : State) (o : Outcome) → handed_by (first_of cs) o.0 ≡ (unless cs s o).0
unfolding handed_by first_of unless
handed_by_tests [] s o = refl
handed_by_tests (c ∷ cs) s o = go c.0 (handed_by_tests cs s o)
  where
    go : (b : Bool) → handed_by (first_of cs) o.0 ≡ (unless cs s o).0 → handed_by (if b (Err c.1) (first_of cs)) o.0 ≡ (if b ([], (Refused c.1, s)) (unless cs s o)).0
    go true e = refl
    go false e = e

module _ (t r : List ℕ) (limit room : ℕ) where
  abbrev pub tests : List (Bool × Refusal)
  tests = (not (view t r).is_open, ReceiverClosed) ∷ (ltb room limit, OutputShort) ∷ []

  pub batch_verdict_lem : batch_verdict t limit room ≡ first_of tests
  unfolding batch_verdict room_verdict first_of
  batch_verdict_lem =
      ap (λ (v : Verdict). and_then v (room_verdict limit room)) (receiver_verdict_lem t r)
      ∙ ap (and_then (first_of ((not (view t r).is_open, ReceiverClosed) ∷ []))) (go (ltb room limit))
      ∙ sym (first_of_append ((not (view t r).is_open, ReceiverClosed) ∷ []) ((ltb room limit, OutputShort) ∷ []))
    where
      go : (b : Bool) → ◌≡◌ {A = Verdict} (cond b (Err OutputShort) (Ok tt)) (if b (Err OutputShort) (Ok tt))
      go true = refl
      go false = refl

-- ---- the call

module _ (t r : List ℕ) (o : InOrderButHeld t r) (limit room : ℕ) where
  abbrev d : HandsAndTable
  d = drained t r limit

  abbrev w : Took
  w = rules.take_up_to limit (view t r)

  taken : DrainedAs r d w
  taken = drained_alike t r limit o

  outcome : Outcome
  outcome = rules.answer_items limit w.0 (rules.release_all w.1)

  batch_answer_alike : seen (with_rings r (batch_answer t r limit)) ≡ outcome.1
  unfolding batch_answer outcome
  batch_answer_alike =
      answer_items_alike d.1 r taken.in_order limit d.0
      ∙ ap (λ (z : Took). (rules.answer_items limit z.0 (rules.release_all z.1)).1) taken.alike

  pub try_recv_batch_alike : seen (batch_words t r limit room) ≡ (rules.try_recv_batch_into (view t r) limit room).1
  unfolding batch_words rules.try_recv_batch_into outcome
  try_recv_batch_alike =
      refused_alike (batch_verdict t limit room) (tests t r limit room) t r (with_rings r (batch_answer t r limit)) outcome (batch_verdict_lem t r limit room) (λ e. batch_answer_alike)

  pub try_recv_batch_keeps : InOrderButHeld (batch_words t r limit room).1 (batch_words t r limit room).2
  unfolding batch_words batch_answer
  try_recv_batch_keeps =
      unless_refused_case (λ (z : Words). InOrderButHeld z.1 z.2) (batch_verdict t limit room) t r (with_rings r (batch_answer t r limit)) (λ why e. o)
      (λ e. answer_items_keeps d.1 r taken.in_order limit (length d.0))

  -- each item with its lane's key, in order
  pub try_recv_batch_hands : batch_hands t r limit room ≡ (rules.try_recv_batch_into (view t r) limit room).0
  unfolding batch_hands rules.try_recv_batch_into outcome
  try_recv_batch_hands =
      ap (λ (v : Verdict). handed_by v d.0) (batch_verdict_lem t r limit room)
      ∙ ap (handed_by (first_of (tests t r limit room))) handed
      ∙ handed_by_tests (tests t r limit room) (view t r) outcome
    where
      handed : d.0 ≡ outcome.0
      handed =
          sym (answer_items_hands limit d.0 (rules.release_all (view d.1 r)))
          ∙ ap (λ (z : Took). (rules.answer_items limit z.0 (rules.release_all z.1)).0) taken.alike

-- "A batch hands out its output in order": the output's words
pub try_recv_batch_output : (t r out : List ℕ) → InOrderButHeld t r → (limit room : ℕ) → rules.written_to (batch_hands t r limit room) out ≡ rules.output_after (view t r) (TryRecvBatchInto limit room) out
unfolding rules.output_after
try_recv_batch_output t r out o limit room = ap (λ (l : List (LaneKey × ℕ)). rules.written_to l out) (try_recv_batch_hands t r o limit room)
