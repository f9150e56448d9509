-- What is handed out is what is answered, and a batch's output holds it in order.
-- Assumes nothing.
use mathlib.Core.Path.{◌≡◌, refl, ap}
use mathlib.Core.Bool.{Bool, true, false}
use mathlib.Core.List.{List, [], ◌∷◌, ◌++◌, map}
use Prim.Native.Nat.{ℕ, zero, suc, ◌≤◌}
use native.Mathlib.Omega.{arith}
use lib.ListN.{length, take, drop, length-append, length-drop, length-map}
use lib.Dec.{leb}
use borrow.Author.Tests.{ltb-false}
use Rattle.model.specs.declared.LaneKey.{LaneKey}
use Rattle.model.specs.declared.ReceiveCall.TheVariants.{TryRecv, TryRecvFair, TryRecvFrom, TryRecvBatchInto, TryRecvBatchIntoWhile}
use Rattle.model.specs.declared.Refusal.{Refusal}
use Rattle.model.specs.declared.Answer.TheVariants.{Empty, Disconnected, Refused}
use Rattle.model.specs.Lists.{if, from}
use Rattle.model.specs.State.{State, registered_lanes, living_senders}
use Rattle.model.specs.Turn.{take_one}
use Rattle.model.specs.Outcome.{Outcome, says}
use Rattle.model.specs.Receive.{retire_empty_paused_lanes, empty_or_drained, nothing_taken, answer_one, answer_items, and_more, take_up_to, take_from, written_to, receive_outcome, output_after, try_recv, try_recv_fair, try_recv_from, try_recv_batch_into, take_while, answer_while, try_recv_batch_into_while, release_all}
use Rattle.model.specs.Rules.{outcome, the_rules}
use Rattle.model.specs.Demand2.{Tells, OutputInOrder, Writes, AsAnswered, HasRoom, HandsAsAnswered}
use Rattle.demands.proofs.Moves.{unless_law}
use Rattle.demands.proofs.StopLaws.{while_law}

-- a call's answer tells what it hands out; the output was `out`, and `now` says what it is after the items handed out
abbrev Told : List ℕ → (List (LaneKey × ℕ) → List ℕ) → Outcome → Type 0
Told out now o = AsAnswered o.1.0 o.0 out (now o.0)

-- nothing is handed out, and nothing written
module _ (out : List ℕ) (now : List (LaneKey × ℕ) → List ℕ) (same : now [] ≡ out) where
  refused_told : (s : State) (n : Refusal) → Told out now ([], (Refused n, s))
  unfolding Tells Writes
  refused_told s n = record { tells = refl; writes = same }

  nothing_taken_told : (s : State) → Told out now (nothing_taken s)
  unfolding Tells Writes nothing_taken empty_or_drained
  nothing_taken_told s = go (leb 1 (living_senders s)) (leb 1 (registered_lanes (retire_empty_paused_lanes (from 0 s.issued) s)))
    where
      go : (b c : Bool) → Told out now (if b (says Empty s) (says (if c Empty Disconnected) (retire_empty_paused_lanes (from 0 s.issued) s)))
      go true c = record { tells = refl; writes = same }
      go false true = record { tells = refl; writes = same }
      go false false = record { tells = refl; writes = same }

-- receives of one item are lent no output
module _ (out : List ℕ) where
  answer_one_told : (l : List (LaneKey × ℕ)) (s : State) → Told out (λ l. out) (answer_one l s)
  unfolding Tells Writes answer_one
  answer_one_told [] s = nothing_taken_told out (λ l. out) refl s
  answer_one_told (g ∷ l) s = record { tells = refl; writes = refl }

  take_from_told : (l : List ℕ) (x : ℕ) (s : State) → Told out (λ l. out) (take_from l x s)
  unfolding Tells Writes take_from
  take_from_told [] x s = go (s.slot_of x).living
    where
      go : (b : Bool) → AsAnswered (if b Empty Disconnected) [] out out
      go true = record { tells = refl; writes = refl }
      go false = record { tells = refl; writes = refl }
  take_from_told (v ∷ vs) x s = record { tells = refl; writes = refl }

-- a batch has no more items than its limit
pub take_up_to_most : (m : ℕ) (s : State) → length (take_up_to m s).0 ≤ m
unfolding take_up_to and_more
take_up_to_most zero s = omega arith
take_up_to_most (suc m) s = go (take_one s).0 (take_one s).1 (take_up_to_most m (take_one s).1)
  where
    go : (l : List (LaneKey × ℕ)) (u : State) → length (take_up_to m u).0 ≤ m → length (and_more l u (take_up_to m u)).0 ≤ suc m
    go [] u h = omega arith
    go (g ∷ l) u h = omega arith

first_written_lem : (l : List (LaneKey × ℕ)) (b : List ℕ) → take (length l) (map (λ g. g.1) l ++ b) ≡ map (λ g. g.1) l
first_written_lem [] b = refl
first_written_lem (g ∷ l) b = ap (λ (i : List ℕ). g.1 ∷ i) (first_written_lem l b)

after_written : (l : List (LaneKey × ℕ)) (b : List ℕ) → drop (length l) (map (λ g. g.1) l ++ b) ≡ b
after_written [] b = refl
after_written (g ∷ l) b = after_written l b

written_in_order : (l : List (LaneKey × ℕ)) (out : List ℕ) → length l ≤ length out → OutputInOrder (length l) l out (written_to l out)
unfolding written_to
written_in_order l out h = record {
  first_words = first_written_lem l (drop (length l) out);
  other_words = after_written l (drop (length l) out);
  same_length = omega (arith, length-append (map (λ g. g.1) l) (drop (length l) out), length-map l (λ g. g.1), length-drop (length l) out);
}

written_none : (out : List ℕ) → written_to [] out ≡ out
unfolding written_to
written_none out = refl

answer_items_told : (out : List ℕ) (m : ℕ) (l : List (LaneKey × ℕ)) (s : State) → length l ≤ length out → Told out (λ l. written_to l out) (answer_items m l s)
unfolding Tells Writes answer_items
answer_items_told out zero l s h = record { tells = refl; writes = written_in_order l out h }
answer_items_told out (suc m) [] s h = nothing_taken_told out (λ l. written_to l out) (written_none out) s
answer_items_told out (suc m) (g ∷ l) s h = record { tells = refl; writes = written_in_order (g ∷ l) out h }

while_told : (out : List ℕ) (b m : ℕ) (s : State) → m ≤ length out → let t = take_while b m s in Told out (λ l. written_to l out) (answer_while m t.0 t.1.0 (release_all t.1.1))
unfolding Tells Writes answer_while
while_told out b m s h =
    while_law (λ t es. Told out (λ l. written_to l out) (answer_while m t.0 t.1.0 (release_all t.1.1))) b m s
    (λ all. answer_items_told out m _ _ (omega (arith, h, take_up_to_most m s)))
    (λ k w. record { tells = refl; writes = written_in_order (take_up_to k s).0 out (omega (arith, h, take_up_to_most m s, w.all_there, w.fewer)) })

pub hands_as_answered : HandsAsAnswered the_rules
unfolding HandsAsAnswered HasRoom outcome receive_outcome output_after try_recv try_recv_fair try_recv_from try_recv_batch_into try_recv_batch_into_while
hands_as_answered s TryRecv out h = unless_law (Told out (λ l. out)) _ s _ (refused_told out (λ l. out) refl s) (λ p. answer_one_told out _ _)
hands_as_answered s TryRecvFair out h = unless_law (Told out (λ l. out)) _ s _ (refused_told out (λ l. out) refl s) (λ p. answer_one_told out _ _)
hands_as_answered s (TryRecvFrom i) out h = unless_law (Told out (λ l. out)) _ s _ (refused_told out (λ l. out) refl s) (λ p. take_from_told out _ _ s)
hands_as_answered s (TryRecvBatchInto m n) out h =
    unless_law (Told out (λ l. written_to l out)) _ s _ (refused_told out (λ l. written_to l out) (written_none out) s)
    (λ p. answer_items_told out m _ _ (omega (arith, h, take_up_to_most m s, ltb-false n m p.1.0)))
hands_as_answered s (TryRecvBatchIntoWhile m b n) out h =
    unless_law (Told out (λ l. written_to l out)) _ s _ (refused_told out (λ l. written_to l out) (written_none out) s)
    (λ p. while_told out b m s (omega (arith, h, ltb-false n m p.1.0)))
