-- The batch that stops, around its loop: refusals, credit given back by every lane, the answer.
-- Assumes nothing.
use mathlib.Core.Path.{◌≡◌, refl, sym, ap, ◌∙◌, subst}
use mathlib.Core.Bool.{Bool, true, false, cond}
use mathlib.Core.List.{List, [], ◌++◌}
use Prim.Native.Nat.{ℕ, zero, suc, ◌-◌, ◌<◌}
use native.Mathlib.Omega.{arith}
use borrow.Author.Tests.{ltb-false}
use lib.Dec.{eqb, ltb}
use lib.ListN.{length, length-append}
use Rattle.model.specs.declared.Answer.{Answer}
use Rattle.model.specs.declared.Answer.TheVariants.{Refused}
use Rattle.model.specs.declared.Refusal.{Refusal}
use Rattle.model.specs.Receive as rules
use Rattle.queues.specs.Header.{Shaped}
use Rattle.store.specs.Refusal.{Verdict}
use Rattle.std.specs.Prelude.{Ok, Err, Option, Some, None}
use Rattle.store.specs.Words.{unless_refused, with_rings}
use Rattle.turns.specs.Turn.{Turning}
use Rattle.turns.specs.Drained.{Idle}
use Rattle.turns.proofs.FrontLaws.{Keeps, keeps_self, keeps_then}
use Rattle.all_lanes.specs.AllLanes.{AllRefundable, release_all}
use Rattle.receive_while.specs.declared.batch_while.Drained.{Drained}
use Rattle.receive_batch.specs.Batch.{refresh_active, chunk_size, chunk_given, batch_verdict, RestsAt, handed_by}
use Rattle.receive_while.specs.While.{chunk_admitted, DrainedWhile, while_then, drained_while_within, drained_while, drain_while, answer_while, while_answer, while_words, while_hands, try_recv_batch_into_while}
use Rattle.receive_batch.proofs.LookLaws.{Searched, refresh_searched}
use Rattle.receive_batch.proofs.ChunkLaws.{chunk_least, chunk_some, chunk_filled, chunk_keeps}
use Rattle.receive_batch.proofs.DrainLaws.{chunk_handed, length_handed}
use Rattle.receive_while.proofs.WhileLaws.{admitted_most, within_next}
use Rattle.receive_batch.proofs.BatchLaws.{idle_release_all, turning_refunds}
use Rattle.receive_batch.proofs.OutputLaws.{output_none}
use Rattle.lane.specs.declared.lane.Lane.{Lane}

-- ---- what the loop leaves

admitted_keeps : (t r : List ℕ) (bound left : ℕ) (o : Option Lane × List ℕ) (more : List ℕ → ℕ → DrainedWhile) → Searched t o → ((u : List ℕ) (m : ℕ) → Turning u → Keeps u (more u m).1.1) → Keeps t (while_then o r bound left more).1.1
unfolding while_then
admitted_keeps t r bound left (None, u) more s ih = s.keeps
admitted_keeps t r bound left (Some l, u) more s ih = go (ltb k n)
  where
    n : ℕ
    n = chunk_size u left l

    k : ℕ
    k = chunk_admitted u r bound n l

    given : Keeps u (chunk_given u k l)
    given = chunk_keeps u l s.reached k (omega (arith, admitted_most u r bound n l, (chunk_least u left l).2))

    rest : DrainedWhile
    rest = more (chunk_given u k l) (left - k)

    outcome : Bool → DrainedWhile
    outcome b = cond b (true, (chunk_handed u r k l, chunk_given u k l)) (rest.0, (chunk_handed u r k l ++ rest.1.0, rest.1.1))

    go : (b : Bool) → Keeps t (outcome b).1.1
    go true = keeps_then s.keeps given
    go false = keeps_then (keeps_then s.keeps given) (ih (chunk_given u k l) (left - k) given.turning)

within_keeps : (n : ℕ) (t r : List ℕ) (bound left : ℕ) → Turning t → Keeps t (drained_while_within n t r bound left).1.1
unfolding drained_while_within
within_keeps zero t r bound left k = keeps_self t k
within_keeps (suc n) t r bound left k = go (λ u m j. within_keeps n u r bound m j) (eqb left 0)
  where
    go : ((u : List ℕ) (m : ℕ) → Turning u → Keeps u (drained_while_within n u r bound m).1.1) → (b : Bool)
        → Keeps t (cond b (false, ([], t)) (while_then (refresh_active t) r bound left (λ u m. drained_while_within n u r bound m))).1.1
    go ih true = keeps_self t k
    go ih false = admitted_keeps t r bound left (refresh_active t) (λ u m. drained_while_within n u r bound m) (refresh_searched t k) ih

pub drained_while_keeps : (t r : List ℕ) (limit bound : ℕ) → Turning t → Keeps t (drained_while t r limit bound).1.1
unfolding drained_while
drained_while_keeps t r limit bound k = within_keeps limit t r bound limit k

-- a batch that asked for items, got none and has not stopped leaves no lane queued
pub drained_while_rests : (t r : List ℕ) (limit bound : ℕ) → Turning t → (limit ≡ 0 → ⊥) → (drained_while t r limit bound).0 ≡ false → length (drained_while t r limit bound).1.0 ≡ 0 → Idle (drained_while t r limit bound).1.1
unfolding drained_while while_then
drained_while_rests t r zero bound i h s z = absurd (h refl)
drained_while_rests t r (suc limit) bound i h s z =
    let e = within_next limit t r bound (suc limit) (omega arith) in
    subst (λ (d : DrainedWhile). Idle d.1.1) (sym e)
    (go (refresh_active t) (refresh_searched t i) (ap (λ (d : DrainedWhile). d.0) (sym e) ∙ s) (ap (λ (d : DrainedWhile). length d.1.0) (sym e) ∙ z))
  where
    more : List ℕ → ℕ → DrainedWhile
    more u m = drained_while_within limit u r bound m

    go : (o : Option Lane × List ℕ) → Searched t o → (while_then o r bound (suc limit) more).0 ≡ false → length (while_then o r bound (suc limit) more).1.0 ≡ 0 → Idle (while_then o r bound (suc limit) more).1.1
    go (None, u) w s z = w.reached
    go (Some l, u) w s z = by (ltb k n) refl s z
      where
        n : ℕ
        n = chunk_size u (suc limit) l

        k : ℕ
        k = chunk_admitted u r bound n l

        rest : DrainedWhile
        rest = more (chunk_given u k l) (suc limit - k)

        outcome : Bool → DrainedWhile
        outcome b = cond b (true, (chunk_handed u r k l, chunk_given u k l)) (rest.0, (chunk_handed u r k l ++ rest.1.0, rest.1.1))

        by : (b : Bool) → ltb k n ≡ b → (outcome b).0 ≡ false → length (outcome b).1.0 ≡ 0 → Idle (outcome b).1.1
        by true e s z = absurd cc
        by false e s z =
            let some : 0 < n = chunk_some u (suc limit) l (chunk_filled u l w.reached) (omega arith) in
            absurd (omega (arith, z, some, ltb-false k n e, length-append (chunk_handed u r k l) rest.1.0, length_handed u r k l))

-- ---- the call

module _ (t r out : List ℕ) (limit bound : ℕ) where
  by_verdict : (v : Verdict) → Answer × List ℕ × List ℕ × List ℕ
  by_verdict v =
      let w = unless_refused v t r (with_rings r (while_answer t r limit bound)) in
      (w.0, w.1, w.2, rules.written_to (handed_by v (drained_while t r limit bound).1.0) out)

  is_by_verdict : try_recv_batch_into_while t r out limit bound ≡ by_verdict (batch_verdict t limit (length out))
  unfolding try_recv_batch_into_while while_words while_hands by_verdict
  is_by_verdict = refl

  pub while_refused : (why : Refusal) → batch_verdict t limit (length out) ≡ Err why → (Refused why, t, r, out) ≡ try_recv_batch_into_while t r out limit bound
  unfolding by_verdict unless_refused handed_by
  while_refused why e = sym (is_by_verdict ∙ ap by_verdict e ∙ ap (λ (o : List ℕ). (Refused why, t, r, o)) (output_none out))

  module _ (m : Drained) (u o : List ℕ) (d : (m, u, o) ≡ drain_while t r out limit bound) where
    pub while_done : (a : Answer) (v w : List ℕ) → batch_verdict t limit (length out) ≡ Ok tt → w ≡ release_all u → (a, v) ≡ answer_while limit m w → (a, v, r, o) ≡ try_recv_batch_into_while t r out limit bound
    unfolding by_verdict unless_refused handed_by while_answer drain_while
    while_done a v w e p q =
        ap (λ (z : Answer × List ℕ). (z.0, z.1, r, o)) (q ∙ ap (answer_while limit m) p)
        ∙ ap (λ (z : Drained × List ℕ × List ℕ). ((answer_while limit z.0 (release_all z.1)).0, (answer_while limit z.0 (release_all z.1)).1, r, z.2)) d
        ∙ sym (is_by_verdict ∙ ap by_verdict e)

    module _ (k : Turning t) where
      drained_is : u ≡ (drained_while t r limit bound).1.1
      unfolding drain_while
      drained_is = ap (λ (z : Drained × List ℕ × List ℕ). z.1) d

      pub while_refunds : Shaped u × AllRefundable u
      while_refunds = turning_refunds u (subst Turning (sym drained_is) (drained_while_keeps t r limit bound k).turning)

      -- what the answer asks
      pub while_rests : (w : List ℕ) → w ≡ release_all u → m.rejected ≡ false → RestsAt limit m.received w
      unfolding drain_while
      while_rests w p s z h =
          subst Idle (sym p)
          (idle_release_all u (subst Idle (sym drained_is) (drained_while_rests t r limit bound k h (ap (λ (x : Drained × List ℕ × List ℕ). x.0.rejected) (sym d) ∙ s) (ap (λ (x : Drained × List ℕ × List ℕ). x.0.received) (sym d) ∙ z))))
