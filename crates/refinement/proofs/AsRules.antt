-- Calls that on stores in order are the inner calls do what document 01's rules do (specs/AsRules.antt).
-- Assumes nothing.
use mathlib.Core.Path.{◌≡◌, refl, ap, ◌∙◌}
use mathlib.Core.Bool.{true}
use mathlib.Core.List.{List, [], ◌∷◌, map, tail}
use Prim.Native.Nat.{ℕ, ◌+◌, ◌-◌, ◌*◌, ◌≤◌}
use native.Mathlib.Omega.{arith}
use lib.ListN.{length}
use lib.Dec.{leb}
use borrow.Author.Tests.{leb-true, le-leb, le-ltb}
use Rattle.model.specs.declared.Opening.{Opening}
use Rattle.model.specs.declared.Call.{Call}
use Rattle.model.specs.declared.Answer.{Answer}
use Rattle.model.specs.declared.Answer.TheVariants.{Done}
use Rattle.model.specs.Lists.{both, Each}
use Rattle.model.specs.State.{State, release_batch}
use Rattle.model.specs.Outcome.{unless}
use Rattle.model.specs.Runs.{Lent, after_list, answers}
use Rattle.model.specs.Receive.{output_after}
use Rattle.model.specs.Opening.{next_power_of_two, opening_outcome}
use Rattle.model.specs.Rules.{outcome, the_rules}
use Rattle.model.specs.Simulation.{runs_that_fit}
use Rattle.model.specs.Examples.Example.{Example, opening_of, said_calls}
use Rattle.model.specs.Examples.Table.{credit_after, table}
use Rattle.model.proofs.Examples.Calls.{Found, expected, table_computed, sizes_taken, sizes_computed}
use Rattle.demands.proofs.Counting.{both_true}
use Rattle.demands.proofs.Simulation.{same_after, opened_trace, opened_after}
use Rattle.demands.proofs.Credit.{credit_after_lem}
use Rattle.yring.proofs.ReleaseLaws.{as_the_table}
use Rattle.store.specs.View.{view}
use Rattle.store.specs.Order.{StoreInOrder}
use Rattle.opening.specs.Opening.{open_store}
use Rattle.refinement.specs.Runs.{StoreCalls, lists_of, viewed_of, stores_after}
use Rattle.refinement.specs.AsRules.{lent_of, EachCallAsRules, ListsAsRules, AsExample, ExamplesOf, CreditAt, CreditOf}
use Rattle.opening.proofs.OpeningLaws.{open_answers_alike, open_view, open_in_order}
use Rattle.refinement.proofs.CallLaws.{output_alike}
use Rattle.refinement.proofs.AsInner.{AsInner, words_alike, handed_alike, stays_in_order}
use Rattle.refinement.proofs.Simulation.{simulates}
use Rattle.refinement.specs.RulesOnWords.{StaysInOrder}

module _ (M : StoreCalls) (i : AsInner M) where
  pub each_call_as_rules : EachCallAsRules M
  unfolding outcome
  each_call_as_rules = record {
    answers_and_leaves = λ t r c o. words_alike M i t r o c;
    hands_out = λ t r c o. handed_alike M i t r o c;
    writes = λ t r out c room o. i.same_output t r o c out ∙ output_alike t r o c out room;
  }

  -- ---- lists

  list_answers : (w : List ℕ × List ℕ) (cs : List Call) → StoreInOrder w.0 w.1 → answers (lists_of M) w cs ≡ answers the_rules (view w.0 w.1) cs
  unfolding answers
  list_answers w [] o = refl
  list_answers w (c ∷ cs) o =
      let sim = simulates M i in
      rw (sim.answers_alike w c o, list_answers ((lists_of M).step w c).1 cs (sim.keeps_ok w c o), sim.leaves_alike w c o)

  pub lists_as_rules : ListsAsRules M
  unfolding StaysInOrder runs_that_fit
  lists_as_rules = record {
    same_trace = λ x. opened_trace (viewed_of M) (simulates M i) x.opening (x.table, x.rings) x.accepted x.calls x.fits;
    same_state = λ x. opened_after (viewed_of M) (simulates M i) x.opening (x.table, x.rings) x.accepted x.calls x.fits;
    same_output = λ x c out room.
        let end = stores_after M x in
        (simulates M i).output_alike end c out room (stays_in_order M i x)
        ∙ ap (λ (s : State). output_after s c out) (opened_after (viewed_of M) (simulates M i) x.opening (x.table, x.rings) x.accepted x.calls x.fits);
  }

  -- ---- examples

  module _ (e : Example) (f : Found e ≡ expected e) (t r : List ℕ) (d : (open_store (opening_of e) t r).0 ≡ Done) where
    end_of : List ℕ × List ℕ
    end_of = let w = open_store (opening_of e) t r in (w.1, w.2)

    in_order : StoreInOrder end_of.0 end_of.1
    unfolding end_of opening_of
    in_order = open_in_order (opening_of e) t r (omega arith) d

    as_example : AsExample M e t r
    unfolding end_of Found expected view
    as_example = record {
      opens = d;
      calls_answer = list_answers end_of (said_calls e) in_order ∙ ap (λ (s : State). answers the_rules s (said_calls e)) (open_view (opening_of e) t r d) ∙ ap (λ (z : List Answer × ℕ). z.0) f;
      leaves_budget = ap (λ (s : State). s.budget) (same_after (viewed_of M) (simulates M i) end_of (said_calls e) in_order) ∙ ap (λ (s : State). (after_list the_rules s (said_calls e)).budget) (open_view (opening_of e) t r d) ∙ ap (λ (z : List Answer × ℕ). z.1) f;
    }

-- an opening with such sizes, lent enough, is accepted
opens_accepted : (o : Opening) (lent : Lent) → 1 ≤ o.capacity → o.capacity ≤ 65536 → 1 ≤ o.slots → o.slots ≤ 8192
    → o.slots * next_power_of_two o.capacity ≤ lent.rings → 16 * o.slots + 512 ≤ lent.table → (opening_outcome o lent).1.0 ≡ Done
unfolding opening_outcome unless
opens_accepted o lent a b c d m n =
    rw (le-ltb o.capacity 1 a, le-ltb 65536 o.capacity b, le-ltb o.slots 1 c, le-ltb 8192 o.slots d, le-ltb lent.rings (o.slots * next_power_of_two o.capacity) m, le-ltb lent.table (16 * o.slots + 512) n)

example_accepted : (e : Example) → sizes_taken e ≡ true → (t r : List ℕ) → 16 * e.slots + 512 ≤ length t → e.slots * next_power_of_two e.capacity ≤ length r
    → (open_store (opening_of e) t r).0 ≡ Done
unfolding sizes_taken opening_of
example_accepted e h t r m n =
    let p = both_true (both (leb 1 e.capacity) (leb e.capacity 65536)) (both (leb 1 e.slots) (leb e.slots 8192)) h in
    let c = both_true (leb 1 e.capacity) (leb e.capacity 65536) p.0 in
    let s = both_true (leb 1 e.slots) (leb e.slots 8192) p.1 in
    open_answers_alike (opening_of e) t r
    ∙ opens_accepted (opening_of e) (lent_of t r) (leb-true 1 e.capacity c.0) (leb-true e.capacity 65536 c.1) (leb-true 1 e.slots s.0) (leb-true e.slots 8192 s.1) n m

module _ (M : StoreCalls) (i : AsInner M) where
  examples_in : (l : List Example) → map Found l ≡ map expected l → map sizes_taken l ≡ map (λ e. true) l
      → Each (λ e. (t r : List ℕ) → 16 * e.slots + 512 ≤ length t → e.slots * next_power_of_two e.capacity ≤ length r → AsExample M e t r) l
  unfolding Each
  examples_in [] f h = tt
  examples_in (e ∷ l) f h =
      let g : Found e ≡ expected e = cc in
      let k : sizes_taken e ≡ true = cc in
      (λ t r m n. as_example M i e g t r (example_accepted e k t r m n), examples_in l (ap tail f) (ap tail h))

  pub examples_of : ExamplesOf M
  unfolding ExamplesOf
  examples_of = examples_in table table_computed sizes_computed

  -- ---- every capacity

  credit_at : (c : ℕ) → 1 ≤ c → c ≤ 65536 → CreditAt M c
  unfolding credit_after sizes_taken
  credit_at c a b =
      let C = next_power_of_two c in
      let sizes : both (both (leb 1 c) (leb c 65536)) (both (leb 1 1) (leb 1 8192)) ≡ true = rw (le-leb 1 c a, le-leb c 65536 b) in
      record {
        C = C;
        batch = release_batch C;
        entry = as_the_table c a b;
        shown = λ sent taken h k l d t r m n.
            let e = credit_after c C (release_batch C) sent taken (64 - release_batch C) in
            as_example M i e (credit_after_lem c sent taken h k l d) t r (example_accepted e sizes t r (omega arith) (omega arith));
      }

  pub credit_of : CreditOf M
  unfolding CreditOf
  credit_of = credit_at
