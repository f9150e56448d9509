-- The words simulate the rules: the rules' state is read off the two stores, and every call on a store in order is the rules' call.
-- So do all calls that on stores in order are the inner ones.
-- Assumes nothing.
use mathlib.Core.Path.{sym, ap, ◌∙◌}
use mathlib.Core.List.{List}
use Prim.Native.Nat.{ℕ}
use Rattle.model.specs.declared.Answer.{Answer}
use Rattle.model.specs.State.{State}
use Rattle.model.specs.Order.{InOrder}
use Rattle.model.specs.Simulation.{runs_that_fit, Simulation}
use Rattle.demands.proofs.Demand2.{opens_as}
use Rattle.store.specs.View.{view}
use Rattle.store.specs.Order.{StoreInOrder}
use Rattle.store.proofs.StoreLaws.{rings_fit}
use Rattle.refinement.specs.Runs.{StoreCalls, viewed_of, inner_calls}
use Rattle.opening.proofs.OpeningLaws.{open_answers_alike, open_view, open_in_order}
use Rattle.refinement.proofs.CallLaws.{output_alike}
use Rattle.refinement.proofs.AsInner.{AsInner, inner_as_inner, words_alike, words_keep, handed_alike}

-- a store in order shows a state in order
shows_in_order : (t r : List ℕ) → StoreInOrder t r → InOrder (view t r)
shows_in_order t r o = record { ordered = o.ordered; rings_fit = rings_fit t r o.stores o.ordered }

pub simulates : (M : StoreCalls) → AsInner M → Simulation (viewed_of M)
unfolding runs_that_fit
simulates M i = record {
  opens_alike = λ o w. open_answers_alike o w.0 w.1;
  opens_view = λ o w d. open_view o w.0 w.1 d ∙ sym (opens_as o _);
  opens_ok = λ o w calls f d. open_in_order o w.0 w.1 f d;
  shows_in_order = λ w k. shows_in_order w.0 w.1 k;
  answers_alike = λ w c k. ap (λ (z : Answer × State). z.0) (words_alike M i w.0 w.1 k c);
  leaves_alike = λ w c k. ap (λ (z : Answer × State). z.1) (words_alike M i w.0 w.1 k c);
  hands_alike = λ w c k. handed_alike M i w.0 w.1 k c;
  output_alike = λ w c out room k. i.same_output w.0 w.1 k c out ∙ output_alike w.0 w.1 k c out room;
  keeps_ok = λ w c k. words_keep M i w.0 w.1 k c;
}

pub stores_simulate : Simulation (viewed_of inner_calls)
stores_simulate = simulates inner_calls inner_as_inner
