-- Refusals 8 and 9 by the words of the table store: what the words show of a registration is what they hold.
-- Assumes nothing.
use mathlib.Core.Path.{◌≡◌, sym, ◌∙◌}
use mathlib.Core.List.{List, [], ◌∷◌}
use Prim.Native.Nat.{ℕ, ◌≤◌}
use native.Mathlib.Omega.{arith}
use borrow.Author.Tests.{eqb-true, eq-eqb}
use Rattle.model.specs.declared.Call.{Call}
use Rattle.model.specs.Lists.{Each, count}
use Rattle.model.specs.Registration.{OlderLives, RegistersInVain, EightExactly, NineExactly}
use Rattle.demands.proofs.OrderKept.{first_own, count_rest}
use Rattle.lane.specs.Table.{lane_at}
use Rattle.queues.specs.Registry.{free_of}
use Rattle.store.specs.View.{flag, slot_at, view}
use Rattle.store.specs.Order.{StoreInOrder}
use Rattle.store.proofs.ViewLaws.{slot_in}
use Rattle.refinement.specs.Runs.{StoreCalls, viewed_of}
use Rattle.refinement.specs.RegistrationOnWords.{InVain, EightByWords, NineByWords}

-- one property for another, of what stands in a list
each_as : (P Q : ℕ → Type 0) (l : List ℕ) → ((x : ℕ) → 1 ≤ count x l → P x → Q x) → Each P l → Each Q l
unfolding Each
each_as P Q [] f e = tt
each_as P Q (y ∷ l) f e = (f y (omega (arith, first_own y l)) e.0, each_as P Q l (λ x c p. f x (omega (arith, count_rest x y l)) p) e.1)

module _ (t r : List ℕ) (o : StoreInOrder t r) where
  -- a free slot's older sender
  lives_seen : (x : ℕ) → 1 ≤ count x (free_of t) → ((view t r).slot_of x).living ≡ flag (lane_at t x).living
  unfolding slot_at view
  lives_seen x c = rw (slot_in t r x ((o.ordered.each_slot x).free_issued c))

  vain_seen : (c : Call) → InVain t c → RegistersInVain (view t r) c
  unfolding view
  vain_seen c v =
      record {
        most = v.most;
        registers = v.registers;
        let_pass = record { is_open = eq-eqb _ _ v.is_open; below_most = omega (arith, o.stores.lanes_counted, v.below_most) };
        no_slot =
            record {
              older_live = each_as (λ x. (lane_at t x).living ≡ 1) (OlderLives (view t r)) (free_of t) (λ x n p. lives_seen x n ∙ eq-eqb _ _ p) v.older_live;
              all_issued = v.all_issued;
            };
      }

  vain_held : (c : Call) → RegistersInVain (view t r) c → InVain t c
  unfolding view
  vain_held c v =
      record {
        most = v.most;
        registers = v.registers;
        is_open = eqb-true _ _ v.let_pass.is_open;
        below_most = omega (arith, o.stores.lanes_counted, v.let_pass.below_most);
        older_live =
            each_as (OlderLives (view t r)) (λ x. (lane_at t x).living ≡ 1) (free_of t) (λ x n p. eqb-true _ _ (sym (lives_seen x n) ∙ p)) v.no_slot.older_live;
        all_issued = v.no_slot.all_issued;
      }

module _ (M : StoreCalls) where
  pub eight_by_words : EightExactly (viewed_of M) → EightByWords M
  unfolding EightExactly EightByWords view
  eight_by_words h t r o c =
      let k = h (t, r) o c in
      (λ e. let v = k.0 e in (vain_held t r o c v.0, v.1), λ v e. k.1 (vain_seen t r o c v) e)

  pub nine_by_words : NineExactly (viewed_of M) → NineByWords M
  unfolding NineExactly NineByWords view
  nine_by_words h t r o c =
      let k = h (t, r) o c in
      (λ e. let v = k.0 e in (vain_held t r o c v.0, v.1), λ v e. k.1 (vain_seen t r o c v) e)
