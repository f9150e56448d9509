-- The words for each slot of the table store: fewer refuse no opening that more accept, and no call speaks of them.
-- Assumes nothing.
use mathlib.Core.Path.{◌≡◌, refl, ap, sym, ◌∙◌}
use mathlib.Core.Bool.{Bool, true, false}
use mathlib.Core.List.{List, [], ◌∷◌, ◌++◌}
use Prim.Native.Nat.{ℕ, ◌+◌, ◌*◌, ◌≤◌}
use native.Mathlib.Nat.{mul-le-mul_right}
use native.Mathlib.Omega.{arith}
use borrow.Author.Tests.{ltb-false, le-ltb}
use lib.Dec.{ltb}
use Rattle.model.specs.declared.Opening.{Opening}
use Rattle.model.specs.declared.Call.{Call}
use Rattle.model.specs.declared.Call.TheVariants.{Sender, Receive, Control}
use Rattle.model.specs.declared.Refusal.TheVariants.{CapacityOutOfRange, SlotsOutOfRange, RingStoreShort, TableStoreShort}
use Rattle.model.specs.declared.Answer.TheVariants.{Done, Refused}
use Rattle.model.specs.Lists.{either}
use Rattle.model.specs.State.{State}
use Rattle.model.specs.Outcome.{Outcome, says, unless}
use Rattle.model.specs.Runs.{Lent, Tick, all_runs, handed, ticks, trace, after_list}
use Rattle.model.specs.Receive.{output_after}
use Rattle.model.specs.Opening.{next_power_of_two, opened_state, opening_with_rows_of, opening_outcome}
use Rattle.model.specs.Rules.{the_rules, rules_with_rows_of}
use Rattle.model.specs.RowWords.{SameWithRowsOf, AnswersAsBeforeIn, AnswersAsBefore}
use Rattle.demands.proofs.Demand2.{unless_state}

-- an opening that is accepted with m words for each slot is the same one with fewer
same_opening_lem : (n m : ℕ) → n ≤ m → (o : Opening) (lent : Lent) → (opening_with_rows_of m o lent).1.0 ≡ Done → opening_with_rows_of n o lent ≡ opening_with_rows_of m o lent
unfolding unless
same_opening_lem n m h o lent e =
    go (either (ltb o.capacity 1) (ltb 65536 o.capacity)) (either (ltb o.slots 1) (ltb 8192 o.slots)) (ltb lent.rings (o.slots * next_power_of_two o.capacity))
    (ltb lent.table (m * o.slots + 512)) refl e
  where
    by : Bool → Bool → Bool → Bool → Outcome
    by a b c d =
        unless ((a, CapacityOutOfRange) ∷ (b, SlotsOutOfRange) ∷ (c, RingStoreShort) ∷ (d, TableStoreShort) ∷ []) (opened_state o) (says Done (opened_state o))

    refused : {A : Type 0} → Refused TableStoreShort ≡ Done → A
    refused p = let z : ◌≡◌ {A = ℕ} 0 1 = cc in absurd (omega arith)

    fewer : ltb lent.table (m * o.slots + 512) ≡ false → ltb lent.table (n * o.slots + 512) ≡ false
    fewer p = le-ltb lent.table (n * o.slots + 512) (omega (arith, ltb-false lent.table (m * o.slots + 512) p, mul-le-mul_right o.slots h))

    go : (a b c d : Bool) → ltb lent.table (m * o.slots + 512) ≡ d → (by a b c d).1.0 ≡ Done → by a b c (ltb lent.table (n * o.slots + 512)) ≡ by a b c d
    go true b c d p q = refl
    go false true c d p q = refl
    go false false true d p q = refl
    go false false false true p q = refused q
    go false false false false p q = rw (fewer p)

module _ (n m : ℕ) where
  same_calls : (s : State) (cs : List Call) → trace (rules_with_rows_of n) s cs ≡ trace (rules_with_rows_of m) s cs
  unfolding trace ticks handed
  same_calls s [] = refl
  same_calls s (Sender c ∷ cs) = ap (λ (ts : List Tick). ticks the_rules s (Sender c) ++ ts) (same_calls (the_rules.step s (Sender c)).1 cs)
  same_calls s (Receive c ∷ cs) = ap (λ (ts : List Tick). ticks the_rules s (Receive c) ++ ts) (same_calls (the_rules.step s (Receive c)).1 cs)
  same_calls s (Control c ∷ cs) = ap (λ (ts : List Tick). ticks the_rules s (Control c) ++ ts) (same_calls (the_rules.step s (Control c)).1 cs)

  same_after : (s : State) (cs : List Call) → after_list (rules_with_rows_of n) s cs ≡ after_list (rules_with_rows_of m) s cs
  unfolding after_list
  same_after s [] = refl
  same_after s (c ∷ cs) = same_after (the_rules.step s c).1 cs

-- the state after an opening goes by no length
opened : (n : ℕ) (o : Opening) (lent : Lent) → (opening_with_rows_of n o lent).1.1 ≡ opened_state o
opened n o lent = unless_state _ (opened_state o) Done

-- of any two numbers of words, the fewer of them now
pub same_with_rows_of : (n m : ℕ) → n ≤ m → (o : Opening) (lent : Lent) → SameWithRowsOf m (rules_with_rows_of n) (all_runs (rules_with_rows_of n)) o lent
same_with_rows_of n m h o lent = record {
  still_accepted = λ e. ap (λ (r : Outcome). r.1.0) (same_opening_lem n m h o lent e) ∙ e;
  same_run = λ d was e calls t.
      same_calls n m (opening_with_rows_of n o lent).1.1 calls ∙ ap (λ (s : State). trace (rules_with_rows_of m) s calls) (opened n o lent ∙ sym (opened m o was));
  same_output = λ d was e calls t r out room.
      ap (λ (s : State). output_after s r out)
      (same_after n m (opening_with_rows_of n o lent).1.1 calls ∙ ap (λ (s : State). after_list (rules_with_rows_of m) s calls) (opened n o lent ∙ sym (opened m o was)));
}

pub answers_as_before : AnswersAsBefore the_rules
unfolding AnswersAsBefore AnswersAsBeforeIn opening_outcome
answers_as_before o lent = same_with_rows_of 16 24 (omega arith) o lent
