-- Laws of the list of kinds.
-- Assumes nothing.
use mathlib.Core.Path.{◌≡◌, refl, sym, ap, ◌∙◌, subst}
use mathlib.Core.Bool.{Bool, true, false, ◌&&◌}
use mathlib.Core.List.{List, [], ◌∷◌}
use mathlib.Core.Option.{Option, none, some}
use Prim.Native.Nat.{ℕ, zero, suc, ◌+◌, ◌*◌, ◌≤◌, ◌<◌}
use native.Mathlib.Nat.{le_of_suc-le-suc, not-suc-le-zero}
use native.Mathlib.Omega.{arith}
use lib.ListN.{length, get_elem?}
use lib.Dec.{leb}
use borrow.Author.Tests.{leb-true, lt-ltb, le-ltb, eq-eqb, ne_eqb}
use Rattle.wire_record.specs.declared.record.Record.{Record}
use Rattle.std.specs.Prelude.{Err}
use Rattle.wire_record.specs.declared.record.Unread.TheVariants.{Incomplete, Malformed}
use Rattle.wire_record.specs.Record.{Kind, kinds, most_fields, number, said, said_by, fields_of, fields_by, size, whole, parse_as, parse}

and_left : (x y : Bool) → (x && y) ≡ true → x ≡ true
and_left true y e = refl
and_left false y e = e

and_right : (x y : Bool) → (x && y) ≡ true → y ≡ true
and_right true y e = e
and_right false y e = let z : ◌≡◌ {A = ℕ} 0 1 = cc in absurd (omega arith)

-- ---- a number is listed exactly if it is below 17

past_list : (l : List Kind) (k : ℕ) → length l ≤ k → get_elem? l k ≡ none
past_list [] k h = refl
past_list (x ∷ l) zero h = absurd (not-suc-le-zero h)
past_list (x ∷ l) (suc k) h = past_list l k (le_of_suc-le-suc h)

in_list : (l : List Kind) (k : ℕ) → k < length l → get_elem? l k ≡ none → ⊥
in_list [] k h e = not-suc-le-zero h
in_list (x ∷ l) zero h e = let z : ◌≡◌ {A = ℕ} 0 1 = cc in omega arith
in_list (x ∷ l) (suc k) h e = in_list l k (le_of_suc-le-suc h) e

-- ---- the number of fields

abbrev within_most : List Kind → Bool
within_most [] = true
within_most (x ∷ l) = leb x.fields most_fields && within_most l

most_fields_lem : (l : List Kind) (k : ℕ) → within_most l ≡ true → fields_by (get_elem? l k) ≤ most_fields
most_fields_lem [] k e = omega arith
most_fields_lem (x ∷ l) zero e = leb-true x.fields most_fields (and_left (leb x.fields most_fields) (within_most l) e)
most_fields_lem (x ∷ l) (suc k) e = most_fields_lem l k (and_right (leb x.fields most_fields) (within_most l) e)

pub few_fields : (k : ℕ) → fields_of k ≤ most_fields
unfolding fields_of
few_fields k = most_fields_lem kinds k refl

-- ---- the record at the head, by the tests that the code makes

module _ (b : List ℕ) where
  cut_short : (o : Option Kind) → (o ≡ none → ⊥) → number b 0 2 ≡ 2 + 8 * fields_by o → length b < size (fields_by o) → Err Incomplete ≡ parse_as o b
  unfolding parse_as
  cut_short none f e h = absurd (f refl)
  cut_short (some k) f e h = simp (eq-eqb _ _ e, lt-ltb _ _ h)

  other_length : (o : Option Kind) → (number b 0 2 ≡ 2 + 8 * fields_by o → ⊥) → Err Malformed ≡ parse_as o b
  unfolding parse_as
  other_length none f = refl
  other_length (some k) f = simp (ne_eqb _ _ f)

  all_there : (o : Option Kind) (r : Record) → said_by o b ≡ some r → number b 0 2 ≡ 2 + 8 * fields_by o → size (fields_by o) ≤ length b → whole r (size (fields_by o)) ≡ parse_as o b
  unfolding parse_as
  all_there none r s e h = let z : ◌≡◌ {A = ℕ} 0 1 = cc in absurd (omega arith)
  all_there (some k) r s e h = simp (eq-eqb _ _ e, le-ltb _ _ h) (cc)

  pub parse_few : length b < 4 → Err Incomplete ≡ parse b
  unfolding parse
  parse_few h = simp (lt-ltb _ _ h)

  module _ {k : ℕ} (h : 4 ≤ length b) (ek : k ≡ number b 2 2) where
    from_kind : parse b ≡ parse_as (get_elem? kinds k) b
    unfolding parse
    from_kind = simp (le-ltb _ _ h, ← ek)

    pub parse_unlisted : 16 < k → Err Malformed ≡ parse b
    unfolding parse_as
    parse_unlisted l = sym (from_kind ∙ ap (λ (o : Option Kind). parse_as o b) (past_list kinds k l))

    module _ {n len : ℕ} (en : n ≡ fields_of k) (el : len ≡ number b 0 2) where
      own_length : len ≡ 2 + 8 * n → number b 0 2 ≡ 2 + 8 * fields_of k
      own_length e = sym el ∙ e ∙ ap (λ (x : ℕ). 2 + 8 * x) en

      pub parse_other_length : (len ≡ 2 + 8 * n → ⊥) → Err Malformed ≡ parse b
      unfolding fields_of
      parse_other_length f = other_length (get_elem? kinds k) (λ e. f (el ∙ e ∙ sym (ap (λ (x : ℕ). 2 + 8 * x) en))) ∙ sym from_kind

      pub parse_cut : k ≤ 16 → len ≡ 2 + 8 * n → length b < size n → Err Incomplete ≡ parse b
      unfolding fields_of
      parse_cut l e c = cut_short (get_elem? kinds k) (in_list kinds k (omega arith)) (own_length e) (subst (λ (x : ℕ). length b < size x) en c) ∙ sym from_kind

      pub parse_whole : (r : Record) → said k b ≡ some r → len ≡ 2 + 8 * n → size n ≤ length b → whole r (size n) ≡ parse b
      unfolding fields_of said
      parse_whole r s e c =
          ap (λ (x : ℕ). whole r (size x)) en
          ∙ all_there (get_elem? kinds k) r s (own_length e) (subst (λ (x : ℕ). size x ≤ length b) en c)
          ∙ sym from_kind
