-- What holds of what every kind says holds of a record that was read from bytes: a batch has the room that it is lent, and numbers are u64.
-- Assumes nothing.
use mathlib.Core.Path.{◌≡◌, refl, subst}
use mathlib.Core.Bool.{Bool, true, false, cond}
use mathlib.Core.List.{List, [], ◌∷◌}
use mathlib.Core.Option.{Option, none, some}
use Prim.Native.Nat.{ℕ, zero, suc, ◌+◌, ◌*◌, ◌^◌, ◌<◌}
use native.Mathlib.Omega.{arith}
use lib.Dec.{ltb, eqb}
use lib.ListN.{length, get_or, get_elem?}
use Rattle.model.specs.Lists.{Each}
use Rattle.model.specs.Simulation.{numbers_of_id, numbers_of_call, Fits}
use Rattle.wire_record.specs.declared.record.Record.{Record}
use Rattle.std.specs.Prelude.{Err}
use Rattle.wire_record.specs.declared.record.Unread.TheVariants.{Incomplete, Malformed}
use Rattle.wire_record.specs.Record.{Kind, kinds, number, field, size, kind_of, whole, parse_as, parse}
use Rattle.wire_record.proofs.ParseLaws.{same_record}
use Rattle.replay_serve.specs.Calls.{lent_call}
use Rattle.replay_serve.specs.Program.{RecordFits}

listed : (P : Kind → Type 0) (l : List Kind) → Each P l → (i : ℕ) {k : Kind} → get_elem? l i ≡ some k → P k
unfolding Each
listed P [] u i e = let z : ◌≡◌ {A = ℕ} 0 1 = cc in absurd (omega arith)
listed P (k ∷ l) (p, u) zero e = subst P (cc e) p
listed P (k ∷ l) (p, u) (suc i) e = listed P l u i e

module _ (P : Record → Type 0) (b : List ℕ) (all : Each (λ k. P (k.says b)) kinds) {r : Record} {n : ℕ} where
  said_as : (o : Option Kind) → kind_of b ≡ o → parse_as o b ≡ whole r n → P r
  unfolding parse_as
  said_as none f e = let z : ◌≡◌ {A = ℕ} 0 1 = cc in absurd (omega arith)
  said_as (some k) f e = go (eqb (number b 0 2) (2 + 8 * k.fields)) (ltb (length b) (size k.fields)) e
    where
      go : (x y : Bool) → cond x (cond y (Err Incomplete) (whole (k.says b) (size k.fields))) (Err Malformed) ≡ whole r n → P r
      go true false g = let q : k.says b ≡ r = same_record g in subst P q (listed (λ k. P (k.says b)) kinds all (number b 2 2) f)
      go true true g = let z : ◌≡◌ {A = ℕ} 0 1 = cc in absurd (omega arith)
      go false y g = let z : ◌≡◌ {A = ℕ} 0 1 = cc in absurd (omega arith)

  read_as : parse b ≡ whole r n → P r
  unfolding parse
  read_as e = go (ltb (length b) 4) e
    where
      go : (x : Bool) → cond x (Err Incomplete) (parse_as (kind_of b) b) ≡ whole r n → P r
      go true f = let z : ◌≡◌ {A = ℕ} 0 1 = cc in absurd (omega arith)
      go false f = said_as (kind_of b) refl f

-- ---- the room that a batch is lent

abbrev pub Lends : Record → Type 0
Lends (Record.Open o) = Unit {0}
Lends (Record.Call c) = lent_call c ≡ c

kinds_lend : (b : List ℕ) → Each (λ k. Lends (k.says b)) kinds
unfolding Each
kinds_lend b = (tt, (refl, (refl, (refl, (refl, (refl, (refl, (refl, (refl, (refl, (refl, (refl, (refl, (refl, (refl, (refl, (refl, tt)))))))))))))))))

pub record_lends : (b : List ℕ) {r : Record} {n : ℕ} → parse b ≡ whole r n → Lends r
record_lends b e = read_as Lends b (kinds_lend b) e

-- ---- numbers that fit

-- the numbers of n bytes are below this
bound : ℕ → ℕ
bound zero = 1
bound (suc n) = 256 * bound n

byte_fits : (b : List ℕ) → Each (λ x. x < 256) b → (i : ℕ) → get_or b i 0 < 256
unfolding Each
byte_fits [] u i = omega arith
byte_fits (x ∷ b) (p, u) zero = p
byte_fits (x ∷ b) (p, u) (suc i) = byte_fits b u i

number_fits : (b : List ℕ) → Each (λ x. x < 256) b → (n i : ℕ) → number b i n < bound n
unfolding number bound
number_fits b u zero i = omega arith
number_fits b u (suc n) i = omega (arith, byte_fits b u i, number_fits b u n (i + 1))

module _ (b : List ℕ) (u : Each (λ x. x < 256) b) where
  field_fits : (j : ℕ) → field b j < 2 ^ 64
  unfolding bound
  field_fits j = number_fits b u 8 (4 + 8 * j)

  kinds_fit : Each (λ k. RecordFits (k.says b)) kinds
  unfolding Each Fits numbers_of_call numbers_of_id
  kinds_fit =
      let f = field_fits 0 in
      let g = field_fits 1 in
      let h = field_fits 2 in
      let k = field_fits 3 in (
        (f, (g, (h, (k, (field_fits 4, (field_fits 5, tt)))))),
        ((f, tt), ((f, (g, (h, tt))), ((f, (g, (h, tt))), ((f, (g, tt)), (tt, (tt, ((f, (g, (h, (k, tt)))), ((f, (omega arith, tt)), ((f, (g, (h, (k, tt)))), ((f, (g, (h, (k, tt)))), ((f, (g, (h, (k, tt)))), (tt, (tt, (tt, (tt, ((f, (g, (omega arith, tt))), tt)))))))))))))))),
      )

  pub record_fits : {r : Record} {n : ℕ} → parse b ≡ whole r n → RecordFits r
  record_fits e = read_as RecordFits b kinds_fit e
