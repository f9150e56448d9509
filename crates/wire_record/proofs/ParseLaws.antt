-- What a record that was found says of the bytes.
-- Assumes nothing.
use mathlib.Core.Path.{◌≡◌, refl, ap}
use mathlib.Core.Bool.{Bool, true, false, cond}
use mathlib.Core.List.{List}
use mathlib.Core.Option.{Option, none, some}
use Prim.Native.Nat.{ℕ, ◌+◌, ◌*◌, ◌≤◌}
use native.Mathlib.Omega.{arith}
use borrow.Author.Tests.{ltb-false}
use lib.Dec.{ltb, eqb}
use lib.ListN.{length}
use Rattle.wire_record.specs.declared.record.Record.{Record}
use Rattle.std.specs.Prelude.{Err}
use Rattle.wire_record.specs.declared.record.Whole.{Whole}
use Rattle.wire_record.specs.declared.record.Unread.TheVariants.{Incomplete, Malformed}
use Rattle.wire_record.specs.Record.{Kind, number, size, kind_of, whole, parse_as, parse}

-- a constructor is injective
pub same_record : {r s : Record} {n m : ℕ} → whole r n ≡ whole s m → r ≡ s
same_record {r} {s} {n} {m} e = let h : ◌≡◌ {A = Whole} (record { «record» = r; size = n }) (record { «record» = s; size = m }) = cc in ap (λ (w : Whole). w.«record») h

pub same_size : {r s : Record} {n m : ℕ} → whole r n ≡ whole s m → n ≡ m
same_size {r} {s} {n} {m} e = let h : ◌≡◌ {A = Whole} (record { «record» = r; size = n }) (record { «record» = s; size = m }) = cc in ap (λ (w : Whole). w.size) h

-- a record takes at least the four bytes of its length and kind, and no byte that is not there
pub record Inside (b : List ℕ) (n : ℕ) : Type 0 where
  pub least : 4 ≤ n
  pub most : n ≤ length b

module _ {r : Record} {n : ℕ} (b : List ℕ) where
  inside_as : (o : Option Kind) → parse_as o b ≡ whole r n → Inside b n
  unfolding parse_as
  inside_as none e = let z : ◌≡◌ {A = ℕ} 0 1 = cc in absurd (omega arith)
  inside_as (some k) e = go (eqb (number b 0 2) (2 + 8 * k.fields)) (ltb (length b) (size k.fields)) refl e
    where
      go : (x y : Bool) → ltb (length b) (size k.fields) ≡ y → cond x (cond y (Err Incomplete) (whole (k.says b) (size k.fields))) (Err Malformed) ≡ whole r n → Inside b n
      go true false l f = let q : size k.fields ≡ n = same_size f in record { least = omega arith; most = omega (arith, ltb-false (length b) (size k.fields) l) }
      go true true l f = let z : ◌≡◌ {A = ℕ} 0 1 = cc in absurd (omega arith)
      go false y l f = let z : ◌≡◌ {A = ℕ} 0 1 = cc in absurd (omega arith)

  pub parse_inside : parse b ≡ whole r n → Inside b n
  unfolding parse
  parse_inside e = go (ltb (length b) 4) e
    where
      go : (x : Bool) → cond x (Err Incomplete) (parse_as (kind_of b) b) ≡ whole r n → Inside b n
      go true f = let z : ◌≡◌ {A = ℕ} 0 1 = cc in absurd (omega arith)
      go false f = inside_as (kind_of b) f
