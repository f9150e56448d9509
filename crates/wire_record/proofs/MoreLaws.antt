-- More bytes change neither a record that was found nor what is malformed.
-- Assumes nothing.
use mathlib.Core.Path.{◌≡◌, refl, ap, ◌∙◌, subst}
use mathlib.Core.Bool.{Bool, true, false, cond}
use mathlib.Core.List.{List, [], ◌∷◌, ◌++◌}
use mathlib.Core.Option.{Option, none, some}
use Prim.Native.Nat.{ℕ, zero, suc, ◌+◌, ◌*◌, ◌≤◌, ◌<◌}
use native.Mathlib.Omega.{arith}
use borrow.Author.Tests.{ltb-false, eqb-true, le-ltb, eq-eqb}
use lib.Dec.{ltb, eqb}
use lib.ListN.{length, get_elem?, drop, length-append, get_or-append}
use Rattle.model.specs.declared.LaneId.{LaneId}
use Rattle.model.specs.declared.ReceiveCall.TheVariants.{TryRecvFrom}
use Rattle.model.specs.declared.ControlCall.TheVariants.{Pause, Resume, CloseLane}
use Rattle.model.specs.declared.Call.TheVariants.{Receive, Control}
use Rattle.wire_record.specs.declared.record.Record.{Record}
use Rattle.wire_record.specs.declared.record.Record.TheVariants.{Call}
use Rattle.std.specs.Prelude.{Err}
use Rattle.wire_record.specs.declared.record.Unread.TheVariants.{Incomplete, Malformed}
use Rattle.wire_record.proofs.ParseLaws.{same_record, same_size}
use Rattle.wire_record.specs.Record.{Kind, kinds, number, field, id, size, kind_of, whole, parse_as, parse}

number_more : (b c : List ℕ) (i n : ℕ) → i + n ≤ length b → number (b ++ c) i n ≡ number b i n
unfolding number
number_more b c i zero h = refl
number_more b c i (suc n) h = cc (get_or-append b c 0 i (omega arith), number_more b c (i + 1) n (omega arith))

-- ---- what a kind says goes by its fields alone

abbrev ByFields : Kind → Type 0
ByFields k = (b d : List ℕ) → ((j : ℕ) → j < k.fields → field b j ≡ field d j) → k.says b ≡ k.says d

abbrev AllByFields : List Kind → Type 0
AllByFields [] = Unit {0}
AllByFields (k ∷ l) = ByFields k × AllByFields l

says_at : (l : List Kind) (i : ℕ) (k : Kind) → AllByFields l → get_elem? l i ≡ some k → ByFields k
says_at [] i k a e = let z : ◌≡◌ {A = ℕ} 0 1 = cc in absurd (omega arith)
says_at (x ∷ l) zero k a e = let q : x ≡ k = cc in subst ByFields q a.0
says_at (x ∷ l) (suc i) k a e = says_at l i k a.1 e

-- a lane id goes by its four fields
id_by_fields : (b d : List ℕ) → ((j : ℕ) → j < 4 → field b j ≡ field d j) → id b ≡ id d
id_by_fields b d f =
    λ z. record {
      channel = record { id = f 0 (omega arith) z; opening = f 3 (omega arith) z };
      key = record { slot = f 1 (omega arith) z; generation = f 2 (omega arith) z };
    }

-- kinds 12 to 16, 9 to 11, 5 to 8, and all
last_by_fields : AllByFields (drop 12 kinds)
last_by_fields = (λ b d f. refl, (λ b d f. refl, (λ b d f. refl, (λ b d f. refl, (λ b d f. cc (f 0 (omega arith), f 1 (omega arith)), tt)))))

controls_by_fields : AllByFields (drop 9 kinds)
controls_by_fields = (
  λ b d f. ap (λ (i : LaneId). Call (Control (Pause i))) (id_by_fields b d f),
  (
    λ b d f. ap (λ (i : LaneId). Call (Control (Resume i))) (id_by_fields b d f),
    (λ b d f. ap (λ (i : LaneId). Call (Control (CloseLane i))) (id_by_fields b d f), last_by_fields),
  ),
)

receives_by_fields : AllByFields (drop 5 kinds)
receives_by_fields = (λ b d f. refl, (λ b d f. refl, (λ b d f. ap (λ (i : LaneId). Call (Receive (TryRecvFrom i))) (id_by_fields b d f), (λ b d f. cc (f 0 (omega arith)), controls_by_fields))))

all_by_fields : AllByFields kinds
all_by_fields = (λ b d f. cc (f 0 (omega arith), f 1 (omega arith), f 2 (omega arith), f 3 (omega arith), f 4 (omega arith), f 5 (omega arith)), (λ b d f. cc (f 0 (omega arith)), (λ b d f. cc (f 0 (omega arith), f 1 (omega arith), f 2 (omega arith)), (λ b d f. cc (f 0 (omega arith), f 1 (omega arith), f 2 (omega arith)), (λ b d f. cc (f 0 (omega arith), f 1 (omega arith)), receives_by_fields)))))

-- ---- a record that was found, taken apart and put together

record Found (b : List ℕ) (r : Record) (n : ℕ) : Type 0 where
  kind : Kind
  listed : kind_of b ≡ some kind
  own : number b 0 2 ≡ 2 + 8 * kind.fields
  there : size kind.fields ≤ length b
  says : kind.says b ≡ r
  takes : size kind.fields ≡ n

module _ {r : Record} {n : ℕ} (b : List ℕ) where
  found_as : (o : Option Kind) → kind_of b ≡ o → parse_as o b ≡ whole r n → Found b r n
  unfolding parse_as
  found_as none l e = let z : ◌≡◌ {A = ℕ} 0 1 = cc in absurd (omega arith)
  found_as (some k) l e = go (eqb (number b 0 2) (2 + 8 * k.fields)) (ltb (length b) (size k.fields)) refl refl e
    where
      go : (x y : Bool) → eqb (number b 0 2) (2 + 8 * k.fields) ≡ x → ltb (length b) (size k.fields) ≡ y → cond x (cond y (Err Incomplete) (whole (k.says b) (size k.fields))) (Err Malformed) ≡ whole r n → Found b r n
      go true false q m f = record { kind = k; listed = l; own = eqb-true _ _ q; there = ltb-false _ _ m; says = same_record f; takes = same_size f }
      go true true q m f = let z : ◌≡◌ {A = ℕ} 0 1 = cc in absurd (omega arith)
      go false y q m f = let z : ◌≡◌ {A = ℕ} 0 1 = cc in absurd (omega arith)

  parse_found : parse b ≡ whole r n → Found b r n
  unfolding parse
  parse_found e = go (ltb (length b) 4) e
    where
      go : (x : Bool) → cond x (Err Incomplete) (parse_as (kind_of b) b) ≡ whole r n → Found b r n
      go true f = let z : ◌≡◌ {A = ℕ} 0 1 = cc in absurd (omega arith)
      go false f = found_as (kind_of b) refl f

  found_parse : Found b r n → parse b ≡ whole r n
  unfolding parse parse_as
  found_parse f =
      let h : 4 ≤ length b = omega (arith, f.there) in
      simp (le-ltb _ _ h, f.listed, eq-eqb _ _ f.own, le-ltb _ _ f.there) (cc (f.says, f.takes))

module _ (b c : List ℕ) where
  kind_more : 4 ≤ length b → kind_of (b ++ c) ≡ kind_of b
  kind_more h = ap (λ (k : ℕ). get_elem? kinds k) (number_more b c 2 2 h)

  longer : length b ≤ length (b ++ c)
  longer = omega (arith, length-append b c)

  found_more : {r : Record} {n : ℕ} → Found b r n → Found (b ++ c) r n
  found_more f =
      let h : 4 ≤ length b = omega (arith, f.there) in
      record {
        kind = f.kind;
        listed = kind_more h ∙ f.listed;
        own = number_more b c 0 2 (omega arith) ∙ f.own;
        there = omega (arith, f.there, longer);
        says = says_at kinds (number b 2 2) f.kind all_by_fields f.listed (b ++ c) b (λ j l. number_more b c (4 + 8 * j) 8 (omega (arith, f.there))) ∙ f.says;
        takes = f.takes;
      }

  pub whole_more : {r : Record} {n : ℕ} → parse b ≡ whole r n → parse (b ++ c) ≡ whole r n
  whole_more e = found_parse (b ++ c) (found_more (parse_found b e))

  malformed_as : (o : Option Kind) → 4 ≤ length b → parse_as o b ≡ Err Malformed → parse_as o (b ++ c) ≡ Err Malformed
  unfolding parse_as
  malformed_as none h e = refl
  malformed_as (some k) h e = go (eqb (number b 0 2) (2 + 8 * k.fields)) (ltb (length b) (size k.fields)) refl e
    where
      go : (x y : Bool) → eqb (number b 0 2) (2 + 8 * k.fields) ≡ x → cond x (cond y (Err Incomplete) (whole (k.says b) (size k.fields))) (Err Malformed) ≡ Err Malformed → parse_as (some k) (b ++ c) ≡ Err Malformed
      go true true q f = let z : ◌≡◌ {A = ℕ} 0 1 = cc in absurd (omega arith)
      go true false q f = let z : ◌≡◌ {A = ℕ} 0 1 = cc in absurd (omega arith)
      go false y q f = simp (number_more b c 0 2 (omega arith), q)

  pub malformed_long : parse b ≡ Err Malformed → 4 ≤ length b
  unfolding parse
  malformed_long e = go (ltb (length b) 4) refl e
    where
      go : (x : Bool) → ltb (length b) 4 ≡ x → cond x (Err Incomplete) (parse_as (kind_of b) b) ≡ Err Malformed → 4 ≤ length b
      go true q f = let z : ◌≡◌ {A = ℕ} 0 1 = cc in absurd (omega arith)
      go false q f = ltb-false _ _ q

  pub malformed_more : parse b ≡ Err Malformed → parse (b ++ c) ≡ Err Malformed
  unfolding parse
  malformed_more e = go (ltb (length b) 4) refl e
    where
      go : (x : Bool) → ltb (length b) 4 ≡ x → cond x (Err Incomplete) (parse_as (kind_of b) b) ≡ Err Malformed → parse (b ++ c) ≡ Err Malformed
      go true q f = let z : ◌≡◌ {A = ℕ} 0 1 = cc in absurd (omega arith)
      go false q f =
          let h : 4 ≤ length b = ltb-false _ _ q in
          let m : 4 ≤ length (b ++ c) = omega (arith, longer) in
          simp (le-ltb _ _ m) (ap (λ (o : Option Kind). parse_as o (b ++ c)) (kind_more h) ∙ malformed_as (kind_of b) h f)
