-- The bytes in the buffer: what a round over them is, and what is carried from one to the next.
-- Assumes nothing.
use mathlib.Core.Bool.{Bool, true, false, cond}
use mathlib.Core.Option.{Option, none, some}
use mathlib.Core.Path.{◌≡◌, refl, sym, ap, ◌∙◌, subst}
use mathlib.Core.List.{List, [], ◌∷◌, ◌++◌}
use Prim.Native.Nat.{ℕ, zero, suc, ◌+◌, ◌-◌, ◌*◌, ◌≤◌, ◌<◌}
use native.Mathlib.Omega.{arith}
use borrow.Author.Tests.{ltb-true}
use lib.Dec.{ltb, eqb}
use lib.ListN.{length, take, drop, length-drop}
use lib.Seq.{take-add, take_at, drop-drop, length-take-le, sets-eq}
use Rattle.std.specs.List.{copy_within}
use Rattle.std.proofs.lemmas.List.{drop-take}
use Rattle.std.proofs.lemmas.List.Edits.{take-paste}
use Rattle.wire_record.specs.declared.record.Record.{Record}
use Rattle.std.specs.Prelude.{Ok, Err}
use Rattle.wire_record.specs.declared.record.Unread.TheVariants.{Incomplete, Malformed}
use Rattle.wire_record.specs.Record.{Kind, most_fields, number, size, kind_of, fields_by, fields_of, whole, parse_as, parse}
use Rattle.wire_record.specs.Stream.{Reads}
use Rattle.wire_record.proofs.KindLaws.{few_fields}
use Rattle.wire_line.specs.Text.{Puts, longest}
use Rattle.wire_line.proofs.PutLaws.{puts_as, puts_none}
use Rattle.replay_serve.specs.declared.serve.Reached.{Reached}
use Rattle.replay_serve.specs.declared.calls.Stores.{Stores}
use Rattle.replay_serve.specs.Calls.{lines_of}
use Rattle.replay_serve.specs.Serve.{Found, malformed_line, StopsAt, Served}
use Rattle.replay_serve.specs.Serve as Serve
use Rattle.replay.specs.declared.place.Next.{Next}
use Rattle.replay.specs.contracts.place.Next as Next
use denote.Enum.Bare.{same_true, sameb}
use borrow.Author.Rules.{rules}
use Rattle.replay.specs.declared.place.Next.TheVariants.{Read, Answer, End, Stop}
use Rattle.replay.specs.declared.place.Place.{Place}
use Rattle.replay.specs.Rounds.{cut_line, last_line, GoesOn, Round}
use Rattle.replay.specs.Place.{Sized, between, next_after, Received, LeftBy, Left, Finished, RoundBy, Rounded}

-- ---- what `==` says of what comes next

pub next_same : {n m : Next} → true ≡ sameb Next.the_type n m → n ≡ m
next_same e = same_true Next.the_type (search rules) _ _ (sym e)

pub next_differs : {n m : Next} → false ≡ sameb Next.the_type n m → n ≡ m → ⊥
next_differs {n} {m} e h = go m (subst (λ (x : Next). false ≡ sameb Next.the_type x m) h e)
  where
    go : (x : Next) → false ≡ sameb Next.the_type x x → ⊥
    go Read e = let z : ◌≡◌ {A = ℕ} 0 1 = cc in omega arith
    go Answer e = let z : ◌≡◌ {A = ℕ} 0 1 = cc in omega arith
    go End e = let z : ◌≡◌ {A = ℕ} 0 1 = cc in omega arith
    go Stop e = let z : ◌≡◌ {A = ℕ} 0 1 = cc in omega arith

-- ---- the text

pub puts_no_line : (text : List ℕ) {left : ℕ} → left ≡ 0 → Puts text 0 (cut_line left) text 0
puts_no_line text e = puts_as (ap cut_line (sym e)) (puts_none text 0)

pub cut_line_lem : (left : ℕ) → (left ≡ 0 → ⊥) → malformed_line ≡ cut_line left
cut_line_lem zero n = absurd (n refl)
cut_line_lem (suc k) n = refl

-- the first bytes of a text, where lines were put
put_taken_lem : {t l u : List ℕ} {r : ℕ} → Puts t 0 l u r → r ≤ length t → take r u ≡ l
put_taken_lem {t} {l} {u} {r} p h =
    let long : length l ≡ r = omega (arith, p.end) in
    ap (take r) (p.bytes ∙ sets-eq l t 0 (omega (arith, long, h))) ∙ take_at l (drop (0 + length l) t) r long

-- ---- places

pub window : (at have : ℕ) (b : List ℕ) → at ≤ have → drop at (take have b) ≡ between at have b
window at have b h = let e : have ≡ at + (have - at) = omega arith in ap (λ (k : ℕ). drop at (take k b)) e ∙ drop-take at (have - at) b

between_long : (at have : ℕ) (b : List ℕ) → have ≤ length b → length (between at have b) ≡ have - at
between_long at have b h = length-take-le (have - at) (drop at b) (omega (arith, length-drop at b))

-- what a read leaves of the bytes before it
pub between_kept : (at have : ℕ) (b d : List ℕ) → at ≤ have → take have d ≡ take have b → between at have d ≡ between at have b
between_kept at have b d h e = sym (window at have d h) ∙ ap (drop at) e ∙ window at have b h

pub between_more : (at have got : ℕ) (d : List ℕ) → at ≤ have → between at (have + got) d ≡ between at have d ++ take got (drop have d)
between_more at have got d h =
    let e : have + got - at ≡ (have - at) + got = omega arith in
    let f : at + (have - at) ≡ have = omega arith in
    ap (λ (k : ℕ). take k (drop at d)) e
    ∙ take-add (have - at) got (drop at d)
    ∙ ap (λ (l : List ℕ). between at have d ++ take got l) (drop-drop (have - at) at d ∙ ap (λ (k : ℕ). drop k d) f)

-- ---- a beginning is shorter than the longest record

module _ (b : List ℕ) where
  few : (k : Kind) → kind_of b ≡ some k → k.fields ≤ most_fields
  unfolding fields_of
  few k l = omega (arith, few_fields (number b 2 2), ap fields_by l)

  short_as : (o : Option Kind) → kind_of b ≡ o → parse_as o b ≡ Err Incomplete → length b < size most_fields
  unfolding parse_as
  short_as none l e = let z : ◌≡◌ {A = ℕ} 0 1 = cc in absurd (omega arith)
  short_as (some k) l e = go (eqb (number b 0 2) (2 + 8 * k.fields)) (ltb (length b) (size k.fields)) refl e
    where
      go : (x y : Bool) → ltb (length b) (size k.fields) ≡ y → cond x (cond y (Err Incomplete) (whole (k.says b) (size k.fields))) (Err Malformed) ≡ Err Incomplete → length b < size most_fields
      go true true m f = omega (arith, ltb-true (length b) (size k.fields) m, few k l)
      go true false m f = let z : ◌≡◌ {A = ℕ} 0 1 = cc in absurd (omega arith)
      go false y m f = let z : ◌≡◌ {A = ℕ} 0 1 = cc in absurd (omega arith)

  begun_short : parse b ≡ Err Incomplete → length b < size most_fields
  unfolding parse
  begun_short e = go (ltb (length b) 4) refl e
    where
      go : (x : Bool) → ltb (length b) 4 ≡ x → cond x (Err Incomplete) (parse_as (kind_of b) b) ≡ Err Incomplete → length b < size most_fields
      go true m f = omega (arith, ltb-true (length b) 4 m)
      go false m f = short_as (kind_of b) refl f

-- ---- a read

-- what is known of the place, by what comes next
abbrev pub TakenBy : Next → Place → Place → Type 0
TakenBy Read p q = ⊥
TakenBy Answer p q = p.have < q.have
TakenBy End p q = q.have ≡ p.have
TakenBy Stop p q = ⊥

pub record Taken (p q : Place) : Type 0 where
  pub at : q.at ≡ p.at
  pub takes : TakenBy q.next p q

pub taken_read : {p q : Place} → Received p q → Taken p q
taken_read {p} {q} r = record { at = r.at; takes = subst (λ (n : Next). TakenBy n p q) (sym r.next) (go r.size r.have) }
  where
    go : (size : ℕ) → q.have ≡ p.have + size → TakenBy (next_after size) p q
    go zero h = omega arith
    go (suc k) h = omega arith

-- ---- a round

pub left_as : (t : Reached) {have : ℕ} {b d : List ℕ} {p : Place} {f : Found} → t.found ≡ f → p.end ≡ t.end → length d ≡ length b → LeftBy f t.at have b d p → Left t have b d p
left_as t {have} {b} {d} {p} e w l r = record { end = w; long = l; does = subst (λ (f : Found). LeftBy f t.at have b d p) (sym e) r }

-- what was served, and how the program goes on
-- bytes that went to the front
pub moved : (b d : List ℕ) (at have : ℕ) → at ≤ have → have ≤ length b → d ≡ copy_within b at have 0 → take (have - at) d ≡ between at have b
moved b d at have h i e =
    let n : have - at ≡ 0 + (have - at) = omega arith in
    ap (take (have - at)) e
    ∙ ap (λ (k : ℕ). take k (copy_within b at have 0)) n
    ∙ take-paste b 0 (drop at b) (have - at) (omega arith) (omega (arith, length-drop at b))

-- too little is left for a record, so that there is room for more
pub left_room : {s u : Stores} {text v : List ℕ} {at have : ℕ} {t : Reached} (b : List ℕ) → have ≤ 65536 → Sized b → Served (take have b) at s u text v t → t.at ≤ have
    → t.found ≡ Err Incomplete → have - t.at < 65536
left_room {have = have} {t = t} b i j g k e =
    let z : parse (drop t.at (take have b)) ≡ Err Incomplete = subst (λ (f : Found). StopsAt f (parse (drop t.at (take have b))) t.end) e g.stops in
    omega (arith, begun_short (drop t.at (take have b)) z, ap length (window t.at have b k), between_long t.at have b (omega (arith, i, j)))

module _ {s u : Stores} {b d text v : List ℕ} {at have : ℕ} {t : Reached} {p : Place} (h : at ≤ have) (i : have ≤ 65536) (j : Sized b) (m : Sized text)
    (g : Served (take have b) at s u text v t) (k : t.at ≤ have) (q : Left t have b d p) where
  stays : p.at ≡ t.at → p.have ≡ have → d ≡ b → between p.at p.have d ≡ between t.at have b
  stays e f z = ap (λ (x : ℕ). between x p.have d) e ∙ ap (λ (x : ℕ). between t.at x d) f ∙ ap (between t.at have) z

  moves : p.at ≡ 0 → p.have ≡ have - t.at → take (have - t.at) d ≡ between t.at have b → between p.at p.have d ≡ between t.at have b
  moves e f z = ap (λ (x : ℕ). between x p.have d) e ∙ (let w : p.have - 0 ≡ have - t.at = omega (arith, f) in ap (λ (x : ℕ). take x d) w) ∙ z

  -- where the text was full a record was answered
  some_answered : (rs : List Record) → Puts text 0 (lines_of rs s ++ []) v t.end → 65536 < t.end + longest → 0 < length rs
  unfolding lines_of
  some_answered [] w z = absurd (omega (arith, w.end, z))
  some_answered (x ∷ rs) w z = omega arith

  round_by : (n : Next) → p.next ≡ n → between p.at p.have d ≡ between t.at have b → Puts text 0 (lines_of g.records s ++ last_line n) v t.end → GoesOn n g.records (between t.at have b)
      → Round s (between at have b) u (between p.at p.have d) (take p.end v) p.next
  round_by n e f w z =
      record {
        records = g.records;
        reads = subst (λ (l : List ℕ). Reads l g.records (between p.at p.have d)) (window at have b h) (subst (λ (l : List ℕ). Reads (drop at (take have b)) g.records l) (window t.at have b k ∙ sym f) g.reads);
        stores = g.stores;
        lines = ap (λ (x : ℕ). take x v) q.end ∙ put_taken_lem w (omega (arith, m, g.room)) ∙ ap (λ (x : Next). lines_of g.records s ++ last_line x) (sym e);
        goes = subst (λ (x : Next). GoesOn x g.records (between p.at p.have d)) (sym e) (subst (λ (l : List ℕ). GoesOn n g.records l) (sym f) z);
      }

  round_served : Round s (between at have b) u (between p.at p.have d) (take p.end v) p.next
  round_served = go t.found q.does g.put g.stops
    where
      go : (f : Found) → LeftBy f t.at have b d p → Puts text 0 (lines_of g.records s ++ Serve.last_line f) v t.end → StopsAt f (parse (drop t.at (take have b))) t.end
          → Round s (between at have b) u (between p.at p.have d) (take p.end v) p.next
      go (Err Malformed) (e, f, x, y) w z = round_by Stop e (stays f x y) w (ap parse (sym (window t.at have b k)) ∙ z)
      go (Ok o) (e, f, x, y) w z = round_by Answer e (stays f x y) w (some_answered g.records w z)
      go (Err Incomplete) (e, f, x, y) w z = round_by Read e (moves f x y) w (ap parse (sym (window t.at have b k)) ∙ z)

pub served_rounded : {s u : Stores} {b d text v : List ℕ} {place p : Place} {t : Reached} → Sized b → Sized text → Sized v
    → Served (take place.have b) place.at s u text v t → t.at ≤ place.have → Left t place.have b d p → Rounded Answer place s b u d v p
served_rounded {place = place} j m z g k q = record { sized = (q.long ∙ j, z); room = omega (arith, q.end, g.room); does = round_served place.in_buffer.0 place.in_buffer.1 j m g k q }

-- the round in which nothing came
pub last_rounded : {s : Stores} {b text v : List ℕ} {place p : Place} → Sized b → Sized text → Sized v → place.next ≡ End → Finished place text v p → Rounded place.next place s b s b v p
last_rounded {s} {b} {text} {v} {place} {p} j m z e g =
    record {
      sized = (j, z);
      room = g.room;
      does = subst (λ (n : Next). RoundBy n s (between place.at place.have b) s (between p.at p.have b) (take p.end v) p.next) (sym e) (record {
        stores = refl;
        same = ap (λ (k : ℕ). between k p.have b) g.at ∙ ap (λ (k : ℕ). between place.at k b) g.have;
        lines = put_taken_lem g.put (omega (arith, m, g.room)) ∙ ap cut_line (sym (between_long place.at place.have b (omega (arith, place.in_buffer, j))));
        stops = g.next;
      });
    }

-- any other
pub answer_rounded : {n : Next} {p q : Place} {s u : Stores} {b d text : List ℕ} → (n ≡ End → ⊥) → Rounded Answer p s b u d text q → Rounded n p s b u d text q
answer_rounded {n} {p} {q} {s} {u} {b} {d} {text} k r = record { sized = r.sized; room = r.room; does = go n k r.does }
  where
    go : (n : Next) → (n ≡ End → ⊥) → Round s (between p.at p.have b) u (between q.at q.have d) (take q.end text) q.next
        → RoundBy n s (between p.at p.have b) u (between q.at q.have d) (take q.end text) q.next
    go Read k x = x
    go Answer k x = x
    go End k x = absurd (k refl)
    go Stop k x = x
