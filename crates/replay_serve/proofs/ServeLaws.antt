-- Laws of records one after the other, of turns and of runs of turns.
-- Assumes nothing.
use mathlib.Core.Path.{◌≡◌, refl, sym, ap, ◌∙◌, subst}
use mathlib.Core.List.{List, [], ◌∷◌, ◌++◌, append-nil, append_assoc}
use Prim.Native.Nat.{ℕ, ◌+◌, ◌-◌, ◌≤◌, ◌<◌}
use native.Mathlib.Omega.{arith}
use lib.ListN.{length, drop, take, length-drop}
use lib.Seq.{take_all, drop-drop}
use Rattle.model.specs.declared.Answer.{Answer}
use Rattle.wire_record.specs.declared.record.Record.{Record}
use Rattle.std.specs.Prelude.{Bool, true, false, Ok, Err, is_err}
use Rattle.wire_record.specs.declared.record.Unread.TheVariants.{Incomplete, Malformed}
use Rattle.wire_record.specs.Record.{Parsed, whole, parse}
use Rattle.wire_line.specs.Text.{Puts, answer_text, longest}
use Rattle.wire_line.proofs.PutLaws.{puts_then, puts_as, puts_none}
use Rattle.wire_record.specs.Stream.{Reads}
use Rattle.wire_record.specs.Stream as Stream
use Rattle.wire_record.proofs.StreamLaws.{reads_one_more}
use Rattle.wire_record.proofs.ParseLaws.{parse_inside}
use Rattle.replay_serve.specs.declared.serve.Reached.{Reached}
use Rattle.replay_serve.specs.declared.calls.Stores.{Stores}
use Rattle.replay_serve.specs.Calls.{answered, line_of, lines_of, stores_after}
use Rattle.replay_serve.specs.Serve.{Found, answered_one, malformed_line, TurnedBy, Turned, StopsAt, last_line, Served}

-- the rest of the input, as the code lends it
pub part_all : (l : List ℕ) (at : ℕ) → take (length l - at) (drop at l) ≡ drop at l
part_all l at = take_all (length l - at) (drop at l) (omega (arith, length-drop at l))

pub found_at : {p q : Parsed} (l : List ℕ) (at : ℕ) → p ≡ parse (take (length l - at) (drop at l)) → p ≡ q → parse (drop at l) ≡ q
found_at l at e f = ap parse (sym (part_all l at)) ∙ sym e ∙ f

pub found_one : (f : Found) → false ≡ is_err f → f ≡ answered_one
found_one (Ok u) e = refl
found_one (Err x) e = cc

pub not_one : {f : Found} → is_err f ≡ true → f ≡ answered_one → ⊥
not_one e h = let z : ◌≡◌ {A = Bool} true false = sym e ∙ ap (λ (f : Found). is_err f) h in let y : ◌≡◌ {A = ℕ} 0 1 = cc in omega arith

-- ---- a turn

module _ (input : List ℕ) (at end : ℕ) (h : at ≤ length input) where
  pub turned_malformed : {text v : List ℕ} {r : ℕ} (s : Stores) → parse (drop at input) ≡ Err Malformed → Puts text end malformed_line v r → r ≤ end + longest
      → Turned input at end s s text v (record { found = Err Malformed; at = at; end = r })
  turned_malformed s e p l =
      record {
        inside = h;
        forward = λ f. (let z : ◌≡◌ {A = ℕ} 0 1 = cc in absurd (omega arith));
        room = l;
        does = rw e (refl, refl, refl, p);
      }

  pub next_inside : {r : Record} {n : ℕ} → parse (drop at input) ≡ whole r n → (at < at + n) × (at + n ≤ length input)
  next_inside e = let i = parse_inside (drop at input) e in (omega (arith, i.least), omega (arith, i.most, length-drop at input))

  pub turned_whole : {text v : List ℕ} {r n : ℕ} {x : Record} {a : Answer} {s : Stores} (u : Stores) → parse (drop at input) ≡ whole x n → ◌≡◌ {A = Answer × Stores} (a, u) (answered x s)
      → Puts text end (answer_text a u.out) v r → r ≤ end + longest
      → Turned input at end s u text v (record { found = answered_one; at = at + n; end = r })
  unfolding line_of
  turned_whole {n = n} u e b p l =
      record {
        inside = (next_inside e).1;
        forward = λ f. (next_inside e).0;
        room = l;
        does = rw e (refl, refl, ap (λ w. w.1) b, puts_as (ap (λ (w : Answer × Stores). answer_text w.0 w.1.out) b) p);
      }

-- ---- one record more

stores_one_more : (rs : List Record) (r : Record) (s : Stores) → stores_after (rs ++ r ∷ []) s ≡ (answered r (stores_after rs s)).1
unfolding stores_after
stores_one_more [] r s = refl
stores_one_more (x ∷ rs) r s = stores_one_more rs r (answered x s).1

lines_one_more : (rs : List Record) (r : Record) (s : Stores) → lines_of (rs ++ r ∷ []) s ≡ lines_of rs s ++ line_of r (stores_after rs s)
unfolding stores_after lines_of
lines_one_more [] r s = append-nil (line_of r s)
lines_one_more (x ∷ rs) r s = ap (λ (l : List ℕ). line_of x s ++ l) (lines_one_more rs r (answered x s).1) ∙ sym (append_assoc (line_of x s) _ _)

-- ---- the loop of `serve`

pub record Serving (input : List ℕ) (from : ℕ) (s u : Stores) (text v : List ℕ) (at end : ℕ) : Type 0 where
  pub inside : at ≤ length input
  pub room : end + longest ≤ 65536
  pub records : List Record
  pub reads : Reads (drop from input) records (drop at input)
  pub stores : u ≡ stores_after records s
  pub put : Puts text 0 (lines_of records s) v end

pub serving_start : (input : List ℕ) (from : ℕ) (s : Stores) (text : List ℕ) → from ≤ length input → Serving input from s s text text from 0
unfolding stores_after lines_of
serving_start input from s text h = record { inside = h; room = omega arith; records = []; reads = Stream.none; stores = refl; put = puts_none text 0 }

puts_at : {t l v x : List ℕ} {a b c : ℕ} → x ≡ v → c ≡ b → Puts t a l v b → Puts t a l x c
puts_at {t} {l} {v} {x} {a} {b} {c} e f p = subst (λ (j : ℕ). Puts t a l x j) (sym f) (subst (λ (y : List ℕ). Puts t a l y b) (sym e) p)

reads_to : (input : List ℕ) {b : List ℕ} {at i : ℕ} {rs : List Record} → i ≡ at → Reads b rs (drop at input) → Reads b rs (drop i input)
reads_to input {b} {rs = rs} e p = subst (λ (j : ℕ). Reads b rs (drop j input)) (sym e) p

stops_as : (input : List ℕ) (end : ℕ) {at i : ℕ} {f q : Found} → f ≡ q → i ≡ at → StopsAt q (parse (drop at input)) end → StopsAt f (parse (drop i input)) end
stops_as input end {at} {i} {f} {q} e h p = subst (λ (j : ℕ). StopsAt f (parse (drop j input)) end) (sym h) (subst (λ (g : Found). StopsAt g (parse (drop at input)) end) (sym e) p)

-- the records so far and the one that the turn found
module _ {input : List ℕ} {from : ℕ} {s u : Stores} {text v : List ℕ} {at end : ℕ} {r : Record} {n : ℕ} (g : Serving input from s u text v at end) (e : parse (drop at input) ≡ whole r n) where
  more_read : {to : ℕ} → to ≡ at + n → Reads (drop from input) (g.records ++ r ∷ []) (drop to input)
  more_read f = reads_to input f (subst (λ (l : List ℕ). Reads (drop from input) (g.records ++ r ∷ []) l) (drop-drop n at input) (reads_one_more g.reads e))

  more_stored : {w : Stores} → w ≡ (answered r u).1 → w ≡ stores_after (g.records ++ r ∷ []) s
  more_stored f = f ∙ ap (λ (y : Stores). (answered r y).1) g.stores ∙ sym (stores_one_more g.records r s)

  more_put : {x : List ℕ} {last : ℕ} → Puts v end (line_of r u) x last → Puts text 0 (lines_of (g.records ++ r ∷ []) s) x last
  more_put p = puts_as (ap (λ (y : Stores). lines_of g.records s ++ line_of r y) g.stores ∙ sym (lines_one_more g.records r s)) (puts_then g.put p)

module _ {input : List ℕ} {from : ℕ} {s u w : Stores} {text v x : List ℕ} {at end : ℕ} (t : Reached) (g : Serving input from s u text v at end) (k : Turned input at end u w v x t) where
  pub serving_more : t.found ≡ answered_one → t.end + longest ≤ 65536 → Serving input from s w text x t.at t.end
  serving_more f l = go (parse (drop at input)) refl k.does
    where
      go : (p : Parsed) → parse (drop at input) ≡ p → TurnedBy p at end u w v x t → Serving input from s w text x t.at t.end
      go (Err Incomplete) e d = let z : ◌≡◌ {A = ℕ} 0 1 = cc d.0 in absurd (omega arith)
      go (Err Malformed) e d = let z : ◌≡◌ {A = ℕ} 0 1 = cc d.0 in absurd (omega arith)
      go (Ok w) e d = record { inside = k.inside; room = l; records = g.records ++ w.«record» ∷ []; reads = more_read g e d.1; stores = more_stored g e d.2; put = more_put g e d.3 }

  -- a turn ends the run: it answered nothing, or there is no room for one more line
  pub served_to : (t.found ≡ answered_one → 65536 < t.end + longest) → Served input from s w text x t
  served_to full = go (parse (drop at input)) refl k.does
    where
      go : (p : Parsed) → parse (drop at input) ≡ p → TurnedBy p at end u w v x t → Served input from s w text x t
      go (Err Incomplete) e d =
          record {
            inside = k.inside;
            room = omega (arith, k.room, g.room);
            records = g.records;
            reads = reads_to input d.1 g.reads;
            stores = d.3 ∙ g.stores;
            stops = stops_as input t.end d.0 d.1 e;
            put = puts_as (sym (append-nil (lines_of g.records s)) ∙ ap (λ (f : Found). lines_of g.records s ++ last_line f) (sym d.0)) (puts_at d.4 d.2 g.put);
          }
      go (Err Malformed) e d =
          record {
            inside = k.inside;
            room = omega (arith, k.room, g.room);
            records = g.records;
            reads = reads_to input d.1 g.reads;
            stores = d.2 ∙ g.stores;
            stops = stops_as input t.end d.0 d.1 e;
            put = puts_as (ap (λ (f : Found). lines_of g.records s ++ last_line f) (sym d.0)) (puts_then g.put d.3);
          }
      go (Ok w) e d =
          record {
            inside = k.inside;
            room = omega (arith, k.room, g.room);
            records = g.records ++ w.«record» ∷ [];
            reads = more_read g e d.1;
            stores = more_stored g e d.2;
            stops = subst (λ (f : Found). StopsAt f (parse (drop t.at input)) t.end) (sym d.0) (full d.0);
            put = puts_as (sym (append-nil (lines_of (g.records ++ w.«record» ∷ []) s)) ∙ ap (λ (f : Found). lines_of (g.records ++ w.«record» ∷ []) s ++ last_line f) (sym d.0)) (more_put g e d.3);
          }
