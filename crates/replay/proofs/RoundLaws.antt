-- An input that comes in parts, round by round.
-- Assumes nothing.
use mathlib.Core.Logic.{◌⊎◌, inl, inr}
use mathlib.Core.Path.{◌≡◌, refl, sym, ap, ◌∙◌, subst}
use mathlib.Core.List.{List, [], ◌∷◌, ◌++◌, append-nil, append_assoc}
use Prim.Native.Nat.{ℕ, ◌+◌, ◌*◌, ◌≤◌}
use native.Mathlib.Omega.{arith}
use lib.ListN.{length, length-append, length-drop}
use lib.Seq.{drop-append-le}
use Rattle.wire_record.specs.declared.record.Record.{Record}
use Rattle.std.specs.Prelude.{Err}
use Rattle.wire_record.specs.declared.record.Unread.TheVariants.{Incomplete, Malformed}
use Rattle.wire_record.specs.Record.{parse}
use Rattle.wire_record.specs.Stream.{Reads, Stream, and_then_all, stream, stream_in, no_more, ended, malformed}
use Rattle.wire_record.specs.Stream as Stream
use Rattle.wire_record.proofs.MoreLaws.{whole_more}
use Rattle.wire_record.proofs.ParseLaws.{parse_inside}
use Rattle.wire_record.proofs.StreamLaws.{reads_first, stream_malformed, stream_cut}
use Rattle.replay_serve.specs.declared.calls.Stores.{Stores}
use Rattle.replay_serve.specs.Calls.{answered, line_of, lines_of, stores_after, started}
use Rattle.replay_serve.specs.Serve.{malformed_line}
use Rattle.replay.specs.declared.place.Next.{Next}
use Rattle.replay.specs.declared.place.Next.TheVariants.{Read, Answer, End, Stop}
use Rattle.replay.specs.Rounds.{cut_line, last_line, GoesOn, Round, Last, Rounds, none, more, again, end}
use Rattle.replay.specs.Parts.{joined, ending_line, answers, Ended, SoFar, PartsAnswered}

-- ---- records, and records after them

reads_join : {b rest end : List ℕ} {rs qs : List Record} → Reads b rs rest → Reads rest qs end → Reads b (rs ++ qs) end
reads_join Stream.none q = q
reads_join (Stream.one e p) q = Stream.one e (reads_join p q)

-- bytes that follow
reads_more : {b rest : List ℕ} {rs : List Record} → Reads b rs rest → (c : List ℕ) → Reads (b ++ c) rs (rest ++ c)
reads_more Stream.none c = Stream.none
reads_more {rest = rest} (Stream.one {b = b} {rs = rs} {n = n} e p) c =
    Stream.one (whole_more b c e) (subst (λ (l : List ℕ). Reads l rs (rest ++ c)) (sym (drop-append-le n b c (parse_inside b e).most)) (reads_more p c))

stores_join : (rs qs : List Record) (s : Stores) → stores_after (rs ++ qs) s ≡ stores_after qs (stores_after rs s)
unfolding stores_after
stores_join [] qs s = refl
stores_join (r ∷ rs) qs s = stores_join rs qs (answered r s).1

lines_join : (rs qs : List Record) (s : Stores) → lines_of (rs ++ qs) s ≡ lines_of rs s ++ lines_of qs (stores_after rs s)
unfolding lines_of stores_after
lines_join [] qs s = refl
lines_join (r ∷ rs) qs s = ap (λ (l : List ℕ). line_of r s ++ l) (lines_join rs qs (answered r s).1) ∙ sym (append_assoc (line_of r s) _ _)

-- records take bytes
reads_shorter : {b rest : List ℕ} {rs : List Record} → Reads b rs rest → length rest + 4 * length rs ≤ length b
reads_shorter Stream.none = omega arith
reads_shorter (Stream.one {b = b} {n = n} e p) = let i = parse_inside b e in omega (arith, reads_shorter p, i.least, i.most, length-drop n b)

-- ---- parts

joined_more : (ps : List (List ℕ)) (p : List ℕ) → joined (ps ++ p ∷ []) ≡ joined ps ++ p
joined_more [] p = append-nil p
joined_more (q ∷ ps) p = ap (λ (l : List ℕ). q ++ l) (joined_more ps p) ∙ sym (append_assoc q (joined ps) p)

-- ---- what holds after each round

-- why the program stops, and its last line
abbrev Stopped : List (List ℕ) → List ℕ → List ℕ → Type 0
Stopped parts rest last = ((parse rest ≡ Err Malformed) × (last ≡ malformed_line)) ⊎ ((parse rest ≡ Err Incomplete) × (last ≡ cut_line (length rest)) × Ended parts)

abbrev Stands : Next → List (List ℕ) → List ℕ → List ℕ → Type 0
Stands Read parts rest last = (parse rest ≡ Err Incomplete) × (last ≡ [])
Stands Answer parts rest last = last ≡ []
Stands End parts rest last = ⊥
Stands Stop parts rest last = Stopped parts rest last

record Holds (parts texts : List (List ℕ)) (s : Stores) (rest : List ℕ) (n : Next) : Type 0 where
  records : List Record
  reads : Reads (joined parts) records rest
  stores : s ≡ stores_after records started
  last : List ℕ
  lines : joined texts ≡ lines_of records started ++ last
  stands : Stands n parts rest last

stands_of : (n : Next) (parts : List (List ℕ)) (rs : List Record) (rest : List ℕ) → GoesOn n rs rest → Stands n parts rest (last_line n)
stands_of Read parts rs rest g = (g, refl)
stands_of Answer parts rs rest g = refl
stands_of End parts rs rest g = g
stands_of Stop parts rs rest g = inl (g, refl)

no_last : (b : List ℕ) {a : List ℕ} → a ≡ [] → b ++ a ≡ b
no_last b e = ap (λ (l : List ℕ). b ++ l) e ∙ append-nil b

-- a round over bytes that follow those that were answered, c of which are new
module _ {parts texts : List (List ℕ)} {s u : Stores} {l rest text : List ℕ} {n : Next} (all : List (List ℕ)) (c : List ℕ) (f : joined all ≡ joined parts ++ c) where
  holds_more : {m : Next} (h : Holds parts texts s l m) → h.last ≡ [] → Round s (l ++ c) u rest text n → Holds all (texts ++ text ∷ []) u rest n
  holds_more h e r =
      record {
        records = h.records ++ r.records;
        reads = subst (λ (b : List ℕ). Reads b (h.records ++ r.records) rest) (sym f) (reads_join (reads_more h.reads c) r.reads);
        stores = r.stores ∙ ap (stores_after r.records) h.stores ∙ sym (stores_join h.records r.records started);
        last = last_line n;
        lines = joined_more texts text
            ∙ ap (λ (b : List ℕ). b ++ text) (h.lines ∙ no_last (lines_of h.records started) e)
            ∙ ap (λ (b : List ℕ). lines_of h.records started ++ b) (r.lines ∙ ap (λ (y : Stores). lines_of r.records y ++ last_line n) h.stores)
            ∙ sym (append_assoc (lines_of h.records started) _ _)
            ∙ ap (λ (b : List ℕ). b ++ last_line n) (sym (lines_join h.records r.records started));
        stands = stands_of n all r.records rest r.goes;
      }

-- the round in which nothing came
holds_last : {parts texts : List (List ℕ)} {s u : Stores} {l rest text : List ℕ} → Holds parts texts s l Read → Last s l u rest text Stop → Holds (parts ++ [] ∷ []) (texts ++ text ∷ []) u rest Stop
holds_last {parts} {texts} {s} {u} {l} {rest} {text} h r =
    record {
      records = h.records;
      reads = subst (λ (b : List ℕ). Reads b h.records rest) (sym (joined_more parts [] ∙ append-nil (joined parts))) (subst (λ (b : List ℕ). Reads (joined parts) h.records b) (sym r.same) h.reads);
      stores = r.stores ∙ h.stores;
      last = text;
      lines = joined_more texts text ∙ ap (λ (b : List ℕ). b ++ text) (h.lines ∙ no_last (lines_of h.records started) h.stands.1);
      stands = inr (ap parse r.same ∙ h.stands.0, r.lines ∙ ap (λ (b : List ℕ). cut_line (length b)) (sym r.same), record { before = parts; last = refl });
    }

holds : {k : ℕ} {parts texts : List (List ℕ)} {s : Stores} {rest : List ℕ} {n : Next} → Rounds k parts texts s rest n → Holds parts texts s rest n
unfolding stores_after lines_of parse
holds none = record { records = []; reads = Stream.none; stores = refl; last = []; lines = refl; stands = (refl, refl) }
holds (more {parts = parts} q p h r) = let g = holds q in holds_more (parts ++ p ∷ []) p (joined_more parts p) g g.stands.1 r
holds (again {parts = parts} {s = s} {u = u} {l = l} {rest = rest} {text = text} {n = n} q r) =
    let g = holds q in
    holds_more parts [] (sym (append-nil (joined parts))) g g.stands (subst (λ (b : List ℕ). Round s b u rest text n) (sym (append-nil l)) r)
holds (end {parts = parts} {texts = texts} {s = s} {u = u} {l = l} {rest = rest} {text = text} {n = n} q r) =
    subst (λ (m : Next). Holds (parts ++ [] ∷ []) (texts ++ text ∷ []) u rest m) (sym r.stops) (holds_last (holds q) (subst (λ (m : Next). Last s l u rest text m) r.stops r))

-- no round comes to the end of the input
pub no_end : {k : ℕ} {parts texts : List (List ℕ)} {s : Stores} {rest : List ℕ} → Rounds k parts texts s rest End → ⊥
no_end q = (holds q).stands

-- ---- the lines of a whole input

abbrev answers_of : Stream → Stores → List ℕ
answers_of x s = lines_of x.records s ++ ending_line x.ending

after_all : (rs : List Record) (x : Stream) (s : Stores) → answers_of (and_then_all rs x) s ≡ lines_of rs s ++ answers_of x (stores_after rs s)
unfolding lines_of stores_after
after_all [] x s = refl
after_all (r ∷ rs) x s =
    append_assoc (line_of r s) _ _
    ∙ ap (λ (l : List ℕ). line_of r s ++ l) (after_all rs x (answered r s).1)
    ∙ sym (append_assoc (line_of r s) _ _)

answers_first : {b rest : List ℕ} {rs : List Record} → Reads b rs rest → (c : List ℕ) (s : Stores) → answers (b ++ c) s ≡ lines_of rs s ++ answers (rest ++ c) (stores_after rs s)
unfolding answers
answers_first {b} {rest} {rs} p c s = ap (λ (x : Stream). answers_of x s) (reads_first p c) ∙ after_all rs (stream (rest ++ c)) s

answers_none : (b : List ℕ) (s : Stores) {e : Stream.Ending} → stream b ≡ no_more e → answers b s ≡ ending_line e
unfolding answers lines_of
answers_none b s e = ap (λ (x : Stream). answers_of x s) e

-- of an input that ends inside a record, or before one
cut_ends : (b : List ℕ) → parse b ≡ Err Incomplete → (s : Stores) → answers b s ≡ cut_line (length b)
unfolding stream stream_in
cut_ends [] e s = answers_none [] s refl
cut_ends (x ∷ b) e s = answers_none (x ∷ b) s (stream_cut (x ∷ b) (omega arith) e)

stopped_ends : {parts : List (List ℕ)} (rest : List ℕ) {last : List ℕ} → Stopped parts rest last → (c : List ℕ) → (Ended parts → c ≡ []) → (s : Stores) → answers (rest ++ c) s ≡ last
stopped_ends rest (inl (e, f)) c h s = answers_none (rest ++ c) s (stream_malformed rest c e) ∙ sym f
stopped_ends rest (inr (e, f, g)) c h s = ap (λ (b : List ℕ). answers b s) (no_last rest (h g)) ∙ cut_ends rest e s ∙ sym f

-- ---- the claims

module _ {k : ℕ} {parts texts : List (List ℕ)} {s : Stores} {rest : List ℕ} where
  whole : Rounds k parts texts s rest Stop → (c : List ℕ) → (Ended parts → c ≡ []) → joined texts ≡ answers (joined parts ++ c) started
  whole q c h =
      let g = holds q in
      g.lines
      ∙ ap (λ (l : List ℕ). lines_of g.records started ++ l) (sym (stopped_ends rest g.stands c h (stores_after g.records started)))
      ∙ sym (answers_first g.reads c started)

  so_far : {n : Next} → Rounds k parts texts s rest n → (n ≡ Stop → ⊥) → SoFar parts texts s rest n
  so_far {n} q h = go n h (holds q)
    where
      go : (n : Next) → (n ≡ Stop → ⊥) → Holds parts texts s rest n → SoFar parts texts s rest n
      go Read h g = record { records = g.records; reads = g.reads; stores = g.stores; lines = g.lines ∙ no_last (lines_of g.records started) g.stands.1; all = λ e. g.stands.0 }
      go End h g = absurd g.stands
      go Answer h g =
          record {
            records = g.records;
            reads = g.reads;
            stores = g.stores;
            lines = g.lines ∙ no_last (lines_of g.records started) g.stands;
            all = λ e. (let z : ◌≡◌ {A = ℕ} 0 1 = cc in absurd (omega arith));
          }
      go Stop h g = absurd (h refl)

  first : {n : Next} → Rounds k parts texts s rest n → (n ≡ Stop → ⊥) → (c : List ℕ) → answers (joined parts ++ c) started ≡ joined texts ++ answers (rest ++ c) s
  first q h c =
      let g = so_far q h in
      answers_first g.reads c started
      ∙ ap (λ (l : List ℕ). l ++ answers (rest ++ c) (stores_after g.records started)) (sym g.lines)
      ∙ ap (λ (y : Stores). joined texts ++ answers (rest ++ c) y) (sym g.stores)

records_all : (rs : List Record) (x : Stream) → (and_then_all rs x).records ≡ rs ++ x.records
records_all [] x = refl
records_all (r ∷ rs) x = ap (λ (l : List Record). r ∷ l) (records_all rs x)

-- no record is behind the place where the program stops
nothing_behind : {parts : List (List ℕ)} (rest : List ℕ) {last : List ℕ} → Stopped parts rest last → (stream (rest ++ [])).records ≡ []
unfolding stream stream_in
nothing_behind rest (inl (e, f)) = ap (λ (x : Stream). x.records) (stream_malformed rest [] e)
nothing_behind rest (inr (e, f, g)) = ap (λ (b : List ℕ). (stream b).records) (append-nil rest) ∙ go rest e
  where
    go : (b : List ℕ) → parse b ≡ Err Incomplete → (stream b).records ≡ []
    go [] e = refl
    go (x ∷ b) e = ap (λ (y : Stream). y.records) (stream_cut (x ∷ b) (omega arith) e)

stores_after_lem : {k : ℕ} {parts texts : List (List ℕ)} {s : Stores} {rest : List ℕ} → Rounds k parts texts s rest Stop → s ≡ stores_after (stream (joined parts)).records started
stores_after_lem {parts = parts} {rest = rest} q =
    let g = holds q in
    let all : (stream (joined parts)).records ≡ g.records =
    ap (λ (b : List ℕ). (stream b).records) (sym (append-nil (joined parts)))
    ∙ ap (λ (x : Stream). x.records) (reads_first g.reads [])
    ∙ records_all g.records (stream (rest ++ []))
    ∙ ap (λ (l : List Record). g.records ++ l) (nothing_behind rest g.stands)
    ∙ append-nil g.records
    in g.stores ∙ ap (λ (l : List Record). stores_after l started) (sym all)

-- what the rounds may be, by the bytes that came and those that are left
abbrev Few : Next → ℕ → ℕ → ℕ → Type 0
Few Read k left all = k + left ≤ 2 * all
Few Answer k left all = k + 1 + left ≤ 2 * all
Few End k left all = ⊥
Few Stop k left all = k ≤ 2 * all + 1

few_more : (k old all : ℕ) (n : Next) (c : ℕ) (rest : List ℕ) (rs : List Record) → GoesOn n rs rest → length rest + 4 * length rs ≤ old + c → k + 1 + old + c ≤ 2 * all → Few n (k + 1) (length rest) all
few_more k old all Read c rest rs g h p = omega (arith, h, p)
few_more k old all Answer c rest rs g h p = omega (arith, g, h, p)
few_more k old all End c rest rs g h p = g
few_more k old all Stop c rest rs g h p = omega (arith, h, p)

few_rounds : {k : ℕ} {parts texts : List (List ℕ)} {s : Stores} {rest : List ℕ} {n : Next} → Rounds k parts texts s rest n → Few n k (length rest) (length (joined parts))
few_rounds none = omega arith
few_rounds (more {k = k} {parts = parts} {l = l} {rest = rest} {n = n} q p h r) = few_more k (length l) (length (joined (parts ++ p ∷ []))) n (length p) rest r.records r.goes
    (omega (arith, reads_shorter r.reads, length-append l p))
    (omega (arith, few_rounds q, h, ap length (joined_more parts p), length-append (joined parts) p))
few_rounds (again {k = k} {parts = parts} {l = l} {rest = rest} {n = n} q r) = few_more k (length l) (length (joined parts)) n 0 rest r.records r.goes (omega (arith, reads_shorter r.reads)) (omega (arith, few_rounds q))
few_rounds (end {k = k} {parts = parts} {rest = rest} q r) =
    subst (λ (m : Next). Few m (k + 1) (length rest) (length (joined (parts ++ [] ∷ [])))) (sym r.stops) (omega (arith, few_rounds q, ap length (joined_more parts []), length-append (joined parts) []))

few : {k : ℕ} {parts texts : List (List ℕ)} {s : Stores} {rest : List ℕ} {n : Next} → Rounds k parts texts s rest n → k ≤ 2 * length (joined parts) + 1
few {k} {parts} {texts} {s} {rest} {n} q = go n (few_rounds q)
  where
    go : (n : Next) → Few n k (length rest) (length (joined parts)) → k ≤ 2 * length (joined parts) + 1
    go Read f = omega (arith, f)
    go Answer f = omega (arith, f)
    go End f = absurd f
    go Stop f = f

alike : {k j : ℕ} {parts others texts lines : List (List ℕ)} {s u : Stores} {rest left : List ℕ} → Rounds k parts texts s rest Stop → Rounds j others lines u left Stop
    → joined parts ≡ joined others → joined texts ≡ joined lines
alike p q e = whole p [] (λ h. refl) ∙ ap (λ (b : List ℕ). answers (b ++ []) started) e ∙ sym (whole q [] (λ h. refl))

pub parts_answered : PartsAnswered
parts_answered =
    record {
      whole = whole;
      stores = stores_after_lem;
      so_far = so_far;
      first = first;
      alike = alike;
      few = few;
    }
