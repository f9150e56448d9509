-- An input that comes in parts: the records found in the bytes so far are the first of the whole input's.
-- Assumes nothing.
use mathlib.Core.Path.{◌≡◌, refl, sym, ap, ◌∙◌}
use mathlib.Core.Bool.{cond}
use mathlib.Core.List.{List, [], ◌∷◌, ◌++◌}
use Prim.Native.Nat.{ℕ, zero, suc, ◌≤◌, ◌<◌}
use native.Mathlib.Nat.{le_refl}
use native.Mathlib.Omega.{arith}
use borrow.Author.Tests.{eq-eqb, ne_eqb}
use lib.Dec.{eqb}
use lib.ListN.{length, drop, length-drop, length-append}
use lib.Seq.{drop-append-le}
use Rattle.wire_record.specs.declared.record.Record.{Record}
use Rattle.std.specs.Prelude.{Ok, Err}
use Rattle.wire_record.specs.declared.record.Unread.TheVariants.{Incomplete, Malformed}
use Rattle.wire_record.specs.Record.{Parsed, whole, parse}
use Rattle.wire_record.specs.Stream.{Stream, no_more, and_then, stream_from, stream_in, stream, ended, malformed, Reads, none, one, and_then_all}
use Rattle.wire_record.proofs.ParseLaws.{parse_inside}
use Rattle.wire_record.proofs.MoreLaws.{whole_more, malformed_long, malformed_more}

stream_of_none : (f : ℕ) (b : List ℕ) → length b ≡ 0 → stream_in f b ≡ no_more ended
unfolding stream_in
stream_of_none zero b e = refl
stream_of_none (suc f) b e = simp (eq-eqb _ _ e)

-- more than enough changes nothing
stream_enough : (f g : ℕ) (b : List ℕ) → length b ≤ f → length b ≤ g → stream_in f b ≡ stream_in g b
unfolding stream_in
stream_enough zero g b p q = sym (stream_of_none g b (omega arith))
stream_enough (suc f) zero b p q = stream_of_none (suc f) b (omega arith)
stream_enough (suc f) (suc g) b p q =
    ap (λ (s : Stream). cond (eqb (length b) 0) (no_more ended) s) (go (parse b) refl (λ l h i. stream_enough f g l h i))
  where
    go : (x : Parsed) → parse b ≡ x → ((l : List ℕ) → length l ≤ f → length l ≤ g → stream_in f l ≡ stream_in g l) → stream_from x (λ (l : List ℕ). stream_in f l) b ≡ stream_from x (λ (l : List ℕ). stream_in g l) b
    go (Err Incomplete) e ih = refl
    go (Err Malformed) e ih = refl
    go (Ok w) e ih =
        let i = parse_inside b e in
        ap (and_then w.«record») (ih (drop w.size b) (omega (arith, i.least, i.most, length-drop w.size b)) (omega (arith, i.least, i.most, length-drop w.size b)))

step : (f : ℕ) (b : List ℕ) {r : Record} {n : ℕ} → 0 < length b → parse b ≡ whole r n → stream_in (suc f) b ≡ and_then r (stream_in f (drop n b))
unfolding stream_in
step f b h e = simp (ne_eqb (length b) 0 (λ z. omega arith), e)

pub stream_whole : (b : List ℕ) {r : Record} {n : ℕ} → parse b ≡ whole r n → stream b ≡ and_then r (stream (drop n b))
unfolding stream
stream_whole b {r} {n} e =
    let i = parse_inside b e in
    let h : 0 < length b = omega (arith, i.least, i.most) in
    stream_enough (length b) (suc (length b)) b (le_refl _) (omega arith)
    ∙ step (length b) b h e
    ∙ ap (and_then r) (stream_enough (length b) (length (drop n b)) (drop n b) (omega (arith, length-drop n b)) (le_refl _))

-- the bytes so far, and any that follow
pub reads_first : {b rest : List ℕ} {rs : List Record} → Reads b rs rest → (c : List ℕ) → stream (b ++ c) ≡ and_then_all rs (stream (rest ++ c))
reads_first none c = refl
reads_first {b} (one {r = r} {n = n} e p) c =
    stream_whole (b ++ c) (whole_more b c e)
    ∙ ap (λ (l : List ℕ). and_then r (stream l)) (drop-append-le n b c (parse_inside b e).most)
    ∙ ap (and_then r) (reads_first p c)

-- what is malformed stays so, whatever follows; and so is a beginning that nothing follows
pub stream_malformed : (b c : List ℕ) → parse b ≡ Err Malformed → stream (b ++ c) ≡ no_more malformed
unfolding stream stream_in
stream_malformed b c e =
    let h : 4 ≤ length b = malformed_long b c e in
    let m : 0 < length (b ++ c) = omega (arith, length-append b c) in
    stream_enough (length (b ++ c)) (suc (length (b ++ c))) (b ++ c) (le_refl _) (omega arith)
    ∙ simp (ne_eqb (length (b ++ c)) 0 (λ z. omega arith), malformed_more b c e)

pub stream_cut : (b : List ℕ) → 0 < length b → parse b ≡ Err Incomplete → stream b ≡ no_more malformed
unfolding stream stream_in
stream_cut b h e =
    stream_enough (length b) (suc (length b)) b (le_refl _) (omega arith)
    ∙ simp (ne_eqb (length b) 0 (λ z. omega arith), e)

-- one record more
pub reads_one_more : {b rest : List ℕ} {rs : List Record} {r : Record} {n : ℕ} → Reads b rs rest → parse rest ≡ whole r n → Reads b (rs ++ r ∷ []) (drop n rest)
reads_one_more none e = one e none
reads_one_more (one f p) e = one f (reads_one_more p e)
