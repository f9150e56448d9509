-- A batch's output, written chunk by chunk, is the output that the rules write at once.
-- Assumes nothing.
use mathlib.Core.Path.{◌≡◌, refl, ap, sym, ◌∙◌}
use mathlib.Core.List.{List, [], ◌∷◌, ◌++◌, map}
use Prim.Native.Nat.{ℕ, ◌+◌, ◌-◌, ◌≤◌}
use native.Mathlib.Omega.{arith}
use native.Mathlib.Nat.{zero-add}
use lib.ListN.{length, drop, length-append, length-map, length-drop}
use Rattle.model.specs.declared.LaneKey.{LaneKey}
use Rattle.model.specs.Receive as rules
use Rattle.yring.specs.Lists.{written}
use Rattle.yring.proofs.ListLaws.{written_twice}

-- The words of what is handed out.
abbrev pub values_of : List (LaneKey × ℕ) → List ℕ
values_of l = map (λ g. g.1) l

values_append : (l m : List (LaneKey × ℕ)) → values_of (l ++ m) ≡ values_of l ++ values_of m
values_append [] m = refl
values_append (g ∷ l) m = ap (λ (i : List ℕ). g.1 ∷ i) (values_append l m)

-- the rules' output is the words written from place 0 on
output_written : (l : List (LaneKey × ℕ)) (out : List ℕ) → rules.written_to l out ≡ written out 0 (values_of l)
unfolding rules.written_to
output_written l out = ap (λ (n : ℕ). values_of l ++ drop n out) (sym (zero-add (length (values_of l)) ∙ length-map l (λ g. g.1)))

-- nothing is handed out yet
pub output_none : (out : List ℕ) → rules.written_to [] out ≡ out
unfolding rules.written_to
output_none out = refl

-- the words of the items m, written after those of the items l
pub output_more : (l m : List (LaneKey × ℕ)) (out : List ℕ) → length l ≤ length out → written (rules.written_to l out) (length l) (values_of m) ≡ rules.written_to (l ++ m) out
output_more l m out h =
    let n : length (values_of l) ≡ length l = length-map l (λ g. g.1) in
    let z : 0 + length (values_of l) ≡ length l = zero-add (length (values_of l)) ∙ n in
    ap (λ (o : List ℕ). written o (length l) (values_of m)) (output_written l out)
    ∙ ap (λ (k : ℕ). written (written out 0 (values_of l)) k (values_of m)) (sym z)
    ∙ written_twice out (values_of l) (values_of m) 0 (omega (arith, z, h))
    ∙ ap (written out 0) (sym (values_append l m))
    ∙ sym (output_written (l ++ m) out)

-- the output keeps its length
pub length_output : (l : List (LaneKey × ℕ)) (out : List ℕ) → length l ≤ length out → length (rules.written_to l out) ≡ length out
unfolding rules.written_to
length_output l out h =
    length-append (values_of l) (drop (length l) out) ∙ sum (length-map l (λ g. g.1)) (length-drop (length l) out) h
  where
    sum : {a b c n : ℕ} → a ≡ n → b ≡ c - n → n ≤ c → a + b ≡ c
    sum p q i = omega arith

-- the words ws of one lane, with its key k
pub values_keyed : (k : LaneKey) (ws : List ℕ) → values_of (map (λ v. (k, v)) ws) ≡ ws
values_keyed k [] = refl
values_keyed k (w ∷ ws) = ap (λ (i : List ℕ). w ∷ i) (values_keyed k ws)

pub output_chunk : (l : List (LaneKey × ℕ)) (k : LaneKey) (ws out : List ℕ) → length l ≤ length out → written (rules.written_to l out) (length l) ws ≡ rules.written_to (l ++ map (λ v. (k, v)) ws) out
output_chunk l k ws out h = ap (written (rules.written_to l out) (length l)) (sym (values_keyed k ws)) ∙ output_more l (map (λ v. (k, v)) ws) out h
