-- Laws of text that is put into a buffer piece by piece.
-- Assumes nothing.
use mathlib.Core.Path.{◌≡◌, refl, sym, ap, ◌∙◌, subst}
use mathlib.Core.List.{List, [], ◌∷◌, ◌++◌, append_assoc}
use Prim.Native.Nat.{ℕ, suc, ◌+◌, ◌-◌, ◌≤◌, ◌<◌}
use native.Mathlib.Omega.{arith}
use borrow.Rule.Slice.PartMut.{put_mid}
use lib.ListN.{length, get_or, set, take, drop, length-append, length-drop}
use lib.Seq.{sets, take-length, length-sets}
use Rattle.std.proofs.lemmas.List.{append-nil, take_more, take_all}
use Rattle.std.proofs.lemmas.List.Edits.{sets-eq}
use Rattle.std.proofs.lemmas.Slice.{put_mid-paste}
use Rattle.model.specs.declared.Answer.{Answer}
use Rattle.model.specs.declared.Answer.TheVariants.{Item, Stopped}
use Rattle.model.specs.declared.LaneId.{LaneId}
use Rattle.model.specs.Answers.{stopped, line}
use Rattle.wire_line.specs.Text.{Puts, spaced, decimal, codes, ending, answer_text}

sets_append : (t : List ℕ) (a : ℕ) (s v : List ℕ) → sets (sets t a s) (a + length s) v ≡ sets t a (s ++ v)
sets_append t a [] v = let e : a + 0 ≡ a = omega arith in ap (λ (i : ℕ). sets t i v) e
sets_append t a (x ∷ s) v =
    let e : a + suc (length s) ≡ suc a + length s = omega arith in
    ap (λ (i : ℕ). sets (sets (set t a x) (suc a) s) i v) e ∙ sets_append (set t a x) (suc a) s v

-- two texts, one after the other
pub puts_then : {t s u v w : List ℕ} {a b c : ℕ} → Puts t a s u b → Puts u b v w c → Puts t a (s ++ v) w c
puts_then {t} {s} {u} {v} {w} {a} {b} x y =
    record {
      bytes = y.bytes
          ∙ ap (λ (l : List ℕ). sets l b v) x.bytes
          ∙ ap (λ (i : ℕ). sets (sets t a s) i v) x.end
          ∙ sets_append t a s v;
      end = omega (arith, x.end, y.end, length-append s v);
      long = y.long ∙ x.long;
    }

-- the same text by another name
pub puts_as : {t s v u : List ℕ} {a b : ℕ} → s ≡ v → Puts t a s u b → Puts t a v u b
puts_as {t} {s} {v} {u} {a} {b} e p = subst (λ (l : List ℕ). Puts t a l u b) e p

pub puts_none : (t : List ℕ) (a : ℕ) → Puts t a [] t a
puts_none t a = record { bytes = refl; end = omega arith; long = refl }

-- a copy into the part of the text that is as long
pub put_copied : (t : List ℕ) (a : ℕ) (s v : List ℕ) → a + length s ≤ length t → v ≡ s → Puts t a s (put_mid a (a + length s - a) t v) (a + length s)
put_copied t a s v h e =
    let same : put_mid a (a + length s - a) t v ≡ sets t a s = put_mid-paste a _ t v s _ e (omega arith) refl ∙ ap (λ (m : List ℕ). take a t ++ m ++ drop (a + length s) t) (take-length s) ∙ sym (sets-eq s t a h) in
    record { bytes = same; end = refl; long = ap length same ∙ length-sets t a s }

-- ---- numbers with a space before each

spaced_append : (a b : List ℕ) → spaced a ++ spaced b ≡ spaced (a ++ b)
unfolding spaced
spaced_append [] b = refl
spaced_append (x ∷ a) b =
    ap (λ (l : List ℕ). codes " " ++ l) (append_assoc (decimal x) (spaced a) (spaced b) ∙ ap (λ (l : List ℕ). decimal x ++ l) (spaced_append a b))

spaced_one : (n : ℕ) → codes " " ++ decimal n ≡ spaced (n ∷ [])
unfolding spaced
spaced_one n = ap (λ (l : List ℕ). codes " " ++ l) (sym (append-nil (decimal n)))

-- the end of an array of 20, from place k on
module _ (d : List ℕ) (k : ℕ) (l : length d ≡ 20) where
  all_of_end : take (20 - k) (drop k d) ≡ drop k d
  all_of_end = take_all (20 - k) (drop k d) (omega (arith, length-drop k d))

  pub number_put : {t u w : List ℕ} {a b c : ℕ} (n : ℕ) → Puts t a (codes " ") u b → Puts u b (take (20 - k) (drop k d)) w c → drop k d ≡ decimal n → Puts t a (spaced (n ∷ [])) w c
  number_put n p q e = puts_as (spaced_one n) (puts_then p (puts_as (all_of_end ∙ e) q))

pub numbers_start : (t : List ℕ) (a : ℕ) → Puts t a (spaced []) t a
unfolding spaced
numbers_start t a = puts_none t a

pub numbers_more : {t u w : List ℕ} {a b c : ℕ} (l : List ℕ) (i : ℕ) → i < length l → Puts t a (spaced (take i l)) u b → Puts u b (spaced (get_or l i 0 ∷ [])) w c → Puts t a (spaced (take (i + 1) l)) w c
numbers_more l i h p q = puts_as (spaced_append (take i l) (get_or l i 0 ∷ []) ∙ ap spaced (sym (take_more l i 0 h))) (puts_then p q)

pub numbers_end : {t u : List ℕ} {a b : ℕ} (l : List ℕ) (i : ℕ) → Puts t a (spaced (take i l)) u b → length l ≤ i → Puts t a (spaced l) u b
numbers_end l i p h = puts_as (ap spaced (take_all i l h)) p

-- ---- whole lines

pub line_put : {t u v x word ending : List ℕ} {a b c d : ℕ} (l : List ℕ) → Puts t a word u b → Puts u b (spaced l) v c → Puts v c ending x d → Puts t a (word ++ spaced l ++ ending) x d
line_put l p q r = puts_then (puts_then p q) r

pub items_put : {t u v w x word ending : List ℕ} {a b c d e : ℕ} (k : ℕ) {l m : List ℕ} → Puts t a word u b → Puts u b (spaced (k ∷ [])) v c → Puts v c (spaced l) w d → l ≡ m → Puts w d ending x e
    → Puts t a (word ++ spaced (k ∷ m) ++ ending) x e
items_put k {m = m} p q r e s = line_put (k ∷ m) p (puts_as (spaced_append (k ∷ []) m) (puts_then q (puts_as (ap spaced e) r))) s

-- The lines of an item and of a batch that stopped. What an edit may put in the place of the numbers or of the ending is an equation of its own, which is false then.

pub item_line : {t u : List ℕ} {a b slot generation : ℕ} (n : ℕ) (lane : LaneId) (out : List ℕ) → Puts t a (codes "item" ++ spaced (n ∷ slot ∷ generation ∷ []) ++ codes "\n") u b → slot ≡ lane.key.slot → generation ≡ lane.key.generation → Puts t a (answer_text (Item n lane) out) u b
unfolding line
item_line {generation = g} n lane out p e f =
    let line_with : ℕ → ℕ → List ℕ = λ i j. codes "item" ++ spaced (n ∷ i ∷ j ∷ []) ++ codes "\n" in
    puts_as (ap (λ (i : ℕ). line_with i g) e ∙ ap (line_with lane.key.slot) f) p

pub stopped_line : {t u e : List ℕ} {a b : ℕ} (n : ℕ) (out : List ℕ) → Puts t a (codes "items" ++ spaced (n ∷ take n out) ++ e) u b → e ≡ ending (stopped ∷ []) → Puts t a (answer_text (Stopped n) out) u b
unfolding line
stopped_line n out p q = puts_as (ap (λ (l : List ℕ). codes "items" ++ spaced (n ∷ take n out) ++ l) q) p

-- the line of an answer that is known
pub line_of : {t u : List ℕ} {a b : ℕ} (out : List ℕ) {x y : Answer} → x ≡ y → Puts t a (answer_text y out) u b → Puts t a (answer_text x out) u b
line_of out e p = puts_as (ap (λ (z : Answer). answer_text z out) (sym e)) p
