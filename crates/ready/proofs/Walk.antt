-- A loop that takes the set bits of a word lowest first, by trailing zeros and `w & (w - 1)`, is a fold over the list of set bits.
-- `Walk f Q p t₀ w₀ t w` is its invariant: with the table t₀ and the word w₀ at its start and t and w now, what is left to do gives
-- what was to be done, and every bit left is a place with Q.
-- Assumes nothing.
use mathlib.Core.Path.{◌≡◌, refl, sym, ap, ◌∙◌, subst}
use mathlib.Core.List.{List, ◌∷◌, foldl}
use Prim.Native.Nat.{ℕ, ◌+◌, ◌-◌, ◌^◌, ◌<◌}
use native.Mathlib.Nat.{pos_of_ne-zero}
use native.Mathlib.Omega.{arith}
use lib.Bits.{bit_and}
use lib.Count.{count_trailing_zeros}
use Rattle.queues.specs.Header.{Shaped}
use Rattle.queues.specs.Queue.{QueueNames}
use Rattle.ready.specs.Bits.{bits_from}
use Rattle.ready.proofs.BitLaws.{bits_next, bits_zero, clear_less, Each, both}
use Rattle.ready.proofs.CollectLaws.{Kept, kept_self, kept_then}

pub record Walk (f : List ℕ → ℕ → List ℕ) (Q : ℕ → Type 0) (p : ℕ) (t₀ : List ℕ) (w₀ : ℕ) (t : List ℕ) (w : ℕ) : Type 0 where
  pub kept : Kept t₀ t
  pub fits : w < 2 ^ 64
  pub each : Each Q (bits_from 64 p w)
  pub same : foldl f t (bits_from 64 p w) ≡ foldl f t₀ (bits_from 64 p w₀)

first : {Q : ℕ → Type 0} {x : ℕ} {l : List ℕ} → Each Q (x ∷ l) → Q x
first (both h r) = h

rest : {Q : ℕ → Type 0} {x : ℕ} {l : List ℕ} → Each Q (x ∷ l) → Each Q l
rest (both h r) = r

module _ {f : List ℕ → ℕ → List ℕ} {Q : ℕ → Type 0} {p : ℕ} {t₀ : List ℕ} {w₀ : ℕ} where
  pub walk_start : Shaped t₀ → QueueNames t₀ → w₀ < 2 ^ 64 → Each Q (bits_from 64 p w₀) → Walk f Q p t₀ w₀ t₀ w₀
  walk_start s q l e = record { kept = kept_self t₀ s q; fits = l; each = e; same = refl }

  module _ {t : List ℕ} {w : ℕ} (k : Walk f Q p t₀ w₀ t w) where
    -- the next place
    pub walk_place : (w ≡ 0 → ⊥) → Q (p + count_trailing_zeros 64 w)
    walk_place n = first (subst (Each Q) (bits_next 64 p w (pos_of_ne-zero n) k.fits) k.each)

    pub walk_next : ((t : List ℕ) (x : ℕ) → Shaped t → QueueNames t → Kept t (f t x)) → (t' : List ℕ) → (w ≡ 0 → ⊥)
        → t' ≡ f t (p + count_trailing_zeros 64 w) → Walk f Q p t₀ w₀ t' (bit_and w (w - 1))
    walk_next keeps t' n e =
        let h : 0 < w = pos_of_ne-zero n in
        let next = bits_next 64 p w h k.fits in
        record {
          kept = subst (Kept t₀) (sym e) (kept_then k.kept (keeps t (p + count_trailing_zeros 64 w) k.kept.shaped k.kept.names));
          fits = omega (arith, clear_less w h, k.fits);
          each = rest (subst (Each Q) next k.each);
          same = ap (λ (x : List ℕ). foldl f x (bits_from 64 p (bit_and w (w - 1)))) e ∙ sym (ap (foldl f t) next) ∙ k.same;
        }

    pub walk_end : w ≡ 0 → t ≡ foldl f t₀ (bits_from 64 p w₀)
    walk_end e = ap (foldl f t) (sym (ap (bits_from 64 p) e ∙ bits_zero 64 p)) ∙ k.same
