-- The loop that takes a slot out of the queue: after i places the words are those kept of the first i.
-- Assumes nothing.
use mathlib.Core.Path.{◌≡◌, refl, sym, ap, ap₂, ◌∙◌}
use mathlib.Core.Bool.{Bool, true, false, cond}
use mathlib.Core.List.{List, [], ◌∷◌, ◌++◌}
use Prim.Native.Nat.{ℕ, ◌+◌, ◌≤◌, ◌<◌}
use native.Mathlib.Omega.{arith}
use borrow.Author.Tests.{eq-eqb, ne_eqb}
use lib.Dec.{eqb}
use lib.ListN.{length, length-set, length-append}
use Rattle.yring.specs.Lists.{tab, scatter}
use Rattle.lane.specs.Table.{cell_at, cell, set_cell}
use Rattle.yring.proofs.ListLaws.{tab_more, scatter_snoc, scatter_out}
use Rattle.queues.specs.Header.{Shaped, queue_count, set_queue_count}
use Rattle.queues.specs.Queue.{queue_column, queue_row, queue_of, without, requeued, remove}
use Rattle.queues.proofs.QueueLaws.{places_apart}

without_snoc : (x : ℕ) (l : List ℕ) (y : ℕ) → without x (l ++ (y ∷ [])) ≡ cond (eqb y x) (without x l) (without x l ++ (y ∷ []))
without_snoc x [] y = refl
without_snoc x (z ∷ l) y = go (eqb z x) (eqb y x) (without_snoc x l y)
  where
    go : (a b : Bool) → without x (l ++ (y ∷ [])) ≡ cond b (without x l) (without x l ++ (y ∷ []))
        → cond a (without x (l ++ (y ∷ []))) (z ∷ without x (l ++ (y ∷ [])))
        ≡ cond b (cond a (without x l) (z ∷ without x l)) (cond a (without x l) (z ∷ without x l) ++ (y ∷ []))
    go true true e = e
    go true false e = e
    go false true e = ap (λ (r : List ℕ). z ∷ r) e
    go false false e = ap (λ (r : List ℕ). z ∷ r) e

-- where the queue's place i stands
abbrev pub place_at : List ℕ → ℕ → ℕ
place_at t i = cell_at queue_column (queue_row t i)

-- what is kept of the first i
abbrev pub kept_of : List ℕ → ℕ → ℕ → List ℕ
kept_of t x i = without x (tab i (λ k. cell t queue_column (queue_row t k)))

-- after i places of t₀'s queue
pub record Sifted (t₀ : List ℕ) (x : ℕ) (t : List ℕ) (kept i : ℕ) : Type 0 where
  pub upto : i ≤ queue_count t₀
  pub few : kept ≤ i
  pub long : length t ≡ length t₀
  pub count : kept ≡ length (kept_of t₀ x i)
  pub words : t ≡ scatter t₀ (place_at t₀) (kept_of t₀ x i)

module _ (t₀ : List ℕ) (x : ℕ) where
  pub sift_start : Sifted t₀ x t₀ 0 0
  sift_start = record { upto = omega arith; few = omega arith; long = refl; count = refl; words = refl }

  module _ (shaped : Shaped t₀) (t : List ℕ) (kept i from : ℕ) (k : Sifted t₀ x t kept i) (more : i < queue_count t₀) (at : from ≡ queue_row t₀ i) where
    -- what stands at place i is still the queue's
    read : cell t queue_column from ≡ cell t₀ queue_column (queue_row t₀ i)
    read =
        rw (at, k.words)
        (scatter_out (kept_of t₀ x i) t₀ (place_at t₀) (place_at t₀ i)
        (λ j l e. places_apart t₀ shaped j i (omega (arith, k.count, k.few)) (omega (arith, shaped.count_most)) (sym e)))

    module _ (v : ℕ) (is : v ≡ cell t queue_column from) where
      one_more : kept_of t₀ x (i + 1) ≡ cond (eqb v x) (kept_of t₀ x i) (kept_of t₀ x i ++ (v ∷ []))
      one_more =
          rw (is, read)
          (ap (without x) (tab_more i (λ j. cell t₀ queue_column (queue_row t₀ j)))
          ∙ without_snoc x (tab i (λ j. cell t₀ queue_column (queue_row t₀ j))) (cell t₀ queue_column (queue_row t₀ i)))

      pub sift_skip : v ≡ x → Sifted t₀ x t kept (i + 1)
      sift_skip h =
          let e : kept_of t₀ x (i + 1) ≡ kept_of t₀ x i = one_more ∙ rw (eq-eqb v x h) in
          record { upto = omega arith; few = omega (arith, k.few); long = k.long; count = rw e k.count; words = rw e k.words }

      pub sift_keep : (to : ℕ) → to ≡ queue_row t₀ kept → (v ≡ x → ⊥) → Sifted t₀ x (set_cell t queue_column to v) (kept + 1) (i + 1)
      sift_keep to a h =
          let e : kept_of t₀ x (i + 1) ≡ kept_of t₀ x i ++ (v ∷ []) = one_more ∙ rw (ne_eqb v x h) in
          record {
            upto = omega arith;
            few = omega (arith, k.few);
            long = length-set t _ _ ∙ k.long;
            count = rw (e, length-append (kept_of t₀ x i) (v ∷ [])) (ap (λ (n : ℕ). n + 1) k.count);
            words =
                rw (e, a, k.count)
                (ap (λ (u : List ℕ). set_cell u queue_column (queue_row t₀ (length (kept_of t₀ x i))) v) k.words
                ∙ sym (scatter_snoc (kept_of t₀ x i) t₀ (place_at t₀) v));
          }

  pub sift_end : (t : List ℕ) (kept i : ℕ) → Sifted t₀ x t kept i → queue_count t₀ ≤ i → set_queue_count t kept ≡ remove t₀ x
  unfolding remove requeued queue_of
  sift_end t kept i k h =
      let e : i ≡ queue_count t₀ = omega (arith, k.upto) in
      ap₂ (λ (u : List ℕ) (n : ℕ). set_queue_count u n)
      (k.words ∙ ap (λ (m : ℕ). scatter t₀ (place_at t₀) (kept_of t₀ x m)) e)
      (k.count ∙ ap (λ (m : ℕ). length (kept_of t₀ x m)) e)
