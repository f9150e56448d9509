-- Free slots moved down by one place: what stands where, and the loop that moves one more at each turn.
-- Assumes nothing.
use mathlib.Core.Path.{◌≡◌, sym, ap, ◌∙◌}
use mathlib.Core.List.{List}
use Prim.Native.Nat.{ℕ, suc, ◌+◌, ◌-◌, ◌≤◌, ◌<◌}
use native.Mathlib.Omega.{arith}
use lib.ListN.{length, get_or}
use Rattle.yring.specs.Lists.{tab, scatter}
use Rattle.lane.specs.Table.{cell_at, cell, set_cell}
use Rattle.yring.proofs.ListLaws.{length_tab, get_d_tab, tab_more, length_scatter, scatter_in, scatter_out, scatter_snoc}
use Rattle.queues.specs.Header.{free_count, set_free_count}
use Rattle.queues.specs.Registry.{free_column, moved_down, reissue}

module _ (t : List ℕ) (p n : ℕ) where
  -- the words that move, in the order of their places
  abbrev word : ℕ → ℕ
  word i = cell t free_column (p + i + 1)

  -- where they go
  abbrev place : ℕ → ℕ
  place i = cell_at free_column (p + i)

  pub length_moved_down : length (moved_down t p n) ≡ length t
  length_moved_down = length_scatter (tab n word) t place

  -- a word that is at none of these places
  pub out_moved_down : (j : ℕ) → ((i : ℕ) → i < n → j ≡ cell_at free_column (p + i) → ⊥) → get_or (moved_down t p n) j 0 ≡ get_or t j 0
  out_moved_down j h = scatter_out (tab n word) t place j (λ i l. h i (omega (arith, length_tab n word)))

  -- one that moved, where the places lie in the table
  pub in_moved_down : cell_at 0 (p + n) ≤ length t → (i : ℕ) → i < n
      → cell (moved_down t p n) free_column (p + i) ≡ cell t free_column (p + i + 1)
  in_moved_down r i h =
      let m : length (tab n word) ≡ n = length_tab n word in
      scatter_in (tab n word) t place (λ k l. omega arith) (λ j k a b e. omega arith) i (omega arith) ∙ get_d_tab n word i h

  -- ---- the loop, after n turns

  pub move_one_more : (u : List ℕ) → u ≡ moved_down t p n → (x : ℕ) → x ≡ cell u free_column (p + n + 1)
      → set_cell u free_column (p + n) x ≡ moved_down t p (n + 1)
  move_one_more u e x is =
      let next : cell (moved_down t p n) free_column (p + n + 1) ≡ word n = out_moved_down (cell_at free_column (p + n + 1)) (λ i l q. omega arith) in
      rw (is, e, next)
      (sym (ap (λ (l : List ℕ). scatter t place l) (tab_more n word) ∙ (rw (length_tab n word) at (scatter_snoc (tab n word) t place (word n)))))

-- all d moved, and their number stored
pub move_end : (t u : List ℕ) (d i : ℕ) → d < free_count t → u ≡ moved_down t (free_count t - 1 - d) i → i ≤ d → d ≤ i
    → set_free_count u (free_count t - 1) ≡ reissue t d
unfolding reissue
move_end t u d i h e l g =
    let place : free_count t - 1 - d ≡ free_count t - suc d = omega arith in
    let all : i ≡ d = omega arith in
    rw (e, place, all)
