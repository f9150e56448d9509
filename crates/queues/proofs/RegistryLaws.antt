-- The free list as a list: what each operation makes of it, and that it and the queue leave each other as they were.
-- Assumes nothing.
use mathlib.Core.Path.{◌≡◌, refl, sym, ap, ap₂, ◌∙◌}
use mathlib.Core.Bool.{true, false}
use mathlib.Core.List.{List, [], ◌∷◌, ◌++◌}
use Prim.Native.Nat.{ℕ, suc, ◌+◌, ◌-◌, ◌≤◌, ◌<◌}
use native.Mathlib.Numerals.{add-one}
use native.Mathlib.Omega.{arith}
use borrow.Author.Tests.{ltb-true, eqb-false}
use lib.Dec.{eqb, ltb, leb}
use lib.ListN.{length, get_or, take, drop, length-set, drop_of_length-le}
use lib.Seq.{get_or-set_same, get_or-set_other, split_at, drop-cons}
use Rattle.model.specs.Lists.{count}
use Rattle.demands.proofs.Counting.{same_self, count_append}
use Rattle.yring.specs.Lists.{tab}
use Rattle.lane.specs.Table.{header_words, row_words, head, set_head, cell_at, cell, set_cell, lane_at, put_lane}
use Rattle.lane.specs.declared.lane.Lane.{Lane}
use Rattle.yring.proofs.ListLaws.{length_tab, get_d_tab, tab_ext, tab_add, take_tab, drop_tab, tab_pop}
use Rattle.lane.proofs.TableLaws.{frames, head_stored, other_head_kept, cell_set_head}
use Rattle.queues.specs.Header.{Shaped, issued, free_count, slots}
use Rattle.queues.specs.Queue.{queue_of, push_back, pop_front, rotate_left, remove, QueueNames}
use Rattle.queues.specs.Registry.{free_column, free_of, free, freed_at, moved_down, reissue}
use Rattle.queues.proofs.Pigeonhole.{pigeonhole_less}
use Rattle.queues.proofs.MovedDown.{length_moved_down, out_moved_down, in_moved_down}
use Rattle.queues.proofs.QueueLaws.{queue_frames, header_in}
use Rattle.queues.proofs.NamesLaws.{names_same}

pub length_free : (t : List ℕ) → length (free_of t) ≡ free_count t
unfolding free_of
length_free t = length_tab (free_count t) (λ i. cell t free_column (free_count t - suc i))

-- ---- the slot d places down, and those before and after it

module _ (t : List ℕ) (d : ℕ) (h : d < free_count t) where
  inside : d < length (free_of t)
  inside = omega (arith, length_free t)

  pub free_item : get_or (free_of t) d 0 ≡ freed_at t d
  unfolding free_of
  free_item = get_d_tab (free_count t) (λ i. cell t free_column (free_count t - suc i)) d h

  pub free_parts : free_of t ≡ take d (free_of t) ++ (freed_at t d ∷ drop (suc d) (free_of t))
  free_parts = rw free_item at (split_at (free_of t) d 0 inside)

  -- for a loop that goes down the list
  pub drop_free : drop d (free_of t) ≡ freed_at t d ∷ drop (d + 1) (free_of t)
  drop_free = rw (add-one d) (rw free_item at (drop-cons (free_of t) d 0 inside))

  pub freed_in : 1 ≤ count (freed_at t d) (free_of t)
  unfolding count
  freed_in =
      let x : ℕ = freed_at t d in
      omega (arith, ap (count x) free_parts, count_append x (take d (free_of t)) (x ∷ drop (suc d) (free_of t)), same_self x)

-- past the last
pub drop_free_all : (t : List ℕ) → drop (free_count t) (free_of t) ≡ []
drop_free_all t = drop_of_length-le (free_of t) {i = free_count t} (omega (arith, length_free t))

-- ---- what leaves the free list as it was

pub free_put_lane : (t : List ℕ) (l : Lane) → free_of (put_lane t l) ≡ free_of t
unfolding free_of
free_put_lane t l = simp frames

-- a store into another column
pub free_set_cell : (t : List ℕ) (c row v : ℕ) → ltb c row_words ≡ true → eqb c free_column ≡ false → free_of (set_cell t c row v) ≡ free_of t
unfolding free_of
free_set_cell t c row v p n = simp (frames, p, n)

-- a store of a header word that is not the free list's
pub free_set_head : (t : List ℕ) (k v : ℕ) → ltb k header_words ≡ true → eqb k 3 ≡ false → free_of (set_head t k v) ≡ free_of t
unfolding free_of
free_set_head t k v p n = simp (frames, p, n)

pub free_pushed_back : (t : List ℕ) (x : ℕ) → free_of (push_back t x) ≡ free_of t
unfolding free_of
free_pushed_back t x = simp queue_frames

pub free_popped_front : (t : List ℕ) → free_of (pop_front t) ≡ free_of t
unfolding free_of
free_popped_front t = simp queue_frames

pub free_rotated : (t : List ℕ) → free_of (rotate_left t) ≡ free_of t
unfolding free_of
free_rotated t = simp queue_frames

pub free_removed : (t : List ℕ) (x : ℕ) → free_of (remove t x) ≡ free_of t
unfolding free_of
free_removed t x = simp queue_frames

-- ---- what freeing and reissuing leave as it was

module _ (t : List ℕ) (x : ℕ) where
  pub length_freed : length (free t x) ≡ length t
  unfolding free
  length_freed = simp frames

  pub head_freed : (k : ℕ) → ltb k header_words ≡ true → eqb 3 k ≡ false → head (free t x) k ≡ head t k
  unfolding free
  head_freed k p n = simp (frames, p, n)

  pub count_freed : leb header_words (length t) ≡ true → free_count (free t x) ≡ free_count t + 1
  unfolding free
  count_freed r = simp (frames, r)

  pub cell_freed : (c row : ℕ) → ltb c row_words ≡ true → eqb free_column c ≡ false → cell (free t x) c row ≡ cell t c row
  unfolding free
  cell_freed c row p n = simp (frames, p, n)

  pub lane_freed : (slot : ℕ) → lane_at (free t x) slot ≡ lane_at t slot
  unfolding free
  lane_freed slot = simp frames

  pub queue_freed : queue_of (free t x) ≡ queue_of t
  unfolding free
  queue_freed = simp queue_frames

module _ (t : List ℕ) (d : ℕ) where
  -- the place of the slot taken
  abbrev gap : ℕ
  gap = free_count t - suc d

  -- the words, before their number is stored
  abbrev moved : List ℕ
  moved = moved_down t gap d

  pub length_reissued : length (reissue t d) ≡ length t
  unfolding reissue
  length_reissued = length-set moved 3 (free_count t - 1) ∙ length_moved_down t gap d

  pub head_reissued : (k : ℕ) → ltb k header_words ≡ true → eqb 3 k ≡ false → head (reissue t d) k ≡ head t k
  unfolding reissue
  head_reissued k p n =
      other_head_kept moved 3 (free_count t - 1) k n
      ∙ out_moved_down t gap d k (λ i l e. omega (arith, ltb-true k header_words p))

  pub count_reissued : leb header_words (length t) ≡ true → free_count (reissue t d) ≡ free_count t - 1
  unfolding reissue
  count_reissued r = head_stored moved 3 (free_count t - 1) (rw (length_moved_down t gap d) r) refl

  -- the places, as they were written
  place_reissued : (row : ℕ) → cell (reissue t d) free_column row ≡ cell moved free_column row
  unfolding reissue
  place_reissued row = cell_set_head moved 3 (free_count t - 1) free_column row refl

  pub cell_reissued : (c row : ℕ) → ltb c row_words ≡ true → eqb free_column c ≡ false → cell (reissue t d) c row ≡ cell t c row
  unfolding reissue
  cell_reissued c row p n =
      cell_set_head moved 3 (free_count t - 1) c row refl
      ∙ out_moved_down t gap d (cell_at c row)
      (λ i l e. eqb-false free_column c n (omega (arith, ltb-true c row_words p)))

  pub lane_reissued : (slot : ℕ) → lane_at (reissue t d) slot ≡ lane_at t slot
  unfolding lane_at
  lane_reissued slot = simp cell_reissued

  pub queue_reissued : queue_of (reissue t d) ≡ queue_of t
  unfolding queue_of
  queue_reissued = simp (head_reissued, cell_reissued)

pub ruleset registry_frames = (
  free_put_lane,
  free_set_cell,
  free_set_head,
  free_pushed_back,
  free_popped_front,
  free_rotated,
  free_removed,
  length_freed,
  head_freed,
  count_freed,
  cell_freed,
  lane_freed,
  queue_freed,
  length_reissued,
  head_reissued,
  count_reissued,
  cell_reissued,
  lane_reissued,
  queue_reissued,
)

-- ---- what an operation makes of the free list

module _ (t : List ℕ) (s : Shaped t) where
  pub free_freed : (x : ℕ) → free_count t < slots t → free_of (free t x) ≡ x ∷ free_of t
  unfolding free_of free
  free_freed x h =
      let k : ℕ = free_count t in
      let u : List ℕ = set_cell t free_column k x in
      let m : k + 1 - 1 ≡ k = omega arith in
      simp (frames, header_in t s)
      (rw m at
      (tab_pop (k + 1) (λ i. cell u free_column (k + 1 - suc i)) (λ i. cell t free_column (k - suc i)) x (omega arith)
      (ap (cell u free_column) m ∙ get_or-set_same t _ x 0 (omega (arith, s.room)))
      (λ i l.
      let e : k + 1 - suc (suc i) ≡ k - suc i = omega arith in
      ap (cell u free_column) e ∙ get_or-set_other t _ _ x 0 (λ q. omega arith))))

  -- the slot d places down gone, the others in their order
  pub free_reissued : (d : ℕ) → d < free_count t → free_of (reissue t d) ≡ take d (free_of t) ++ drop (suc d) (free_of t)
  unfolding free_of
  free_reissued d h =
      let n : ℕ = free_count t in
      let f : ℕ → ℕ = λ i. cell t free_column (n - suc i) in
      let g : ℕ → ℕ = λ i. cell (moved t d) free_column (n - 1 - suc i) in
      let e : n - 1 ≡ d + gap t d = omega arith in
      simp (count_reissued t d (header_in t s), place_reissued)
      (ap (λ (k : ℕ). tab k g) e
      ∙ tab_add d (gap t d) g
      ∙ ap₂ (λ (a b : List ℕ). a ++ b)
      (tab_ext d g f above ∙ sym (take_tab d n f (omega arith)))
      (tab_ext (gap t d) (λ i. g (d + i)) (λ i. f (suc d + i)) below ∙ sym (drop_tab (suc d) n f h)))
    where
      above : (i : ℕ) → i < d → cell (moved t d) free_column (free_count t - 1 - suc i) ≡ cell t free_column (free_count t - suc i)
      above i l =
          let a : free_count t - 1 - suc i ≡ gap t d + (d - suc i) = omega arith in
          let b : gap t d + (d - suc i) + 1 ≡ free_count t - suc i = omega arith in
          ap (cell (moved t d) free_column) a
          ∙ in_moved_down t (gap t d) d (omega (arith, s.room, s.free_most)) (d - suc i) (omega arith)
          ∙ ap (cell t free_column) b

      below : (i : ℕ) → i < gap t d → cell (moved t d) free_column (free_count t - 1 - suc (d + i)) ≡ cell t free_column (free_count t - suc (suc d + i))
      below i l =
          let a : free_count t - 1 - suc (d + i) ≡ free_count t - suc (suc d + i) = omega arith in
          ap (cell (moved t d) free_column) a
          ∙ out_moved_down t (gap t d) d (cell_at free_column (free_count t - suc (suc d + i))) (λ j k e. omega arith)

  -- where the free slots are issued ones, each once, another issued slot finds room
  pub free_has_room : ((y : ℕ) → count y (free_of t) ≤ 1) → ((y : ℕ) → 1 ≤ count y (free_of t) → y < issued t)
      → (x : ℕ) → x < issued t → count x (free_of t) ≡ 0 → free_count t < slots t
  free_has_room once issued_only x h z =
      omega (arith, s.issued_most, length_free t, pigeonhole_less (issued t) (free_of t) x once issued_only h z)

  -- ---- the shape is kept

  pub shaped_freed : (x : ℕ) → free_count t < slots t → Shaped (free t x)
  shaped_freed x h = simp (registry_frames, header_in t s) (omega (arith, s))

  pub shaped_reissued : (d : ℕ) → Shaped (reissue t d)
  shaped_reissued d = simp (registry_frames, header_in t s) (omega (arith, s))

-- ---- the queue names what it named

pub names_freed : (t : List ℕ) (x : ℕ) → QueueNames t → QueueNames (free t x)
names_freed t x q = names_same t (free t x) q (simp registry_frames) (λ y. simp registry_frames) (λ y. simp registry_frames)

pub names_reissued : (t : List ℕ) (d : ℕ) → QueueNames t → QueueNames (reissue t d)
names_reissued t d q = names_same t (reissue t d) q (simp registry_frames) (λ y. simp registry_frames) (λ y. simp registry_frames)
