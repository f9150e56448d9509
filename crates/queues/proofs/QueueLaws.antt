-- The queue as a list: what each operation makes of it, and that it has room for a slot that it does not name.
-- Assumes nothing.
use mathlib.Core.Path.{◌≡◌, refl, sym, ap, ap₂, ◌∙◌}
use mathlib.Core.Bool.{Bool, true, false, cond}
use mathlib.Core.List.{List, [], ◌∷◌, ◌++◌}
use Prim.Native.Nat.{ℕ, suc, ◌+◌, ◌-◌, ◌%◌, ◌≤◌, ◌<◌}
use native.Mathlib.Nat.{mod-lt, add-zero, mod-eq_of_lt, mod-add-mod}
use native.Mathlib.Omega.{arith}
use borrow.Author.Tests.{le-leb, ltb-true, eqb-false}
use lib.Dec.{eqb, ltb, leb}
use lib.ListN.{length, length-set}
use Rattle.model.specs.Lists as rules
use Rattle.yring.specs.Lists.{scatter}
use Rattle.lane.specs.Table.{header_words, row_words, head, set_head, cell_at, cell, set_cell, lane_at, put_lane}
use Rattle.lane.specs.declared.lane.Lane.{Lane}
use Rattle.yring.proofs.ListLaws.{length_tab, tab_push, tab_pop, length_scatter, scatter_out, tab_scatter, apart}
use Rattle.lane.proofs.TableLaws.{frames, head_stored, other_head_kept, cell_set_head}
use Rattle.queues.specs.Header.{Shaped, issued, queue_front, queue_count, slots}
use Rattle.queues.specs.Queue.{queue_column, queue_row, queue_of, front_slot, push_back, pop_front, rotate_left, without, requeued, remove, QueueNames}
use Rattle.queues.proofs.Pigeonhole.{pigeonhole_less}

pub length_queue : (t : List ℕ) → length (queue_of t) ≡ queue_count t
unfolding queue_of
length_queue t = length_tab (queue_count t) (λ i. cell t queue_column (queue_row t i))

without_le : (x : ℕ) (l : List ℕ) → length (without x l) ≤ length l
without_le x [] = omega arith
without_le x (y ∷ l) = go (eqb y x) (without_le x l)
  where
    go : (b : Bool) → length (without x l) ≤ length l → length (cond b (without x l) (y ∷ without x l)) ≤ suc (length l)
    go true h = omega arith
    go false h = omega arith

-- ---- what leaves the queue as it was

pub queue_put_lane : (t : List ℕ) (l : Lane) → queue_of (put_lane t l) ≡ queue_of t
unfolding queue_of
queue_put_lane t l = simp frames

-- a store into another column
pub queue_set_cell : (t : List ℕ) (c row v : ℕ) → ltb c row_words ≡ true → eqb c queue_column ≡ false → queue_of (set_cell t c row v) ≡ queue_of t
unfolding queue_of
queue_set_cell t c row v p n = simp (frames, p, n)

-- a store of a header word that is not the queue's
pub queue_set_head : (t : List ℕ) (k v : ℕ) → ltb k header_words ≡ true → eqb k 1 ≡ false → eqb k 2 ≡ false → eqb k 4 ≡ false
    → queue_of (set_head t k v) ≡ queue_of t
unfolding queue_of
queue_set_head t k v p a b c = simp (frames, p, a, b, c)

-- ---- what an operation leaves as it was

module _ (t : List ℕ) (x : ℕ) where
  pub length_pushed_back : length (push_back t x) ≡ length t
  unfolding push_back
  length_pushed_back = simp frames

  pub head_pushed_back : (k : ℕ) → ltb k header_words ≡ true → eqb 2 k ≡ false → head (push_back t x) k ≡ head t k
  unfolding push_back
  head_pushed_back k p n = simp (frames, p, n)

  pub count_pushed_back : leb header_words (length t) ≡ true → queue_count (push_back t x) ≡ queue_count t + 1
  unfolding push_back
  count_pushed_back r = simp (frames, r)

  pub cell_pushed_back : (c row : ℕ) → ltb c row_words ≡ true → eqb queue_column c ≡ false → cell (push_back t x) c row ≡ cell t c row
  unfolding push_back
  cell_pushed_back c row p n = simp (frames, p, n)

  pub lane_pushed_back : (slot : ℕ) → lane_at (push_back t x) slot ≡ lane_at t slot
  unfolding push_back
  lane_pushed_back slot = simp frames

module _ (t : List ℕ) where
  pub length_popped_front : length (pop_front t) ≡ length t
  unfolding pop_front
  length_popped_front = simp frames

  pub head_popped_front : (k : ℕ) → eqb 1 k ≡ false → eqb 2 k ≡ false → head (pop_front t) k ≡ head t k
  unfolding pop_front
  head_popped_front k m n = simp (frames, m, n)

  pub count_popped_front : leb header_words (length t) ≡ true → queue_count (pop_front t) ≡ queue_count t - 1
  unfolding pop_front
  count_popped_front r = simp (frames, r)

  pub front_popped_front : leb header_words (length t) ≡ true → queue_front (pop_front t) ≡ queue_row t 1
  unfolding pop_front
  front_popped_front r = simp (frames, r)

  pub cell_popped_front : (c row : ℕ) → cell (pop_front t) c row ≡ cell t c row
  unfolding pop_front
  cell_popped_front c row = simp frames

  pub lane_popped_front : (slot : ℕ) → lane_at (pop_front t) slot ≡ lane_at t slot
  unfolding pop_front
  lane_popped_front slot = simp frames

  pub length_rotated : length (rotate_left t) ≡ length t
  unfolding rotate_left
  length_rotated = simp frames

  pub head_rotated : (k : ℕ) → ltb k header_words ≡ true → eqb 1 k ≡ false → head (rotate_left t) k ≡ head t k
  unfolding rotate_left
  head_rotated k p n = simp (frames, p, n)

  pub front_rotated : leb header_words (length t) ≡ true → queue_front (rotate_left t) ≡ queue_row t 1
  unfolding rotate_left
  front_rotated r = simp (frames, r)

  pub cell_rotated : (c row : ℕ) → ltb c row_words ≡ true → eqb queue_column c ≡ false → cell (rotate_left t) c row ≡ cell t c row
  unfolding rotate_left
  cell_rotated c row p n = simp (frames, p, n)

  pub lane_rotated : (slot : ℕ) → lane_at (rotate_left t) slot ≡ lane_at t slot
  unfolding rotate_left
  lane_rotated slot = simp frames

module _ (t ws : List ℕ) where
  -- the words at the queue's places, before their number is stored
  abbrev placed : List ℕ
  placed = scatter t (λ i. cell_at queue_column (queue_row t i)) ws

  length_requeued : length (requeued t ws) ≡ length t
  unfolding requeued
  length_requeued = length-set placed 2 (length ws) ∙ length_scatter ws t (λ i. cell_at queue_column (queue_row t i))

  head_requeued : (k : ℕ) → ltb k header_words ≡ true → eqb 2 k ≡ false → head (requeued t ws) k ≡ head t k
  unfolding requeued
  head_requeued k p n =
      other_head_kept placed 2 (length ws) k n
      ∙ scatter_out ws t (λ i. cell_at queue_column (queue_row t i)) k (λ i l e. omega (arith, ltb-true k header_words p))

  count_requeued : leb header_words (length t) ≡ true → queue_count (requeued t ws) ≡ length ws
  unfolding requeued
  count_requeued r = head_stored placed 2 (length ws) (rw (length_scatter ws t (λ i. cell_at queue_column (queue_row t i))) r) refl

  -- the places, as they were written
  place_requeued : (row : ℕ) → cell (requeued t ws) queue_column row ≡ cell placed queue_column row
  unfolding requeued
  place_requeued row = simp frames

  cell_requeued : (c row : ℕ) → ltb c row_words ≡ true → eqb queue_column c ≡ false → cell (requeued t ws) c row ≡ cell t c row
  unfolding requeued
  cell_requeued c row p n =
      cell_set_head placed 2 (length ws) c row refl
      ∙ scatter_out ws t (λ i. cell_at queue_column (queue_row t i)) (cell_at c row)
      (λ i l e. eqb-false queue_column c n (omega (arith, ltb-true c row_words p)))

module _ (t : List ℕ) (x : ℕ) where
  pub length_removed : length (remove t x) ≡ length t
  unfolding remove
  length_removed = length_requeued t (without x (queue_of t))

  pub head_removed : (k : ℕ) → ltb k header_words ≡ true → eqb 2 k ≡ false → head (remove t x) k ≡ head t k
  unfolding remove
  head_removed = head_requeued t (without x (queue_of t))

  pub count_removed : leb header_words (length t) ≡ true → queue_count (remove t x) ≡ length (without x (queue_of t))
  unfolding remove
  count_removed = count_requeued t (without x (queue_of t))

  pub cell_removed : (c row : ℕ) → ltb c row_words ≡ true → eqb queue_column c ≡ false → cell (remove t x) c row ≡ cell t c row
  unfolding remove
  cell_removed = cell_requeued t (without x (queue_of t))

  pub lane_removed : (slot : ℕ) → lane_at (remove t x) slot ≡ lane_at t slot
  unfolding lane_at
  lane_removed slot = simp cell_removed

pub ruleset queue_frames = (
  length_pushed_back,
  head_pushed_back,
  count_pushed_back,
  cell_pushed_back,
  lane_pushed_back,
  length_popped_front,
  head_popped_front,
  count_popped_front,
  front_popped_front,
  cell_popped_front,
  lane_popped_front,
  length_rotated,
  head_rotated,
  front_rotated,
  cell_rotated,
  lane_rotated,
  length_removed,
  head_removed,
  count_removed,
  cell_removed,
  lane_removed,
  queue_put_lane,
  queue_set_cell,
  queue_set_head,
)

-- ---- what an operation makes of the queue

module _ (t : List ℕ) (s : Shaped t) where
  -- the header lies within the table, in the form for `simp`
  pub header_in : leb header_words (length t) ≡ true
  header_in = le-leb header_words (length t) (omega (arith, s.room))

  pub row_in : (i : ℕ) → queue_row t i < slots t
  row_in i = mod-lt (queue_front t + i) (omega (arith, s.front_in))

  -- the queue's places lie in the table, and no two within a run of S are the same
  place_in : (i : ℕ) → cell_at queue_column (queue_row t i) < length t
  place_in i = omega (arith, s.room, row_in i)

  pub places_apart : (i j : ℕ) → i < j → j - i < slots t → cell_at queue_column (queue_row t i) ≡ cell_at queue_column (queue_row t j) → ⊥
  places_apart i j a b e = apart (slots t) (queue_front t) i j a b (omega arith)

  -- one place on
  row_next : (i : ℕ) → queue_row t (suc i) ≡ (queue_row t 1 + i) % slots t
  row_next i =
      let e : queue_front t + 1 + i ≡ queue_front t + suc i = omega arith in
      sym (rw e at (mod-add-mod (queue_front t + 1) (slots t) i))

  row_first : queue_row t 0 ≡ queue_front t
  row_first = rw (add-zero (queue_front t)) (mod-eq_of_lt s.front_in)

  pub queue_pushed_back : (x : ℕ) → queue_count t < slots t → queue_of (push_back t x) ≡ queue_of t ++ (x ∷ [])
  unfolding queue_of push_back
  queue_pushed_back x h =
      simp (frames, header_in)
      (tab_push t (λ i. cell_at queue_column (queue_row t i)) (queue_count t) x (place_in (queue_count t))
      (λ i l. places_apart i (queue_count t) l (omega arith)))

  -- the front, and what is left without it
  pub queue_front_lem : 0 < queue_count t → queue_of t ≡ front_slot t ∷ queue_of (pop_front t)
  unfolding queue_of pop_front
  queue_front_lem h =
      simp (frames, header_in)
      (tab_pop (queue_count t) _ _ _ h (ap (cell t queue_column) row_first) (λ i l. ap (cell t queue_column) (row_next i)))

  queue_turned : 0 < queue_count t → queue_of (rotate_left t) ≡ queue_of (pop_front t) ++ (front_slot t ∷ [])
  unfolding queue_of pop_front rotate_left
  queue_turned h =
      let m : queue_count t - 1 + 1 ≡ queue_count t = omega arith in
      let w : suc (queue_count t - 1) ≡ queue_count t = omega arith in
      simp (frames, header_in, ← row_next)
      (rw (m, w) at
      (tab_push t (λ i. cell_at queue_column (queue_row t (suc i))) (queue_count t - 1) (front_slot t) (place_in (suc (queue_count t - 1)))
      (λ i l. places_apart (suc i) (suc (queue_count t - 1)) (omega arith) (omega (arith, s.count_most)))))

  module _ (x : ℕ) (q : List ℕ) (e : queue_of t ≡ x ∷ q) where
    some : 0 < queue_count t
    some = omega (arith, length_queue t, ap length e)

    pub front_is : front_slot t ≡ x
    front_is = ap (first) (sym (queue_front_lem some) ∙ e)
      where
        first : List ℕ → ℕ
        first [] = 0
        first (y ∷ l) = y

    pub queue_popped_front : queue_of (pop_front t) ≡ q
    queue_popped_front = ap (rest) (sym (queue_front_lem some) ∙ e)
      where
        rest : List ℕ → List ℕ
        rest [] = []
        rest (y ∷ l) = l

    pub queue_rotated : queue_of (rotate_left t) ≡ q ++ (x ∷ [])
    queue_rotated = queue_turned some ∙ ap₂ (λ (l : List ℕ) (y : ℕ). l ++ (y ∷ [])) queue_popped_front front_is

  queue_requeued : (ws : List ℕ) → length ws ≤ slots t → queue_of (requeued t ws) ≡ ws
  unfolding queue_of
  queue_requeued ws h =
      simp (count_requeued t ws header_in, head_requeued, place_requeued)
      (tab_scatter ws t (λ i. cell_at queue_column (queue_row t i)) (λ i l. place_in i) (λ i j a b. places_apart i j a (omega arith)))

  pub removed_most : (x : ℕ) → length (without x (queue_of t)) ≤ slots t
  removed_most x = omega (arith, without_le x (queue_of t), length_queue t, s.count_most)

  pub queue_removed : (x : ℕ) → queue_of (remove t x) ≡ without x (queue_of t)
  unfolding remove
  queue_removed x = queue_requeued (without x (queue_of t)) (removed_most x)

  -- an issued slot that is not in the queue finds room there
  pub queue_has_room : QueueNames t → (x : ℕ) → x < issued t → rules.count x (queue_of t) ≡ 0 → queue_count t < slots t
  queue_has_room q x h z =
      omega (arith, s.issued_most, length_queue t, pigeonhole_less (issued t) (queue_of t) x q.once q.issued_only h z)

  -- ---- the shape is kept

  pub shaped_pushed_back : (x : ℕ) → queue_count t < slots t → Shaped (push_back t x)
  shaped_pushed_back x h = simp (queue_frames, header_in) (omega (arith, s))

  pub shaped_popped_front : Shaped (pop_front t)
  shaped_popped_front = simp (queue_frames, header_in) (omega (arith, s, row_in 1))

  pub shaped_rotated : Shaped (rotate_left t)
  shaped_rotated = simp (queue_frames, header_in) (omega (arith, s, row_in 1))

  pub shaped_removed : (x : ℕ) → Shaped (remove t x)
  shaped_removed x = simp (queue_frames, header_in) (omega (arith, s, removed_most x))

  pub shaped_put_lane : (l : Lane) → Shaped (put_lane t l)
  shaped_put_lane l = simp frames s

  pub shaped_set_cell : (c row v : ℕ) → Shaped (set_cell t c row v)
  shaped_set_cell c row v = simp frames s

  -- a store of a header word that the shape does not name
  pub shaped_set_head : (k v : ℕ) → eqb k 0 ≡ false → eqb k 1 ≡ false → eqb k 2 ≡ false → eqb k 3 ≡ false → eqb k 4 ≡ false → eqb k 6 ≡ false
      → Shaped (set_head t k v)
  shaped_set_head k v a b c d e f = simp (frames, a, b, c, d, e, f) s
