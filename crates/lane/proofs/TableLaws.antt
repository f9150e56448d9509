-- The table's words: what a store writes is read back, and every other word, lane and length is as it was.
-- The conditions compute at numerals, so that `simp frames` finds them.
-- Assumes nothing.
use mathlib.Core.Path.{◌≡◌, refl, sym, ap, ◌∙◌}
use mathlib.Core.Bool.{true, false}
use mathlib.Core.List.{List}
use mathlib.Core.Logic.{◌⊎◌, inl, inr}
use Prim.Native.Nat.{ℕ, ◌%◌, ◌^◌, ◌≤◌, ◌<◌}
use native.Mathlib.Omega.{arith}
use borrow.Author.Tests.{ltb-true, leb-true, eqb-false, le-leb, ne_eqb}
use lib.Dec.{ltb, leb, eqb}
use lib.ListN.{length, get_or, length-set}
use lib.Seq.{get_or-set_same, get_or-set_other, set-get_or}
use Rattle.lane.specs.declared.lane.Lane.{Lane}
use Rattle.lane.specs.Table.{header_words, row_words, lane_words, head, set_head, cell_at, cell, set_cell, HasRow, half, low, high, packed, Narrow, NarrowLane, words, narrowed, lane_at, put_lane}
use Rattle.yring.proofs.ListLaws.{length_scatter, scatter_in, scatter_out}

-- ---- two counts in a word

low_packed : (a b : ℕ) → low (packed a b) ≡ a % half
low_packed a b = omega arith

high_packed : (a b : ℕ) → high (packed a b) ≡ b % half
high_packed a b = omega arith

-- a word is its halves
packed_halves : (w : ℕ) → w < 2 ^ 64 → packed (low w) (high w) ≡ w
packed_halves w h = omega arith

-- counts that fit lose nothing
pub narrow_same : (l : Lane) → NarrowLane l → narrowed l ≡ l
narrow_same l n =
    let a : l.cached % half ≡ l.cached = omega (arith, n.cached_fits) in
    let b : l.unreleased % half ≡ l.unreleased = omega (arith, n.unreleased_fits) in
    let c : l.burst % half ≡ l.burst = omega (arith, n.burst_fits) in
    let d : l.window % half ≡ l.window = omega (arith, n.window_fits) in
    λ i. record {
      key = l.key;
      tail = l.tail;
      released = l.released;
      head = l.head;
      known = l.known;
      cached = a i;
      unreleased = b i;
      burst = c i;
      window = d i;
      pending = l.pending;
      queued = l.queued;
      paused = l.paused;
      registered = l.registered;
      living = l.living;
    }

-- a new lane's counts fit
pub none_narrow : Narrow 0 0 0 0
none_narrow = record { cached_fits = omega arith; unreleased_fits = omega arith; burst_fits = omega arith; window_fits = omega arith }

-- ---- a lane stored

module _ (t : List ℕ) (l : Lane) where
  pub length_kept : length (put_lane t l) ≡ length t
  unfolding put_lane
  length_kept = length_scatter (words l) t (λ i. cell_at i l.key.slot)

  -- a word outside the record
  pub outside_kept : (j : ℕ) → (j < cell_at 0 l.key.slot) ⊎ (cell_at lane_words l.key.slot ≤ j) → get_or (put_lane t l) j 0 ≡ get_or t j 0
  unfolding put_lane
  outside_kept j (inl h) = scatter_out (words l) t (λ i. cell_at i l.key.slot) j (λ i k e. omega arith)
  outside_kept j (inr h) = scatter_out (words l) t (λ i. cell_at i l.key.slot) j (λ i k e. omega arith)

  -- a header word
  pub head_put_lane : (k : ℕ) → ltb k header_words ≡ true → head (put_lane t l) k ≡ head t k
  head_put_lane k h = outside_kept k (inl (omega (arith, ltb-true k header_words h)))

  -- a column that is no lane's, of any row
  pub cell_put_lane : (c row : ℕ) → leb lane_words c ≡ true → ltb c row_words ≡ true → cell (put_lane t l) c row ≡ cell t c row
  unfolding put_lane
  cell_put_lane c row p q =
      scatter_out (words l) t (λ i. cell_at i l.key.slot) (cell_at c row) (λ i k e. omega (arith, leb-true lane_words c p, ltb-true c row_words q))

  -- a word of another slot's row
  pub other_row_put_lane : (c row : ℕ) → ltb c row_words ≡ true → eqb row l.key.slot ≡ false → cell (put_lane t l) c row ≡ cell t c row
  unfolding put_lane
  other_row_put_lane c row p n =
      scatter_out (words l) t (λ i. cell_at i l.key.slot) (cell_at c row)
      (λ i k e. eqb-false row l.key.slot n (omega (arith, ltb-true c row_words p)))

  -- a word of the record
  pub word_stored : HasRow l.key.slot (length t) → (c : ℕ) → ltb c lane_words ≡ true → cell (put_lane t l) c l.key.slot ≡ get_or (words l) c 0
  unfolding put_lane
  word_stored h c p =
      scatter_in (words l) t (λ i. cell_at i l.key.slot) (λ i k. omega arith) (λ i j a b e. omega arith) c (ltb-true c lane_words p)

  -- a lane stored is loaded again, its counts in 32 bits
  pub lane_stored : HasRow l.key.slot (length t) → lane_at (put_lane t l) l.key.slot ≡ narrowed l
  unfolding lane_at
  lane_stored h =
      let w = word_stored h in
      let a : high (cell (put_lane t l) 5 l.key.slot) ≡ l.cached % half = ap high (w 5 refl) ∙ high_packed l.unreleased l.cached in
      let b : low (cell (put_lane t l) 5 l.key.slot) ≡ l.unreleased % half = ap low (w 5 refl) ∙ low_packed l.unreleased l.cached in
      let c : high (cell (put_lane t l) 6 l.key.slot) ≡ l.burst % half = ap high (w 6 refl) ∙ high_packed l.window l.burst in
      let d : low (cell (put_lane t l) 6 l.key.slot) ≡ l.window % half = ap low (w 6 refl) ∙ low_packed l.window l.burst in
      λ i. record {
        key = record { slot = l.key.slot; generation = w 0 refl i };
        tail = w 1 refl i;
        released = w 2 refl i;
        head = w 3 refl i;
        known = w 4 refl i;
        cached = a i;
        unreleased = b i;
        burst = c i;
        window = d i;
        pending = w 7 refl i;
        queued = w 8 refl i;
        paused = w 9 refl i;
        registered = w 10 refl i;
        living = w 11 refl i;
      }

  -- another slot's lane
  pub other_lane_kept : (s : ℕ) → (s ≡ l.key.slot → ⊥) → lane_at (put_lane t l) s ≡ lane_at t s
  unfolding lane_at
  other_lane_kept s n = simp (other_row_put_lane, ne_eqb s l.key.slot n)

  -- the same two, in the form for `simp`
  pub lane_own : (s : ℕ) → l.key.slot ≡ s → leb (cell_at row_words s) (length t) ≡ true → lane_at (put_lane t l) s ≡ narrowed l
  lane_own s e h =
      rw (sym e) (lane_stored (omega (arith, leb-true (cell_at row_words s) (length t) h)))

  -- where 32 bits hold the counts
  pub lane_own_narrow : (s : ℕ) → l.key.slot ≡ s → leb (cell_at row_words s) (length t) ≡ true → NarrowLane l → lane_at (put_lane t l) s ≡ l
  lane_own_narrow s e h n = lane_own s e h ∙ narrow_same l n

  pub lane_other : (s : ℕ) → eqb s l.key.slot ≡ false → lane_at (put_lane t l) s ≡ lane_at t s
  lane_other s n = other_lane_kept s (eqb-false s l.key.slot n)

module _ (t : List ℕ) (slot : ℕ) where
  -- storing what was loaded changes nothing, of words that are u64
  pub load_store_same : cell t 5 slot < 2 ^ 64 → cell t 6 slot < 2 ^ 64 → put_lane t (lane_at t slot) ≡ t
  unfolding lane_at put_lane
  load_store_same h k = simp (packed_halves (cell t 5 slot) h, packed_halves (cell t 6 slot) k, set-get_or)

  -- what was loaded fits
  pub loaded_narrow : NarrowLane (lane_at t slot)
  unfolding lane_at
  loaded_narrow = record { cached_fits = omega arith; unreleased_fits = omega arith; burst_fits = omega arith; window_fits = omega arith }

  -- the slot of the lane of a slot
  pub slot_of_lane : (lane_at t slot).key.slot ≡ slot
  unfolding lane_at
  slot_of_lane = refl

  -- a row within the table, and the header with it, in the form for `simp`
  pub has_row : HasRow slot (length t) → leb (cell_at row_words slot) (length t) ≡ true
  has_row h = le-leb (cell_at row_words slot) (length t) h

  pub has_header : HasRow slot (length t) → leb header_words (length t) ≡ true
  has_header h = le-leb header_words (length t) (omega arith)

-- ---- a cell stored

module _ (t : List ℕ) (c row v : ℕ) where
  pub cell_stored : leb (cell_at row_words row) (length t) ≡ true → ltb c row_words ≡ true → cell (set_cell t c row v) c row ≡ v
  cell_stored r h =
      get_or-set_same t (cell_at c row) v 0 (omega (arith, ltb-true c row_words h, leb-true (cell_at row_words row) (length t) r))

  -- a cell of another column, in any row
  pub other_column_kept : (d i : ℕ) → ltb c row_words ≡ true → ltb d row_words ≡ true → eqb c d ≡ false → cell (set_cell t c row v) d i ≡ cell t d i
  other_column_kept d i p q n =
      get_or-set_other t (cell_at c row) (cell_at d i) v 0 (λ e. eqb-false c d n (omega (arith, ltb-true c row_words p, ltb-true d row_words q)))

  -- a cell of another row, in any column
  pub other_row_kept : (d i : ℕ) → ltb c row_words ≡ true → ltb d row_words ≡ true → eqb i row ≡ false → cell (set_cell t c row v) d i ≡ cell t d i
  other_row_kept d i p q n =
      get_or-set_other t (cell_at c row) (cell_at d i) v 0 (λ e. eqb-false i row n (omega (arith, ltb-true c row_words p, ltb-true d row_words q)))

  pub head_set_cell : (k : ℕ) → ltb k header_words ≡ true → head (set_cell t c row v) k ≡ head t k
  head_set_cell k h = get_or-set_other t (cell_at c row) k v 0 (λ e. omega (arith, ltb-true k header_words h))

  -- the lanes, where the column is no lane's
  pub lane_set_cell : (s : ℕ) → leb lane_words c ≡ true → ltb c row_words ≡ true → lane_at (set_cell t c row v) s ≡ lane_at t s
  unfolding lane_at
  lane_set_cell s p q = simp lane_word
    where
      lane_word : (d : ℕ) → ltb d lane_words ≡ true → cell (set_cell t c row v) d s ≡ cell t d s
      lane_word d h =
          get_or-set_other t (cell_at c row) (cell_at d s) v 0 (λ e. omega (arith, leb-true lane_words c p, ltb-true c row_words q, ltb-true d lane_words h))

-- ---- a header word stored

module _ (t : List ℕ) (k v : ℕ) where
  pub head_stored : leb header_words (length t) ≡ true → ltb k header_words ≡ true → head (set_head t k v) k ≡ v
  head_stored r h = get_or-set_same t k v 0 (omega (arith, ltb-true k header_words h, leb-true header_words (length t) r))

  pub other_head_kept : (j : ℕ) → eqb k j ≡ false → head (set_head t k v) j ≡ head t j
  other_head_kept j n = get_or-set_other t k j v 0 (λ e. eqb-false k j n (sym e))

  pub cell_set_head : (c row : ℕ) → ltb k header_words ≡ true → cell (set_head t k v) c row ≡ cell t c row
  cell_set_head c row h = get_or-set_other t k (cell_at c row) v 0 (λ e. omega (arith, ltb-true k header_words h))

  pub lane_set_head : (s : ℕ) → ltb k header_words ≡ true → lane_at (set_head t k v) s ≡ lane_at t s
  unfolding lane_at
  lane_set_head s h = simp cell_set_head

pub ruleset frames = (
  length_kept,
  head_put_lane,
  cell_put_lane,
  other_row_put_lane,
  lane_own,
  lane_other,
  slot_of_lane,
  length-set,
  cell_stored,
  other_column_kept,
  other_row_kept,
  head_set_cell,
  lane_set_cell,
  head_stored,
  other_head_kept,
  cell_set_head,
  lane_set_head,
)
