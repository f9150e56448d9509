-- Marking a slot sets its page bit and no other, keeps pages and groups linked, and leaves the lanes, the queue, the free list and the header.
-- Assumes nothing.
use mathlib.Core.Path.{◌≡◌, refl, sym, ap, ◌∙◌}
use mathlib.Core.Bool.{Bool, true, false, cond}
use mathlib.Core.List.{List}
use Prim.Native.Nat.{ℕ, zero, suc, ◌*◌, ◌/◌, ◌%◌, ◌<◌}
use native.Mathlib.Omega.{arith}
use borrow.Author.Tests.{eqb-true, eqb-false}
use lib.Dec.{ltb, eqb}
use lib.ListN.{length}
use Rattle.model.specs.Lists.{count}
use Rattle.demands.proofs.Counting.{equal, other, same?}
use Rattle.lane.specs.Table.{header_words, row_words, HasRow, head, cell, lane_at}
use Rattle.lane.proofs.TableLaws.{frames, has_row}
use Rattle.queues.specs.Header.{Shaped, issued}
use Rattle.queues.specs.Queue.{queue_of, QueueNames}
use Rattle.queues.specs.Registry.{free_of}
use Rattle.ready.specs.Bits.{bit, with_bit}
use Rattle.ready.specs.Ready.{page_column, group_column, page_word, group_word, page_bit, group_bit, set_page_bit, set_group_bit, mark, non_zero, Linked}
use Rattle.ready.proofs.BitLaws.{bit_set_same, bit_set_other, set_not_zero}
use Rattle.queues.proofs.NamesLaws.{names_same}
use Rattle.queues.proofs.QueueLaws.{queue_frames}
use Rattle.queues.proofs.RegistryLaws.{registry_frames}
use Rattle.ready.proofs.CollectLaws.{Kept}

module _ (t : List ℕ) (x : ℕ) where
  -- a mark does one of two things
  pub marked_case : (P : List ℕ → Type 0) → (page_word t (x / 64) ≡ 0 → P (set_group_bit (set_page_bit t x) (x / 64)))
      → ((page_word t (x / 64) ≡ 0 → ⊥) → P (set_page_bit t x)) → P (mark t x)
  unfolding mark
  marked_case P f g = go (eqb (page_word t (x / 64)) 0) refl
    where
      go : (b : Bool) → eqb (page_word t (x / 64)) 0 ≡ b → P (cond b (set_group_bit (set_page_bit t x) (x / 64)) (set_page_bit t x))
      go true e = f (eqb-true (page_word t (x / 64)) 0 e)
      go false e = g (eqb-false (page_word t (x / 64)) 0 e)

  pub length_marked : length (mark t x) ≡ length t
  length_marked = marked_case (λ u. length u ≡ length t) (λ e. simp frames) (λ n. simp frames)

  pub head_marked : (k : ℕ) → ltb k header_words ≡ true → head (mark t x) k ≡ head t k
  head_marked k p = marked_case (λ u. head u k ≡ head t k) (λ e. simp (frames, p)) (λ n. simp (frames, p))

  pub lane_marked : (y : ℕ) → lane_at (mark t x) y ≡ lane_at t y
  lane_marked y = marked_case (λ u. lane_at u y ≡ lane_at t y) (λ e. simp frames) (λ n. simp frames)

  pub queue_marked : queue_of (mark t x) ≡ queue_of t
  queue_marked = marked_case (λ u. queue_of u ≡ queue_of t) (λ e. simp queue_frames) (λ n. simp queue_frames)

  pub free_marked : free_of (mark t x) ≡ free_of t
  free_marked = marked_case (λ u. free_of u ≡ free_of t) (λ e. simp registry_frames) (λ n. simp registry_frames)

  -- a column that is neither the pages' nor the groups'
  pub cell_marked : (c row : ℕ) → ltb c row_words ≡ true → eqb page_column c ≡ false → eqb group_column c ≡ false → cell (mark t x) c row ≡ cell t c row
  cell_marked c row p m n =
      marked_case (λ u. cell u c row ≡ cell t c row) (λ e. simp (frames, p, m, n)) (λ e. simp (frames, p, m))

  -- ---- the page words

  pub other_page_marked : (page : ℕ) → eqb page (x / 64) ≡ false → page_word (mark t x) page ≡ page_word t page
  other_page_marked page n = marked_case (λ u. page_word u page ≡ page_word t page) (λ e. simp (frames, n)) (λ e. simp (frames, n))

  module _ (r : HasRow (x / 64) (length t)) where
    pub page_marked : page_word (mark t x) (x / 64) ≡ with_bit (page_word t (x / 64)) (x % 64)
    page_marked =
        marked_case (λ u. page_word u (x / 64) ≡ with_bit (page_word t (x / 64)) (x % 64)) (λ e. simp (frames, has_row t (x / 64) r))
        (λ n. simp (frames, has_row t (x / 64) r))

    pub own_bit_marked : page_bit (mark t x) x ≡ 1
    own_bit_marked = ap (λ (w : ℕ). bit w (x % 64)) page_marked ∙ bit_set_same (page_word t (x / 64)) (x % 64)

    pub other_bit_marked : (y : ℕ) → (y ≡ x → ⊥) → page_bit (mark t x) y ≡ page_bit t y
    other_bit_marked y n = elim (same? (y / 64) (x / 64)) [
      | equal e p i ↦
          rw (e, page_marked) (bit_set_other (page_word t (x / 64)) (x % 64) (y % 64) (λ f. n (omega arith)))
      | other d p i ↦ ap (λ (w : ℕ). bit w (y % 64)) (other_page_marked (y / 64) p)
    ]

    -- marking sets exactly the slot's page bit
    pub bits_marked : (y : ℕ) → page_bit (mark t x) y ≡ cond (eqb x y) 1 (page_bit t y)
    bits_marked y = elim (same? x y) [
      | equal e p i ↦ rw (p, ← e) own_bit_marked
      | other d p i ↦ rw p (other_bit_marked y (λ e. d (sym e)))
    ]

    -- ---- the group words

    row_of_group : HasRow (x / 64 / 64) (length t)
    row_of_group = omega arith

    other_group_bit_marked : (page : ℕ) → (page ≡ x / 64 → ⊥) → group_bit (mark t x) page ≡ group_bit t page
    other_group_bit_marked page n = elim (same? (page / 64) (x / 64 / 64)) [
      | equal e p i ↦
          marked_case (λ u. group_bit u page ≡ group_bit t page)
          (λ z. rw e (simp (frames, has_row t (x / 64 / 64) row_of_group) (bit_set_other (group_word t (x / 64 / 64)) (x / 64 % 64) (page % 64) (λ f. n (omega arith)))))
          (λ z. simp frames)
      | other d p i ↦ marked_case (λ u. group_bit u page ≡ group_bit t page) (λ z. simp (frames, p)) (λ z. simp frames)
    ]

    module _ (k : Linked t) (h : 64 * (x / 64) < issued t) where
      not_zero : (n : ℕ) → (n ≡ 0 → ⊥) → non_zero n ≡ 1
      not_zero zero d = absurd (d refl)
      not_zero (suc n) d = refl

      own_group_bit_marked : group_bit (mark t x) (x / 64) ≡ 1
      own_group_bit_marked =
          marked_case (λ u. group_bit u (x / 64) ≡ 1)
          (λ z. simp (frames, has_row t (x / 64 / 64) row_of_group) (bit_set_same (group_word t (x / 64 / 64)) (x / 64 % 64)))
          (λ d. simp frames (k.linked (x / 64) h ∙ not_zero (page_word t (x / 64)) d))

pub ruleset mark_frames = (
  length_marked,
  head_marked,
  lane_marked,
  queue_marked,
  free_marked,
  cell_marked,
  other_page_marked,
)

-- pages and groups stay linked
pub linked_marked : (t : List ℕ) (x : ℕ) → Shaped t → x < issued t → Linked t → Linked (mark t x)
linked_marked t x s l k =
    let row : HasRow (x / 64) (length t) = omega (arith, s.room, s.issued_most) in
    let own : 64 * (x / 64) < issued t = omega arith in
    let same : issued (mark t x) ≡ issued t = head_marked t x 0 refl in
    record {
      of_issued = λ y h b. rw same (elim (same? y x) [
        | equal e p i ↦ rw e l
        | other d p i ↦ k.of_issued y (rw same at h) (sym (other_bit_marked t x row y d) ∙ b)
      ]);
      linked = λ page h. elim (same? page (x / 64)) [
        | equal e p i ↦
            rw (e, page_marked t x row)
            (own_group_bit_marked t x row k own
            ∙ sym (not_zero t x row k own (with_bit (page_word t (x / 64)) (x % 64)) (set_not_zero (page_word t (x / 64)) (x % 64))))
        | other d p i ↦ rw (other_page_marked t x page p) (other_group_bit_marked t x row page d ∙ k.linked page (rw same at h))
      ];
      of_pages = λ page h b. rw same (elim (same? page (x / 64)) [
        | equal e p i ↦ rw e own
        | other d p i ↦ k.of_pages page (rw same at h) (sym (other_group_bit_marked t x row page d) ∙ b)
      ]);
    }

pub kept_marked : (t : List ℕ) (x : ℕ) → Shaped t → QueueNames t → Kept t (mark t x)
kept_marked t x s q =
    record {
      shaped = marked_case t x Shaped (λ e. simp frames s) (λ n. simp frames s);
      names = names_same t (mark t x) q (head_marked t x 0 refl) (lane_marked t x) (λ y. ap (count y) (queue_marked t x));
      same_issued = head_marked t x 0 refl;
      long = length_marked t x;
    }
