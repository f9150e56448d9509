-- The header stored: its words are read back, the rows are as they were; and a channel that was just opened.
-- Assumes nothing.
use mathlib.Core.Path.{◌≡◌, refl}
use mathlib.Core.Bool.{true}
use mathlib.Core.List.{List, []}
use Prim.Native.Nat.{ℕ, ◌≤◌}
use native.Mathlib.Omega.{arith}
use borrow.Author.Tests.{leb-true, le-leb, ltb-true}
use lib.Dec.{ltb, leb}
use lib.ListN.{length, get_or}
use Rattle.model.specs.Lists.{count}
use Rattle.model.specs.declared.Opening.{Opening}
use Rattle.lane.specs.Table.{header_words, head, cell_at, cell, lane_at}
use Rattle.yring.proofs.ListLaws.{length_scatter, scatter_in, scatter_out}
use Rattle.queues.specs.declared.header.Header.{Header}
use Rattle.queues.specs.Header.{Shaped, new_header, header_list, put_header}
use Rattle.queues.specs.Queue.{queue_of, QueueNames}
use Rattle.queues.specs.Registry.{free_of}

module _ (t : List ℕ) (h : Header) where
  pub length_put_header : length (put_header t h) ≡ length t
  unfolding put_header
  length_put_header = length_scatter (header_list h) t (λ i. i)

  -- each header word reads as put
  pub head_put_header : (k : ℕ) → leb header_words (length t) ≡ true → ltb k (length (header_list h)) ≡ true
      → head (put_header t h) k ≡ get_or (header_list h) k 0
  unfolding put_header
  head_put_header k r p =
      scatter_in (header_list h) t (λ i. i) (λ i l. omega (arith, leb-true header_words (length t) r)) (λ i j a b e. omega arith) k
      (ltb-true k (length (header_list h)) p)

  -- the header's other words
  pub rest_put_header : (k : ℕ) → leb (length (header_list h)) k ≡ true → head (put_header t h) k ≡ head t k
  unfolding put_header
  rest_put_header k p =
      scatter_out (header_list h) t (λ i. i) k (λ i l e. omega (arith, leb-true (length (header_list h)) k p))

  pub cell_put_header : (c row : ℕ) → cell (put_header t h) c row ≡ cell t c row
  unfolding put_header
  cell_put_header c row = scatter_out (header_list h) t (λ i. i) (cell_at c row) (λ i l e. omega arith)

  pub lane_put_header : (slot : ℕ) → lane_at (put_header t h) slot ≡ lane_at t slot
  unfolding lane_at
  lane_put_header slot = simp cell_put_header

pub ruleset header_frames = (
  length_put_header,
  head_put_header,
  rest_put_header,
  cell_put_header,
  lane_put_header,
)

-- ---- a channel that was just opened, with S from 1 to 8,192 and words enough

module _ (t : List ℕ) (o : Opening) (C : ℕ) (some : 1 ≤ o.slots) (most : o.slots ≤ 8192) (enough : cell_at 0 o.slots ≤ length t) where
  header_fits : leb header_words (length t) ≡ true
  header_fits = le-leb header_words (length t) (omega arith)

  pub shaped_opened : Shaped (put_header t (new_header o C))
  shaped_opened = simp (header_frames, header_fits) (omega arith)

  pub queue_opened : queue_of (put_header t (new_header o C)) ≡ []
  unfolding queue_of
  queue_opened = simp (header_frames, header_fits)

  pub free_opened : free_of (put_header t (new_header o C)) ≡ []
  unfolding free_of
  free_opened = simp (header_frames, header_fits)

  -- each header word reads as put
  pub head_opened : (k : ℕ) → ltb k (length (header_list (new_header o C))) ≡ true
      → head (put_header t (new_header o C)) k ≡ get_or (header_list (new_header o C)) k 0
  head_opened k p = head_put_header t (new_header o C) k header_fits p

  pub names_opened : QueueNames (put_header t (new_header o C))
  unfolding count
  names_opened =
      record {
        once = λ x. rw queue_opened (omega arith);
        issued_only = λ x. rw queue_opened (λ h. absurd (omega arith));
        flagged = λ x h. absurd (omega (arith, head_opened 0 refl));
      }
