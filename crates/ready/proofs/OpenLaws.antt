-- A page or group that comes to be with the first of its slots: pages and groups stay linked when the next unused slot is issued, and the
-- lanes, the queue and the free list are as they were.
-- Assumes nothing.
use mathlib.Core.Path.{◌≡◌, refl, sym, ap, ◌∙◌}
use mathlib.Core.Bool.{Bool, true, false, cond}
use mathlib.Core.List.{List}
use Prim.Native.Nat.{ℕ, ◌+◌, ◌*◌, ◌/◌, ◌%◌, ◌^◌, ◌<◌}
use native.Mathlib.Nat.{mod-lt, zero-lt-suc}
use native.Mathlib.Decide.{dec_lt}
use native.Mathlib.Omega.{arith}
use borrow.Author.Tests.{eqb-true, eqb-false, ne_eqb}
use lib.Dec.{ltb, leb, eqb}
use lib.ListN.{length}
use Rattle.lane.specs.Table.{header_words, HasRow, head, set_cell, lane_at}
use Rattle.lane.proofs.TableLaws.{frames, has_row}
use Rattle.queues.specs.Header.{Shaped, issued, slots, set_issued}
use Rattle.queues.specs.Queue.{queue_of}
use Rattle.queues.specs.Registry.{free_of}
use Rattle.ready.specs.Bits.{bit}
use Rattle.ready.specs.Ready.{page_column, group_column, page_word, group_word, page_bit, group_bit, non_zero, Linked, open_group, open_page}
use Rattle.ready.proofs.BitLaws.{bit_zero}
use Rattle.queues.proofs.FrameLaws.{ready_frames}
use Rattle.queues.proofs.QueueLaws.{header_in}

-- the first slot of a group is of its first page
first_page : (x : ℕ) → x % 4096 ≡ 0 → x / 64 % 64 ≡ 0
first_page x e = let d : x / 64 ≡ 64 * (x / 4096) = omega arith in omega arith

module _ (t : List ℕ) (x : ℕ) where
  -- opening does one of three things
  opened_case : (P : List ℕ → Type 0) → ((x % 64 ≡ 0 → ⊥) → P t)
      → (x % 64 ≡ 0 → (x / 64 % 64 ≡ 0 → ⊥) → P (set_cell t page_column (x / 64) 0))
      → (x % 64 ≡ 0 → x / 64 % 64 ≡ 0 → P (set_cell (set_cell t page_column (x / 64) 0) group_column (x / 64 / 64) 0)) → P (open_page t x)
  unfolding open_page open_group
  opened_case P f g h = go (eqb (x % 64) 0) refl (eqb (x / 64 % 64) 0) refl
    where
      go : (a : Bool) → eqb (x % 64) 0 ≡ a → (b : Bool) → eqb (x / 64 % 64) 0 ≡ b
          → P (cond a (cond b (set_cell (set_cell t page_column (x / 64) 0) group_column (x / 64 / 64) 0) (set_cell t page_column (x / 64) 0)) t)
      go true e true d = h (eqb-true (x % 64) 0 e) (eqb-true (x / 64 % 64) 0 d)
      go true e false d = g (eqb-true (x % 64) 0 e) (eqb-false (x / 64 % 64) 0 d)
      go false e b d = f (eqb-false (x % 64) 0 e)

  pub length_opened : length (open_page t x) ≡ length t
  length_opened = opened_case (λ u. length u ≡ length t) (λ a. refl) (λ a b. simp frames) (λ a b. simp frames)

  pub head_opened : (k : ℕ) → ltb k header_words ≡ true → head (open_page t x) k ≡ head t k
  head_opened k p = opened_case (λ u. head u k ≡ head t k) (λ a. refl) (λ a b. simp (frames, p)) (λ a b. simp (frames, p))

  pub lane_opened : (y : ℕ) → lane_at (open_page t x) y ≡ lane_at t y
  lane_opened y = opened_case (λ u. lane_at u y ≡ lane_at t y) (λ a. refl) (λ a b. simp frames) (λ a b. simp frames)

  pub queue_opened : queue_of (open_page t x) ≡ queue_of t
  queue_opened = opened_case (λ u. queue_of u ≡ queue_of t) (λ a. refl) (λ a b. simp ready_frames) (λ a b. simp ready_frames)

  pub free_opened : free_of (open_page t x) ≡ free_of t
  free_opened = opened_case (λ u. free_of u ≡ free_of t) (λ a. refl) (λ a b. simp ready_frames) (λ a b. simp ready_frames)

  -- the page and the group words
  pub page_opened : HasRow (x / 64) (length t) → x % 64 ≡ 0 → page_word (open_page t x) (x / 64) ≡ 0
  page_opened r e =
      opened_case (λ u. page_word u (x / 64) ≡ 0) (λ a. absurd (a e)) (λ a b. simp (frames, has_row t (x / 64) r))
      (λ a b. simp (frames, has_row t (x / 64) r))

  pub page_not_opened : (page : ℕ) → (page ≡ x / 64 → x % 64 ≡ 0 → ⊥) → page_word (open_page t x) page ≡ page_word t page
  page_not_opened page n =
      opened_case (λ u. page_word u page ≡ page_word t page) (λ a. refl)
      (λ a b. simp (frames, ne_eqb page (x / 64) (λ e. n e a))) (λ a b. simp (frames, ne_eqb page (x / 64) (λ e. n e a)))

  pub group_opened : HasRow (x / 64 / 64) (length t) → x % 4096 ≡ 0 → group_word (open_page t x) (x / 64 / 64) ≡ 0
  group_opened r e =
      opened_case (λ u. group_word u (x / 64 / 64) ≡ 0) (λ a. absurd (a (omega arith))) (λ a b. absurd (b (first_page x e)))
      (λ a b. simp (frames, has_row t (x / 64 / 64) r))

  pub group_not_opened : (group : ℕ) → (group ≡ x / 64 / 64 → x % 4096 ≡ 0 → ⊥) → group_word (open_page t x) group ≡ group_word t group
  group_not_opened group n =
      opened_case (λ u. group_word u group ≡ group_word t group) (λ a. refl) (λ a b. simp frames)
      (λ a b. simp (frames, ne_eqb group (x / 64 / 64) (λ e. n e (omega arith))))

pub ruleset open_frames = (
  length_opened,
  head_opened,
  lane_opened,
  queue_opened,
  free_opened,
)

-- before any slot is issued no word is of a page that exists
pub linked_none : (t : List ℕ) → issued t ≡ 0 → Linked t
linked_none t e =
    record {
      of_issued = λ y h b. absurd (omega arith);
      linked = λ page h. absurd (omega arith);
      of_pages = λ page h b. absurd (omega arith);
    }

-- the next unused slot is issued
module _ (t : List ℕ) (s : Shaped t) (room : issued t < slots t) (k : Linked t) where
  absent : {w : ℕ} (b : ℕ) → w ≡ 0 → bit w b ≡ 1 → ⊥
  absent b z e = let o : ◌≡◌ {A = ℕ} 1 0 = sym e ∙ ap (λ (x : ℕ). bit x b) z ∙ bit_zero b in omega arith

  unset : (w b : ℕ) → (bit w b ≡ 1 → ⊥) → bit w b ≡ 0
  unset w b n = omega (arith, mod-lt (w / 2 ^ b) (zero-lt-suc 1))

  pub linked_issued : Linked (set_issued (open_page t (issued t)) (issued t + 1))
  linked_issued =
      let x = issued t in
      let u = open_page t x in
      let header : leb header_words (length u) ≡ true = rw (length_opened t x) (header_in t s) in
      let one : issued (set_issued u (x + 1)) ≡ x + 1 = simp (frames, header) in
      record {
        of_issued = λ y h b.
            let h' : 64 * (y / 64) < x + 1 = rw one at h in
            let b' : page_bit u y ≡ 1 = simp frames at b in
            rw one (issued_bit y h' b');
        linked = λ page h. simp frames (link page (rw one at h));
        of_pages = λ page h b.
            let h' : 4096 * (page / 64) < x + 1 = rw one at h in
            let b' : group_bit u page ≡ 1 = simp frames at b in
            let was : 64 * page < x = existing page h' b' in
            rw one (omega arith);
      }
    where
      row : HasRow (issued t / 64) (length t)
      row = omega (arith, s.room)

      up : HasRow (issued t / 64 / 64) (length t)
      up = omega (arith, s.room)

      -- a page that was there before
      old_page : (page : ℕ) → 64 * page < issued t → page_word (open_page t (issued t)) page ≡ page_word t page
      old_page page h = page_not_opened t (issued t) page (λ e z. omega arith)

      old_group : (group : ℕ) → 4096 * group < issued t → group_word (open_page t (issued t)) group ≡ group_word t group
      old_group group h = group_not_opened t (issued t) group (λ e z. omega arith)

      issued_bit : (y : ℕ) → 64 * (y / 64) < issued t + 1 → page_bit (open_page t (issued t)) y ≡ 1 → y < issued t + 1
      issued_bit y h b = go (dec_lt (64 * (y / 64)) (issued t))
        where
          go : Dec (64 * (y / 64) < issued t) → y < issued t + 1
          go (yes l) =
              let was : y < issued t = k.of_issued y l (rw (old_page (y / 64) l) at b) in
              omega arith
          go (no n) =
              let same : issued t / 64 ≡ y / 64 = omega arith in
              absurd (absent (y % 64) (ap (page_word (open_page t (issued t))) (sym same) ∙ page_opened t (issued t) row (omega arith)) b)

      existing : (page : ℕ) → 4096 * (page / 64) < issued t + 1 → group_bit (open_page t (issued t)) page ≡ 1 → 64 * page < issued t
      existing page h b = go (dec_lt (4096 * (page / 64)) (issued t))
        where
          go : Dec (4096 * (page / 64) < issued t) → 64 * page < issued t
          go (yes l) = k.of_pages page l (rw (old_group (page / 64) l) at b)
          go (no n) =
              let same : issued t / 64 / 64 ≡ page / 64 = omega arith in
              absurd (absent (page % 64) (ap (group_word (open_page t (issued t))) (sym same) ∙ group_opened t (issued t) up (omega arith)) b)

      link : (page : ℕ) → 64 * page < issued t + 1 → group_bit (open_page t (issued t)) page ≡ non_zero (page_word (open_page t (issued t)) page)
      link page h = go (dec_lt (64 * page) (issued t))
        where
          go : Dec (64 * page < issued t) → group_bit (open_page t (issued t)) page ≡ non_zero (page_word (open_page t (issued t)) page)
          go (yes l) = rw (old_page page l, old_group (page / 64) (omega arith)) (k.linked page l)
          go (no n) =
              let same : issued t / 64 ≡ page = omega arith in
              let empty : page_word (open_page t (issued t)) page ≡ 0 = ap (page_word (open_page t (issued t))) (sym same) ∙ page_opened t (issued t) row (omega arith) in
              rw empty
              (unset (group_word (open_page t (issued t)) (page / 64)) (page % 64) (λ b. omega (arith, existing page (omega arith) b)))
