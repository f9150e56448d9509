-- A slot issued for the first time: its page and group, the view, and the store in order that it leaves.
-- Assumes nothing.
use mathlib.Core.Path.{◌≡◌, refl, sym, ap, ap₂, ◌∙◌, subst}
use mathlib.Core.Logic.{◌≢◌}
use mathlib.Core.Bool.{Bool, true, false, cond}
use mathlib.Core.List.{List}
use Prim.Native.Nat.{ℕ, zero, suc, ◌+◌, ◌*◌, ◌/◌, ◌%◌, ◌^◌, ◌≤◌, ◌<◌}
use native.Mathlib.Nat.{mod-lt, zero-lt-suc, mul-mod_left}
use native.Mathlib.Numerals.{add-one}
use native.Mathlib.Decide.{dec_lt}
use native.Mathlib.Omega.{arith}
use borrow.Author.Tests.{lt-ltb, le-ltb, eqb-true, eqb-false, ne_eqb}
use lib.Dec.{eqb, ltb, leb}
use lib.ListN.{length}
use Rattle.model.specs.Lists.{if, count}
use Rattle.model.specs.State.{vacant, registered_lanes, living_senders}
use Rattle.model.specs.Changes.{with_issued, put}
use Rattle.demands.proofs.Counting.{Same, equal, other, same?}
use Rattle.demands.proofs.Simulation.{state_path}
use Rattle.demands.proofs.LaneIds.{channel_path}
use Rattle.lane.specs.declared.lane.Lane.{Lane}
use Rattle.yring.specs.Ring.{new_ring}
use Rattle.lane.specs.Lane.{held_items}
use Rattle.lane.specs.Order.{InOrder}
use Rattle.lane.specs.Table.{HasRow, header_words, head, set_cell, NarrowLane, lane_at, put_lane}
use Rattle.lane.proofs.TableLaws.{frames, has_row, lane_own_narrow, other_lane_kept}
use Rattle.queues.specs.Header.{Shaped, issued, slots, budget, capacity, fast_slot, lane_count, living_count, set_issued, set_lane_count, set_living_count}
use Rattle.queues.specs.Queue.{queue_of}
use Rattle.queues.specs.Registry.{free_of}
use Rattle.ready.specs.Bits.{bit}
use Rattle.ready.specs.Ready.{page_column, group_column, page_word, group_word, page_bit, group_bit, non_zero, Linked, open_group, open_page}
use Rattle.ready.proofs.BitLaws.{bit_zero}
use Rattle.queues.proofs.QueueLaws.{queue_frames, header_in}
use Rattle.queues.proofs.RegistryLaws.{registry_frames}
use Rattle.store.specs.View.{flag, slot_of, slot_at, view}
use Rattle.store.specs.Order.{Flags, Fast, MarkWords, Stores}
use Rattle.store.proofs.ViewLaws.{row_in, view_put_lane, put_put}
use Rattle.store.proofs.CountLaws.{SlotSum, lanes_sum, living_sum, number_more}
use Rattle.store.proofs.StepLaws.{linked_by, mark_words_by}

-- ---- the page and the group of a slot opened

module _ (t : List ℕ) (n : ℕ) where
  -- its group is opened too, its page alone, or neither
  opened_case : (P : List ℕ → Type 0)
      → (n % 64 ≡ 0 → n / 64 % 64 ≡ 0 → P (set_cell (set_cell t page_column (n / 64) 0) group_column (n / 64 / 64) 0))
      → (n % 64 ≡ 0 → n / 64 % 64 ≢ 0 → P (set_cell t page_column (n / 64) 0)) → (n % 64 ≢ 0 → P t) → P (open_page t n)
  unfolding open_page open_group
  opened_case P f g h = go (eqb (n % 64) 0) refl (eqb (n / 64 % 64) 0) refl
    where
      go : (a : Bool) → eqb (n % 64) 0 ≡ a → (b : Bool) → eqb (n / 64 % 64) 0 ≡ b
          → P (cond a (cond b (set_cell (set_cell t page_column (n / 64) 0) group_column (n / 64 / 64) 0) (set_cell t page_column (n / 64) 0)) t)
      go true p true q = f (eqb-true _ _ p) (eqb-true _ _ q)
      go true p false q = g (eqb-true _ _ p) (eqb-false _ _ q)
      go false p b q = h (eqb-false _ _ p)

  pub length_opened_page : length (open_page t n) ≡ length t
  length_opened_page = opened_case (λ u. length u ≡ length t) (λ a b. simp frames) (λ a b. simp frames) (λ a. refl)

  pub head_opened_page : (k : ℕ) → ltb k header_words ≡ true → head (open_page t n) k ≡ head t k
  head_opened_page k p = opened_case (λ u. head u k ≡ head t k) (λ a b. simp (frames, p)) (λ a b. simp (frames, p)) (λ a. refl)

  pub lane_opened_page : (y : ℕ) → lane_at (open_page t n) y ≡ lane_at t y
  lane_opened_page y = opened_case (λ u. lane_at u y ≡ lane_at t y) (λ a b. simp frames) (λ a b. simp frames) (λ a. refl)

  pub queue_opened_page : queue_of (open_page t n) ≡ queue_of t
  queue_opened_page = opened_case (λ u. queue_of u ≡ queue_of t) (λ a b. simp queue_frames) (λ a b. simp queue_frames) (λ a. refl)

  pub free_opened_page : free_of (open_page t n) ≡ free_of t
  free_opened_page = opened_case (λ u. free_of u ≡ free_of t) (λ a b. simp registry_frames) (λ a b. simp registry_frames) (λ a. refl)

  -- the words of other pages and groups
  page_left : (p : ℕ) → (n % 64 ≡ 0 → p ≢ n / 64) → page_word (open_page t n) p ≡ page_word t p
  page_left p d =
      opened_case (λ u. page_word u p ≡ page_word t p) (λ a b. simp (frames, ne_eqb p (n / 64) (d a))) (λ a b. simp (frames, ne_eqb p (n / 64) (d a))) (λ a. refl)

  group_left : (g : ℕ) → (n % 4096 ≡ 0 → g ≢ n / 64 / 64) → group_word (open_page t n) g ≡ group_word t g
  group_left g d =
      opened_case (λ u. group_word u g ≡ group_word t g) (λ a b. simp (frames, ne_eqb g (n / 64 / 64) (d (omega arith)))) (λ a b. simp frames) (λ a. refl)

  module _ (r : HasRow n (length t)) where
    -- the first slot of a page finds it 0, the first page of a group finds that 0
    page_opened : n % 64 ≡ 0 → page_word (open_page t n) (n / 64) ≡ 0
    page_opened z =
        let row = has_row t (n / 64) (omega arith) in
        opened_case (λ u. page_word u (n / 64) ≡ 0) (λ a b. simp (frames, row)) (λ a b. simp (frames, row)) (λ a. absurd (a z))

    group_opened : n % 4096 ≡ 0 → group_word (open_page t n) (n / 64 / 64) ≡ 0
    group_opened z =
        let row = has_row t (n / 64 / 64) (omega arith) in
        let e : n / 64 ≡ n / 4096 * 64 = omega arith in
        let f : n / 64 % 64 ≡ 0 = ap (λ (v : ℕ). v % 64) e ∙ mul-mod_left (n / 4096) 64 in
        opened_case (λ u. group_word u (n / 64 / 64) ≡ 0) (λ a b. simp (frames, row)) (λ a b. absurd (b f)) (λ a. absurd (a (omega arith)))

-- a bit that is not 1 is 0
not_one : (w b : ℕ) → bit w b ≢ 1 → bit w b ≡ 0
not_one w b n = omega (arith, mod-lt (w / 2 ^ b) (zero-lt-suc 1))

no_bit : {w : ℕ} (b : ℕ) → w ≡ 0 → bit w b ≢ 1
no_bit b z e = let o : ◌≡◌ {A = ℕ} 1 0 = sym e ∙ ap (λ (x : ℕ). bit x b) z ∙ bit_zero b in omega arith

-- the next slot issued, its page and group opened
abbrev pub issued_next : List ℕ → List ℕ
issued_next t = set_issued (open_page t (issued t)) (issued t + 1)

module _ (t : List ℕ) (s : Shaped t) (k : Linked t) (below : issued t < slots t) where
  abbrev n : ℕ
  n = issued t

  abbrev u : List ℕ
  u = issued_next t

  row : HasRow n (length t)
  row = omega (arith, s.room)

  header_opened : leb header_words (length (open_page t n)) ≡ true
  header_opened = rw (length_opened_page t n) (header_in t s)

  pub issued_next_lem : issued u ≡ n + 1
  issued_next_lem = simp (frames, header_opened)

  pub head_issued_next : (j : ℕ) → ltb j header_words ≡ true → eqb 0 j ≡ false → head u j ≡ head t j
  head_issued_next j p d = simp (frames, d) (head_opened_page t n j p)

  pub length_issued_next : length u ≡ length t
  length_issued_next = simp frames (length_opened_page t n)

  pub lane_issued_next : (y : ℕ) → lane_at u y ≡ lane_at t y
  lane_issued_next y = simp frames (lane_opened_page t n y)

  pub queue_issued_next : queue_of u ≡ queue_of t
  queue_issued_next = simp queue_frames (queue_opened_page t n)

  pub free_issued_next : free_of u ≡ free_of t
  free_issued_next = simp registry_frames (free_opened_page t n)

  page_same : (p : ℕ) → page_word u p ≡ page_word (open_page t n) p
  page_same p = simp frames

  group_same : (g : ℕ) → group_word u g ≡ group_word (open_page t n) g
  group_same g = simp frames

  pub shaped_issued_next : Shaped u
  shaped_issued_next =
      let hd = head_issued_next in
      record {
        issued_most = rw (issued_next_lem, hd 4 refl refl) (omega arith);
        front_in = rw (hd 1 refl refl, hd 4 refl refl) s.front_in;
        count_most = rw (hd 2 refl refl, hd 4 refl refl) s.count_most;
        free_most = rw (hd 3 refl refl, hd 4 refl refl) s.free_most;
        slots_most = rw (hd 4 refl refl) s.slots_most;
        cursor_most = rw (hd 6 refl refl) s.cursor_most;
        room = rw (hd 4 refl refl, length_issued_next) s.room;
      }

  -- ---- the page bits

  pub page_bit_before : (y : ℕ) → y < n → page_bit u y ≡ page_bit t y
  page_bit_before y h = ap (λ (w : ℕ). bit w (y % 64)) (page_same (y / 64) ∙ page_left t n (y / 64) (λ z e. omega arith))

  pub page_bit_next : page_bit u n ≡ 0
  page_bit_next = elim (same? (n % 64) 0) [
    | equal e p i ↦ ap (λ (w : ℕ). bit w (n % 64)) (page_same (n / 64) ∙ page_opened t n row e) ∙ bit_zero (n % 64)
    | other d p i ↦
        not_one (page_word u (n / 64)) (n % 64)
        (λ e.
        let same : page_word u (n / 64) ≡ page_word t (n / 64) = page_same (n / 64) ∙ page_left t n (n / 64) (λ z. absurd (d z)) in
        let b : n < n = k.of_issued n (omega arith) (ap (λ (w : ℕ). bit w (n % 64)) (sym same) ∙ e) in
        omega arith)
  ]

  -- pages and groups stay linked
  pub linked_issued_next : Linked u
  linked_issued_next =
      record {
        of_issued = λ y h e. rw issued_next_lem (slot y (rw issued_next_lem at h) e);
        linked = λ p h. page p (rw issued_next_lem at h);
        of_pages = λ p h e. rw issued_next_lem (group p (rw issued_next_lem at h) e);
      }
    where
      slot : (y : ℕ) → 64 * (y / 64) < n + 1 → page_bit u y ≡ 1 → y < n + 1
      slot y h e = elim (same? (64 * (y / 64)) n) [
        | equal z p i ↦
            let m : n % 64 ≡ 0 = omega arith in
            let at : y / 64 ≡ n / 64 = omega arith in
            absurd (no_bit (y % 64) (page_same (y / 64) ∙ ap (page_word (open_page t n)) at ∙ page_opened t n row m) e)
        | other d p i ↦
            let same : page_word u (y / 64) ≡ page_word t (y / 64) = page_same (y / 64) ∙ page_left t n (y / 64) (λ z f. d (omega arith)) in
            let b : y < n = k.of_issued y (omega arith) (ap (λ (w : ℕ). bit w (y % 64)) (sym same) ∙ e) in
            omega arith
      ]

      page : (p : ℕ) → 64 * p < n + 1 → group_bit u p ≡ non_zero (page_word u p)
      page p h = elim (same? (64 * p) n) [
        | equal z q i ↦
            let m : n % 64 ≡ 0 = omega arith in
            let at : p ≡ n / 64 = omega arith in
            let empty : page_word u p ≡ 0 = page_same p ∙ ap (page_word (open_page t n)) at ∙ page_opened t n row m in
            rw empty (not_one (group_word u (p / 64)) (p % 64) (λ e. unset p z e (same? (p % 64) 0)))
        | other d q i ↦
            let below_n : 64 * p < n = omega arith in
            let same : page_word u p ≡ page_word t p = page_same p ∙ page_left t n p (λ z f. d (omega arith)) in
            let same' : group_word u (p / 64) ≡ group_word t (p / 64) = group_same (p / 64) ∙ group_left t n (p / 64) (λ z f. omega arith) in
            rw (same, same') (k.linked p below_n)
      ]
        where
          unset : (p : ℕ) → 64 * p ≡ n → group_bit u p ≡ 1 → Same (p % 64) 0 → ⊥
          unset p z e (equal m q i) =
              let at : p / 64 ≡ n / 64 / 64 = omega arith in
              no_bit (p % 64) (group_same (p / 64) ∙ ap (group_word (open_page t n)) at ∙ group_opened t n row (omega arith)) e
          unset p z e (other m q i) =
              let same : group_word u (p / 64) ≡ group_word t (p / 64) = group_same (p / 64) ∙ group_left t n (p / 64) (λ c f. m (omega arith)) in
              let b : 64 * p < n = k.of_pages p (omega arith) (ap (λ (w : ℕ). bit w (p % 64)) (sym same) ∙ e) in
              omega arith

      group : (p : ℕ) → 4096 * (p / 64) < n + 1 → group_bit u p ≡ 1 → 64 * p < n + 1
      group p h e = elim (same? (4096 * (p / 64)) n) [
        | equal z q i ↦
            let at : p / 64 ≡ n / 64 / 64 = omega arith in
            absurd (no_bit (p % 64) (group_same (p / 64) ∙ ap (group_word (open_page t n)) at ∙ group_opened t n row (omega arith)) e)
        | other d q i ↦
            let same : group_word u (p / 64) ≡ group_word t (p / 64) = group_same (p / 64) ∙ group_left t n (p / 64) (λ z f. d (omega arith)) in
            let b : 64 * p < n = k.of_pages p (omega arith) (ap (λ (w : ℕ). bit w (p % 64)) (sym same) ∙ e) in
            omega arith
      ]

  -- and are u64
  pub mark_words_issued_next : MarkWords t → MarkWords u
  mark_words_issued_next m =
      record {
        pages_fit = λ p h. page p (rw issued_next_lem at h);
        groups_fit = λ g h. group g (rw issued_next_lem at h);
      }
    where
      page : (p : ℕ) → 64 * p < n + 1 → page_word u p < 2 ^ 64
      page p h = elim (same? (64 * p) n) [
        | equal z q i ↦
            let at : p ≡ n / 64 = omega arith in
            rw (page_same p ∙ ap (page_word (open_page t n)) at ∙ page_opened t n row (omega arith)) (omega arith)
        | other d q i ↦ rw (page_same p ∙ page_left t n p (λ z f. d (omega arith))) (m.pages_fit p (omega arith))
      ]

      group : (g : ℕ) → 4096 * g < n + 1 → group_word u g < 2 ^ 64
      group g h = elim (same? (4096 * g) n) [
        | equal z q i ↦
            let at : g ≡ n / 64 / 64 = omega arith in
            rw (group_same g ∙ ap (group_word (open_page t n)) at ∙ group_opened t n row (omega arith)) (omega arith)
        | other d q i ↦ rw (group_same g ∙ group_left t n g (λ z f. d (omega arith))) (m.groups_fit g (omega arith))
      ]

  -- ---- the view

  slot_before : (r : List ℕ) (y : ℕ) → y < n → slot_at u r y ≡ slot_at t r y
  unfolding slot_at
  slot_before r y h = rw (lane_issued_next y, page_bit_before y h, head_issued_next 8 refl refl)

  view_issued_next : (r : List ℕ) → view u r ≡ with_issued (suc n) (put n (slot_at u r n) (view t r))
  unfolding view
  view_issued_next r =
      let hd = head_issued_next in
      state_path _ _ (λ y. rw issued_next_lem (go y (same? n y) (dec_lt y n))) queue_issued_next free_issued_next (issued_next_lem ∙ add-one n) (hd 5 refl refl) (hd 6 refl refl)
      (ap flag (hd 7 refl refl)) (hd 8 refl refl) (hd 4 refl refl) (channel_path _ _ (hd 9 refl refl) (hd 15 refl refl)) (hd 11 refl refl)
    where
      go : (y : ℕ) → Same n y → Dec (y < n) → if (ltb y (n + 1)) (slot_at u r y) vacant ≡ if (eqb n y) (slot_at u r n) (if (ltb y n) (slot_at t r y) vacant)
      go y (equal e p i) c = rw (p, ← e, lt-ltb n (n + 1) (omega arith))
      go y (other d p i) (yes c) = rw (p, lt-ltb y n c, lt-ltb y (n + 1) (omega arith), slot_before r y c)
      go y (other d p i) (no c) = rw (p, le-ltb y n (omega arith), le-ltb y (n + 1) (omega arith))

  -- a lane stored in the next slot
  pub view_issued : (r : List ℕ) (l : Lane) → l.key.slot ≡ n → NarrowLane l
      → view (put_lane u l) r ≡ with_issued (suc n) (put n (slot_of l 0 (held_items (new_ring n (capacity t)) r l)) (view t r))
  view_issued r l e a =
      view_put_lane u shaped_issued_next l n e a (rw issued_next_lem (omega arith)) r
      ∙ ap₂ (λ (b c : ℕ). put n (slot_of l b (held_items (new_ring n c) r l)) (view u r)) page_bit_next (head_issued_next 8 refl refl)
      ∙ ap (put n (slot_of l 0 (held_items (new_ring n (capacity t)) r l))) (view_issued_next r)
      ∙ ap (with_issued (suc n)) (put_put n (slot_of l 0 (held_items (new_ring n (capacity t)) r l)) (slot_at u r n) (view t r))

-- ---- the store in order that it leaves

-- what is known of the table with one more slot issued
record IssuedOne (t u : List ℕ) : Type 0 where
  shaped : Shaped u
  linked : Linked u
  mark_words : MarkWords u
  issued_is : issued u ≡ issued t + 1
  heads : (j : ℕ) → ltb j header_words ≡ true → eqb 0 j ≡ false → head u j ≡ head t j
  lanes : (y : ℕ) → lane_at u y ≡ lane_at t y
  queue : queue_of u ≡ queue_of t

-- a lane newly registered in it, with the two counts one more
module _ (t r u : List ℕ) (o : Stores t r) (d : IssuedOne t u) (l : Lane) (e : l.key.slot ≡ issued t) (fits : NarrowLane l) where
  abbrev v : List ℕ
  v = set_living_count (set_lane_count (put_lane u l) (lane_count t + 1)) (living_count t + 1)

  at_end : leb header_words (length u) ≡ true
  at_end = header_in u d.shaped

  heads_now : (j : ℕ) → ltb j header_words ≡ true → eqb 0 j ≡ false → eqb 13 j ≡ false → eqb 14 j ≡ false → head v j ≡ head t j
  heads_now j p a b c = simp (frames, p, b, c) (d.heads j p a)

  issued_now : issued v ≡ issued t + 1
  issued_now = simp frames d.issued_is

  own_now : lane_at v (issued t) ≡ l
  own_now = simp frames (lane_own_narrow u l (issued t) e (has_row u (issued t) (row_in u d.shaped (issued t) (omega (arith, d.issued_is)))) fits)

  before_now : (y : ℕ) → y < issued t → lane_at v y ≡ lane_at t y
  before_now y h = simp frames (other_lane_kept u l y (λ p. omega (arith, e)) ∙ d.lanes y)

  queue_now : queue_of v ≡ queue_of t
  queue_now = simp queue_frames d.queue

  -- what holds of the new lane, and of the lanes before, holds of every issued lane now
  each_now : (P : ℕ → Lane → Type 0) → P (issued t) l → ((y : ℕ) → y < issued t → P y (lane_at t y)) → (y : ℕ) → y < issued v → P y (lane_at v y)
  each_now P a b y h = elim (same? (issued t) y) [
    | equal p q i ↦ subst (λ (z : ℕ). P z (lane_at v z)) p (subst (P (issued t)) (sym own_now) a)
    | other n q i ↦ let c : y < issued t = omega (arith, issued_now) in subst (P y) (sym (before_now y c)) (b y c)
  ]

  linked_now : Linked v
  linked_now = linked_by u v (simp frames) (λ p. simp frames) (λ g. simp frames) d.linked

  module _ (flags : Flags l) (order : InOrder (capacity t) l) (registered : l.registered ≡ 1) (living : l.living ≡ 1) (unqueued : l.queued ≡ 0) (closed : l.window ≡ 0) where
    -- nothing in the queue is past the slots issued before
    unnamed : count (issued t) (queue_of t) ≡ 0
    unnamed = go (count (issued t) (queue_of t)) (o.named.issued_only (issued t))
      where
        go : (c : ℕ) → (1 ≤ c → issued t < issued t) → c ≡ 0
        go zero f = refl
        go (suc c) f = absurd (omega (arith, f (omega arith)))

    -- a header word that is a sum over the slots, and counts the new lane
    sum_now : (c : SlotSum) {z i : ℕ} → i ≡ c.number (view t r) → z ≡ i + c.by_words l → z ≡ c.number (view v r)
    sum_now c e g = omega (arith, e, g, number_more c t r v r issued_now before_now, ap c.by_words own_now)

    lanes_now : lane_count v ≡ registered_lanes (view v r)
    lanes_now = sum_now lanes_sum o.lanes_counted (rw registered (simp (frames, at_end)))

    living_now : living_count v ≡ living_senders (view v r)
    living_now = sum_now living_sum o.living_counted (rw living (simp (frames, at_end)))

    stores_now : Stores v r
    stores_now =
        record {
          shaped = simp frames d.shaped;
          fast_below = rw (heads_now 12 refl refl refl refl, heads_now 4 refl refl refl refl) o.fast_below;
          power = rw (heads_now 8 refl refl refl refl) o.power;
          rings_room = rw (heads_now 8 refl refl refl refl, heads_now 4 refl refl refl refl) o.rings_room;
          alive_flag = rw (heads_now 7 refl refl refl refl) o.alive_flag;
          first_cursor = rw (heads_now 10 refl refl refl refl) o.first_cursor;
          flags = each_now (λ y j. Flags j) flags o.flags;
          lanes = rw (heads_now 8 refl refl refl refl) (each_now (λ y j. j.registered ≡ 1 → InOrder (capacity t) j) (λ z. order) o.lanes);
          named =
              record {
                once = λ y. rw queue_now (o.named.once y);
                issued_only = λ y c. omega (arith, issued_now, o.named.issued_only y (rw queue_now at c));
                flagged = rw queue_now (each_now (λ y j. j.registered ≡ 1 → j.queued ≡ count y (queue_of t)) (λ z. unqueued ∙ sym unnamed) o.named.flagged);
              };
          linked = linked_now;
          mark_words = mark_words_by u v (simp frames) (λ p. simp frames) (λ g. simp frames) d.mark_words;
          windows = rw (queue_now, heads_now 5 refl refl refl refl, heads_now 12 refl refl refl refl)
              (each_now (λ y j. j.registered ≡ 1 → 0 < j.window → Fast y (fast_slot t) (queue_of t) j.window (budget t)) (λ z c. absurd (omega arith)) o.windows);
          lanes_counted = lanes_now;
          living_counted = living_now;
        }

module _ (t r : List ℕ) (o : Stores t r) (below : issued t < slots t) where
  issued_one : IssuedOne t (issued_next t)
  issued_one =
      record {
        shaped = shaped_issued_next t o.shaped o.linked below;
        linked = linked_issued_next t o.shaped o.linked below;
        mark_words = mark_words_issued_next t o.shaped o.linked below o.mark_words;
        issued_is = issued_next_lem t o.shaped o.linked below;
        heads = head_issued_next t o.shaped o.linked below;
        lanes = lane_issued_next t o.shaped o.linked below;
        queue = queue_issued_next t o.shaped o.linked below;
      }

  -- a lane newly registered in the next slot, with the two counts one more, leaves a store in order
  pub stores_registered_next : (l : Lane) → l.key.slot ≡ issued t → NarrowLane l → Flags l → InOrder (capacity t) l → l.registered ≡ 1 → l.living ≡ 1 → l.queued ≡ 0 → l.window ≡ 0
      → Stores (set_living_count (set_lane_count (put_lane (issued_next t) l) (lane_count t + 1)) (living_count t + 1)) r
  stores_registered_next l e a = stores_now t r (issued_next t) o issued_one l e a
