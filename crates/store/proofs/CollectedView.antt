-- Collecting on the words is the rules' collecting on the view.
-- Assumes nothing.
use mathlib.Core.Path.{◌≡◌, refl, sym, ap, ap₂, ◌∙◌, subst}
use mathlib.Core.Logic.{◌≢◌}
use mathlib.Core.Bool.{Bool, true, false, not, ◌&&◌}
use mathlib.Core.List.{List, [], ◌∷◌, ◌++◌, foldl, append-nil}
use Prim.Native.Nat.{ℕ, zero, suc, ◌+◌, ◌-◌, ◌*◌, ◌/◌, ◌%◌, ◌≤◌, ◌<◌}
use native.Mathlib.Nat.{pos_of_ne-zero}
use native.Mathlib.Numerals.{add-one}
use native.Mathlib.Decide.{dec_lt}
use native.Mathlib.Omega.{arith}
use borrow.Author.Tests.{lt-ltb, le-ltb, ltb-true, ltb-false, ne_eqb, eqb-true, eqb-false, le-leb}
use lib.Dec.{eqb, ltb, leb}
use lib.Count.{count_trailing_zeros}
use lib.Bits.{bit_and}
use lib.ListN.{length, take}
use Rattle.model.specs.Lists.{if, both, non_empty, count, keep, from}
use Rattle.model.specs.State.{State, vacant, may_queue}
use Rattle.model.specs.Changes.{with_slots, with_queue, with_cursor, unmarked}
use Rattle.model.specs.Ready as rules
use Rattle.model.specs.Ready.{group_of, groups_in, marks, is_ready, collect_marks, start_group, groups_round, collect_first, collect_each, collect_ready_group}
use Rattle.demands.proofs.Counting.{Same, equal, other, same?}
use Rattle.demands.proofs.Simulation.{state_path}
use Rattle.demands.proofs.LaneIds.{channel_path}
use Rattle.lane.specs.declared.lane.Lane.{Lane}
use Rattle.yring.specs.Ring.{new_ring}
use Rattle.lane.specs.Lane.{held_items}
use Rattle.lane.specs.Table.{header_words, head, cell, set_cell, lane_at}
use Rattle.yring.proofs.ListLaws.{tab_ext}
use Rattle.lane.proofs.TableLaws.{frames, has_row}
use Rattle.queues.specs.Header.{Shaped, issued, group_cursor, capacity, free_count, set_group_cursor}
use Rattle.queues.specs.Queue.{QueueNames, queue_of}
use Rattle.queues.specs.Registry.{free_column, free_of}
use Rattle.ready.specs.Bits.{bits_from}
use Rattle.ready.specs.Ready.{page_column, group_column, page_word, group_word, page_bit, group_bit, non_zero, Linked, wanted_lane, wanted, queued_lane, enqueue, offer, collect_page, collect_group, group_count, group_at, collected_from, collect_ready}
use Rattle.ready.proofs.BitLaws.{bits_next, bits_zero, bit_zero, tz_lt, tz_set}
use Rattle.queues.proofs.QueueLaws.{queue_frames, header_in}
use Rattle.ready.proofs.OfferLaws.{Wants, wants, offered_case, shaped_offered, names_offered, lane_enqueued, other_enqueued}
use Rattle.ready.proofs.CollectLaws.{kept_set_cell, kept_page, kept_group, rest_page, group_taken, other_group_left, other_pages_left, pages_taken, linked_group, kept_cursor, linked_cursor}
use Rattle.ready.proofs.CollectedQueue.{slots_of_page, slots_of_pages}
use Rattle.ready.proofs.CollectedMarks.{SameMarks, group_marks, queue_collected}
use Rattle.store.specs.View.{flag, slot_of, slot_at, view}
use Rattle.store.specs.Order.{MarkWords, Stores}
use Rattle.store.proofs.ViewLaws.{slot_in, slot_out, row_in}

-- ---- what a collection leaves as it was

-- all but the page and group words, the lanes' queued words, the queue and the group cursor
pub record Left (t u : List ℕ) : Type 0 where
  pub heads : (k : ℕ) → ltb k header_words ≡ true → eqb 2 k ≡ false → eqb 6 k ≡ false → head u k ≡ head t k
  pub frees : (row : ℕ) → cell u free_column row ≡ cell t free_column row
  pub lanes : (y : ℕ) → queued_lane (lane_at u y) ≡ queued_lane (lane_at t y)

left_self : (t : List ℕ) → Left t t
left_self t = record { heads = λ k a b c. refl; frees = λ row. refl; lanes = λ y. refl }

left_then : {t u v : List ℕ} → Left t u → Left u v → Left t v
left_then a b =
    record {
      heads = λ k p q r. b.heads k p q r ∙ a.heads k p q r;
      frees = λ row. b.frees row ∙ a.frees row;
      lanes = λ y. b.lanes y ∙ a.lanes y;
    }

left_page_word : (t : List ℕ) (page v : ℕ) → Left t (set_cell t page_column page v)
left_page_word t page v = record { heads = λ k p q r. simp (frames, p); frees = λ row. simp frames; lanes = λ y. simp frames }

left_group_word : (t : List ℕ) (group v : ℕ) → Left t (set_cell t group_column group v)
left_group_word t group v = record { heads = λ k p q r. simp (frames, p); frees = λ row. simp frames; lanes = λ y. simp frames }

left_cursor : (t : List ℕ) (v : ℕ) → Left t (set_group_cursor t v)
left_cursor t v = record { heads = λ k p q r. simp (frames, r); frees = λ row. simp frames; lanes = λ y. simp frames }

left_page : (t : List ℕ) (page : ℕ) → Shaped t → QueueNames t → Left t (collect_page t page)
left_page t page s q =
    let a = rest_page t page s q in
    left_then (left_page_word t page 0)
    (record { heads = λ k p n m. a.heads k p n; frees = λ row. a.cells free_column row refl refl refl; lanes = a.lanes })

left_pages : (l t : List ℕ) → Shaped t → QueueNames t → Left t (foldl collect_page t l)
left_pages [] t s q = left_self t
left_pages (page ∷ l) t s q =
    let k = kept_page t page s q in
    left_then (left_page t page s q) (left_pages l (collect_page t page) k.shaped k.names)

pub left_group : (t : List ℕ) (group : ℕ) → Shaped t → QueueNames t → Left t (collect_group t group)
unfolding collect_group
left_group t group s q =
    let k = kept_set_cell t group_column group 0 refl refl refl s q in
    left_then (left_group_word t group 0) (left_pages (bits_from 64 (64 * group) (group_word t group)) (set_cell t group_column group 0) k.shaped k.names)

module _ (t u r : List ℕ) (k : Left t u) where
  free_left : free_of u ≡ free_of t
  unfolding free_of
  free_left =
      rw (k.heads 3 refl refl refl) (tab_ext (free_count t) _ _ (λ i h. k.frees (free_count t - suc i)))

  -- a slot is as it was but for its page bit
  slot_left : (y : ℕ) → slot_at u r y ≡ slot_of (lane_at t y) (page_bit u y) (held_items (new_ring y (capacity t)) r (lane_at t y))
  unfolding slot_at held_items
  slot_left y =
      ap₂ (λ (l : Lane) (c : ℕ). slot_of l (page_bit u y) (held_items (new_ring y c) r l)) (k.lanes y) (k.heads 8 refl refl refl)

-- ---- what collecting needs, and keeps

pub record Collects (t : List ℕ) : Type 0 where
  pub shaped : Shaped t
  pub names : QueueNames t
  pub linked : Linked t
  pub mark_words : MarkWords t
  pub paused_flags : (y : ℕ) → y < issued t → (lane_at t y).paused ≤ 1

-- the rules' marks are the page bits
same_marks : (t r : List ℕ) → SameMarks t (view t r)
unfolding view slot_at vacant
same_marks t r =
    record {
      slots_issued = refl;
      marked_issued = λ x h. rw (lt-ltb x (issued t) h);
      unmarked_past = λ x h. rw (le-ltb x (issued t) h);
    }

-- the four tests of a lane, on the words and in the rules
tests_alike : (a b c d e : Bool) → (a ≡ true → d ≡ e) → (a && (b && (c && d))) ≡ both b (both a (both c e))
tests_alike true true true d e h = h refl
tests_alike true true false d e h = refl
tests_alike true false c d e h = refl
tests_alike false true c d e h = refl
tests_alike false false c d e h = refl

clear_flag : (n : ℕ) → n ≤ 1 → eqb n 0 ≡ not (eqb n 1)
clear_flag zero h = refl
clear_flag (suc zero) h = refl
clear_flag (suc (suc n)) h = absurd (omega arith)

not_counted : (n : ℕ) → eqb n 0 ≡ not (leb 1 n)
not_counted zero = refl
not_counted (suc n) = rw (ne_eqb (suc n) 0 (λ e. omega arith), le-leb 1 (suc n) (omega arith))

module _ (t r : List ℕ) (c : Collects t) where
  -- a slot is wanted exactly if the rules call it ready
  ready_alike : (x : ℕ) → wanted t x ≡ is_ready (view t r) x
  unfolding wanted wanted_lane is_ready may_queue view slot_at vacant
  ready_alike x = go (ltb x (issued t)) refl
    where
      go : (b : Bool) → ltb x (issued t) ≡ b → wanted t x ≡ is_ready (view t r) x
      go true e =
          let h : x < issued t = ltb-true x (issued t) e in
          rw (e, clear_flag (lane_at t x).paused (c.paused_flags x h))
          (tests_alike (eqb (lane_at t x).registered 1) (eqb (lane_at t x).pending 1) (not (eqb (lane_at t x).paused 1)) (eqb (lane_at t x).queued 0) (not (leb 1 (count x (queue_of t))))
          (λ g. ap (λ (n : ℕ). eqb n 0) (c.names.flagged x h (eqb-true _ 1 g)) ∙ not_counted (count x (queue_of t))))
      go false e = rw e

  keep_ready : (l : List ℕ) → keep (wanted t) l ≡ keep (is_ready (view t r)) l
  unfolding keep
  keep_ready [] = refl
  keep_ready (x ∷ l) = rw (ready_alike x, keep_ready l)

  module _ (g : ℕ) (h : 4096 * g < issued t) where
    -- a group word of 0 has no marks
    none_marked_lem : group_word t g ≡ 0 → marks (view t r) g ≡ []
    none_marked_lem z =
        sym (group_marks t (view t r) c.linked (same_marks t r) g h)
        ∙ ap (slots_of_pages t) (ap (bits_from 64 (64 * g)) z ∙ bits_zero 64 (64 * g))

    -- another has some
    some_marked : group_word t g ≢ 0 → non_empty (marks (view t r) g) ≡ true
    some_marked n =
        let w = group_word t g in
        let fits = c.mark_words.groups_fit g h in
        let pos : 0 < w = pos_of_ne-zero n in
        let b = count_trailing_zeros 64 w in
        let low : b < 64 = tz_lt 64 w pos fits in
        let page = 64 * g + b in
        let d : page / 64 ≡ g = omega arith in
        let m : page % 64 ≡ b = omega arith in
        let set : group_bit t page ≡ 1 = rw (d, m) (tz_set 64 w pos fits) in
        let exists : 64 * page < issued t = c.linked.of_pages page (omega arith) set in
        let v = page_word t page in
        let some : v ≢ 0 = λ z. clash (sym set ∙ c.linked.linked page exists ∙ ap non_zero z) in
        let pages = bits_next 64 (64 * g) w pos fits in
        let slots = bits_next 64 (64 * page) v (pos_of_ne-zero some) (c.mark_words.pages_fit page exists) in
        ap non_empty (sym (group_marks t (view t r) c.linked (same_marks t r) g h) ∙ ap (slots_of_pages t) pages
        ∙ ap (λ (l : List ℕ). l ++ slots_of_pages t (bits_from 64 (64 * g) (bit_and w (w - 1)))) slots)
      where
        clash : ◌≡◌ {A = ℕ} 1 0 → ⊥
        clash e = omega arith

    -- the page bits after: none in the group, the others as they were
    bits_after : (y : ℕ) → y < issued t → page_bit (collect_group t g) y ≡ if (eqb (group_of y) g) 0 (page_bit t y)
    unfolding group_of
    bits_after y l = elim (same? (y / 4096) g) [
      | equal e p i ↦
          rw (p, pages_taken t g c.shaped c.names c.linked (y / 64) (omega arith) (omega arith)) (bit_zero (y % 64))
      | other d p i ↦ rw (p, other_pages_left t g c.shaped c.names (y / 64) (λ e. d (omega arith)))
    ]

    left : Left t (collect_group t g)
    left = left_group t g c.shaped c.names

    -- the table after, with the cursor just past the group
    abbrev u : List ℕ
    u = set_group_cursor (collect_group t g) (g + 1)

    left_now : Left t u
    left_now = left_then left (left_cursor (collect_group t g) (g + 1))

    issued_now : issued u ≡ issued t
    issued_now = left_now.heads 0 refl refl refl

    issued_slot : (y : ℕ) → y < issued t → (view u r).slot_of y ≡ if (eqb (group_of y) g) (unmarked ((view t r).slot_of y)) ((view t r).slot_of y)
    unfolding slot_at
    issued_slot y l =
        let same : page_bit u y ≡ page_bit (collect_group t g) y = simp frames in
        slot_in u r y (rw issued_now l)
        ∙ slot_left t u r left_now y
        ∙ rw (same, bits_after y l, slot_in t r y l) (go (eqb (group_of y) g))
      where
        go : (b : Bool) → slot_of (lane_at t y) (if b 0 (page_bit t y)) (held_items (new_ring y (capacity t)) r (lane_at t y)) ≡ if b (unmarked (slot_at t r y)) (slot_at t r y)
        go true = refl
        go false = refl

    past_slot : (y : ℕ) → ltb y (issued t) ≡ false → (view u r).slot_of y ≡ if (eqb (group_of y) g) (unmarked ((view t r).slot_of y)) ((view t r).slot_of y)
    unfolding vacant
    past_slot y e = slot_out u r y (rw issued_now e) ∙ rw (slot_out t r y e) (go (eqb (group_of y) g))
      where
        go : (b : Bool) → vacant ≡ if b (unmarked vacant) vacant
        go true = refl
        go false = refl

    slots_now : (y : ℕ) → (view u r).slot_of y ≡ if (eqb (group_of y) g) (unmarked ((view t r).slot_of y)) ((view t r).slot_of y)
    slots_now y = go (ltb y (issued t)) refl
      where
        go : (b : Bool) → ltb y (issued t) ≡ b → (view u r).slot_of y ≡ if (eqb (group_of y) g) (unmarked ((view t r).slot_of y)) ((view t r).slot_of y)
        go true e = issued_slot y (ltb-true y (issued t) e)
        go false e = past_slot y e

    queue_now : queue_of u ≡ queue_of t ++ keep (is_ready (view t r)) (marks (view t r) g)
    queue_now =
        simp queue_frames
        (queue_collected t (view t r) c.linked (same_marks t r) c.shaped c.names g h
        ∙ ap (λ (l : List ℕ). queue_of t ++ l) (keep_ready (marks (view t r) g)))

    long_after : leb header_words (length (collect_group t g)) ≡ true
    long_after = header_in (collect_group t g) (kept_group t g c.shaped c.names).shaped

    view_now : view u r ≡ with_cursor (suc g) (with_queue ((view t r).queue ++ keep (is_ready (view t r)) (marks (view t r) g))
        (with_slots (λ y. if (eqb (group_of y) g) (unmarked ((view t r).slot_of y)) ((view t r).slot_of y)) (view t r)))
    unfolding view
    view_now =
        state_path _ _ slots_now queue_now (free_left t u r left_now) issued_now (left_now.heads 5 refl refl refl) (simp (frames, long_after) (add-one g))
        (ap flag (left_now.heads 7 refl refl refl)) (left_now.heads 8 refl refl refl) (left_now.heads 4 refl refl refl)
        (channel_path _ _ (left_now.heads 9 refl refl refl) (left_now.heads 15 refl refl refl)) (left_now.heads 11 refl refl refl)

    -- a group that has bits is collected as the rules collect it
    view_group : group_word t g ≢ 0 → view u r ≡ rules.collect_group (view t r) g
    unfolding rules.collect_group collect_marks
    view_group n = view_now ∙ go (marks (view t r) g) (some_marked n)
      where
        go : (l : List ℕ) → non_empty l ≡ true
            → with_cursor (suc g) (with_queue ((view t r).queue ++ keep (is_ready (view t r)) l) (with_slots (λ y. if (eqb (group_of y) g) (unmarked ((view t r).slot_of y)) ((view t r).slot_of y)) (view t r)))
            ≡ collect_marks l (view t r) g
        go [] e = let z : ◌≡◌ {A = ℕ} 0 1 = cc in absurd (omega arith)
        go (m ∷ ms) e = refl

    -- one that has none is passed over
    view_none : group_word t g ≡ 0 → rules.collect_group (view t r) g ≡ view t r
    unfolding rules.collect_group collect_marks
    view_none z = ap (λ (l : List ℕ). collect_marks l (view t r) g) (none_marked_lem z)

    mark_words_now : MarkWords u
    mark_words_now =
        record {
          pages_fit = λ p l. simp frames (elim (same? (p / 64) g) [
            | equal e q i ↦ rw (pages_taken t g c.shaped c.names c.linked p e (rw issued_now at l)) (omega arith)
            | other d q i ↦ rw (other_pages_left t g c.shaped c.names p d) (c.mark_words.pages_fit p (rw issued_now at l))
          ]);
          groups_fit = λ x l. simp frames (elim (same? x g) [
            | equal e q i ↦ rw (ap (group_word (collect_group t g)) e ∙ group_taken t g c.shaped c.names (omega (arith, c.shaped.issued_most, c.shaped.room))) (omega arith)
            | other d q i ↦ rw (other_group_left t g c.shaped c.names x q) (c.mark_words.groups_fit x (rw issued_now at l))
          ]);
        }

    -- what collecting needs is kept
    collects_now : g + 1 ≤ 2 → Collects u
    collects_now most =
        let k = kept_group t g c.shaped c.names in
        let k' = kept_cursor (collect_group t g) (g + 1) most k.shaped k.names in
        record {
          shaped = k'.shaped;
          names = k'.names;
          linked = linked_cursor (collect_group t g) (g + 1) (linked_group t g c.shaped c.names c.linked h);
          mark_words = mark_words_now;
          paused_flags = λ y l. subst (λ (m : Lane). m.paused ≤ 1) (sym (left_now.lanes y)) (c.paused_flags y (rw issued_now at l));
        }

-- ---- a queued word stays a flag

module _ (y : ℕ) where
  queued_offered : (t : List ℕ) (x : ℕ) → Shaped t → (lane_at t y).queued ≤ 1 → (lane_at (offer t x) y).queued ≤ 1
  queued_offered t x s h = offered_case (λ u. (lane_at u y).queued ≤ 1) t x (λ e. now (wants t x e) (same? y x)) (λ e. h)
    where
      now : Wants t x → Same y x → (lane_at (enqueue t x) y).queued ≤ 1
      now w (equal e p i) = rw (e, lane_enqueued t x (has_row t x (row_in t s x w.is_issued))) (omega arith)
      now w (other d p i) = rw (other_enqueued t x y p) h

  queued_offers : (l t : List ℕ) → Shaped t → QueueNames t → (lane_at t y).queued ≤ 1 → (lane_at (foldl offer t l) y).queued ≤ 1
  queued_offers [] t s q h = h
  queued_offers (x ∷ l) t s q h = queued_offers l (offer t x) (shaped_offered t x s q) (names_offered t x s q) (queued_offered t x s h)

  queued_page : (t : List ℕ) (page : ℕ) → Shaped t → QueueNames t → (lane_at t y).queued ≤ 1 → (lane_at (collect_page t page) y).queued ≤ 1
  unfolding collect_page
  queued_page t page s q h =
      let k = kept_set_cell t page_column page 0 refl refl refl s q in
      queued_offers (slots_of_page t page) (set_cell t page_column page 0) k.shaped k.names (simp frames h)

  queued_pages : (l t : List ℕ) → Shaped t → QueueNames t → (lane_at t y).queued ≤ 1 → (lane_at (foldl collect_page t l) y).queued ≤ 1
  queued_pages [] t s q h = h
  queued_pages (page ∷ l) t s q h =
      let k = kept_page t page s q in
      queued_pages l (collect_page t page) k.shaped k.names (queued_page t page s q h)

  queued_group : (t : List ℕ) (g : ℕ) → Shaped t → QueueNames t → (lane_at t y).queued ≤ 1 → (lane_at (collect_group t g) y).queued ≤ 1
  unfolding collect_group
  queued_group t g s q h =
      let k = kept_set_cell t group_column g 0 refl refl refl s q in
      queued_pages (bits_from 64 (64 * g) (group_word t g)) (set_cell t group_column g 0) k.shaped k.names (simp frames h)

-- ---- the groups, from the cursor round

-- k of n groups, from `next` on
unfoldable round_from : ℕ → ℕ → ℕ → List ℕ
round_from n zero next = []
round_from n (suc k) next = group_at n next ∷ round_from n k (group_at n next + 1)

at_below : (n next : ℕ) → next < n → group_at n next ≡ next
unfolding group_at
at_below n next h = rw (lt-ltb next n h)

at_past : (n next : ℕ) → n ≤ next → group_at n next ≡ 0
unfolding group_at
at_past n next h = rw (le-ltb next n h)

round_up : (n k next : ℕ) → next + k ≤ n → round_from n k next ≡ from next k
unfolding round_from from
round_up n zero next h = refl
round_up n (suc k) next h =
    rw (at_below n next (omega arith), add-one next) (ap (λ (l : List ℕ). next ∷ l) (round_up n k (suc next) (omega arith)))

round_past : (n k next : ℕ) → n ≤ next → k ≤ n → round_from n k next ≡ from 0 k
unfolding round_from from
round_past n zero next h l = refl
round_past n (suc k) next h l = rw (at_past n next h) (ap (λ (m : List ℕ). 0 ∷ m) (round_up n k 1 (omega arith)))

round_on : (n a b next : ℕ) → next + a ≡ n → b ≤ n → round_from n (a + b) next ≡ from next a ++ from 0 b
unfolding round_from from
round_on n zero b next h l =
    let e : 0 + b ≡ b = omega arith in
    rw e (round_past n b next (omega arith) l)
round_on n (suc a) b next h l =
    let e : suc a + b ≡ suc (a + b) = omega arith in
    rw (e, at_below n next (omega arith), add-one next) (ap (λ (m : List ℕ). next ∷ m) (round_on n a b (suc next) (omega arith) l))

round_alike : (t r : List ℕ) → round_from (group_count (issued t)) (group_count (issued t)) (group_cursor t) ≡ groups_round (view t r)
unfolding groups_round start_group groups_in view from
round_alike t r = go (ltb (group_cursor t) (group_count (issued t))) refl
  where
    go : (b : Bool) → ltb (group_cursor t) (group_count (issued t)) ≡ b → round_from (group_count (issued t)) (group_count (issued t)) (group_cursor t) ≡ groups_round (view t r)
    go true e =
        let n = group_count (issued t) in
        let h : group_cursor t < n = ltb-true (group_cursor t) n e in
        let parts : n - group_cursor t + group_cursor t ≡ n = omega arith in
        rw e (sym (ap (λ (k : ℕ). round_from n k (group_cursor t)) parts) ∙ round_on n (n - group_cursor t) (group_cursor t) (group_cursor t) (omega arith) (omega arith))
    go false e =
        let n = group_count (issued t) in
        let z : n - 0 ≡ n = omega arith in
        rw (e, z) (round_past n n (group_cursor t) (omega (arith, ltb-false (group_cursor t) n e)) (omega arith) ∙ sym (append-nil (from 0 n)))

-- ---- collecting

-- the rules' collecting along a list of groups: all of them, or the first that has marks
abbrev pub along : Bool → List ℕ → State → State
along true gs s = collect_each gs s
along false gs s = collect_first gs s

-- what a collection of any groups leaves
pub record Collected (t u : List ℕ) : Type 0 where
  pub left : Left t u
  pub collects : Collects u
  pub front : (y : ℕ) → take 1 (queue_of t) ≡ y ∷ [] → take 1 (queue_of u) ≡ y ∷ []
  pub queued_flags : (y : ℕ) → (lane_at t y).queued ≤ 1 → (lane_at u y).queued ≤ 1

collected_self : (t : List ℕ) → Collects t → Collected t t
collected_self t c = record { left = left_self t; collects = c; front = λ y e. e; queued_flags = λ y h. h }

collected_then : {t u v : List ℕ} → Collected t u → Collected u v → Collected t v
collected_then a b =
    record {
      left = left_then a.left b.left;
      collects = b.collects;
      front = λ y e. b.front y (a.front y e);
      queued_flags = λ y h. b.queued_flags y (a.queued_flags y h);
    }

still_first : (y : ℕ) (q w : List ℕ) → take 1 q ≡ y ∷ [] → take 1 (q ++ w) ≡ y ∷ []
still_first y [] w e = let z : ◌≡◌ {A = ℕ} 0 1 = ap length e in absurd (omega arith)
still_first y (a ∷ q) w e = e

collected_group : (t : List ℕ) (c : Collects t) (g : ℕ) → 4096 * g < issued t → g + 1 ≤ 2 → Collected t (set_group_cursor (collect_group t g) (g + 1))
collected_group t c g h most =
    record {
      left = left_now t [] c g h;
      collects = collects_now t [] c g h most;
      front = λ y e. rw (queue_now t [] c g h) (still_first y (queue_of t) _ e);
      queued_flags = λ y l. simp frames (queued_group y t g c.shaped c.names l);
    }

module _ (r : List ℕ) (n : ℕ) (most : n ≤ 2) where
  -- a group that the round comes to exists
  exists : (t : List ℕ) (next : ℕ) → n ≡ group_count (issued t) → 0 < n → (group_at n next < n) × (4096 * group_at n next < issued t)
  exists t next e h = let b : group_at n next < n = below in (b, omega arith)
    where
      below : group_at n next < n
      below = go (dec_lt next n)
        where
          go : Dec (next < n) → group_at n next < n
          go (yes l) = rw (at_below n next l) l
          go (no l) = rw (at_past n next (omega arith)) h

  from_alike : (all : Bool) (k : ℕ) (t : List ℕ) (next : ℕ) → Collects t → n ≡ group_count (issued t) → k ≤ n
      → (view (collected_from n k all t next) r ≡ along all (round_from n k next) (view t r)) × Collected t (collected_from n k all t next)
  unfolding collected_from round_from collect_each collect_first
  from_alike true zero t next c e l = (refl, collected_self t c)
  from_alike false zero t next c e l = (refl, collected_self t c)
  from_alike all (suc k) t next c e l =
      let g = group_at n next in
      let x = exists t next e (omega arith) in
      go all (eqb (group_word t g) 0) refl
      (from_alike all k t (g + 1) c e (omega arith))
      (from_alike all k (set_group_cursor (collect_group t g) (g + 1)) (g + 1) (collects_now t r c g x.1 (omega (arith, x.0))) (e ∙ ap group_count (sym (issued_now t r c g x.1))) (omega arith))
    where
      go : (all b : Bool) → eqb (group_word t (group_at n next)) 0 ≡ b
          → (view (collected_from n k all t (group_at n next + 1)) r ≡ along all (round_from n k (group_at n next + 1)) (view t r)) × Collected t (collected_from n k all t (group_at n next + 1))
          → (view (collected_from n k all (set_group_cursor (collect_group t (group_at n next)) (group_at n next + 1)) (group_at n next + 1)) r
          ≡ along all (round_from n k (group_at n next + 1)) (view (set_group_cursor (collect_group t (group_at n next)) (group_at n next + 1)) r))
          × Collected (set_group_cursor (collect_group t (group_at n next)) (group_at n next + 1)) (collected_from n k all (set_group_cursor (collect_group t (group_at n next)) (group_at n next + 1)) (group_at n next + 1))
          → (view (collected_from n (suc k) all t next) r ≡ along all (round_from n (suc k) next) (view t r)) × Collected t (collected_from n (suc k) all t next)
      go true true z passed taken =
          let g = group_at n next in
          let x = exists t next e (omega arith) in
          rw z (passed.0 ∙ ap (collect_each (round_from n k (g + 1))) (sym (view_none t r c g x.1 (eqb-true _ 0 z))), passed.1)
      go false true z passed taken =
          let g = group_at n next in
          let x = exists t next e (omega arith) in
          let none : marks (view t r) g ≡ [] = none_marked_lem t r c g x.1 (eqb-true _ 0 z) in
          rw (z, none) passed
      go true false z passed taken =
          let g = group_at n next in
          let x = exists t next e (omega arith) in
          rw z (
            taken.0 ∙ ap (collect_each (round_from n k (g + 1))) (view_group t r c g x.1 (eqb-false _ 0 z)),
            collected_then (collected_group t c g x.1 (omega (arith, x.0))) taken.1,
          )
      go false false z passed taken =
          let g = group_at n next in
          let x = exists t next e (omega arith) in
          rw (z, some_marked t r c g x.1 (eqb-false _ 0 z))
          (view_group t r c g x.1 (eqb-false _ 0 z), collected_group t c g x.1 (omega (arith, x.0)))

-- what a store in order gives
pub collects_of : (t r : List ℕ) → Stores t r → Collects t
collects_of t r o =
    record { shaped = o.shaped; names = o.named; linked = o.linked; mark_words = o.mark_words; paused_flags = λ y h. (o.flags y h).paused_flag }

module _ (t r : List ℕ) (o : Stores t r) where
  groups_most : group_count (issued t) ≤ 2
  groups_most = omega (arith, o.shaped.issued_most, o.shaped.slots_most)

  -- what is left of the table, too
  pub collected : (all : Bool)
      → (view (collect_ready all t) r ≡ along all (groups_round (view t r)) (view t r)) × Collected t (collect_ready all t)
  unfolding collect_ready
  collected all =
      let a = from_alike r (group_count (issued t)) groups_most all (group_count (issued t)) t (group_cursor t) (collects_of t r o) refl (omega arith) in
      (a.0 ∙ ap (λ (l : List ℕ). along all l (view t r)) (round_alike t r), a.1)

  -- all groups are collected as the rules collect them
  pub view_collect_all : view (collect_ready true t) r ≡ rules.collect_ready (view t r)
  unfolding rules.collect_ready
  view_collect_all = (collected true).0

  -- and so is the first that has bits
  pub view_collect_group : view (collect_ready false t) r ≡ collect_ready_group (view t r)
  unfolding collect_ready_group
  view_collect_group = (collected false).0
