-- A run of stores that changes one lane: what it leaves of every other lane, of the header, of the queue and of the marks.
-- Assumes nothing.
use mathlib.Core.Path.{◌≡◌, refl, sym, ap, ◌∙◌, subst}
use mathlib.Core.Logic.{◌≢◌}
use mathlib.Core.Bool.{Bool, true, false}
use mathlib.Core.List.{List, [], ◌∷◌, ◌++◌}
use Prim.Native.Nat.{ℕ, suc, ◌/◌, ◌%◌, ◌^◌, ◌≤◌, ◌<◌}
use native.Mathlib.Nat.{pow-suc}
use native.Mathlib.Omega.{arith}
use borrow.Author.Tests.{eqb-true}
use lib.Dec.{eqb, ltb}
use lib.ListN.{length}
use lib.Bits.{or_lt}
use lib.Pow.{pow_mono, pow_pos}
use Rattle.model.specs.Lists as rules
use Rattle.model.specs.Lists.{if, either}
use Rattle.demands.proofs.Counting.{equal, other, same?}
use Rattle.lane.specs.declared.lane.Lane.{Lane}
use Rattle.lane.specs.Table.{HasRow, header_words, head, set_head, NarrowLane, lane_at, put_lane}
use Rattle.lane.proofs.TableLaws.{frames, head_put_lane, lane_own_narrow, other_lane_kept, head_stored, other_head_kept, lane_set_head, has_row}
use Rattle.queues.specs.Header.{Shaped, issued, slots, budget, alive, capacity, first_cursor, fast_slot, lane_count, living_count, free_count, queue_front, queue_count, set_budget, set_fast_slot, set_lane_count, set_living_count}
use Rattle.queues.specs.Queue.{queue_of, push_back, pop_front, rotate_left, remove}
use Rattle.queues.specs.Registry.{free, reissue}
use Rattle.ready.specs.Ready.{page_word, group_word, Linked, mark}
use Rattle.queues.proofs.QueueLaws.{queue_frames, head_pushed_back, head_popped_front, head_rotated, head_removed, header_in, length_queue, queue_pushed_back, queue_popped_front, queue_rotated, queue_removed, shaped_pushed_back, shaped_popped_front, shaped_rotated, shaped_removed, shaped_put_lane}
use Rattle.queues.proofs.RegistryLaws.{registry_frames, head_freed, head_reissued, shaped_freed, shaped_reissued}
use Rattle.ready.proofs.MarkLaws.{marked_case, head_marked, lane_marked, queue_marked, page_marked, other_page_marked, linked_marked}
use Rattle.store.specs.Order.{MarkWords, Stores}
use Rattle.store.proofs.HeaderWords.{place_of, Beside, beside, apart, with_word}
use Rattle.store.proofs.ViewLaws.{row_in, without_alike}

-- marks stay linked where page words, group words and the number of issued slots stay
pub linked_by : (t u : List ℕ) → issued u ≡ issued t → ((p : ℕ) → page_word u p ≡ page_word t p) → ((g : ℕ) → group_word u g ≡ group_word t g) → Linked t → Linked u
linked_by t u e p g k =
    record {
      of_issued = λ y h b. rw e (k.of_issued y (rw e at h) (rw (p _) at b));
      linked = λ y h. rw (p _, g _) (k.linked y (rw e at h));
      of_pages = λ y h b. rw e (k.of_pages y (rw e at h) (rw (g _) at b));
    }

-- and are u64
pub mark_words_by : (t u : List ℕ) → issued u ≡ issued t → ((p : ℕ) → page_word u p ≡ page_word t p) → ((g : ℕ) → group_word u g ≡ group_word t g) → MarkWords t → MarkWords u
mark_words_by t u e p g k =
    record {
      pages_fit = λ y h. rw (p y) (k.pages_fit y (rw e at h));
      groups_fit = λ y h. rw (g y) (k.groups_fit y (rw e at h));
    }

pow_below : (b : ℕ) → b < 64 → 2 ^ b < 2 ^ 64
pow_below b h =
    let e : 2 ^ suc b ≤ 2 ^ 64 = pow_mono h in
    omega (arith, e, pow-suc 2 b, pow_pos b)

pub mark_words_marked : (t : List ℕ) (x : ℕ) → Shaped t → x < issued t → MarkWords t → MarkWords (mark t x)
mark_words_marked t x s h k =
    let row : HasRow (x / 64) (length t) = omega (arith, s.room, s.issued_most) in
    let row' : HasRow (x / 64 / 64) (length t) = omega (arith, s.room, s.issued_most) in
    let same : issued (mark t x) ≡ issued t = head_marked t x 0 refl in
    record {
      pages_fit = λ p l. elim (same? p (x / 64)) [
        | equal e q i ↦
            rw (e, page_marked t x row)
            (or_lt 64 (page_word t (x / 64)) (2 ^ (x % 64)) (k.pages_fit (x / 64) (omega arith)) (pow_below (x % 64) (omega arith)))
        | other d q i ↦ rw (other_page_marked t x p q) (k.pages_fit p (rw same at l))
      ];
      groups_fit = λ g l.
          marked_case t x (λ u. group_word u g < 2 ^ 64)
          (λ z. elim (same? g (x / 64 / 64)) [
            | equal e q i ↦
                rw e (simp (frames, has_row t (x / 64 / 64) row')
                (or_lt 64 (group_word t (x / 64 / 64)) (2 ^ (x / 64 % 64)) (k.groups_fit (x / 64 / 64) (omega arith)) (pow_below (x / 64 % 64) (omega arith))))
            | other d q i ↦ simp (frames, q) (k.groups_fit g (rw same at l))
          ])
          (λ z. simp frames (k.groups_fit g (rw same at l)));
    }

-- the header words that the queue and the free list are read by, and the others that such a run may change
abbrev pub listed : ℕ → Bool
listed j = either (eqb (place_of queue_front) j) (either (eqb (place_of queue_count) j) (eqb (place_of free_count) j))

abbrev pub moved : ℕ → Bool
moved j = either (eqb (place_of fast_slot) j) (either (eqb (place_of budget) j) (either (eqb (place_of lane_count) j) (eqb (place_of living_count) j)))

-- From t to u lane x became l and no other lane changed; the queue is now w, and of the other header words j is now h j.
pub record Step (t u : List ℕ) (x : ℕ) (l : Lane) (w : List ℕ) (h : ℕ → ℕ) : Type 0 where
  pub shaped : Shaped u
  pub linked : Linked u
  pub mark_words : MarkWords t → MarkWords u
  pub own : lane_at u x ≡ l
  pub others : (y : ℕ) → x ≢ y → lane_at u y ≡ lane_at t y
  pub queue : queue_of u ≡ w
  pub heads : (j : ℕ) → Beside listed j → head u j ≡ h j
  pub kept : (j : ℕ) → Beside moved j → h j ≡ head t j

-- where a run starts: of any table with its shape and its marks linked, and so of a store in order
pub step_from : (t : List ℕ) → Shaped t → Linked t → (x : ℕ) → Step t t x (lane_at t x) (queue_of t) (head t)
step_from t s k x =
    record {
      shaped = s;
      linked = k;
      mark_words = λ m. m;
      own = refl;
      others = λ y n. refl;
      queue = refl;
      heads = λ j i. refl;
      kept = λ j i. refl;
    }

pub step_start : (t r : List ℕ) → Stores t r → (x : ℕ) → Step t t x (lane_at t x) (queue_of t) (head t)
step_start t r o x = step_from t o.shaped o.linked x

-- A store that changes no lane, no mark and of the header only the words that the queue and the free list are read by.
record Same (u v : List ℕ) : Type 0 where
  heads : (j : ℕ) → Beside listed j → head v j ≡ head u j
  lanes : (y : ℕ) → lane_at v y ≡ lane_at u y
  pages : (p : ℕ) → page_word v p ≡ page_word u p
  groups : (g : ℕ) → group_word v g ≡ group_word u g

module _ {t u : List ℕ} {x : ℕ} {l : Lane} {w : List ℕ} {h : ℕ → ℕ} (k : Step t u x l w h) where
  -- ---- the header

  pub issued_kept : issued u ≡ issued t
  issued_kept = k.heads (place_of issued) (beside refl refl) ∙ k.kept (place_of issued) (beside refl refl)

  pub slots_kept : slots u ≡ slots t
  slots_kept = k.heads (place_of slots) (beside refl refl) ∙ k.kept (place_of slots) (beside refl refl)

  pub capacity_kept : capacity u ≡ capacity t
  capacity_kept = k.heads (place_of capacity) (beside refl refl) ∙ k.kept (place_of capacity) (beside refl refl)

  pub alive_kept : alive u ≡ alive t
  alive_kept = k.heads (place_of alive) (beside refl refl) ∙ k.kept (place_of alive) (beside refl refl)

  pub cursor_kept : first_cursor u ≡ first_cursor t
  cursor_kept = k.heads (place_of first_cursor) (beside refl refl) ∙ k.kept (place_of first_cursor) (beside refl refl)

  pub fast_now : fast_slot u ≡ h (place_of fast_slot)
  fast_now = k.heads (place_of fast_slot) (beside refl refl)

  pub budget_now : budget u ≡ h (place_of budget)
  budget_now = k.heads (place_of budget) (beside refl refl)

  pub lanes_now : lane_count u ≡ h (place_of lane_count)
  lanes_now = k.heads (place_of lane_count) (beside refl refl)

  pub living_now : living_count u ≡ h (place_of living_count)
  living_now = k.heads (place_of living_count) (beside refl refl)

  -- ---- one store more

  step_same : {v w' : List ℕ} → Same u v → Shaped v → queue_of v ≡ w' → Step t v x l w' h
  step_same {v = v} same s q =
      let e : issued v ≡ issued u = same.heads (place_of issued) (beside refl refl) in
      record {
        shaped = s;
        linked = linked_by u v e same.pages same.groups k.linked;
        mark_words = λ q. mark_words_by u v e same.pages same.groups (k.mark_words q);
        own = same.lanes x ∙ k.own;
        others = λ y d. same.lanes y ∙ k.others y d;
        queue = q;
        heads = λ j i. same.heads j i ∙ k.heads j i;
        kept = k.kept;
      }

  -- lane x stored
  pub step_put_lane : (o : Lane) → o.key.slot ≡ x → NarrowLane o → x < issued t → Step t (put_lane u o) x o w h
  step_put_lane o e fits a =
      record {
        shaped = shaped_put_lane u k.shaped o;
        linked = linked_by u (put_lane u o) (simp frames) (λ p. simp frames) (λ g. simp frames) k.linked;
        mark_words = λ q. mark_words_by u (put_lane u o) (simp frames) (λ p. simp frames) (λ g. simp frames) (k.mark_words q);
        own = lane_own_narrow u o x e (has_row u x (row_in u k.shaped x (rw issued_kept a))) fits;
        others = λ y d. other_lane_kept u o y (λ p. d (sym (p ∙ e))) ∙ k.others y d;
        queue = simp queue_frames k.queue;
        heads = λ j i. head_put_lane u o j i.in_header ∙ k.heads j i;
        kept = k.kept;
      }

  -- a slot marked
  pub step_marked : (z : ℕ) → z < issued t → Step t (mark u z) x l w h
  step_marked z a =
      record {
        shaped = marked_case u z Shaped (λ e. simp frames k.shaped) (λ e. simp frames k.shaped);
        linked = linked_marked u z k.shaped (rw issued_kept a) k.linked;
        mark_words = λ q. mark_words_marked u z k.shaped (rw issued_kept a) (k.mark_words q);
        own = lane_marked u z x ∙ k.own;
        others = λ y d. lane_marked u z y ∙ k.others y d;
        queue = queue_marked u z ∙ k.queue;
        heads = λ j i. head_marked u z j i.in_header ∙ k.heads j i;
        kept = k.kept;
      }

  -- a slot at the back of the queue, where that has room
  pub step_pushed_back : (z : ℕ) → length w < slots t → Step t (push_back u z) x l (w ++ (z ∷ [])) h
  step_pushed_back z a =
      let room : queue_count u < slots u = omega (arith, length_queue u, ap length k.queue, slots_kept) in
      step_same
      (record {
        heads = λ j i. head_pushed_back u z j i.in_header (apart i (place_of queue_count) refl);
        lanes = λ y. simp queue_frames;
        pages = λ y. simp queue_frames;
        groups = λ y. simp queue_frames;
      })
      (shaped_pushed_back u k.shaped z room) (queue_pushed_back u k.shaped z room ∙ ap (λ (q : List ℕ). q ++ (z ∷ [])) k.queue)

  -- a slot out of the queue
  pub step_removed : (z : ℕ) → Step t (remove u z) x l (rules.without z w) h
  step_removed z =
      step_same
      (record {
        heads = λ j i. head_removed u z j i.in_header (apart i (place_of queue_count) refl);
        lanes = λ y. simp queue_frames;
        pages = λ y. simp queue_frames;
        groups = λ y. simp queue_frames;
      })
      (shaped_removed u k.shaped z) (queue_removed u k.shaped z ∙ without_alike z (queue_of u) ∙ ap (rules.without z) k.queue)

  module _ (z : ℕ) (q : List ℕ) (e : w ≡ z ∷ q) where
    -- the front gone
    pub step_popped_front : Step t (pop_front u) x l q h
    step_popped_front =
        step_same
        (record {
          heads = λ j i. head_popped_front u j (apart i (place_of queue_front) refl) (apart i (place_of queue_count) refl);
          lanes = λ y. simp queue_frames;
          pages = λ y. simp queue_frames;
          groups = λ y. simp queue_frames;
        })
        (shaped_popped_front u k.shaped) (queue_popped_front u k.shaped z q (k.queue ∙ e))

    -- the front at the back
    pub step_rotated : Step t (rotate_left u) x l (q ++ (z ∷ [])) h
    step_rotated =
        step_same
        (record {
          heads = λ j i. head_rotated u j i.in_header (apart i (place_of queue_front) refl);
          lanes = λ y. simp queue_frames;
          pages = λ y. simp queue_frames;
          groups = λ y. simp queue_frames;
        })
        (shaped_rotated u k.shaped) (queue_rotated u k.shaped z q (k.queue ∙ e))

  -- a slot free again, where the free list has room
  pub step_freed : (z : ℕ) → free_count u < slots u → Step t (free u z) x l w h
  step_freed z room =
      step_same
      (record {
        heads = λ j i. head_freed u z j i.in_header (apart i (place_of free_count) refl);
        lanes = λ y. simp registry_frames;
        pages = λ y. simp registry_frames;
        groups = λ y. simp registry_frames;
      })
      (shaped_freed u k.shaped z room) (simp registry_frames k.queue)

  -- the slot d places down the free list issued again
  pub step_reissued : (d : ℕ) → Step t (reissue u d) x l w h
  step_reissued d =
      step_same
      (record {
        heads = λ j i. head_reissued u d j i.in_header (apart i (place_of free_count) refl);
        lanes = λ y. simp registry_frames;
        pages = λ y. simp registry_frames;
        groups = λ y. simp registry_frames;
      })
      (shaped_reissued u k.shaped d) (simp registry_frames k.queue)

  -- a header word stored that such a run may change, or one that has the value already
  module _ (word : List ℕ → ℕ) (v : ℕ) (may : moved (place_of word) ≡ true) where
    kept_word : (j : ℕ) → Beside moved j → with_word word v h j ≡ head t j
    kept_word j i = rw (apart i (place_of word) may) (k.kept j i)

    pub step_word : ltb (place_of word) header_words ≡ true → Shaped (set_head u (place_of word) v) → queue_of (set_head u (place_of word) v) ≡ w
        → Step t (set_head u (place_of word) v) x l w (with_word word v h)
    step_word inside s q =
        let n : List ℕ = set_head u (place_of word) v in
        let pages : (p : ℕ) → page_word n p ≡ page_word u p = λ p. simp (frames, inside) in
        let groups : (g : ℕ) → group_word n g ≡ group_word u g = λ g. simp (frames, inside) in
        let e : issued n ≡ issued u = other_head_kept u (place_of word) v (place_of issued) (apart {set = moved} (beside refl refl) (place_of word) may) in
        record {
          shaped = s;
          linked = linked_by u n e pages groups k.linked;
          mark_words = λ q. mark_words_by u n e pages groups (k.mark_words q);
          own = lane_set_head u (place_of word) v x inside ∙ k.own;
          others = λ y d. lane_set_head u (place_of word) v y inside ∙ k.others y d;
          queue = q;
          heads = λ j i. stored j i (eqb (place_of word) j) refl;
          kept = kept_word;
        }
      where
        stored : (j : ℕ) → Beside listed j → (b : Bool) → eqb (place_of word) j ≡ b → head (set_head u (place_of word) v) j ≡ if b v (h j)
        stored j i true e = subst (λ (z : ℕ). head (set_head u (place_of word) v) z ≡ v) (eqb-true (place_of word) j e) (head_stored u (place_of word) v (header_in u k.shaped) inside)
        stored j i false e = other_head_kept u (place_of word) v j e ∙ k.heads j i

    pub step_has : h (place_of word) ≡ v → Step t u x l w (with_word word v h)
    step_has e =
        record {
          shaped = k.shaped;
          linked = k.linked;
          mark_words = k.mark_words;
          own = k.own;
          others = k.others;
          queue = k.queue;
          heads = λ j i. k.heads j i ∙ has j (eqb (place_of word) j) refl;
          kept = kept_word;
        }
      where
        has : (j : ℕ) (b : Bool) → eqb (place_of word) j ≡ b → h j ≡ if b v (h j)
        has j true i = ap h (sym (eqb-true (place_of word) j i)) ∙ e
        has j false i = refl

  -- the budget
  pub step_budget : (v : ℕ) → Step t (set_budget u v) x l w (with_word budget v h)
  step_budget v = step_word budget v refl refl (simp frames k.shaped) (simp queue_frames k.queue)

  -- `fast_slot`
  pub step_fast_slot : (v : ℕ) → Step t (set_fast_slot u v) x l w (with_word fast_slot v h)
  step_fast_slot v = step_word fast_slot v refl refl (simp frames k.shaped) (simp queue_frames k.queue)

  -- the count of lanes
  pub step_lane_count : (v : ℕ) → Step t (set_lane_count u v) x l w (with_word lane_count v h)
  step_lane_count v = step_word lane_count v refl refl (simp frames k.shaped) (simp queue_frames k.queue)

  -- the count of living senders
  pub step_living_count : (v : ℕ) → Step t (set_living_count u v) x l w (with_word living_count v h)
  step_living_count v = step_word living_count v refl refl (simp frames k.shaped) (simp queue_frames k.queue)
