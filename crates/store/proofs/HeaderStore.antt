-- A store into the budget, the receiver's flag or the held count: what `Stores` says stays, but for what it says of that word.
-- Assumes nothing.
use mathlib.Core.Path.{◌≡◌, refl, sym, ap, ◌∙◌}
use mathlib.Core.Bool.{Bool, true, false}
use mathlib.Core.List.{List}
use Prim.Native.Nat.{ℕ, ◌≤◌, ◌<◌}
use lib.Dec.{eqb, ltb}
use Rattle.model.specs.Lists.{either, count}
use Rattle.model.specs.State.{registered_lanes, living_senders}
use Rattle.lane.specs.Table.{header_words, head, set_head, lane_at}
use Rattle.lane.proofs.TableLaws.{frames, other_head_kept, lane_set_head}
use Rattle.queues.specs.Header.{issued, slots, budget, alive, capacity, first_cursor, fast_slot, lane_count, living_count, held_count}
use Rattle.queues.specs.Queue.{queue_of}
use Rattle.queues.proofs.QueueLaws.{queue_set_head, shaped_set_head}
use Rattle.queues.proofs.NamesLaws.{names_same}
use Rattle.store.specs.View.{view}
use Rattle.store.specs.Order.{Flag, Stores}
use Rattle.store.proofs.HeaderWords.{place_of, Beside, beside, apart}
use Rattle.store.proofs.StepLaws.{linked_by, mark_words_by}

-- the words that at most one clause reads
abbrev pub single : ℕ → Bool
single j = either (eqb (place_of budget) j) (either (eqb (place_of alive) j) (eqb (place_of held_count) j))

module _ (t r : List ℕ) (word : List ℕ → ℕ) (v : ℕ) (is : single (place_of word) ≡ true) (inside : ltb (place_of word) header_words ≡ true) where
  other : (j : ℕ) → Beside single j → eqb (place_of word) j ≡ false
  other j i = apart i (place_of word) is

  kept : (j : ℕ) → Beside single j → head (set_head t (place_of word) v) j ≡ head t j
  kept j i = other_head_kept t (place_of word) v j (other j i)

  pub stores_word : Stores t r → Flag (alive (set_head t (place_of word) v))
      → ((x : ℕ) → x < issued t → (lane_at t x).registered ≡ 1 → 0 < (lane_at t x).window → (lane_at t x).window ≤ budget (set_head t (place_of word) v))
      → registered_lanes (view (set_head t (place_of word) v) r) ≡ registered_lanes (view t r)
      → living_senders (view (set_head t (place_of word) v) r) ≡ living_senders (view t r)
      → Stores (set_head t (place_of word) v) r
  stores_word o flag windows lanes living =
      let u : List ℕ = set_head t (place_of word) v in
      let same : (x : ℕ) → lane_at u x ≡ lane_at t x = λ x. lane_set_head t (place_of word) v x inside in
      let queue : queue_of u ≡ queue_of t = queue_set_head t (place_of word) v inside (other 1 (beside refl refl)) (other 2 (beside refl refl)) (other 4 (beside refl refl)) in
      let i : issued u ≡ issued t = kept (place_of issued) (beside refl refl) in
      let fast : fast_slot u ≡ fast_slot t = kept (place_of fast_slot) (beside refl refl) in
      let s : slots u ≡ slots t = kept (place_of slots) (beside refl refl) in
      let c : capacity u ≡ capacity t = kept (place_of capacity) (beside refl refl) in
      record {
        shaped = shaped_set_head t o.shaped (place_of word) v (other 0 (beside refl refl)) (other 1 (beside refl refl)) (other 2 (beside refl refl)) (other 3 (beside refl refl)) (other 4 (beside refl refl)) (other 6 (beside refl refl));
        fast_below = rw (fast, s) o.fast_below;
        power = rw c o.power;
        rings_room = rw (s, c) o.rings_room;
        alive_flag = flag;
        first_cursor = rw (kept (place_of first_cursor) (beside refl refl)) o.first_cursor;
        flags = λ x h. rw (same x) (o.flags x (rw i at h));
        lanes = λ x h g. rw (same x, c) (o.lanes x (rw i at h) (rw (same x) at g));
        named = names_same t u o.named i same (λ y. ap (count y) queue);
        linked = linked_by t u i (λ p. simp (frames, inside)) (λ g. simp (frames, inside)) o.linked;
        mark_words = mark_words_by t u i (λ p. simp (frames, inside)) (λ g. simp (frames, inside)) o.mark_words;
        windows = λ x h g w.
            let f = o.windows x (rw i at h) (rw (same x) at g) (rw (same x) at w) in
            record { at_fast = f.at_fast ∙ sym fast; in_front = rw queue f.in_front; within = rw (same x) (windows x (rw i at h) (rw (same x) at g) (rw (same x) at w)) };
        lanes_counted = kept (place_of lane_count) (beside refl refl) ∙ o.lanes_counted ∙ sym lanes;
        living_counted = kept (place_of living_count) (beside refl refl) ∙ o.living_counted ∙ sym living;
      }
