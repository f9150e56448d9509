-- The opening: it answers as the rules do, and accepted it leaves a store in order that shows the rules' opened state, whatever the words held.
-- Assumes nothing.
use mathlib.Core.Path.{◌≡◌, refl, sym, ap, ◌∙◌}
use mathlib.Core.Bool.{Bool, true, false, cond, not}
use mathlib.Core.List.{List, [], ◌∷◌}
use Prim.Native.Nat.{ℕ, ◌+◌, ◌*◌, ◌^◌, ◌≤◌, ◌<◌}
use native.Mathlib.Nat.{pow-le-pow_right}
use native.Mathlib.Omega.{arith}
use borrow.Author.Tests.{le-ltb}
use lib.Dec.{ltb}
use lib.ListN.{length, get_or}
use Rattle.model.specs.declared.Opening.{Opening}
use Rattle.model.specs.declared.Refusal.{Refusal}
use Rattle.model.specs.declared.Refusal.TheVariants.{CapacityOutOfRange, SlotsOutOfRange, RingStoreShort, TableStoreShort}
use Rattle.model.specs.declared.Answer.{Answer}
use Rattle.model.specs.declared.Answer.TheVariants.{Done, Refused}
use Rattle.model.specs.Lists.{if, either, count, keep, from, total}
use Rattle.model.specs.State.{State, registered_lanes, living_senders, items_held}
use Rattle.model.specs.Outcome.{Outcome, says, unless}
use Rattle.model.specs.Runs.{Lent}
use Rattle.model.specs.Opening.{next_power_of_two, opened_state, opening_outcome}
use Rattle.model.specs.Order.{Ordered}
use Rattle.demands.proofs.Simulation.{state_path}
use Rattle.demands.proofs.Opened.{opened_ordered}
use Rattle.demands.proofs.LaneIds.{channel_path}
use Rattle.yring.specs.Cursor.{Capacity}
use Rattle.lane.specs.Table.{head, cell_at, header_words, row_words}
use Rattle.queues.specs.Header.{issued, held_count, new_header, header_list, put_header}
use Rattle.queues.specs.Queue.{queue_of}
use Rattle.queues.proofs.HeaderLaws.{shaped_opened, queue_opened, free_opened, head_opened}
use Rattle.store.specs.Refusal.{Verdict}
use Rattle.std.specs.Prelude.{Ok, Err}
use Rattle.store.specs.View.{flag, view}
use Rattle.store.specs.Order.{Stores, StoreInOrder}
use Rattle.store.specs.Words.{Words, unless_refused}
use Rattle.opening.specs.Opening.{sizes_verdict, stores_verdict, open_sized, open_store}
use Rattle.store.proofs.RefusalLaws.{first_of, unless_append, unless_refused_case, unless_by_verdict, unless_passed}
use Rattle.sender.proofs.SenderBounds.{not_below}
use Rattle.opening.proofs.OpeningBounds.{Sized, sizes_pass, stores_pass}

-- ---- refusals 1 to 4 are the rules'

module _ (o : Opening) (t r : List ℕ) where
  -- the lengths of the two stores
  abbrev pub lent : Lent
  lent = record { rings = length r; table = length t }

  abbrev pub C : ℕ
  C = next_power_of_two o.capacity

  abbrev size_tests : List (Bool × Refusal)
  size_tests =
      (either (ltb o.capacity 1) (ltb 65536 o.capacity), CapacityOutOfRange) ∷ (either (ltb o.slots 1) (ltb 8192 o.slots), SlotsOutOfRange) ∷ []

  abbrev store_tests : List (Bool × Refusal)
  store_tests = (ltb (length r) (o.slots * C), RingStoreShort) ∷ (ltb (length t) (16 * o.slots + 512), TableStoreShort) ∷ []

  sizes_alike : sizes_verdict o ≡ first_of size_tests
  unfolding sizes_verdict first_of
  sizes_alike =
      rw (not_below o.capacity 1, not_below 65536 o.capacity, not_below o.slots 1, not_below 8192 o.slots)
      (go (ltb o.capacity 1) (ltb 65536 o.capacity) (ltb o.slots 1) (ltb 8192 o.slots))
    where
      go : (a b c d : Bool)
          → cond (not a) (cond (not b) (cond (not c) (cond (not d) (Ok (tt {0})) (Err SlotsOutOfRange)) (Err SlotsOutOfRange)) (Err CapacityOutOfRange)) (Err CapacityOutOfRange)
          ≡ if (either a b) (Err CapacityOutOfRange) (if (either c d) (Err SlotsOutOfRange) (Ok (tt {0})))
      go true b c d = refl
      go false true c d = refl
      go false false true d = refl
      go false false false true = refl
      go false false false false = refl

  stores_alike : stores_verdict o.slots C (length t) (length r) ≡ first_of store_tests
  unfolding stores_verdict first_of
  stores_alike =
      rw (not_below (length r) (o.slots * C), not_below (length t) (16 * o.slots + 512)) (go (ltb (length r) (o.slots * C)) (ltb (length t) (16 * o.slots + 512)))
    where
      go : (a b : Bool) → cond (not a) (cond (not b) (Ok (tt {0})) (Err TableStoreShort)) (Err RingStoreShort) ≡ if a (Err RingStoreShort) (if b (Err TableStoreShort) (Ok (tt {0})))
      go true b = refl
      go false true = refl
      go false false = refl

  -- a call's answer after its refusals
  answers_by : (v : Verdict) (cs : List (Bool × Refusal)) (w : Words) (a : Outcome) → v ≡ first_of cs → w.0 ≡ a.1.0 → (unless_refused v t r w).0 ≡ (unless cs (opened_state o) a).1.0
  answers_by v cs w a e f =
      unless_refused_case (λ z. z.0 ≡ (unless cs (opened_state o) a).1.0) v t r w
      (λ why h. sym (ap (λ (z : Answer × State). z.0) (unless_by_verdict cs (opened_state o) a why (sym e ∙ h))))
      (λ h. f ∙ ap (λ (z : Outcome). z.1.0) (sym (unless_passed cs (opened_state o) a (sym e ∙ h))))

  -- an opening answers as the rules do, whatever it is lent
  pub open_answers_alike : (open_store o t r).0 ≡ (opening_outcome o lent).1.0
  unfolding open_store open_sized opening_outcome
  open_answers_alike =
      let a : Outcome = says Done (opened_state o) in
      answers_by (sizes_verdict o) size_tests _ (unless store_tests (opened_state o) a) sizes_alike
      (answers_by (stores_verdict o.slots C (length t) (length r)) store_tests (Done, put_header t (new_header o C), r) a stores_alike refl)
      ∙ ap (λ (z : Outcome). z.1.0) (sym (unless_append size_tests store_tests (opened_state o) a))

  -- ---- an opening that is accepted

  -- what its tests have told
  pub record Accepted : Type 0 where
    pub sized : Sized o
    pub rings_room : o.slots * C ≤ length r
    pub table_room : row_words * o.slots + header_words ≤ length t
    pub leaves : open_store o t r ≡ (Done, put_header t (new_header o C), r)

  pub accepted : (open_store o t r).0 ≡ Done → Accepted
  unfolding open_store open_sized unless_refused
  accepted e = go (sizes_verdict o) refl (stores_verdict o.slots C (length t) (length r)) refl e
    where
      refused : {why : Refusal} → Refused why ≡ Done → Accepted
      refused e = let z : ◌≡◌ {A = ℕ} 0 1 = cc in absurd (omega arith)

      go : (v : Verdict) → sizes_verdict o ≡ v → (w : Verdict) → stores_verdict o.slots C (length t) (length r) ≡ w
          → (unless_refused v t r (unless_refused w t r (Done, put_header t (new_header o C), r))).0 ≡ Done → Accepted
      go (Ok u) a (Ok n) b e =
          let p = stores_pass o.slots C (length t) (length r) b in
          record { sized = sizes_pass o a; rings_room = p.0; table_room = p.1; leaves = rw (a, b) }
      go (Ok u) a (Err why) b e = refused e
      go (Err why) a w b e = refused e

  module _ (a : Accepted) (e : (open_store o t r).0 ≡ Done) where
    abbrev pub u : List ℕ
    u = put_header t (new_header o C)

    enough : cell_at 0 o.slots ≤ length t
    enough = omega (arith, a.table_room)

    pub hd : (k : ℕ) → ltb k (length (header_list (new_header o C))) ≡ true → head u k ≡ get_or (header_list (new_header o C)) k 0
    hd = head_opened t o C a.sized.slots_some a.sized.slots_most enough

    none : issued u ≡ 0
    none = hd 0 refl

    view_opened : view u r ≡ opened_state o
    unfolding view opened_state
    view_opened =
        state_path _ _ (λ y. rw (none, le-ltb y 0 (omega arith))) (queue_opened t o C a.sized.slots_some a.sized.slots_most enough)
        (free_opened t o C a.sized.slots_some a.sized.slots_most enough) none (hd 5 refl) (hd 6 refl) (ap flag (hd 7 refl)) (hd 8 refl) (hd 4 refl)
        (channel_path _ _ (hd 9 refl) (hd 15 refl)) (hd 11 refl)

    ordered : Ordered (opened_state o)
    ordered = opened_ordered o lent (sym open_answers_alike ∙ e)

    power : Capacity C
    unfolding opened_state
    power =
        let p = ordered.sizes.power_of_two in
        record { log = p.0; small = p.1; is = p.2; most = rw p.2 (pow-le-pow_right {n = 2} (omega arith) p.1) }

    -- no slot is issued
    unissued : {A : Type 0} (x : ℕ) → x < issued u → A
    unissued x h = absurd (omega (arith, none))

    stores_opened : o.cursor < 2 ^ 64 → Stores u r
    unfolding registered_lanes living_senders keep from count opened_state
    stores_opened c =
        let q : queue_of u ≡ [] = queue_opened t o C a.sized.slots_some a.sized.slots_most enough in
        record {
          shaped = shaped_opened t o C a.sized.slots_some a.sized.slots_most enough;
          fast_below = rw (hd 12 refl, hd 4 refl) a.sized.slots_some;
          power = rw (hd 8 refl) power;
          rings_room = rw (hd 4 refl, hd 8 refl) a.rings_room;
          alive_flag = rw (hd 7 refl) (omega arith);
          first_cursor = rw (hd 10 refl) c;
          flags = λ x h. unissued x h;
          lanes = λ x h. unissued x h;
          named = record { once = λ x. rw q (omega arith); issued_only = λ x h. absurd (omega (arith, rw q at h)); flagged = λ x h. unissued x h };
          linked = record { of_issued = λ x h. unissued _ h; linked = λ p h. unissued _ h; of_pages = λ p h. unissued _ h };
          mark_words = record { pages_fit = λ p h. unissued _ h; groups_fit = λ g h. unissued _ h };
          windows = λ x h. unissued x h;
          lanes_counted = rw view_opened (hd 13 refl);
          living_counted = rw view_opened (hd 14 refl);
        }

    -- no slot is issued, and the word is 0, whatever it was
    held_opened : held_count u ≡ items_held (view u r)
    unfolding items_held keep from total opened_state
    held_opened = rw view_opened (hd 16 refl)

  -- "An accepted opening leaves a store in order, whatever the lent words held", and it shows the rules' opened state
  pub open_view : (open_store o t r).0 ≡ Done → view (open_store o t r).1 (open_store o t r).2 ≡ opened_state o
  open_view e = let a = accepted e in rw a.leaves (view_opened a e)

  pub open_in_order : o.cursor < 2 ^ 64 → (open_store o t r).0 ≡ Done → StoreInOrder (open_store o t r).1 (open_store o t r).2
  open_in_order c e =
      let a = accepted e in
      rw a.leaves (record { stores = stores_opened a e c; ordered = rw (view_opened a e) (ordered a e); held_counted = held_opened a e })
