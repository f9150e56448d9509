-- The slots that a group's bits name are the rules' marked slots of that group, ascending: so collecting puts into the queue what the
-- rules put there.
-- Assumes nothing.
use mathlib.Core.Path.{◌≡◌, refl, sym, ap, ap₂, ◌∙◌}
use mathlib.Core.Bool.{Bool, true, false, cond}
use mathlib.Core.List.{List, [], ◌∷◌, ◌++◌}
use Prim.Native.Nat.{ℕ, zero, suc, ◌+◌, ◌*◌, ◌/◌, ◌%◌, ◌≤◌, ◌<◌, suc-le-suc}
use native.Mathlib.Nat.{add-zero, div-one, zero-lt-suc}
use native.Mathlib.Numerals.{add-one}
use native.Mathlib.Decide.{dec_lt}
use native.Mathlib.Omega.{arith}
use borrow.Author.Tests.{eqb-true, eqb-false, ne_eqb}
use lib.Dec.{eqb}
use lib.ListN.{length}
use Rattle.model.specs.Lists.{if, keep, from}
use Rattle.model.specs.State.{State}
use Rattle.model.specs.Ready.{marks}
use Rattle.demands.proofs.Pages.{marks_range, by_pages, pages}
use Rattle.lane.specs.Table.{HasRow}
use Rattle.queues.specs.Header.{Shaped, issued}
use Rattle.queues.specs.Queue.{queue_of, QueueNames}
use Rattle.ready.specs.Bits.{bit, keep_if, bits_from}
use Rattle.ready.specs.Ready.{page_word, group_word, page_bit, group_bit, mark, non_zero, Linked, wanted, collect_group}
use Rattle.ready.proofs.BitLaws.{bit_suc, bit_zero}
use Rattle.ready.proofs.MarkLaws.{head_marked, bits_marked}
use Rattle.ready.proofs.CollectedQueue.{slots_of_page, slots_of_pages, slots_of_group, queue_group}

-- ---- set bits as a test on a range

keep_first : (P : ℕ → Bool) (a n : ℕ) → keep P (from a (suc n)) ≡ if (P a) (a ∷ keep P (from (suc a) n)) (keep P (from (suc a) n))
unfolding keep from
keep_first P a n = refl

keep_nothing : (P : ℕ → Bool) (a : ℕ) → keep P (from a 0) ≡ []
unfolding keep from
keep_nothing P a = refl

keep_none : (P : ℕ → Bool) (n a : ℕ) → ((x : ℕ) → a ≤ x → x < a + n → P x ≡ false) → keep P (from a n) ≡ []
keep_none P zero a h = keep_nothing P a
keep_none P (suc n) a h =
    keep_first P a n ∙ rw (h a (omega arith) (omega arith)) (keep_none P n (suc a) (λ x l m. h x (omega arith) (omega arith)))

pub bits_keep : (P : ℕ → Bool) (k p w : ℕ) → ((i : ℕ) → i < k → P (p + i) ≡ eqb (bit w i) 1) → bits_from k p w ≡ keep P (from p k)
unfolding bits_from
bits_keep P zero p w h = sym (keep_nothing P p)
bits_keep P (suc k) p w h =
    go (w % 2) refl
    (bits_keep P k (p + 1) (w / 2) (λ i l. ap P (shift i) ∙ h (suc i) (suc-le-suc l) ∙ ap (λ (x : ℕ). eqb x 1) (bit_suc w i))
    ∙ ap (λ (a : ℕ). keep P (from a k)) (add-one p))
    ∙ ap (λ (b : Bool). if b (p ∷ keep P (from (suc p) k)) (keep P (from (suc p) k))) (sym now)
    ∙ sym (keep_first P p k)
  where
    shift : (i : ℕ) → p + 1 + i ≡ p + suc i
    shift i = omega arith

    now : P p ≡ eqb (w % 2) 1
    now = ap P (sym (add-zero p)) ∙ h 0 (zero-lt-suc k) ∙ ap (λ (x : ℕ). eqb (x % 2) 1) (div-one w)

    go : (d : ℕ) → w % 2 ≡ d → bits_from k (p + 1) (w / 2) ≡ keep P (from (suc p) k)
        → keep_if d p (bits_from k (p + 1) (w / 2)) ≡ if (eqb d 1) (p ∷ keep P (from (suc p) k)) (keep P (from (suc p) k))
    go zero e r = r
    go (suc zero) e r = ap (λ (l : List ℕ). p ∷ l) r
    go (suc (suc d)) e r = absurd (omega arith)

-- ---- pages by the group's bits, and all of them

module _ (t : List ℕ) (P R : ℕ → Bool) where
  slots_by_pages : (n a : ℕ)
      → ((page : ℕ) → a ≤ page → page < a + n → R page ≡ true → slots_of_page t page ≡ keep P (from (64 * page) 64))
      → ((page : ℕ) → a ≤ page → page < a + n → R page ≡ false → keep P (from (64 * page) 64) ≡ [])
      → slots_of_pages t (keep R (from a n)) ≡ by_pages P (64 * a) n
  unfolding by_pages
  slots_by_pages zero a f g = ap (slots_of_pages t) (keep_nothing R a)
  slots_by_pages (suc n) a f g =
      ap (slots_of_pages t) (keep_first R a n)
      ∙ go (R a) refl
      (slots_by_pages n (suc a) (λ page l m. f page (omega arith) (omega arith)) (λ page l m. g page (omega arith) (omega arith))
      ∙ ap (λ (b : ℕ). by_pages P b n) on)
    where
      on : 64 * suc a ≡ 64 * a + 64
      on = omega arith

      go : (b : Bool) → R a ≡ b → slots_of_pages t (keep R (from (suc a) n)) ≡ by_pages P (64 * a + 64) n
          → slots_of_pages t (if b (a ∷ keep R (from (suc a) n)) (keep R (from (suc a) n))) ≡ keep P (from (64 * a) 64) ++ by_pages P (64 * a + 64) n
      go true e r = ap₂ ◌++◌ (f a (omega arith) (omega arith) e) r
      go false e r = r ∙ ap (λ (l : List ℕ). l ++ by_pages P (64 * a + 64) n) (sym (g a (omega arith) (omega arith) e))

-- ---- the rules' marks

-- a state of the rules whose issued slots and marks are the table's
pub record SameMarks (t : List ℕ) (s : State) : Type 0 where
  pub slots_issued : s.issued ≡ issued t
  pub marked_issued : (x : ℕ) → x < issued t → (s.slot_of x).marked ≡ eqb (page_bit t x) 1
  pub unmarked_past : (x : ℕ) → issued t ≤ x → (s.slot_of x).marked ≡ false

module _ (t : List ℕ) (s : State) (k : Linked t) (m : SameMarks t s) where
  -- a page whose group bit is set: its bits are the marks
  page_set : (page : ℕ) → 64 * page < issued t → slots_of_page t page ≡ keep (λ x. (s.slot_of x).marked) (from (64 * page) 64)
  page_set page h =
      bits_keep (λ x. (s.slot_of x).marked) 64 (64 * page) (page_word t page) (λ i l. slot i l (dec_lt (64 * page + i) (issued t)))
    where
      slot : (i : ℕ) → i < 64 → Dec (64 * page + i < issued t) → (s.slot_of (64 * page + i)).marked ≡ eqb (bit (page_word t page) i) 1
      slot i l (yes g) =
          let d : (64 * page + i) / 64 ≡ page = omega arith in
          let r : (64 * page + i) % 64 ≡ i = omega arith in
          rw (d, r) at (m.marked_issued (64 * page + i) g)
      slot i l (no g) =
          let d : (64 * page + i) / 64 ≡ page = omega arith in
          let r : (64 * page + i) % 64 ≡ i = omega arith in
          m.unmarked_past (64 * page + i) (omega arith)
          ∙ sym (ne_eqb (bit (page_word t page) i) 1 (λ e. g (k.of_issued (64 * page + i) (omega arith) (rw (d, r) e))))

  -- one whose group bit is not set has no mark
  page_unset : (page : ℕ) → (group_bit t page ≡ 1 → ⊥) → keep (λ x. (s.slot_of x).marked) (from (64 * page) 64) ≡ []
  page_unset page n = keep_none (λ x. (s.slot_of x).marked) 64 (64 * page) (λ x a b. slot x (omega arith) (dec_lt x (issued t)))
    where
      zero_of : (w : ℕ) → (non_zero w ≡ 1 → ⊥) → w ≡ 0
      zero_of zero d = refl
      zero_of (suc w) d = absurd (d refl)

      slot : (x : ℕ) → x / 64 ≡ page → Dec (x < issued t) → (s.slot_of x).marked ≡ false
      slot x e (yes g) =
          let empty : page_word t page ≡ 0 = zero_of (page_word t page) (λ f. n (k.linked page (omega arith) ∙ f)) in
          m.marked_issued x g ∙ rw (e, empty, bit_zero (x % 64))
      slot x e (no g) = m.unmarked_past x (omega arith)

  -- the slots that a group's bits name are its marked slots, ascending
  pub group_marks : (group : ℕ) → 4096 * group < issued t → slots_of_group t group ≡ marks s group
  group_marks group h =
      let P : ℕ → Bool = λ x. (s.slot_of x).marked in
      let R : ℕ → Bool = λ page. eqb (group_bit t page) 1 in
      let at : 64 * (64 * group) ≡ 4096 * group = omega arith in
      ap (slots_of_pages t)
      (bits_keep R 64 (64 * group) (group_word t group) (λ i l.
      let d : (64 * group + i) / 64 ≡ group = omega arith in
      let r : (64 * group + i) % 64 ≡ i = omega arith in
      rw (d, r)))
      ∙ slots_by_pages t P R 64 (64 * group)
      (λ page a b e. page_set page (k.of_pages page (omega arith) (eqb-true (group_bit t page) 1 e)))
      (λ page a b e. page_unset page (eqb-false (group_bit t page) 1 e))
      ∙ sym (marks_range s group (λ x l. m.unmarked_past x (omega (arith, m.slots_issued))) ∙ pages P (4096 * group) 64 ∙ ap (λ (a : ℕ). by_pages P a 64) (sym at))

  -- the queue after a group's collection: at its back the wanted ones of the group's marked slots, ascending
  pub queue_collected : Shaped t → QueueNames t → (group : ℕ) → 4096 * group < issued t
      → queue_of (collect_group t group) ≡ queue_of t ++ keep (wanted t) (marks s group)
  queue_collected sh q group h = queue_group t group sh q ∙ ap (λ (l : List ℕ). queue_of t ++ keep (wanted t) l) (group_marks group h)

-- ---- a mark

-- marking a slot of the table is marking it in the rules' state
pub same_marks_marked : (t : List ℕ) (s u : State) (x : ℕ) → Shaped t → x < issued t → SameMarks t s → u.issued ≡ s.issued
    → ((y : ℕ) → (u.slot_of y).marked ≡ if (eqb x y) true (s.slot_of y).marked) → SameMarks (mark t x) u
same_marks_marked t s u x sh h m i f =
    let row : HasRow (x / 64) (length t) = omega (arith, sh.room, sh.issued_most) in
    let same : issued (mark t x) ≡ issued t = head_marked t x 0 refl in
    record {
      slots_issued = i ∙ m.slots_issued ∙ sym same;
      marked_issued = λ y l.
          f y ∙ slot y (eqb x y) (m.marked_issued y (rw same at l)) ∙ ap (λ (n : ℕ). eqb n 1) (sym (bits_marked t x row y));
      unmarked_past = λ y l. f y ∙ past y (rw same at l) (m.unmarked_past y (rw same at l));
    }
  where
    slot : (y : ℕ) (b : Bool) → (s.slot_of y).marked ≡ eqb (page_bit t y) 1 → if b true (s.slot_of y).marked ≡ eqb (cond b 1 (page_bit t y)) 1
    slot y true e = refl
    slot y false e = e

    past : (y : ℕ) → issued t ≤ y → (s.slot_of y).marked ≡ false → if (eqb x y) true (s.slot_of y).marked ≡ false
    past y l e = rw (ne_eqb x y (λ p. omega arith)) e
