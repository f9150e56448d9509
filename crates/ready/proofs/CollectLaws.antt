-- Collecting: what every step keeps of a table, and what becomes of page and group words.
-- Assumes nothing.
use mathlib.Core.Path.{◌≡◌, refl, sym, ap, ◌∙◌, subst}
use mathlib.Core.Bool.{Bool, true, false, cond}
use mathlib.Core.List.{List, [], ◌∷◌, foldl}
use Prim.Native.Nat.{ℕ, zero, suc, ◌+◌, ◌*◌, ◌/◌, ◌%◌, ◌^◌, ◌≤◌, ◌<◌}
use native.Mathlib.Nat.{mod-lt, zero-lt-suc}
use native.Mathlib.Omega.{arith}
use borrow.Author.Tests.{ltb-true, ne_eqb}
use lib.Dec.{ltb, leb, eqb}
use lib.ListN.{length}
use Rattle.demands.proofs.Counting.{equal, other, same?}
use Rattle.lane.specs.Table.{header_words, row_words, lane_words, HasRow, head, cell, set_cell, lane_at}
use Rattle.lane.proofs.TableLaws.{frames, has_row}
use Rattle.queues.specs.Header.{Shaped, issued, group_cursor, set_group_cursor}
use Rattle.queues.specs.Queue.{queue_column, QueueNames}
use Rattle.queues.specs.Registry.{free_of}
use Rattle.ready.specs.Bits.{bit, bits_from}
use Rattle.ready.specs.Ready.{page_column, group_column, page_word, group_word, non_zero, Linked, queued_lane, offer, collect_page, collect_group, group_count, group_at, collected_from, collect_ready}
use Rattle.ready.proofs.BitLaws.{In, here, there, bits_in, Each, none, both, bits_each, bit_zero}
use Rattle.queues.proofs.NamesLaws.{names_same}
use Rattle.queues.proofs.QueueLaws.{queue_frames, header_in, shaped_set_cell}
use Rattle.ready.proofs.OfferLaws.{Rest, rest_self, rest_then, rest_offered, shaped_offered, names_offered}

-- pages and groups stay linked where their words stay
pub linked_by : (t u : List ℕ) → issued u ≡ issued t → ((page : ℕ) → page_word u page ≡ page_word t page) → ((group : ℕ) → group_word u group ≡ group_word t group)
    → Linked t → Linked u
linked_by t u e p g k =
    record {
      of_issued = λ slot l b. rw e (k.of_issued slot (rw e at l) (rw (p (slot / 64)) at b));
      linked = λ page l. rw (p page, g (page / 64)) (k.linked page (rw e at l));
      of_pages = λ page l b. rw e (k.of_pages page (rw e at l) (rw (g (page / 64)) at b));
    }

pub linked_rest : (t u : List ℕ) → Rest t u → Linked t → Linked u
linked_rest t u r =
    linked_by t u (r.heads 0 refl refl) (λ page. r.cells page_column page refl refl refl) (λ group. r.cells group_column group refl refl refl)

pub linked_offered : (t : List ℕ) (x : ℕ) → Shaped t → Linked t → Linked (offer t x)
linked_offered t x s = linked_rest t (offer t x) (rest_offered t x s)

-- ---- what every step keeps

pub record Kept (t u : List ℕ) : Type 0 where
  pub shaped : Shaped u
  pub names : QueueNames u
  pub same_issued : issued u ≡ issued t
  pub long : length u ≡ length t

pub kept_self : (t : List ℕ) → Shaped t → QueueNames t → Kept t t
kept_self t s q = record { shaped = s; names = q; same_issued = refl; long = refl }

pub kept_then : {t u v : List ℕ} → Kept t u → Kept u v → Kept t v
kept_then a b =
    record { shaped = b.shaped; names = b.names; same_issued = b.same_issued ∙ a.same_issued; long = b.long ∙ a.long }

-- what every step of a fold keeps, the fold keeps
kept_fold : (f : List ℕ → ℕ → List ℕ) → ((t : List ℕ) (x : ℕ) → Shaped t → QueueNames t → Kept t (f t x)) → (l t : List ℕ) → Shaped t → QueueNames t
    → Kept t (foldl f t l)
kept_fold f k [] t s q = kept_self t s q
kept_fold f k (x ∷ l) t s q = let a = k t x s q in kept_then a (kept_fold f k l (f t x) a.shaped a.names)

-- a word of a column that is neither a lane's nor the queue's
pub kept_set_cell : (t : List ℕ) (c row v : ℕ) → leb lane_words c ≡ true → ltb c row_words ≡ true → eqb c queue_column ≡ false → Shaped t → QueueNames t
    → Kept t (set_cell t c row v)
kept_set_cell t c row v a p n s q =
    record {
      shaped = shaped_set_cell t s c row v;
      names = names_same t (set_cell t c row v) q (simp frames) (λ y. simp (frames, a, p)) (λ y. simp (queue_frames, p, n));
      same_issued = simp frames;
      long = simp frames;
    }

pub kept_offered : (t : List ℕ) (x : ℕ) → Shaped t → QueueNames t → Kept t (offer t x)
kept_offered t x s q =
    record {
      shaped = shaped_offered t x s q;
      names = names_offered t x s q;
      same_issued = (rest_offered t x s).heads 0 refl refl;
      long = (rest_offered t x s).long;
    }

pub kept_page : (t : List ℕ) (page : ℕ) → Shaped t → QueueNames t → Kept t (collect_page t page)
unfolding collect_page
kept_page t page s q =
    let a = kept_set_cell t page_column page 0 refl refl refl s q in
    kept_then a (kept_fold offer kept_offered (bits_from 64 (64 * page) (page_word t page)) _ a.shaped a.names)

pub kept_group : (t : List ℕ) (group : ℕ) → Shaped t → QueueNames t → Kept t (collect_group t group)
unfolding collect_group
kept_group t group s q =
    let a = kept_set_cell t group_column group 0 refl refl refl s q in
    kept_then a (kept_fold collect_page kept_page (bits_from 64 (64 * group) (group_word t group)) _ a.shaped a.names)

-- ---- page and group words under a page's collection

rest_fold : (l t : List ℕ) → Shaped t → QueueNames t → Rest t (foldl offer t l)
rest_fold [] t s q = rest_self t
rest_fold (x ∷ l) t s q =
    rest_then (rest_offered t x s) (rest_fold l (offer t x) (shaped_offered t x s q) (names_offered t x s q))

module _ (t : List ℕ) (page : ℕ) (s : Shaped t) (q : QueueNames t) where
  -- taking the page's word aside, only the lanes' queued words and the queue change
  pub rest_page : Rest (set_cell t page_column page 0) (collect_page t page)
  unfolding collect_page
  rest_page =
      let a = kept_set_cell t page_column page 0 refl refl refl s q in
      rest_fold (bits_from 64 (64 * page) (page_word t page)) (set_cell t page_column page 0) a.shaped a.names

  pub page_taken : HasRow page (length t) → page_word (collect_page t page) page ≡ 0
  page_taken r = rest_page.cells page_column page refl refl refl ∙ simp (frames, has_row t page r)

  pub page_left : (x : ℕ) → eqb x page ≡ false → page_word (collect_page t page) x ≡ page_word t x
  page_left x n = rest_page.cells page_column x refl refl refl ∙ simp (frames, n)

  pub group_left : (group : ℕ) → group_word (collect_page t page) group ≡ group_word t group
  group_left group = rest_page.cells group_column group refl refl refl ∙ simp frames

-- ---- under a run of them

module _ (page : ℕ) where
  run_zero : (l t : List ℕ) → Shaped t → QueueNames t → HasRow page (length t) → page_word t page ≡ 0 → page_word (foldl collect_page t l) page ≡ 0
  run_zero [] t s q r z = z
  run_zero (x ∷ l) t s q r z =
      let k = kept_page t x s q in
      run_zero l (collect_page t x) k.shaped k.names (omega (arith, k.long)) (elim (same? page x) [
        | equal e p i ↦ rw (← e) (page_taken t page s q r)
        | other d p i ↦ page_left t x s q page p ∙ z
      ])

  run_in : (l t : List ℕ) → Shaped t → QueueNames t → HasRow page (length t) → In page l → page_word (foldl collect_page t l) page ≡ 0
  run_in [] t s q r i = elim i [ ]
  run_in (x ∷ l) t s q r (here e) =
      let k = kept_page t x s q in
      run_zero l (collect_page t x) k.shaped k.names (omega (arith, k.long)) (rw (← e) (page_taken t page s q r))
  run_in (x ∷ l) t s q r (there i) =
      let k = kept_page t x s q in
      run_in l (collect_page t x) k.shaped k.names (omega (arith, k.long)) i

  run_other : (l t : List ℕ) → Shaped t → QueueNames t → Each (λ x. page ≡ x → ⊥) l → page_word (foldl collect_page t l) page ≡ page_word t page
  run_other [] t s q none = refl
  run_other (x ∷ l) t s q (both n r) =
      let k = kept_page t x s q in
      run_other l (collect_page t x) k.shaped k.names r ∙ page_left t x s q page (ne_eqb page x n)

run_groups : (group : ℕ) (l t : List ℕ) → Shaped t → QueueNames t → group_word (foldl collect_page t l) group ≡ group_word t group
run_groups group [] t s q = refl
run_groups group (x ∷ l) t s q =
    let k = kept_page t x s q in
    run_groups group l (collect_page t x) k.shaped k.names ∙ group_left t x s q group

-- ---- under a group's collection

-- the pages that a group's bits name exist
pub pages_of_group : (t : List ℕ) (group : ℕ) → Linked t → 4096 * group < issued t → Each (λ x. 64 * x < issued t) (bits_from 64 (64 * group) (group_word t group))
pages_of_group t group k h =
    bits_each (λ x. 64 * x < issued t) 64 (64 * group) (group_word t group)
    (λ b l e.
    let d : (64 * group + b) / 64 ≡ group = omega arith in
    let m : (64 * group + b) % 64 ≡ b = omega arith in
    k.of_pages (64 * group + b) (omega arith) (rw (d, m) e))

bit_one : (w b : ℕ) → (bit w b ≡ 0 → ⊥) → bit w b ≡ 1
bit_one w b n = omega (arith, mod-lt (w / 2 ^ b) (zero-lt-suc 1))

zero_of : (n : ℕ) → non_zero n ≡ 0 → n ≡ 0
zero_of zero e = refl
zero_of (suc n) e = absurd (omega arith)

module _ (t : List ℕ) (group : ℕ) (s : Shaped t) (q : QueueNames t) where
  -- the table without the group's bits
  begun : Kept t (set_cell t group_column group 0)
  begun = kept_set_cell t group_column group 0 refl refl refl s q

  pub group_taken : HasRow group (length t) → group_word (collect_group t group) group ≡ 0
  unfolding collect_group
  group_taken r =
      run_groups group (bits_from 64 (64 * group) (group_word t group)) (set_cell t group_column group 0) begun.shaped begun.names
      ∙ simp (frames, has_row t group r)

  pub other_group_left : (x : ℕ) → eqb x group ≡ false → group_word (collect_group t group) x ≡ group_word t x
  unfolding collect_group
  other_group_left x n =
      run_groups x (bits_from 64 (64 * group) (group_word t group)) (set_cell t group_column group 0) begun.shaped begun.names
      ∙ simp (frames, n)

  -- a page of another group
  pub other_pages_left : (page : ℕ) → (page / 64 ≡ group → ⊥) → page_word (collect_group t group) page ≡ page_word t page
  unfolding collect_group
  other_pages_left page n =
      run_other page (bits_from 64 (64 * group) (group_word t group)) (set_cell t group_column group 0) begun.shaped begun.names
      (bits_each (λ x. page ≡ x → ⊥) 64 (64 * group) (group_word t group) (λ b l e f. n (omega arith)))
      ∙ simp frames

  -- a page of the group: taken if its bit was set, 0 before if not
  pub pages_taken : Linked t → (page : ℕ) → page / 64 ≡ group → 64 * page < issued t → page_word (collect_group t group) page ≡ 0
  unfolding collect_group
  pages_taken k page e h =
      let l = bits_from 64 (64 * group) (group_word t group) in
      let u = set_cell t group_column group 0 in
      let r : HasRow page (length u) = omega (arith, begun.long, s.room, s.issued_most) in
      let linked : bit (group_word t group) (page % 64) ≡ non_zero (page_word t page) = ap (λ (g : ℕ). bit (group_word t g) (page % 64)) (sym e) ∙ k.linked page h in
      elim (same? (bit (group_word t group) (page % 64)) 0) [
        | equal z p i ↦ run_zero page l u begun.shaped begun.names r (simp frames (zero_of (page_word t page) (sym linked ∙ z)))
        | other d p i ↦ run_in page l u begun.shaped begun.names r (bits_in 64 (64 * group) (group_word t group) (page % 64) page (omega arith) (omega arith) (bit_one (group_word t group) (page % 64) d))
      ]

  -- pages and groups stay linked
  pub linked_group : Linked t → 4096 * group < issued t → Linked (collect_group t group)
  linked_group k h =
      let same : issued (collect_group t group) ≡ issued t = (kept_group t group s q).same_issued in
      let row : HasRow group (length t) = omega (arith, s.room, s.issued_most) in
      record {
        of_issued = λ slot l b. elim (same? (slot / 64 / 64) group) [
          | equal e p i ↦ absurd (absent (slot % 64) (pages_taken k (slot / 64) e (rw same at l)) b)
          | other d p i ↦ rw same (k.of_issued slot (rw same at l) (rw (other_pages_left (slot / 64) d) at b))
        ];
        linked = λ page l. elim (same? (page / 64) group) [
          | equal e p i ↦ rw (pages_taken k page e (rw same at l), e, group_taken row) (bit_zero (page % 64))
          | other d p i ↦ rw (other_pages_left page d, other_group_left (page / 64) p) (k.linked page (rw same at l))
        ];
        of_pages = λ page l b. elim (same? (page / 64) group) [
          | equal e p i ↦ absurd (absent (page % 64) (ap (group_word (collect_group t group)) e ∙ group_taken row) b)
          | other d p i ↦ rw same (k.of_pages page (rw same at l) (rw (other_group_left (page / 64) p) at b))
        ];
      }
    where
      absent : {w : ℕ} (b : ℕ) → w ≡ 0 → bit w b ≡ 1 → ⊥
      absent b z e = let o : ◌≡◌ {A = ℕ} 1 0 = sym e ∙ ap (λ (x : ℕ). bit x b) z ∙ bit_zero b in omega arith

-- ---- what collecting leaves: all but the lanes' queued words, the queue, the group cursor, and the page and group words

pub record Beside (t u : List ℕ) : Type 0 where
  pub heads : (k : ℕ) → ltb k header_words ≡ true → eqb 2 k ≡ false → eqb 6 k ≡ false → head u k ≡ head t k
  pub cells : (c row : ℕ) → leb lane_words c ≡ true → ltb c row_words ≡ true → eqb queue_column c ≡ false → eqb page_column c ≡ false
      → eqb group_column c ≡ false → cell u c row ≡ cell t c row
  pub lanes : (y : ℕ) → queued_lane (lane_at u y) ≡ queued_lane (lane_at t y)

pub beside_self : (t : List ℕ) → Beside t t
beside_self t = record { heads = λ k p n c. refl; cells = λ c row a p n m g. refl; lanes = λ y. refl }

pub beside_then : {t u v : List ℕ} → Beside t u → Beside u v → Beside t v
beside_then a b =
    record {
      heads = λ k p n c. b.heads k p n c ∙ a.heads k p n c;
      cells = λ c row l p n m g. b.cells c row l p n m g ∙ a.cells c row l p n m g;
      lanes = λ y. b.lanes y ∙ a.lanes y;
    }

beside_page : (t : List ℕ) (page : ℕ) → Shaped t → QueueNames t → Beside t (collect_page t page)
beside_page t page s q =
    let r = rest_page t page s q in
    record {
      heads = λ k p n c. r.heads k p n ∙ simp (frames, p);
      cells = λ c row a p n m g. r.cells c row a p n ∙ simp (frames, p, m);
      lanes = λ y. let same : lane_at (set_cell t page_column page 0) y ≡ lane_at t y = simp frames in r.lanes y ∙ ap queued_lane same;
    }

beside_pages : (l t : List ℕ) → Shaped t → QueueNames t → Beside t (foldl collect_page t l)
beside_pages [] t s q = beside_self t
beside_pages (x ∷ l) t s q =
    let k = kept_page t x s q in
    beside_then (beside_page t x s q) (beside_pages l (collect_page t x) k.shaped k.names)

pub beside_group : (t : List ℕ) (group : ℕ) → Shaped t → QueueNames t → Beside t (collect_group t group)
unfolding collect_group
beside_group t group s q =
    let k = begun t group s q in
    let b = beside_pages (bits_from 64 (64 * group) (group_word t group)) (set_cell t group_column group 0) k.shaped k.names in
    record {
      heads = λ c p n m. b.heads c p n m ∙ simp (frames, p);
      cells = λ c row a p n m g. b.cells c row a p n m g ∙ simp (frames, p, g);
      lanes = λ y. let same : lane_at (set_cell t group_column group 0) y ≡ lane_at t y = simp frames in b.lanes y ∙ ap queued_lane same;
    }

pub free_beside : (t u : List ℕ) → Beside t u → free_of u ≡ free_of t
unfolding free_of
free_beside t u b = simp (b.heads, b.cells)

-- ---- the cursor stored

module _ (t : List ℕ) (v : ℕ) where
  pub kept_cursor : v ≤ 2 → Shaped t → QueueNames t → Kept t (set_group_cursor t v)
  kept_cursor h s q =
      record {
        shaped = simp (frames, header_in t s) (omega (arith, s));
        names = names_same t (set_group_cursor t v) q (simp frames) (λ y. simp frames) (λ y. simp queue_frames);
        same_issued = simp frames;
        long = simp frames;
      }

  pub linked_cursor : Linked t → Linked (set_group_cursor t v)
  linked_cursor = linked_by t (set_group_cursor t v) (simp frames) (λ page. simp frames) (λ group. simp frames)

-- ---- from the group cursor round

-- what collecting keeps of a table in order, and what it leaves
pub record Keeps (t u : List ℕ) : Type 0 where
  pub kept : Kept t u
  pub linked : Linked u
  pub beside : Beside t u

keeps_then : {t u v : List ℕ} → Keeps t u → Keeps u v → Keeps t v
keeps_then a b = record { kept = kept_then a.kept b.kept; linked = b.linked; beside = beside_then a.beside b.beside }

-- a group, and the cursor after it
pub keeps_group : (t : List ℕ) (g : ℕ) → Shaped t → QueueNames t → Linked t → g < group_count (issued t) → Keeps t (set_group_cursor (collect_group t g) (g + 1))
keeps_group t g s q k low =
    let a = kept_group t g s q in
    let two : g + 1 ≤ 2 = omega (arith, s.issued_most, s.slots_most) in
    record {
      kept = kept_then a (kept_cursor (collect_group t g) (g + 1) two a.shaped a.names);
      linked = linked_cursor (collect_group t g) (g + 1) (linked_group t g s q k (omega arith));
      beside =
          beside_then (beside_group t g s q)
          (record { heads = λ i p m c. simp (frames, c); cells = λ c row a p m d e. simp frames; lanes = λ y. simp frames });
    }

pub group_lt : (n next : ℕ) → 0 < n → group_at n next < n
unfolding group_at
group_lt n next h = go (ltb next n) refl
  where
    go : (b : Bool) → ltb next n ≡ b → cond b next 0 < n
    go true e = ltb-true next n e
    go false e = h

keeps_from : (n k : ℕ) (all : Bool) (t : List ℕ) (next : ℕ) → n ≡ group_count (issued t) → k ≤ n → Shaped t → QueueNames t → Linked t
    → Keeps t (collected_from n k all t next)
unfolding collected_from
keeps_from n zero all t next e h s q k = record { kept = kept_self t s q; linked = k; beside = beside_self t }
keeps_from n (suc m) all t next e h s q k =
    let g = group_at n next in
    let one = keeps_group t g s q k (subst (λ (i : ℕ). g < i) e (group_lt n next (omega arith))) in
    go (eqb (group_word t g) 0) all
    (keeps_from n m all t (g + 1) e (omega arith) s q k)
    one
    (keeps_from n m all (set_group_cursor (collect_group t g) (g + 1)) (g + 1) (e ∙ sym (ap group_count one.kept.same_issued)) (omega arith)
    one.kept.shaped one.kept.names one.linked)
  where
    go : {u v w : List ℕ} (b c : Bool) → Keeps t u → Keeps t v → Keeps v w → Keeps t (cond b u (cond c w v))
    go true c x y z = x
    go false true x y z = keeps_then y z
    go false false x y z = y

pub keeps_ready : (t : List ℕ) (all : Bool) → Shaped t → QueueNames t → Linked t → Keeps t (collect_ready all t)
unfolding collect_ready
keeps_ready t all s q k = keeps_from (group_count (issued t)) (group_count (issued t)) all t (group_cursor t) refl (omega arith) s q k
