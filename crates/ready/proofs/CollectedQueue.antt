-- What collecting makes of the queue: at its back come the wanted ones of the slots that the taken bits name, in their order.
-- Assumes nothing.
use mathlib.Core.Path.{◌≡◌, refl, sym, ap, ap₂, ◌∙◌}
use mathlib.Core.Bool.{Bool, true, false}
use mathlib.Core.List.{List, [], ◌∷◌, ◌++◌, foldl, append-nil, append_assoc}
use Prim.Native.Nat.{ℕ, ◌*◌, ◌/◌, ◌≤◌}
use native.Mathlib.Omega.{arith}
use borrow.Author.Tests.{ne_eqb}
use lib.Dec.{ltb, leb}
use Rattle.model.specs.Lists.{if, keep}
use Rattle.lane.specs.Table.{row_words, lane_words, set_cell, lane_at}
use Rattle.lane.proofs.TableLaws.{frames}
use Rattle.queues.specs.Header.{Shaped, issued}
use Rattle.queues.specs.Queue.{queue_of, QueueNames}
use Rattle.ready.specs.Bits.{bits_from}
use Rattle.ready.specs.Ready.{page_column, group_column, page_word, group_word, wanted, offer, collect_page, collect_group}
use Rattle.ready.proofs.BitLaws.{Each, none, both, bits_each, Ascends, end, next, bits_ascend}
use Rattle.queues.proofs.QueueLaws.{queue_frames}
use Rattle.ready.proofs.OfferLaws.{wants, offered_case, rest_offered, shaped_offered, names_offered, queue_enqueued, other_enqueued}
use Rattle.ready.proofs.CollectLaws.{Kept, kept_set_cell, kept_page, page_left}

-- ---- lists

-- the same test on every number of a list
pub keep_each : (p q : ℕ → Bool) (l : List ℕ) → Each (λ x. p x ≡ q x) l → keep p l ≡ keep q l
unfolding keep
keep_each p q [] none = refl
keep_each p q (x ∷ l) (both e r) = rw (e, keep_each p q l r)

keep_all : (p q : ℕ → Bool) (l : List ℕ) → ((x : ℕ) → p x ≡ q x) → keep p l ≡ keep q l
unfolding keep
keep_all p q [] h = refl
keep_all p q (x ∷ l) h = rw (h x, keep_all p q l h)

pub keep_append : (p : ℕ → Bool) (a b : List ℕ) → keep p (a ++ b) ≡ keep p a ++ keep p b
unfolding keep
keep_append p [] b = refl
keep_append p (x ∷ a) b = go (p x) (keep_append p a b)
  where
    go : (c : Bool) → keep p (a ++ b) ≡ keep p a ++ keep p b → if c (x ∷ keep p (a ++ b)) (keep p (a ++ b)) ≡ if c (x ∷ keep p a) (keep p a) ++ keep p b
    go true e = ap (λ (l : List ℕ). x ∷ l) e
    go false e = e

pub each_map : {P Q : ℕ → Type 0} (l : List ℕ) → ((x : ℕ) → P x → Q x) → Each P l → Each Q l
each_map [] f none = none
each_map (x ∷ l) f (both p r) = both (f x p) (each_map l f r)

each_append : {P : ℕ → Type 0} (a b : List ℕ) → Each P a → Each P b → Each P (a ++ b)
each_append [] b none r = r
each_append (x ∷ a) b (both p q) r = both p (each_append a b q r)

each_ascends : {a : ℕ} (l : List ℕ) → Ascends a l → Each (λ x. a ≤ x) l
each_ascends [] end = none
each_ascends (x ∷ l) (next h r) = both h (each_map l (λ y g. omega arith) (each_ascends l r))

-- ---- offers

module _ (t : List ℕ) (x : ℕ) (s : Shaped t) where
  -- another slot is wanted as before
  wanted_offered : (y : ℕ) → (y ≡ x → ⊥) → wanted (offer t x) y ≡ wanted t y
  unfolding wanted
  wanted_offered y n =
      let lane : lane_at (offer t x) y ≡ lane_at t y =
      offered_case (λ u. lane_at u y ≡ lane_at t y) t x (λ e. other_enqueued t x y (ne_eqb y x n)) (λ e. refl) in
      let same : issued (offer t x) ≡ issued t = (rest_offered t x s).heads 0 refl refl in
      rw (lane, same)

  queue_offered : QueueNames t → queue_of (offer t x) ≡ queue_of t ++ keep (wanted t) (x ∷ [])
  unfolding keep
  queue_offered q =
      offered_case (λ u. queue_of u ≡ queue_of t ++ if (wanted t x) (x ∷ []) []) t x
      (λ e. rw e (queue_enqueued t x s q (wants t x e))) (λ e. rw e (sym (append-nil (queue_of t))))

wanted_offers : (y : ℕ) (l t : List ℕ) → Shaped t → QueueNames t → Each (λ x. y ≡ x → ⊥) l → wanted (foldl offer t l) y ≡ wanted t y
wanted_offers y [] t s q none = refl
wanted_offers y (x ∷ l) t s q (both n r) =
    wanted_offers y l (offer t x) (shaped_offered t x s q) (names_offered t x s q) r ∙ wanted_offered t x s y n

pub queue_offers : {a : ℕ} (l t : List ℕ) → Shaped t → QueueNames t → Ascends a l → queue_of (foldl offer t l) ≡ queue_of t ++ keep (wanted t) l
unfolding keep
queue_offers [] t s q end = sym (append-nil (queue_of t))
queue_offers (x ∷ l) t s q (next h r) =
    queue_offers l (offer t x) (shaped_offered t x s q) (names_offered t x s q) r
    ∙ ap₂ ◌++◌ (queue_offered t x s q)
    (keep_each (wanted (offer t x)) (wanted t) l (each_map l (λ y g. wanted_offered t x s y (λ e. omega arith)) (each_ascends l r)))
    ∙ append_assoc (queue_of t) (keep (wanted t) (x ∷ [])) (keep (wanted t) l)
    ∙ ap (λ (m : List ℕ). queue_of t ++ m) (sym (keep_append (wanted t) (x ∷ []) l))

-- ---- a page

wanted_set_cell : (t : List ℕ) (c row v y : ℕ) → leb lane_words c ≡ true → ltb c row_words ≡ true → wanted (set_cell t c row v) y ≡ wanted t y
unfolding wanted
wanted_set_cell t c row v y a p = simp (frames, a, p)

-- the slots that a page's bits name
abbrev pub slots_of_page : List ℕ → ℕ → List ℕ
slots_of_page t page = bits_from 64 (64 * page) (page_word t page)

in_page : (t : List ℕ) (page : ℕ) → Each (λ y. y / 64 ≡ page) (slots_of_page t page)
in_page t page = bits_each (λ y. y / 64 ≡ page) 64 (64 * page) (page_word t page) (λ b l e. omega arith)

module _ (t : List ℕ) (page : ℕ) (s : Shaped t) (q : QueueNames t) where
  taken : Kept t (set_cell t page_column page 0)
  taken = kept_set_cell t page_column page 0 refl refl refl s q

  pub queue_page : queue_of (collect_page t page) ≡ queue_of t ++ keep (wanted t) (slots_of_page t page)
  unfolding collect_page
  queue_page =
      let same : queue_of (set_cell t page_column page 0) ≡ queue_of t = simp queue_frames in
      queue_offers (slots_of_page t page) (set_cell t page_column page 0) taken.shaped taken.names (bits_ascend 64 (64 * page) (page_word t page))
      ∙ ap₂ ◌++◌ same
      (keep_all (wanted (set_cell t page_column page 0)) (wanted t) (slots_of_page t page) (λ y. wanted_set_cell t page_column page 0 y refl refl))

  -- a slot of another page is wanted as before
  wanted_page : (y : ℕ) → (y / 64 ≡ page → ⊥) → wanted (collect_page t page) y ≡ wanted t y
  unfolding collect_page
  wanted_page y n =
      wanted_offers y (slots_of_page t page) (set_cell t page_column page 0) taken.shaped taken.names
      (each_map (slots_of_page t page) (λ x e f. n (ap (λ (z : ℕ). z / 64) f ∙ e)) (in_page t page))
      ∙ wanted_set_cell t page_column page 0 y refl refl

-- ---- a run of pages

-- the slots that the bits of these pages name
abbrev pub slots_of_pages : List ℕ → List ℕ → List ℕ
slots_of_pages t [] = []
slots_of_pages t (page ∷ pages) = slots_of_page t page ++ slots_of_pages t pages

slots_same : (t u l : List ℕ) → Each (λ page. page_word u page ≡ page_word t page) l → slots_of_pages u l ≡ slots_of_pages t l
slots_same t u [] none = refl
slots_same t u (page ∷ l) (both e r) =
    ap₂ ◌++◌ (ap (bits_from 64 (64 * page)) e) (slots_same t u l r)

slots_from : {a : ℕ} (t l : List ℕ) → Ascends a l → Each (λ y. a ≤ y / 64) (slots_of_pages t l)
slots_from t [] end = none
slots_from t (page ∷ l) (next h r) =
    each_append (slots_of_page t page) (slots_of_pages t l) (each_map (slots_of_page t page) (λ y e. omega arith) (in_page t page))
    (each_map (slots_of_pages t l) (λ y g. omega arith) (slots_from t l r))

pub queue_pages : {a : ℕ} (l t : List ℕ) → Shaped t → QueueNames t → Ascends a l
    → queue_of (foldl collect_page t l) ≡ queue_of t ++ keep (wanted t) (slots_of_pages t l)
unfolding keep
queue_pages [] t s q end = sym (append-nil (queue_of t))
queue_pages (page ∷ l) t s q (next h r) =
    let k = kept_page t page s q in
    let u = collect_page t page in
    queue_pages l u k.shaped k.names r
    ∙ ap₂ ◌++◌ (queue_page t page s q)
    (ap (keep (wanted u)) (slots_same t u l (each_map l (λ x g. page_left t page s q x (ne_eqb x page (λ e. omega arith))) (each_ascends l r)))
    ∙ keep_each (wanted u) (wanted t) (slots_of_pages t l)
    (each_map (slots_of_pages t l) (λ y g. wanted_page t page s q y (λ e. omega arith)) (slots_from t l r)))
    ∙ append_assoc (queue_of t) (keep (wanted t) (slots_of_page t page)) (keep (wanted t) (slots_of_pages t l))
    ∙ ap (λ (m : List ℕ). queue_of t ++ m) (sym (keep_append (wanted t) (slots_of_page t page) (slots_of_pages t l)))

-- ---- a group

-- the slots that a group's bits name: page after page, in each lowest bit first
abbrev pub slots_of_group : List ℕ → ℕ → List ℕ
slots_of_group t group = slots_of_pages t (bits_from 64 (64 * group) (group_word t group))

pub queue_group : (t : List ℕ) (group : ℕ) → Shaped t → QueueNames t
    → queue_of (collect_group t group) ≡ queue_of t ++ keep (wanted t) (slots_of_group t group)
unfolding collect_group
queue_group t group s q =
    let u = set_cell t group_column group 0 in
    let k = kept_set_cell t group_column group 0 refl refl refl s q in
    let l = bits_from 64 (64 * group) (group_word t group) in
    let same : queue_of u ≡ queue_of t = simp queue_frames in
    queue_pages l u k.shaped k.names (bits_ascend 64 (64 * group) (group_word t group))
    ∙ ap₂ ◌++◌ same
    (keep_all (wanted u) (wanted t) (slots_of_pages u l) (λ y. wanted_set_cell t group_column group 0 y refl refl)
    ∙ ap (keep (wanted t)) (slots_same t u l (each_map l (λ x h. simp frames) (each_ascends l (bits_ascend 64 (64 * group) (group_word t group))))))
