-- The ring as a list, past 2^64 as before it: push appends, pop takes the first, and no word outside the live places matters.
-- Assumes nothing.
use Rattle.std.proofs.Common.{◌≡◌, ℕ, zero, suc, ◌+◌, ◌-◌, ◌/◌, ◌%◌, ◌^◌, ◌<◌, ◌≤◌, Bool, true, false, cond, leb, List, [], ◌∷◌, ◌++◌, length, get_or, drop, set, sym, refl, ap, ◌∙◌, ap₂, mod-lt, mod-eq_of_lt, zero-add, arith, le-leb}
use native.Mathlib.Nat.{mod-add-mod, add-mod_left}
use lib.Arith.{digits_div}
use borrow.Author.Tests.{lt-leb}
use lib.ListN.{get_or-append}
use Rattle.yring.specs.Lists.{tab, written}
use Rattle.yring.specs.Cursor.{after, distance, Capacity}
use Rattle.yring.specs.Ring.{new_ring, index, item_at, items, run, free_after, accepted_prefix}
use Rattle.yring.specs.declared.ring.Ring.{Ring}
use Rattle.yring.proofs.ListLaws.{length_tab, tab_ext, tab_self, tab_add, tab_out, tab_push, tab_more, tab_pop, apart, written_step, written_twice}
use Rattle.yring.proofs.CursorLaws.{wraps, some}

pub length_items : (ring : Ring) (store : List ℕ) (head n : ℕ) → length (items ring store head n) ≡ n
unfolding items
length_items ring store head n = length_tab n (λ i. item_at ring store (after head i))

pub length_run : (l : List ℕ) (from n : ℕ) → length (run l from n) ≡ n
unfolding run
length_run l from n = length_tab n (λ i. get_or l (from + i) 0)

pub run_more : (l : List ℕ) (from n : ℕ) → run l from (n + 1) ≡ run l from n ++ (get_or l (from + n) 0 ∷ [])
unfolding run
run_more l from n = tab_more n (λ i. get_or l (from + i) 0)

-- a run written into an output, and one word more of it
pub run_written_step : (src : List ℕ) (start i : ℕ) (out : List ℕ) (at : ℕ) → at + i < length out
    → set (written out at (run src start i)) (at + i) (get_or src (start + i) 0) ≡ written out at (run src start (i + 1))
run_written_step src start i out at h =
    let ws : List ℕ = run src start i in
    let l : length ws ≡ i = length_run src start i in
    ap (λ (n : ℕ). set (written out at ws) (at + n) (get_or src (start + i) 0)) (sym l)
    ∙ written_step out ws at (get_or src (start + i) 0) (rw l h)
    ∙ ap (written out at) (sym (run_more src start i))

-- the first words of a list
run_front : (ws rest : List ℕ) → run (ws ++ rest) 0 (length ws) ≡ ws
unfolding run
run_front ws rest = tab_ext (length ws) _ _ (λ i h. ap (λ (x : ℕ). get_or (ws ++ rest) x 0) (zero-add i) ∙ get_or-append ws rest 0 i h) ∙ tab_self ws

-- a run written at the start of a list, read from there
pub run_read_back : (src : List ℕ) (start n : ℕ) (o : List ℕ) → run (written o 0 (run src start n)) 0 n ≡ run src start n
run_read_back src start n o =
    let ws : List ℕ = run src start n in
    ap (run (written o 0 ws) 0) (sym (length_run src start n)) ∙ run_front ws (drop (0 + length ws) o)

-- the first m items, and those after them
pub items_split : (ring : Ring) (store : List ℕ) (head m n : ℕ) → items ring store head (m + n) ≡ items ring store head m ++ items ring store (after head m) n
unfolding items
items_split ring store head m n =
    tab_add m n (λ i. item_at ring store (after head i))
    ∙ ap (λ (l : List ℕ). tab m (λ i. item_at ring store (after head i)) ++ l) (tab_ext n _ _ (λ i l. ap (item_at ring store) (further i)))
  where
    further : (i : ℕ) → after head (m + i) ≡ after (after head m) i
    further i = omega arith

-- a store outside the live places
pub outside_kept : (ring : Ring) (store : List ℕ) (head n j v : ℕ) → ((i : ℕ) → i < n → index ring (after head i) ≡ j → ⊥)
    → items ring (set store j v) head n ≡ items ring store head n
unfolding items
outside_kept ring store head n j v h = tab_out store (λ i. index ring (after head i)) n j v h

-- a store in another slot's ring
pub other_ring_kept : (C : ℕ) → Capacity C → (store : List ℕ) (slot slot' head c n v : ℕ) → (slot ≡ slot' → ⊥)
    → items (new_ring slot C) (set store (index (new_ring slot' C) c) v) head n ≡ items (new_ring slot C) store head n
other_ring_kept C k store slot slot' head c n v d =
    outside_kept (new_ring slot C) store head n (index (new_ring slot' C) c) v
    (λ i l e. d (sym (digits_div slot (mod-lt (after head i) (some C k))) ∙ ap (λ (x : ℕ). x / C) e ∙ digits_div slot' (mod-lt c (some C k))))

module _ (ring : Ring) (k : Capacity ring.capacity) (store : List ℕ) (head n : ℕ) where
  -- two cursors less than a capacity apart name two places
  places_differ : (i j : ℕ) → i < j → j < ring.capacity → index ring (after head i) ≡ index ring (after head j) → ⊥
  places_differ i j h l e =
      apart ring.capacity head i j h (omega arith)
      (sym (wraps ring.capacity k (head + i)) ∙ same ring.base e ∙ wraps ring.capacity k (head + j))
    where
      same : {a b : ℕ} (base : ℕ) → base + a ≡ base + b → a ≡ b
      same base f = omega arith

  -- push appends
  pub push_appends : (v : ℕ) → n < ring.capacity → ring.base + ring.capacity ≤ length store
      → items ring (set store (index ring (after head n)) v) head (n + 1) ≡ items ring store head n ++ (v ∷ [])
  unfolding items
  push_appends v h r =
      tab_push store (λ i. index ring (after head i)) n v (omega (arith, mod-lt (after head n) (some ring.capacity k)))
      (λ i b e. places_differ i n b h e)

  -- pop takes the first
  pub pop_takes_first : 0 < n → items ring store head n ≡ item_at ring store head ∷ items ring store (after head 1) (n - 1)
  unfolding items
  pop_takes_first h =
      tab_pop n _ _ _ h
      (ap (λ (x : ℕ). get_or store (ring.base + x) 0) (first ∙ wraps ring.capacity k head))
      (λ i l. ap (λ (c : ℕ). item_at ring store c) (next i))
    where
      first : after head 0 % ring.capacity ≡ head % 2 ^ 64 % ring.capacity
      first = let e : after head 0 ≡ head % 2 ^ 64 = omega arith in ap (λ (x : ℕ). x % ring.capacity) e

      next : (i : ℕ) → after head (suc i) ≡ after (after head 1) i
      next i = omega arith

  -- the items as one run, up to the ring's end
  pub one_run : head % ring.capacity + n ≤ ring.capacity → items ring store head n ≡ run store (index ring head) n
  unfolding items run
  one_run h =
      tab_ext n _ _
      (λ i l.
      let e : head % ring.capacity + i < ring.capacity = omega arith in
      ap (λ (x : ℕ). get_or store x 0)
      (ap (λ (x : ℕ). ring.base + x) (wraps ring.capacity k (head + i) ∙ sym (mod-add-mod head ring.capacity i) ∙ mod-eq_of_lt e)
      ∙ regroup ring.base (head % ring.capacity) i))
    where
      regroup : (a b c : ℕ) → a + (b + c) ≡ a + b + c
      regroup a b c = omega arith

-- the items as two runs: to the ring's end, and from its start
module _ (ring : Ring) (k : Capacity ring.capacity) (store : List ℕ) (head m n : ℕ) (e : head % ring.capacity + m ≡ ring.capacity) (h : n ≤ ring.capacity) where
  pub two_runs : items ring store head (m + n) ≡ run store (index ring head) m ++ run store ring.base n
  unfolding items run
  two_runs =
      tab_add m n (λ i. item_at ring store (after head i))
      ∙ ap₂ ◌++◌ (one_run ring k store head m (omega arith))
      (tab_ext n _ _ (λ i l. ap (λ (x : ℕ). get_or store (ring.base + x) 0) (wraps ring.capacity k (head + (m + i)) ∙ from_start i (omega arith))))
    where
      from_start : (i : ℕ) → i < ring.capacity → (head + (m + i)) % ring.capacity ≡ i
      from_start i l =
          let f : head % ring.capacity + (m + i) ≡ ring.capacity + i = omega arith in
          sym (mod-add-mod head ring.capacity (m + i)) ∙ ap (λ (x : ℕ). x % ring.capacity) f ∙ add-mod_left ring.capacity i ∙ mod-eq_of_lt l

  -- what two moves leave
  pub two_moves : (o u v : List ℕ) (at from : ℕ) → from ≡ index ring head → at + m ≤ length o → u ≡ written o at (run store from m) → v ≡ written u (at + m) (run store ring.base n)
      → v ≡ written o at (items ring store head (m + n))
  two_moves o u v at from f r p q =
      let ws : List ℕ = run store (index ring head) m in
      let vs : List ℕ = run store ring.base n in
      let l : length ws ≡ m = length_run store (index ring head) m in
      q ∙ ap (λ (x : List ℕ). written x (at + m) vs) (p ∙ ap (λ (x : ℕ). written o at (run store x m)) f) ∙ ap (λ (x : ℕ). written (written o at ws) (at + x) vs) (sym l)
      ∙ written_twice o ws vs at (rw l r) ∙ ap (written o at) (sym two_runs)

-- the places that a push leaves free: within the ring nothing wraps
pub free_after_is : (ring : Ring) (cursor released : ℕ) → ring.capacity ≤ 65536 → distance cursor released ≤ ring.capacity
    → free_after ring cursor released ≡ ring.capacity - (distance cursor released + 1)
free_after_is ring cursor released small h = go ring.capacity (distance cursor released) small h
  where
    go : (C d : ℕ) → C ≤ 65536 → d ≤ C → distance C d - 1 ≡ C - (d + 1)
    go C d s k = omega arith

-- ---- the items up to a bound

-- the first n are all admitted, and the next one is: n + 1 are
prefix_more : (b n : ℕ) (f : ℕ → ℕ) → accepted_prefix b (tab n f) ≡ n → f n ≤ b → accepted_prefix b (tab (suc n) f) ≡ suc n
unfolding accepted_prefix
prefix_more b zero f e h = rw (le-leb (f 0) b h)
prefix_more b (suc n) f e h = go (leb (f 0) b) e (prefix_more b n (λ i. f (suc i)))
  where
    rest : ℕ → List ℕ
    rest m = tab m (λ i. f (suc i))

    go : (c : Bool) → cond c (suc (accepted_prefix b (rest n))) 0 ≡ suc n → (accepted_prefix b (rest n) ≡ n → f (suc n) ≤ b → accepted_prefix b (rest (suc n)) ≡ suc n) → cond c (suc (accepted_prefix b (rest (suc n)))) 0 ≡ suc (suc n)
    go true e ih = ap suc (ih (omega arith) h)
    go false e ih = absurd (omega arith)

-- and the next one is not: there the prefix ends
prefix_ends : (b n c : ℕ) (f : ℕ → ℕ) → accepted_prefix b (tab n f) ≡ n → b < f n → n < c → accepted_prefix b (tab c f) ≡ n
unfolding accepted_prefix
prefix_ends b n zero f e h l = absurd (omega arith)
prefix_ends b zero (suc c) f e h l = rw (lt-leb (f 0) b h)
prefix_ends b (suc n) (suc c) f e h l = go (leb (f 0) b) e (prefix_ends b n c (λ i. f (suc i)))
  where
    rest : ℕ → List ℕ
    rest m = tab m (λ i. f (suc i))

    go : (d : Bool) → cond d (suc (accepted_prefix b (rest n))) 0 ≡ suc n → (accepted_prefix b (rest n) ≡ n → b < f (suc n) → n < c → accepted_prefix b (rest c) ≡ n) → cond d (suc (accepted_prefix b (rest c))) 0 ≡ suc n
    go true e ih = ap suc (ih (omega arith) h (omega arith))
    go false e ih = absurd (omega arith)

module _ (ring : Ring) (store : List ℕ) (head bound n : ℕ) (all : accepted_prefix bound (items ring store head n) ≡ n) where
  pub admits_more : item_at ring store (after head n) ≤ bound → accepted_prefix bound (items ring store head (n + 1)) ≡ n + 1
  unfolding items
  admits_more h =
      let e : n + 1 ≡ suc n = omega arith in
      rw e (prefix_more bound n (λ i. item_at ring store (after head i)) all h)

  pub admits_no_more : (count : ℕ) → bound < item_at ring store (after head n) → n < count → accepted_prefix bound (items ring store head count) ≡ n
  unfolding items
  admits_no_more count h l = prefix_ends bound n count (λ i. item_at ring store (after head i)) all h l

pub admits_none : (ring : Ring) (store : List ℕ) (head bound : ℕ) → accepted_prefix bound (items ring store head 0) ≡ 0
unfolding items accepted_prefix
admits_none ring store head bound = refl
