-- Collecting keeps what the turns ask of a table.
-- Assumes nothing.
use mathlib.Core.Path.{◌≡◌, refl, sym, ap, ap₂, ◌∙◌, subst, fun_ext}
use mathlib.Core.Bool.{Bool, true, false}
use mathlib.Core.List.{List, [], ◌∷◌, foldl}
use Prim.Native.Nat.{ℕ, zero, suc, ◌+◌, ◌-◌, ◌*◌, ◌≤◌, ◌<◌}
use native.Mathlib.Omega.{arith}
use borrow.Author.Tests.{ltb-true}
use lib.Dec.{eqb, ltb, leb}
use Rattle.model.specs.Lists.{count}
use Rattle.demands.proofs.Counting.{equal, other, same?, count_append}
use Rattle.lane.specs.declared.lane.Lane.{Lane}
use Rattle.yring.specs.Lists.{tab}
use Rattle.lane.specs.Order.{InOrder}
use Rattle.lane.specs.Table.{header_words, row_words, lane_words, head, cell, set_cell, lane_at}
use Rattle.lane.proofs.OrderLaws.{cond_holds}
use Rattle.lane.proofs.TableLaws.{frames}
use Rattle.queues.specs.Header.{Shaped, issued, group_cursor, free_count, capacity, set_group_cursor}
use Rattle.queues.specs.Queue.{queue_column, queue_of, QueueNames}
use Rattle.queues.specs.Registry.{free_column, free_of}
use Rattle.ready.specs.Bits.{bits_from}
use Rattle.ready.specs.Ready.{page_column, group_column, page_word, group_word, Linked, queued_lane, enqueue, offer, collect_page, collect_group, group_count, group_at, collected_from, collect_ready}
use Rattle.queues.proofs.QueueLaws.{queue_frames}
use Rattle.ready.proofs.OfferLaws.{Wants, wants, rest_offered, offered_case, queue_enqueued}
use Rattle.ready.proofs.CollectLaws.{Kept, kept_self, kept_then, kept_set_cell, kept_offered, kept_page, kept_group, linked_group, kept_cursor, linked_cursor}
use Rattle.turns.specs.Turn.{Turning}
use Rattle.turns.proofs.TurnLaws.{turning_by}
use Rattle.turns.proofs.FrontLaws.{Keeps}

-- what the queue names is registered
abbrev Named : List ℕ → Type 0
Named t = (y : ℕ) → 1 ≤ count y (queue_of t) → (lane_at t y).registered ≡ 1

-- what collecting leaves: all but the queue, the lanes' queued words, the marks and the cursor
record Kin (t u : List ℕ) : Type 0 where
  heads : (j : ℕ) → ltb j header_words ≡ true → eqb 2 j ≡ false → eqb 6 j ≡ false → head u j ≡ head t j
  frees : (row : ℕ) → cell u free_column row ≡ cell t free_column row
  lanes : (y : ℕ) → queued_lane (lane_at u y) ≡ queued_lane (lane_at t y)
  named : Named t → Named u

kin_self : (t : List ℕ) → Kin t t
kin_self t = record { heads = λ j a b c. refl; frees = λ row. refl; lanes = λ y. refl; named = λ n. n }

kin_then : {t u v : List ℕ} → Kin t u → Kin u v → Kin t v
kin_then a b =
    record {
      heads = λ j p q r. b.heads j p q r ∙ a.heads j p q r;
      frees = λ row. b.frees row ∙ a.frees row;
      lanes = λ y. b.lanes y ∙ a.lanes y;
      named = λ n. b.named (a.named n);
    }

kin_set_cell : (t : List ℕ) (c row v : ℕ) → leb lane_words c ≡ true → ltb c row_words ≡ true → eqb c queue_column ≡ false → eqb c free_column ≡ false → Kin t (set_cell t c row v)
kin_set_cell t c row v a p n m =
    record {
      heads = λ j q d e. simp (frames, q);
      frees = λ i. simp (frames, p, m);
      lanes = λ y. ap queued_lane (lane y);
      named = λ k y h. ap (λ (l : Lane). l.registered) (lane y) ∙ k y (rw queue at h);
    }
  where
    lane : (y : ℕ) → lane_at (set_cell t c row v) y ≡ lane_at t y
    lane y = simp (frames, a, p)

    queue : queue_of (set_cell t c row v) ≡ queue_of t
    queue = simp (queue_frames, p, n)

kin_offered : (t : List ℕ) (x : ℕ) → Shaped t → QueueNames t → Kin t (offer t x)
unfolding count
kin_offered t x s q =
    let k = rest_offered t x s in
    record {
      heads = λ j p d e. k.heads j p d;
      frees = λ row. k.cells free_column row refl refl refl;
      lanes = k.lanes;
      named = λ n y h. ap (λ (l : Lane). l.registered) (k.lanes y) ∙ offered_case (λ u. 1 ≤ count y (queue_of u) → (lane_at t y).registered ≡ 1) t x
          (λ e h. new n y (wants t x e) h) (λ e h. n y h) h;
    }
  where
    new : Named t → (y : ℕ) → Wants t x → 1 ≤ count y (queue_of (enqueue t x)) → (lane_at t y).registered ≡ 1
    new n y w h = elim (same? y x) [
      | equal e p i ↦ rw e w.registered
      | other d p i ↦ n y (omega (arith, ap (count y) (queue_enqueued t x s q w) ∙ count_append y (queue_of t) (x ∷ [])))
    ]

kin_fold : (f : List ℕ → ℕ → List ℕ) → ((t : List ℕ) (x : ℕ) → Shaped t → QueueNames t → Kin t (f t x))
    → ((t : List ℕ) (x : ℕ) → Shaped t → QueueNames t → Kept t (f t x)) → (l t : List ℕ) → Shaped t → QueueNames t → Kin t (foldl f t l)
kin_fold f k h [] t s q = kin_self t
kin_fold f k h (x ∷ l) t s q = let a = h t x s q in kin_then (k t x s q) (kin_fold f k h l (f t x) a.shaped a.names)

kin_page : (t : List ℕ) (page : ℕ) → Shaped t → QueueNames t → Kin t (collect_page t page)
unfolding collect_page
kin_page t page s q =
    let a = kept_set_cell t page_column page 0 refl refl refl s q in
    kin_then (kin_set_cell t page_column page 0 refl refl refl refl) (kin_fold offer kin_offered kept_offered (bits_from 64 (64 * page) (page_word t page)) _ a.shaped a.names)

kin_group : (t : List ℕ) (group : ℕ) → Shaped t → QueueNames t → Kin t (collect_group t group)
unfolding collect_group
kin_group t group s q =
    let a = kept_set_cell t group_column group 0 refl refl refl s q in
    kin_then (kin_set_cell t group_column group 0 refl refl refl refl) (kin_fold collect_page kin_page kept_page (bits_from 64 (64 * group) (group_word t group)) _ a.shaped a.names)

kin_cursor : (t : List ℕ) (v : ℕ) → Kin t (set_group_cursor t v)
kin_cursor t v =
    record {
      heads = λ j p d e. simp (frames, e);
      frees = λ row. simp frames;
      lanes = λ y. simp frames;
      named = λ n. simp (frames, queue_frames) n;
    }

-- the groups, one after the other
record Going (t u : List ℕ) : Type 0 where
  kept : Kept t u
  linked : Linked u
  kin : Kin t u

going_then : {t u v : List ℕ} → Going t u → Going u v → Going t v
going_then a b = record { kept = kept_then a.kept b.kept; linked = b.linked; kin = kin_then a.kin b.kin }

group_below : (n next : ℕ) → 0 < n → group_at n next < n
unfolding group_at
group_below n next h = cond_holds (λ g. g < n) (ltb next n) next 0 (λ e. ltb-true next n e) (λ e. h)

going_group : (t : List ℕ) (g : ℕ) → Shaped t → QueueNames t → Linked t → 4096 * g < issued t → Going t (set_group_cursor (collect_group t g) (g + 1))
going_group t g s q l h =
    let k = kept_group t g s q in
    let i = s.issued_most in
    let m = s.slots_most in
    record {
      kept = kept_then k (kept_cursor (collect_group t g) (g + 1) (omega arith) k.shaped k.names);
      linked = linked_cursor (collect_group t g) (g + 1) (linked_group t g s q l h);
      kin = kin_then (kin_group t g s q) (kin_cursor (collect_group t g) (g + 1));
    }

going_from : (n k : ℕ) (all : Bool) (t : List ℕ) (next : ℕ) → Shaped t → QueueNames t → Linked t → n ≡ group_count (issued t) → k ≤ n → Going t (collected_from n k all t next)
unfolding collected_from
going_from n zero all t next s q l e m = record { kept = kept_self t s q; linked = l; kin = kin_self t }
going_from n (suc k) all t next s q l e m =
    let b = group_below n next (omega arith) in
    let g = group_at n next in
    let h : 4096 * g < issued t = omega (arith, b, e) in
    let o = going_group t g s q l h in
    cond_holds (Going t) (eqb (group_word t g) 0) (collected_from n k all t (g + 1)) _
    (λ z. going_from n k all t (g + 1) s q l e (omega arith))
    (λ z. cond_holds (Going t) all (collected_from n k all (set_group_cursor (collect_group t g) (g + 1)) (g + 1)) (set_group_cursor (collect_group t g) (g + 1))
    (λ y. going_then o (going_from n k all (set_group_cursor (collect_group t g) (g + 1)) (g + 1) o.kept.shaped o.kept.names o.linked (rw o.kept.same_issued e) (omega arith)))
    (λ y. o))

-- order is no matter of the queued word
order_alike : (C : ℕ) (l m : Lane) → queued_lane m ≡ queued_lane l → InOrder C l → InOrder C m
order_alike C l m e o =
    let q : InOrder C (queued_lane m) = subst (InOrder C) (sym e) (record { cursors = o.cursors; counts = o.counts }) in
    record { cursors = q.cursors; counts = q.counts }

free_kin : (t u : List ℕ) → Kin t u → free_of u ≡ free_of t
unfolding free_of
free_kin t u k =
    let n : free_count u ≡ free_count t = k.heads 3 refl refl refl in
    ap₂ (λ (m : ℕ) (f : ℕ → ℕ). tab m f) n (fun_ext (λ i. ap (λ (m : ℕ). cell u free_column (m - suc i)) n ∙ k.frees (free_count t - suc i)))

pub collect_keeps : (all : Bool) (t : List ℕ) → Turning t → Keeps t (collect_ready all t)
unfolding collect_ready
collect_keeps all t k =
    let o = going_from (group_count (issued t)) (group_count (issued t)) all t (group_cursor t) k.shaped k.names k.linked refl (omega arith) in
    let u = collect_ready all t in
    let i = o.kin in
    record {
      turning = turning_by t u k o.kept.same_issued (λ y. ap (λ (l : Lane). l.registered) (i.lanes y)) o.kept.shaped o.kept.names o.linked
          (i.heads 8 refl refl refl) (free_kin t u i) (i.heads 13 refl refl refl) (λ y e s. order_alike (capacity t) (lane_at t y) (lane_at u y) (i.lanes y) s) (i.named k.queued_registered);
      long = o.kept.long;
      same_slots = i.heads 4 refl refl refl;
      same_capacity = i.heads 8 refl refl refl;
    }
