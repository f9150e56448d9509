-- The rounds of the Rust's batch loop, a chunk each and none at a budget of 0, end where the rules' batch ends, which takes item by item.
-- Assumes nothing.
use mathlib.Core.Path.{◌≡◌, refl, ap, sym, ◌∙◌, subst}
use mathlib.Core.Bool.{Bool, false}
use mathlib.Core.List.{List, [], ◌∷◌, ◌++◌}
use Prim.Native.Nat.{ℕ, zero, suc, ◌+◌, ◌-◌, ◌≤◌, ◌<◌, min}
use native.Mathlib.Omega.{arith}
use lib.ListN.{length, drop}
use lib.Dec.{eqb, leb}
use borrow.Author.Tests.{ne_eqb}
use Rattle.model.specs.declared.LaneKey.{LaneKey}
use Rattle.model.specs.declared.ReceiveCall.TheVariants.{TryRecv}
use Rattle.model.specs.Lists.{if}
use Rattle.model.specs.State.{Slot, State, key_of, release_batch}
use Rattle.model.specs.Changes.{with_budget, popped}
use Rattle.model.specs.Turn.{Took, settle_empty, refill, before_next_turn, unreleased_after_one, give_item, give_oldest, give_front, polled, take_one}
use Rattle.model.specs.Receive.{and_more, take_up_to}
use Rattle.model.specs.Order.{InOrder}
use Rattle.model.specs.PollLoop.{refreshed, refresh_active, Turns, nothing_queued, has_item, found_empty, PolledAsLoop, NothingReadyAtZero}
use Rattle.model.specs.BatchLoop.{chunk_length, chunk_items, after_chunk, Rounds, limit_reached, nothing_left, front_empty, chunk_moved, BatchAsLoop, RoundsEndOnce}
use Rattle.demands.proofs.Counting.{Same, equal, other, same?}
use Rattle.demands.proofs.OrderKept.{front_registered, budget_ordered, polled_ordered}
use Rattle.demands.proofs.Quiet.{poll, poll_quiet}
use Rattle.demands.proofs.WaitInReceive.{Settled, front, poll_settled}
use Rattle.demands.proofs.WaitInReceive as settled
use Rattle.demands.proofs.Moves.{takes, by_plain, TakeResult, took_none, took_one, take_one_taken}
use Rattle.demands.proofs.MovesKeepOrder.{move_ordered}
use Rattle.demands.proofs.Capacity.{rings_fit_quiet, move_rings_fit}
use Rattle.demands.proofs.Simulation.{state_path}
use Rattle.demands.proofs.FrontItem.{polled_front_lem}
use Rattle.demands.proofs.WholeChunk.{first_of, given, ChunkFits, refill_some, onto, take_up_to_polled, take_up_to_none, take_up_to_chunk}
use Rattle.demands.proofs.PollLoop.{refresh_unready, polled_as_loop, nothing_ready_at_zero, ends_unqueued, ends_with_item, goes_on_empty}

-- ---- states in order, on the way too

pub polled_in_order : (s : State) → InOrder s → InOrder (polled s)
unfolding poll
polled_in_order s i = record { ordered = polled_ordered s i.ordered; rings_fit = rings_fit_quiet s (polled s) (poll_quiet false s) i.rings_fit }

take_one_in_order : (s : State) → InOrder s → InOrder (take_one s).1
unfolding poll
take_one_in_order s i = go (take_one s) (take_one_taken s)
  where
    go : (t : Took) → TakeResult false s t → InOrder t.1
    go t (took_none e) = polled_in_order s i
    go t (took_one y v q vs e g) = let m = takes false TryRecv s y v q vs by_plain e g in record { ordered = move_ordered i.ordered m; rings_fit = move_rings_fit i.rings_fit m }

take_up_to_in_order : (n : ℕ) (s : State) → InOrder s → InOrder (take_up_to n s).1
unfolding take_up_to and_more
take_up_to_in_order zero s i = i
take_up_to_in_order (suc n) s i = go (take_one s).0 (take_one_in_order s i) (take_up_to_in_order n (take_one s).1)
  where
    u : State
    u = (take_one s).1

    go : (l : List (LaneKey × ℕ)) → InOrder u → (InOrder u → InOrder (take_up_to n u).1) → InOrder (and_more l u (take_up_to n u)).1
    go [] o h = o
    go (g ∷ l) o h = h o

pub full_in_order : (s : State) → InOrder s → InOrder (with_budget 64 s)
full_in_order s i = record { ordered = budget_ordered 64 s (omega arith) i.ordered; rings_fit = record { positive = i.rings_fit.positive; each_fits = i.rings_fit.each_fits } }

-- ---- a chunk

-- with a budget that is not 0 the Rust's chunk is the rules' n items
pub moved_given : (t : State) (y : ℕ) (q : List ℕ) (n : ℕ) → 1 ≤ t.budget → after_chunk t y q n ≡ given t y q n
unfolding after_chunk
moved_given t y q n h = state_path _ _ (λ z. refl) refl refl refl (ap (λ (b : ℕ). b - n) (sym (refill_some t.budget h))) refl refl refl refl refl refl

-- of no items: nothing changes
pub none_moved : (t : State) (y : ℕ) (q : List ℕ) → t.queue ≡ y ∷ q → (t.slot_of y).burst < 64 → (t.slot_of y).unreleased < release_batch t.capacity → after_chunk t y q 0 ≡ t
unfolding after_chunk
none_moved t y q e b c = state_path _ _ (λ z. slot z (same? y z)) (ap (λ (f : Bool). if f (q ++ (y ∷ [])) (y ∷ q)) not_full ∙ sym e) refl refl (less t.budget) refl refl refl refl refl refl
  where
    l : Slot
    l = t.slot_of y

    less : (n : ℕ) → n - 0 ≡ n
    less n = omega arith

    more : (n : ℕ) → n + 0 ≡ n
    more n = omega arith

    not_full : eqb (l.burst + 0) 64 ≡ false
    not_full = ne_eqb (l.burst + 0) 64 (λ h. omega (arith, b, h))

    not_due : eqb (l.unreleased + 0) (release_batch t.capacity) ≡ false
    not_due = ne_eqb (l.unreleased + 0) (release_batch t.capacity) (λ h. omega (arith, c, h))

    unreleased_same : if (eqb (l.unreleased + 0) (release_batch t.capacity)) 0 (l.unreleased + 0) ≡ l.unreleased
    unreleased_same = ap (λ (f : Bool). if f 0 (l.unreleased + 0)) not_due ∙ more l.unreleased

    burst_same : if (eqb (l.burst + 0) 64) 0 (l.burst + 0) ≡ l.burst
    burst_same = ap (λ (f : Bool). if f 0 (l.burst + 0)) not_full ∙ more l.burst

    lane : popped (drop 0 l.ring) (if (eqb (l.unreleased + 0) (release_batch t.capacity)) 0 (l.unreleased + 0)) (if (eqb (l.burst + 0) 64) 0 (l.burst + 0)) l ≡ l
    lane = λ i. popped l.ring (unreleased_same i) (burst_same i) l

    slot : (z : ℕ) → Same y z → (after_chunk t y q 0).slot_of z ≡ t.slot_of z
    slot z (equal p h i) = rw h (lane ∙ ap t.slot_of p)
    slot z (other d h i) = rw h

-- the parts of a least number
min_parts : (a b n : ℕ) → min a b ≡ n → (n ≤ a) × (n ≤ b)
min_parts a b n e = (omega (arith, e), omega (arith, e))

min_zero : (a b : ℕ) → min a b ≡ 0 → 1 ≤ b → a ≡ 0
min_zero a b e h = omega (arith, e, h)

min_zero_right : (a b : ℕ) → min a b ≡ 0 → 1 ≤ a → b ≡ 0
min_zero_right a b e h = omega (arith, e, h)

min_some : (a b : ℕ) → 1 ≤ a → 1 ≤ b → 1 ≤ min a b
min_some a b h k = omega (arith, h, k)

pub none_of_none : (a b c : ℕ) → b ≡ 0 → min (min a b) c ≡ 0
none_of_none a b c e = omega (arith, e)

-- the front lane y of t, with its items, as order has it
pub record Front (t : State) (y : ℕ) (q : List ℕ) : Type 0 where
  pub in_order : InOrder t
  pub is_front : t.queue ≡ y ∷ q
  pub some_items : 1 ≤ length (t.slot_of y).ring

pub burst_below : {t : State} {y : ℕ} {q : List ℕ} → Front t y q → (t.slot_of y).burst < 64
burst_below {t} {y} {q} f =
    let r = front_registered t y q f.is_front f.in_order.ordered in
    omega (arith, (f.in_order.ordered.each_slot y).burst_most r)

pub unreleased_below : {t : State} {y : ℕ} {q : List ℕ} → Front t y q → (t.slot_of y).unreleased < release_batch t.capacity
unreleased_below {t} {y} {q} f = (f.in_order.rings_fit.each_fits y (front_registered t y q f.is_front f.in_order.ordered)).below_batch

-- what the lane itself lets go at once is something
lane_some : (cached : ℕ) {t : State} {y : ℕ} {q : List ℕ} → Front t y q → 1 ≤ cached → 1 ≤ min (min cached (64 - (t.slot_of y).burst)) (release_batch t.capacity - (t.slot_of y).unreleased)
lane_some cached {t} {y} f h =
    min_some (min cached (64 - (t.slot_of y).burst)) (release_batch t.capacity - (t.slot_of y).unreleased)
    (min_some cached (64 - (t.slot_of y).burst) h (omega (arith, burst_below f))) (omega (arith, unreleased_below f))

-- so a chunk of none is one at a budget of 0
pub none_at_zero : (left cached : ℕ) {t : State} {y : ℕ} {q : List ℕ} → Front t y q → 1 ≤ left → 1 ≤ cached → chunk_length left cached t y ≡ 0 → t.budget ≡ 0
unfolding chunk_length
none_at_zero left cached {t} f l h e = min_zero_right left t.budget (min_zero (min left t.budget) _ e (lane_some cached f h)) l

pub some_in_budget : (left cached : ℕ) {t : State} {y : ℕ} {q : List ℕ} → Front t y q → 1 ≤ left → 1 ≤ cached → 1 ≤ t.budget → 1 ≤ chunk_length left cached t y
unfolding chunk_length
some_in_budget left cached {t} f l h b = min_some (min left t.budget) _ (min_some left t.budget l b) (lane_some cached f h)

-- another is a chunk of the rules
pub record Fits (left : ℕ) (t : State) (y n : ℕ) : Type 0 where
  pub in_limit : n ≤ left
  pub some_budget : 1 ≤ t.budget
  pub chunk_fits : ChunkFits t y n

pub fits : (left cached : ℕ) (t : State) (y n : ℕ) → cached ≤ length (t.slot_of y).ring → chunk_length left cached t y ≡ n → 1 ≤ n → Fits left t y n
unfolding chunk_length
fits left cached t y n c e h =
    let outer = min_parts (min left t.budget) (min (min cached (64 - (t.slot_of y).burst)) (release_batch t.capacity - (t.slot_of y).unreleased)) n e in
    let first = min_parts left t.budget _ refl in
    let lane = min_parts (min cached (64 - (t.slot_of y).burst)) (release_batch t.capacity - (t.slot_of y).unreleased) _ refl in
    let own = min_parts cached (64 - (t.slot_of y).burst) _ refl in
    let b : n ≤ t.budget = ≤-both outer.0 first.1 in
    let some : 1 ≤ t.budget = ≤-both h b in
    record {
      in_limit = ≤-both outer.0 first.0;
      some_budget = some;
      chunk_fits = record {
        some = h;
        in_ring = ≤-both (≤-both (≤-both outer.1 lane.0) own.0) c;
        in_budget = omega (arith, b, refill_some t.budget some);
        in_burst = in_64 n (t.slot_of y).burst 64 h (≤-both (≤-both outer.1 lane.0) own.1);
        in_batch = in_64 n (t.slot_of y).unreleased (release_batch t.capacity) h (≤-both outer.1 lane.1);
      };
    }
  where
    ≤-both : {a b c : ℕ} → a ≤ b → b ≤ c → a ≤ c
    ≤-both x y = omega (arith, x, y)

    in_64 : (n a b : ℕ) → 1 ≤ n → n ≤ b - a → a + n ≤ b
    in_64 n a b h x = omega (arith, h, x)

-- the state after it is in order
pub moved_in_order : (n : ℕ) {left : ℕ} {t : State} {y : ℕ} {q : List ℕ} → Front t y q → Fits left t y n → InOrder (after_chunk t y q n)
moved_in_order n {left} {t} {y} {q} f g = split (t.slot_of y).ring refl f.some_items
  where
    split : (l : List ℕ) → (t.slot_of y).ring ≡ l → 1 ≤ length l → InOrder (after_chunk t y q n)
    split [] e h = absurd (omega (arith, h))
    split (v ∷ vs) e h =
        let p : polled t ≡ t = polled_front_lem t y v q vs f.is_front e g.some_budget in
        let fits_there = subst (λ (u : State). ChunkFits u y n) (sym p) g.chunk_fits in
        let taken = take_up_to_polled n t y q (ap (λ (u : State). u.queue) p ∙ f.is_front) fits_there in
        let after : (take_up_to n t).1 ≡ after_chunk t y q n = ap (λ (r : Took). r.1) taken ∙ ap (λ (u : State). given u y q n) p ∙ sym (moved_given t y q n g.some_budget) in
        subst InOrder after (take_up_to_in_order n t f.in_order)

-- ---- a budget of 0 where the poll has ended

-- a round of none: the next one sets the budget, and the poll is done already
module _ (p : State) (i : InOrder p) (y v : ℕ) (q vs : List ℕ) (e : (polled p).queue ≡ y ∷ q) (r : ((polled p).slot_of y).ring ≡ v ∷ vs) (z : (polled p).budget ≡ 0) where
  unfoldable pub full : State
  full = with_budget 64 (polled p)

  pub refreshed_full : refresh_active (polled p) ≡ full
  unfolding full NothingReadyAtZero before_next_turn refill
  refreshed_full =
      ap (λ (l : List ℕ). refreshed l (polled p).budget (polled p)) e
      ∙ refresh_unready (y ∷ q) (polled p).budget (polled p) refl (nothing_ready_at_zero p i z)
      ∙ ap (λ (b : ℕ). with_budget (refill b) (polled p)) z

  pub polled_full : polled full ≡ full
  unfolding full
  polled_full = polled_front_lem (with_budget 64 (polled p)) y v q vs e r (omega arith)

  -- and the rules' next item is the same
  same_item : take_one full ≡ take_one p
  unfolding full take_one give_front give_oldest give_item unreleased_after_one refill
  same_item =
      ap (λ (u : State). give_front false u u.queue) polled_full
      ∙ ap (give_front false full) e
      ∙ ap (give_oldest full false y q) r
      ∙ ap (λ (b : ℕ). ((key_of (polled p) y, v) ∷ [], with_budget (refill b - 1) (give_item full y q vs (leb 63 ((polled p).slot_of y).burst)))) (sym z)
      ∙ sym (ap (give_oldest (polled p) false y q) r)
      ∙ sym (ap (give_front false (polled p)) e)

  pub same_batch : (m : ℕ) → 1 ≤ m → take_up_to m full ≡ take_up_to m p
  unfolding take_up_to
  same_batch zero h = absurd (omega arith)
  same_batch (suc m) h = ap (λ (t : Took). and_more t.0 t.1 (take_up_to m t.1)) same_item

-- ---- where the rounds end

-- nothing is to be had
finished : {left : ℕ} {s u : State} {l : List (LaneKey × ℕ)} → Rounds left s l u → left ≡ 0 → ◌≡◌ {A = Took} (l, u) ([], s)
finished (limit_reached left s e) z = refl
finished (nothing_left left s t h r e) z = absurd (omega (arith, h, z))
finished (front_empty left s t u l y q h r e g more) z = absurd (omega (arith, h, z))
finished (chunk_moved left cached n s t u l y q h r e a c k more) z = absurd (omega (arith, h, z))

-- the rules' batch, where the poll has ended at t: a chunk of lane y, and then the rest
chunk_taken : (left n : ℕ) (p t : State) (y : ℕ) (q : List ℕ) → polled p ≡ t → t.queue ≡ y ∷ q → Fits left t y n
    → take_up_to left p ≡ onto (chunk_items t y n) (take_up_to (left - n) (after_chunk t y q n))
unfolding chunk_items
chunk_taken left n p t y q e f g =
    subst (λ (u : State). u.queue ≡ y ∷ q → ChunkFits u y n → take_up_to left p ≡ onto (first_of u y n) (take_up_to (left - n) (given u y q n))) e
    (λ k c. take_up_to_chunk left n p y q k c g.in_limit) f g.chunk_fits
    ∙ ap (λ (u : State). onto (first_of t y n) (take_up_to (left - n) u)) (sym (moved_given t y q n g.some_budget))

-- the rounds with which a loop begins, or goes on after a chunk
begun : (left : ℕ) (s u : State) (l : List (LaneKey × ℕ)) → InOrder s → Rounds left s l u
    → (1 ≤ left → (p : State) → InOrder p → Turns (refresh_active s) (polled p) → take_up_to left p ≡ (l, u)) → take_up_to left s ≡ (l, u)
unfolding take_up_to PolledAsLoop
begun zero s u l i r ih = sym (finished r refl)
begun (suc m) s u l i r ih = ih (omega arith) s i (polled_as_loop s i)

-- a chunk of none, and the rounds after it
none_first : (left : ℕ) (p t : State) (cached y v : ℕ) (q vs : List ℕ) (l : List (LaneKey × ℕ)) (u : State) → InOrder p → t.queue ≡ y ∷ q → (t.slot_of y).ring ≡ v ∷ vs → t ≡ polled p
    → 1 ≤ left → Front t y q → 1 ≤ cached → chunk_length left cached t y ≡ 0
    → (1 ≤ left - 0 → (p : State) → InOrder p → Turns (refresh_active (after_chunk t y q 0)) (polled p) → take_up_to (left - 0) p ≡ (l, u))
    → take_up_to left p ≡ (chunk_items t y 0 ++ l, u)
unfolding chunk_items full
none_first left p t cached y v q vs l u i e g same h at a k ih =
    let e' : (polled p).queue ≡ y ∷ q = ap (λ (x : State). x.queue) (sym same) ∙ e in
    let g' : ((polled p).slot_of y).ring ≡ v ∷ vs = ap (λ (x : State). (x.slot_of y).ring) (sym same) ∙ g in
    let z : (polled p).budget ≡ 0 = ap (λ (x : State). x.budget) (sym same) ∙ none_at_zero left cached at h a k in
    let f : State = full p i y v q vs e' g' z in
    let to_f : refresh_active (after_chunk t y q 0) ≡ f = ap refresh_active (none_moved t y q e (burst_below at) (unreleased_below at) ∙ same) ∙ refreshed_full p i y v q vs e' g' z in
    let turns : Turns f f = has_item f y v q vs e' g' in
    let there : Turns (refresh_active (after_chunk t y q 0)) (polled f) = subst (Turns (refresh_active (after_chunk t y q 0))) (sym (polled_full p i y v q vs e' g' z)) (subst (λ (x : State). Turns x f) (sym to_f) turns) in
    sym (same_batch p i y v q vs e' g' z left h)
    ∙ ap (λ (m : ℕ). take_up_to m f) (less left)
    ∙ ih (omega (arith, h)) f (full_in_order (polled p) (polled_in_order p i)) there
  where
    less : (m : ℕ) → m ≡ m - 0
    less m = omega arith

-- s is on the way of the loop from p: the turns from it end where the poll of p ends
ends_there : {left : ℕ} {s u : State} {l : List (LaneKey × ℕ)} → Rounds left s l u → 1 ≤ left → (p : State) → InOrder p → Turns (refresh_active s) (polled p) → take_up_to left p ≡ (l, u)
ends_there (limit_reached left s e) h p i w = absurd (omega (arith, e, h))
ends_there (nothing_left left s t h r e) k p i w =
    let same : t ≡ polled p = ends_unqueued e (subst (λ (x : State). Turns x (polled p)) r w) in
    take_up_to_none left p h (ap (λ (x : State). x.queue) (sym same) ∙ e) ∙ ap (λ (x : State). ([], x)) (sym same)
ends_there (front_empty left s t u l y q h r e g more) k p i w =
    ends_there more h p i (goes_on_empty y q e g (subst (λ (x : State). Turns x (polled p)) r w))
ends_there (chunk_moved left cached n s t u l y q h r e a c k more) j p i w =
    split (t.slot_of y).ring refl (λ h p i w. ends_there more h p i w)
  where
    split : (vs : List ℕ) → (t.slot_of y).ring ≡ vs
        → (1 ≤ left - n → (p : State) → InOrder p → Turns (refresh_active (after_chunk t y q n)) (polled p) → take_up_to (left - n) p ≡ (l, u))
        → take_up_to left p ≡ (chunk_items t y n ++ l, u)
    split [] g ih = absurd (omega (arith, a, c, ap length g))
    split (v ∷ vs) g ih = by_length n k more ih
      where
        same : t ≡ polled p
        same = ends_with_item y v q vs e g (subst (λ (x : State). Turns x (polled p)) r w)

        at : Front t y q
        at = record { in_order = subst InOrder (sym same) (polled_in_order p i); is_front = e; some_items = omega (arith, ap length g) }

        by_length : (n : ℕ) → chunk_length left cached t y ≡ n → Rounds (left - n) (after_chunk t y q n) l u
            → (1 ≤ left - n → (p : State) → InOrder p → Turns (refresh_active (after_chunk t y q n)) (polled p) → take_up_to (left - n) p ≡ (l, u))
            → take_up_to left p ≡ (chunk_items t y n ++ l, u)
        by_length zero k more ih = none_first left p t cached y v q vs l u i e g same h at a k ih
        by_length (suc m) k more ih =
            let f = fits left cached t y (suc m) c k (omega arith) in
            chunk_taken left (suc m) p t y q (sym same) e f
            ∙ ap (onto (chunk_items t y (suc m))) (begun (left - suc m) (after_chunk t y q (suc m)) u l (moved_in_order (suc m) at f) more ih)

pub rounds_end_once : RoundsEndOnce
unfolding RoundsEndOnce
rounds_end_once s i limit l u r = sym (begun limit s u l i r (λ h p o w. ends_there r h p o w))

-- ---- that they end

record Ending (left : ℕ) (s : State) : Type 0 where
  items : List (LaneKey × ℕ)
  state : State
  rounds : Rounds left s items state

-- a round that moves a chunk, with all cached that the lane holds
chunk_first : (left n : ℕ) (s t : State) (y : ℕ) (q : List ℕ) → 1 ≤ left → refresh_active s ≡ t → Front t y q → chunk_length left (length (t.slot_of y).ring) t y ≡ n
    → Ending (left - n) (after_chunk t y q n) → Ending left s
chunk_first left n s t y q h r at e more =
    record {
      items = chunk_items t y n ++ more.items;
      state = more.state;
      rounds = chunk_moved left (length (t.slot_of y).ring) n s t more.state more.items y q h r at.is_front at.some_items (omega arith) e more.rounds;
    }

-- the turns that come before it, or before the end
turns_first : {t e : State} (left : ℕ) → 1 ≤ left → Turns t e → (s : State) → refresh_active s ≡ t → ((x : State) → refresh_active x ≡ e → Ending left x) → Ending left s
turns_first left h (nothing_queued t e) s r last = last s r
turns_first left h (has_item t y v q vs e g) s r last = last s r
turns_first left h (found_empty t u y q e g w) s r last =
    let more = turns_first left h w (settle_empty y q t) refl last in
    record { items = more.items; state = more.state; rounds = front_empty left s t more.state more.items y q h r e g more.rounds }

-- a loop that begins in p, if those with fewer items to be had end
module _ (left : ℕ) (h : 1 ≤ left) (p : State) (i : InOrder p) (fewer : (m : ℕ) → m < left → (s : State) → InOrder s → Ending m s) where
  -- a chunk, in a state whose budget is not 0
  chunk_then_lem : (s t : State) (y : ℕ) (q : List ℕ) → refresh_active s ≡ t → Front t y q → 1 ≤ t.budget → Ending left s
  chunk_then_lem s t y q r at b =
      let n = chunk_length left (length (t.slot_of y).ring) t y in
      let some : 1 ≤ n = some_in_budget left (length (t.slot_of y).ring) at h at.some_items b in
      let f = fits left (length (t.slot_of y).ring) t y n (omega arith) refl some in
      chunk_first left n s t y q h r at refl (fewer (left - n) (omega (arith, h, some)) (after_chunk t y q n) (moved_in_order n at f))

  module _ (y v : ℕ) (q vs : List ℕ) (e : (polled p).queue ≡ y ∷ q) (g : ((polled p).slot_of y).ring ≡ v ∷ vs) where
    at_poll : Front (polled p) y q
    at_poll = record { in_order = polled_in_order p i; is_front = e; some_items = omega (arith, ap length g) }

    -- at a budget of 0 a round of none comes first
    none_then : (s : State) → refresh_active s ≡ polled p → (polled p).budget ≡ 0 → Ending left s
    unfolding full chunk_length
    none_then s r z =
        let f : State = full p i y v q vs e g z in
        let same : after_chunk (polled p) y q 0 ≡ polled p = none_moved (polled p) y q e (burst_below at_poll) (unreleased_below at_poll) in
        let at_full : Front f y q = record { in_order = full_in_order (polled p) (polled_in_order p i); is_front = e; some_items = at_poll.some_items } in
        let more : Ending left (after_chunk (polled p) y q 0) = chunk_then_lem (after_chunk (polled p) y q 0) f y q (ap refresh_active same ∙ refreshed_full p i y v q vs e g z) at_full (omega arith) in
        chunk_first left 0 s (polled p) y q h r at_poll (no_budget z) (subst (λ (m : ℕ). Ending m (after_chunk (polled p) y q 0)) (less left) more)
      where
        less : (m : ℕ) → m ≡ m - 0
        less m = omega arith

        no_budget : (polled p).budget ≡ 0 → chunk_length left (length ((polled p).slot_of y).ring) (polled p) y ≡ 0
        no_budget z = none_of_none left (polled p).budget _ z

    item_then : (s : State) → refresh_active s ≡ polled p → Ending left s
    item_then s r = go (polled p).budget refl
      where
        go : (b : ℕ) → (polled p).budget ≡ b → Ending left s
        go zero z = none_then s r z
        go (suc b) z = chunk_then_lem s (polled p) y q r at_poll (omega (arith, z))

  last_round : Settled (polled p) → (s : State) → refresh_active s ≡ polled p → Ending left s
  last_round (settled.nothing_queued e) s r = record { items = []; state = polled p; rounds = nothing_left left s (polled p) h r e }
  last_round (front y v q vs e g) s r = item_then y v q vs e g s r

  all_rounds : Ending left p
  unfolding PolledAsLoop poll
  all_rounds = turns_first left h (polled_as_loop p i) p refl (last_round (poll_settled false p))

-- k is enough for the items that are left
ends_within : (k left : ℕ) → left ≤ k → (p : State) → InOrder p → Ending left p
ends_within zero left h p i = record { items = []; state = p; rounds = limit_reached left p (omega arith) }
ends_within (suc k) left h p i = go left h (λ n l s o. ends_within k n l s o)
  where
    go : (left : ℕ) → left ≤ suc k → ((n : ℕ) → n ≤ k → (s : State) → InOrder s → Ending n s) → Ending left p
    go zero h ih = record { items = []; state = p; rounds = limit_reached 0 p refl }
    go (suc m) h ih = all_rounds (suc m) (omega arith) p i (λ n l s o. ih n (omega (arith, h, l)) s o)

pub batch_as_loop : BatchAsLoop
unfolding BatchAsLoop RoundsEndOnce
batch_as_loop s i limit =
    let e = ends_within limit limit (omega arith) s i in
    subst (λ (t : Took). Rounds limit s t.0 t.1) (rounds_end_once s i limit e.items e.state e.rounds) e.rounds
