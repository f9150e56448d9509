-- The rounds of the Rust's batch loop with an admission rule end where the rules' batch with a bound ends, which is cut from the plain batch.
-- Assumes nothing.
use mathlib.Core.Path.{◌≡◌, refl, ap, sym, ◌∙◌, subst}
use mathlib.Core.Bool.{Bool, true, false}
use mathlib.Core.List.{List, [], ◌∷◌, ◌++◌}
use Prim.Native.Nat.{ℕ, zero, suc, ◌-◌, ◌≤◌, ◌<◌}
use native.Mathlib.Omega.{arith}
use lib.ListN.{length, take}
use lib.Dec.{ltb}
use borrow.Author.Tests.{ltb-true, ltb-false}
use Rattle.model.specs.declared.LaneKey.{LaneKey}
use Rattle.model.specs.Lists.{if}
use Rattle.model.specs.State.{State}
use Rattle.model.specs.Changes.{with_budget}
use Rattle.model.specs.Turn.{Took, settle_empty, refill, polled}
use Rattle.model.specs.Receive.{take_up_to, admitted, halted, take_while}
use Rattle.model.specs.Order.{InOrder}
use Rattle.model.specs.PollLoop.{refresh_active, Turns, nothing_queued, has_item, found_empty, PolledAsLoop}
use Rattle.model.specs.BatchLoop.{chunk_length, chunk_items, after_chunk, RoundsWhile, while_limit_reached, while_nothing_left, while_front_empty, while_chunk_moved, item_rejected, WhileAsLoop, WhileRoundsEndOnce}
use Rattle.demands.proofs.Quiet.{poll}
use Rattle.demands.proofs.WaitInReceive.{Settled, front, poll_settled}
use Rattle.demands.proofs.WaitInReceive as settled
use Rattle.demands.proofs.WholeChunk.{first_of, given, ChunkFits, length_first_of}
use Rattle.demands.proofs.StopLaws.{admitted_most}
use Rattle.demands.proofs.StopInChunk.{onto_while, while_none, while_nothing, while_chunk, while_stops_in_chunk}
use Rattle.demands.proofs.PollLoop.{polled_as_loop, ends_unqueued, ends_with_item, goes_on_empty}
use Rattle.demands.proofs.BatchLoop.{polled_in_order, full_in_order, moved_given, none_moved, none_of_none, Front, burst_below, unreleased_below, none_at_zero, some_in_budget, Fits, fits, moved_in_order, full, refreshed_full, polled_full, same_batch}

-- ---- a budget of 0 in front of an item

-- the batch from where the budget is set is the batch from before the poll
module _ (p : State) (i : InOrder p) (y v : ℕ) (q vs : List ℕ) (e : (polled p).queue ≡ y ∷ q) (r : ((polled p).slot_of y).ring ≡ v ∷ vs) (z : (polled p).budget ≡ 0) where
  -- the stop after n items
  same_stop : (n : ℕ) → halted (polled (take_up_to n (full p i y v q vs e r z)).1) ≡ halted (polled (take_up_to n p).1)
  unfolding take_up_to halted refill full
  same_stop zero = ap halted (polled_full p i y v q vs e r z) ∙ ap (λ (b : ℕ). with_budget (refill b) (polled p)) (sym z)
  same_stop (suc n) = ap (λ (t : Took). halted (polled t.1)) (same_batch p i y v q vs e r z (suc n) (omega arith))

  same_while : (b m : ℕ) → 1 ≤ m → take_while b m (full p i y v q vs e r z) ≡ take_while b m p
  unfolding take_while
  same_while b m h = λ j. stops_by (same_batch p i y v q vs e r z m h j) (λ n. same_stop n j)
    where
      stops_by : Took → (ℕ → State) → Bool × Took
      stops_by t at = if (ltb (admitted b t.0) (length t.0)) (true, (take (admitted b t.0) t.0, at (admitted b t.0))) (false, t)

-- ---- a chunk

most_admitted : (bound n : ℕ) (t : State) (y : ℕ) → ChunkFits t y n → admitted bound (chunk_items t y n) ≤ n
unfolding chunk_items
most_admitted bound n t y f = omega (arith, admitted_most bound (first_of t y n), length_first_of n t y f.in_ring)

-- all of it is admitted
chunk_taken : (bound left n : ℕ) (p t : State) (y : ℕ) (q : List ℕ) → polled p ≡ t → t.queue ≡ y ∷ q → Fits left t y n → admitted bound (chunk_items t y n) ≡ n
    → take_while bound left p ≡ onto_while (chunk_items t y n) (take_while bound (left - n) (after_chunk t y q n))
unfolding chunk_items
chunk_taken bound left n p t y q e f g a =
    subst (λ (u : State). u.queue ≡ y ∷ q → ChunkFits u y n → admitted bound (first_of u y n) ≡ n → take_while bound left p ≡ onto_while (first_of u y n) (take_while bound (left - n) (given u y q n))) e
    (λ k c b. while_chunk bound left n p y q k c g.in_limit b) f g.chunk_fits a
    ∙ ap (λ (u : State). onto_while (first_of t y n) (take_while bound (left - n) u)) (sym (moved_given t y q n g.some_budget))

-- k of its n items are
chunk_stopped : (bound left n k : ℕ) (p t : State) (y : ℕ) (q : List ℕ) → polled p ≡ t → Front t y q → Fits left t y n → admitted bound (chunk_items t y n) ≡ k → k < n
    → take_while bound left p ≡ (true, (chunk_items t y k, after_chunk t y q k))
unfolding chunk_items
chunk_stopped bound left n k p t y q e f g a h =
    subst (λ (u : State). Front u y q → ChunkFits u y n → admitted bound (first_of u y n) ≡ k → take_while bound left p ≡ (true, (first_of u y k, given u y q k))) e
    (λ x c b. while_stops_in_chunk p y q n x.is_front c (unreleased_below x) bound left k g.in_limit h b) f g.chunk_fits a
    ∙ ap (λ (u : State). (true, (first_of t y k, u))) (sym (moved_given t y q k g.some_budget))

-- ---- where the rounds end

-- nothing is to be had
finished : {bound left : ℕ} {s u : State} {rejected : Bool} {l : List (LaneKey × ℕ)} → RoundsWhile bound left s rejected l u → left ≡ 0 → ◌≡◌ {A = Bool × Took} (rejected, (l, u)) (false, ([], s))
finished (while_limit_reached left s e) z = refl
finished (while_nothing_left left s t h r e) z = absurd (omega (arith, h, z))
finished (while_front_empty left s t u j l y q h r e g more) z = absurd (omega (arith, h, z))
finished (while_chunk_moved left cached n s t u j l y q h r e a c k b more) z = absurd (omega (arith, h, z))
finished (item_rejected left cached n m s t y q h r e a c k b d) z = absurd (omega (arith, h, z))

-- the rounds with which a loop begins, or goes on after a chunk
begun : (bound left : ℕ) (s u : State) (rejected : Bool) (l : List (LaneKey × ℕ)) → InOrder s → RoundsWhile bound left s rejected l u
    → (1 ≤ left → (p : State) → InOrder p → Turns (refresh_active s) (polled p) → take_while bound left p ≡ (rejected, (l, u))) → take_while bound left s ≡ (rejected, (l, u))
unfolding PolledAsLoop
begun bound zero s u j l i r ih = while_none bound s ∙ sym (finished r refl)
begun bound (suc m) s u j l i r ih = ih (omega arith) s i (polled_as_loop s i)

-- a chunk of none, and the rounds after it
none_first : (bound left : ℕ) (p t : State) (cached y v : ℕ) (q vs : List ℕ) (rejected : Bool) (l : List (LaneKey × ℕ)) (u : State)
    → InOrder p → t.queue ≡ y ∷ q → (t.slot_of y).ring ≡ v ∷ vs → t ≡ polled p
    → 1 ≤ left → Front t y q → 1 ≤ cached → chunk_length left cached t y ≡ 0
    → (1 ≤ left - 0 → (p : State) → InOrder p → Turns (refresh_active (after_chunk t y q 0)) (polled p) → take_while bound (left - 0) p ≡ (rejected, (l, u)))
    → take_while bound left p ≡ (rejected, (chunk_items t y 0 ++ l, u))
unfolding chunk_items full
none_first bound left p t cached y v q vs j l u i e g same h at a k ih =
    let e' : (polled p).queue ≡ y ∷ q = ap (λ (x : State). x.queue) (sym same) ∙ e in
    let g' : ((polled p).slot_of y).ring ≡ v ∷ vs = ap (λ (x : State). (x.slot_of y).ring) (sym same) ∙ g in
    let z : (polled p).budget ≡ 0 = ap (λ (x : State). x.budget) (sym same) ∙ none_at_zero left cached at h a k in
    let f : State = full p i y v q vs e' g' z in
    let to_f : refresh_active (after_chunk t y q 0) ≡ f = ap refresh_active (none_moved t y q e (burst_below at) (unreleased_below at) ∙ same) ∙ refreshed_full p i y v q vs e' g' z in
    let turns : Turns f f = has_item f y v q vs e' g' in
    let there : Turns (refresh_active (after_chunk t y q 0)) (polled f) = subst (Turns (refresh_active (after_chunk t y q 0))) (sym (polled_full p i y v q vs e' g' z)) (subst (λ (x : State). Turns x f) (sym to_f) turns) in
    sym (same_while p i y v q vs e' g' z bound left h)
    ∙ ap (λ (m : ℕ). take_while bound m f) (less left)
    ∙ ih (omega (arith, h)) f (full_in_order (polled p) (polled_in_order p i)) there
  where
    less : (m : ℕ) → m ≡ m - 0
    less m = omega arith

-- the state after `refresh_active` has the poll's item in front
front_of : (p t : State) (y v : ℕ) (q vs : List ℕ) → InOrder p → t ≡ polled p → t.queue ≡ y ∷ q → (t.slot_of y).ring ≡ v ∷ vs → Front t y q
front_of p t y v q vs i same e g = record { in_order = subst InOrder (sym same) (polled_in_order p i); is_front = e; some_items = omega (arith, ap length g) }

-- s is on the way of the loop from p: the turns from it end where the poll of p ends
ends_there : {bound left : ℕ} {s u : State} {rejected : Bool} {l : List (LaneKey × ℕ)} → RoundsWhile bound left s rejected l u → 1 ≤ left
    → (p : State) → InOrder p → Turns (refresh_active s) (polled p) → take_while bound left p ≡ (rejected, (l, u))
ends_there (while_limit_reached left s e) h p i w = absurd (omega (arith, e, h))
ends_there {bound} (while_nothing_left left s t h r e) k p i w =
    let same : t ≡ polled p = ends_unqueued e (subst (λ (x : State). Turns x (polled p)) r w) in
    while_nothing bound left p h (ap (λ (x : State). x.queue) (sym same) ∙ e) ∙ ap (λ (x : State). (false, ([], x))) (sym same)
ends_there (while_front_empty left s t u j l y q h r e g more) k p i w =
    ends_there more h p i (goes_on_empty y q e g (subst (λ (x : State). Turns x (polled p)) r w))
ends_there {bound} (while_chunk_moved left cached n s t u j l y q h r e a c k b more) d p i w =
    split (t.slot_of y).ring refl (λ h p i w. ends_there more h p i w)
  where
    split : (vs : List ℕ) → (t.slot_of y).ring ≡ vs
        → (1 ≤ left - n → (p : State) → InOrder p → Turns (refresh_active (after_chunk t y q n)) (polled p) → take_while bound (left - n) p ≡ (j, (l, u)))
        → take_while bound left p ≡ (j, (chunk_items t y n ++ l, u))
    split [] g ih = absurd (omega (arith, a, c, ap length g))
    split (v ∷ vs) g ih = by_length n k b more ih
      where
        same : t ≡ polled p
        same = ends_with_item y v q vs e g (subst (λ (x : State). Turns x (polled p)) r w)

        at : Front t y q
        at = front_of p t y v q vs i same e g

        by_length : (n : ℕ) → chunk_length left cached t y ≡ n → admitted bound (chunk_items t y n) ≡ n → RoundsWhile bound (left - n) (after_chunk t y q n) j l u
            → (1 ≤ left - n → (p : State) → InOrder p → Turns (refresh_active (after_chunk t y q n)) (polled p) → take_while bound (left - n) p ≡ (j, (l, u)))
            → take_while bound left p ≡ (j, (chunk_items t y n ++ l, u))
        by_length zero k b more ih = none_first bound left p t cached y v q vs j l u i e g same h at a k ih
        by_length (suc m) k b more ih =
            let f = fits left cached t y (suc m) c k (omega arith) in
            chunk_taken bound left (suc m) p t y q (sym same) e f b
            ∙ ap (onto_while (chunk_items t y (suc m))) (begun bound (left - suc m) (after_chunk t y q (suc m)) u j l (moved_in_order (suc m) at f) more ih)
ends_there {bound} (item_rejected left cached n m s t y q h r e a c k b d) x p i w = split (t.slot_of y).ring refl
  where
    split : (vs : List ℕ) → (t.slot_of y).ring ≡ vs → take_while bound left p ≡ (true, (chunk_items t y m, after_chunk t y q m))
    split [] g = absurd (omega (arith, a, c, ap length g))
    split (v ∷ vs) g =
        let same : t ≡ polled p = ends_with_item y v q vs e g (subst (λ (x : State). Turns x (polled p)) r w) in
        chunk_stopped bound left n m p t y q (sym same) (front_of p t y v q vs i same e g) (fits left cached t y n c k (omega (arith, d))) b d

pub while_rounds_end_once : WhileRoundsEndOnce
unfolding WhileRoundsEndOnce
while_rounds_end_once s i bound limit j l u r = sym (begun bound limit s u j l i r (λ h p o w. ends_there r h p o w))

-- ---- that they end

record Ending (bound left : ℕ) (s : State) : Type 0 where
  rejected : Bool
  items : List (LaneKey × ℕ)
  state : State
  rounds : RoundsWhile bound left s rejected items state

-- a round with all cached that the lane holds: all of its chunk is admitted
chunk_first : (bound left n : ℕ) (s t : State) (y : ℕ) (q : List ℕ) → 1 ≤ left → refresh_active s ≡ t → Front t y q → chunk_length left (length (t.slot_of y).ring) t y ≡ n
    → admitted bound (chunk_items t y n) ≡ n → Ending bound (left - n) (after_chunk t y q n) → Ending bound left s
chunk_first bound left n s t y q h r at e a more =
    record {
      rejected = more.rejected;
      items = chunk_items t y n ++ more.items;
      state = more.state;
      rounds = while_chunk_moved left (length (t.slot_of y).ring) n s t more.state more.rejected more.items y q h r at.is_front at.some_items (omega arith) e a more.rounds;
    }

-- or it is not
rejected_first : (bound left n k : ℕ) (s t : State) (y : ℕ) (q : List ℕ) → 1 ≤ left → refresh_active s ≡ t → Front t y q → chunk_length left (length (t.slot_of y).ring) t y ≡ n
    → admitted bound (chunk_items t y n) ≡ k → k < n → Ending bound left s
rejected_first bound left n k s t y q h r at e a d =
    record {
      rejected = true;
      items = chunk_items t y k;
      state = after_chunk t y q k;
      rounds = item_rejected left (length (t.slot_of y).ring) n k s t y q h r at.is_front at.some_items (omega arith) e a d;
    }

-- the turns that come before it, or before the end
turns_first : {t e : State} (bound left : ℕ) → 1 ≤ left → Turns t e → (s : State) → refresh_active s ≡ t → ((x : State) → refresh_active x ≡ e → Ending bound left x) → Ending bound left s
turns_first bound left h (nothing_queued t e) s r last = last s r
turns_first bound left h (has_item t y v q vs e g) s r last = last s r
turns_first bound left h (found_empty t u y q e g w) s r last =
    let more = turns_first bound left h w (settle_empty y q t) refl last in
    record { rejected = more.rejected; items = more.items; state = more.state; rounds = while_front_empty left s t more.state more.rejected more.items y q h r e g more.rounds }

-- a loop that begins in p, if those with fewer items to be had end
module _ (bound left : ℕ) (h : 1 ≤ left) (p : State) (i : InOrder p) (fewer : (m : ℕ) → m < left → (s : State) → InOrder s → Ending bound m s) where
  -- a chunk, in a state whose budget is not 0
  chunk_then_lem : (s t : State) (y : ℕ) (q : List ℕ) → refresh_active s ≡ t → Front t y q → 1 ≤ t.budget → Ending bound left s
  chunk_then_lem s t y q r at b = go (ltb k n) refl
    where
      n : ℕ
      n = chunk_length left (length (t.slot_of y).ring) t y

      k : ℕ
      k = admitted bound (chunk_items t y n)

      some : 1 ≤ n
      some = some_in_budget left (length (t.slot_of y).ring) at h at.some_items b

      f : Fits left t y n
      f = fits left (length (t.slot_of y).ring) t y n (omega arith) refl some

      most : k ≤ n
      most = most_admitted bound n t y f.chunk_fits

      go : (c : Bool) → ltb k n ≡ c → Ending bound left s
      go true e = rejected_first bound left n k s t y q h r at refl refl (ltb-true k n e)
      go false e = chunk_first bound left n s t y q h r at refl (omega (arith, most, ltb-false k n e)) (fewer (left - n) (omega (arith, h, some)) (after_chunk t y q n) (moved_in_order n at f))

  module _ (y v : ℕ) (q vs : List ℕ) (e : (polled p).queue ≡ y ∷ q) (g : ((polled p).slot_of y).ring ≡ v ∷ vs) where
    at_poll : Front (polled p) y q
    at_poll = front_of p (polled p) y v q vs i refl e g

    -- at a budget of 0 a round of none comes first
    none_then : (s : State) → refresh_active s ≡ polled p → (polled p).budget ≡ 0 → Ending bound left s
    unfolding full chunk_length chunk_items admitted
    none_then s r z =
        let f : State = full p i y v q vs e g z in
        let same : after_chunk (polled p) y q 0 ≡ polled p = none_moved (polled p) y q e (burst_below at_poll) (unreleased_below at_poll) in
        let at_full : Front f y q = record { in_order = full_in_order (polled p) (polled_in_order p i); is_front = e; some_items = at_poll.some_items } in
        let more : Ending bound left (after_chunk (polled p) y q 0) = chunk_then_lem (after_chunk (polled p) y q 0) f y q (ap refresh_active same ∙ refreshed_full p i y v q vs e g z) at_full (omega arith) in
        chunk_first bound left 0 s (polled p) y q h r at_poll (no_budget z) refl (subst (λ (m : ℕ). Ending bound m (after_chunk (polled p) y q 0)) (less left) more)
      where
        less : (m : ℕ) → m ≡ m - 0
        less m = omega arith

        no_budget : (polled p).budget ≡ 0 → chunk_length left (length ((polled p).slot_of y).ring) (polled p) y ≡ 0
        no_budget z = none_of_none left (polled p).budget _ z

    item_then : (s : State) → refresh_active s ≡ polled p → Ending bound left s
    item_then s r = go (polled p).budget refl
      where
        go : (b : ℕ) → (polled p).budget ≡ b → Ending bound left s
        go zero z = none_then s r z
        go (suc b) z = chunk_then_lem s (polled p) y q r at_poll (omega (arith, z))

  last_round : Settled (polled p) → (s : State) → refresh_active s ≡ polled p → Ending bound left s
  last_round (settled.nothing_queued e) s r = record { rejected = false; items = []; state = polled p; rounds = while_nothing_left left s (polled p) h r e }
  last_round (front y v q vs e g) s r = item_then y v q vs e g s r

  all_rounds : Ending bound left p
  unfolding PolledAsLoop poll
  all_rounds = turns_first bound left h (polled_as_loop p i) p refl (last_round (poll_settled false p))

-- k is enough for the items that are left
ends_within : (bound k left : ℕ) → left ≤ k → (p : State) → InOrder p → Ending bound left p
ends_within bound zero left h p i = record { rejected = false; items = []; state = p; rounds = while_limit_reached left p (omega arith) }
ends_within bound (suc k) left h p i = go left h (λ n l s o. ends_within bound k n l s o)
  where
    go : (left : ℕ) → left ≤ suc k → ((n : ℕ) → n ≤ k → (s : State) → InOrder s → Ending bound n s) → Ending bound left p
    go zero h ih = record { rejected = false; items = []; state = p; rounds = while_limit_reached 0 p refl }
    go (suc m) h ih = all_rounds bound (suc m) (omega arith) p i (λ n l s o. ih n (omega (arith, h, l)) s o)

pub while_as_loop : WhileAsLoop
unfolding WhileAsLoop WhileRoundsEndOnce
while_as_loop s i bound limit =
    let e = ends_within bound limit limit (omega arith) s i in
    subst (λ (t : Bool × Took). RoundsWhile bound limit s t.0 t.1.0 t.1.1) (while_rounds_end_once s i bound limit e.rejected e.items e.state e.rounds) e.rounds
