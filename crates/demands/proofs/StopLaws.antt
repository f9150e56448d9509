-- Where a batch stops in front of an item: what was taken, what stands in front, and one law for all that is said of it.
-- Assumes nothing.
use mathlib.Core.Path.{◌≡◌, refl, ap, sym, ◌∙◌, subst}
use mathlib.Core.Bool.{Bool, true, false}
use mathlib.Core.List.{List, [], ◌∷◌, ◌++◌, map, tail}
use Prim.Native.Nat.{ℕ, zero, suc, ◌+◌, ◌≤◌, ◌<◌, min}
use native.Mathlib.Omega.{arith}
use lib.ListN.{length, get_or, take, length-take}
use lib.Dec.{leb, ltb}
use borrow.Author.Tests.{leb-true, leb-false, le-leb, ltb-true, ltb-false}
use Rattle.model.specs.declared.LaneKey.{LaneKey}
use Rattle.model.specs.declared.Answer.TheVariants.{Empty, Disconnected}
use Rattle.model.specs.Lists.{if, Each, from}
use Rattle.model.specs.State.{State, key_of, registered_lanes, living_senders}
use Rattle.model.specs.Changes.{with_budget}
use Rattle.model.specs.Turn.{refill, Took, give_oldest, give_front, polled, take_one}
use Rattle.model.specs.Receive.{retire_empty_paused_lanes, empty_or_drained, nothing_taken, answer_one, take_from, and_more, take_up_to, release_all, answer_items, admitted, halted, take_while}
use Rattle.model.specs.Outcome.{says}
use Rattle.model.specs.Order.{Ordered}
use Rattle.model.specs.Stretch.{says_stopped}
use Rattle.model.specs.Events.{Event, take_up_to_events, halted_events, take_while_events}
use Rattle.demands.proofs.OrderKept.{refill_le, budget_ordered, release_all_ordered}
use Rattle.demands.proofs.Quiet.{Quietly, trans, budget_quiet, release_all_quiet, poll, poll_quiet, poll_ordered}
use Rattle.demands.proofs.WaitInReceive.{Settled, nothing_queued, front, poll_settled}

-- a stop and then the credit: nothing but credit, signals of empty lanes and the budget changes
pub halts_quiet : (s : State) → Quietly s (release_all (halted (poll false s)))
unfolding halted
halts_quiet s = trans (poll_quiet false s) (trans (budget_quiet (refill (poll false s).budget) (poll false s)) (release_all_quiet (with_budget (refill (poll false s).budget) (poll false s))))

pub halted_ordered : (s : State) → Ordered s → Ordered (halted s)
unfolding halted
halted_ordered s o = budget_ordered (refill s.budget) s (refill_le s.budget o.budget_most) o

pub halts_ordered : (s : State) → Ordered s → Ordered (release_all (halted (poll false s)))
halts_ordered s o = release_all_ordered (halted (poll false s)) (halted_ordered (poll false s) (poll_ordered false s o))

-- of n items and more: the state in which the next is taken has it in front
pub record NextUp (n : ℕ) (l : List (LaneKey × ℕ)) (p : State) : Type 0 where
  pub lane : ℕ
  pub item : ℕ
  pub others : List ℕ
  pub left : List ℕ
  pub first : p.queue ≡ lane ∷ others
  pub oldest : (p.slot_of lane).ring ≡ item ∷ left
  pub next : take (suc n) l ≡ take n l ++ ((key_of p lane, item) ∷ [])

polled_settled : (s : State) → Settled (polled s)
unfolding poll
polled_settled s = poll_settled false s

taken_none : (s : State) → (polled s).queue ≡ [] → (take_one s).0 ≡ []
unfolding take_one give_front
taken_none s e = ap (λ (l : List ℕ). (give_front false (polled s) l).0) e

taken_one : (s : State) (y v : ℕ) (q vs : List ℕ) → (polled s).queue ≡ y ∷ q → ((polled s).slot_of y).ring ≡ v ∷ vs → (take_one s).0 ≡ (key_of (polled s) y, v) ∷ []
unfolding take_one give_front give_oldest
taken_one s y v q vs e r = ap (λ (l : List ℕ). (give_front false (polled s) l).0) e ∙ ap (λ (l : List ℕ). (give_oldest (polled s) false y q l).0) r

pub next_up : (n m : ℕ) (s : State) → n < length (take_up_to m s).0 → NextUp n (take_up_to m s).0 (polled (take_up_to n s).1)
unfolding take_up_to and_more
next_up n zero s h = absurd (omega arith)
next_up zero (suc m) s h = go (polled_settled s)
  where
    rest : List (LaneKey × ℕ) → List (LaneKey × ℕ)
    rest l = (and_more l (take_one s).1 (take_up_to m (take_one s).1)).0

    go : Settled (polled s) → NextUp zero (rest (take_one s).0) (polled s)
    go (nothing_queued e) = absurd (omega (arith, h, ap (λ (l : List (LaneKey × ℕ)). length (rest l)) (taken_none s e)))
    go (front y v q vs e r) = record {
      lane = y;
      item = v;
      others = q;
      left = vs;
      first = e;
      oldest = r;
      next = ap (λ (l : List (LaneKey × ℕ)). take 1 (rest l)) (taken_one s y v q vs e r);
    }
next_up (suc n) (suc m) s h = go (take_one s).0 (take_one s).1 h (next_up n m (take_one s).1)
  where
    go : (l : List (LaneKey × ℕ)) (u : State) → suc n < length (and_more l u (take_up_to m u)).0 → (n < length (take_up_to m u).0 → NextUp n (take_up_to m u).0 (polled (take_up_to n u).1))
        → NextUp (suc n) (and_more l u (take_up_to m u)).0 (polled (and_more l u (take_up_to n u)).1)
    go [] u h ih = absurd (omega arith)
    go (g ∷ l) u h ih =
        let i = ih (omega arith) in
        record {
          lane = i.lane;
          item = i.item;
          others = i.others;
          left = i.left;
          first = i.first;
          oldest = i.oldest;
          next = ap (λ (k : List (LaneKey × ℕ)). g ∷ k) i.next;
        }

-- a batch's first n items are those of the batch of limit n
pub take_prefix : (n m : ℕ) (s : State) → n ≤ length (take_up_to m s).0 → take n (take_up_to m s).0 ≡ (take_up_to n s).0
unfolding take_up_to and_more
take_prefix zero m s h = refl
take_prefix (suc n) zero s h = absurd (omega arith)
take_prefix (suc n) (suc m) s h = go (take_one s).0 (take_one s).1 h (take_prefix n m (take_one s).1)
  where
    go : (l : List (LaneKey × ℕ)) (u : State) → suc n ≤ length (and_more l u (take_up_to m u)).0 → (n ≤ length (take_up_to m u).0 → take n (take_up_to m u).0 ≡ (take_up_to n u).0)
        → take (suc n) (and_more l u (take_up_to m u)).0 ≡ (and_more l u (take_up_to n u)).0
    go [] u h ih = absurd (omega arith)
    go (g ∷ l) u h ih = ap (λ (k : List (LaneKey × ℕ)). g ∷ k) (ih (omega arith))

-- ---- the admitted items of a list

pub admitted_most : (b : ℕ) (l : List (LaneKey × ℕ)) → admitted b l ≤ length l
unfolding admitted
admitted_most b [] = omega arith
admitted_most b (g ∷ l) = go (leb g.1 b) (admitted_most b l)
  where
    go : (c : Bool) → admitted b l ≤ length l → if c (suc (admitted b l)) 0 ≤ suc (length l)
    go true h = omega arith
    go false h = omega arith

pub admitted_each : (b : ℕ) (l : List (LaneKey × ℕ)) → Each (λ g. g.1 ≤ b) (take (admitted b l) l)
unfolding admitted Each
admitted_each b [] = tt
admitted_each b (g ∷ l) = go (leb g.1 b) refl (admitted_each b l)
  where
    go : (c : Bool) → leb g.1 b ≡ c → Each (λ x. x.1 ≤ b) (take (admitted b l) l) → Each (λ x. x.1 ≤ b) (take (if c (suc (admitted b l)) 0) (g ∷ l))
    go true e h = (leb-true g.1 b e, h)
    go false e h = tt

-- the item after them is not admitted
pub admitted_next : (b : ℕ) (l : List (LaneKey × ℕ)) (g : LaneKey × ℕ) → take (suc (admitted b l)) l ≡ take (admitted b l) l ++ (g ∷ []) → b < g.1
unfolding admitted
admitted_next b [] g e = absurd (omega (arith, ap length e))
admitted_next b (x ∷ l) g e = go (leb x.1 b) refl e (admitted_next b l g)
  where
    go : (c : Bool) → leb x.1 b ≡ c → take (suc (if c (suc (admitted b l)) 0)) (x ∷ l) ≡ take (if c (suc (admitted b l)) 0) (x ∷ l) ++ (g ∷ [])
        → (take (suc (admitted b l)) l ≡ take (admitted b l) l ++ (g ∷ []) → b < g.1) → b < g.1
    go true f e ih = ih (ap tail e)
    go false f e ih = omega (arith, leb-false x.1 b f, ap (λ (k : List (LaneKey × ℕ)). get_or (map (λ i. i.1) k) 0 0) e)

pub admitted_all : (b : ℕ) (l : List (LaneKey × ℕ)) → Each (λ g. g.1 ≤ b) l → admitted b l ≡ length l
unfolding admitted Each
admitted_all b [] h = refl
admitted_all b (g ∷ l) h = rw (le-leb g.1 b h.0) (ap suc (admitted_all b l h.1))

pub all_admitted : (b : ℕ) (l : List (LaneKey × ℕ)) → admitted b l ≡ length l → Each (λ g. g.1 ≤ b) l
unfolding admitted Each
all_admitted b [] e = tt
all_admitted b (g ∷ l) e = go (leb g.1 b) refl e (all_admitted b l)
  where
    go : (c : Bool) → leb g.1 b ≡ c → if c (suc (admitted b l)) 0 ≡ suc (length l) → (admitted b l ≡ length l → Each (λ x. x.1 ≤ b) l) → (g.1 ≤ b) × Each (λ x. x.1 ≤ b) l
    go true f e ih = (leb-true g.1 b f, ih (omega arith))
    go false f e ih = absurd (omega arith)

-- items that all are admitted count in full, whatever comes after them
pub admitted_more : (b : ℕ) (l r : List (LaneKey × ℕ)) → Each (λ g. g.1 ≤ b) l → admitted b (l ++ r) ≡ length l + admitted b r
unfolding admitted Each
admitted_more b [] r h = omega arith
admitted_more b (g ∷ l) r h = rw (le-leb g.1 b h.0) (omega (arith, admitted_more b l r h.1))

-- ---- a stop after n items

pub record Stops (bound limit n : ℕ) (s : State) : Type 0 where
  pub fewer : n < length (take_up_to limit s).0
  pub is_count : n ≡ admitted bound (take_up_to limit s).0
  pub all_there : length (take_up_to n s).0 ≡ n
  pub up : NextUp n (take_up_to limit s).0 (polled (take_up_to n s).1)

pub length_taken : (n m : ℕ) (s : State) → n ≤ length (take_up_to m s).0 → length (take_up_to n s).0 ≡ n
length_taken n m s h = ap length (sym (take_prefix n m s h)) ∙ length-take n (take_up_to m s).0 ∙ least n (length (take_up_to m s).0) h
  where
    least : (a b : ℕ) → a ≤ b → min a b ≡ a
    least a b i = omega arith

-- the batch takes what the plain one takes, or it stops after n of the plain one's items; its events go the same way
pub while_law : (P : Bool × Took → List Event → Type 0) (bound limit : ℕ) (s : State)
    → (admitted bound (take_up_to limit s).0 ≡ length (take_up_to limit s).0 → P (false, take_up_to limit s) (take_up_to_events limit s))
    → ((n : ℕ) → Stops bound limit n s → P (true, ((take_up_to n s).0, halted (polled (take_up_to n s).1))) (halted_events n s))
    → P (take_while bound limit s) (take_while_events bound limit s)
unfolding take_while take_while_events
while_law P bound limit s f g = go (ltb (admitted bound (take_up_to limit s).0) (length (take_up_to limit s).0)) refl
  where
    l : List (LaneKey × ℕ)
    l = (take_up_to limit s).0

    n : ℕ
    n = admitted bound l

    go : (c : Bool) → ltb n (length l) ≡ c → P (if c (true, (take n l, halted (polled (take_up_to n s).1))) (false, take_up_to limit s)) (if c (halted_events n s) (take_up_to_events limit s))
    go true e =
        let h : n < length l = ltb-true n (length l) e in
        subst (λ (k : List (LaneKey × ℕ)). P (true, (k, halted (polled (take_up_to n s).1))) (halted_events n s)) (sym (take_prefix n limit s (omega arith)))
        (g n record { fewer = h; is_count = refl; all_there = length_taken n limit s (omega arith); up = next_up n limit s h })
    go false e = f (omega (arith, ltb-false n (length l) e, admitted_most bound l))

-- ---- no other receive answers a stop

nothing_taken_unstopped : (s : State) → says_stopped (nothing_taken s).1.0 ≡ false
unfolding nothing_taken empty_or_drained says_stopped
nothing_taken_unstopped s = go (leb 1 (living_senders s)) (leb 1 (registered_lanes (retire_empty_paused_lanes (from 0 s.issued) s)))
  where
    go : (b c : Bool) → says_stopped (if b (says Empty s) (says (if c Empty Disconnected) (retire_empty_paused_lanes (from 0 s.issued) s))).1.0 ≡ false
    go true c = refl
    go false true = refl
    go false false = refl

pub answer_items_unstopped : (m : ℕ) (l : List (LaneKey × ℕ)) (s : State) → says_stopped (answer_items m l s).1.0 ≡ false
unfolding answer_items says_stopped
answer_items_unstopped zero l s = refl
answer_items_unstopped (suc m) [] s = nothing_taken_unstopped s
answer_items_unstopped (suc m) (g ∷ l) s = refl

pub answer_one_unstopped : (l : List (LaneKey × ℕ)) (s : State) → says_stopped (answer_one l s).1.0 ≡ false
unfolding answer_one says_stopped
answer_one_unstopped [] s = nothing_taken_unstopped s
answer_one_unstopped (g ∷ l) s = refl

pub take_from_unstopped : (l : List ℕ) (x : ℕ) (s : State) → says_stopped (take_from l x s).1.0 ≡ false
unfolding take_from says_stopped
take_from_unstopped [] x s = go (s.slot_of x).living
  where
    go : (b : Bool) → says_stopped (if b Empty Disconnected) ≡ false
    go true = refl
    go false = refl
take_from_unstopped (v ∷ vs) x s = refl
