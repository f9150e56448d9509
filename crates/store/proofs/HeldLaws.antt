-- The held count: the word is no part of what the rules see, the walk over the slots is the rules' number, and it does not pass 65,536 items a slot.
-- Assumes nothing.
use mathlib.Core.Path.{◌≡◌, refl, sym, ap, ◌∙◌, subst}
use mathlib.Core.Bool.{Bool, true, false}
use mathlib.Core.List.{List}
use Prim.Native.Nat.{ℕ, zero, suc, ◌+◌, ◌*◌, ◌≤◌, ◌<◌}
use native.Mathlib.Omega.{arith}
use borrow.Author.Tests.{eqb-true, le-leb}
use lib.Dec.{eqb}
use lib.ListN.{length}
use Rattle.model.specs.declared.SenderCall.TheVariants.{RegisterSender, TrySend, TrySendUnsignaled, DropSender}
use Rattle.model.specs.declared.Call.{Call}
use Rattle.model.specs.declared.Call.TheVariants.{Sender, Receive, Control}
use Rattle.model.specs.declared.Answer.{Answer}
use Rattle.model.specs.Lists.{if, from, total}
use Rattle.model.specs.State.{State, registered_lanes, living_senders, items_held}
use Rattle.model.specs.Runs.{accepted}
use Rattle.model.specs.Rules.{outcome}
use Rattle.model.specs.HeldCalls.{items_sent, items_discarded}
use Rattle.model.specs.Order.{Ordered}
use Rattle.demands.proofs.HeldCalls.{call_held}
use Rattle.lane.specs.declared.lane.Lane.{Lane}
use Rattle.yring.specs.Cursor.{distance}
use Rattle.lane.specs.Order.{InOrder}
use Rattle.lane.specs.Table.{header_words, lane_at}
use Rattle.lane.proofs.CursorOrder.{span_adds, held_adds}
use Rattle.lane.proofs.OrderLaws.{cond_holds}
use Rattle.lane.proofs.TableLaws.{frames, head_stored}
use Rattle.queues.specs.Header.{Shaped, issued, capacity, held_count, set_held_count}
use Rattle.store.specs.View.{view}
use Rattle.store.specs.Order.{Stores, InOrderButHeld, StoreInOrder}
use Rattle.store.specs.Held.{held_in, held_from, walked_held}
use Rattle.store.specs.Words.{Words}
use Rattle.store.proofs.ViewLaws.{view_held_count}
use Rattle.store.proofs.HeaderStore.{stores_word}
use Rattle.store.proofs.CountLaws.{held_sum, number_is}
use Rattle.store.proofs.RefusalLaws.{seen}

-- ---- the word

module _ (t r : List ℕ) (n : ℕ) where
  pub stores_held_count : Stores t r → Stores (set_held_count t n) r
  stores_held_count o =
      let same = view_held_count t r o.shaped n in
      stores_word t r held_count n refl refl o (simp frames o.alive_flag) (λ x h g w. simp frames (o.windows x h g w).within) (ap registered_lanes same) (ap living_senders same)

  pub but_held_count : InOrderButHeld t r → InOrderButHeld (set_held_count t n) r
  but_held_count o =
      record {
        stores = stores_held_count o.stores;
        ordered = subst Ordered (sym (view_held_count t r o.stores.shaped n)) o.ordered;
      }

-- the word as it was set
pub held_count_set : (t : List ℕ) (n : ℕ) → Shaped (set_held_count t n) → held_count (set_held_count t n) ≡ n
held_count_set t n s = head_stored t 16 n (le-leb header_words (length t) (omega (arith, s.room, same))) refl
  where
    same : length (set_held_count t n) ≡ length t
    same = simp frames

-- ---- the walk

held_from_total : (t : List ℕ) (n a : ℕ) → held_from t n a ≡ total (λ x. held_in (lane_at t x)) (from a n)
unfolding held_from total from
held_from_total t zero a = refl
held_from_total t (suc n) a =
    let next : a + 1 ≡ suc a = omega arith in
    rw next (ap (λ (m : ℕ). held_in (lane_at t a) + m) (held_from_total t n (suc a)))

-- "Readers see the same number as from the walk": of any words
pub held_total : (t r : List ℕ) → walked_held t ≡ items_held (view t r)
held_total t r = held_from_total t (issued t) 0 ∙ sym (number_is held_sum t r)

pub held_walked : (t r : List ℕ) → StoreInOrder t r → held_count t ≡ walked_held t
held_walked t r o = o.held_counted ∙ sym (held_total t r)

-- ---- how much it can be

-- the items of a ring are at most C
pub held_in_most : (C : ℕ) → C ≤ 65536 → (l : Lane) → (l.registered ≡ 1 → InOrder C l) → held_in l ≤ 65536
unfolding held_in
held_in_most C small l k =
    cond_holds (λ n. n ≤ 65536) (eqb l.registered 1) (distance l.tail l.head) 0 (λ e. most (k (eqb-true l.registered 1 e))) (λ e. omega arith)
  where
    most : InOrder C l → distance l.tail l.head ≤ 65536
    most o =
        omega (
          arith,
          small,
          o.cursors.tail_within,
          span_adds C l.tail l.released l.head l.known small o.cursors,
          held_adds C l.tail l.released l.head l.known small o.cursors,
        )

held_from_most : (t : List ℕ) (n a : ℕ) → ((x : ℕ) → a ≤ x → x < a + n → held_in (lane_at t x) ≤ 65536) → held_from t n a ≤ 65536 * n
unfolding held_from
held_from_most t zero a h = omega arith
held_from_most t (suc n) a h =
    omega (arith, h a (omega arith) (omega arith), held_from_most t n (a + 1) (λ x g l. h x (omega arith) (omega arith)))

pub held_most : (t r : List ℕ) → Stores t r → items_held (view t r) ≤ 65536 * issued t
held_most t r o =
    omega (
      arith,
      held_total t r,
      held_from_most t (issued t) 0 (λ x g l. held_in_most (capacity t) o.power.most (lane_at t x) (o.lanes x (omega arith))),
    )

-- it does not come near the end of a u64
pub held_count_most : (t r : List ℕ) → StoreInOrder t r → held_count t ≤ 536870912
held_count_most t r o = omega (arith, o.held_counted, held_most t r o.stores, o.stores.shaped.issued_most, o.stores.shaped.slots_most)

-- ---- a call

-- What a call owes to the count: the word is as it was, with the item that the call sent, less those that it handed out and those that it discarded.
abbrev pub HeldMoved : List ℕ → List ℕ → Call → Words → Type 0
HeldMoved t r c w = held_count w.1 ≡ distance (held_count t + items_sent c w.0) (length (outcome (view t r) c).0 + items_discarded (view t r) c w.0)

one_most : (b : Bool) → if b 1 0 ≤ 1
one_most true = omega arith
one_most false = omega arith

sent_most : (c : Call) (a : Answer) → items_sent c a ≤ 1
unfolding items_sent
sent_most (Sender (TrySend k v)) a = one_most (accepted a)
sent_most (Sender (TrySendUnsignaled k v)) a = one_most (accepted a)
sent_most (Sender (RegisterSender m)) a = omega arith
sent_most (Sender (DropSender k)) a = omega arith
sent_most (Receive c) a = omega arith
sent_most (Control c) a = omega arith

-- nothing wraps, and the word is true again
pub held_counted_after : (t r : List ℕ) (c : Call) (w : Words) → StoreInOrder t r → seen w ≡ (outcome (view t r) c).1 → HeldMoved t r c w
    → held_count w.1 ≡ items_held (view w.1 w.2)
held_counted_after t r c w o e m =
    let rules = call_held (view t r) o.ordered c in
    let answer : w.0 ≡ (outcome (view t r) c).1.0 = ap (λ (z : Answer × State). z.0) e in
    let left : view w.1 w.2 ≡ (outcome (view t r) c).1.1 = ap (λ (z : Answer × State). z.1) e in
    let held : items_held (view w.1 w.2) + length (outcome (view t r) c).0 + items_discarded (view t r) c w.0 ≡ items_held (view t r) + items_sent c w.0 =
    rw (left, answer) rules in
    omega (arith, m, held, o.held_counted, held_count_most t r o, sent_most c w.0)
