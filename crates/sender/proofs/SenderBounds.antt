-- What the sender calls need of the words, from a store in order and a test that passed.
-- Assumes nothing.
use mathlib.Core.Path.{◌≡◌, refl}
use mathlib.Core.Bool.{Bool, true, false, cond, not}
use mathlib.Core.List.{List, ◌∷◌}
use Prim.Native.Nat.{ℕ, zero, suc, ◌+◌, ◌≤◌, ◌<◌}
use native.Mathlib.Omega.{arith}
use borrow.Author.Tests.{ltb-true, ltb-false, le-ltb, le-leb, lt-leb}
use lib.Dec.{eqb, ltb, leb}
use lib.ListN.{length}
use Rattle.model.specs.declared.LaneKey.{LaneKey}
use Rattle.model.specs.declared.Refusal.TheVariants as Refusal
use Rattle.model.specs.Lists.{if, keep, from}
use Rattle.model.specs.State.{registered_lanes, living_senders}
use Rattle.lane.proofs.OrderLaws.{cond_holds}
use Rattle.lane.proofs.TableLaws.{frames}
use Rattle.queues.specs.Header.{Shaped, issued, slots, free_count, lane_count, living_count, set_issued}
use Rattle.queues.specs.Registry.{freed_at, reissue}
use Rattle.queues.proofs.RegistryLaws.{length_reissued}
use Rattle.ready.specs.Ready.{open_page}
use Rattle.std.specs.Prelude.{Ok, Err}
use Rattle.store.specs.View.{view}
use Rattle.store.specs.Order.{Stores, StoreInOrder}
use Rattle.store.specs.Refusal.{send_verdict}
use Rattle.sender.specs.Sender.{SendRoom, FreeIssued, SlotDue, RegisterRoom, slot_verdict, due_key, take_slot}
use Rattle.store.proofs.RefusalLaws.{send_passes}
use Rattle.store.proofs.StoreLaws.{below_slots, issued_ring_in, freed_slot}
use Rattle.sender.proofs.IssueLaws.{length_opened_page}

-- ---- tests that passed

-- two tests of the same two numbers
pub not_below : (a b : ℕ) → leb b a ≡ not (ltb a b)
not_below a b = go (ltb a b) refl
  where
    go : (c : Bool) → ltb a b ≡ c → leb b a ≡ not c
    go true e = lt-leb b a (ltb-true a b e)
    go false e = le-leb b a (omega (arith, ltb-false a b e))

-- ---- a send

pub send_room : (t r : List ℕ) (k : LaneKey) → StoreInOrder t r → send_verdict t k ≡ Ok (tt {0}) → SendRoom t (length r) k.slot
send_room t r k o e =
    record {
      shaped = o.stores.shaped;
      slot_in = below_slots t r o.stores k.slot (send_passes t k e).lives.is_issued;
      ring_in = issued_ring_in t r o.stores k.slot (send_passes t k e).lives.is_issued;
    }

-- ---- counts of slots

-- of n slots, at most n pass a test
pub kept_most : (p : ℕ → Bool) (a n : ℕ) → length (keep p (from a n)) ≤ n
unfolding keep from
kept_most p a zero = omega arith
kept_most p a (suc n) = go (p a) (kept_most p (suc a) n)
  where
    go : (b : Bool) → length (keep p (from (suc a) n)) ≤ n → length (if b (a ∷ keep p (from (suc a) n)) (keep p (from (suc a) n))) ≤ suc n
    go true h = omega arith
    go false h = omega arith

module _ (t r : List ℕ) (s : Stores t r) where
  pub lanes_most : lane_count t ≤ slots t
  unfolding registered_lanes view
  lanes_most = omega (arith, s.lanes_counted, kept_most (λ x. ((view t r).slot_of x).registered) 0 (issued t), s.shaped.issued_most)

  pub living_most : living_count t ≤ slots t
  unfolding living_senders view
  living_most = omega (arith, s.living_counted, kept_most (λ x. ((view t r).slot_of x).living) 0 (issued t), s.shaped.issued_most)

-- ---- a registration

module _ (t r : List ℕ) (o : StoreInOrder t r) where
  pub free_issued : FreeIssued t
  free_issued = record { freed_issued = λ d h. (freed_slot t r o d h).is_issued; freed_generation = λ d h. (freed_slot t r o d h).generation }

  pub register_room : (d : ℕ) → slot_verdict t d ≡ Ok (tt {0}) → RegisterRoom t d
  unfolding slot_verdict
  register_room d e =
      record {
        shaped = o.stores.shaped;
        due = λ h. unused (ltb (issued t) (slots t)) refl (rw (le-ltb d (free_count t) h) at e);
        lanes_most = lanes_most t r o.stores;
        living_most = living_most t r o.stores;
      }
    where
      unused : (b : Bool) → ltb (issued t) (slots t) ≡ b
          → cond b (Ok (tt {0})) (cond (eqb (free_count t) 0) (Err Refusal.NoFreeSlot) (Err Refusal.OlderSenderLives)) ≡ Ok (tt {0}) → issued t < slots t
      unused true g f = ltb-true _ _ g
      unused false g f = absurd (neither (eqb (free_count t) 0) f)
        where
          neither : (c : Bool) → cond c (Err Refusal.NoFreeSlot) (Err Refusal.OlderSenderLives) ≡ Ok (tt {0}) → ⊥
          neither true z = let x : ◌≡◌ {A = ℕ} 0 1 = cc in omega arith
          neither false z = let x : ◌≡◌ {A = ℕ} 0 1 = cc in omega arith

-- the slot that is due
pub due_in : (t : List ℕ) (d : ℕ) → Shaped t → FreeIssued t → SlotDue t d → (due_key t d).slot < slots t
unfolding due_key
due_in t d s f due = go (ltb d (free_count t)) refl _ _
  where
    go : (b : Bool) → ltb d (free_count t) ≡ b → (g h : ℕ)
        → (cond {A = LaneKey} b (record { slot = freed_at t d; generation = g }) (record { slot = issued t; generation = h })).slot < slots t
    go true e g h = omega (arith, f.freed_issued d (ltb-true _ _ e), s.issued_most)
    go false e g h = due (omega (arith, ltb-false d (free_count t) e))

-- ---- lengths

pub length_taken : (t : List ℕ) (d : ℕ) → length (take_slot t d) ≡ length t
unfolding take_slot
length_taken t d =
    cond_holds (λ u. length u ≡ length t) (ltb d (free_count t)) (reissue t d) (set_issued (open_page t (issued t)) (issued t + 1))
    (λ e. length_reissued t d) (λ e. simp (frames, length_opened_page))
