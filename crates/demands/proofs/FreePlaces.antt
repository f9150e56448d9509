-- Of any sends to a lane right after an accepted one, the first as many as it said are taken, and those after them are refused as full.
-- Assumes nothing.
use mathlib.Core.Path.{◌≡◌, refl, sym, ap, ◌∙◌, subst}
use mathlib.Core.Bool.{Bool, true, false, not}
use mathlib.Core.List.{List, [], ◌∷◌, map}
use Prim.Native.Nat.{ℕ, zero, suc, ◌+◌, ◌-◌, ◌<◌, ◌≤◌}
use native.Mathlib.Omega.{arith}
use lib.ListN.{length, length-append}
use lib.Dec.{eqb, leb}
use borrow.Author.Tests.{eq-eqb, ne_eqb, leb-true, leb-false}
use Rattle.model.specs.declared.LaneKey.{LaneKey}
use Rattle.model.specs.declared.Refusal.{Refusal}
use Rattle.model.specs.declared.Refusal.TheVariants.{NoSuchSender, LaneClosed, Full}
use Rattle.model.specs.declared.Answer.{Answer}
use Rattle.model.specs.declared.Answer.TheVariants.{Done, Registered, Taken, Item, Items, Stopped, Empty, Disconnected, Held, Refused}
use Rattle.model.specs.Lists.{both}
use Rattle.model.specs.State.{State, sender_lives, is_full, free_places}
use Rattle.model.specs.Changes.{put, signalled, pushed}
use Rattle.model.specs.Outcome.{Outcome, unless}
use Rattle.model.specs.Runs.{accepted, after_list}
use Rattle.model.specs.Sender.{says_taken, try_send, try_send_unsignaled, sender_outcome}
use Rattle.model.specs.Rules.{outcome, the_rules}
use Rattle.model.specs.FreePlaces.{Send, ordinary, unsignalled, send_to, taken_with, TakesSoMany, FreePlacesIn, FreePlaces}
use Rattle.demands.proofs.Counting.{no, self, not_false}
use Rattle.demands.proofs.Moves.{unless_law}

-- a ring is full exactly if no place is free
pub free_none : (s : State) (x : ℕ) → is_full s x ≡ eqb (free_places s x) 0
unfolding is_full free_places
free_none s x = go (leb C used) refl
  where
    C : ℕ
    C = s.capacity

    used : ℕ
    used = length (s.slot_of x).ring + (s.slot_of x).unreleased

    go : (b : Bool) → leb C used ≡ b → b ≡ eqb (C - used) 0
    go true e = sym (eq-eqb (C - used) 0 (omega (arith, leb-true C used e)))
    go false e = sym (ne_eqb (C - used) 0 (λ z. omega (arith, z, leb-false C used e)))

-- the number that an answer to a send says
said_free : Answer → ℕ
said_free (Taken w f) = f
said_free Done = 0
said_free (Registered k) = 0
said_free (Item v i) = 0
said_free (Items n) = 0
said_free (Stopped n) = 0
said_free Empty = 0
said_free Disconnected = 0
said_free (Held n) = 0
said_free (Refused r) = 0

module _ (k : LaneKey) where
  abbrev x : ℕ
  x = k.slot

  -- a send to the lane is taken, or refused as full, and F places are free
  record Takes (s : State) (F : ℕ) : Type 0 where
    lives : sender_lives s k ≡ true
    is_open : both s.is_open (s.slot_of x).registered ≡ true
    free : free_places s x ≡ F

  -- the state with the item in its ring, and whether the send wakes
  abbrev left : State → Send → State
  left s (ordinary v) = put x (signalled (pushed v (s.slot_of x))) s
  left s (unsignalled v) = put x (pushed v (s.slot_of x)) s

  abbrev woken : State → Send → Bool
  woken s (ordinary v) = not (s.slot_of x).pending
  woken s (unsignalled v) = false

  abbrev tests : State → List (Bool × Refusal)
  tests s = (not (sender_lives s k), NoSuchSender) ∷ (not (both s.is_open (s.slot_of x).registered), LaneClosed) ∷ (is_full s x, Full) ∷ []

  send_is : (s : State) (m : Send) → outcome s (send_to k m) ≡ unless (tests s) s (says_taken (woken s m) x (left s m))
  unfolding outcome sender_outcome try_send try_send_unsignaled send_to
  send_is s (ordinary v) = refl
  send_is s (unsignalled v) = refl

  left_lives : (s : State) (m : Send) → sender_lives (left s m) k ≡ sender_lives s k
  unfolding sender_lives
  left_lives s (ordinary v) = rw (self x)
  left_lives s (unsignalled v) = rw (self x)

  left_open : (s : State) (m : Send) → both (left s m).is_open ((left s m).slot_of x).registered ≡ both s.is_open (s.slot_of x).registered
  left_open s (ordinary v) = rw (self x)
  left_open s (unsignalled v) = rw (self x)

  one_less : (s : State) (m : Send) → free_places (left s m) x ≡ free_places s x - 1
  unfolding free_places
  one_less s (ordinary v) = rw (self x) (omega (arith, length-append (s.slot_of x).ring (v ∷ [])))
  one_less s (unsignalled v) = rw (self x) (omega (arith, length-append (s.slot_of x).ring (v ∷ [])))

  takes_left : (s : State) (m : Send) → sender_lives s k ≡ true → both s.is_open (s.slot_of x).registered ≡ true → Takes (left s m) (free_places (left s m) x)
  takes_left s m a b = record { lives = left_lives s m ∙ a; is_open = left_open s m ∙ b; free = refl }

  takes_one : (s : State) (m : Send) (F : ℕ) → Takes s (suc F) → Takes (left s m) F
  takes_one s m F t = record { lives = left_lives s m ∙ t.lives; is_open = left_open s m ∙ t.is_open; free = omega (arith, one_less s m, t.free) }

  -- ---- one send

  first_taken : (s : State) (m : Send) (w : Bool) (F : ℕ) → (outcome s (send_to k m)).1.0 ≡ Taken w F → Takes (outcome s (send_to k m)).1.1 F
  unfolding said_free accepted
  first_taken s m w F =
      subst (λ (o : Outcome). o.1.0 ≡ Taken w F → Takes o.1.1 F) (sym (send_is s m))
      (unless_law (λ o. o.1.0 ≡ Taken w F → Takes o.1.1 F) (tests s) s (says_taken (woken s m) x (left s m)) (λ n e. absurd (no (ap accepted e) refl))
      (λ p e. subst (Takes (left s m)) (ap said_free e) (takes_left s m (not_false p.0) (not_false p.1.0))))

  taken : (s : State) (m : Send) (F : ℕ) → Takes s (suc F) → (outcome s (send_to k m)).1 ≡ (Taken (woken s m) F, left s m)
  unfolding unless
  taken s m F t =
      let room : is_full s x ≡ false = free_none s x ∙ ap (λ (n : ℕ). eqb n 0) t.free ∙ ne_eqb (suc F) 0 (λ z. omega (arith, z)) in
      ap (λ (o : Outcome). o.1) (send_is s m) ∙ rw (t.lives, t.is_open, room) (ap (λ (n : ℕ). (Taken (woken s m) n, left s m)) (takes_one s m F t).free)

  refused : (s : State) (m : Send) → Takes s 0 → (outcome s (send_to k m)).1 ≡ (Refused Full, s)
  unfolding unless
  refused s m t = ap (λ (o : Outcome). o.1) (send_is s m) ∙ rw (t.lives, t.is_open, free_none s x, t.free)

  -- ---- sends one after the other

  then : (s : State) (m : Send) (ms : List Send) {u : State} {a : Answer} {n : ℕ} → (outcome s (send_to k m)).1 ≡ (a, u) → Takes (after_list the_rules u (map (send_to k) ms)) n
      → Takes (after_list the_rules s (map (send_to k) (m ∷ ms))) n
  unfolding after_list
  then s m ms {n = n} e t = subst (λ (w : Answer × State). Takes (after_list the_rules w.1 (map (send_to k) ms)) n) (sym e) t

  takes_after : (ms : List Send) (s : State) (F : ℕ) → Takes s F → Takes (after_list the_rules s (map (send_to k) ms)) (F - length ms)
  unfolding after_list
  takes_after [] s F t = subst (Takes s) (omega arith) t
  takes_after (m ∷ ms) s zero t =
      let none : 0 - length ms ≡ 0 - suc (length ms) = omega arith in
      then s m ms (refused s m t) (subst (Takes (after_list the_rules s (map (send_to k) ms))) none (takes_after ms s 0 t))
  takes_after (m ∷ ms) s (suc F) t =
      let less : F - length ms ≡ suc F - suc (length ms) = omega arith in
      then s m ms (taken s m F t) (subst (Takes (after_list the_rules (left s m) (map (send_to k) ms))) less (takes_after ms (left s m) F (takes_one s m F t)))

  -- the one after them
  so_many : (s : State) (m : Send) (F n : ℕ) → Takes s (F - n) → TakesSoMany F n (outcome s (send_to k m)).1.0
  unfolding taken_with
  so_many s m F n t = record {
    taken_below = below;
    full_from = λ h. ap (λ (w : Answer × State). w.0) (refused s m (subst (Takes s) (omega arith) t));
    full_only_from = λ e. go (leb F n) refl e;
  }
    where
      below : n < F → taken_with (F - suc n) (outcome s (send_to k m)).1.0 ≡ true
      below h = rw (taken s m (F - suc n) (subst (Takes s) (omega arith) t)) (self (F - suc n))

      go : (b : Bool) → leb F n ≡ b → (outcome s (send_to k m)).1.0 ≡ Refused Full → F ≤ n
      go true h e = leb-true F n h
      go false h e = absurd (no (below (leb-false F n h)) (ap (taken_with (F - suc n)) e))

pub free_places_lem : FreePlaces the_rules
unfolding FreePlaces FreePlacesIn after_list
free_places_lem o lent d calls k first further last f w F e =
    let s = after_list the_rules (the_rules.opens o lent).1 calls in
    so_many k _ last F (length further) (takes_after k further (outcome s (send_to k first)).1.1 F (first_taken k s first w F e))
