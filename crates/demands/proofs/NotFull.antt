-- Once a lane has F free places, a send to it is refused 11 only if F were accepted since: nothing but a send to a lane takes a place of it.
-- Assumes nothing.
use mathlib.Core.Path.{◌≡◌, refl, ap, sym, ◌∙◌, subst}
use mathlib.Core.Bool.{Bool, true, false}
use mathlib.Core.List.{List, [], ◌∷◌, ◌++◌, append-nil}
use Prim.Native.Nat.{ℕ, ◌+◌, ◌≤◌, ◌<◌}
use native.Mathlib.Omega.{arith}
use lib.ListN.{length, length-append}
use lib.Dec.{eqb, leb}
use borrow.Author.Tests.{leb-true}
use Rattle.model.specs.declared.LaneKey.{LaneKey}
use Rattle.model.specs.declared.Opening.{Opening}
use Rattle.model.specs.declared.SenderCall.TheVariants.{RegisterSender}
use Rattle.model.specs.declared.Call.{Call}
use Rattle.model.specs.declared.Call.TheVariants.{Sender}
use Rattle.model.specs.declared.Refusal.TheVariants.{NoSuchSender, LaneClosed, Full}
use Rattle.model.specs.declared.Answer.{Answer}
use Rattle.model.specs.declared.Answer.TheVariants.{Done, Registered, Taken, Refused}
use Rattle.model.specs.Lists.{if, either, count, without}
use Rattle.model.specs.State.{Slot, State, may_queue, key_of, sender_lives, is_full, free_places, release_batch}
use Rattle.model.specs.Changes.{put, new_lane, signalled, pushed, sender_dropped, popped, with_paused, credited, retired}
use Rattle.model.specs.Turn.{unreleased_after_one, give_item}
use Rattle.model.specs.Outcome.{unless, says}
use Rattle.model.specs.Runs.{Lent, same_key, accepted, Tick, ends, handed, trace, after_list}
use Rattle.model.specs.Sender.{clear_slots, issue_slot, register_sender, sender_outcome, try_send, try_send_unsignaled}
use Rattle.model.specs.Receive.{queue_lane_if}
use Rattle.model.specs.Opening.{next_power_of_two, opened_state, opening_outcome}
use Rattle.model.specs.Rules.{outcome, the_rules}
use Rattle.model.specs.Order.{Ordered}
use Rattle.model.specs.Demand2.{into, values}
use Rattle.model.specs.FreePlaces.{Send, ordinary, unsignalled, send_to, HasFree, sent, registered, NotFullBeforeIn, NotFullBefore}
use Rattle.demands.proofs.Counting.{Same, equal, other, same?, self, not_false}
use Rattle.demands.proofs.Quiet.{Quietly, trans, poll, poll_quiet, release_all_quiet, settle_empty_quiet}
use Rattle.demands.proofs.ClearSlots.{clear_slot}
use Rattle.demands.proofs.Moves.{Moves, stays_put, credits, registers_new, registers_old, sends, posts, drops_it, pauses_it, resumes, resumes_not, closes_it, polls_all, shuts_it, takes, stops, halts, aims, aims_none, Chain, stay, move, trace_chain, unless_law}
use Rattle.demands.proofs.StopLaws.{halts_quiet}
use Rattle.demands.proofs.Points.{ends_at}
use Rattle.demands.proofs.LedgerLaws.{alike, unlike, keys?}
use Rattle.demands.proofs.Demand2.{sender_parts, give_item_slot, queue_lane_slot, opens_as}
use Rattle.demands.proofs.LedgerAgrees.{retire_lane_slot, again_put, key_path}
use Rattle.demands.proofs.Grows.{move_grows}
use Rattle.demands.proofs.Capacity.{queue_lane_room, credited_less, retire_lane_capacity, give_item_capacity}
use Rattle.demands.proofs.InOrder.{run_in_order}

-- ---- one move

-- the places of a ring that a send cannot take
abbrev occupied : Slot → ℕ
occupied l = length l.ring + l.unreleased

-- slot x has at most d free places fewer than before
record Fills (x d : ℕ) (s u : State) : Type 0 where
  capacities : u.capacity ≡ s.capacity
  at_most : occupied (u.slot_of x) ≤ occupied (s.slot_of x) + d

fills_none : (x d : ℕ) (s : State) → Fills x d s s
fills_none x d s = record { capacities = refl; at_most = omega arith }

fills_quiet : (x d : ℕ) (s u : State) → Quietly s u → Fills x d s u
fills_quiet x d s u q = record { capacities = q.capacities; at_most = omega (arith, ap length (q.held_same x), q.credit x) }

fills_then : (x d : ℕ) (s t u : State) → Fills x 0 s t → Fills x d t u → Fills x d s u
fills_then x d s t u a b = record { capacities = b.capacities ∙ a.capacities; at_most = omega (arith, a.at_most, b.at_most) }

-- slot y becomes m
fills_put : (x d : ℕ) (s u : State) (y : ℕ) (m : Slot) → ((z : ℕ) → u.slot_of z ≡ if (eqb y z) m (s.slot_of z)) → u.capacity ≡ s.capacity
    → (y ≡ x → occupied m ≤ occupied (s.slot_of y) + d) → Fills x d s u
fills_put x d s u y m at c h = record { capacities = c; at_most = subst (λ (l : Slot). occupied l ≤ occupied (s.slot_of x) + d) (sym (at x)) (go (same? y x)) }
  where
    go : Same y x → occupied (if (eqb y x) m (s.slot_of x)) ≤ occupied (s.slot_of x) + d
    go (equal p e i) = rw e (omega (arith, h p, ap (λ (z : ℕ). occupied (s.slot_of z)) p))
    go (other n e i) = rw e (omega arith)

-- an item taken leaves the ring, and counts as unreleased or, with the others, no more
popped_occupied : (s : State) (x v : ℕ) (vs : List ℕ) → (s.slot_of x).ring ≡ v ∷ vs → length vs + unreleased_after_one s x ≤ occupied (s.slot_of x)
unfolding unreleased_after_one
popped_occupied s x v vs e = go (eqb ((s.slot_of x).unreleased + 1) (release_batch s.capacity))
  where
    go : (c : Bool) → length vs + if c 0 ((s.slot_of x).unreleased + 1) ≤ occupied (s.slot_of x)
    go true = omega (arith, ap length e)
    go false = omega (arith, ap length e)

module _ (k : LaneKey) where
  -- while slot k has generation k, a send to the slot is one to lane k
  sent_fills : (s u : State) (j : LaneKey) (v : ℕ) (m : Slot) → (s.slot_of k.slot).generation ≡ k.generation → sender_lives s j ≡ true
      → ((z : ℕ) → u.slot_of z ≡ if (eqb j.slot z) m (s.slot_of z)) → u.capacity ≡ s.capacity → m.ring ≡ (s.slot_of j.slot).ring ++ (v ∷ []) → m.unreleased ≡ (s.slot_of j.slot).unreleased
      → Fills k.slot (length (if (same_key j k) (v ∷ []) [])) s u
  sent_fills s u j v m g a at c r n = fills_put k.slot _ s u j.slot m at c (λ p. elim (keys? j k) [
    | alike q e ↦ rw e (omega (arith, ap length r, length-append (s.slot_of j.slot).ring (v ∷ [])))
    | unlike d e ↦ absurd (d (key_path j k p (sym (sender_parts s j a).1 ∙ ap (λ (z : ℕ). (s.slot_of z).generation) p ∙ g)))
  ])

  move_fills : {s u : State} {t : Tick} → (s.slot_of k.slot).generation ≡ k.generation → Moves s t u → Fills k.slot (length (into k t)) s u
  unfolding into accepted
  move_fills g (stays_put s c a h) = fills_none k.slot _ s
  move_fills g (credits s c a h) = fills_quiet k.slot _ s _ (release_all_quiet s)
  move_fills g (registers_new s m lt) = fills_put k.slot _ s _ s.issued (new_lane s.first_generation (s.slot_of s.issued)) (λ y. refl) refl (λ p. omega arith)
  move_fills g (registers_old s m x i l) = fills_put k.slot _ s _ x (new_lane ((s.slot_of x).generation + 1) (s.slot_of x)) (λ y. refl) refl (λ p. omega arith)
  move_fills g (sends s j v w free a r nf) = sent_fills s _ j v (signalled (pushed v (s.slot_of j.slot))) g a (λ y. refl) refl refl refl
  move_fills g (posts s j v w free a r nf) = sent_fills s _ j v (pushed v (s.slot_of j.slot)) g a (λ y. refl) refl refl refl
  move_fills g (drops_it s j a) = fills_put k.slot _ s _ j.slot (signalled (sender_dropped (s.slot_of j.slot))) (λ y. refl) refl (λ p. omega arith)
  move_fills g (pauses_it s i c) =
      let l = s.slot_of i.key.slot in fills_put k.slot _ s _ i.key.slot (with_paused true (credited l)) (λ y. refl) refl (λ p. omega (arith, credited_less l))
  move_fills g (resumes s i c p) = fills_put k.slot _ s _ i.key.slot (signalled (with_paused false (s.slot_of i.key.slot))) (λ y. refl) refl (λ p. omega arith)
  move_fills g (resumes_not s i c p) = fills_none k.slot _ s
  move_fills g (closes_it s i c) =
      fills_put k.slot _ s _ i.key.slot (retired (s.slot_of i.key.slot)) (retire_lane_slot i.key.slot s _) (retire_lane_capacity _ _) (λ p. omega arith)
  move_fills g (polls_all s) = record { capacities = refl; at_most = omega arith }
  move_fills g (shuts_it s) = record { capacities = refl; at_most = omega arith }
  move_fills g (takes f r s y v q vs h e i) =
      let p = poll f s in
      let b = either f (leb 63 (p.slot_of y).burst) in
      let m = popped vs (unreleased_after_one p y) (if b 0 ((p.slot_of y).burst + 1)) (p.slot_of y) in
      fills_then k.slot _ s p _ (fills_quiet k.slot 0 s p (poll_quiet f s))
      (fills_put k.slot _ p (give_item p y q vs b) y m (give_item_slot p y q vs b) (give_item_capacity p y q vs b) (λ z. omega (arith, popped_occupied p y v vs i)))
  move_fills g (stops f r s u a h e q l n) = fills_quiet k.slot _ s u (trans (poll_quiet f s) q)
  move_fills g (halts s m b n j y q e h) = fills_quiet k.slot _ s _ (halts_quiet s)
  move_fills g (aims s i v vs c e) =
      let x = i.key.slot in
      let m = popped vs (unreleased_after_one s x) (s.slot_of x).burst (s.slot_of x) in
      let t = put x m s in
      let u = queue_lane_if (may_queue s x) x t in
      let b = queue_lane_room (may_queue s x) x t in
      let at_x : t.slot_of x ≡ m = rw (self x) in
      fills_put k.slot _ s u x (u.slot_of x) (λ y. queue_lane_slot (may_queue s x) x t y ∙ again_put x m s (u.slot_of x) y) b.2
      (λ p. omega (arith, popped_occupied s x v vs e, ap length (b.0 ∙ ap (λ (l : Slot). l.ring) at_x), b.1 ∙ ap (λ (l : Slot). l.unreleased) at_x))
  move_fills g (aims_none s i a c e h) = fills_quiet k.slot _ s _ (settle_empty_quiet i.key.slot (without i.key.slot s.queue) s e)

  -- ---- a run

  -- Lane k had F free places, and n sends to it were accepted since. Once its slot has another generation, it has another for good.
  record Room (F n : ℕ) (s : State) : Type 0 where
    low : k.slot < s.issued
    least : k.generation ≤ (s.slot_of k.slot).generation
    room : (s.slot_of k.slot).generation ≡ k.generation → F ≤ free_places s k.slot + n

  move_room : (F n : ℕ) {s u : State} {t : Tick} → Room F n s → Moves s t u → Room F (n + length (into k t)) u
  unfolding free_places
  move_room F n {s} {u} {t} h m =
      let g = move_grows m in
      let o = g.slots k.slot h.low in
      record {
        low = omega (arith, h.low, g.issues);
        least = omega (arith, h.least, o.gens);
        room = λ e.
            let c : (s.slot_of k.slot).generation ≡ k.generation = omega (arith, h.least, o.gens, e) in
            let f = move_fills c m in
            omega (arith, h.room c, f.capacities, f.at_most);
      }

  chain_room : (F n : ℕ) {s u : State} {ts : List Tick} → Chain s ts u → Room F n s → Room F (n + length (values (into k) ts)) u
  unfolding values
  chain_room F n (stay s) h = subst (λ (m : ℕ). Room F m s) (omega arith) h
  chain_room F n (move {w = w} {t = t} {ts = ts} m c) h =
      subst (λ (i : ℕ). Room F i w) (omega (arith, length-append (into k t) (values (into k) ts))) (chain_room F (n + length (into k t)) c (move_room F n h m))

  -- ---- a send, a registration

  -- a send that is accepted says the free places that it leaves
  said_room : (s u : State) (f : ℕ) → Ordered s → sender_lives s k ≡ true → u.issued ≡ s.issued → (u.slot_of k.slot).generation ≡ (s.slot_of k.slot).generation → free_places u k.slot ≡ f → Room f 0 u
  said_room s u f o a i g e =
      let p = sender_parts s k a in record { low = omega (arith, i, (o.each_slot k.slot).living_issued p.0); least = omega (arith, g, p.1); room = λ z. omega (arith, e) }

  -- a lane that is registered has all its places
  new_room : (u : State) (x g : ℕ) (l : Slot) → x ≡ k.slot → g ≡ k.generation → x < u.issued → u.slot_of x ≡ new_lane g l → Room u.capacity 0 u
  unfolding free_places
  new_room u x g l p q i at = record {
    low = omega (arith, p, i);
    least = omega (arith, q, ap (λ (y : ℕ). (u.slot_of y).generation) p, ap (λ (m : Slot). m.generation) at);
    room = λ z.
        omega (arith, ap (λ (y : ℕ). length (u.slot_of y).ring) p, ap (λ (m : Slot). length m.ring) at, ap (λ (y : ℕ). (u.slot_of y).unreleased) p, ap (λ (m : Slot). m.unreleased) at);
  }

  registered_room : (s : State) (most : ℕ) → Ordered s → (outcome s (Sender (RegisterSender most))).1.0 ≡ Registered k
      → Room s.capacity 0 (outcome s (Sender (RegisterSender most))).1.1
  unfolding outcome sender_outcome register_sender issue_slot count
  registered_room s most o =
      unless_law (λ r. r.1.0 ≡ Registered k → Room s.capacity 0 r.1.1) _ s _ (λ n e. let z : ◌≡◌ {A = ℕ} 0 1 = cc in absurd (omega arith)) (λ p. go (clear_slots s) refl)
    where
      go : (f : List ℕ) → clear_slots s ≡ f → (issue_slot f s).1.0 ≡ Registered k → Room s.capacity 0 (issue_slot f s).1.1
      go [] q e = new_room (issue_slot [] s).1.1 s.issued s.first_generation (s.slot_of s.issued) (cc) (cc) (omega arith) (rw (self s.issued))
      go (x ∷ f) q e =
          let below : x < s.issued = (o.each_slot x).free_issued (clear_slot s x f q).listed in
          new_room (issue_slot (x ∷ f) s).1.1 x ((s.slot_of x).generation + 1) (s.slot_of x) (cc) (cc) below (rw (self x))

  sent_room : (s : State) (first : Send) (w : Bool) (F : ℕ) → Ordered s → (outcome s (send_to k first)).1.0 ≡ Taken w F → Room F 0 (outcome s (send_to k first)).1.1
  unfolding send_to outcome sender_outcome try_send try_send_unsignaled
  sent_room s (ordinary v) w F o =
      unless_law (λ r. r.1.0 ≡ Taken w F → Room F 0 r.1.1) _ s _ (λ n e. let z : ◌≡◌ {A = ℕ} 0 1 = cc in absurd (omega arith))
      (λ p e. said_room s _ F o (not_false p.0) refl (rw (self k.slot)) cc)
  sent_room s (unsignalled v) w F o =
      unless_law (λ r. r.1.0 ≡ Taken w F → Room F 0 r.1.1) _ s _ (λ n e. let z : ◌≡◌ {A = ℕ} 0 1 = cc in absurd (omega arith))
      (λ p e. said_room s _ F o (not_false p.0) refl (rw (self k.slot)) cc)

  -- refusal 11 is the last of a send's three
  only_third : (a b c : Bool) (s u : State) (w : Bool) (f : ℕ) → Refused Full ≡ (unless ((a, NoSuchSender) ∷ (b, LaneClosed) ∷ (c, Full) ∷ []) s (says (Taken w f) u)).1.0 → (a ≡ false) × (c ≡ true)
  unfolding unless
  only_third true b c s u w f e = let z : ◌≡◌ {A = ℕ} 0 1 = cc in absurd (omega arith)
  only_third false true c s u w f e = let z : ◌≡◌ {A = ℕ} 0 1 = cc in absurd (omega arith)
  only_third false false true s u w f e = (refl, refl)
  only_third false false false s u w f e = let z : ◌≡◌ {A = ℕ} 0 1 = cc in absurd (omega arith)

  refused_full : (s : State) (last : Send) → Refused Full ≡ (outcome s (send_to k last)).1.0 → (sender_lives s k ≡ true) × (is_full s k.slot ≡ true)
  unfolding send_to outcome sender_outcome try_send try_send_unsignaled
  refused_full s (ordinary v) e = let p = only_third _ _ _ s _ _ _ e in (not_false p.0, p.1)
  refused_full s (unsignalled v) e = let p = only_third _ _ _ s _ _ _ e in (not_false p.0, p.1)

  full_room : (F n : ℕ) (s : State) (last : Send) → Room F n s → Refused Full ≡ (outcome s (send_to k last)).1.0 → F ≤ n
  unfolding free_places is_full
  full_room F n s last h e =
      let p = refused_full s last e in
      omega (arith, h.room (sender_parts s k p.0).1, leb-true s.capacity (occupied (s.slot_of k.slot)) p.1)

  none_handed : (s : State) (last : Send) → handed the_rules s (send_to k last) ≡ []
  unfolding handed send_to
  none_handed s (ordinary v) = refl
  none_handed s (unsignalled v) = refl

-- ---- the capacity

move_capacity : {s u : State} {t : Tick} → Moves s t u → u.capacity ≡ s.capacity
move_capacity {s} m = (move_fills (key_of s 0) refl m).capacities

chain_capacity : {s u : State} {ts : List Tick} → Chain s ts u → u.capacity ≡ s.capacity
chain_capacity (stay s) = refl
chain_capacity (move m c) = chain_capacity c ∙ move_capacity m

run_capacity : (o : Opening) (lent : Lent) (calls : List Call) → (after_list the_rules (opening_outcome o lent).1.1 calls).capacity ≡ next_power_of_two o.capacity
unfolding opened_state
run_capacity o lent calls = chain_capacity (trace_chain (opening_outcome o lent).1.1 calls) ∙ ap (λ (u : State). u.capacity) (opens_as o lent)

module _ (o : Opening) (lent : Lent) (d : (opening_outcome o lent).1.0 ≡ Done) (calls : List Call) (k : LaneKey) (last : Send) (before since rest : List Tick) where
  abbrev opened : State
  opened = (opening_outcome o lent).1.1

  -- from a call after which the lane has its places
  after_call : (c : Call) (a : Answer) (F : ℕ)
      → ((u : State) → Ordered u → u.capacity ≡ next_power_of_two o.capacity → (outcome u c).1.0 ≡ a → Room k F 0 (outcome u c).1.1)
      → trace the_rules opened calls ≡ before ++ (ends c a ∷ since ++ (ends (send_to k last) (Refused Full) ∷ rest)) → F ≤ length (values (into k) since)
  after_call c a F h e =
      let p = ends_at calls opened before (since ++ (ends (send_to k last) (Refused Full) ∷ rest)) c a e in
      let u = after_list the_rules opened p.made in
      let v = (outcome u c).1.1 in
      let q = ends_at p.left v since rest (send_to k last) (Refused Full) (sym p.goes_on) in
      let x = after_list the_rules v q.made in
      let ts = trace the_rules v q.made in
      let r = chain_room k F 0 (trace_chain v q.made) (h u (run_in_order o lent d p.made).ordered (run_capacity o lent p.made) (sym p.answered)) in
      let same : since ≡ ts = q.so_far ∙ ap (λ (l : List Tick). ts ++ l) (none_handed k x last) ∙ append-nil ts in
      omega (arith, full_room k F (0 + length (values (into k) ts)) x last r q.answered, ap (λ (l : List Tick). length (values (into k) l)) same)

  from : {F : ℕ} {t : Tick} → HasFree (next_power_of_two o.capacity) k F t
      → trace the_rules opened calls ≡ before ++ (t ∷ since ++ (ends (send_to k last) (Refused Full) ∷ rest)) → F ≤ length (values (into k) since)
  from (sent m w F) = after_call (send_to k m) (Taken w F) F (λ u i c. sent_room k u m w F i)
  from (registered most) =
      after_call (Sender (RegisterSender most)) (Registered k) _
      (λ u i c a. subst (λ (n : ℕ). Room k n 0 (outcome u (Sender (RegisterSender most))).1.1) c (registered_room k u most i a))

pub not_full_before : NotFullBefore the_rules
unfolding NotFullBefore NotFullBeforeIn
not_full_before o lent d calls all k F t h last before since rest = from o lent d calls k last before since rest h
