-- Held answers the number of items that, by the calls and their answers, unclosed lanes hold.
-- Assumes nothing.
use mathlib.Core.Path.{◌≡◌, refl, ap, sym, ◌∙◌}
use mathlib.Core.Bool.{Bool, true, false}
use mathlib.Core.Option.{some}
use mathlib.Core.List.{List, [], ◌∷◌, append-nil}
use Prim.Native.Nat.{ℕ, zero, suc, ◌+◌, ◌≤◌, ◌<◌}
use native.Mathlib.Omega.{arith}
use lib.ListN.{length, length-map}
use borrow.Author.Tests.{ne_eqb}
use lib.Dec.{eqb, leb}
use Rattle.model.specs.declared.LaneKey.{LaneKey}
use Rattle.model.specs.declared.Opening.{Opening}
use Rattle.model.specs.declared.ControlCall.TheVariants.{CountHeld}
use Rattle.model.specs.declared.Call.TheVariants.{Control}
use Rattle.model.specs.declared.Answer.TheVariants.{Held}
use Rattle.model.specs.Lists.{if, either, count, keep, from, without, total}
use Rattle.model.specs.State.{Slot, State, may_queue, items_held, key_of}
use Rattle.model.specs.Changes.{with_queue, with_free, with_issued, put, new_lane, signalled, pushed, sender_dropped, popped, with_paused, credited, retired}
use Rattle.model.specs.Turn.{retire_lane, unreleased_after_one, give_item}
use Rattle.model.specs.Runs.{accepted, Tick, handed, trace, after_list}
use Rattle.model.specs.Receive.{queue_lane_if}
use Rattle.model.specs.Control.{control_outcome, count_held}
use Rattle.model.specs.Opening.{opened_state, opening_outcome}
use Rattle.model.specs.Rules.{outcome, the_rules}
use Rattle.model.specs.Order.{Ordered}
use Rattle.model.specs.Ledger.{Lane, Ledger, at_opening, change_lane, remove_oldest, set_paused, set_closed, set_dropped, add_registered, apply_call, note, ledger_after}
use Rattle.model.specs.Held.{held_by, held_by_lanes, HeldAsCountedIn, HeldAsCounted}
use Rattle.demands.proofs.Counting.{Same, equal, other, same?, self}
use Rattle.demands.proofs.Totals.{sum_of, total_keep, sum_same, sum_but, sum_more}
use Rattle.demands.proofs.OrderKept.{front_registered}
use Rattle.demands.proofs.Quiet.{Quiet, stays, goes, Quietly, trans, poll, poll_quiet, poll_ordered, release_all_quiet, settle_empty_quiet}
use Rattle.demands.proofs.Moves.{Moves, stays_put, credits, registers_new, registers_old, sends, posts, drops_it, pauses_it, resumes, resumes_not, closes_it, polls_all, shuts_it, takes, stops, halts, aims, aims_none, Chain, stay, move, trace_chain}
use Rattle.demands.proofs.StopLaws.{halts_quiet}
use Rattle.demands.proofs.Opened.{opened_ordered}
use Rattle.demands.proofs.MovesKeepOrder.{has_lane_parts, unissued, move_ordered}
use Rattle.demands.proofs.Points.{ends_at}
use Rattle.demands.proofs.LedgerLaws.{alike, unlike, keys?, look, times, change_in, look_changed, times_changed, held_changed}
use Rattle.demands.proofs.Demand2.{sender_parts, queue_lane_slot, queue_lane_parts, give_item_slot, opens_as}
use Rattle.demands.proofs.LedgerAgrees.{Agrees, agrees_quiet, move_agrees, key_path, add_item_key, remove_oldest_key, set_dropped_key, set_paused_key, set_closed_key, retire_lane_slot, retire_lane_issued, give_item_issued, queue_lane_more, again_put}
use Rattle.demands.proofs.Grows.{Grows, grows_quiet, move_grows}
use Rattle.demands.proofs.Demand3.{opened_agrees}

-- what a slot adds to the items in the rings of registered lanes
unfoldable pub ring_count : Slot → ℕ
ring_count l = if l.registered (length l.ring) 0

pub items_held_sum : (s : State) → items_held s ≡ sum_of ring_count s
unfolding items_held ring_count
items_held_sum s = total_keep (λ x. length (s.slot_of x).ring) (λ x. (s.slot_of x).registered) (from 0 s.issued)

pub held_answer : (s : State) → (outcome s (Control CountHeld)).1.0 ≡ Held (items_held s)
unfolding outcome control_outcome count_held
held_answer s = refl

count_unregistered : (l : Slot) → l.registered ≡ false → ring_count l ≡ 0
unfolding ring_count
count_unregistered l e = rw e

pub count_alike : (l m : Slot) → m.registered ≡ l.registered → m.ring ≡ l.ring → ring_count m ≡ ring_count l
unfolding ring_count
count_alike l m r e = rw (r, e)

count_quiet : (l m : Slot) → Quiet l m → ring_count m ≡ ring_count l
unfolding ring_count
count_quiet l m (stays a) = rw (a.registers, a.rings)
count_quiet l m (goes e r g) = rw (r, e) (go l.registered)
  where
    go : (b : Bool) → ◌≡◌ {A = ℕ} 0 (if b 0 0)
    go true = refl
    go false = refl

pub held_alike : (s u : State) → u.issued ≡ s.issued → ((y : ℕ) → ring_count (u.slot_of y) ≡ ring_count (s.slot_of y)) → items_held u ≡ items_held s
held_alike s u i e = items_held_sum u ∙ sum_same ring_count s u i e ∙ sym (items_held_sum s)

pub held_quiet : (s u : State) → Quietly s u → items_held u ≡ items_held s
held_quiet s u q = held_alike s u q.issues (λ y. count_quiet _ _ (q.each y))

-- one slot changes
module _ (s u : State) (x : ℕ) (m : Slot) (at : (y : ℕ) → u.slot_of y ≡ if (eqb x y) m (s.slot_of y)) (i : u.issued ≡ s.issued) where
  count_at : (y : ℕ) → ring_count (u.slot_of y) ≡ if (eqb x y) (ring_count m) (ring_count (s.slot_of y))
  count_at y = ap ring_count (at y) ∙ go (eqb x y)
    where
      go : (b : Bool) → ring_count (if b m (s.slot_of y)) ≡ if b (ring_count m) (ring_count (s.slot_of y))
      go true = refl
      go false = refl

  pub held_put : x < s.issued → items_held u + ring_count (s.slot_of x) ≡ items_held s + ring_count m
  held_put h =
      let own : ring_count (u.slot_of x) ≡ ring_count m = count_at x ∙ rw (self x) in
      omega (arith, own, items_held_sum s, items_held_sum u, sum_but ring_count s u i x h (λ y d. count_at y ∙ rw (ne_eqb x y d)))

  pub held_put_alike : ring_count m ≡ ring_count (s.slot_of x) → items_held u ≡ items_held s
  held_put_alike e = held_alike s u i (λ y. count_at y ∙ go y (same? x y))
    where
      go : (y : ℕ) → Same x y → if (eqb x y) (ring_count m) (ring_count (s.slot_of y)) ≡ ring_count (s.slot_of y)
      go y (equal p b j) = rw b (e ∙ ap (λ (z : ℕ). ring_count (s.slot_of z)) p)
      go y (other d b j) = rw b

-- an entry of the ledger holds what the ring of its lane does
some_path : {a b : Lane} → some a ≡ some b → a ≡ b
some_path e = cc

entry_count : (L : Ledger) (s : State) (y : ℕ) (l : Lane) → Agrees L s → (s.slot_of y).registered ≡ true → look (key_of s y) L.lanes ≡ some l → held_by l ≡ ring_count (s.slot_of y)
unfolding held_by ring_count
entry_count L s y l h r e =
    let f = h.lane_of y r in
    let q : l ≡ f.entry = some_path (sym e ∙ f.looked) in
    ap held_by q ∙ rw (f.matches.unclosed, r) (sym (length-map f.entry.holds (λ v. v.value)) ∙ ap length f.matches.values_same)

-- a key stands once in the ledger; its slot is issued, and the slot's generation has reached the key's
pub record KeysOnce (L : Ledger) (s : State) : Type 0 where
  pub once : (k : LaneKey) → times k L.lanes ≤ 1
  pub known : (k : LaneKey) → 1 ≤ times k L.lanes → (k.slot < s.issued) × (k.generation ≤ (s.slot_of k.slot).generation)

keys_on : (L M : Ledger) {s u : State} → ((k : LaneKey) → times k M.lanes ≡ times k L.lanes) → Grows s u → KeysOnce L s → KeysOnce M u
keys_on L M e g h = record {
  once = λ k. omega (arith, e k, h.once k);
  known = λ k n. let p = h.known k (omega (arith, e k)) in (omega (arith, p.0, g.issues), omega (arith, p.1, (g.slots k.slot p.0).gens));
}

keys_same : (L M : Ledger) {s u : State} → M ≡ L → Grows s u → KeysOnce L s → KeysOnce M u
keys_same L M e = keys_on L M (λ k. ap (λ (N : Ledger). times k N.lanes) e)

keys_changed : (L : Ledger) (j : LaneKey) (f : Lane → Lane) {s u : State} → ((l : Lane) → (f l).key ≡ l.key) → Grows s u → KeysOnce L s → KeysOnce (change_lane j f L) u
unfolding change_lane
keys_changed L j f keeps = keys_on L (change_lane j f L) (λ k. times_changed j f keeps k L.lanes)

keys_new : (L M : Ledger) (s u : State) (n : Lane) → M.lanes ≡ n ∷ L.lanes → times n.key L.lanes ≡ 0 → n.key.slot < u.issued → n.key.generation ≤ (u.slot_of n.key.slot).generation → Grows s u → KeysOnce L s
    → KeysOnce M u
unfolding times
keys_new L M s u n e z i le g h = record {
  once = λ k. rw e (elim (keys? n.key k) [
    | alike p b ↦ rw b (omega (arith, ap (λ (j : LaneKey). times j L.lanes) p))
    | unlike d b ↦ rw b (omega (arith, h.once k))
  ]);
  known = λ k o. elim (keys? n.key k) [
    | alike p b ↦ (omega (arith, ap (λ (j : LaneKey). j.slot) p), omega (arith, ap (λ (j : LaneKey). j.generation) p, ap (λ (j : LaneKey). (u.slot_of j.slot).generation) p))
    | unlike d b ↦ (let c = h.known k (omega (arith, rw (e, b) at o)) in (omega (arith, c.0, g.issues), omega (arith, c.1, (g.slots k.slot c.0).gens)))
  ];
}

none_yet : (n : ℕ) → (1 ≤ n → ⊥) → n ≡ 0
none_yet zero h = refl
none_yet (suc n) h = absurd (h (omega arith))

record Tallied (L : Ledger) (s : State) : Type 0 where
  ord : Ordered s
  agrees : Agrees L s
  keys : KeysOnce L s
  sum : held_by_lanes L.lanes ≡ items_held s

-- one lane changes, and what it holds
module _ (L : Ledger) (s u : State) (j : LaneKey) (f : Lane → Lane) (keeps : (l : Lane) → (f l).key ≡ l.key) (m : Slot)
    (at : (y : ℕ) → u.slot_of y ≡ if (eqb j.slot y) m (s.slot_of y)) (r : (s.slot_of j.slot).registered ≡ true) (g : (s.slot_of j.slot).generation ≡ j.generation)
    (i : u.issued ≡ s.issued) (low : j.slot < s.issued) (h : Agrees L s) (k : KeysOnce L s) (e : held_by_lanes L.lanes ≡ items_held s) where
  own_look : look j L.lanes ≡ some (h.lane_of j.slot r).entry
  own_look = ap (λ (k : LaneKey). look k L.lanes) (key_path j (key_of s j.slot) refl (sym g)) ∙ (h.lane_of j.slot r).looked

  sum_entry : held_by (f (h.lane_of j.slot r).entry) ≡ ring_count m → held_by_lanes (change_lane j f L).lanes ≡ items_held u
  unfolding change_lane
  sum_entry w =
      let l = (h.lane_of j.slot r).entry in
      omega (arith, w, e, held_changed j f keeps L.lanes l own_look (k.once j), held_put s u j.slot m at i low, entry_count L s j.slot l h r (h.lane_of j.slot r).looked)

  -- the lane is registered after it, too
  sum_changed : m.registered ≡ true → m.generation ≡ j.generation → Agrees (change_lane j f L) u → held_by_lanes (change_lane j f L).lanes ≡ items_held u
  unfolding change_lane
  sum_changed mr mg a =
      let l = (h.lane_of j.slot r).entry in
      let o : u.slot_of j.slot ≡ m = at j.slot ∙ rw (self j.slot) in
      let q : key_of u j.slot ≡ j = key_path (key_of u j.slot) j refl (ap (λ (n : Slot). n.generation) o ∙ mg) in
      sum_entry
      (entry_count (change_lane j f L) u j.slot (f l) a (ap (λ (n : Slot). n.registered) o ∙ mr)
      (ap (λ (n : LaneKey). look n (change_lane j f L).lanes) q ∙ look_changed j f keeps L.lanes l own_look) ∙ ap ring_count o)

-- a change of the ledger that leaves what each lane holds
held_same : (j : LaneKey) (f : Lane → Lane) → ((l : Lane) → held_by (f l) ≡ held_by l) → (L : Ledger) → held_by_lanes (change_lane j f L).lanes ≡ held_by_lanes L.lanes
unfolding change_lane held_by_lanes
held_same j f e L = go L.lanes
  where
    go : (ls : List Lane) → held_by_lanes (change_in j f ls) ≡ held_by_lanes ls
    go [] = refl
    go (l ∷ ls) = elim (keys? l.key j) [
      | alike p b ↦ rw b (omega (arith, e l, go ls))
      | unlike d b ↦ rw b (omega (arith, go ls))
    ]

dropped_same : (l : Lane) → held_by (set_dropped l) ≡ held_by l
unfolding set_dropped held_by
dropped_same l = refl

paused_same : (b : Bool) (l : Lane) → held_by (set_paused b l) ≡ held_by l
unfolding set_paused held_by
paused_same b l = refl

closed_none : (l : Lane) → held_by (set_closed l) ≡ 0
unfolding set_closed held_by
closed_none l = refl

-- a registration adds an entry that holds nothing
new_sum : (ls : List Lane) (k : LaneKey) → held_by_lanes (record { key = k; holds = []; paused = false; closed = false; dropped = false } ∷ ls) ≡ held_by_lanes ls
unfolding held_by_lanes held_by
new_sum ls k = omega arith

new_count : (g : ℕ) (l : Slot) → ring_count (new_lane g l) ≡ 0
unfolding ring_count
new_count g l = refl

held_one_more : (s u : State) → u.issued ≡ suc s.issued → ((y : ℕ) → ring_count (u.slot_of y) ≡ ring_count (s.slot_of y)) → ring_count (s.slot_of s.issued) ≡ 0 → items_held u ≡ items_held s
held_one_more s u i e z = omega (arith, items_held_sum s, items_held_sum u, sum_more ring_count s u i e)

-- a lane newly registered holds nothing, in an unused slot and in a freed one
pub new_held : (s : State) → Ordered s → items_held (with_issued (suc s.issued) (put s.issued (new_lane s.first_generation (s.slot_of s.issued)) s)) ≡ items_held s
new_held s o =
    let z = count_unregistered (s.slot_of s.issued) (unissued s o) in
    held_one_more s _ refl (λ y. count_at s (put s.issued (new_lane s.first_generation (s.slot_of s.issued)) s) s.issued _ (λ y. refl) refl y ∙ go y (same? s.issued y) z) z
  where
    go : (y : ℕ) → Same s.issued y → ring_count (s.slot_of s.issued) ≡ 0 → if (eqb s.issued y) (ring_count (new_lane s.first_generation (s.slot_of s.issued))) (ring_count (s.slot_of y)) ≡ ring_count (s.slot_of y)
    go y (equal p b j) z = rw b (new_count _ (s.slot_of s.issued) ∙ sym z ∙ ap (λ (x : ℕ). ring_count (s.slot_of x)) p)
    go y (other d b j) z = rw b

pub new_held_freed : (s : State) (x : ℕ) → Ordered s → 1 ≤ count x s.free → items_held (with_free (without x s.free) (put x (new_lane ((s.slot_of x).generation + 1) (s.slot_of x)) s)) ≡ items_held s
new_held_freed s x o i =
    let z = count_unregistered (s.slot_of x) ((o.each_slot x).free_unregistered i) in
    held_put_alike s _ x (new_lane ((s.slot_of x).generation + 1) (s.slot_of x)) (λ y. refl) refl (new_count _ (s.slot_of x) ∙ sym z)

-- every move
pub move_keys : (L : Ledger) {s u : State} {t : Tick} → Ordered s → KeysOnce L s → Moves s t u → KeysOnce (note L t) u
unfolding note accepted apply_call add_registered
move_keys L o h (stays_put s c a n) = keys_same L _ (n.noted L) (move_grows (stays_put s c a n)) h
move_keys L o h (credits s c a n) = keys_same L _ (n.noted L) (move_grows (credits s c a n)) h
move_keys L o h (registers_new s m lt) =
    let k : LaneKey = record { slot = s.issued; generation = s.first_generation } in
    keys_new L _ s _ record { key = k; holds = []; paused = false; closed = false; dropped = false } refl
    (none_yet (times k L.lanes) (λ n. omega (arith, (h.known k n).0))) (omega arith) (rw (self s.issued) (omega arith)) (move_grows (registers_new s m lt)) h
move_keys L o h (registers_old s m x i l) =
    let k : LaneKey = record { slot = x; generation = (s.slot_of x).generation + 1 } in
    keys_new L _ s _ record { key = k; holds = []; paused = false; closed = false; dropped = false } refl
    (none_yet (times k L.lanes) (λ n. omega (arith, (h.known k n).1))) ((o.each_slot x).free_issued i) (rw (self x) (omega arith)) (move_grows (registers_old s m x i l)) h
move_keys L o h (sends s k v w free a r nf) = keys_changed L k _ (add_item_key record { value = v; ordinary = true }) (move_grows (sends s k v w free a r nf)) h
move_keys L o h (posts s k v w free a r nf) = keys_changed L k _ (add_item_key record { value = v; ordinary = false }) (move_grows (posts s k v w free a r nf)) h
move_keys L o h (drops_it s k a) = keys_changed L k _ set_dropped_key (move_grows (drops_it s k a)) h
move_keys L o h (pauses_it s i c) = keys_changed L i.key _ (set_paused_key true) (move_grows (pauses_it s i c)) h
move_keys L o h (resumes s i c p) = keys_changed L i.key _ (set_paused_key false) (move_grows (resumes s i c p)) h
move_keys L o h (resumes_not s i c p) = keys_changed L i.key _ (set_paused_key false) (move_grows (resumes_not s i c p)) h
move_keys L o h (closes_it s i c) = keys_changed L i.key _ set_closed_key (move_grows (closes_it s i c)) h
move_keys L o h (polls_all s) = keys_on L _ (λ k. refl) (move_grows (polls_all s)) h
move_keys L o h (shuts_it s) = keys_on L _ (λ k. refl) (move_grows (shuts_it s)) h
move_keys L o h (takes f r s y v q vs w e g) = keys_changed L _ _ remove_oldest_key (move_grows (takes f r s y v q vs w e g)) h
move_keys L o h (stops f r s u a w e q k n) = keys_same L _ (n L) (move_grows (stops f r s u a w e q k n)) h
move_keys L o h (halts s m b n j y q e w) = keys_same L _ (w.noted L) (move_grows (halts s m b n j y q e w)) h
move_keys L o h (aims s i v vs c g) = keys_changed L _ _ remove_oldest_key (move_grows (aims s i v vs c g)) h
move_keys L o h (aims_none s i a c g n) = keys_same L _ (n.noted L) (move_grows (aims_none s i a c g n)) h

noted_sum : (L M : Ledger) (s u : State) → M ≡ L → items_held u ≡ items_held s → held_by_lanes L.lanes ≡ items_held s → held_by_lanes M.lanes ≡ items_held u
noted_sum L M s u e h w = ap (λ (N : Ledger). held_by_lanes N.lanes) e ∙ w ∙ sym h

move_sum : (L : Ledger) {s u : State} {t : Tick} → Tallied L s → Moves s t u → held_by_lanes (note L t).lanes ≡ items_held u
unfolding note accepted apply_call add_registered
move_sum L h (stays_put s c a n) = noted_sum L _ s s (n.noted L) refl h.sum
move_sum L h (credits s c a n) = noted_sum L _ s _ (n.noted L) (held_quiet s _ (release_all_quiet s)) h.sum
move_sum L h (registers_new s m lt) = new_sum L.lanes _ ∙ h.sum ∙ sym (new_held s h.ord)
move_sum L h (registers_old s m x i l) = new_sum L.lanes _ ∙ h.sum ∙ sym (new_held_freed s x h.ord i)
move_sum L h (sends s k v w free a r nf) =
    let g = sender_parts s k a in
    sum_changed L s _ k _ (add_item_key record { value = v; ordinary = true }) (signalled (pushed v (s.slot_of k.slot))) (λ y. refl) r g.1 refl ((h.ord.each_slot k.slot).registered_issued r) h.agrees h.keys h.sum r g.1
    (move_agrees L h.ord h.agrees (sends s k v w free a r nf))
move_sum L h (posts s k v w free a r nf) =
    let g = sender_parts s k a in
    sum_changed L s _ k _ (add_item_key record { value = v; ordinary = false }) (pushed v (s.slot_of k.slot)) (λ y. refl) r g.1 refl ((h.ord.each_slot k.slot).registered_issued r) h.agrees h.keys h.sum r g.1
    (move_agrees L h.ord h.agrees (posts s k v w free a r nf))
move_sum L h (drops_it s k a) =
    held_same k set_dropped dropped_same L ∙ h.sum ∙ sym (held_put_alike s _ k.slot (signalled (sender_dropped (s.slot_of k.slot))) (λ y. refl) refl (count_alike (s.slot_of k.slot) _ refl refl))
move_sum L h (pauses_it s i c) =
    held_same i.key (set_paused true) (paused_same true) L ∙ h.sum ∙ sym (held_put_alike s _ i.key.slot (with_paused true (credited (s.slot_of i.key.slot))) (λ y. refl) refl (count_alike (s.slot_of i.key.slot) _ refl refl))
move_sum L h (resumes s i c p) =
    held_same i.key (set_paused false) (paused_same false) L ∙ h.sum ∙ sym (held_put_alike s _ i.key.slot (signalled (with_paused false (s.slot_of i.key.slot))) (λ y. refl) refl (count_alike (s.slot_of i.key.slot) _ refl refl))
move_sum L h (resumes_not s i c p) = held_same i.key (set_paused false) (paused_same false) L ∙ h.sum
move_sum L h (closes_it s i c) =
    let p = has_lane_parts s i.key c in
    sum_entry L s (retire_lane i.key.slot (with_queue (without i.key.slot s.queue) s)) i.key set_closed set_closed_key (retired (s.slot_of i.key.slot)) (λ y. retire_lane_slot i.key.slot s _ y) p.0 p.1 (retire_lane_issued _ _)
    ((h.ord.each_slot i.key.slot).registered_issued p.0) h.agrees h.keys h.sum (closed_none _ ∙ sym (count_unregistered (retired (s.slot_of i.key.slot)) refl))
move_sum L h (polls_all s) = h.sum ∙ sym (held_alike s _ refl (λ y. refl))
move_sum L h (shuts_it s) = h.sum ∙ sym (held_alike s _ refl (λ y. refl))
move_sum L h (takes f r s y v q vs w e g) =
    let p = poll f s in
    let back = either f (leb 63 (p.slot_of y).burst) in
    let m = popped vs (unreleased_after_one p y) (if back 0 ((p.slot_of y).burst + 1)) (p.slot_of y) in
    let po = poll_ordered f s h.ord in
    let reg = front_registered p y q e po in
    sum_changed L p (give_item p y q vs back) (key_of p y) remove_oldest remove_oldest_key m (give_item_slot p y q vs back) reg refl (give_item_issued p y q vs back) ((po.each_slot y).registered_issued reg)
    (agrees_quiet L s p (poll_quiet f s) h.agrees) (keys_on L L (λ k. refl) (grows_quiet s p (poll_quiet f s)) h.keys) (h.sum ∙ sym (held_quiet s p (poll_quiet f s))) reg refl
    (move_agrees L h.ord h.agrees (takes f r s y v q vs w e g))
move_sum L h (stops f r s u a w e q k n) = noted_sum L _ s u (n L) (held_quiet s u (trans (poll_quiet f s) q)) h.sum
move_sum L h (halts s m b n j y q e w) = noted_sum L _ s _ (w.noted L) (held_quiet s _ (halts_quiet s)) h.sum
move_sum L h (aims s i v vs c g) =
    let x = i.key.slot in
    let p = has_lane_parts s i.key c in
    let m = popped vs (unreleased_after_one s x) (s.slot_of x).burst (s.slot_of x) in
    let t = put x m s in
    let u = queue_lane_if (may_queue s x) x t in
    let b = queue_lane_parts (may_queue s x) x t in
    let at_x : t.slot_of x ≡ m = rw (self x) in
    sum_changed L s u (key_of s x) remove_oldest remove_oldest_key (u.slot_of x) (λ y. queue_lane_slot (may_queue s x) x t y ∙ again_put x m s (u.slot_of x) y) p.0 refl (queue_lane_more (may_queue s x) x t).3
    ((h.ord.each_slot x).registered_issued p.0) h.agrees h.keys h.sum (b.0 ∙ ap (λ (l : Slot). l.registered) at_x ∙ p.0) (b.1 ∙ ap (λ (l : Slot). l.generation) at_x)
    (move_agrees L h.ord h.agrees (aims s i v vs c g))
move_sum L h (aims_none s i a c g n) = noted_sum L _ s _ (n.noted L) (held_quiet s _ (settle_empty_quiet i.key.slot (without i.key.slot s.queue) s g)) h.sum

chain_tallied : (L : Ledger) {s u : State} {ts : List Tick} → Chain s ts u → Tallied L s → Tallied (ledger_after L ts) u
unfolding ledger_after
chain_tallied L (stay s) h = h
chain_tallied L (move {t = t} m c) h =
    chain_tallied (note L t) c record { ord = move_ordered h.ord m; agrees = move_agrees L h.ord h.agrees m; keys = move_keys L h.ord h.keys m; sum = move_sum L h m }

opened_tallied : (o : Opening) → Ordered (opened_state o) → Tallied at_opening (opened_state o)
unfolding at_opening opened_state held_by_lanes items_held keep from total times
opened_tallied o h = record { ord = h; agrees = opened_agrees o; keys = record { once = λ k. omega arith; known = λ k n. absurd (omega arith) }; sum = refl }

pub held_as_counted : HeldAsCounted the_rules
unfolding HeldAsCounted HeldAsCountedIn handed
held_as_counted o lent d calls t before rest a e =
    let s = (opening_outcome o lent).1.1 in
    let p = ends_at calls s before rest (Control CountHeld) a e in
    let h = chain_tallied at_opening (trace_chain s p.made) (rw (opens_as o lent) (opened_tallied o (opened_ordered o lent d))) in
    p.answered ∙ held_answer (after_list the_rules s p.made) ∙ ap Held (sym h.sum)
    ∙ ap (λ (ts : List Tick). Held (held_by_lanes (ledger_after at_opening ts).lanes)) (sym (p.so_far ∙ append-nil (trace the_rules s p.made)))
