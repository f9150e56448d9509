-- The ledger, made from calls and answers alone, says what the state holds.
-- Assumes nothing.
use mathlib.Core.Path.{◌≡◌, refl, ap, sym, ◌∙◌, subst}
use mathlib.Core.Logic.{◌≢◌, ◌⊎◌, inl, inr}
use mathlib.Core.Bool.{Bool, true, false, not}
use mathlib.Core.Option.{Option, none, some}
use mathlib.Core.List.{List, [], ◌∷◌, ◌++◌, map, tail}
use Prim.Native.Nat.{ℕ, ◌+◌, ◌≤◌}
use native.Mathlib.Omega.{arith}
use lib.ListN.{length}
use lib.Dec.{eqb, leb}
use borrow.Author.Tests.{ne_eqb}
use Rattle.model.specs.declared.LaneKey.{LaneKey}
use Rattle.model.specs.Lists.{if, both, either, without}
use Rattle.model.specs.State.{Slot, State, may_queue, key_of, has_lane}
use Rattle.model.specs.Changes.{with_queue, put, new_lane, signalled, pushed, sender_dropped, popped, with_paused, credited, retired}
use Rattle.model.specs.Turn.{retire_lane, settle_empty, unreleased_after_one, give_item}
use Rattle.model.specs.Runs.{same_key, accepted, Tick}
use Rattle.model.specs.Receive.{release_all, queue_lane_if, halted}
use Rattle.model.specs.Order.{Ordered}
use Rattle.model.specs.Ledger.{HeldItem, Lane, Ledger, change_lane, add_item, remove_oldest, set_paused, set_closed, set_dropped, add_registered, apply_call, note, any_ordinary, waits_in}
use Rattle.demands.proofs.Counting.{equal, other, same?, self, no}
use Rattle.demands.proofs.OrderKept.{front_registered}
use Rattle.demands.proofs.Quiet.{Still, Quiet, stays, goes, Quietly, trans, poll, poll_quiet, poll_ordered, release_all_quiet, settle_empty_quiet}
use Rattle.demands.proofs.Moves.{Moves, stays_put, credits, registers_new, registers_old, sends, posts, drops_it, pauses_it, resumes, resumes_not, closes_it, polls_all, shuts_it, takes, stops, halts, aims, aims_none}
use Rattle.demands.proofs.StopLaws.{halts_quiet}
use Rattle.demands.proofs.MovesKeepOrder.{has_lane_parts, has_lane_intro, unissued}
use Rattle.demands.proofs.LedgerLaws.{alike, unlike, keys?, look, look_changed, look_other}
use Rattle.demands.proofs.Demand2.{sender_parts, queue_lane_slot, queue_lane_parts, give_item_slot}

unfoldable pub seen : Option Lane → Bool
seen none = false
seen (some l) = both (not l.paused) (both (not l.closed) (any_ordinary l.holds))

pub waits_seen : (k : LaneKey) (ls : List Lane) → waits_in k ls ≡ seen (look k ls)
unfolding waits_in look seen
waits_seen k [] = refl
waits_seen k (l ∷ ls) = elim (keys? l.key k) [
  | alike p e ↦ rw e
  | unlike d e ↦ rw e (waits_seen k ls)
]

pub record Matches (l : Lane) (m : Slot) : Type 0 where
  pub values_same : map (λ v. v.value) l.holds ≡ m.ring
  pub signal : any_ordinary l.holds ≡ true → m.pending ≡ true
  pub pauses_same : l.paused ≡ m.paused
  pub unclosed : l.closed ≡ false
  pub senders : l.dropped ≡ not m.living

pub record LaneInLedger (L : Ledger) (s : State) (y : ℕ) : Type 0 where
  pub entry : Lane
  pub looked : look (key_of s y) L.lanes ≡ some entry
  pub matches : Matches entry (s.slot_of y)

pub record Agrees (L : Ledger) (s : State) : Type 0 where
  pub shut_same : L.receiver_closed ≡ not s.is_open
  pub issued_same : L.issued ≡ s.issued
  pub lane_of : (y : ℕ) → (s.slot_of y).registered ≡ true → LaneInLedger L s y
  pub is_current : (k : LaneKey) → waits_in k L.lanes ≡ true → has_lane s k ≡ true

-- what is held ordinarily is held
pub some_held : (h : List HeldItem) → any_ordinary h ≡ true → 1 ≤ length (map (λ v. v.value) h)
unfolding any_ordinary
some_held [] e = absurd (no e refl)
some_held (v ∷ h) e = omega arith

none_held : (h : List HeldItem) → map (λ v. v.value) h ≡ [] → any_ordinary h ≡ false
unfolding any_ordinary
none_held [] e = refl
none_held (v ∷ h) e = let z : ◌≡◌ {A = ℕ} 0 1 = cc in absurd (omega arith)

seen_false : (l : Lane) → any_ordinary l.holds ≡ false → seen (some l) ≡ false
unfolding seen
seen_false l e = rw e (go l.paused l.closed)
  where
    go : (a b : Bool) → both (not a) (both (not b) false) ≡ false
    go true b = refl
    go false true = refl
    go false false = refl

pub seen_closed : (l : Lane) → l.closed ≡ true → seen (some l) ≡ false
unfolding seen
seen_closed l e = rw e (go l.paused)
  where
    go : (a : Bool) → both (not a) false ≡ false
    go true = refl
    go false = refl

pub key_path : (i j : LaneKey) → i.slot ≡ j.slot → i.generation ≡ j.generation → i ≡ j
key_path i j p q = λ t. record { slot = p t; generation = q t }

match_at : {l : Lane} {m n : Slot} → n ≡ m → Matches l m → Matches l n
match_at {l} {m} {n} o h = subst (λ (x : Slot). Matches l x) (sym o) h

-- a change that moves no item
still_matches : {l : Lane} {m n : Slot} → Still m n → Matches l m → Matches l n
still_matches {l} a h = record {
  values_same = h.values_same ∙ sym a.rings;
  signal = λ e. a.signals (omega (arith, some_held l.holds e, ap length h.values_same)) (h.signal e);
  pauses_same = h.pauses_same ∙ sym a.pauses;
  unclosed = h.unclosed;
  senders = h.senders ∙ ap not (sym a.livings);
}

pub agrees_quiet : (L : Ledger) (s u : State) → Quietly s u → Agrees L s → Agrees L u
agrees_quiet L s u q h = record {
  shut_same = h.shut_same ∙ ap not (sym q.opens);
  issued_same = h.issued_same ∙ sym q.issues;
  lane_of = λ y r. lane y (q.each y) r;
  is_current = λ k e. cur k (q.each k.slot) e;
}
  where
    lane : (y : ℕ) → Quiet (s.slot_of y) (u.slot_of y) → (u.slot_of y).registered ≡ true → LaneInLedger L u y
    lane y (goes e n g) r = absurd (no r n)
    lane y (stays a) r =
        let f = h.lane_of y (sym a.registers ∙ r) in
        record { entry = f.entry; looked = ap (λ (i : LaneKey). look i L.lanes) (key_path (key_of u y) (key_of s y) refl a.generations) ∙ f.looked; matches = still_matches a f.matches }

    cur : (k : LaneKey) → Quiet (s.slot_of k.slot) (u.slot_of k.slot) → waits_in k L.lanes ≡ true → has_lane u k ≡ true
    cur k (stays a) e = let c = has_lane_parts s k (h.is_current k e) in has_lane_intro u k (a.registers ∙ c.0) (a.generations ∙ c.1)
    cur k (goes z n g) e =
        let c = has_lane_parts s k (h.is_current k e) in
        let f = h.lane_of k.slot c.0 in
        let at_k : look k L.lanes ≡ some f.entry = ap (λ (i : LaneKey). look i L.lanes) (key_path k (key_of s k.slot) refl (sym c.1)) ∙ f.looked in
        absurd (no (sym (waits_seen k L.lanes ∙ ap seen at_k) ∙ e) (seen_false f.entry (none_held f.entry.holds (f.matches.values_same ∙ z))))

-- one lane changes
module _ (L : Ledger) (s u : State) (j : LaneKey) (f : Lane → Lane) (keeps : (l : Lane) → (f l).key ≡ l.key) (m : Slot)
    (at : (y : ℕ) → u.slot_of y ≡ if (eqb j.slot y) m (s.slot_of y)) (r : (s.slot_of j.slot).registered ≡ true) (g : (s.slot_of j.slot).generation ≡ j.generation)
    (i : u.issued ≡ s.issued) (w : u.is_open ≡ s.is_open) (h : Agrees L s) where
  at_own : (y : ℕ) → j.slot ≡ y → u.slot_of y ≡ m
  at_own y p = at y ∙ rw (p, self y)

  at_other : (y : ℕ) → j.slot ≢ y → u.slot_of y ≡ s.slot_of y
  at_other y d = at y ∙ rw (ne_eqb j.slot y d)

  own_found : LaneInLedger L s j.slot
  own_found = h.lane_of j.slot r

  own_look : look j L.lanes ≡ some own_found.entry
  own_look = ap (λ (k : LaneKey). look k L.lanes) (key_path j (key_of s j.slot) refl (sym g)) ∙ own_found.looked

  changed_look : look j (change_lane j f L).lanes ≡ some (f own_found.entry)
  unfolding change_lane
  changed_look = look_changed j f keeps L.lanes own_found.entry own_look

  other_look : (k : LaneKey) → k ≢ j → look k (change_lane j f L).lanes ≡ look k L.lanes
  unfolding change_lane
  other_look k d = look_other j f keeps k d L.lanes

  other_lane : (y : ℕ) → j.slot ≢ y → (u.slot_of y).registered ≡ true → LaneInLedger (change_lane j f L) u y
  other_lane y d e =
      let o = at_other y d in
      let n = h.lane_of y (ap (λ (l : Slot). l.registered) (sym o) ∙ e) in
      record {
        entry = n.entry;
        looked = ap (λ (k : LaneKey). look k (change_lane j f L).lanes) (key_path (key_of u y) (key_of s y) refl (ap (λ (l : Slot). l.generation) o)) ∙ other_look (key_of s y) (λ p. d (sym (ap (λ (k : LaneKey). k.slot) p))) ∙ n.looked;
        matches = match_at o n.matches;
      }

  -- a key that is not j's, and waits, is registered as it was
  other_current : (k : LaneKey) → k ≢ j → waits_in k (change_lane j f L).lanes ≡ true → has_lane u k ≡ true
  other_current k d e =
      let c = h.is_current k (waits_seen k L.lanes ∙ ap seen (sym (other_look k d)) ∙ sym (waits_seen k (change_lane j f L).lanes) ∙ e) in
      let p = has_lane_parts s k c in
      let n : j.slot ≢ k.slot = λ q. d (key_path k j (sym q) (sym p.1 ∙ ap (λ (y : ℕ). (s.slot_of y).generation) (sym q) ∙ g)) in
      let o = at_other k.slot n in
      has_lane_intro u k (ap (λ (l : Slot). l.registered) o ∙ p.0) (ap (λ (l : Slot). l.generation) o ∙ p.1)

  same_shut : (change_lane j f L).receiver_closed ≡ not u.is_open
  unfolding change_lane
  same_shut = h.shut_same ∙ ap not (sym w)

  same_issued : (change_lane j f L).issued ≡ u.issued
  unfolding change_lane
  same_issued = h.issued_same ∙ sym i

  pub agrees_change : m.registered ≡ true → m.generation ≡ j.generation → ((l : Lane) → Matches l (s.slot_of j.slot) → Matches (f l) m) → Agrees (change_lane j f L) u
  agrees_change mr mg mm = record {
    shut_same = same_shut;
    issued_same = same_issued;
    lane_of = λ y e. elim (same? j.slot y) [
      | equal p b z ↦ record {
        entry = f own_found.entry;
        looked = ap (λ (k : LaneKey). look k (change_lane j f L).lanes) (key_path (key_of u y) j (sym p) (ap (λ (l : Slot). l.generation) (at_own y p) ∙ mg)) ∙ changed_look;
        matches = match_at (at_own y p) (mm own_found.entry own_found.matches);
      }
      | other d b z ↦ other_lane y d e
    ];
    is_current = λ k e. elim (keys? k j) [
      | alike p b ↦
          let o : u.slot_of k.slot ≡ m = at_own k.slot (sym (ap (λ (i : LaneKey). i.slot) p)) in
          has_lane_intro u k (ap (λ (l : Slot). l.registered) o ∙ mr) (ap (λ (l : Slot). l.generation) o ∙ mg ∙ sym (ap (λ (i : LaneKey). i.generation) p))
      | unlike d b ↦ other_current k d e
    ];
  }

  -- the lane is no longer registered, and no longer waits
  pub agrees_closed : m.registered ≡ false → ((l : Lane) → (f l).closed ≡ true) → Agrees (change_lane j f L) u
  agrees_closed mr mc = record {
    shut_same = same_shut;
    issued_same = same_issued;
    lane_of = λ y e. elim (same? j.slot y) [
      | equal p b z ↦ absurd (no e (ap (λ (l : Slot). l.registered) (at_own y p) ∙ mr))
      | other d b z ↦ other_lane y d e
    ];
    is_current = λ k e. elim (keys? k j) [
      | alike p b ↦ absurd (no (ap (λ (i : LaneKey). waits_in i (change_lane j f L).lanes) (sym p) ∙ e) (waits_seen j (change_lane j f L).lanes ∙ ap seen changed_look ∙ seen_closed (f own_found.entry) (mc own_found.entry)))
      | unlike d b ↦ other_current k d e
    ];
  }

-- a sender dropped of a lane that is closed: no lane's entry but its own changes, and it did not wait
module _ (L : Ledger) (s u : State) (j : LaneKey) (m : Slot) (at : (y : ℕ) → u.slot_of y ≡ if (eqb j.slot y) m (s.slot_of y)) (r : (s.slot_of j.slot).registered ≡ false) (mr : m.registered ≡ false)
    (i : u.issued ≡ s.issued) (w : u.is_open ≡ s.is_open) (h : Agrees L s) where
  keeps_key : (l : Lane) → (set_dropped l).key ≡ l.key
  unfolding set_dropped
  keeps_key l = refl

  seen_drops : (k : LaneKey) (ls : List Lane) → waits_in k (map (λ l. if (same_key l.key j) (set_dropped l) l) ls) ≡ waits_in k ls
  unfolding waits_in set_dropped
  seen_drops k [] = refl
  seen_drops k (l ∷ ls) = go (same_key l.key j) (seen_drops k ls)
    where
      go : (b : Bool) → waits_in k (map (λ l. if (same_key l.key j) (set_dropped l) l) ls) ≡ waits_in k ls
          → waits_in k (if b (set_dropped l) l ∷ map (λ l. if (same_key l.key j) (set_dropped l) l) ls) ≡ waits_in k (l ∷ ls)
      go true e = rw e
      go false e = rw e

  agrees_dropped : Agrees (change_lane j set_dropped L) u
  unfolding change_lane
  agrees_dropped = record {
    shut_same = h.shut_same ∙ ap not (sym w);
    issued_same = h.issued_same ∙ sym i;
    lane_of = λ y e. elim (same? j.slot y) [
      | equal p b z ↦ (let o : u.slot_of y ≡ m = at y ∙ rw b in absurd (no e (ap (λ (l : Slot). l.registered) o ∙ mr)))
      | other d b z ↦
          let o : u.slot_of y ≡ s.slot_of y = at y ∙ rw b in
          let n = h.lane_of y (ap (λ (l : Slot). l.registered) (sym o) ∙ e) in
          record {
            entry = n.entry;
            looked = ap (λ (k : LaneKey). look k (change_lane j set_dropped L).lanes) (key_path (key_of u y) (key_of s y) refl (ap (λ (l : Slot). l.generation) o)) ∙ look_other j set_dropped keeps_key (key_of s y) (λ p. d (sym (ap (λ (k : LaneKey). k.slot) p))) L.lanes ∙ n.looked;
            matches = match_at o n.matches;
          }
    ];
    is_current = λ k e.
        let p = has_lane_parts s k (h.is_current k (sym (seen_drops k L.lanes) ∙ e)) in
        elim (same? j.slot k.slot) [
          | equal q b z ↦ absurd (no (ap (λ (y : ℕ). (s.slot_of y).registered) q ∙ p.0) r)
          | other d b z ↦
              let o : u.slot_of k.slot ≡ s.slot_of k.slot = at k.slot ∙ rw b in
              has_lane_intro u k (ap (λ (l : Slot). l.registered) o ∙ p.0) (ap (λ (l : Slot). l.generation) o ∙ p.1)
        ];
  }

-- a new lane x, in a slot that had none
module _ (L M : Ledger) (s u : State) (j : LaneKey) (m : Slot) (at : (y : ℕ) → u.slot_of y ≡ if (eqb j.slot y) m (s.slot_of y)) (r : (s.slot_of j.slot).registered ≡ false)
    (mr : m.registered ≡ true) (mg : m.generation ≡ j.generation) (n : Lane) (nk : n.key ≡ j) (nm : Matches n m) (ml : M.lanes ≡ n ∷ L.lanes)
    (i : M.issued ≡ u.issued) (w : M.receiver_closed ≡ not u.is_open) (h : Agrees L s) where
  new_look : (k : LaneKey) → k ≢ j → look k M.lanes ≡ look k L.lanes
  unfolding look
  new_look k d = rw ml (elim (keys? n.key k) [ alike p e ↦ absurd (d (sym p ∙ nk)) | unlike q e ↦ rw e ])

  agrees_new : Agrees M u
  unfolding look
  agrees_new = record {
    shut_same = w;
    issued_same = i;
    lane_of = λ y e. elim (same? j.slot y) [
      | equal p b z ↦
          let o : u.slot_of y ≡ m = at y ∙ rw b in
          let q : key_of u y ≡ j = key_path (key_of u y) j (sym p) (ap (λ (l : Slot). l.generation) o ∙ mg) in
          record { entry = n; looked = ap (λ (k : LaneKey). look k M.lanes) q ∙ rw ml (elim (keys? n.key j) [ alike t c ↦ rw c | unlike d c ↦ absurd (d nk) ]); matches = match_at o nm }
      | other d b z ↦
          let o : u.slot_of y ≡ s.slot_of y = at y ∙ rw b in
          let f = h.lane_of y (ap (λ (l : Slot). l.registered) (sym o) ∙ e) in
          record {
            entry = f.entry;
            looked = ap (λ (k : LaneKey). look k M.lanes) (key_path (key_of u y) (key_of s y) refl (ap (λ (l : Slot). l.generation) o)) ∙ new_look (key_of s y) (λ p. d (sym (ap (λ (k : LaneKey). k.slot) p))) ∙ f.looked;
            matches = match_at o f.matches;
          }
    ];
    is_current = λ k e. elim (keys? k j) [
      | alike p b ↦
          let o : u.slot_of k.slot ≡ m = at k.slot ∙ rw (ap (λ (a : LaneKey). a.slot) p, self j.slot) in
          has_lane_intro u k (ap (λ (l : Slot). l.registered) o ∙ mr) (ap (λ (l : Slot). l.generation) o ∙ mg ∙ sym (ap (λ (a : LaneKey). a.generation) p))
      | unlike d b ↦
          let p = has_lane_parts s k (h.is_current k (waits_seen k L.lanes ∙ ap seen (sym (new_look k d)) ∙ sym (waits_seen k M.lanes) ∙ e)) in
          elim (same? j.slot k.slot) [
            | equal q c z ↦ absurd (no (ap (λ (y : ℕ). (s.slot_of y).registered) q ∙ p.0) r)
            | other q c z ↦
                let o : u.slot_of k.slot ≡ s.slot_of k.slot = at k.slot ∙ rw c in
                has_lane_intro u k (ap (λ (l : Slot). l.registered) o ∙ p.0) (ap (λ (l : Slot). l.generation) o ∙ p.1)
          ]
    ];
  }

-- what each change does to a lane's entry
remove_oldest_matches : (l : Lane) (m n : Slot) (v : ℕ) (vs : List ℕ) → m.ring ≡ v ∷ vs → n.ring ≡ vs → n.pending ≡ m.pending → n.paused ≡ m.paused → n.living ≡ m.living → Matches l m → Matches (remove_oldest l) n
unfolding remove_oldest any_ordinary
remove_oldest_matches l m n v vs e f p q w h = record {
  values_same = go l.holds (h.values_same ∙ e) ∙ sym f;
  signal = λ a. p ∙ h.signal (wider l.holds a);
  pauses_same = h.pauses_same ∙ sym q;
  unclosed = h.unclosed;
  senders = h.senders ∙ ap not (sym w);
}
  where
    go : (i : List HeldItem) → map (λ x. x.value) i ≡ v ∷ vs → map (λ x. x.value) (tail i) ≡ vs
    go [] e = let z : ◌≡◌ {A = ℕ} 0 1 = cc in absurd (omega arith)
    go (x ∷ i) e = cc

    wider : (i : List HeldItem) → any_ordinary (tail i) ≡ true → any_ordinary i ≡ true
    wider [] a = absurd (no a refl)
    wider (x ∷ i) a = rw a (pick x.ordinary)
      where
        pick : (b : Bool) → if b true true ≡ true
        pick true = refl
        pick false = refl

split : (v : ℕ) (o : Bool) (i : List HeldItem) → any_ordinary (i ++ (record { value = v; ordinary = o } ∷ [])) ≡ true → (any_ordinary i ≡ true) ⊎ (o ≡ true)
unfolding any_ordinary
split v o [] a = go o a
  where
    go : (b : Bool) → if b true false ≡ true → (false ≡ true) ⊎ (b ≡ true)
    go true e = inr refl
    go false e = inl e
split v o (x ∷ i) a = go x.ordinary a (split v o i)
  where
    go : (b : Bool) → if b true (any_ordinary (i ++ (record { value = v; ordinary = o } ∷ []))) ≡ true → (any_ordinary (i ++ (record { value = v; ordinary = o } ∷ [])) ≡ true → (any_ordinary i ≡ true) ⊎ (o ≡ true))
        → (if b true (any_ordinary i) ≡ true) ⊎ (o ≡ true)
    go true e ih = inl refl
    go false e ih = ih e

add_item_matches : (l : Lane) (m n : Slot) (v : ℕ) (o : Bool) → n.ring ≡ m.ring ++ (v ∷ []) → (o ≡ true → n.pending ≡ true) → (m.pending ≡ true → n.pending ≡ true) → n.paused ≡ m.paused → n.living ≡ m.living
    → Matches l m → Matches (add_item record { value = v; ordinary = o } l) n
unfolding add_item
add_item_matches l m n v o e g p q w h = record {
  values_same = more l.holds ∙ ap (λ (r : List ℕ). r ++ (v ∷ [])) h.values_same ∙ sym e;
  signal = λ a. pick (split v o l.holds a);
  pauses_same = h.pauses_same ∙ sym q;
  unclosed = h.unclosed;
  senders = h.senders ∙ ap not (sym w);
}
  where
    more : (i : List HeldItem) → map (λ x. x.value) (i ++ (record { value = v; ordinary = o } ∷ [])) ≡ map (λ x. x.value) i ++ (v ∷ [])
    more [] = refl
    more (x ∷ i) = ap (λ (r : List ℕ). x.value ∷ r) (more i)

    pick : (any_ordinary l.holds ≡ true) ⊎ (o ≡ true) → n.pending ≡ true
    pick (inl a) = p (h.signal a)
    pick (inr a) = g a

set_dropped_matches : (l : Lane) (m : Slot) → Matches l m → Matches (set_dropped l) (signalled (sender_dropped m))
unfolding set_dropped
set_dropped_matches l m h = record { values_same = h.values_same; signal = λ a. refl; pauses_same = h.pauses_same; unclosed = h.unclosed; senders = refl }

set_paused_matches : (b : Bool) (l : Lane) (m n : Slot) → n.ring ≡ m.ring → n.paused ≡ b → n.living ≡ m.living → (m.pending ≡ true → n.pending ≡ true) → Matches l m → Matches (set_paused b l) n
unfolding set_paused
set_paused_matches b l m n r p w g h = record { values_same = h.values_same ∙ sym r; signal = λ a. g (h.signal a); pauses_same = sym p; unclosed = h.unclosed; senders = h.senders ∙ ap not (sym w) }

pub add_item_key : (v : HeldItem) (l : Lane) → (add_item v l).key ≡ l.key
unfolding add_item
add_item_key v l = refl

pub remove_oldest_key : (l : Lane) → (remove_oldest l).key ≡ l.key
unfolding remove_oldest
remove_oldest_key l = refl

pub set_dropped_key : (l : Lane) → (set_dropped l).key ≡ l.key
unfolding set_dropped
set_dropped_key l = refl

pub set_paused_key : (b : Bool) (l : Lane) → (set_paused b l).key ≡ l.key
unfolding set_paused
set_paused_key b l = refl

pub set_closed_key : (l : Lane) → (set_closed l).key ≡ l.key
unfolding set_closed
set_closed_key l = refl

set_closed_closed : (l : Lane) → (set_closed l).closed ≡ true
unfolding set_closed
set_closed_closed l = refl

same_slot : (s : State) (x y : ℕ) → s.slot_of y ≡ if (eqb x y) (s.slot_of x) (s.slot_of y)
same_slot s x y = elim (same? x y) [ equal p e i ↦ rw (e, p) | other d e i ↦ rw e ]

pub retire_lane_slot : (x : ℕ) (s : State) (q : List ℕ) (y : ℕ) → (retire_lane x (with_queue q s)).slot_of y ≡ if (eqb x y) (retired (s.slot_of x)) (s.slot_of y)
unfolding retire_lane
retire_lane_slot x s q y = refl

pub retire_lane_issued : (x : ℕ) (s : State) → (retire_lane x s).issued ≡ s.issued
unfolding retire_lane
retire_lane_issued x s = refl

retire_lane_open : (x : ℕ) (s : State) → (retire_lane x s).is_open ≡ s.is_open
unfolding retire_lane
retire_lane_open x s = refl

pub give_item_issued : (p : State) (y : ℕ) (q vs : List ℕ) (back : Bool) → (give_item p y q vs back).issued ≡ p.issued
unfolding give_item
give_item_issued p y q vs back = refl

give_item_open : (p : State) (y : ℕ) (q vs : List ℕ) (back : Bool) → (give_item p y q vs back).is_open ≡ p.is_open
unfolding give_item
give_item_open p y q vs back = refl

pub queue_lane_more : (b : Bool) (x : ℕ) (s : State)
    → ((s.slot_of x).pending ≡ true → ((queue_lane_if b x s).slot_of x).pending ≡ true) × (((queue_lane_if b x s).slot_of x).paused ≡ (s.slot_of x).paused) × (((queue_lane_if b x s).slot_of x).living ≡ (s.slot_of x).living)
    × ((queue_lane_if b x s).issued ≡ s.issued) × ((queue_lane_if b x s).is_open ≡ s.is_open)
unfolding queue_lane_if
queue_lane_more true x s = (λ e. rw (self x), rw (self x), rw (self x), refl, refl)
queue_lane_more false x s = (λ e. e, refl, refl, refl, refl)

pub again_put : (x : ℕ) (m : Slot) (s : State) (l : Slot) (y : ℕ) → if (eqb x y) l ((put x m s).slot_of y) ≡ if (eqb x y) l (s.slot_of y)
again_put x m s l y = elim (same? x y) [ equal p e i ↦ rw e | other d e i ↦ rw e ]

still_matches_more : {l : Lane} {m t n : Slot} → (t.pending ≡ true → n.pending ≡ true) → Matches l m → t ≡ m → n.ring ≡ t.ring → n.paused ≡ t.paused → n.living ≡ t.living → Matches l n
still_matches_more g h e r p w = record {
  values_same = h.values_same ∙ sym (r ∙ ap (λ (l : Slot). l.ring) e);
  signal = λ a. g (ap (λ (l : Slot). l.pending) e ∙ h.signal a);
  pauses_same = h.pauses_same ∙ sym (p ∙ ap (λ (l : Slot). l.paused) e);
  unclosed = h.unclosed;
  senders = h.senders ∙ ap not (sym (w ∙ ap (λ (l : Slot). l.living) e));
}

-- every move
pub move_agrees : (L : Ledger) {s u : State} {t : Tick} → Ordered s → Agrees L s → Moves s t u → Agrees (note L t) u
unfolding note accepted apply_call add_registered
move_agrees L o h (stays_put s c a n) = subst (λ (M : Ledger). Agrees M s) (sym (n.noted L)) h
move_agrees L o h (credits s c a n) = subst (λ (M : Ledger). Agrees M (release_all s)) (sym (n.noted L)) (agrees_quiet L s _ (release_all_quiet s) h)
move_agrees L o h (registers_new s m lt) =
    agrees_new L _ s _ record { slot = s.issued; generation = s.first_generation } (new_lane s.first_generation (s.slot_of s.issued)) (λ y. refl) (unissued s o) refl refl
    record { key = record { slot = s.issued; generation = s.first_generation }; holds = []; paused = false; closed = false; dropped = false } refl
    record { values_same = refl; signal = λ a. absurd (no a (none_held [] refl)); pauses_same = refl; unclosed = refl; senders = refl } refl
    (omega (arith, h.issued_same)) h.shut_same h
move_agrees L o h (registers_old s m x i l) =
    agrees_new L _ s _ record { slot = x; generation = (s.slot_of x).generation + 1 } (new_lane ((s.slot_of x).generation + 1) (s.slot_of x)) (λ y. refl) ((o.each_slot x).free_unregistered i) refl refl
    record { key = record { slot = x; generation = (s.slot_of x).generation + 1 }; holds = []; paused = false; closed = false; dropped = false } refl
    record { values_same = refl; signal = λ a. absurd (no a (none_held [] refl)); pauses_same = refl; unclosed = refl; senders = refl } refl
    (omega (arith, h.issued_same, (o.each_slot x).free_issued i)) h.shut_same h
move_agrees L o h (sends s k v w free a r nf) =
    let g = sender_parts s k a in
    agrees_change L s _ k (add_item record { value = v; ordinary = true }) (add_item_key record { value = v; ordinary = true }) (signalled (pushed v (s.slot_of k.slot))) (λ y. refl) r g.1 refl refl h r g.1
    (λ l. add_item_matches l (s.slot_of k.slot) (signalled (pushed v (s.slot_of k.slot))) v true refl (λ e. refl) (λ e. refl) refl refl)
move_agrees L o h (posts s k v w free a r nf) =
    let g = sender_parts s k a in
    agrees_change L s _ k (add_item record { value = v; ordinary = false }) (add_item_key record { value = v; ordinary = false }) (pushed v (s.slot_of k.slot)) (λ y. refl) r g.1 refl refl h r g.1
    (λ l. add_item_matches l (s.slot_of k.slot) (pushed v (s.slot_of k.slot)) v false refl (λ e. absurd (no e refl)) (λ e. e) refl refl)
move_agrees L o h (drops_it s k a) = go (s.slot_of k.slot).registered refl (sender_parts s k a)
  where
    go : (b : Bool) → (s.slot_of k.slot).registered ≡ b → ((s.slot_of k.slot).living ≡ true) × ((s.slot_of k.slot).generation ≡ k.generation) → Agrees (change_lane k set_dropped L) (put k.slot (signalled (sender_dropped (s.slot_of k.slot))) s)
    go true r g = agrees_change L s _ k set_dropped set_dropped_key (signalled (sender_dropped (s.slot_of k.slot))) (λ y. refl) r g.1 refl refl h r g.1 (λ l. set_dropped_matches l (s.slot_of k.slot))
    go false r g = agrees_dropped L s _ k (signalled (sender_dropped (s.slot_of k.slot))) (λ y. refl) r r refl refl h
move_agrees L o h (pauses_it s i c) =
    let p = has_lane_parts s i.key c in
    agrees_change L s _ i.key (set_paused true) (set_paused_key true) (with_paused true (credited (s.slot_of i.key.slot))) (λ y. refl) p.0 p.1 refl refl h p.0 p.1
    (λ l. set_paused_matches true l (s.slot_of i.key.slot) (with_paused true (credited (s.slot_of i.key.slot))) refl refl refl (λ e. e))
move_agrees L o h (resumes s i c q) =
    let p = has_lane_parts s i.key c in
    agrees_change L s _ i.key (set_paused false) (set_paused_key false) (signalled (with_paused false (s.slot_of i.key.slot))) (λ y. refl) p.0 p.1 refl refl h p.0 p.1
    (λ l. set_paused_matches false l (s.slot_of i.key.slot) (signalled (with_paused false (s.slot_of i.key.slot))) refl refl refl (λ e. refl))
move_agrees L o h (resumes_not s i c q) =
    let p = has_lane_parts s i.key c in
    agrees_change L s s i.key (set_paused false) (set_paused_key false) (s.slot_of i.key.slot) (λ y. same_slot s i.key.slot y) p.0 p.1 refl refl h p.0 p.1
    (λ l. set_paused_matches false l (s.slot_of i.key.slot) (s.slot_of i.key.slot) refl q refl (λ e. e))
move_agrees L o h (closes_it s i c) =
    let p = has_lane_parts s i.key c in
    agrees_closed L s (retire_lane i.key.slot (with_queue (without i.key.slot s.queue) s)) i.key set_closed set_closed_key (retired (s.slot_of i.key.slot)) (λ y. retire_lane_slot i.key.slot s _ y) p.0 p.1 (retire_lane_issued _ _) (retire_lane_open _ _) h refl (λ l. set_closed_closed l)
move_agrees L o h (polls_all s) = record { shut_same = h.shut_same; issued_same = h.issued_same; lane_of = λ y e. let f = h.lane_of y e in record { entry = f.entry; looked = f.looked; matches = f.matches }; is_current = λ k e. let p = has_lane_parts s k (h.is_current k e) in has_lane_intro _ k p.0 p.1 }
move_agrees L o h (shuts_it s) = record { shut_same = refl; issued_same = h.issued_same; lane_of = λ y e. let f = h.lane_of y e in record { entry = f.entry; looked = f.looked; matches = f.matches }; is_current = λ k e. let p = has_lane_parts s k (h.is_current k e) in has_lane_intro _ k p.0 p.1 }
move_agrees L o h (takes f r s y v q vs w e g) =
    let p = poll f s in
    let back = either f (leb 63 (p.slot_of y).burst) in
    let m = popped vs (unreleased_after_one p y) (if back 0 ((p.slot_of y).burst + 1)) (p.slot_of y) in
    let reg = front_registered p y q e (poll_ordered f s o) in
    agrees_change L p (give_item p y q vs back) (key_of p y) remove_oldest remove_oldest_key m (give_item_slot p y q vs back) reg refl (give_item_issued p y q vs back) (give_item_open p y q vs back) (agrees_quiet L s p (poll_quiet f s) h) reg refl
    (λ l. remove_oldest_matches l (p.slot_of y) m v vs g refl refl refl refl)
move_agrees L o h (stops f r s u a w e q k n) = subst (λ (M : Ledger). Agrees M u) (sym (n L)) (agrees_quiet L s u (trans (poll_quiet f s) q) h)
move_agrees L o h (halts s m b n j y q e w) = subst (λ (M : Ledger). Agrees M (release_all (halted (poll false s)))) (sym (w.noted L)) (agrees_quiet L s _ (halts_quiet s) h)
move_agrees L o h (aims s i v vs c g) =
    let x = i.key.slot in
    let p = has_lane_parts s i.key c in
    let m = popped vs (unreleased_after_one s x) (s.slot_of x).burst (s.slot_of x) in
    let t = put x m s in
    let u = queue_lane_if (may_queue s x) x t in
    let b = queue_lane_parts (may_queue s x) x t in
    let at_x : t.slot_of x ≡ m = rw (self x) in
    let d = queue_lane_more (may_queue s x) x t in
    agrees_change L s u (key_of s x) remove_oldest remove_oldest_key (u.slot_of x) (λ y. queue_lane_slot (may_queue s x) x t y ∙ again_put x m s (u.slot_of x) y) p.0 refl d.3 d.4 h
    (b.0 ∙ ap (λ (l : Slot). l.registered) at_x ∙ p.0) (b.1 ∙ ap (λ (l : Slot). l.generation) at_x)
    (λ l n. still_matches_more d.0 (remove_oldest_matches l (s.slot_of x) m v vs g refl refl refl refl n) at_x b.2 d.1 d.2)
move_agrees L o h (aims_none s i a c g n) = subst (λ (M : Ledger). Agrees M (settle_empty i.key.slot (without i.key.slot s.queue) s)) (sym (n.noted L)) (agrees_quiet L s _ (settle_empty_quiet i.key.slot (without i.key.slot s.queue) s g) h)
