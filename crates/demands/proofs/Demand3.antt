-- Demand 3 holds of the rules, at any point of any run from an accepted opening.
-- Assumes nothing.
use mathlib.Core.Path.{◌≡◌, refl, ap, sym, ◌∙◌}
use mathlib.Core.Bool.{Bool, true, false, not}
use mathlib.Core.Option.{some}
use mathlib.Core.List.{List, [], ◌∷◌, ◌++◌}
use Prim.Native.Nat.{ℕ, ◌+◌, ◌*◌, ◌-◌, ◌≤◌}
use native.Mathlib.Omega.{arith}
use lib.ListN.{length}
use Rattle.model.specs.declared.LaneKey.{LaneKey}
use Rattle.model.specs.declared.Opening.{Opening}
use Rattle.model.specs.declared.Call.{Call}
use Rattle.model.specs.declared.Answer.TheVariants.{Done}
-- not used here: so the computed run that meets the bound is checked first
use Rattle.model.specs.Lists.{if, both}
use Rattle.model.specs.State.{State, vacant, key_of}
use Rattle.model.specs.Ready.{groups_in}
use Rattle.model.specs.Runs.{Lent, Tick, trace, after_list, of_lane, count_ticks, Rules, RunsOf}
use Rattle.model.specs.Opening.{opened_state, opening_outcome}
use Rattle.model.specs.Rules.{the_rules}
use Rattle.model.specs.Order.{Ordered}
use Rattle.model.specs.Ledger.{Lane, Ledger, at_opening, note, ledger_after, any_ordinary, waits_in, waits}
use Rattle.model.specs.Stretch.{ends_stretch, stretch, looks, looks_in_vain, untargeted, of_other_lane, untargeted_of_other, not_fair, most_live, groups_at}
use Rattle.model.specs.Demand3.{bound, Promise, Demand3In, Demand3, Demand3UnstoppedIn}
use Rattle.demands.proofs.Counting.{no, both_true, both_3, not_true}
use Rattle.demands.proofs.Quiet.{Hold, poll}
use Rattle.demands.proofs.WaitInReceive.{Wait, On, Polled, polled_to, poll_on, wait_start}
use Rattle.demands.proofs.Moves.{Moves, stays_put, credits, registers_new, registers_old, sends, posts, drops_it, pauses_it, resumes, resumes_not, closes_it, polls_all, shuts_it, takes, stops, halts, aims, aims_none, Chain, stay, move, trace_chain}
use Rattle.demands.proofs.Opened.{opened_ordered}
use Rattle.demands.proofs.MovesKeepOrder.{has_lane_parts, move_ordered}
use Rattle.demands.proofs.LedgerLaws.{look}
use Rattle.demands.proofs.StretchBounds.{Under, under_most, under_passes, groups_up}
use Rattle.demands.proofs.Demand2.{opens_as}
use Rattle.demands.proofs.LedgerAgrees.{seen, waits_seen, Agrees, move_agrees, some_held, key_path}
use Rattle.demands.proofs.LiveCount.{agrees_few}
use Rattle.demands.proofs.WaitInMoves.{move_on}
use Rattle.demands.proofs.FairOnce.{Once, fresh, fair_in_turn, move_once}

-- what a move keeps, every point has
module _ (I : Ledger → State → Type 0) (keeps : (L : Ledger) (s u : State) (t : Tick) → I L s → Moves s t u → I (note L t) u) where
  pub at_point : (L : Ledger) (s e : State) (before rest : List Tick) → I L s → Chain s (before ++ rest) e → (u : State) × I (ledger_after L before) u × Chain u rest e
  unfolding ledger_after
  at_point L s e [] rest i r = (s, i, r)
  at_point L s e (t ∷ before) rest i (move {u = u} m r) = at_point (note L t) u e before rest (keeps L s u t i m) r

-- a potential that falls by the number of ticks that pass a test bounds their number in the stretch
module _ (K : LaneKey) (p : Tick → Bool) (Given : Ledger → List Tick → Type 0) (Pot : ℕ → Ledger → State → Type 0)
    (passes : (L : Ledger) (t : Tick) (st : List Tick) → Given L (t ∷ st) → Given (note L t) st)
    (falls : (k : ℕ) (L : Ledger) (s u : State) (t : Tick) (st : List Tick) → Pot k L s → Moves s t u → ends_stretch K t ≡ false → Given L (t ∷ st)
    → (j : ℕ) × (if (p t) 1 0 + j ≤ k) × Pot j (note L t) u) where
  bounded_by : (k : ℕ) (L : Ledger) (s e : State) (ts : List Tick) → Pot k L s → Chain s ts e → Given L (stretch K ts) → count_ticks p (stretch K ts) ≤ k
  unfolding count_ticks stretch
  bounded_by k L s e [] q (stay u) z = omega arith
  bounded_by k L s e (t ∷ ts) q (move {u = u} m r) z = go (ends_stretch K t) refl z (λ j w. bounded_by j (note L t) u e ts w r)
    where
      go : (b : Bool) → ends_stretch K t ≡ b → Given L (if b [] (t ∷ stretch K ts))
          → ((j : ℕ) → Pot j (note L t) u → Given (note L t) (stretch K ts) → count_ticks p (stretch K ts) ≤ j) → count_ticks p (if b [] (t ∷ stretch K ts)) ≤ k
      go true e z ih = omega arith
      go false e z ih = let f = falls k L s u t (stretch K ts) q m e z in omega (arith, f.1, ih f.0 f.2 (passes L t (stretch K ts) z))

-- while the lane with key K waits
record Waits (E R : ℕ) (K : LaneKey) (k : ℕ) (L : Ledger) (s : State) : Type 0 where
  ord : Ordered s
  agrees : Agrees L s
  hold : Hold K.slot K.generation s
  wait : Wait E R K.slot k s

record Bounds (E R : ℕ) (L : Ledger) (st : List Tick) : Type 0 where
  under : Under R L st
  in_groups : groups_at (ledger_after L st) ≤ E

passes_on : (E R : ℕ) (L : Ledger) (t : Tick) (st : List Tick) → Bounds E R L (t ∷ st) → Bounds E R (note L t) st
unfolding ledger_after
passes_on E R L t st b = record { under = under_passes R L t st b.under; in_groups = b.in_groups }

group_same : (L : Ledger) (s : State) → Agrees L s → groups_in s.issued ≡ groups_at L
unfolding groups_at
group_same L s a = rw a.issued_same

on : {E R : ℕ} {K : LaneKey} {k : ℕ} {L : Ledger} {s : State} (st : List Tick) → Bounds E R L st → Waits E R K k L s → On E R K.slot K.generation k s
on {E} {R} {K} {k} {L} {s} st b w = record {
  ord = w.ord;
  hold = w.hold;
  few_live = agrees_few R L s w.agrees b.under.now_live;
  wide = omega (arith, group_same L s w.agrees, groups_up L st, b.in_groups);
  wait = w.wait;
}

falls_waits : (E R : ℕ) (K : LaneKey) (k : ℕ) (L : Ledger) (s u : State) (t : Tick) (st : List Tick) → Waits E R K k L s → Moves s t u → ends_stretch K t ≡ false → Bounds E R L (t ∷ st)
    → (j : ℕ) × (if (untargeted t) 1 0 + j ≤ k) × Waits E R K j (note L t) u
falls_waits E R K k L s u t st w m f b =
    let a = move_agrees L w.ord w.agrees m in
    let n = agrees_few R (note L t) u a (passes_on E R L t st b).under.now_live in
    let o = move_on E R K k (on (t ∷ st) b w) n m f in
    (o.rest, o.pays, record { ord = move_ordered w.ord m; agrees = a; hold = o.hold; wait = o.wait })

-- nothing says Empty
move_sees : {E R : ℕ} {K : LaneKey} {k : ℕ} {s u : State} {t : Tick} → On E R K.slot K.generation k s → Moves s t u → looks_in_vain t ≡ false
unfolding looks_in_vain looks
move_sees w (stays_put s c a h) = h.sees
move_sees w (credits s c a h) = h.sees
move_sees w (registers_new s m lt) = refl
move_sees w (registers_old s m x i l) = refl
move_sees w (sends s k v i free a r nf) = refl
move_sees w (posts s k v i free a r nf) = refl
move_sees w (drops_it s k a) = refl
move_sees w (pauses_it s i c) = refl
move_sees w (resumes s i c p) = refl
move_sees w (resumes_not s i c p) = refl
move_sees w (closes_it s i c) = refl
move_sees w (polls_all s) = refl
move_sees w (shuts_it s) = refl
move_sees w (takes f r s y v q vs h e g) = refl
move_sees {E} {R} {K} {k} w (stops f r s u a h e q o n) = absurd (go (poll_on E R K.slot K.generation f s w))
  where
    go : Polled E R K.slot K.generation k (poll f s) → ⊥
    go (polled_to o pd ne) = ne e
move_sees w (halts s m b n j y q e h) = h.sees
move_sees w (aims s i v vs c g) = refl
move_sees w (aims_none s i a c g h) = h.sees

-- at the start
seen_parts : (l : Lane) → seen (some l) ≡ true → (l.paused ≡ false) × (any_ordinary l.holds ≡ true)
unfolding seen
seen_parts l e = let r = both_3 (not l.paused) (not l.closed) (any_ordinary l.holds) e in (not_true r.0, r.2)

pub hold_start : (L : Ledger) (s : State) (K : LaneKey) → Agrees L s → waits K L ≡ true → Hold K.slot K.generation s
unfolding waits
hold_start L s K a w =
    let r = both_true (not L.receiver_closed) (waits_in K L.lanes) w in
    let c = has_lane_parts s K (a.is_current K r.1) in
    let f = a.lane_of K.slot c.0 in
    let at_k : look K L.lanes ≡ some f.entry = ap (λ (i : LaneKey). look i L.lanes) (key_path K (key_of s K.slot) refl (sym c.1)) ∙ f.looked in
    let p = seen_parts f.entry (sym (waits_seen K L.lanes ∙ ap seen at_k) ∙ r.1) in
    record {
      is_registered = c.0;
      is_generation = c.1;
      is_unpaused = sym f.matches.pauses_same ∙ p.0;
      is_pending = f.matches.signal p.1;
      some_item = omega (arith, some_held f.entry.holds p.1, ap length f.matches.values_same);
    }

pub opened_agrees : (o : Opening) → Agrees at_opening (opened_state o)
unfolding at_opening opened_state vacant waits_in
opened_agrees o = record { shut_same = refl; issued_same = refl; lane_of = λ y e. absurd (no e refl); is_current = λ k e. absurd (no e refl) }

-- fair receives
record Single (E R : ℕ) (K j : LaneKey) (k : ℕ) (L : Ledger) (s : State) : Type 0 where
  most : ℕ
  waits_so : Waits E R K most L s
  once_so : Once K.slot j.slot k s

record Fairly (E R : ℕ) (L : Ledger) (st : List Tick) : Type 0 where
  bounds : Bounds E R L st
  all_fair : count_ticks not_fair st ≡ 0

-- where none of a list passes a test, its first does not, nor any of the others
pub first_none : (p : Tick → Bool) (t : Tick) (ts : List Tick) → count_ticks p (t ∷ ts) ≡ 0 → (p t ≡ false) × (count_ticks p ts ≡ 0)
unfolding count_ticks
first_none p t ts e = go (p t) refl
  where
    go : (b : Bool) → p t ≡ b → (b ≡ false) × (count_ticks p ts ≡ 0)
    go true f = absurd (omega (arith, rw f at e))
    go false f = (refl, omega (arith, rw f at e))

falls_single : (E R : ℕ) (K i : LaneKey) (k : ℕ) (L : Ledger) (s u : State) (t : Tick) (st : List Tick) → Single E R K i k L s → Moves s t u → ends_stretch K t ≡ false → Fairly E R L (t ∷ st)
    → (j : ℕ) × (if (of_lane i t) 1 0 + j ≤ k) × Single E R K i j (note L t) u
falls_single E R K i k L s u t st w m f b =
    let r = falls_waits E R K w.most L s u t st w.waits_so m f b.bounds in
    let o = move_once E R K i w.most k (on (t ∷ st) b.bounds w.waits_so) m f (fair_in_turn K i t (first_none not_fair t st b.all_fair).0) w.once_so in
    (o.rest, o.pays, record { most = r.0; waits_so = r.2; once_so = o.once })

-- what a lane waits for at the start is within the demand's bound
start_within_bound : (G R : ℕ) → 64 * (G + R - 1) ≤ bound G R
unfolding bound
start_within_bound G R = omega arith

-- of the items of untargeted receives, those of other lanes
fewer_of_others : (K : LaneKey) (ts : List Tick) → count_ticks (untargeted_of_other K) ts ≤ count_ticks untargeted ts
unfolding count_ticks untargeted_of_other
fewer_of_others K [] = omega arith
fewer_of_others K (t ∷ ts) = go (untargeted t) (of_other_lane K t) (fewer_of_others K ts)
  where
    go : (b c : Bool) {m n : ℕ} → m ≤ n → if (both b c) 1 0 + m ≤ if b 1 0 + n
    go true true h = omega arith
    go true false h = omega arith
    go false c h = omega arith

le_zero : {a : ℕ} → a ≤ 0 → a ≡ 0
le_zero h = omega arith

promise : (L : Ledger) (s e : State) (rest : List Tick) (K : LaneKey) → Ordered s → Agrees L s → Chain s rest e → waits K L ≡ true → Promise K L (stretch K rest)
promise L s e rest K o a c w =
    let st = stretch K rest in
    let E = groups_at (ledger_after L st) in
    let R = most_live L st in
    let b : Bounds E R L st = record { under = under_most L st; in_groups = omega arith } in
    let h = hold_start L s K a w in
    let x : Waits E R K (64 * (E + R - 1)) L s = record {
      ord = o;
      agrees = a;
      hold = h;
      wait = wait_start E R K.slot K.generation s o h (agrees_few R L s a b.under.now_live) (omega (arith, group_same L s a, groups_up L st));
    } in
    record {
      sees = le_zero (bounded_by K looks_in_vain (Bounds E R) (λ k M u. (i : ℕ) × Waits E R K i M u) (passes_on E R)
          (λ k M u v t ts q m f z. let r = falls_waits E R K q.0 M u v t ts q.1 m f z in (k, seen_none (move_sees {K = K} (on (t ∷ ts) z q.1) m), (r.0, r.2)))
          0 L s e rest (64 * (E + R - 1), x) c b);
      bounded = omega (arith, fewer_of_others K st, bounded_by K untargeted (Bounds E R) (Waits E R K) (passes_on E R) (falls_waits E R K) (64 * (E + R - 1)) L s e rest x c b, start_within_bound E R);
      fair_once = λ z j other. bounded_by K (of_lane j) (Fairly E R) (Single E R K j) (λ M t ts g. record { bounds = passes_on E R M t ts g.bounds; all_fair = (first_none not_fair t ts g.all_fair).1 }) (falls_single E R K j)
          1 L s e rest (record { most = 64 * (E + R - 1); waits_so = x; once_so = fresh (omega arith) }) c (record { bounds = b; all_fair = z });
    }
  where
    seen_none : {b : Bool} {k : ℕ} → b ≡ false → if {A = ℕ} b 1 0 + k ≤ k
    seen_none e = rw e (omega arith)

-- at a point of a run from an accepted opening on the state agrees with the ledger
pub agrees_at : (o : Opening) (lent : Lent) → (opening_outcome o lent).1.0 ≡ Done → (calls : List Call) (before rest : List Tick) → let s = (opening_outcome o lent).1.1 in trace the_rules s calls ≡ before ++ rest
    → (u : State) × (Ordered u × Agrees (ledger_after at_opening before) u) × Chain u rest (after_list the_rules s calls)
agrees_at o lent a calls before rest e =
    let s = (opening_outcome o lent).1.1 in
    at_point (λ L u. Ordered u × Agrees L u) (λ L u v t i m. (move_ordered i.0 m, move_agrees L i.0 i.1 m)) at_opening s _ before rest
    (rw (opens_as o lent) (opened_ordered o lent a), rw (opens_as o lent) (opened_agrees o)) (rw e at (trace_chain s calls))

pub demand3 : Demand3 the_rules
unfolding Demand3 Demand3In
demand3 o lent a calls t before rest e K w =
    let p = agrees_at o lent a calls before rest e in
    promise (ledger_after at_opening before) p.0 _ rest K p.1.0 p.1.1 p.2 w

-- N2's sentence, which leaves stretches with a stopped batch out, follows
pub unstopped : (R : Rules) (runs : RunsOf R) → Demand3In R runs → Demand3UnstoppedIn R runs
unfolding Demand3In Demand3UnstoppedIn
unstopped R runs demand o lent a calls r before rest e k w none = demand o lent a calls r before rest e k w
