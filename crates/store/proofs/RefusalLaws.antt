-- The verdicts on the words are the rules' tests on the view: a call's refusals go over in one step.
-- Assumes nothing.
use mathlib.Core.Path.{◌≡◌, refl, sym, ap, ◌∙◌}
use mathlib.Core.Bool.{Bool, true, false, cond, not}
use mathlib.Core.List.{List, [], ◌∷◌, ◌++◌}
use Prim.Native.Nat.{ℕ, ◌<◌}
use native.Mathlib.Omega.{arith}
use borrow.Author.Tests.{ltb-true, eqb-true}
use lib.Dec.{eqb, ltb}
use Rattle.model.specs.Lists.{if, both}
use Rattle.model.specs.declared.LaneKey.{LaneKey}
use Rattle.model.specs.declared.LaneId.{LaneId}
use Rattle.model.specs.declared.Refusal.{Refusal}
use Rattle.model.specs.declared.Refusal.TheVariants.{ReceiverClosed, NoSuchSender, LaneClosed, NoSuchLane}
use Rattle.model.specs.declared.Answer.{Answer}
use Rattle.model.specs.declared.Answer.TheVariants.{Refused}
use Rattle.model.specs.State.{State, vacant, sender_lives, has_lane, has_lane_id}
use Rattle.model.specs.Outcome.{Outcome, unless}
use Rattle.demands.proofs.LaneIds.{channel_path}
use Rattle.lane.specs.Table.{lane_at}
use Rattle.queues.specs.Header.{issued, alive, channel_id, opening_number, channel}
use Rattle.store.specs.Refusal.{Verdict}
use Rattle.std.specs.Prelude.{Ok, Err}
use Rattle.store.specs.View.{flag, slot_at, view}
use Rattle.store.specs.Refusal.{sender_verdict, closed_verdict, receiver_verdict, lane_verdict, and_then, send_verdict, id_verdict}
use Rattle.store.specs.Words.{Words, unless_refused}

-- what a reader of the rules sees of words
abbrev pub seen : Words → Answer × State
seen w = (w.0, view w.1 w.2)

-- the rules' tests as a verdict: "The first that applies is given."
unfoldable pub first_of : List (Bool × Refusal) → Verdict
first_of [] = Ok (tt {0})
first_of (c ∷ cs) = if c.0 (Err c.1) (first_of cs)

pub first_of_append : (a b : List (Bool × Refusal)) → first_of (a ++ b) ≡ and_then (first_of a) (first_of b)
unfolding first_of and_then
first_of_append [] b = refl
first_of_append (c ∷ a) b = go c.0 (first_of_append a b)
  where
    go : (x : Bool) → first_of (a ++ b) ≡ and_then (first_of a) (first_of b) → if x (Err c.1) (first_of (a ++ b)) ≡ and_then (if x (Err c.1) (first_of a)) (first_of b)
    go true e = refl
    go false e = e

pub unless_append : (a b : List (Bool × Refusal)) (s : State) (o : Outcome) → unless (a ++ b) s o ≡ unless a s (unless b s o)
unfolding unless
unless_append [] b s o = refl
unless_append (c ∷ a) b s o = go c.0 (unless_append a b s o)
  where
    go : (x : Bool) → unless (a ++ b) s o ≡ unless a s (unless b s o)
        → if x ([], (Refused c.1, s)) (unless (a ++ b) s o) ≡ if x ([], (Refused c.1, s)) (unless a s (unless b s o))
    go true e = refl
    go false e = e

-- ---- a call after its refusals

-- what holds of the words before, with the refusal as the answer, and of the words after where none applies, holds of the call's words
pub unless_refused_case : (P : Words → Type 0) (v : Verdict) (t r : List ℕ) (w : Words) → ((why : Refusal) → v ≡ Err why → P (Refused why, t, r))
    → (v ≡ Ok (tt {0}) → P w) → P (unless_refused v t r w)
unfolding unless_refused
unless_refused_case P (Ok u) t r w f g = g refl
unless_refused_case P (Err why) t r w f g = f why refl

-- the rules refuse as the verdict says
pub unless_by_verdict : (cs : List (Bool × Refusal)) (s : State) (o : Outcome) (why : Refusal) → first_of cs ≡ Err why → (unless cs s o).1 ≡ (Refused why, s)
unfolding unless first_of
unless_by_verdict [] s o why e = let z : ◌≡◌ {A = ℕ} 0 1 = cc in absurd (omega arith)
unless_by_verdict (c ∷ cs) s o why e = go c.0 (unless_by_verdict cs s o why) e
  where
    go : (x : Bool) → (first_of cs ≡ Err why → (unless cs s o).1 ≡ (Refused why, s)) → if x (Err c.1) (first_of cs) ≡ Err why
        → (if x ([], (Refused c.1, s)) (unless cs s o)).1 ≡ (Refused why, s)
    go true h e = let same : c.1 ≡ why = cc in ap (λ (y : Refusal). (Refused y, s)) same
    go false h e = h e

-- and let through what it lets through
pub unless_passed : (cs : List (Bool × Refusal)) (s : State) (o : Outcome) → first_of cs ≡ Ok (tt {0}) → unless cs s o ≡ o
unfolding unless first_of
unless_passed [] s o e = refl
unless_passed (c ∷ cs) s o e = go c.0 (unless_passed cs s o) e
  where
    go : (x : Bool) → (first_of cs ≡ Ok (tt {0}) → unless cs s o ≡ o) → if x (Err c.1) (first_of cs) ≡ Ok (tt {0})
        → if x ([], (Refused c.1, s)) (unless cs s o) ≡ o
    go true h e = let z : ◌≡◌ {A = ℕ} 0 1 = cc in absurd (omega arith)
    go false h e = h e

-- the call's law: with a verdict that is the rules' tests, what is left is the law of the call that is not refused
pub refused_alike : (v : Verdict) (cs : List (Bool × Refusal)) (t r : List ℕ) (w : Words) (o : Outcome) → v ≡ first_of cs
    → (v ≡ Ok (tt {0}) → seen w ≡ o.1) → seen (unless_refused v t r w) ≡ (unless cs (view t r) o).1
refused_alike v cs t r w o e f =
    unless_refused_case (λ u. seen u ≡ (unless cs (view t r) o).1) v t r w
    (λ why h. sym (unless_by_verdict cs (view t r) o why (sym e ∙ h)))
    (λ h. f h ∙ ap (λ (p : Outcome). p.1) (sym (unless_passed cs (view t r) o (sym e ∙ h))))

-- ---- each verdict

module _ (t r : List ℕ) where
  pub receiver_verdict_lem : receiver_verdict t ≡ first_of ((not (view t r).is_open, ReceiverClosed) ∷ [])
  unfolding receiver_verdict first_of view
  receiver_verdict_lem = go (flag (alive t))
    where
      go : (a : Bool) → cond a (Ok (tt {0})) (Err ReceiverClosed) ≡ if (not a) (Err ReceiverClosed) (Ok (tt {0}))
      go true = refl
      go false = refl

  module _ (k : LaneKey) where
    pub sender_verdict_lem : sender_verdict t k ≡ first_of ((not (sender_lives (view t r) k), NoSuchSender) ∷ [])
    unfolding sender_verdict sender_lives first_of view slot_at vacant
    sender_verdict_lem = go (ltb k.slot (issued t)) refl
      where
        both_alike : (a b : Bool) → cond a (cond b (Ok (tt {0})) (Err NoSuchSender)) (Err NoSuchSender) ≡ if (not (both a b)) (Err NoSuchSender) (Ok (tt {0}))
        both_alike true true = refl
        both_alike true false = refl
        both_alike false b = refl

        go : (b : Bool) → ltb k.slot (issued t) ≡ b → sender_verdict t k ≡ first_of ((not (sender_lives (view t r) k), NoSuchSender) ∷ [])
        go true e = rw e (both_alike (flag (lane_at t k.slot).living) (eqb (lane_at t k.slot).key.generation k.generation))
        go false e = rw e

    -- of an issued slot
    pub closed_verdict_lem : ltb k.slot (issued t) ≡ true
        → closed_verdict t (lane_at t k.slot) ≡ first_of ((not (both (view t r).is_open ((view t r).slot_of k.slot).registered), LaneClosed) ∷ [])
    unfolding closed_verdict first_of view slot_at
    closed_verdict_lem e = rw e (go (flag (alive t)) (flag (lane_at t k.slot).registered))
      where
        go : (a b : Bool) → cond a (cond b (Ok (tt {0})) (Err LaneClosed)) (Err LaneClosed) ≡ if (not (both a b)) (Err LaneClosed) (Ok (tt {0}))
        go true true = refl
        go true false = refl
        go false b = refl

    -- of a slot that is not
    unissued_refused : ltb k.slot (issued t) ≡ false → sender_verdict t k ≡ Err NoSuchSender
    unfolding sender_verdict
    unissued_refused e = rw e

    -- the rules' two tests of a send
    abbrev living : Bool × Refusal
    living = (not (sender_lives (view t r) k), NoSuchSender)

    abbrev open_lane : Bool × Refusal
    open_lane = (not (both (view t r).is_open ((view t r).slot_of k.slot).registered), LaneClosed)

    pub send_verdict_lem : send_verdict t k ≡ first_of (living ∷ open_lane ∷ [])
    unfolding send_verdict and_then
    send_verdict_lem = go (ltb k.slot (issued t)) refl ∙ sym (first_of_append (living ∷ []) (open_lane ∷ []))
      where
        go : (b : Bool) → ltb k.slot (issued t) ≡ b
            → and_then (sender_verdict t k) (closed_verdict t (lane_at t k.slot)) ≡ and_then (first_of (living ∷ [])) (first_of (open_lane ∷ []))
        go true e = rw (sender_verdict_lem, closed_verdict_lem e)
        go false e =
            let z : first_of (living ∷ []) ≡ Err NoSuchSender = sym sender_verdict_lem ∙ unissued_refused e in
            rw (unissued_refused e, z)

  module _ (i : LaneId) where
    pub lane_verdict_lem : lane_verdict t i ≡ first_of ((not (has_lane_id (view t r) i), NoSuchLane) ∷ [])
    unfolding lane_verdict has_lane_id has_lane first_of view slot_at vacant
    lane_verdict_lem = go (ltb i.key.slot (issued t)) refl
      where
        four : (a b c d : Bool) → cond a (cond b (cond c (cond d (Ok (tt {0})) (Err NoSuchLane)) (Err NoSuchLane)) (Err NoSuchLane)) (Err NoSuchLane)
            ≡ if (not (both (both a b) (both c d))) (Err NoSuchLane) (Ok (tt {0}))
        four true true true true = refl
        four true true true false = refl
        four true true false d = refl
        four true false c d = refl
        four false b c d = refl

        none : (a b : Bool) → cond a (cond b (Err NoSuchLane) (Err NoSuchLane)) (Err NoSuchLane) ≡ if (not (both (both a b) false)) (Err NoSuchLane) (Ok (tt {0}))
        none true true = refl
        none true false = refl
        none false b = refl

        ids : Bool
        ids = eqb i.channel.id (channel_id t)

        numbers : Bool
        numbers = eqb i.channel.opening (opening_number t)

        go : (b : Bool) → ltb i.key.slot (issued t) ≡ b → lane_verdict t i ≡ first_of ((not (has_lane_id (view t r) i), NoSuchLane) ∷ [])
        go true e = rw e (four ids numbers (flag (lane_at t i.key.slot).registered) (eqb (lane_at t i.key.slot).key.generation i.key.generation))
        go false e = rw e (none ids numbers)

    pub id_verdict_lem : id_verdict t i ≡ first_of ((not (view t r).is_open, ReceiverClosed) ∷ (not (has_lane_id (view t r) i), NoSuchLane) ∷ [])
    unfolding id_verdict
    id_verdict_lem =
        rw (receiver_verdict_lem, lane_verdict_lem)
        (sym (first_of_append ((not (view t r).is_open, ReceiverClosed) ∷ []) ((not (has_lane_id (view t r) i), NoSuchLane) ∷ [])))

-- ---- what a verdict that passes tells

pub record Lives (t : List ℕ) (k : LaneKey) : Type 0 where
  pub is_issued : k.slot < issued t
  pub living : (lane_at t k.slot).living ≡ 1
  pub generation : (lane_at t k.slot).key.generation ≡ k.generation

pub record Knows (t : List ℕ) (i : LaneId) : Type 0 where
  pub channel : i.channel ≡ channel t
  pub is_issued : i.key.slot < issued t
  pub registered : (lane_at t i.key.slot).registered ≡ 1
  pub generation : (lane_at t i.key.slot).key.generation ≡ i.key.generation

pub passes : (b : Bool) (why : Refusal) (v : Verdict) → cond b v (Err why) ≡ Ok (tt {0}) → (b ≡ true) × (v ≡ Ok (tt {0}))
passes true why v e = (refl, e)
passes false why v e = let z : ◌≡◌ {A = ℕ} 0 1 = cc in absurd (omega arith)

pub and_then_passes : (v w : Verdict) → and_then v w ≡ Ok (tt {0}) → (v ≡ Ok (tt {0})) × (w ≡ Ok (tt {0}))
unfolding and_then
and_then_passes (Ok u) w e = (refl, e)
and_then_passes (Err why) w e = let z : ◌≡◌ {A = ℕ} 0 1 = cc in absurd (omega arith)

pub sender_passes : (t : List ℕ) (k : LaneKey) → sender_verdict t k ≡ Ok (tt {0}) → Lives t k
unfolding sender_verdict
sender_passes t k e =
    let a = passes (ltb k.slot (issued t)) NoSuchSender _ e in
    let b = passes (eqb (lane_at t k.slot).living 1) NoSuchSender _ a.1 in
    let c = passes (eqb (lane_at t k.slot).key.generation k.generation) NoSuchSender (Ok (tt {0})) b.1 in
    record { is_issued = ltb-true _ _ a.0; living = eqb-true _ _ b.0; generation = eqb-true _ _ c.0 }

pub receiver_passes : (t : List ℕ) → receiver_verdict t ≡ Ok (tt {0}) → alive t ≡ 1
unfolding receiver_verdict
receiver_passes t e = eqb-true _ _ (passes (eqb (alive t) 1) ReceiverClosed (Ok (tt {0})) e).0

pub lane_passes : (t : List ℕ) (i : LaneId) → lane_verdict t i ≡ Ok (tt {0}) → Knows t i
unfolding lane_verdict
lane_passes t i e =
    let a = passes (eqb i.channel.id (channel_id t)) NoSuchLane _ e in
    let n = passes (eqb i.channel.opening (opening_number t)) NoSuchLane _ a.1 in
    let b = passes (ltb i.key.slot (issued t)) NoSuchLane _ n.1 in
    let c = passes (eqb (lane_at t i.key.slot).registered 1) NoSuchLane _ b.1 in
    let d = passes (eqb (lane_at t i.key.slot).key.generation i.key.generation) NoSuchLane (Ok (tt {0})) c.1 in
    record { channel = channel_path _ _ (eqb-true _ _ a.0) (eqb-true _ _ n.0); is_issued = ltb-true _ _ b.0; registered = eqb-true _ _ c.0; generation = eqb-true _ _ d.0 }

-- of a send
pub record Sends (t : List ℕ) (k : LaneKey) : Type 0 where
  pub lives : Lives t k
  pub alive_one : alive t ≡ 1
  pub registered : (lane_at t k.slot).registered ≡ 1

pub send_passes : (t : List ℕ) (k : LaneKey) → send_verdict t k ≡ Ok (tt {0}) → Sends t k
unfolding send_verdict closed_verdict
send_passes t k e =
    let a = and_then_passes (sender_verdict t k) (closed_verdict t (lane_at t k.slot)) e in
    let b = passes (eqb (alive t) 1) LaneClosed _ a.1 in
    let c = passes (eqb (lane_at t k.slot).registered 1) LaneClosed (Ok (tt {0})) b.1 in
    record { lives = sender_passes t k a.0; alive_one = eqb-true _ _ b.0; registered = eqb-true _ _ c.0 }

-- of a call by lane id
pub id_passes : (t : List ℕ) (i : LaneId) → id_verdict t i ≡ Ok (tt {0}) → (alive t ≡ 1) × Knows t i
unfolding id_verdict
id_passes t i e =
    let a = and_then_passes (receiver_verdict t) (lane_verdict t i) e in
    (receiver_passes t a.0, lane_passes t i a.1)
