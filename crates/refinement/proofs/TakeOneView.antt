-- The plain take, from the fast window to the poll loop, is the rules' take of one item, and leaves a store in order.
-- Assumes nothing.
use Rattle.std.specs.Prelude.{Option, Some, None}
use mathlib.Core.Path.{◌≡◌, refl, sym, ap, ap₂, ◌∙◌, subst}
use mathlib.Core.Bool.{Bool, true, false, cond}
use mathlib.Core.List.{List, [], ◌∷◌}
use Prim.Native.Nat.{ℕ, zero, suc}
use native.Mathlib.Omega.{arith}
use borrow.Author.Tests.{eq-eqb, ne_eqb}
use lib.Dec.{eqb}
use lib.ListN.{length}
use Rattle.model.specs.declared.LaneKey.{LaneKey}
use Rattle.model.specs.State.{State}
use Rattle.model.specs.Changes.{with_budget}
use Rattle.model.specs.Ready as marks
use Rattle.model.specs.Turn as rules
use Rattle.queues.specs.Header.{queue_count, budget, set_budget}
use Rattle.queues.specs.Queue.{queue_of}
use Rattle.ready.specs.Ready.{collect_ready}
use Rattle.queues.proofs.QueueLaws.{length_queue}
use Rattle.turns.specs.declared.turn.Took.{Took}
use Rattle.store.specs.View.{view}
use Rattle.store.specs.Order.{InOrderButHeld}
use Rattle.turns.specs.Turn.{turns}
use Rattle.turns.specs.Drained.{Rests}
use Rattle.receive.specs.Receive.{else_take, take_fast, take_front_window, poll_loop, try_recv_refill, take_one}
use Rattle.turns.specs.Due.{collect_if_due}
use Rattle.store.proofs.ViewLaws.{view_budget}
use Rattle.store.proofs.CollectedView.{view_collect_all, view_collect_group}
use Rattle.store.proofs.BetweenTurns.{full_budget_in_order, collected_in_order}
use Rattle.receive.proofs.ReceiveLaws.{turns_rest, Unmoved, take_fast_unmoved, take_window_unmoved}
use Rattle.turns.proofs.DueLaws.{turning_of}
use Rattle.refinement.proofs.TurnView.{TookAs, turns_alike, rests_queue}
use Rattle.refinement.proofs.WindowTakes.{TakesAs, take_fast_takes, take_window_takes}

-- ---- the rules' take, after a look that was due

unfoldable pub after_due : State → rules.Took
after_due s = let d = rules.run_down s in let u = rules.collect_if_none_queued d.queue d in rules.give_front false u u.queue

abbrev pub due : State → State
due s = rules.collect_if_due s.budget s.queue s

pub take_one_is : (s : State) → rules.take_one s ≡ after_due (due s)
unfolding rules.take_one rules.polled after_due
take_one_is s = refl

-- a look that was made is not due again
due_again : (s : State) → due (due s) ≡ due s
unfolding rules.collect_if_due
due_again s = go s.budget s.queue refl refl
  where
    go : (b : ℕ) (q : List ℕ) → s.budget ≡ b → s.queue ≡ q → due (rules.collect_if_due b q s) ≡ rules.collect_if_due b q s
    go zero (y ∷ q) e f = refl
    go zero [] e f = ap₂ (λ (b : ℕ) (q : List ℕ). rules.collect_if_due b q s) e f
    go (suc n) q e f = ap (λ (b : ℕ). rules.collect_if_due b s.queue s) e

-- 1 of a list that has an element
some : List (LaneKey × ℕ) → ℕ
some [] = 0
some (g ∷ gs) = 1

-- an item handed out is of a lane that was queued
gave_some : (fair : Bool) (d u : State) (q : List ℕ) (g : LaneKey × ℕ) (gs : List (LaneKey × ℕ)) → (g ∷ gs, u) ≡ rules.give_front fair d q → rules.collect_if_none_queued q d ≡ d
unfolding some rules.give_front rules.collect_if_none_queued
gave_some fair d u [] g gs e = let z : ◌≡◌ {A = ℕ} 1 0 = ap (λ (w : rules.Took). some w.0) e in absurd (omega arith)
gave_some fair d u (y ∷ q) g gs e = refl

-- where none is, the state is as it was
gave_none : (fair : Bool) (d u : State) (q : List ℕ) → ([], u) ≡ rules.give_front fair d q → u ≡ d
unfolding some rules.give_front rules.give_oldest
gave_none fair d u [] e = ap (λ (w : rules.Took). w.1) e
gave_none fair d u (y ∷ q) e = go (d.slot_of y).ring e
  where
    go : (l : List ℕ) → ([], u) ≡ rules.give_oldest d fair y q l → u ≡ d
    go [] f = ap (λ (w : rules.Took). w.1) f
    go (v ∷ vs) f = let z : ◌≡◌ {A = ℕ} 0 1 = ap (λ (w : rules.Took). some w.0) f in absurd (omega arith)

-- ---- the poll loop

module _ (t r : List ℕ) (o : InOrderButHeld t r) where
  abbrev d : State
  d = rules.run_down (view t r)

  pub loop_alike : TookAs r (poll_loop t r) (after_due (view t r))
  unfolding poll_loop else_take after_due rules.collect_if_none_queued view
  loop_alike = go (turns t r false) (turns_alike t r false o) (turns_rest t r false (turning_of t r o))
    where
      go : (w : Option Took × List ℕ) → TookAs r w (rules.give_front false d d.queue) → Rests w → TookAs r (else_take w (λ u. turns (collect_ready true u) r false)) (after_due (view t r))
      go (Some took, u) a k =
          subst (TookAs r (Some took, u)) (ap (λ (v : State). rules.give_front false v v.queue) (sym (gave_some false d (view u r) d.queue _ _ a.alike))) a
      go (None, u) a k =
          let same : view u r ≡ d = gave_none false d (view u r) d.queue a.alike in
          let none : d.queue ≡ [] = sym (ap (λ (v : State). v.queue) same) ∙ rests_queue (None, u) k refl in
          let seen : view (collect_ready true u) r ≡ marks.collect_ready d = view_collect_all u r a.in_order.stores ∙ ap marks.collect_ready same in
          let next : rules.run_down (view (collect_ready true u) r) ≡ rules.collect_if_none_queued d.queue d = ap rules.run_down seen ∙ sym (ap (λ (q : List ℕ). rules.collect_if_none_queued q d) none) in
          subst (λ (v : State). TookAs r (turns (collect_ready true u) r false) (rules.give_front false v v.queue)) next
          (turns_alike (collect_ready true u) r false (collected_in_order u r a.in_order true))

-- ---- "else, budget 0 and queue non-empty, collect one group and set the budget to 64"

module _ (t r : List ℕ) (o : InOrderButHeld t r) where
  abbrev looked : List ℕ
  looked = set_budget (collect_ready false t) 64

  pub due_in_order : InOrderButHeld (collect_if_due t) r
  unfolding collect_if_due
  due_in_order = go (eqb (budget t) 0) (eqb (queue_count t) 0)
    where
      go : (a b : Bool) → InOrderButHeld (cond a (cond b t looked) t) r
      go true true = o
      go true false = full_budget_in_order (collect_ready false t) r (collected_in_order t r o false)
      go false b = o

  pub due_view : view (collect_if_due t) r ≡ due (view t r)
  unfolding collect_if_due rules.collect_if_due view
  due_view = go (budget t) (queue_of t) refl refl
    where
      go : (b : ℕ) (q : List ℕ) → budget t ≡ b → queue_of t ≡ q → view (cond (eqb (budget t) 0) (cond (eqb (queue_count t) 0) t looked) t) r ≡ rules.collect_if_due b q (view t r)
      go zero (y ∷ q) e f =
          rw (eq-eqb (budget t) 0 e, ne_eqb (queue_count t) 0 (λ z. omega (arith, length_queue t, ap length f)))
          (view_budget (collect_ready false t) r (collected_in_order t r o false).stores.shaped 64 ∙ ap (with_budget 64) (view_collect_group t r o.stores))
      go zero [] e f = rw (eq-eqb (budget t) 0 e, eq-eqb (queue_count t) 0 (sym (length_queue t) ∙ ap length f))
      go (suc n) q e f = rw (ne_eqb (budget t) 0 (λ z. omega arith))

-- ---- one take after another

-- a first take that hands out what the rules take, or hands out nothing and changes nothing
pub else_took : (t r : List ℕ) (w : rules.Took) (o : Option Took × List ℕ) (f : List ℕ → Option Took × List ℕ) → TakesAs r o w → Unmoved t o → TookAs r (f t) w → TookAs r (else_take o f) w
unfolding else_take
else_took t r w (Some took, u) f a e b = a
else_took t r w (None, u) f a e b = subst (λ (v : List ℕ). TookAs r (f v) w) (sym e) b

module _ (t r : List ℕ) (o : InOrderButHeld t r) where
  abbrev u : List ℕ
  u = collect_if_due t

  -- the rules' take after the look is their take
  take_after : rules.take_one (view u r) ≡ rules.take_one (view t r)
  take_after =
      take_one_is (view u r) ∙ ap (λ (s : State). after_due (due s)) (due_view t r o) ∙ ap after_due (due_again (view t r)) ∙ sym (take_one_is (view t r))

  loop_after : TookAs r (poll_loop u r) (rules.take_one (view t r))
  loop_after = subst (TookAs r (poll_loop u r)) (ap after_due (due_view t r o) ∙ sym (take_one_is (view t r))) (loop_alike u r (due_in_order t r o))

  pub refill_take_alike : TookAs r (try_recv_refill t r) (rules.take_one (view t r))
  unfolding try_recv_refill
  refill_take_alike =
      else_took u r (rules.take_one (view t r)) (take_front_window u r) (λ v. poll_loop v r)
      (subst (TakesAs r (take_front_window u r)) take_after (take_window_takes u r (due_in_order t r o))) (take_window_unmoved u r) loop_after

  -- "Plain: first the open fast window at `fast_slot`; else [..]": one item, as the rules take it
  pub take_one_alike : TookAs r (take_one t r) (rules.take_one (view t r))
  unfolding take_one
  take_one_alike =
      else_took t r (rules.take_one (view t r)) (take_fast t r) (λ v. try_recv_refill v r) (take_fast_takes t r o) (take_fast_unmoved t r) refill_take_alike
