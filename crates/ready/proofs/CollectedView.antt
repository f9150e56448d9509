-- For the view of the table: the rules' collecting leaves all but the marks, the queue and the cursor, and those are what the table has. So
-- a state that has what the table has after collecting, and is otherwise as before, is the one that the rules make.
-- Assumes nothing.
use mathlib.Core.Path.{◌≡◌, refl, sym, ap, ap₂, ◌∙◌, fun_ext}
use mathlib.Core.Bool.{Bool, true, false}
use mathlib.Core.List.{List, [], ◌∷◌}
use Prim.Native.Nat.{ℕ, ◌<◌}
use native.Mathlib.Decide.{dec_lt}
use native.Mathlib.Omega.{arith}
use lib.Dec.{eqb}
use Rattle.model.specs.Lists.{if, non_empty}
use Rattle.model.specs.State.{Slot, State}
use Rattle.model.specs.Changes.{with_slots, with_queue, with_cursor, with_signal, unmarked}
use Rattle.model.specs.Ready.{group_of, marks, collect_marks, collect_group, collect_first, collect_each, groups_round, collect_ready_group}
use Rattle.model.specs.Ready as rules
use Rattle.queues.specs.Header.{Shaped, issued}
use Rattle.queues.specs.Queue.{QueueNames}
use Rattle.ready.specs.Ready.{Linked, collect_ready}
use Rattle.ready.proofs.CollectedMarks.{SameMarks}
use Rattle.ready.proofs.CollectedState.{WordsFit, Sees}
use Rattle.ready.proofs.CollectedReady.{collects_all, collects_first}

-- ---- what the rules' collecting leaves

pub record Leaves (s u : State) : Type 0 where
  -- the slots, but for their marks
  pub slots_left : (y : ℕ) → unmarked (u.slot_of y) ≡ unmarked (s.slot_of y)
  -- all that is neither slots nor queue nor cursor
  pub rest_left : (c : ℕ) (q : List ℕ) (f : ℕ → Slot) → with_cursor c (with_queue q (with_slots f u)) ≡ with_cursor c (with_queue q (with_slots f s))

leaves_self : (s : State) → Leaves s s
leaves_self s = record { slots_left = λ y. refl; rest_left = λ c q f. refl }

leaves_then : {s u w : State} → Leaves s u → Leaves u w → Leaves s w
leaves_then a b = record { slots_left = λ y. b.slots_left y ∙ a.slots_left y; rest_left = λ c q f. b.rest_left c q f ∙ a.rest_left c q f }

leaves_group : (s : State) (group : ℕ) → Leaves s (collect_group s group)
unfolding collect_group collect_marks
leaves_group s group = go (marks s group)
  where
    same : (l : Slot) (b : Bool) → unmarked (if b (unmarked l) l) ≡ unmarked l
    same l true = refl
    same l false = refl

    go : (l : List ℕ) → Leaves s (collect_marks l s group)
    go [] = leaves_self s
    go (x ∷ l) = record { slots_left = λ y. same (s.slot_of y) (eqb (group_of y) group); rest_left = λ c q f. refl }

leaves_each : (gs : List ℕ) (s : State) → Leaves s (collect_each gs s)
unfolding collect_each
leaves_each [] s = leaves_self s
leaves_each (g ∷ gs) s = leaves_then (leaves_group s g) (leaves_each gs (collect_group s g))

leaves_first : (gs : List ℕ) (s : State) → Leaves s (collect_first gs s)
unfolding collect_first
leaves_first [] s = leaves_self s
leaves_first (g ∷ gs) s = go (non_empty (marks s g)) (leaves_first gs s)
  where
    go : (b : Bool) → Leaves s (collect_first gs s) → Leaves s (if b (collect_group s g) (collect_first gs s))
    go true r = leaves_group s g
    go false r = r

pub leaves_all : (s : State) → Leaves s (rules.collect_ready s)
unfolding rules.collect_ready
leaves_all s = leaves_each (groups_round s) s

pub leaves_one : (s : State) → Leaves s (collect_ready_group s)
unfolding collect_ready_group
leaves_one s = leaves_first (groups_round s) s

-- ---- two states that have the same of a table, and are otherwise as the same third, are the same

marks_same : (t : List ℕ) (u w : State) → SameMarks t u → SameMarks t w → (y : ℕ) → (u.slot_of y).marked ≡ (w.slot_of y).marked
marks_same t u w a b y = go (dec_lt y (issued t))
  where
    go : Dec (y < issued t) → (u.slot_of y).marked ≡ (w.slot_of y).marked
    go (yes l) = a.marked_issued y l ∙ sym (b.marked_issued y l)
    go (no n) = a.unmarked_past y (omega arith) ∙ sym (b.unmarked_past y (omega arith))

slot_same : (l m : Slot) → l.marked ≡ m.marked → unmarked l ≡ unmarked m → l ≡ m
slot_same l m e f = ap₂ (λ (b : Bool) (k : Slot). with_signal k.pending b k) e f

state_same : (t : List ℕ) (s u w : State) → Sees t u → Sees t w → Leaves s u → Leaves s w → u ≡ w
state_same t s u w a b x y =
    let f : u.slot_of ≡ w.slot_of =
    fun_ext (λ i. slot_same (u.slot_of i) (w.slot_of i) (marks_same t u w a.same_marks b.same_marks i) (x.slots_left i ∙ sym (y.slots_left i))) in
    let q : u.queue ≡ w.queue = a.same_queue ∙ sym b.same_queue in
    let c : u.cursor ≡ w.cursor = a.same_cursor ∙ sym b.same_cursor in
    x.rest_left u.cursor u.queue u.slot_of
    ∙ ap (λ (i : ℕ). with_cursor i (with_queue u.queue (with_slots u.slot_of s))) c
    ∙ ap₂ (λ (l : List ℕ) (g : ℕ → Slot). with_cursor w.cursor (with_queue l (with_slots g s))) q f
    ∙ sym (y.rest_left w.cursor w.queue w.slot_of)

-- ---- the state after collecting is the rules'

module _ (t : List ℕ) (s u : State) (sh : Shaped t) (q : QueueNames t) (k : Linked t) (f : WordsFit t) (v : Sees t s) (l : Leaves s u) where
  pub view_all : Sees (collect_ready true t) u → u ≡ rules.collect_ready s
  view_all w = state_same (collect_ready true t) s u (rules.collect_ready s) w (collects_all t s sh q k f v) l (leaves_all s)

  pub view_one : Sees (collect_ready false t) u → u ≡ collect_ready_group s
  view_one w = state_same (collect_ready false t) s u (collect_ready_group s) w (collects_first t s sh q k f v) l (leaves_one s)
