-- Slots later on: generations only grow, and a new lane has a new one.
-- Assumes nothing.
use mathlib.Core.Path.{◌≡◌, refl, ap, sym, ◌∙◌, subst}
use mathlib.Core.Logic.{◌⊎◌, inl, inr}
use mathlib.Core.Bool.{true, false}
use Prim.Native.Nat.{ℕ, ◌+◌, ◌≤◌, ◌<◌}
use native.Mathlib.Omega.{arith}
use lib.Dec.{eqb, leb}
use Rattle.model.specs.Lists.{if, either, without}
use Rattle.model.specs.State.{Slot, State, may_queue}
use Rattle.model.specs.Changes.{with_queue, put, new_lane, popped, retired}
use Rattle.model.specs.Turn.{unreleased_after_one, give_item}
use Rattle.model.specs.Runs.{Tick}
use Rattle.model.specs.Receive.{queue_lane_if}
use Rattle.demands.proofs.Counting.{Same, equal, other, same?, self, no}
use Rattle.demands.proofs.Quiet.{Quiet, stays, goes, Quietly, trans, poll, poll_quiet, release_all_quiet, settle_empty_quiet}
use Rattle.demands.proofs.Moves.{Moves, stays_put, credits, registers_new, registers_old, sends, posts, drops_it, pauses_it, resumes, resumes_not, closes_it, polls_all, shuts_it, takes, stops, halts, aims, aims_none}
use Rattle.demands.proofs.StopLaws.{halts_quiet}
use Rattle.demands.proofs.Demand2.{queue_lane_slot, queue_lane_parts, give_item_slot}
use Rattle.demands.proofs.LedgerAgrees.{retire_lane_slot, retire_lane_issued, give_item_issued, queue_lane_more, again_put}

-- a slot later on: the generation grows, and a new lane has a new one
pub record Older (l m : Slot) : Type 0 where
  pub gens : l.generation ≤ m.generation
  pub regs : m.registered ≡ true → (l.registered ≡ true) ⊎ (l.generation < m.generation)

older_same : (l m : Slot) → m.registered ≡ l.registered → m.generation ≡ l.generation → Older l m
older_same l m r g = record { gens = omega arith; regs = λ e. inl (sym r ∙ e) }

older_out : (l m : Slot) → m.registered ≡ false → m.generation ≡ l.generation → Older l m
older_out l m r g = record { gens = omega arith; regs = λ e. absurd (no e r) }

older_quiet : (l m : Slot) → Quiet l m → Older l m
older_quiet l m (stays a) = older_same l m a.registers a.generations
older_quiet l m (goes e r g) = older_out l m r g

older_then : {l m n : Slot} → Older l m → Older m n → Older l n
older_then {l} {m} {n} a b = record { gens = omega (arith, a.gens, b.gens); regs = λ e. go (b.regs e) }
  where
    first : (l.registered ≡ true) ⊎ (l.generation < m.generation) → (l.registered ≡ true) ⊎ (l.generation < n.generation)
    first (inl e) = inl e
    first (inr h) = inr (omega (arith, b.gens))

    go : (m.registered ≡ true) ⊎ (m.generation < n.generation) → (l.registered ≡ true) ⊎ (l.generation < n.generation)
    go (inl e) = first (a.regs e)
    go (inr h) = inr (omega (arith, a.gens))

-- of the slots issued
pub record Grows (s u : State) : Type 0 where
  pub issues : s.issued ≤ u.issued
  pub slots : (y : ℕ) → y < s.issued → Older (s.slot_of y) (u.slot_of y)

grows_none : (s : State) → Grows s s
grows_none s = record { issues = omega arith; slots = λ y h. older_same (s.slot_of y) _ refl refl }

grows_then : {s u w : State} → Grows s u → Grows u w → Grows s w
grows_then a b = record { issues = omega (arith, a.issues, b.issues); slots = λ y h. older_then (a.slots y h) (b.slots y (omega (arith, a.issues))) }

pub grows_quiet : (s u : State) → Quietly s u → Grows s u
grows_quiet s u q = record { issues = omega (arith, q.issues); slots = λ y h. older_quiet _ _ (q.each y) }

grows_put : (s u : State) (x : ℕ) (m : Slot) → ((y : ℕ) → u.slot_of y ≡ if (eqb x y) m (s.slot_of y)) → s.issued ≤ u.issued → (x < s.issued → Older (s.slot_of x) m) → Grows s u
grows_put s u x m at i o = record { issues = i; slots = λ y h. subst (λ (l : Slot). Older (s.slot_of y) l) (sym (at y)) (go y h (same? x y)) }
  where
    go : (y : ℕ) → y < s.issued → Same x y → Older (s.slot_of y) (if (eqb x y) m (s.slot_of y))
    go y h (equal p e j) = rw e (subst (λ (z : ℕ). Older (s.slot_of z) m) p (o (omega arith)))
    go y h (other d e j) = rw e (older_same _ _ refl refl)

pub move_grows : {s u : State} {t : Tick} → Moves s t u → Grows s u
move_grows (stays_put s c a h) = grows_none s
move_grows (credits s c a h) = grows_quiet s _ (release_all_quiet s)
move_grows (registers_new s m lt) = grows_put s _ s.issued (new_lane s.first_generation (s.slot_of s.issued)) (λ y. refl) (omega arith) (λ p. absurd (omega arith))
move_grows (registers_old s m x i l) =
    grows_put s _ x (new_lane ((s.slot_of x).generation + 1) (s.slot_of x)) (λ y. refl) (omega arith) (λ p. record { gens = omega arith; regs = λ q. inr (omega arith) })
move_grows (sends s j v w free a r nf) = grows_put s _ j.slot _ (λ y. refl) (omega arith) (λ p. older_same (s.slot_of j.slot) _ refl refl)
move_grows (posts s j v w free a r nf) = grows_put s _ j.slot _ (λ y. refl) (omega arith) (λ p. older_same (s.slot_of j.slot) _ refl refl)
move_grows (drops_it s j a) = grows_put s _ j.slot _ (λ y. refl) (omega arith) (λ p. older_same (s.slot_of j.slot) _ refl refl)
move_grows (pauses_it s i c) = grows_put s _ i.key.slot _ (λ y. refl) (omega arith) (λ p. older_same (s.slot_of i.key.slot) _ refl refl)
move_grows (resumes s i c p) = grows_put s _ i.key.slot _ (λ y. refl) (omega arith) (λ p. older_same (s.slot_of i.key.slot) _ refl refl)
move_grows (resumes_not s i c p) = grows_none s
move_grows (closes_it s i c) =
    grows_put s _ i.key.slot (retired (s.slot_of i.key.slot)) (retire_lane_slot i.key.slot s _) (omega (arith, retire_lane_issued i.key.slot (with_queue (without i.key.slot s.queue) s))) (λ p. older_out (s.slot_of i.key.slot) _ refl refl)
move_grows (polls_all s) = record { issues = omega arith; slots = λ y h. older_same (s.slot_of y) _ refl refl }
move_grows (shuts_it s) = record { issues = omega arith; slots = λ y h. older_same (s.slot_of y) _ refl refl }
move_grows (takes f r s y v q vs h e i) =
    let p = poll f s in
    let back = either f (leb 63 (p.slot_of y).burst) in
    grows_then (grows_quiet s p (poll_quiet f s)) (grows_put p (give_item p y q vs back) y _ (give_item_slot p y q vs back) (omega (arith, give_item_issued p y q vs back)) (λ z. older_same (p.slot_of y) _ refl refl))
move_grows (stops f r s u a h e q o n) = grows_quiet s u (trans (poll_quiet f s) q)
move_grows (halts s m b n j y q e h) = grows_quiet s _ (halts_quiet s)
move_grows (aims s i v vs c e) =
    let x = i.key.slot in
    let m = popped vs (unreleased_after_one s x) (s.slot_of x).burst (s.slot_of x) in
    let t = put x m s in
    let u = queue_lane_if (may_queue s x) x t in
    let b = queue_lane_parts (may_queue s x) x t in
    let at_x : t.slot_of x ≡ m = rw (self x) in
    grows_put s u x (u.slot_of x) (λ y. queue_lane_slot (may_queue s x) x t y ∙ again_put x m s (u.slot_of x) y) (omega (arith, (queue_lane_more (may_queue s x) x t).3))
    (λ p. older_same (s.slot_of x) (u.slot_of x) (b.0 ∙ ap (λ (l : Slot). l.registered) at_x) (b.1 ∙ ap (λ (l : Slot). l.generation) at_x))
move_grows (aims_none s i a c e h) = grows_quiet s _ (settle_empty_quiet i.key.slot (without i.key.slot s.queue) s e)
