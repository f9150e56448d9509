-- A lane that gives its credit back: what of it changes, and that it stays in order.
-- Assumes nothing.
use mathlib.Core.Path.{◌≡◌, refl, sym, ap}
use mathlib.Core.Bool.{Bool, true, false}
use Prim.Native.Nat.{ℕ, ◌-◌}
use borrow.Author.Tests.{eqb-true}
use lib.Dec.{eqb}
use Rattle.model.specs.Lists.{if}
use Rattle.model.specs.State.{Slot}
use Rattle.model.specs.Changes.{with_flags, with_signal, with_ring, with_paused, credited}
use Rattle.demands.proofs.Counting.{no}
use Rattle.lane.specs.declared.lane.Lane.{Lane}
use Rattle.lane.specs.declared.lane.Released.{Released}
use Rattle.lane.specs.Lane.{close_fast, release, release_any, release_pending}
use Rattle.lane.proofs.OrderLaws.{cond_holds}

-- the lane m is l with its window closed and its credit given back
pub record GivesBack (l m : Lane) : Type 0 where
  pub same_key : m.key ≡ l.key
  pub same_tail : m.tail ≡ l.tail
  pub same_head : m.head ≡ l.head
  pub unreleased : m.unreleased ≡ 0
  pub window : m.window ≡ 0
  pub burst : m.burst ≡ l.burst - l.window
  pub same_pending : m.pending ≡ l.pending
  pub same_queued : m.queued ≡ l.queued
  pub same_paused : m.paused ≡ l.paused
  pub same_registered : m.registered ≡ l.registered
  pub same_living : m.living ≡ l.living

pub gives_back : (l : Lane) → GivesBack l (release_pending l).lane
unfolding release_pending release_any
gives_back l =
    cond_holds (λ (r : Released). GivesBack l r.lane) (eqb (close_fast l).unreleased 0)
    (record { lane = close_fast l; released = false }) (record { lane = release (close_fast l); released = true })
    (λ e. by (close_fast l) refl refl refl (eqb-true (close_fast l).unreleased 0 e) refl refl refl refl refl refl refl)
    (λ e. by (release (close_fast l)) refl refl refl refl refl refl refl refl refl refl refl)
  where
    by : (m : Lane) → m.key ≡ l.key → m.tail ≡ l.tail → m.head ≡ l.head → m.unreleased ≡ 0 → m.window ≡ 0 → m.burst ≡ l.burst - l.window
        → m.pending ≡ l.pending → m.queued ≡ l.queued → m.paused ≡ l.paused → m.registered ≡ l.registered → m.living ≡ l.living → GivesBack l m
    by m a b c d e f g h i j k =
        record {
          same_key = a;
          same_tail = b;
          same_head = c;
          unreleased = d;
          window = e;
          burst = f;
          same_pending = g;
          same_queued = h;
          same_paused = i;
          same_registered = j;
          same_living = k;
        }

-- ---- the rules' slot

if_true : (b : Bool) → b ≡ true → (m n : ℕ) → if b m n ≡ m
if_true true e m n = refl
if_true false e m n = absurd (no e refl)

-- a registered slot's credit given back, its flags as the lane's words have them
pub credited_by : (s : Slot) (a b c : Bool) (u v : ℕ) (p : Bool) → a ≡ s.registered → b ≡ s.living → c ≡ s.pending → s.registered ≡ true → u ≡ 0 → v ≡ s.burst
    → with_flags a b p (with_signal c s.marked (with_ring s.ring u v s)) ≡ with_paused p (credited s)
credited_by s a b c u v p i j k g m n =
    rw (i, j, k, m, n)
    (ap (λ (y : ℕ). with_flags s.registered s.living p (with_ring s.ring y s.burst s)) (sym (if_true s.registered g 0 s.unreleased)))

-- the same with no flag changed
pub given_back : (s : Slot) (u v : ℕ) → s.registered ≡ true → u ≡ 0 → v ≡ s.burst → with_ring s.ring u v s ≡ credited s
given_back s u v g m n = rw (m, n) (ap (λ (y : ℕ). with_ring s.ring y s.burst s) (sym (if_true s.registered g 0 s.unreleased)))

-- a slot without a lane
pub nothing_back : (s : Slot) → s.registered ≡ false → credited s ≡ s
nothing_back s e = ap (λ (b : Bool). with_ring s.ring (if b 0 s.unreleased) s.burst s) e
