-- A lane's methods leave its key and its flags, and a lane found empty is no longer queued.
-- Assumes nothing.
use Rattle.std.specs.Prelude.{Option, Some, None, Result, Ok, Err}
use mathlib.Core.Path.{◌≡◌, refl, ap, ◌∙◌}
use mathlib.Core.Bool.{Bool, true, false, cond, ◌||◌}
use mathlib.Core.List.{List}
use Prim.Native.Nat.{ℕ, ◌+◌}
use lib.Dec.{eqb}
use Rattle.model.specs.declared.LaneKey.{LaneKey}
use Rattle.model.specs.State.{release_batch}
use Rattle.yring.specs.declared.ring.Ring.{Ring}
use Rattle.lane.specs.declared.lane.Lane.{Lane}
use Rattle.lane.specs.declared.lane.Released.{Released}
use Rattle.lane.specs.declared.lane.EmptyLane.{EmptyLane}
use Rattle.lane.specs.declared.lane.LanePoll.{LanePoll}
use Rattle.yring.specs.Ring.{item_at}
use Rattle.lane.specs.Order.{popped_lane}
use Rattle.lane.specs.Lane.{prefetch, reload, release, advance, close_fast, open_for, grant_fast, window_pop, pop_fast, release_at_batch, release_any, release_pending, emptied, settle_empty, ready_or_idle, refill, charge, add_burst, end_burst, targeted, pop_targeted, polled, poll_item, poll_refilled, poll, fair_window, fairly, pop_lone, reload_is_empty}
use Rattle.lane.specs.declared.consumer.Taken.{Taken}

-- the key, registered, paused and living; and with them queued and pending
abbrev pub Fixed : Type 0
Fixed = LaneKey × ℕ × ℕ × ℕ

abbrev pub fixed : Lane → Fixed
fixed l = (l.key, l.registered, l.paused, l.living)

abbrev pub Flagged : Type 0
Flagged = LaneKey × ℕ × ℕ × ℕ × ℕ × ℕ

abbrev pub flagged : Lane → Flagged
flagged l = (l.key, l.registered, l.paused, l.living, l.queued, l.pending)

both_sides : {A B : Type 0} (f : A → B) (b : Bool) (x y : A) (z : B) → f x ≡ z → f y ≡ z → f (cond b x y) ≡ z
both_sides f true x y z p q = p
both_sides f false x y z p q = q

pub flagged_reload : (l : Lane) → flagged (reload l) ≡ flagged l
unfolding reload
flagged_reload l = both_sides flagged (eqb l.cached 0) (prefetch l) l (flagged l) refl refl

pub flagged_grant : (C budget : ℕ) (l : Lane) → flagged (grant_fast C budget l) ≡ flagged l
unfolding grant_fast open_for
flagged_grant C budget l = flagged_reload (close_fast l)

module _ (ring : Ring) (store : List ℕ) where
  pub flagged_pop_fast : (l : Lane) → flagged (popped_lane l (pop_fast ring store l)) ≡ flagged l
  unfolding pop_fast
  flagged_pop_fast l =
      both_sides (λ (p : Option Taken). flagged (popped_lane l p)) (eqb l.window 0) None (Some (record { item = item_at ring store l.head; lane = window_pop l })) (flagged l) refl refl

  flagged_fairly : (l : Lane) (p : Option Taken) → flagged (popped_lane l (fairly p)) ≡ flagged (popped_lane l p)
  unfolding fairly
  flagged_fairly l (Some taken) = refl
  flagged_fairly l None = refl

  flagged_fair_window : (C budget : ℕ) (l : Lane) → flagged (fair_window C budget l) ≡ flagged l
  unfolding fair_window
  flagged_fair_window C budget l =
      both_sides flagged (eqb l.window 0) (grant_fast C budget (end_burst true l)) l (flagged l) (flagged_grant C budget (end_burst true l)) refl

  pub flagged_pop_fair : (budget : ℕ) (l : Lane) → flagged (popped_lane (fair_window ring.capacity budget l) (pop_lone ring store budget l)) ≡ flagged l
  unfolding pop_lone
  flagged_pop_fair budget l =
      flagged_fairly (fair_window ring.capacity budget l) (pop_fast ring store (fair_window ring.capacity budget l)) ∙ flagged_pop_fast (fair_window ring.capacity budget l)
      ∙ flagged_fair_window ring.capacity budget l

pub flagged_at_batch : (C : ℕ) (l : Lane) → flagged (release_at_batch C l).lane ≡ flagged l
unfolding release_at_batch
flagged_at_batch C l =
    both_sides (λ (r : Released). flagged r.lane) (eqb l.unreleased (release_batch C)) (record { lane = release l; released = true })
    (record { lane = l; released = false }) (flagged l) refl refl

pub flagged_release : (l : Lane) → flagged (release_pending l).lane ≡ flagged l
unfolding release_pending release_any
flagged_release l =
    both_sides (λ (r : Released). flagged r.lane) (eqb (close_fast l).unreleased 0) (record { lane = close_fast l; released = false })
    (record { lane = release (close_fast l); released = true }) (flagged l) refl refl

pub flagged_targeted : (ring : Ring) (store : List ℕ) (l : Lane) → flagged (pop_targeted ring store l).lane ≡ flagged l
unfolding pop_targeted targeted
flagged_targeted ring store l = flagged_at_batch ring.capacity (charge 1 (advance 1 l))

-- what is left of a lane found empty
abbrev pub Emptied : Lane → EmptyLane → Type 0
Emptied l found = (fixed found.lane ≡ fixed l) × (found.lane.queued ≡ 0) × (found.disconnected ≡ eqb l.living 0)

few : Flagged → Fixed
few z = (z.0, z.1, z.2, z.3)

pub settle_emptied : (l : Lane) → Emptied l (settle_empty l)
unfolding settle_empty emptied few
settle_emptied l = (ap few (flagged_release l), refl, ap (λ (z : Flagged). eqb z.3 0) (flagged_release l))

-- what `refill` and `poll` leave of a lane
abbrev pub RefillKept : Lane → Result Lane EmptyLane → Type 0
RefillKept l (Ok m) = flagged m ≡ flagged l
RefillKept l (Err found) = Emptied l found

abbrev pub PollKept : Lane → Result LanePoll EmptyLane → Type 0
PollKept l (Ok p) = flagged p.lane ≡ flagged l
PollKept l (Err found) = Emptied l found

pub refill_kept : (l : Lane) → RefillKept l (refill l)
unfolding refill ready_or_idle few
refill_kept l = go (eqb (reload (close_fast l)).cached 0)
  where
    m : Lane
    m = reload (close_fast l)

    go : (b : Bool) → RefillKept l (cond b (Err (settle_empty (reload (close_fast l)))) (Ok (reload (close_fast l))))
    go true =
        let s = settle_emptied (reload (close_fast l)) in
        let f = flagged_reload (close_fast l) in
        (s.0 ∙ ap few f, s.1, s.2 ∙ ap (λ (z : Flagged). eqb z.3 0) f)
    go false = flagged_reload (close_fast l)

pub flagged_end : (b : Bool) (l : Lane) → flagged (end_burst b l) ≡ flagged l
flagged_end true l = refl
flagged_end false l = refl

pub poll_kept : (ring : Ring) (store : List ℕ) (fair : Bool) (l : Lane) → PollKept l (poll ring store fair l)
unfolding poll poll_refilled poll_item polled
poll_kept ring store fair l = go (refill l) (refill_kept l)
  where
    go : (r : Result Lane EmptyLane) → RefillKept l r → PollKept l (poll_refilled ring store fair r)
    go (Ok m) e =
        let n = (pop_targeted ring store m).lane in
        flagged_end (fair || eqb (n.burst + 1) 64) (add_burst 1 n) ∙ flagged_targeted ring store m ∙ e
    go (Err found) e = e

pub flagged_looked : (l : Lane) → flagged (reload_is_empty l).lane ≡ flagged l
unfolding reload_is_empty
flagged_looked l = flagged_reload (close_fast l)
