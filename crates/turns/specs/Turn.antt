-- A turn at the front of the queue, and turn after turn, as words.
-- Assumes nothing.
use Rattle.std.specs.Prelude.{◌≡◌, Bool, cond, List, ℕ, zero, suc, ◌-◌, ◌*◌, ◌≤◌, ◌<◌, eqb, length, Option, Some, None, Result, Ok, Err}
use Rattle.model.specs.Lists.{count, keep, from}
use Rattle.lane.specs.declared.lane.Lane.{Lane}
use Rattle.lane.specs.declared.lane.EmptyLane.{EmptyLane}
use Rattle.lane.specs.declared.lane.LanePoll.{LanePoll}
use Rattle.yring.specs.Cursor.{Capacity}
use Rattle.lane.specs.Order.{InOrder}
use Rattle.yring.specs.Ring.{new_ring}
use Rattle.lane.specs.Lane.{poll}
use Rattle.lane.specs.Table.{lane_at, put_lane}
use Rattle.queues.specs.Header.{set_budget, Shaped, issued, slots, queue_count, budget, capacity, lane_count}
use Rattle.queues.specs.Queue.{QueueNames, queue_of, front_slot, pop_front, rotate_left}
use Rattle.queues.specs.Registry.{free_of}
use Rattle.ready.specs.Ready.{Linked}
use Rattle.turns.specs.declared.turn.Took.{Took}
use Rattle.store.specs.View.{flag}
use Rattle.store.specs.Registry.{retire_lane}
use Rattle.std.specs.declared.ops.ControlFlow.{ControlFlow}
use Rattle.std.specs.declared.ops.ControlFlow.TheVariants.{Continue, Break}

-- the number of registered lanes
unfoldable pub registered_in : List ℕ → ℕ
registered_in t = length (keep (λ x. flag (lane_at t x).registered) (from 0 (issued t)))

-- What the turns of a receive ask of the table, and keep from turn to turn: of a store in order, what says nothing of windows, marks and budget.
pub record Turning (t : List ℕ) : Type 0 where
  pub shaped : Shaped t
  pub power : Capacity (capacity t)
  pub names : QueueNames t
  pub linked : Linked t
  pub lanes : (x : ℕ) → x < issued t → (lane_at t x).registered ≡ 1 → InOrder (capacity t) (lane_at t x)
  -- what the queue names is a registered lane
  pub queued_registered : (x : ℕ) → 1 ≤ count x (queue_of t) → (lane_at t x).registered ≡ 1
  -- "Free slots are distinct, hold no lane"
  pub free_once : (x : ℕ) → count x (free_of t) ≤ 1
  pub free_issued : (x : ℕ) → 1 ≤ count x (free_of t) → x < issued t
  pub free_unregistered : (x : ℕ) → 1 ≤ count x (free_of t) → (lane_at t x).registered ≡ 1 → ⊥
  -- "counts of lanes [..] are true"
  pub counted : lane_count t ≡ registered_in t

-- "a ring store of at least S × C u64 words"
abbrev pub Ringed : List ℕ → List ℕ → Type 0
Ringed t r = slots t * capacity t ≤ length r

-- the lane in front
abbrev pub front_lane : List ℕ → Lane
front_lane t = lane_at t (front_slot t)

unfoldable pub retire_if : Bool → List ℕ → Lane → List ℕ
retire_if dropped t l = cond dropped (retire_lane t l) t

-- "lanes may settle or retire on the way": the front lane, found empty, leaves the queue, and retires if its sender is dropped
unfoldable pub settle_empty_front : List ℕ → EmptyLane → List ℕ
settle_empty_front t found = retire_if found.disconnected (pop_front (put_lane t found.lane)) found.lane

-- "but 64 where a non-empty queue met a budget of 0, before the poll loop or in it"
unfoldable pub meet_budget : List ℕ → List ℕ
meet_budget t = cond (eqb (queue_count t) 0) t (cond (eqb (budget t) 0) (set_budget t 64) t)

-- "The port sets the budget to 64 just before that subtraction, when an item is in fact taken"
unfoldable pub less_one : ℕ → ℕ
less_one n = cond (eqb n 0) 63 (n - 1)

-- "A lane that reaches a burst of 64 goes to the back."
unfoldable pub rotate_if : Bool → List ℕ → List ℕ
rotate_if rotate t = cond rotate (rotate_left t) t

unfoldable pub gave_front : List ℕ → Bool → Lane → List ℕ
gave_front t rotate l = set_budget (rotate_if rotate (put_lane t l)) (less_one (budget t))

unfoldable pub turn_by : List ℕ → Result LanePoll EmptyLane → ControlFlow (Option Took) (Unit {0}) × List ℕ
turn_by t (Ok p) = (Break (Some (record { item = p.item; key = p.lane.key })), gave_front t p.rotate p.lane)
turn_by t (Err found) = (Continue tt, meet_budget (settle_empty_front t found))

-- One turn: the front lane gives an item, or is empty and leaves. Fair: "one item of the front lane, which goes to the back".
unfoldable pub poll_front : List ℕ → List ℕ → Bool → ControlFlow (Option Took) (Unit {0}) × List ℕ
poll_front t r fair =
    cond (eqb (queue_count t) 0) (Break None, t)
    (turn_by t (poll (new_ring (front_slot t) (capacity t)) r fair (front_lane t)))

-- what follows a turn that handed nothing out
unfoldable pub after_turn : ControlFlow (Option Took) (Unit {0}) × List ℕ → Option Took × List ℕ → Option Took × List ℕ
after_turn (Break took, t) more = (took, t)
after_turn (Continue u, t) more = more

-- "which goes on until it has an item or nothing is queued": n lanes at most can leave a queue of n
unfoldable pub turns_within : ℕ → List ℕ → List ℕ → Bool → Option Took × List ℕ
turns_within zero t r fair = (None, t)
turns_within (suc n) t r fair = let u = poll_front t r fair in after_turn u (turns_within n u.1 r fair)

unfoldable pub turns : List ℕ → List ℕ → Bool → Option Took × List ℕ
turns t r fair = turns_within (queue_count t) t r fair
