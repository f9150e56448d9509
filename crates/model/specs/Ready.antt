-- The section "Ready marks": groups, and collecting the lanes that are marked.
-- Assumes nothing.
use Rattle.std.specs.Prelude.{Bool, List, [], ◌∷◌, ◌++◌, ℕ, suc, ◌+◌, ◌-◌, ◌/◌, ltb, eqb}
use Rattle.model.specs.Lists.{if, both, non_empty, keep, from}
use Rattle.model.specs.State.{State, may_queue}
use Rattle.model.specs.Changes.{with_slots, with_queue, with_cursor, unmarked}

-- "64 lanes to a page, 64 pages to a group."
unfoldable pub group_of : ℕ → ℕ
group_of x = x / 4096

-- "A page or group exists once a slot of it has been issued." Of n issued slots, the number of groups.
unfoldable pub groups_in : ℕ → ℕ
groups_in n = (n + 4095) / 4096

-- "in each word lowest bit first": the marked slots of group g, ascending.
unfoldable pub marks : State → ℕ → List ℕ
marks s g = keep (λ x. both (s.slot_of x).marked (eqb (group_of x) g)) (from 0 s.issued)

-- "a lane that is pending, unpaused and unqueued"
unfoldable pub is_ready : State → ℕ → Bool
is_ready s x = both (s.slot_of x).pending (may_queue s x)

-- "Taking a page or group reads it and leaves 0."
-- "queues a lane that is pending, unpaused and unqueued. The cursor then stands just after the last group that had bits."
unfoldable pub collect_marks : List ℕ → State → ℕ → State
collect_marks [] s g = s
collect_marks (m ∷ ms) s g =
    with_cursor (suc g)
    (with_queue (s.queue ++ keep (is_ready s) (m ∷ ms))
    (with_slots (λ y. if (eqb (group_of y) g) (unmarked (s.slot_of y)) (s.slot_of y)) s))

unfoldable pub collect_group : State → ℕ → State
collect_group s g = collect_marks (marks s g) s g

-- "Collecting goes from the group cursor round"; a cursor past the last group starts at 0.
unfoldable pub start_group : State → ℕ
start_group s = if (ltb s.cursor (groups_in s.issued)) s.cursor 0

unfoldable pub groups_round : State → List ℕ
groups_round s = from (start_group s) (groups_in s.issued - start_group s) ++ from 0 (start_group s)

-- "Collecting one group stops after the first that had any."
unfoldable pub collect_first : List ℕ → State → State
collect_first [] s = s
collect_first (g ∷ gs) s = if (non_empty (marks s g)) (collect_group s g) (collect_first gs s)

unfoldable pub collect_each : List ℕ → State → State
collect_each [] s = s
collect_each (g ∷ gs) s = collect_each gs (collect_group s g)

unfoldable pub collect_ready_group : State → State
collect_ready_group s = collect_first (groups_round s) s

unfoldable pub collect_ready : State → State
collect_ready s = collect_each (groups_round s) s
