-- No more than 64 items go out between two collections, and what a collection does.
-- Assumes nothing.
use Rattle.std.specs.Prelude.{◌≡◌, true, false, List, ◌++◌, ℕ, suc, ◌+◌, ◌-◌, ◌%◌, ◌≤◌, ◌<◌}
use Rattle.model.specs.declared.Opening.{Opening}
use Rattle.model.specs.declared.Call.{Call}
use Rattle.model.specs.declared.Answer.TheVariants.{Done}
use Rattle.model.specs.Lists.{non_empty}
use Rattle.model.specs.State.{State}
use Rattle.model.specs.Ready.{groups_in, marks, collect_group}
use Rattle.model.specs.Viewed.{Viewed, opening_answer}
use Rattle.model.specs.Events.{Event, any_marked, run_events, collects, finds_none_marked, takes_item, count_events}

-- "while a page bit is set no more than 64 go out between two collections, however plain receives and batches mix"
-- `part` is any part of a run's events without a collection, and in which no look for one finds that no page bit is set.
-- Without that it is false: see `nothing_to_collect` in proofs/Examples/Events.antt, where 65 items go out after the only collection.
unfoldable pub AtMost64BetweenCollections : Viewed → Type 0
AtMost64BetweenCollections W =
    (o : Opening) (lent : W.rules.Stores) → opening_answer W o lent ≡ Done
    → (calls : List Call) → W.runs o lent calls
    → (before part rest : List Event) → run_events W o lent calls ≡ before ++ (part ++ rest)
    → count_events collects part ≡ 0 → count_events finds_none_marked part ≡ 0 → count_events takes_item part ≤ 64

-- "Collecting goes from the group cursor round": how many groups come before group g on the way.
unfoldable pub groups_before : State → ℕ → ℕ
groups_before s g = (g + (groups_in s.issued - s.cursor)) % groups_in s.issued

-- Of any calls W, with the step by which they collect: `collect s` is the state after a collection in state s.
module _ (W : Viewed) (collect : W.rules.State → W.rules.State) where
  -- What collecting one group does while a page bit is set. "Collecting one group stops after the first that had any": it takes group g, which has bits, and no
  -- group on the way before g has. "The cursor then stands just after" it.
  unfoldable pub TakesOneGroup : Type 0
  TakesOneGroup =
      (s : W.rules.State) → W.Ok s → let t = W.view s in let u = W.view (collect s) in any_marked t ≡ true
      → (g : ℕ) × (non_empty (marks t g) ≡ true) × (u ≡ collect_group t g) × (u.cursor ≡ suc g)
      × ((h : ℕ) → h < groups_in t.issued → groups_before t h < groups_before t g → non_empty (marks t h) ≡ false)

  -- Collecting all groups leaves no page bit.
  unfoldable pub TakesAllGroups : Type 0
  TakesAllGroups = (s : W.rules.State) → W.Ok s → any_marked (W.view (collect s)) ≡ false

  -- "The cursor then stands just after the last group that had bits": after g, and no group on the way behind g had any.
  unfoldable pub StandsAfterLast : Type 0
  StandsAfterLast =
      (s : W.rules.State) → W.Ok s → let t = W.view s in any_marked t ≡ true
      → (g : ℕ) × (non_empty (marks t g) ≡ true) × ((W.view (collect s)).cursor ≡ suc g)
      × ((h : ℕ) → h < groups_in t.issued → groups_before t g < groups_before t h → non_empty (marks t h) ≡ false)

  -- With no page bit set a collection changes nothing.
  unfoldable pub NothingToCollect : Type 0
  NothingToCollect = (s : W.rules.State) → W.Ok s → any_marked (W.view s) ≡ false → W.view (collect s) ≡ W.view s

-- All of it, of the two steps: one that collects one group, and one that collects all.
pub record Collecting (W : Viewed) (collect_one collect_all : W.rules.State → W.rules.State) : Type 0 where
  pub takes_one : TakesOneGroup W collect_one
  pub takes_all : TakesAllGroups W collect_all
  pub stands_after_last : StandsAfterLast W collect_all
  pub one_of_none : NothingToCollect W collect_one
  pub all_of_none : NothingToCollect W collect_all
