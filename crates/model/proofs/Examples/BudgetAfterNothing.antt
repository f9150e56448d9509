-- The poll budget after receives that hand out nothing, computed: by the call itself, by the state before it, and by its events.
-- Assumes nothing.
use Rattle.std.specs.Prelude.{refl, Bool, true, false, List, [], ◌∷◌, map, ℕ, leb}
use Rattle.model.specs.declared.LaneKey.{LaneKey}
use Rattle.model.specs.declared.ReceiveCall.{ReceiveCall}
use Rattle.model.specs.declared.ReceiveCall.TheVariants.{TryRecv, TryRecvFair, TryRecvFrom, TryRecvBatchInto, TryRecvBatchIntoWhile}
use Rattle.model.specs.declared.Call.TheVariants.{Receive}
use Rattle.model.specs.declared.Answer.{Answer}
use Rattle.model.specs.declared.Answer.TheVariants.{Items, Empty, Disconnected}
use Rattle.model.specs.Lists.{if, count}
use Rattle.model.specs.State.{State}
use Rattle.model.specs.Receive.{receive_outcome}
use Rattle.model.specs.Events.{budget_set, collected, none_marked, found_empty, item_taken, went_to_back, call_events, count_events}
use Rattle.model.specs.BudgetAfterNothing.{budget_left_by, budget_left, sets_budget}
use Rattle.model.specs.Examples.Pairs.{Reads, Always}
use Rattle.model.proofs.Examples.Events.{compute_events}

-- Three lanes without items: the budget is b, lanes q are queued, and of the others `ready` are pending with their page bits set.
lanes : Bool → List ℕ → ℕ → List ℕ → List ℕ → State
lanes living paused b q ready = record {
  slot_of = λ x. record {
    registered = leb x 2;
    living = living;
    paused = leb 1 (count x paused);
    pending = leb 1 (count x ready);
    marked = leb 1 (count x ready);
    generation = 0;
    ring = [];
    unreleased = 0;
    burst = 0;
  };
  queue = q;
  free = [];
  issued = 3;
  budget = b;
  cursor = 0;
  is_open = true;
  capacity = 4;
  slots = 3;
  channel = record { id = 7; opening = 0 };
  first_generation = 0;
}

-- their senders live, and none is paused;
at : ℕ → List ℕ → List ℕ → State
at b q ready = lanes true [] b q ready

-- their senders are dropped, so that lanes found empty retire; lane 0 is paused, and retires at the end.
dropped : ℕ → List ℕ → List ℕ → State
dropped b q ready = lanes false (0 ∷ []) b q ready

batch : ℕ → ReceiveCall
batch limit = TryRecvBatchInto limit 9

batch_while : ℕ → ReceiveCall
batch_while limit = TryRecvBatchIntoWhile limit 5 9

targeted : ReceiveCall
targeted = TryRecvFrom record { channel = record { id = 7; opening = 0 }; key = record { slot = 0; generation = 0 } }

-- the state before, the call, and the budget after it
cases : List ((State × ReceiveCall) × ℕ)
cases =
    -- plain: any other budget than 0 is as it was,
    ((at 60 [] [], TryRecv), 60)
    ∷ ((at 60 (0 ∷ 1 ∷ []) [], TryRecv), 60)
    ∷ ((at 1 (0 ∷ []) (1 ∷ 2 ∷ []), TryRecv), 1)
    ∷ ((at 64 [] (0 ∷ 1 ∷ 2 ∷ []), TryRecv), 64)
    -- "0 where it was 0": nothing is queued, and no lane or one is ready,
    ∷ ((at 0 [] [], TryRecv), 0)
    ∷ ((at 0 [] (1 ∷ []), TryRecv), 0)
    -- "but 64 where a non-empty queue met a budget of 0, before the poll loop"
    ∷ ((at 0 (0 ∷ []) [], TryRecv), 64)
    ∷ ((at 0 (0 ∷ []) (1 ∷ []), TryRecv), 64)
    -- "or in it": two lanes are ready, and three
    ∷ ((at 0 [] (1 ∷ 2 ∷ []), TryRecv), 64)
    ∷ ((at 0 [] (0 ∷ 1 ∷ 2 ∷ []), TryRecv), 64)
    -- "fair, always 64"
    ∷ ((at 60 [] [], TryRecvFair), 64)
    ∷ ((at 1 (0 ∷ []) (1 ∷ []), TryRecvFair), 64)
    ∷ ((at 0 [] [], TryRecvFair), 64)
    ∷ ((at 0 [] (1 ∷ []), TryRecvFair), 64)
    -- a batch as plain; of limit 0 as it was
    ∷ ((at 60 (0 ∷ []) (1 ∷ []), batch 3), 60)
    ∷ ((at 0 [] [], batch 3), 0)
    ∷ ((at 0 [] (1 ∷ []), batch 3), 0)
    ∷ ((at 0 (0 ∷ []) [], batch 3), 64)
    ∷ ((at 0 [] (1 ∷ 2 ∷ []), batch 1), 64)
    ∷ ((at 0 (0 ∷ []) (1 ∷ 2 ∷ []), batch 0), 0)
    ∷ ((at 60 (0 ∷ []) (1 ∷ []), batch_while 3), 60)
    ∷ ((at 0 [] (1 ∷ []), batch_while 3), 0)
    ∷ ((at 0 [] (1 ∷ 2 ∷ []), batch_while 1), 64)
    ∷ ((at 0 (0 ∷ []) (1 ∷ 2 ∷ []), batch_while 0), 0)
    -- targeted: as it was
    ∷ ((at 60 (0 ∷ []) [], targeted), 60)
    ∷ ((at 0 (0 ∷ 1 ∷ []) (2 ∷ []), targeted), 0)
    -- lanes that retire on the way, and at the end, are found empty like others
    ∷ ((dropped 60 (1 ∷ 2 ∷ []) [], TryRecv), 60)
    ∷ ((dropped 0 [] [], TryRecv), 0)
    ∷ ((dropped 0 [] (1 ∷ []), TryRecv), 0)
    ∷ ((dropped 0 (1 ∷ []) (2 ∷ []), TryRecv), 64)
    ∷ ((dropped 0 [] (1 ∷ 2 ∷ []), TryRecv), 64)
    ∷ ((dropped 0 [] (1 ∷ 2 ∷ []), TryRecvFair), 64)
    ∷ ((dropped 0 [] (1 ∷ 2 ∷ []), batch 3), 64)
    ∷ ((dropped 0 [] (1 ∷ []), batch 3), 0)
    ∷ ((dropped 0 (1 ∷ []) [], targeted), 0)
    ∷ []

items : State × ReceiveCall → List (LaneKey × ℕ)
items c = (receive_outcome c.0 c.1).0

after : State × ReceiveCall → ℕ
after c = (receive_outcome c.0 c.1).1.1.budget

by_state : State × ReceiveCall → ℕ
by_state c = budget_left c.0 c.1

by_events : State × ReceiveCall → ℕ
by_events c = if (leb 1 (count_events sets_budget (call_events c.0 (Receive c.1)))) 64 c.0.budget

compute_cases : Unit {0}
unfolding compute_events lanes at dropped batch batch_while targeted cases items after by_state by_events count_events budget_left_by budget_left sets_budget
compute_cases = tt

nothing_handed : Always items [] (map (λ c. c.0) cases)
unfolding compute_cases
nothing_handed = refl

budget_after_read : Reads after cases
unfolding compute_cases
budget_after_read = refl

budget_left_read : Reads by_state cases
unfolding compute_cases
budget_left_read = refl

events_set_read : Reads by_events cases
unfolding compute_cases
events_set_read = refl

-- the answers; where all senders are dropped, lane 0 is seen to retire with nothing else left
answer : State × ReceiveCall → Answer
answer c = (receive_outcome c.0 c.1).1.0

answers_read :
    Reads answer
    (((at 0 [] [], TryRecv), Empty)
    ∷ ((at 0 [] [], batch 0), Items 0)
    ∷ ((dropped 0 [] (1 ∷ []), TryRecv), Empty)
    ∷ ((dropped 0 [] (1 ∷ 2 ∷ []), TryRecv), Disconnected)
    ∷ ((dropped 0 (1 ∷ []) [], targeted), Disconnected)
    ∷ [])
unfolding compute_cases answer
answers_read = refl

lane : LaneKey
lane = record { slot = 1; generation = 0 }

sets_budget_read :
    Reads sets_budget
    ((budget_set, true)
    ∷ (collected, false)
    ∷ (none_marked, false)
    ∷ (found_empty lane, false)
    ∷ (item_taken lane, false)
    ∷ (went_to_back lane, false)
    ∷ [])
unfolding lane sets_budget
sets_budget_read = refl
