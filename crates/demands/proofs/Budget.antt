-- The poll budget is 64 less the items since its last setting, after every run; and those items are the ones handed out.
-- Assumes nothing.
use mathlib.Core.Path.{◌≡◌, refl, ap, sym, ◌∙◌}
use mathlib.Core.Bool.{Bool, true, false}
use mathlib.Core.List.{List, [], ◌∷◌, ◌++◌, map, append-nil}
use Prim.Native.Nat.{ℕ, zero, suc}
use native.Mathlib.Omega.{arith}
use lib.ListN.{length, length-map}
use lib.Dec.{leb}
use Rattle.model.specs.declared.LaneKey.{LaneKey}
use Rattle.model.specs.declared.ReceiveCall.{ReceiveCall}
use Rattle.model.specs.declared.ReceiveCall.TheVariants.{TryRecv, TryRecvFair, TryRecvFrom, TryRecvBatchInto, TryRecvBatchIntoWhile}
use Rattle.model.specs.declared.Call.TheVariants.{Receive}
use Rattle.model.specs.declared.Refusal.{Refusal}
use Rattle.model.specs.declared.Answer.TheVariants.{Refused}
use Rattle.model.specs.Lists.{if, either, non_empty}
use Rattle.model.specs.State.{State, key_of}
use Rattle.model.specs.Changes.{with_budget}
use Rattle.model.specs.Ready.{collect_ready}
use Rattle.model.specs.Turn.{settle_empty, before_next_turn, run_down, give_oldest, give_front, polled, take_one, take_fair}
use Rattle.model.specs.Outcome.{Outcome}
use Rattle.model.specs.Runs.{accepted}
use Rattle.model.specs.Receive.{answer_one, and_more, take_up_to, release_all, answer_items, try_recv, try_recv_fair, try_recv_from, try_recv_batch_into, receive_outcome, take_while, answer_while, try_recv_batch_into_while}
use Rattle.model.specs.Rules.{outcome}
use Rattle.model.specs.Events.{Event, budget_set, collected, none_marked, found_empty, item_taken, went_to_back, any_marked, collect_event, refill_events, before_next_turn_events, run_down_from_events, run_down_events, back_events, give_oldest_events, give_front_events, collect_if_due_events, collect_if_none_queued_events, polled_events, take_one_events, take_fair_events, and_more_events, take_up_to_events, take_from_events, receive_events, call_events, run_events, takes_item, count_events, lanes_of_items, halted_events, take_while_events}
use Rattle.model.specs.Budget.{items_counted_from, items_since_set, BudgetCountsItems, is_targeted, EventsTell}
use Rattle.model.specs.Viewed.{rules_viewed, rules_on_any_state}
use Rattle.demands.proofs.Moves.{unless_law, nothing_taken_gives_none}
use Rattle.demands.proofs.Events.{Tally, next, tally}
use Rattle.demands.proofs.EventsOfRuns.{zeros, run_pass, answer_one_answered, answer_items_answered}
use Rattle.demands.proofs.StopLaws.{while_law}

pub counted_from : (k : LaneKey) (T : Tally) (es : List Event) → (tally k T es).since_set ≡ items_counted_from T.since_set es
unfolding tally next items_counted_from
counted_from k T [] = refl
counted_from k T (budget_set ∷ es) = counted_from k (next k T budget_set) es
counted_from k T (collected ∷ es) = counted_from k (next k T collected) es
counted_from k T (none_marked ∷ es) = counted_from k (next k T none_marked) es
counted_from k T (found_empty j ∷ es) = counted_from k (next k T (found_empty j)) es
counted_from k T (item_taken j ∷ es) = counted_from k (next k T (item_taken j)) es
counted_from k T (went_to_back j ∷ es) = counted_from k (next k T (went_to_back j)) es

pub budget_counts_items : BudgetCountsItems rules_viewed
unfolding BudgetCountsItems items_since_set
budget_counts_items o lent a calls any =
    let k : LaneKey = record { slot = 0; generation = 0 } in
    let b = (run_pass k o lent a calls).at_end.by_budget in
    let e = counted_from k zeros (run_events rules_viewed o lent calls) in
    (omega (arith, b, e), omega (arith, b, e))

-- the lanes of the items in a list of events
lanes_append : (es fs : List Event) → lanes_of_items (es ++ fs) ≡ lanes_of_items es ++ lanes_of_items fs
unfolding lanes_of_items
lanes_append [] fs = refl
lanes_append (budget_set ∷ es) fs = lanes_append es fs
lanes_append (collected ∷ es) fs = lanes_append es fs
lanes_append (none_marked ∷ es) fs = lanes_append es fs
lanes_append (found_empty k ∷ es) fs = lanes_append es fs
lanes_append (item_taken k ∷ es) fs = ap (λ (l : List LaneKey). k ∷ l) (lanes_append es fs)
lanes_append (went_to_back k ∷ es) fs = lanes_append es fs

-- events without an item, and then others
none_then : (es fs : List Event) → lanes_of_items es ≡ [] → lanes_of_items (es ++ fs) ≡ lanes_of_items fs
none_then es fs e = lanes_append es fs ∙ ap (λ (l : List LaneKey). l ++ lanes_of_items fs) e

refill_none : (n : ℕ) → lanes_of_items (refill_events n) ≡ []
unfolding lanes_of_items refill_events
refill_none zero = refl
refill_none (suc n) = refl

before_next_turn_none : (q : List ℕ) (s : State) → lanes_of_items (before_next_turn_events q s) ≡ []
unfolding lanes_of_items before_next_turn_events
before_next_turn_none [] s = refl
before_next_turn_none (y ∷ q) s = refill_none s.budget

run_down_from_none : (q : List ℕ) (s : State) → lanes_of_items (run_down_from_events q s) ≡ []
unfolding lanes_of_items run_down_from_events
run_down_from_none [] s = refl
run_down_from_none (y ∷ q) s = go (non_empty (s.slot_of y).ring) (none_then (before_next_turn_events q u) _ (before_next_turn_none q u) ∙ run_down_from_none q (before_next_turn q u))
  where
    u : State
    u = settle_empty y q s

    go : (b : Bool) → lanes_of_items (before_next_turn_events q u ++ run_down_from_events q (before_next_turn q u)) ≡ []
        → lanes_of_items (if b [] (found_empty (key_of s y) ∷ before_next_turn_events q u ++ run_down_from_events q (before_next_turn q u))) ≡ []
    go true e = refl
    go false e = e

run_down_none : (s : State) → lanes_of_items (run_down_events s) ≡ []
unfolding run_down_events
run_down_none s = run_down_from_none s.queue s

-- a collection is no item
collect_then : (s : State) (es : List Event) → lanes_of_items (collect_event s ∷ es) ≡ lanes_of_items es
unfolding lanes_of_items collect_event
collect_then s es = go (any_marked s)
  where
    go : (b : Bool) → lanes_of_items (if b collected none_marked ∷ es) ≡ lanes_of_items es
    go true = refl
    go false = refl

collect_if_due_none : (n : ℕ) (q : List ℕ) (s : State) → lanes_of_items (collect_if_due_events n q s) ≡ []
unfolding lanes_of_items collect_if_due_events
collect_if_due_none zero [] s = refl
collect_if_due_none zero (y ∷ q) s = collect_then s (budget_set ∷ [])
collect_if_due_none (suc n) q s = refl

collect_if_none_queued_none : (q : List ℕ) (s : State) → lanes_of_items (collect_if_none_queued_events q s) ≡ []
unfolding lanes_of_items collect_if_none_queued_events
collect_if_none_queued_none [] s = collect_then s (run_down_events (collect_ready s)) ∙ run_down_none (collect_ready s)
collect_if_none_queued_none (y ∷ q) s = refl

polled_none : (s : State) → lanes_of_items (polled_events s) ≡ []
unfolding polled_events
polled_none s = none_then _ _ (collect_if_due_none s.budget s.queue s) ∙ none_then _ _ (run_down_none _) ∙ collect_if_none_queued_none _ _

-- the front lane gives nothing, or one item
data AtMostOne : List (LaneKey × ℕ) → List LaneKey → Type 0 where
  no_item : AtMostOne [] []
  one_item : (g : LaneKey × ℕ) → AtMostOne (g ∷ []) (g.0 ∷ [])

give_front_lanes : (f : Bool) (s : State) (q : List ℕ) → AtMostOne (give_front f s q).0 (lanes_of_items (give_front_events f s q))
unfolding give_front give_front_events give_oldest give_oldest_events back_events lanes_of_items
give_front_lanes f s [] = no_item
give_front_lanes f s (y ∷ q) = go (s.slot_of y).ring
  where
    back_none : (b : Bool) (k : LaneKey) → lanes_of_items (item_taken k ∷ back_events b k) ≡ k ∷ []
    back_none true k = refl
    back_none false k = refl

    go : (l : List ℕ) → AtMostOne (give_oldest s f y q l).0 (lanes_of_items (give_oldest_events s f y l))
    go [] = no_item
    go (v ∷ vs) = rw (none_then (refill_events s.budget) (item_taken (key_of s y) ∷ back_events (either f (leb 63 (s.slot_of y).burst)) (key_of s y)) (refill_none s.budget) ∙ back_none (either f (leb 63 (s.slot_of y).burst)) (key_of s y)) (one_item (key_of s y, v))

take_one_lanes : (s : State) → AtMostOne (take_one s).0 (lanes_of_items (take_one_events s))
unfolding take_one take_one_events
take_one_lanes s = rw (none_then (polled_events s) (give_front_events false (polled s) (polled s).queue) (polled_none s)) (give_front_lanes false (polled s) _)

take_fair_lanes : (s : State) → AtMostOne (take_fair s).0 (lanes_of_items (take_fair_events s))
unfolding take_fair take_fair_events lanes_of_items
take_fair_lanes s =
    let full = with_budget 64 (collect_ready s) in
    let fs = give_front_events true (run_down full) (run_down full).queue in
    rw (collect_then s (budget_set ∷ run_down_events full ++ fs) ∙ none_then (run_down_events full) fs (run_down_none full)) (give_front_lanes true (run_down full) _)

take_up_to_lanes : (m : ℕ) (s : State) → lanes_of_items (take_up_to_events m s) ≡ map (λ g. g.0) (take_up_to m s).0
unfolding take_up_to take_up_to_events and_more and_more_events lanes_of_items
take_up_to_lanes zero s = refl
take_up_to_lanes (suc m) s = lanes_append (take_one_events s) _ ∙ go (take_up_to_events m (take_one s).1) (take_one s).1 (take_one_lanes s) (take_up_to_lanes m (take_one s).1)
  where
    go : {l : List (LaneKey × ℕ)} {ks : List LaneKey} (es : List Event) (t : State) → AtMostOne l ks → lanes_of_items es ≡ map (λ g. g.0) (take_up_to m t).0
        → ks ++ lanes_of_items (and_more_events l es) ≡ map (λ g. g.0) (and_more l t (take_up_to m t)).0
    go es t no_item e = refl
    go es t (one_item g) e = ap (λ (l : List LaneKey). g.0 ∷ l) e

-- a stop hands out no item
halted_lanes : (n : ℕ) (s : State) → lanes_of_items (halted_events n s) ≡ map (λ g. g.0) (take_up_to n s).0
unfolding halted_events
halted_lanes n s =
    let u = (take_up_to n s).1 in
    let none : lanes_of_items (polled_events u ++ refill_events (polled u).budget) ≡ [] = none_then (polled_events u) (refill_events (polled u).budget) (polled_none u) ∙ refill_none (polled u).budget in
    lanes_append (take_up_to_events n s) (polled_events u ++ refill_events (polled u).budget) ∙ ap (λ (l : List LaneKey). lanes_of_items (take_up_to_events n s) ++ l) none ∙ append-nil (lanes_of_items (take_up_to_events n s)) ∙ take_up_to_lanes n s

-- the answer hands out what was taken
Handed : List Event → Outcome → Type 0
Handed es o = lanes_of_items (if (accepted o.1.0) es []) ≡ map (λ g. g.0) o.0

refused_handed : (es : List Event) (s : State) (n : Refusal) → Handed es ([], (Refused n, s))
unfolding Handed accepted lanes_of_items
refused_handed es s n = refl

answer_one_handed : (es : List Event) (l : List (LaneKey × ℕ)) (s : State) → AtMostOne l (lanes_of_items es) → Handed es (answer_one l s)
unfolding Handed answer_one
answer_one_handed es l s a = rw (answer_one_answered l s).is_accepted (go l (lanes_of_items es) a)
  where
    go : (l : List (LaneKey × ℕ)) (ks : List LaneKey) → AtMostOne l ks → ks ≡ map (λ g. g.0) (answer_one l s).0
    go l ks no_item = sym (ap (map (λ g. g.0)) (nothing_taken_gives_none s))
    go l ks (one_item g) = refl

answer_items_handed : (es : List Event) (m : ℕ) (l : List (LaneKey × ℕ)) (s : State) → lanes_of_items es ≡ map (λ g. g.0) l → Handed es (answer_items m l (release_all s))
unfolding Handed answer_items
answer_items_handed es m l s e = rw (answer_items_answered m l s).is_accepted (e ∙ ap (map (λ g. g.0)) (sym (go m l)))
  where
    go : (m : ℕ) (l : List (LaneKey × ℕ)) → (answer_items m l (release_all s)).0 ≡ l
    go zero l = refl
    go (suc m) [] = nothing_taken_gives_none (release_all s)
    go (suc m) (g ∷ l) = refl

while_handed : (b m : ℕ) (s : State) → let t = take_while b m s in Handed (take_while_events b m s) (answer_while m t.0 t.1.0 (release_all t.1.1))
unfolding answer_while Handed accepted
while_handed b m s =
    while_law (λ t es. Handed es (answer_while m t.0 t.1.0 (release_all t.1.1))) b m s
    (λ all. answer_items_handed _ m _ _ (take_up_to_lanes m s)) (λ n w. halted_lanes n s)

take_from_none : (s : State) (l : List ℕ) (x : ℕ) (b : Bool) → lanes_of_items (if b (take_from_events l x s) []) ≡ []
unfolding lanes_of_items take_from_events
take_from_none s l x false = refl
take_from_none s [] x true = refl
take_from_none s (v ∷ vs) x true = refl

items_as_handed : (s : State) (r : ReceiveCall) → lanes_of_items (call_events s (Receive r)) ≡ if (is_targeted r) [] (map (λ g. g.0) (receive_outcome s r).0)
unfolding Handed is_targeted call_events receive_events outcome receive_outcome try_recv try_recv_fair try_recv_batch_into try_recv_batch_into_while
items_as_handed s TryRecv = unless_law (Handed (take_one_events s)) _ s _ (refused_handed _ s) (λ p. answer_one_handed _ _ _ (take_one_lanes s))
items_as_handed s TryRecvFair = unless_law (Handed (take_fair_events s)) _ s _ (refused_handed _ s) (λ p. answer_one_handed _ _ _ (take_fair_lanes s))
items_as_handed s (TryRecvBatchInto m n) = unless_law (Handed (take_up_to_events m s)) _ s _ (refused_handed _ s) (λ p. answer_items_handed _ m _ _ (take_up_to_lanes m s))
items_as_handed s (TryRecvBatchIntoWhile m b n) = unless_law (Handed (take_while_events b m s)) _ s _ (refused_handed _ s) (λ p. while_handed b m s)
items_as_handed s (TryRecvFrom i) = take_from_none s (s.slot_of i.key.slot).ring i.key.slot (accepted (try_recv_from s i).1.0)

count_lanes : (es : List Event) → count_events takes_item es ≡ length (lanes_of_items es)
unfolding count_events takes_item lanes_of_items
count_lanes [] = refl
count_lanes (budget_set ∷ es) = omega (arith, count_lanes es)
count_lanes (collected ∷ es) = omega (arith, count_lanes es)
count_lanes (none_marked ∷ es) = omega (arith, count_lanes es)
count_lanes (found_empty k ∷ es) = omega (arith, count_lanes es)
count_lanes (item_taken k ∷ es) = omega (arith, count_lanes es)
count_lanes (went_to_back k ∷ es) = omega (arith, count_lanes es)

as_many_as_handed : (s : State) (r : ReceiveCall) → count_events takes_item (call_events s (Receive r)) ≡ if (is_targeted r) 0 (length (receive_outcome s r).0)
as_many_as_handed s r = count_lanes _ ∙ ap length (items_as_handed s r) ∙ go (is_targeted r) (receive_outcome s r).0
  where
    go : (b : Bool) (l : List (LaneKey × ℕ)) → length (if b [] (map (λ g. g.0) l)) ≡ if b 0 (length l)
    go true l = refl
    go false l = length-map l _

pub events_tell : EventsTell rules_on_any_state
events_tell = record { lanes_handed = λ s any r. items_as_handed s r; as_many = λ s any r. as_many_as_handed s r }
