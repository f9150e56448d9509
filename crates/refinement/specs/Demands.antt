-- What is claimed of lists of calls on the two stores, made from an opening on, each on the words as the last one left them.
-- The claims are crate `model`'s (its specs/Demand1.antt, Demand2.antt, Demand3.antt, Stops.antt, EqualTurns.antt, FreePlaces.antt, LaneIds.antt,
-- Renumbered.antt, RowWords.antt, Closed.antt, Held.antt, Wake.antt, Keys.antt), here of the words that the calls' contracts name.
-- Assumes nothing.
use Rattle.std.specs.Prelude.{cond, List, [], ℕ, eqb, ltb}
use Rattle.model.specs.declared.LaneKey.{LaneKey}
use Rattle.model.specs.Runs.{RunsOf}
use Rattle.model.specs.Simulation.{runs_that_fit}
use Rattle.model.specs.Demand2.{Demand2In, HandsAsAnsweredIn}
use Rattle.model.specs.Demand3.{Demand3In, Demand3UnstoppedIn}
use Rattle.model.specs.Stops.{StopsOnlyAtItemsIn, NextIsAboveIn, HandsOnlyAdmittedIn}
use Rattle.model.specs.EqualTurns.{EqualTurnsIn}
use Rattle.model.specs.FreePlaces.{FreePlacesIn, NotFullBeforeIn}
use Rattle.model.specs.LaneIds.{OpeningsToldApartIn, SavedIdsRefusedIn}
use Rattle.model.specs.Renumbered.{NumberOnlyTellsIdsIn}
use Rattle.model.specs.RowWords.{AnswersAsBeforeIn}
use Rattle.model.specs.Closed.{NoneAfterCloseIn}
use Rattle.model.specs.Held.{HeldAsCountedIn}
use Rattle.model.specs.Wake.{NoLostWakeIn, NothingWaitsIn}
use Rattle.model.specs.Keys.{KeysNeverAgainIn, IssuedAsAnsweredIn}
use Rattle.yring.specs.Ring.{new_ring}
use Rattle.lane.specs.Lane.{held_items}
use Rattle.lane.specs.Table.{lane_at}
use Rattle.queues.specs.Header.{issued, capacity}
use Rattle.refinement.specs.Runs.{inner_calls, the_stores}
use Rattle.refinement.specs.Refusals.{RefusalsLeaveAll}
use Rattle.refinement.specs.AsRules.{EachCallAsRules, ListsAsRules, ExamplesOf, CreditOf}

-- The items in the ring of the lane with this key, oldest first; none if no lane has it.
unfoldable pub items_in : List ℕ → List ℕ → LaneKey → List ℕ
items_in t r k =
    cond (ltb k.slot (issued t))
    (cond (eqb (lane_at t k.slot).registered 1)
    (cond (eqb (lane_at t k.slot).key.generation k.generation) (held_items (new_ring k.slot (capacity t)) r (lane_at t k.slot)) [])
    [])
    []

-- All runs of code: an opening and calls, and whatever words the two stores hold before the opening. The first cursor is a u64, as every number of code is.
abbrev pub runs : RunsOf the_stores
runs = runs_that_fit the_stores

-- demand 1: "a refusal leaves state, both stores and the output unchanged", of any words, in order or not
abbrev pub RefusalsChangeNothing : Type 0
RefusalsChangeNothing = RefusalsLeaveAll inner_calls

-- demand 2: "items handed out of a lane never closed and then items still in its ring are its accepted sends, in order"
abbrev pub ItemsInOrder : Type 0
ItemsInOrder = Demand2In the_stores runs (λ w. items_in w.0 w.1)

-- what is handed out is what is answered, and a batch's output has it in order
abbrev pub AnswersTell : Type 0
AnswersTell = HandsAsAnsweredIn the_stores runs

-- demand 3: how long a lane with an ordinarily sent item can wait
abbrev pub LanesWaitBounded : Type 0
LanesWaitBounded = Demand3In the_stores runs

-- document 02, N2: "demand 3's bounds cover stretches in which no batch was stopped". The demand above covers those with stopped batches too
abbrev pub LanesWaitUnstopped : Type 0
LanesWaitUnstopped = Demand3UnstoppedIn the_stores runs

-- document 02, N2: only a batch with a bound answers that it stopped, only below its limit, where an unpaused, unclosed lane's oldest item is above its bound
abbrev pub StopsOnlyAtItems : Type 0
StopsOnlyAtItems = StopsOnlyAtItemsIn the_stores runs

-- an item above its bound is what a plain receive hands out right after the stop
abbrev pub NextIsAbove : Type 0
NextIsAbove = NextIsAboveIn the_stores runs

-- and it hands out none above it
abbrev pub HandsOnlyAdmitted : Type 0
HandsOnlyAdmitted = HandsOnlyAdmittedIn the_stores runs

-- document 02, N10: while two lanes wait and items go out by fair receives and by targeted ones of other lanes, "the items handed out of the one and of the other
-- differ by at most one at every moment"
abbrev pub LanesShareEqually : Type 0
LanesShareEqually = EqualTurnsIn the_stores runs

-- document 02, N1: an accepted send says "how many further sends the ring would take with no other call between"
abbrev pub FreePlacesSaid : Type 0
FreePlacesSaid = FreePlacesIn the_stores runs

-- and with other calls between, a send to the lane is refused 11 only once so many more were accepted
abbrev pub NotFullBefore : Type 0
NotFullBefore = NotFullBeforeIn the_stores runs

-- document 02, N7: a call by an id with another channel or opening number is refused, and every item's id carries this opening's
abbrev pub OpeningsToldApart : Type 0
OpeningsToldApart = OpeningsToldApartIn the_stores runs

-- so "an id saved for the earlier patient" is refused by every call after an opening with another number
abbrev pub SavedIdsRefused : Type 0
SavedIdsRefused = SavedIdsRefusedIn the_stores runs

-- and the number does nothing else: with another one, in the opening and in the calls' ids, a run is the same but for the number in the items' ids, outputs too
abbrev pub NumberOnlyTellsIds : Type 0
NumberOnlyTellsIds = NumberOnlyTellsIdsIn the_stores runs

-- document 02, N9: "Answers of every run, the stores otherwise untouched, are those of before where the opening was accepted under both lengths."
abbrev pub AnswersAsBefore : Type 0
AnswersAsBefore = AnswersAsBeforeIn the_stores runs

-- "closed by an accepted `close_lane`, after which none of its items is handed out"
abbrev pub NoneAfterClose : Type 0
NoneAfterClose = NoneAfterCloseIn the_stores runs

-- held is the number of accepted sends less items handed out, of lanes not closed
abbrev pub HeldIsCounted : Type 0
HeldIsCounted = HeldAsCountedIn the_stores runs

-- "the first accepted ordinary send to an unpaused lane answers woken 1" after an answer on which a receiver may sleep
abbrev pub NoLostWake : Type 0
NoLostWake = NoLostWakeIn the_stores runs

-- and where it may sleep nothing waits for it: no unpaused lane holds an ordinarily sent item
abbrev pub NothingWaits : Type 0
NothingWaits = NothingWaitsIn the_stores runs

-- a registration never answers a key that was answered before in the run
abbrev pub KeysNeverAgain : Type 0
KeysNeverAgain = KeysNeverAgainIn the_stores runs

-- the issued slots are those of the answers
abbrev pub IssuedAsAnswered : Type 0
IssuedAsAnswered = IssuedAsAnsweredIn the_stores runs (λ w. issued w.0)

-- demand 2: "each call is proved to do what document 01's rules say", in answer, state, items, lanes and output
abbrev pub CallsSimulate : Type 0
CallsSimulate = EachCallAsRules inner_calls

-- a list of calls from an accepted opening on is the rules' run
abbrev pub TraceAsRules : Type 0
TraceAsRules = ListsAsRules inner_calls

-- document 01's examples, of the calls
abbrev pub ExamplesHold : Type 0
ExamplesHold = ExamplesOf inner_calls

-- the release batch of every capacity, of the calls
abbrev pub CreditByTable : Type 0
CreditByTable = CreditOf inner_calls
