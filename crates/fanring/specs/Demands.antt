-- What is claimed of the checked calls: of each on any two stores, and of lists of them from an accepted opening on.
-- Most claims are crate `model`'s (its specs/Demand2.antt, Demand3.antt, Stops.antt, EqualTurns.antt, FreePlaces.antt, LaneIds.antt, Renumbered.antt,
-- RowWords.antt, Closed.antt, Held.antt, Wake.antt, Keys.antt), here of the words that the calls' contracts name; others are crate `refinement`'s
-- (its specs/RulesOnWords.antt, AsRules.antt).
-- Assumes nothing.
use Rattle.std.specs.Prelude.{◌≡◌, List, [], ◌∷◌, map, ℕ, ◌+◌, ◌*◌, ◌^◌, ◌≤◌, ◌<◌, length}
use Rattle.model.specs.declared.Opening.{Opening}
use Rattle.model.specs.declared.Call.{Call}
use Rattle.model.specs.declared.Refusal.TheVariants.{StoreNotInOrder}
use Rattle.model.specs.declared.Answer.TheVariants.{Done, Refused}
use Rattle.model.specs.Lists.{Each}
use Rattle.model.specs.Runs.{RunsOf}
use Rattle.model.specs.Opening.{opening_outcome}
use Rattle.model.specs.Simulation.{runs_that_fit}
use Rattle.model.specs.Demand2.{Demand2In, HandsAsAnsweredIn}
use Rattle.model.specs.Demand3.{Demand3In, Demand3UnstoppedIn}
use Rattle.model.specs.Stops.{StopsOnlyAtItemsIn, NextIsAboveIn, HandsOnlyAdmittedIn}
use Rattle.model.specs.EqualTurns.{EqualTurnsIn}
use Rattle.model.specs.FreePlaces.{FreePlacesIn, NotFullBeforeIn}
use Rattle.model.specs.LaneIds.{OpeningsToldApartIn, SavedIdsRefusedIn}
use Rattle.model.specs.Renumbered.{NumberOnlyTellsIdsIn}
use Rattle.model.specs.RowWords.{AnswersAsBeforeIn}
use Rattle.model.specs.Closed.{NoneAfterCloseIn}
use Rattle.model.specs.Held.{HeldAsCountedIn}
use Rattle.model.specs.Wake.{NoLostWakeIn, NothingWaitsIn}
use Rattle.model.specs.Keys.{KeysNeverAgainIn, IssuedAsAnsweredIn}
use Rattle.lane.specs.Table.{lane_at}
use Rattle.queues.specs.Header.{issued, slots, held_count}
use Rattle.store.specs.View.{view}
use Rattle.store.specs.Order.{StoreInOrder}
use Rattle.store.specs.Held.{walked_held}
use Rattle.opening.specs.Opening.{open_store}
use Rattle.refinement.specs.Runs.{Run, stores_after}
use Rattle.refinement.specs.Demands.{items_in}
use Rattle.refinement.specs.RulesOnWords.{KeepsRules}
use Rattle.refinement.specs.Refusals.{RefusalsLeaveAll}
use Rattle.refinement.specs.AsRules.{lent_of, EachCallAsRules, ListsAsRules, ExamplesOf, CreditOf}
use Rattle.fanring.specs.Runs.{checked_words, checked_calls, the_calls}
use Rattle.fanring.specs.Mixed.{Way, MixedAs}

-- ---- one call, on any two stores

-- demand 1: "a refusal leaves state, both stores and the output unchanged", of stores in order or not
abbrev pub RefusalsChangeNothing : Type 0
RefusalsChangeNothing = RefusalsLeaveAll checked_calls

-- "every later call | 5 | store not in order": "When, and only then"
pub record FiveExactly : Type 0 where
  pub when : (t r : List ℕ) (c : Call) → (StoreInOrder t r → ⊥) → (checked_words t r c).0 ≡ Refused StoreNotInOrder
  pub only_then : (t r : List ℕ) (c : Call) → (checked_words t r c).0 ≡ Refused StoreNotInOrder → StoreInOrder t r → ⊥

-- demand 2: "each call is proved to do what document 01's rules say": on stores in order it answers as the rules do, leaves what they leave, hands out
-- their items of their lanes, and writes into its output what they write
abbrev pub CallsSimulate : Type 0
CallsSimulate = EachCallAsRules checked_calls

-- "An inner crate's calls [..] keep it": a call on stores in order leaves stores in order
abbrev pub CallsKeepOrder : Type 0
CallsKeepOrder = (t r : List ℕ) (c : Call) → StoreInOrder t r → let w = checked_words t r c in StoreInOrder w.1 w.2

-- An opening is accepted exactly as the rules say, with the same refusal else, and leaves their state, whatever it is given and whatever the lent words held.
pub record OpensAsRules : Type 0 where
  pub answers : (o : Opening) (t r : List ℕ) → (open_store o t r).0 ≡ (opening_outcome o (lent_of t r)).1.0
  pub leaves : (o : Opening) (t r : List ℕ) → let w = open_store o t r in w.0 ≡ Done → view w.1 w.2 ≡ (opening_outcome o (lent_of t r)).1.1

-- "An accepted opening leaves a store in order, whatever the lent words held."
abbrev pub OpensInOrder : Type 0
OpensInOrder = (o : Opening) (t r : List ℕ) → o.cursor < 2 ^ 64 → let w = open_store o t r in w.0 ≡ Done → StoreInOrder w.1 w.2

-- ---- lists of calls

-- All runs of code: an opening and calls, and whatever words the two stores hold before the opening. The first cursor is a u64, as every number of code is.
abbrev pub runs : RunsOf the_calls
runs = runs_that_fit the_calls

-- after an accepted opening no call is refused for its stores
abbrev pub NeverFive : Type 0
NeverFive = (x : Run) (c : Call) → let end = stores_after checked_calls x in (checked_words end.0 end.1 c).0 ≡ Refused StoreNotInOrder → ⊥

-- demand 2: "In a run from an opening, the stores otherwise untouched, items handed out of a lane never closed and then items still in its ring are its accepted sends, in order."
abbrev pub ItemsInOrder : Type 0
ItemsInOrder = Demand2In the_calls runs (λ w. items_in w.0 w.1)

-- what is handed out is what is answered, and a batch's output has it in order
abbrev pub AnswersTell : Type 0
AnswersTell = HandsAsAnsweredIn the_calls runs

-- demand 3: how long a lane with an ordinarily sent item can wait
abbrev pub LanesWaitBounded : Type 0
LanesWaitBounded = Demand3In the_calls runs

-- document 02, N2: "demand 3's bounds cover stretches in which no batch was stopped". The demand above covers those with stopped batches too
abbrev pub LanesWaitUnstopped : Type 0
LanesWaitUnstopped = Demand3UnstoppedIn the_calls runs

-- document 02, N2: only a batch with a bound answers that it stopped, only below its limit, where an unpaused, unclosed lane's oldest item is above its bound
abbrev pub StopsOnlyAtItems : Type 0
StopsOnlyAtItems = StopsOnlyAtItemsIn the_calls runs

-- an item above its bound is what a plain receive hands out right after the stop
abbrev pub NextIsAbove : Type 0
NextIsAbove = NextIsAboveIn the_calls runs

-- and it hands out none above it
abbrev pub HandsOnlyAdmitted : Type 0
HandsOnlyAdmitted = HandsOnlyAdmittedIn the_calls runs

-- document 02, N10: while two lanes wait and items go out by fair receives and by targeted ones of other lanes, "the items handed out of the one and of the other
-- differ by at most one at every moment"
abbrev pub LanesShareEqually : Type 0
LanesShareEqually = EqualTurnsIn the_calls runs

-- document 02, N1: an accepted send says "how many further sends the ring would take with no other call between"
abbrev pub FreePlacesSaid : Type 0
FreePlacesSaid = FreePlacesIn the_calls runs

-- and with other calls between, a send to the lane is refused 11 only once so many more were accepted
abbrev pub NotFullBefore : Type 0
NotFullBefore = NotFullBeforeIn the_calls runs

-- document 02, N7: a call by an id with another channel or opening number is refused, and every item's id carries this opening's
abbrev pub OpeningsToldApart : Type 0
OpeningsToldApart = OpeningsToldApartIn the_calls runs

-- so "an id saved for the earlier patient" is refused by every call after an opening with another number
abbrev pub SavedIdsRefused : Type 0
SavedIdsRefused = SavedIdsRefusedIn the_calls runs

-- and the number does nothing else: with another one, in the opening and in the calls' ids, a run is the same but for the number in the items' ids, outputs too
abbrev pub NumberOnlyTellsIds : Type 0
NumberOnlyTellsIds = NumberOnlyTellsIdsIn the_calls runs

-- document 02, N9: "Answers of every run, the stores otherwise untouched, are those of before where the opening was accepted under both lengths."
abbrev pub AnswersAsBefore : Type 0
AnswersAsBefore = AnswersAsBeforeIn the_calls runs

-- "closed by an accepted `close_lane`, after which none of its items is handed out"
abbrev pub NoneAfterClose : Type 0
NoneAfterClose = NoneAfterCloseIn the_calls runs

-- held is the number of accepted sends less items handed out, of lanes not closed
abbrev pub HeldIsCounted : Type 0
HeldIsCounted = HeldAsCountedIn the_calls runs

-- document 02, N6: "A store whose held count is untrue is not in order.": every call is refused 5, and changes no word
abbrev pub UntrueHeldRefused : Type 0
UntrueHeldRefused = (t r : List ℕ) (c : Call) → (held_count t ≡ walked_held t → ⊥) → checked_words t r c ≡ (Refused StoreNotInOrder, t, r)

-- document 02, N9: "The table store is then 16 × S + 512 words": one that is shorter is not in order, and every call is refused 5 and changes no word
abbrev pub ShortTableRefused : Type 0
ShortTableRefused = (t r : List ℕ) (c : Call) → length t < 16 * slots t + 512 → checked_words t r c ≡ (Refused StoreNotInOrder, t, r)

-- the four counts of each lane of a table store are at most 65,536
abbrev pub SmallCounts : List ℕ → Type 0
SmallCounts t = (x : ℕ) → x < issued t → let l = lane_at t x in l.registered ≡ 1 → Each (λ n. n ≤ 65536) (l.cached ∷ l.unreleased ∷ l.burst ∷ l.window ∷ [])

-- document 02, N9: "Cached, unreleased, burst and window counts never exceed 65,536"
pub record CountsSmall : Type 0 where
  pub in_runs : (x : Run) → SmallCounts (stores_after checked_calls x).0
  -- and in any stores in order
  pub in_order : (t r : List ℕ) → StoreInOrder t r → SmallCounts t

-- document 01's sentences on order kept, the poll budget, turns of 64, collections, where receives end, Disconnected and Empty, refusal 13, signals, first cursors
-- and queued keys, and document 02's on registrations and the free list (N4), on a batch that stops (N2) and on the held count (N6), one field for each
abbrev pub RulesKept : Type 0
RulesKept = KeepsRules checked_calls

-- a list of calls from an accepted opening on is the rules' run: in all answers, items and lanes, and in what the words then stand for
abbrev pub TraceAsRules : Type 0
TraceAsRules = ListsAsRules checked_calls

-- a list in which some calls are made checked and others inner is the list of checked calls; ms are the calls of the run x, each with the way in which it is made
abbrev pub MixedAsChecked : Type 0
MixedAsChecked = (x : Run) (ms : List (Way × Call)) → map (λ m. m.1) ms ≡ x.calls → MixedAs x ms

-- "The examples marked P are proved in one go over a table": of the calls, on any lent stores of enough length
abbrev pub ExamplesHold : Type 0
ExamplesHold = ExamplesOf checked_calls

-- document 02, N3: "Results for every capacity are those of the table.": as sends and plain receives of one lane show them, on any lent stores of enough length
abbrev pub CreditByTable : Type 0
CreditByTable = CreditOf checked_calls

-- no wake-up is lost: after an answer on which a receiver may sleep, "the first accepted ordinary send to an unpaused lane answers woken 1"
abbrev pub NoLostWake : Type 0
NoLostWake = NoLostWakeIn the_calls runs

-- and where it may sleep nothing waits for it: no unpaused lane holds an ordinarily sent item
abbrev pub NothingWaits : Type 0
NothingWaits = NothingWaitsIn the_calls runs

-- a registration never answers a key that was answered before in the run: demands 2 and 3 tell lanes by their keys
abbrev pub KeysNeverAgain : Type 0
KeysNeverAgain = KeysNeverAgainIn the_calls runs

-- the issued slots, of which demand 3's G is the number of groups, are those of the answers
abbrev pub IssuedAsAnswered : Type 0
IssuedAsAnswered = IssuedAsAnsweredIn the_calls runs (λ w. issued w.0)
