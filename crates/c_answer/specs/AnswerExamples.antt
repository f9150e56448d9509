-- Each kind of answer as C gets it, where the eight words held 9 before; and an id of the numbers that C gives, in the order of the answer's words.
-- Assumes nothing.
use Rattle.std.specs.Prelude.{◌≡◌, refl, true, false, List, [], ◌∷◌, map, ℕ}
use Rattle.model.specs.declared.LaneKey.{LaneKey}
use Rattle.model.specs.declared.LaneId.{LaneId}
use Rattle.model.specs.declared.Refusal.TheVariants.{Full}
use Rattle.model.specs.declared.Answer.{Answer}
use Rattle.model.specs.declared.Answer.TheVariants.{Done, Registered, Taken, Item, Items, Stopped, Empty, Disconnected, Held, Refused}
use Rattle.model.specs.Answers.{number}
use Rattle.c_answer.specs.Answer.{tag, put}
use Rattle.c_answer.specs.Numbers.{lane_id}

key : LaneKey
key = record { slot = 3; generation = 8 }

id : LaneId
id = record { channel = record { id = 7; opening = 6 }; key = record { slot = 3; generation = 8 } }

-- words[1] to words[4] of an item are an id's four numbers in this order; that the exported calls take them in it is run (tests/port/calls.rs, rust/src/calls/tests.rs)
id_of_numbers : lane_id 7 3 8 6 ≡ id
unfolding id
id_of_numbers = refl

gets : Answer → List ℕ
gets a = tag a ∷ put a (9 ∷ 9 ∷ 9 ∷ 9 ∷ 9 ∷ 9 ∷ 9 ∷ 9 ∷ [])

answers_told :
    map gets (Done ∷ Registered key ∷ Taken true 5 ∷ Taken false 0 ∷ Item 11 id ∷ Items 2 ∷ Stopped 2 ∷ Stopped 0 ∷ Empty ∷ Disconnected ∷ Held 5 ∷ Refused Full ∷ [])
    ≡ (0 ∷ 9 ∷ 9 ∷ 9 ∷ 9 ∷ 9 ∷ 9 ∷ 9 ∷ 9 ∷ [])
    ∷ (1 ∷ 3 ∷ 8 ∷ 9 ∷ 9 ∷ 9 ∷ 9 ∷ 9 ∷ 9 ∷ [])
    ∷ (2 ∷ 1 ∷ 5 ∷ 9 ∷ 9 ∷ 9 ∷ 9 ∷ 9 ∷ 9 ∷ [])
    ∷ (2 ∷ 0 ∷ 0 ∷ 9 ∷ 9 ∷ 9 ∷ 9 ∷ 9 ∷ 9 ∷ [])
    ∷ (3 ∷ 11 ∷ 7 ∷ 3 ∷ 8 ∷ 6 ∷ 9 ∷ 9 ∷ 9 ∷ [])
    ∷ (4 ∷ 2 ∷ 9 ∷ 9 ∷ 9 ∷ 9 ∷ 9 ∷ 9 ∷ 9 ∷ [])
    ∷ (9 ∷ 2 ∷ 9 ∷ 9 ∷ 9 ∷ 9 ∷ 9 ∷ 9 ∷ 9 ∷ [])
    ∷ (9 ∷ 0 ∷ 9 ∷ 9 ∷ 9 ∷ 9 ∷ 9 ∷ 9 ∷ 9 ∷ [])
    ∷ (5 ∷ 9 ∷ 9 ∷ 9 ∷ 9 ∷ 9 ∷ 9 ∷ 9 ∷ 9 ∷ [])
    ∷ (6 ∷ 9 ∷ 9 ∷ 9 ∷ 9 ∷ 9 ∷ 9 ∷ 9 ∷ 9 ∷ [])
    ∷ (7 ∷ 5 ∷ 9 ∷ 9 ∷ 9 ∷ 9 ∷ 9 ∷ 9 ∷ 9 ∷ [])
    ∷ (8 ∷ 11 ∷ 9 ∷ 9 ∷ 9 ∷ 9 ∷ 9 ∷ 9 ∷ 9 ∷ [])
    ∷ []
unfolding gets key id tag put number
answers_told = refl
