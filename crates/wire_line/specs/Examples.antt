-- The answers of document 01's example of the replay program, and the lines of answers.
-- Assumes nothing.
use Rattle.std.specs.Prelude.{true, List, [], ◌∷◌, ◌++◌, ℕ}
use Rattle.model.specs.declared.Answer.{Answer}
use Rattle.model.specs.declared.Answer.TheVariants.{Done, Registered, Taken, Item, Empty, Disconnected}
use Rattle.wire_line.specs.Text.{answer_text}

-- the answers to "Input [..]; 1 (2); 2 (0, 0, 11); 5; 5; 4 (0, 0); 5", the records of crate `wire_record`'s `seven_records`
abbrev pub seven_answers : List Answer
seven_answers =
    Done
    ∷ Registered (record { slot = 0; generation = 0 })
    ∷ Taken true 3
    ∷ Item 11 (record { channel = record { id = 7; opening = 0 }; key = record { slot = 0; generation = 0 } })
    ∷ Empty
    ∷ Done
    ∷ Disconnected
    ∷ []

-- the lines of answers, each beside the same output
abbrev pub texts : List Answer → List ℕ → List ℕ
texts [] out = []
texts (a ∷ l) out = answer_text a out ++ texts l out
