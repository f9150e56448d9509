-- The opening, as words: its refusals by the stores that are lent, and the header that it puts.
-- Assumes nothing.
use Rattle.std.specs.Prelude.{cond, List, ℕ, ◌+◌, ◌*◌, leb, length}
use Rattle.model.specs.declared.Opening.{Opening}
use Rattle.model.specs.declared.Refusal.TheVariants.{CapacityOutOfRange, SlotsOutOfRange, RingStoreShort, TableStoreShort}
use Rattle.model.specs.declared.Answer.TheVariants.{Done}
use Rattle.model.specs.Opening.{next_power_of_two}
use Rattle.lane.specs.Table.{header_words, row_words}
use Rattle.queues.specs.Header.{new_header, put_header}
use Rattle.store.specs.Refusal.{Verdict}
use Rattle.std.specs.Prelude.{Ok, Err}
use Rattle.store.specs.Words.{Words, unless_refused}

-- "capacity 0 or above 65,536"; "S 0 or above 8,192"
unfoldable pub sizes_verdict : Opening → Verdict
sizes_verdict o =
    cond (leb 1 o.capacity)
    (cond (leb o.capacity 65536)
    (cond (leb 1 o.slots)
    (cond (leb o.slots 8192) (Ok tt) (Err SlotsOutOfRange))
    (Err SlotsOutOfRange))
    (Err CapacityOutOfRange))
    (Err CapacityOutOfRange)

-- "Opening lends a ring store of at least S × C u64 words"; document 02, N9: "The table store is then 16 × S + 512 words, the length refusal 4 now tests."
unfoldable pub stores_verdict : ℕ → ℕ → ℕ → ℕ → Verdict
stores_verdict S C table rings =
    cond (leb (S * C) rings) (cond (leb (row_words * S + header_words) table) (Ok tt) (Err TableStoreShort)) (Err RingStoreShort)

-- "An accepted opening leaves a store in order, whatever the lent words held": it puts the header, and touches no other word
unfoldable pub open_sized : Opening → List ℕ → List ℕ → Words
open_sized o t r =
    let C = next_power_of_two o.capacity in
    unless_refused (stores_verdict o.slots C (length t) (length r)) t r (Done, put_header t (new_header o C), r)

unfoldable pub open_store : Opening → List ℕ → List ℕ → Words
open_store o t r = unless_refused (sizes_verdict o) t r (open_sized o t r)
