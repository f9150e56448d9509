-- The words for each slot: openings at the edge of refusal 4, computed, and rules that the claim on answers of before shuts out.
-- Assumes nothing.
use Rattle.std.specs.Prelude.{refl, [], ◌∷◌, ℕ}
use Rattle.std.proofs.Common.{sym, ap}
use Rattle.std.proofs.lemmas.Bool.{eqb-false}
use Rattle.model.specs.declared.Opening.{Opening}
use Rattle.model.specs.declared.ReceiveCall.TheVariants.{TryRecvBatchInto}
use Rattle.model.specs.declared.Refusal.TheVariants.{TableStoreShort}
use Rattle.model.specs.declared.Answer.{Answer}
use Rattle.model.specs.declared.Answer.TheVariants.{Done, Refused}
use Rattle.model.specs.Answers.{number, line}
use Rattle.model.specs.Runs.{Lent, accepted, handed, ticks, trace, after_list}
use Rattle.model.specs.Receive.{written_to, output_after}
use Rattle.model.specs.Opening.{opening_with_rows_of}
use Rattle.model.specs.Rules.{rules_with_rows_of}
use Rattle.model.specs.Demand2.{HasRoom}
use Rattle.model.specs.RowWords.{AnswersAsBeforeIn, AnswersAsBefore}
use Rattle.model.specs.ShutOut.{call_by, counts_none, held_zero, output_by, numbered_writes_nothing}
use Rattle.model.specs.Examples.Pairs.{Reads}
use Rattle.model.specs.Examples.Example.{compute_examples, registers, held}
use Rattle.model.proofs.Examples.Calls.{compute}
use Rattle.model.proofs.Examples.FreePlaces.{untrue}
use Rattle.model.proofs.Examples.Mistaken.{sends}
use Rattle.model.proofs.Examples.Renumbered.{numbers_in, first_word}

-- one slot, a ring of one word; an opening number other than 0, as `numbered_writes_nothing` goes wrong only with such a one
one : Opening
one = record { capacity = 1; slots = 1; channel = 0; cursor = 0; generation = 0; number = 1 }

lent : ℕ → Lent
lent words = record { rings = 1; table = words }

-- with so many words for each slot, and a table store of so many
opens : ℕ × ℕ → Answer
opens a = (opening_with_rows_of a.0 one (lent a.1)).1.0

-- 24 + 512 is enough under both lengths, 16 + 512 under the new one
rows_read :
    Reads opens
    (((24, 536), Done)
    ∷ ((24, 535), Refused TableStoreShort)
    ∷ ((16, 536), Done)
    ∷ ((16, 528), Done)
    ∷ ((16, 527), Refused TableStoreShort)
    ∷ [])
unfolding compute one lent opens
rows_read = refl

compute_rows : Unit {0}
unfolding compute compute_examples number line one lent sends accepted handed ticks trace call_by counts_none numbers_in
compute_rows = tt

-- a word more for each slot: an opening that was accepted is refused
longer_rows : AnswersAsBefore (rules_with_rows_of 25) → ⊥
unfolding compute_rows AnswersAsBefore AnswersAsBeforeIn
longer_rows h = untrue (sym (ap accepted ((h one (lent 536)).still_accepted refl)))

-- a held count of 0 after a send
held_zero_lem : AnswersAsBefore held_zero → ⊥
unfolding compute_rows AnswersAsBefore AnswersAsBeforeIn
held_zero_lem h =
    let calls = registers ∷ sends 0 0 5 ∷ held ∷ [] in
    eqb-false 1 2 refl (ap numbers_in ((h one (lent 536)).same_run refl (lent 536) refl calls tt))

-- a batch that writes nothing
writes_nothing : AnswersAsBefore numbered_writes_nothing → ⊥
unfolding compute_rows after_list output_by written_to output_after first_word AnswersAsBefore AnswersAsBeforeIn HasRoom
writes_nothing h =
    eqb-false 9 5 refl (ap first_word ((h one (lent 536)).same_output refl (lent 536) refl (registers ∷ sends 0 0 5 ∷ []) tt (TryRecvBatchInto 1 2) (9 ∷ 9 ∷ []) refl))
