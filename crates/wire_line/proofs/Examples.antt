-- The lines of document 01's example compute, and so do those of the other answers.
-- Assumes nothing.
use mathlib.Core.Path.{◌≡◌, refl}
use mathlib.Core.Bool.{false}
use mathlib.Core.List.{[], ◌∷◌}
use Rattle.model.specs.Answers.{line, number}
use Rattle.model.specs.declared.Answer.TheVariants.{Taken, Items, Stopped, Held, Refused}
use Rattle.model.specs.declared.Refusal.TheVariants as Refusal
use Rattle.wire_line.specs.Text.{codes, digits_in, digits, decimal, spaced}
use Rattle.wire_line.specs.Examples.{seven_answers, texts}

-- "`done`, `lane 0 0`, `taken 1`, `item 11 0 0`, `empty`, `done`, `disconnected`", "one line each, no header"; since document 02, N1, `taken 1 3`
pub seven_lines : texts seven_answers [] ≡ codes "done\nlane 0 0\ntaken 1 3\nitem 11 0 0\nempty\ndone\ndisconnected\n"
unfolding line spaced decimal digits digits_in
seven_lines = refl

-- "`items N` and the N values on that line, a space before each; `held N`; `refused N`"; "(woken: 1 or 0)"
pub other_lines : texts (Items 2 ∷ Items 0 ∷ Held 1203 ∷ Refused Refusal.Malformed ∷ Taken false 65535 ∷ []) (100 ∷ 9 ∷ 7 ∷ []) ≡ codes "items 2 100 9\nitems 0\nheld 1203\nrefused 15\ntaken 0 65535\n"
unfolding line number spaced decimal digits digits_in
other_lines = refl

-- document 02, N2: "the line `items N` followed by the items and `stopped` where it was", beside a batch that was not; a stop at count 0 has no item
pub stopped_lines : texts (Stopped 2 ∷ Items 2 ∷ Stopped 0 ∷ Items 0 ∷ []) (21 ∷ 22 ∷ 7 ∷ []) ≡ codes "items 2 21 22 stopped\nitems 2 21 22\nitems 0 stopped\nitems 0\n"
unfolding line spaced decimal digits digits_in
stopped_lines = refl
