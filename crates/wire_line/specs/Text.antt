-- Document 01, "Replay program": an answer's line as bytes, in ASCII.
-- Assumes nothing.
use Rattle.std.specs.Prelude.{cond, List, [], ◌∷◌, ◌++◌, ◌≡◌, ℕ, zero, suc, ◌+◌, ◌-◌, ◌*◌, ◌/◌, ◌%◌, eqb, length}
use Prim.Native.Char.{code}
use Prim.Native.String as S
use Rattle.std.proofs.lemmas.List.Edits.{sets}
use Rattle.model.specs.declared.Answer.{Answer}
use Rattle.model.specs.Answers.{Word, Line, done, lane, taken, item, items, empty, disconnected, held, refused, stopped, line as line_of}

-- the codes of a quoted text
abbrev pub codes : S.String → List ℕ
codes S.[] = []
codes (S.◌∷◌ c s) = code c ∷ codes s

-- "`done`, `lane 0 0`, `taken 1`, `item 11 0 0`, `empty`, `done`, `disconnected`"; "`items N`", "`held N`; `refused N`"; document 02, N2: "and `stopped` where it was"
abbrev pub word : Word → List ℕ
word done = codes "done"
word lane = codes "lane"
word taken = codes "taken"
word item = codes "item"
word items = codes "items"
word empty = codes "empty"
word disconnected = codes "disconnected"
word held = codes "held"
word refused = codes "refused"
word stopped = codes "stopped"

-- the code of a number's last digit, that of 0 being 48
abbrev pub last_digit : ℕ → ℕ
last_digit n = 48 + n % 10

-- the digits of n, and none of 0; f is at least as many as they are
unfoldable pub digits_in : ℕ → ℕ → List ℕ
digits_in zero n = []
digits_in (suc f) n = cond (eqb n 0) [] (digits_in f (n / 10) ++ last_digit n ∷ [])

unfoldable pub digits : ℕ → List ℕ
digits n = digits_in n n

-- a number in decimal: its last digit, after those of its tens
unfoldable pub decimal : ℕ → List ℕ
decimal n = digits (n / 10) ++ last_digit n ∷ []

-- the number that digits after a stand for
abbrev pub value_from : ℕ → List ℕ → ℕ
value_from a [] = a
value_from a (d ∷ l) = value_from (10 * a + (d - 48)) l

-- "a space before each"
unfoldable pub spaced : List ℕ → List ℕ
spaced [] = []
spaced (n ∷ ns) = codes " " ++ decimal n ++ spaced ns

-- the words after the numbers, a space before each, and the line's end
abbrev pub ending : List Word → List ℕ
ending [] = codes "\n"
ending (w ∷ ws) = codes " " ++ word w ++ ending ws

-- a line with its end
abbrev pub text_of : Line → List ℕ
text_of l = word l.word ++ spaced l.numbers ++ ending l.after

-- what the program prints for an answer; `out` is the output as the call leaves it
abbrev pub answer_text : Answer → List ℕ → List ℕ
answer_text a out = text_of (line_of a out)

-- What the longest line takes: `items`, 65 numbers of up to 20 digits with a space before each, ` stopped`, and a line end. The code's LONGEST is this
-- number. No call answers a line as long: a batch of 64 items is at its limit, so it has not stopped. That is said by the rules, and a line does not have it.
abbrev pub longest : ℕ
longest = 5 + 65 * 21 + 8 + 1

-- Text s is put into the bytes t at a place, and nothing else is changed; they are u then, and the place after s is r.
pub record Puts (t : List ℕ) (at : ℕ) (s u : List ℕ) (r : ℕ) : Type 0 where
  pub bytes : u ≡ sets t at s
  pub end : r ≡ at + length s
  pub long : length u ≡ length t
