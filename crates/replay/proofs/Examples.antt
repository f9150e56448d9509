-- Small inputs before an opening, where each record but an opening answers refusal 5: their lines, and the rounds that make them.
-- Assumes nothing.
use mathlib.Core.Path.{◌≡◌, refl, sym, ap}
use mathlib.Core.List.{List, [], ◌∷◌, ◌++◌}
use Prim.Native.Nat.{ℕ}
use native.Mathlib.Omega.{arith}
use lib.ListN.{length, length-append}
use Rattle.model.specs.Answers.{line, number}
use Rattle.model.specs.declared.Answer.{Answer}
use Rattle.model.specs.declared.ReceiveCall.TheVariants.{TryRecv}
use Rattle.model.specs.declared.Call.TheVariants.{Receive}
use Rattle.model.specs.Lists.{Each}
use Rattle.wire_record.specs.declared.record.Record.{Record}
use Rattle.wire_record.specs.declared.record.Record.TheVariants.{Call}
use Rattle.wire_record.specs.Record.{parse_as, parse}
use Rattle.wire_record.specs.Record as Record
use Rattle.wire_record.specs.Stream.{stream_in, stream}
use Rattle.wire_record.specs.Stream as Stream
use Rattle.wire_record.specs.Examples.{receive}
use Rattle.wire_line.specs.Text.{codes, digits_in, digits, decimal, spaced, answer_text}
use Rattle.replay_serve.specs.declared.calls.Stores.{Stores}
use Rattle.replay_serve.specs.Calls.{line_of, lines_of, stores_after, started}
use Rattle.replay_serve.proofs.ProgramLaws.{before_opening}
use Rattle.replay.specs.declared.place.Next.TheVariants.{Stop}
use Rattle.replay.specs.declared.place.Next.TheVariants as Next
use Rattle.replay.specs.Rounds.{Rounds, none, more, again, end}
use Rattle.replay.specs.Parts.{joined, answers}
use Rattle.replay.specs.Place.{between}
use Rattle.replay.proofs.RoundLaws.{parts_answered}

abbrev plain : Record
plain = Call (Receive TryRecv)

refused_5 : line_of plain started ≡ codes "refused 5\n"
unfolding line_of line number spaced decimal digits digits_in
refused_5 = ap (λ (w : Answer × Stores). answer_text w.0 w.1.out) (before_opening.refused (Receive TryRecv))

stay : stores_after (plain ∷ []) started ≡ started
unfolding Each
stay = before_opening.unchanged (plain ∷ []) (tt, tt)

-- ---- the lines of a whole input

pub of_none : answers [] started ≡ []
unfolding answers stream stream_in lines_of
of_none = refl

pub of_one : answers receive started ≡ codes "refused 5\n"
unfolding answers stream stream_in parse parse_as Record.number lines_of
of_one = ap (λ (l : List ℕ). (l ++ []) ++ []) refused_5

-- "input ending inside a record"
pub of_a_cut_record : answers (receive ++ 2 ∷ 0 ∷ 5 ∷ []) started ≡ codes "refused 5\nrefused 15\n"
unfolding answers stream stream_in parse parse_as Record.number lines_of line number spaced decimal digits digits_in
of_a_cut_record = ap (λ (l : List ℕ). (l ++ []) ++ codes "refused 15\n") refused_5

-- "it stops"
pub of_a_malformed_record : answers (receive ++ (2 ∷ 0 ∷ 16 ∷ 0 ∷ []) ++ receive) started ≡ codes "refused 5\nrefused 15\n"
unfolding answers stream stream_in parse parse_as Record.number lines_of line number spaced decimal digits digits_in
of_a_malformed_record = ap (λ (l : List ℕ). (l ++ []) ++ codes "refused 15\n") refused_5

-- ---- rounds

one_line : codes "refused 5\n" ≡ lines_of (plain ∷ []) started ++ []
unfolding lines_of
one_line = sym (ap (λ (l : List ℕ). (l ++ []) ++ []) refused_5)

-- A record in two parts, then one that is cut, in two parts more: too little, one record, too little, and the end.
pub in_parts :
    Rounds 4
    ((2 ∷ 0 ∷ []) ∷ (5 ∷ 0 ∷ 2 ∷ []) ∷ (0 ∷ 5 ∷ []) ∷ [] ∷ [])
    ([] ∷ codes "refused 5\n" ∷ [] ∷ codes "refused 15\n" ∷ [])
    started (2 ∷ 0 ∷ 5 ∷ []) Stop
unfolding parse parse_as Record.number lines_of stores_after line number spaced decimal digits digits_in
in_parts =
    end
    (more
    (more
    (more none (2 ∷ 0 ∷ []) (omega arith) (record { records = []; reads = Stream.none; stores = refl; lines = refl; goes = refl }))
    (5 ∷ 0 ∷ 2 ∷ [])
    (omega arith)
    (record { records = plain ∷ []; reads = Stream.one refl Stream.none; stores = sym stay; lines = one_line; goes = refl }))
    (0 ∷ 5 ∷ [])
    (omega arith)
    (record { records = []; reads = Stream.none; stores = refl; lines = refl; goes = refl }))
    (record { stores = refl; same = refl; lines = refl; stops = refl })

-- Two records in one part, with a text that one line fills; and the end, with nothing left.
pub with_a_full_text : Rounds 3 ((receive ++ receive) ∷ [] ∷ []) (codes "refused 5\n" ∷ codes "refused 5\n" ∷ [] ∷ []) started [] Stop
unfolding parse parse_as Record.number
with_a_full_text =
    end
    (again
    (more {n = Next.Answer} none (receive ++ receive) (omega arith) (record { records = plain ∷ []; reads = Stream.one refl Stream.none; stores = sym stay; lines = one_line; goes = omega arith }))
    (record { records = plain ∷ []; reads = Stream.one refl Stream.none; stores = sym stay; lines = one_line; goes = refl }))
    (record { stores = refl; same = refl; lines = refl; stops = refl })

-- A malformed record stops the program: whatever stands behind it in the part, and whatever would follow, is not answered.
pub at_a_malformed_record :
    Rounds 1 ((receive ++ (2 ∷ 0 ∷ 16 ∷ 0 ∷ []) ++ receive) ∷ []) (codes "refused 5\nrefused 15\n" ∷ []) started ((2 ∷ 0 ∷ 16 ∷ 0 ∷ []) ++ receive) Stop
unfolding parse parse_as Record.number lines_of line number spaced decimal digits digits_in
at_a_malformed_record =
    more none (receive ++ (2 ∷ 0 ∷ 16 ∷ 0 ∷ []) ++ receive) (omega arith)
    (record {
      records = plain ∷ [];
      reads = Stream.one refl Stream.none;
      stores = sym stay;
      lines = sym (ap (λ (l : List ℕ). (l ++ []) ++ codes "refused 15\n") refused_5);
      goes = refl;
    })

pub nothing_behind_it : (c : List ℕ) → codes "refused 5\nrefused 15\n" ++ [] ≡ answers (((receive ++ (2 ∷ 0 ∷ 16 ∷ 0 ∷ []) ++ receive) ++ []) ++ c) started
nothing_behind_it c = parts_answered.whole at_a_malformed_record c (λ e. not_ended e.before e.last)
  where
    not_ended : (before : List (List ℕ)) → (receive ++ (2 ∷ 0 ∷ 16 ∷ 0 ∷ []) ++ receive) ∷ [] ≡ before ++ [] ∷ [] → c ≡ []
    not_ended [] e = absurd (omega (arith, ap (λ (l : List (List ℕ)). length (joined l)) e))
    not_ended (b ∷ before) e = absurd (omega (arith, ap length e, length-append before ([] ∷ [])))

-- ---- parts and places

pub joined_parts : joined ((1 ∷ 2 ∷ []) ∷ [] ∷ (3 ∷ []) ∷ []) ≡ 1 ∷ 2 ∷ 3 ∷ []
joined_parts = refl

pub between_places : between 1 3 (10 ∷ 11 ∷ 12 ∷ 13 ∷ []) ≡ 11 ∷ 12 ∷ []
between_places = refl
