-- `replay::round::answer_more` meets its contract.
-- Assumes nothing.
use mathlib.Core.Path.{◌≡◌, ap, ◌∙◌}
use native.Mathlib.Omega.{arith}
use borrow.Author.Rules.{rules}
use Rattle.wire_record.specs.declared.record.Unread.TheVariants.{Incomplete, Malformed}
use Prim.Native.Nat.{ℕ}
use lib.ListN.{length}
use Rattle.std.specs.Prelude.{Err}
use Rattle.replay.specs.declared.place.Next.{Next}
use Rattle.replay.proofs.PlaceLaws.{served_rounded, left_as, left_room, moved}
use Rattle.replay.proofs.round.answer_more.Goals as goal
use Rattle.replay.proofs.round.answer_more.Goals.{in-Ok, in-Err-Incomplete, in-Err-Malformed}

abbrev Fields : Type 0
Fields = Next × (ℕ × (ℕ × (ℕ × Unit {0})))

-- the fields of a place, from one equation for all
next_is : {r q : Fields} → r ≡ q → r.0 ≡ q.0
next_is e = ap (λ (x : Fields). x.0) e

at_is : {r q : Fields} → r ≡ q → r.1.0 ≡ q.1.0
at_is e = ap (λ (x : Fields). x.1.0) e

have_is : {r q : Fields} → r ≡ q → r.1.1.0 ≡ q.1.1.0
have_is e = ap (λ (x : Fields). x.1.1.0) e

end_is : {r q : Fields} → r ≡ q → r.1.1.1.0 ≡ q.1.1.1.0
end_is e = ap (λ (x : Fields). x.1.1.1.0) e

pub invariant_of-result-clause-room : goal.invariant_of-result-clause-room
invariant_of-result-clause-room c =
    elim c.match-reached.branch [
      | in-Ok w ↦ λ r. let h = next_is w.result-is in let z : ◌≡◌ {A = ℕ} 0 1 = cc in omega arith
      | in-Err-Incomplete w ↦ λ r. omega (arith, have_is w.result-is, left_room _ c.args.place.in_buffer.1 (omega arith) c.serve-reached.ensures.served (omega (arith, c.serve-reached.ensures.at_le_len)) (search rules))
      | in-Err-Malformed w ↦ λ r. let h = next_is w.result-is in let z : ◌≡◌ {A = ℕ} 0 1 = cc in omega arith
    ]

pub returns : goal.returns
returns c =
    let end = c.serve-reached.ensures.at_le_len in
    served_rounded (omega arith) (omega arith) (omega arith) c.serve-reached.ensures.served (omega arith) (
    elim c.match-reached.branch [
      | in-Ok w ↦ left_as _ w.in-Ok.is (end_is w.result-is) (ap length w.buffer-is) (next_is w.result-is, at_is w.result-is, have_is w.result-is, w.buffer-is)
      | in-Err-Incomplete w ↦
          let e : c.serve-reached.result.found ≡ Err Incomplete = search rules in
          left_as _ e (end_is w.result-is) (ap length w.buffer-is ∙ w.copy_within.ensures.len) (next_is w.result-is, at_is w.result-is, have_is w.result-is, moved _ _ _ _ (omega arith) (omega arith) (w.buffer-is ∙ w.copy_within.ensures.after))
      | in-Err-Malformed w ↦
          let e : c.serve-reached.result.found ≡ Err Malformed = search rules in
          left_as _ e (end_is w.result-is) (ap length w.buffer-is) (next_is w.result-is, at_is w.result-is, have_is w.result-is, w.buffer-is)
    ])
