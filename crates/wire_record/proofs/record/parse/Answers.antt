-- `wire_record::record::parse` meets its contract.
-- Assumes nothing.
use mathlib.Core.Path.{◌≡◌, ◌∙◌}
use native.Mathlib.Omega.{arith}
use borrow.Author.Rules.{rules}
use Rattle.std.specs.Prelude.{Err}
use Rattle.wire_record.specs.declared.record.Unread.TheVariants.{Malformed}
use Rattle.wire_record.proofs.KindLaws.{parse_few, parse_unlisted, parse_other_length, parse_cut, parse_whole}
use Rattle.wire_record.proofs.record.parse.Goals as goal

pub returns-then-b-lt4 : goal.returns-then-b-lt4
returns-then-b-lt4 c = parse_few _ c.if-b-lt4.true

pub returns-in_err-kind : goal.returns-in_err-kind
returns-in_err-kind c =
    let refused : c.from_residual.result ≡ Err Malformed = search rules in
    let code = c.in_err-kind.ensures in
    refused ∙ parse_unlisted _ c.if-b-lt4.false c.u16_at.ensures (omega (arith, code))

pub returns-then-u16_at-fields : goal.returns-then-u16_at-fields
returns-then-u16_at-fields c = parse_other_length _ c.if-b-lt4.false (c.in_ok-kind.ensures.0 ∙ c.u16_at.ensures) c.fields-fields.ensures.count c.u16_at-2.ensures c.if-u16_at-fields.true

pub returns-then-b-size : goal.returns-then-b-size
returns-then-b-size c = parse_cut _ c.if-b-lt4.false (c.in_ok-kind.ensures.0 ∙ c.u16_at.ensures) c.fields-fields.ensures.count c.u16_at-2.ensures (omega arith) c.if-u16_at-fields.false (omega arith)

pub returns : goal.returns
returns c = parse_whole _ c.if-b-lt4.false (c.in_ok-kind.ensures.0 ∙ c.u16_at.ensures) (c.from.ensures ∙ c.fields-fields.ensures.count) c.u16_at-2.ensures _ c.record_of.ensures (omega arith) (omega arith)
