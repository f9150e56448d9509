-- `order::names::note_all` meets its contract.
-- Assumes nothing.
use mathlib.Core.Path.{refl}
use native.Mathlib.Omega.{arith}
use Rattle.demands.proofs.Counting as counting
use Rattle.order_slot.specs.Tells.{yes, no}
use Rattle.order_slot.proofs.TellsLaws.{told, untold}
use Rattle.order.proofs.SeenLaws.{noted_none, noted_all_lem}
use Rattle.order.proofs.NamesLaws.{slot_more, slot_no}
use Rattle.order.proofs.names.note_all.Goals as goal

pub loop-k-init : goal.loop-k-init
loop-k-init g c = λ f e. noted_none _ f c.requires.empty

pub returns-then-not-note : goal.returns-then-not-note
returns-then-not-note g c = record {
  tells = λ f e. no (slot_no _ _ f _ (c.loop-k.invariant f e) (e _ _ c.loop-k-test.true c.slot_at.ensures) c.args.n c.loop-k-test.true (untold c.note.ensures.tells c.if-not-note.true));
  seen = λ f e a. absurd (counting.no a refl);
}

pub loop-k-preserved : goal.loop-k-preserved
loop-k-preserved g c =
    let a = c.if-not-note.false in
    λ f e. slot_more _ _ f _ (c.loop-k.invariant f e) (e _ _ c.loop-k-test.true c.slot_at.ensures) c.requires.issued_most (told c.note.ensures.tells a) (c.note.ensures.seen_after a)

pub returns : goal.returns
returns g c = record {
  tells = λ f e. yes (noted_all_lem _ _ f _ (c.loop-k.invariant f e) c.args.n (omega arith) (omega arith)).0;
  seen = λ f e a. (noted_all_lem _ _ f _ (c.loop-k.invariant f e) c.args.n (omega arith) (omega arith)).1;
}
