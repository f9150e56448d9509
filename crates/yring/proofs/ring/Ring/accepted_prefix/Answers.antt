-- `yring::ring::Ring::accepted_prefix` meets its contract. The loop's invariant: all items passed so far are admitted.
-- Assumes nothing.
use Rattle.std.proofs.Common.{◌≡◌, ℕ, sym, ap, ◌∙◌, arith}
use Rattle.yring.specs.Cursor.{after}
use Rattle.yring.specs.Ring.{item_at, items, accepted_prefix}
use Rattle.yring.proofs.RingLaws.{admits_none, admits_more, admits_no_more}
use Rattle.yring.proofs.ring.Ring.accepted_prefix.Goals as goal

pub loop-accepted-init : goal.loop-accepted-init
loop-accepted-init c =
    let a = c.args in
    (omega arith, admits_none a.self a.store.now a.head a.bound)

pub returns-then-item_at-bound : goal.returns-then-item_at-bound
returns-then-item_at-bound c =
    let a = c.args in
    let l = c.loop-accepted in
    let item : c.item_at.result ≡ item_at a.self a.store.now (after a.head l.accepted) = c.item_at.ensures ∙ ap (item_at a.self a.store.now) c.after.ensures in
    (sym (admits_no_more a.self a.store.now a.head a.bound l.accepted l.invariant.1 a.count (omega (arith, item, c.if-item_at-bound.true)) c.loop-accepted-test.true), l.invariant.0)

pub loop-accepted-preserved : goal.loop-accepted-preserved
loop-accepted-preserved c =
    let a = c.args in
    let l = c.loop-accepted in
    let item : c.item_at.result ≡ item_at a.self a.store.now (after a.head l.accepted) = c.item_at.ensures ∙ ap (item_at a.self a.store.now) c.after.ensures in
    (omega (arith, c.loop-accepted-test.true), admits_more a.self a.store.now a.head a.bound l.accepted l.invariant.1 (omega (arith, item, c.if-item_at-bound.false)))

pub returns : goal.returns
returns c =
    let a = c.args in
    let l = c.loop-accepted in
    let e : l.accepted ≡ a.count = omega (arith, l.invariant.0, c.loop-accepted-test.false) in
    (sym (ap (λ (n : ℕ). accepted_prefix a.bound (items a.self a.store.now a.head n)) (sym e) ∙ l.invariant.1), l.invariant.0)
