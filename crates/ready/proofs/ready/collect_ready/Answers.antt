-- `ready::ready::collect_ready` meets its contract.
-- Assumes nothing.
use Rattle.std.proofs.Common.{sym, ap, ◌∙◌, ◌-◌, ◌≡◌, ◌<◌, ℕ, arith}
use Rattle.ready.specs.declared.ready.Group.{Group}
use Rattle.ready.proofs.Round.{round_start, group_exists, groups_most, kept_round, round_none, round_all, round_first, round_end, round_left}
use Rattle.ready.proofs.ready.collect_ready.Goals as goal

-- some groups are left inside the loop
some_left : {n i : ℕ} → i < n → (n - i ≡ 0 → ⊥)
some_left h e = omega arith

pub loop-init : goal.loop-init
loop-init c = round_left (omega arith) (round_start _ _ _ c.requires.0 c.requires.1 c.requires.2 c.group_count-n.ensures)

pub group_at-group-requires : goal.group_at-group-requires
group_at-group-requires c = omega arith

pub overflow_add-next : goal.overflow_add-next
overflow_add-next c = omega (arith, c.group_at-group.ensures.1, groups_most c.loop.invariant)

pub load-requires : goal.load-requires
load-requires c =
    let k = c.loop.invariant in
    let s = k.kept.shaped in
    omega (arith, s.issued_most, s.room, group_exists k _ c.group_at-group.ensures.1)

pub collect_group-requires : goal.collect_group-requires
collect_group-requires c =
    let k = c.loop.invariant in
    (k.kept.shaped, k.kept.names, k.linked, group_exists k _ c.group_at-group.ensures.1)

pub shape_of-t-then-not-all : goal.shape_of-t-then-not-all
shape_of-t-then-not-all c =
    (kept_round c.loop.invariant (some_left (omega arith)) _ c.group_at-group.ensures.0 _ c.collect_group.ensures c.group_at-group.ensures.1).long

pub returns-then-not-all : goal.returns-then-not-all
returns-then-not-all c =
    round_first c.loop.invariant (some_left (omega arith)) _ c.group_at-group.ensures.0 _ c.collect_group.ensures c.group_at-group.ensures.1
    (λ e. c.if-load-eq0.false (ap (λ (g : Group). g.bits) c.load.ensures ∙ e)) c.if-not-all.true

pub loop-preserved : goal.loop-preserved
loop-preserved c =
    round_left (omega arith)
    (round_all c.loop.invariant (some_left (omega arith)) _ c.group_at-group.ensures.0 _ c.collect_group.ensures c.group_at-group.ensures.1
    (λ e. c.if-load-eq0.false (ap (λ (g : Group). g.bits) c.load.ensures ∙ e)) c.if-not-all.false)

pub loop-preserved-then-load-eq0 : goal.loop-preserved-then-load-eq0
loop-preserved-then-load-eq0 c =
    round_left (omega arith)
    (round_none c.loop.invariant (some_left (omega arith)) _ c.group_at-group.ensures.0
    (sym (ap (λ (g : Group). g.bits) c.load.ensures) ∙ c.if-load-eq0.true))

pub shape_of-t : goal.shape_of-t
shape_of-t c = c.loop.invariant.kept.long

pub returns : goal.returns
returns c = round_end c.loop.invariant (omega arith)
