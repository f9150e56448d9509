-- The demand is not empty, and its bound is met: an accepted opening, a point, a lane that waits, and a stretch with 64 × (1 + 2 - 1) items.
-- Assumes nothing.
use Rattle.std.specs.Prelude.{◌≡◌, refl, true, List, [], ◌∷◌, ◌++◌, ℕ, zero, suc, take, drop}
use Rattle.std.proofs.Common.{sym, ◌∙◌, arith}
use Rattle.model.specs.declared.LaneKey.{LaneKey}
use Rattle.model.specs.declared.LaneId.{LaneId}
use Rattle.model.specs.declared.Opening.{Opening}
use Rattle.model.specs.declared.SenderCall.TheVariants.{RegisterSender, TrySend}
use Rattle.model.specs.declared.ReceiveCall.TheVariants.{TryRecv}
use Rattle.model.specs.declared.ControlCall.TheVariants.{Pause, Resume}
use Rattle.model.specs.declared.Call.{Call}
use Rattle.model.specs.declared.Call.TheVariants.{Sender, Receive, Control}
use Rattle.model.specs.declared.Answer.TheVariants.{Done}
use Rattle.model.specs.Runs.{Lent, same_key, accepted, Tick, gives, handed, ticks, trace, count_ticks}
use Rattle.model.specs.Opening.{opening_outcome}
use Rattle.model.specs.Rules.{the_rules}
use Rattle.model.specs.Ledger.{Ledger, at_opening, change_lane, add_item, remove_oldest, set_paused, set_closed, set_dropped, add_registered, apply_call, note, ledger_after, waits, waits_in, any_ordinary, is_live, live_lanes}
use Rattle.model.specs.Stretch.{ends_wait, ends_stretch, stretch, looks, finds_nothing, looks_in_vain, untargeted, of_other_lane, untargeted_of_other, other_receive, not_fair, after_calls, most_live, groups_at}
use Rattle.model.specs.Demand3.{bound, Promise}
use Rattle.model.proofs.Examples.Calls.{compute}

opening : Opening
opening = record { capacity = 128; slots = 2; channel = 7; cursor = 0; generation = 0; number = 0 }

lent : Lent
lent = record { rings = 256; table = 560 }

accepted_opening : (opening_outcome opening lent).1.0 ≡ Done
unfolding compute opening lent
accepted_opening = refl

pub lane : ℕ → LaneKey
lane x = record { slot = x; generation = 0 }

lane_id : ℕ → LaneId
lane_id x = record { channel = record { id = 7; opening = 0 }; key = lane x }

times : ℕ → Call → List Call
times zero c = []
times (suc n) c = c ∷ times n c

-- lane 0 has 128 items and is alone in the queue, by a pause and a resume; then lane 1 gets its item, and 129 plain receives follow
calls : List Call
calls = Sender (RegisterSender 9) ∷ Sender (RegisterSender 9) ∷ times 128 (Sender (TrySend (lane 0) 5)) ++ (Control (Pause (lane_id 0)) ∷ Control (Resume (lane_id 0)) ∷ Sender (TrySend (lane 1) 6) ∷ times 129 (Receive TryRecv))

run : List Tick
run = trace the_rules (opening_outcome opening lent).1.1 calls

-- the point lies after the 133rd call, where the two lanes hold their items; lane 1 waits there
pub ledger_there : Ledger
ledger_there = ledger_after at_opening (take 133 run)

pub stretch_there : List Tick
stretch_there = stretch (lane 1) (drop 133 run)

-- the definitions of the demand, for computing with them
seen : Unit {0}
unfolding compute opening lent lane lane_id times calls run ledger_there stretch_there handed ticks trace same_key accepted at_opening change_lane add_item remove_oldest set_paused set_closed set_dropped add_registered apply_call note ledger_after waits waits_in any_ordinary is_live live_lanes ends_wait ends_stretch stretch looks finds_nothing looks_in_vain untargeted of_other_lane untargeted_of_other other_receive not_fair count_ticks after_calls most_live groups_at bound
seen = tt

it_waits : waits (lane 1) ledger_there ≡ true
unfolding seen
it_waits = refl

one_group : groups_at (ledger_after ledger_there stretch_there) ≡ 1
unfolding seen
one_group = refl

two_lanes : most_live ledger_there stretch_there ≡ 2
unfolding seen
two_lanes = refl

-- 128 items of lane 0 come first, and that is the bound
items_given_lem : count_ticks (untargeted_of_other (lane 1)) stretch_there ≡ 128
unfolding seen
items_given_lem = refl

the_bound : bound (groups_at (ledger_after ledger_there stretch_there)) (most_live ledger_there stretch_there) ≡ 128
unfolding seen
the_bound = refl

pub bound_met : count_ticks (untargeted_of_other (lane 1)) stretch_there ≡ bound (groups_at (ledger_after ledger_there stretch_there)) (most_live ledger_there stretch_there)
bound_met = items_given_lem ∙ sym the_bound

-- what the demand promises of this stretch, by computing alone
computed : Promise (lane 1) ledger_there stretch_there
unfolding seen
computed = record { sees = none_in_vain; bounded = omega (arith, bound_met); fair_once = λ z j d. absurd (omega (arith, z, plain_only)) }
  where
    none_in_vain : count_ticks looks_in_vain stretch_there ≡ 0
    none_in_vain = refl

    -- 128 plain receives, each with its item and its answer
    plain_only : count_ticks not_fair stretch_there ≡ 256
    plain_only = refl

-- and with one item more of lane 0 it would be broken: "at most" is 128
one_more_is_too_many : Promise (lane 1) ledger_there (gives TryRecv (lane 0) 5 ∷ stretch_there) → ⊥
unfolding seen
one_more_is_too_many p = absurd (omega (arith, p.bounded))
