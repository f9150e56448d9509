-- No call changes the channel's id or the opening's number.
-- Assumes nothing.
use mathlib.Core.Path.{◌≡◌, refl, ap, ◌∙◌}
use mathlib.Core.Bool.{Bool, true, false}
use mathlib.Core.List.{List}
use Prim.Native.Nat.{ℕ}
use Rattle.model.specs.declared.Opening.{Opening}
use Rattle.model.specs.declared.Call.{Call}
use Rattle.model.specs.Lists.{without}
use Rattle.model.specs.State.{State, may_queue}
use Rattle.model.specs.Turn.{retire_lane, give_item}
use Rattle.model.specs.Runs.{Lent, Tick, after_list}
use Rattle.model.specs.Receive.{queue_lane_if}
use Rattle.model.specs.Opening.{channel_of, opened_state, opening_outcome}
use Rattle.model.specs.Rules.{outcome, the_rules}
use Rattle.demands.proofs.Quiet.{poll, poll_quiet, release_all_quiet, settle_empty_quiet}
use Rattle.demands.proofs.Moves.{Moves, stays_put, credits, registers_new, registers_old, sends, posts, drops_it, pauses_it, resumes, resumes_not, closes_it, polls_all, shuts_it, takes, stops, halts, aims, aims_none, Chain, stay, move, call_chain, trace_chain}
use Rattle.demands.proofs.StopLaws.{halts_quiet}
use Rattle.demands.proofs.Demand2.{opens_as}

queue_lane_channel : (b : Bool) (x : ℕ) (s : State) → (queue_lane_if b x s).channel ≡ s.channel
unfolding queue_lane_if
queue_lane_channel true x s = refl
queue_lane_channel false x s = refl

pub give_item_channel : (s : State) (y : ℕ) (q vs : List ℕ) (back : Bool) → (give_item s y q vs back).channel ≡ s.channel
unfolding give_item
give_item_channel s y q vs back = refl

move_channel : {s u : State} {t : Tick} → Moves s t u → u.channel ≡ s.channel
unfolding retire_lane
move_channel (stays_put s c a h) = refl
move_channel (credits s c a h) = (release_all_quiet s).channels
move_channel (registers_new s m lt) = refl
move_channel (registers_old s m x i l) = refl
move_channel (sends s j v w free a r nf) = refl
move_channel (posts s j v w free a r nf) = refl
move_channel (drops_it s j a) = refl
move_channel (pauses_it s i c) = refl
move_channel (resumes s i c p) = refl
move_channel (resumes_not s i c p) = refl
move_channel (closes_it s i c) = refl
move_channel (polls_all s) = refl
move_channel (shuts_it s) = refl
move_channel (takes f r s y v q vs h e i) = give_item_channel (poll f s) y q vs _ ∙ (poll_quiet f s).channels
move_channel (stops f r s u a h e q l n) = q.channels ∙ (poll_quiet f s).channels
move_channel (halts s m b n j y q e h) = (halts_quiet s).channels
move_channel (aims s i v vs c e) = queue_lane_channel (may_queue s i.key.slot) i.key.slot _
move_channel (aims_none s i a c e h) = (settle_empty_quiet i.key.slot (without i.key.slot s.queue) s e).channels

chain_channel : {s u : State} {ts : List Tick} → Chain s ts u → u.channel ≡ s.channel
chain_channel (stay s) = refl
chain_channel (move m c) = chain_channel c ∙ move_channel m

pub channel_kept : (s : State) (c : Call) → (outcome s c).1.1.channel ≡ s.channel
channel_kept s c = chain_channel (call_chain s c)

pub run_channel : (o : Opening) (lent : Lent) (calls : List Call) → (after_list the_rules (opening_outcome o lent).1.1 calls).channel ≡ channel_of o
unfolding opened_state
run_channel o lent calls = chain_channel (trace_chain (opening_outcome o lent).1.1 calls) ∙ ap (λ (u : State). u.channel) (opens_as o lent)
