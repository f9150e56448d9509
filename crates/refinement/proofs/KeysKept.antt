-- In the rules no call changes the generation of a slot that holds a registered lane: only a registration gives a slot a generation, and its slot holds no lane.
-- Assumes nothing.
use mathlib.Core.Path.{◌≡◌, refl, ap, ◌∙◌}
use mathlib.Core.Bool.{Bool, true, false}
use mathlib.Core.List.{List, [], ◌∷◌, ◌++◌, map}
use Prim.Native.Nat.{ℕ, ◌+◌, ◌≤◌}
use native.Mathlib.Omega.{arith}
use lib.Dec.{eqb, leb}
use Rattle.model.specs.declared.LaneKey.{LaneKey}
use Rattle.model.specs.declared.SenderCall.TheVariants.{RegisterSender, TrySend, TrySendUnsignaled, DropSender}
use Rattle.model.specs.declared.ReceiveCall.{ReceiveCall}
use Rattle.model.specs.declared.Call.{Call}
use Rattle.model.specs.declared.Call.TheVariants.{Sender, Receive, Control}
use Rattle.model.specs.declared.Answer.{Answer}
use Rattle.model.specs.Lists.{if, either, Each}
use Rattle.model.specs.State.{Slot, State, may_queue}
use Rattle.model.specs.Changes.{put, new_lane, popped, retired}
use Rattle.model.specs.Turn.{unreleased_after_one}
use Rattle.model.specs.Receive.{queue_lane_if, release_all, receive_outcome}
use Rattle.model.specs.Order.{Ordered}
use Rattle.model.specs.Runs.{Tick, gives, ends, handed, ticks}
use Rattle.model.specs.Rules.{outcome}
use Rattle.demands.proofs.Counting.{Same, equal, other, same?, self, no}
use Rattle.demands.proofs.Quiet.{Quiet, stays, goes, poll, poll_quiet, trans, settle_empty_quiet}
use Rattle.demands.proofs.Moves.{Moves, stays_put, credits, registers_new, registers_old, sends, posts, drops_it, pauses_it, resumes, resumes_not, closes_it, polls_all, shuts_it, takes, stops, halts, aims, aims_none, Chain, stay, move, sender_move, control_move, call_chain}
use Rattle.demands.proofs.StopLaws.{halts_quiet}
use Rattle.demands.proofs.Demand2.{queue_lane_slot, queue_lane_parts, give_item_slot}
use Rattle.demands.proofs.LedgerAgrees.{retire_lane_slot, again_put}
use Rattle.demands.proofs.Grows.{move_grows}

-- the end of a registration
unfoldable registering : Tick → Bool
registering (gives r k v) = false
registering (ends (Sender (RegisterSender most)) a) = true
registering (ends (Sender (TrySend k v)) a) = false
registering (ends (Sender (TrySendUnsignaled k v)) a) = false
registering (ends (Sender (DropSender k)) a) = false
registering (ends (Receive r) a) = false
registering (ends (Control c) a) = false

-- one slot changes, and keeps its generation or is not slot y
put_generation : (s : State) (x : ℕ) (m : Slot) (y : ℕ) → (x ≡ y → m.generation ≡ (s.slot_of x).generation) → (if (eqb x y) m (s.slot_of y)).generation ≡ (s.slot_of y).generation
put_generation s x m y f = go (same? x y)
  where
    go : Same x y → (if (eqb x y) m (s.slot_of y)).generation ≡ (s.slot_of y).generation
    go (equal p e i) = rw e (f p ∙ ap (λ (z : ℕ). (s.slot_of z).generation) p)
    go (other d e i) = rw e

quiet_generation : (l m : Slot) → Quiet l m → m.generation ≡ l.generation
quiet_generation l m (stays a) = a.generations
quiet_generation l m (goes e r g) = g

-- what a registration asks of slot y
abbrev Holds : State → Tick → ℕ → Type 0
Holds s t y = registering t ≡ true → Ordered s × ((s.slot_of y).registered ≡ true)

move_generation : {s u : State} {t : Tick} → Moves s t u → (y : ℕ) → Holds s t y → (u.slot_of y).generation ≡ (s.slot_of y).generation
unfolding registering release_all
move_generation (stays_put s c a h) y k = refl
move_generation (credits s c a h) y k = refl
move_generation (registers_new s m lt) y k =
    let o = k refl in
    put_generation s s.issued (new_lane s.first_generation (s.slot_of s.issued)) y (λ p. absurd (omega (arith, (o.0.each_slot y).registered_issued o.1)))
move_generation (registers_old s m x i l) y k =
    let o = k refl in
    put_generation s x (new_lane ((s.slot_of x).generation + 1) (s.slot_of x)) y
    (λ p. absurd (no (ap (λ (z : ℕ). (s.slot_of z).registered) p ∙ o.1) ((o.0.each_slot x).free_unregistered i)))
move_generation (sends s j v w free a r nf) y k = put_generation s j.slot _ y (λ p. refl)
move_generation (posts s j v w free a r nf) y k = put_generation s j.slot _ y (λ p. refl)
move_generation (drops_it s j a) y k = put_generation s j.slot _ y (λ p. refl)
move_generation (pauses_it s i c) y k = put_generation s i.key.slot _ y (λ p. refl)
move_generation (resumes s i c p) y k = put_generation s i.key.slot _ y (λ p. refl)
move_generation (resumes_not s i c p) y k = refl
move_generation (closes_it s i c) y k =
    ap (λ (l : Slot). l.generation) (retire_lane_slot i.key.slot s _ y) ∙ put_generation s i.key.slot (retired (s.slot_of i.key.slot)) y (λ p. refl)
move_generation (polls_all s) y k = refl
move_generation (shuts_it s) y k = refl
move_generation (takes f r s x v q vs h e i) y k =
    let p = poll f s in
    let back = either f (leb 63 (p.slot_of x).burst) in
    ap (λ (l : Slot). l.generation) (give_item_slot p x q vs back y) ∙ put_generation p x _ y (λ z. refl) ∙ quiet_generation _ _ ((poll_quiet f s).each y)
move_generation (stops f r s u a h e q o n) y k = quiet_generation _ _ ((trans (poll_quiet f s) q).each y)
move_generation (halts s m b n j x q e h) y k = quiet_generation _ _ ((halts_quiet s).each y)
move_generation (aims s i v vs c e) y k =
    let x = i.key.slot in
    let m = popped vs (unreleased_after_one s x) (s.slot_of x).burst (s.slot_of x) in
    let t = put x m s in
    let u = queue_lane_if (may_queue s x) x t in
    let at_x : t.slot_of x ≡ m = rw (self x) in
    ap (λ (l : Slot). l.generation) (queue_lane_slot (may_queue s x) x t y ∙ again_put x m s (u.slot_of x) y)
    ∙ put_generation s x (u.slot_of x) y (λ p. (queue_lane_parts (may_queue s x) x t).1 ∙ ap (λ (l : Slot). l.generation) at_x)
move_generation (aims_none s i a c e h) y k = quiet_generation _ _ ((settle_empty_quiet i.key.slot _ s e).each y)

-- a receive's moves, none of which registers
Plain : List Tick → Type 0
Plain ts = Each (λ t. registering t ≡ false) ts

chain_generation : {s u : State} {ts : List Tick} → Chain s ts u → Plain ts → (y : ℕ) → (u.slot_of y).generation ≡ (s.slot_of y).generation
unfolding Plain Each
chain_generation (stay s) h y = refl
chain_generation (move m c) h y = chain_generation c h.1 y ∙ move_generation m y (λ e. absurd (no e h.0))

receive_plain : (r : ReceiveCall) (l : List (LaneKey × ℕ)) (a : Answer) → Plain (map (λ g. gives r g.0 g.1) l ++ (ends (Receive r) a ∷ []))
unfolding Plain Each registering
receive_plain r [] a = (refl, tt)
receive_plain r (g ∷ l) a = (refl, receive_plain r l a)

-- a receive changes no generation at all
pub receive_keeps_generations : (s : State) (c : ReceiveCall) (y : ℕ) → ((outcome s (Receive c)).1.1.slot_of y).generation ≡ (s.slot_of y).generation
unfolding ticks handed outcome
receive_keeps_generations s c y = chain_generation (call_chain s (Receive c)) (receive_plain c (receive_outcome s c).0 (receive_outcome s c).1.0) y

-- every call
pub call_keeps_generation : (s : State) (c : Call) → Ordered s → (y : ℕ) → (s.slot_of y).registered ≡ true → ((outcome s c).1.1.slot_of y).generation ≡ (s.slot_of y).generation
unfolding outcome
call_keeps_generation s (Sender c) o y r = move_generation (sender_move s c) y (λ e. (o, r))
call_keeps_generation s (Control c) o y r = move_generation (control_move s c) y (λ e. (o, r))
call_keeps_generation s (Receive c) o y r = receive_keeps_generations s c y

-- and no slot is taken back
chain_issued : {s u : State} {ts : List Tick} → Chain s ts u → s.issued ≤ u.issued
chain_issued (stay s) = omega arith
chain_issued (move m c) = omega (arith, (move_grows m).issues, chain_issued c)

pub call_keeps_issued : (s : State) (c : Call) → s.issued ≤ (outcome s c).1.1.issued
call_keeps_issued s c = chain_issued (call_chain s c)
