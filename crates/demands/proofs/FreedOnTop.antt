-- Every call but a registration puts what it frees on top of the free list, move by move.
-- Assumes nothing.
use mathlib.Core.Path.{◌≡◌, refl, ◌∙◌}
use mathlib.Core.Bool.{Bool, true, false}
use mathlib.Core.List.{List, [], ◌∷◌, ◌++◌, map}
use Prim.Native.Nat.{ℕ, ◌+◌}
use lib.Dec.{eqb}
use Rattle.model.specs.declared.LaneKey.{LaneKey}
use Rattle.model.specs.declared.ReceiveCall.{ReceiveCall}
use Rattle.model.specs.declared.Call.TheVariants.{Sender, Receive, Control}
use Rattle.model.specs.declared.Answer.{Answer}
use Rattle.model.specs.Lists.{if, Each, without}
use Rattle.model.specs.State.{Slot, State, may_queue}
use Rattle.model.specs.Changes.{put, with_queue, popped, signalled}
use Rattle.model.specs.Turn.{retire_lane, unreleased_after_one, give_item}
use Rattle.model.specs.Receive.{queue_lane_if, receive_outcome}
use Rattle.model.specs.Runs.{Tick, gives, ends, handed, ticks}
use Rattle.model.specs.Rules.{outcome}
use Rattle.model.specs.Viewed.{rules_on_any_state}
use Rattle.model.specs.Registration.{registering, OnTop, FreedOnTop}
use Rattle.demands.proofs.Counting.{equal, other, same?, no}
use Rattle.demands.proofs.OnTop.{none_freed, freed_then}
use Rattle.demands.proofs.Quiet.{Quietly, quiet_unregistered, trans, poll, poll_quiet, release_all_quiet, settle_empty_quiet, retire_lane_frees}
use Rattle.demands.proofs.Moves.{Moves, stays_put, credits, registers_new, registers_old, sends, posts, drops_it, pauses_it, resumes, resumes_not, closes_it, polls_all, shuts_it, takes, stops, halts, aims, aims_none, Chain, stay, move, sender_move, control_move, call_chain}
use Rattle.demands.proofs.StopLaws.{halts_quiet}

-- what a step frees is on top, and it registers no lane
record Frees (s u : State) : Type 0 where
  top : OnTop s u
  none_new : (y : ℕ) → (s.slot_of y).registered ≡ false → (u.slot_of y).registered ≡ false

frees_trans : {s t u : State} → Frees s t → Frees t u → Frees s u
frees_trans a b = record { top = freed_then a.top b.top b.none_new; none_new = λ y e. b.none_new y (a.none_new y e) }

frees_quiet : {s u : State} → Quietly s u → Frees s u
frees_quiet q = record { top = q.frees; none_new = λ y. quiet_unregistered (q.each y) }

-- one slot changes, and the list does not
frees_put : (s u : State) (x : ℕ) (l : Slot) → u.free ≡ s.free → ((y : ℕ) → u.slot_of y ≡ if (eqb x y) l (s.slot_of y)) → ((s.slot_of x).registered ≡ false → l.registered ≡ false) → Frees s u
frees_put s u x l f at h = record { top = none_freed s u f; none_new = still }
  where
    still : (y : ℕ) → (s.slot_of y).registered ≡ false → (u.slot_of y).registered ≡ false
    still y e = elim (same? x y) [ equal p b i ↦ rw (at y, b) (h (rw p e)) | other d b i ↦ rw (at y, b) e ]

-- a lane retired
frees_retired : (x : ℕ) (q : List ℕ) (s : State) → Frees s (retire_lane x (with_queue q s))
unfolding retire_lane
frees_retired x q s = record {
  top = let a = retire_lane_frees x (with_queue q s) in record { freed = a.freed; list = a.list; retired = a.retired };
  none_new = λ y e. still y e;
}
  where
    still : (y : ℕ) → (s.slot_of y).registered ≡ false → ((retire_lane x (with_queue q s)).slot_of y).registered ≡ false
    still y e = elim (same? x y) [ equal p b i ↦ rw b | other d b i ↦ rw b e ]

-- an item given by the front lane
frees_given : (s : State) (y : ℕ) (q vs : List ℕ) (back : Bool) → Frees s (give_item s y q vs back)
unfolding give_item
frees_given s y q vs back = frees_put s _ y (popped vs (unreleased_after_one s y) (if back 0 ((s.slot_of y).burst + 1)) (s.slot_of y)) refl (λ z. refl) (λ e. e)

-- an item of a targeted receive
frees_aimed : (b : Bool) (x : ℕ) (l : Slot) (s : State) → l.registered ≡ (s.slot_of x).registered → Frees s (queue_lane_if b x (put x l s))
unfolding queue_lane_if
frees_aimed true x l s e =
    let t = put x l s in
    frees_trans (frees_put s t x l refl (λ y. refl) (λ h. e ∙ h)) (frees_put t _ x (signalled (t.slot_of x)) refl (λ y. refl) (λ h. h))
frees_aimed false x l s e = frees_put s _ x l refl (λ y. refl) (λ h. e ∙ h)

-- a tick of a call that is no registration
abbrev Other : Tick → Type 0
Other (gives r k v) = Unit {0}
Other (ends c a) = registering c ≡ false

move_frees : {s u : State} {t : Tick} → Moves s t u → Other t → Frees s u
unfolding registering
move_frees (stays_put s c a h) g = record { top = none_freed s s refl; none_new = λ y e. e }
move_frees (credits s c a h) g = frees_quiet (release_all_quiet s)
move_frees (registers_new s m lt) g = absurd (no refl g)
move_frees (registers_old s m x i l) g = absurd (no refl g)
move_frees (sends s k v w free a r nf) g = frees_put s _ k.slot _ refl (λ y. refl) (λ e. e)
move_frees (posts s k v w free a r nf) g = frees_put s _ k.slot _ refl (λ y. refl) (λ e. e)
move_frees (drops_it s k a) g = frees_put s _ k.slot _ refl (λ y. refl) (λ e. e)
move_frees (pauses_it s i c) g = frees_put s _ i.key.slot _ refl (λ y. refl) (λ e. e)
move_frees (resumes s i c p) g = frees_put s _ i.key.slot _ refl (λ y. refl) (λ e. e)
move_frees (resumes_not s i c p) g = record { top = none_freed s s refl; none_new = λ y e. e }
move_frees (closes_it s i c) g = frees_retired i.key.slot (without i.key.slot s.queue) s
move_frees (polls_all s) g = record { top = none_freed s _ refl; none_new = λ y e. e }
move_frees (shuts_it s) g = record { top = none_freed s _ refl; none_new = λ y e. e }
move_frees (takes f r s y v q vs h e i) g = frees_trans (frees_quiet (poll_quiet f s)) (frees_given (poll f s) y q vs _)
move_frees (stops f r s u a h e q o n) g = frees_quiet (trans (poll_quiet f s) q)
move_frees (halts s m b n j y q e h) g = frees_quiet (halts_quiet s)
move_frees (aims s i v vs c e) g = frees_aimed (may_queue s i.key.slot) i.key.slot _ s refl
move_frees (aims_none s i a c e h) g = frees_quiet (settle_empty_quiet i.key.slot _ s e)

-- a call's moves
Others : List Tick → Type 0
Others ts = Each Other ts

chain_frees : {s u : State} {ts : List Tick} → Chain s ts u → Others ts → Frees s u
unfolding Others Each
chain_frees (stay s) h = record { top = none_freed s s refl; none_new = λ y e. e }
chain_frees (move m c) h = frees_trans (move_frees m h.0) (chain_frees c h.1)

receive_others : (r : ReceiveCall) (l : List (LaneKey × ℕ)) (a : Answer) → Others (map (λ g. gives r g.0 g.1) l ++ (ends (Receive r) a ∷ []))
unfolding Others Each registering
receive_others r [] a = (refl, tt)
receive_others r (g ∷ l) a = (tt, receive_others r l a)

pub freed_on_top : FreedOnTop rules_on_any_state
unfolding FreedOnTop outcome ticks handed
freed_on_top s any (Sender c) g = (move_frees (sender_move s c) g).top
freed_on_top s any (Control c) g = (move_frees (control_move s c) g).top
freed_on_top s any (Receive c) g = (chain_frees (call_chain s (Receive c)) (receive_others c (receive_outcome s c).0 (receive_outcome s c).1.0)).top
