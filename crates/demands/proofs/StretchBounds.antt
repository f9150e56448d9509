-- The bounds R and G of a stretch pass on from each point to the next: `most_live` and the groups at the end bound every point in between.
-- Assumes nothing.
use mathlib.Core.Path.{◌≡◌, refl}
use mathlib.Core.Bool.{Bool, true, false, not}
use mathlib.Core.List.{List, [], ◌∷◌, map, tail}
use Prim.Native.Nat.{ℕ, ◌+◌, ◌≤◌}
use native.Mathlib.Omega.{arith}
use Rattle.model.specs.declared.LaneKey.{LaneKey}
use Rattle.model.specs.declared.SenderCall.TheVariants.{RegisterSender, TrySend, TrySendUnsignaled, DropSender}
use Rattle.model.specs.declared.ControlCall.TheVariants.{Pause, Resume, CloseLane, ReleaseConsumed, PollAllLanes, CloseReceiver, CountHeld}
use Rattle.model.specs.declared.Call.{Call}
use Rattle.model.specs.declared.Call.TheVariants.{Sender, Receive, Control}
use Rattle.model.specs.declared.Answer.{Answer}
use Rattle.model.specs.declared.Answer.TheVariants.{Done, Registered, Taken, Item, Items, Stopped, Empty, Disconnected, Held, Refused}
use Rattle.model.specs.Lists.{if, both, either, non_empty}
use Rattle.model.specs.Ready.{groups_in}
use Rattle.model.specs.Runs.{same_key, accepted, Tick, gives, ends}
use Rattle.model.specs.Ledger.{HeldItem, Lane, Ledger, change_lane, remove_oldest, add_registered, apply_call, note, ledger_after, is_live, live_lanes}
use Rattle.model.specs.Stretch.{after_calls, most_live, groups_at}

-- an item handed out makes no lane live
bit : Bool → ℕ
bit b = if b 1 0

live_remove_oldest : (l : Lane) → bit (is_live (remove_oldest l)) ≤ bit (is_live l)
unfolding is_live remove_oldest bit
live_remove_oldest l = go l.closed l.dropped l.holds
  where
    go : (c d : Bool) (h : List HeldItem) → if {A = ℕ} (both (not c) (either (non_empty (tail h)) (not d))) 1 0 ≤ if {A = ℕ} (both (not c) (either (non_empty h) (not d))) 1 0
    go true d h = omega arith
    go false true [] = omega arith
    go false false [] = omega arith
    go false d (v ∷ vs) = small (either (non_empty vs) (not d))
      where
        small : (b : Bool) → if {A = ℕ} b 1 0 ≤ 1
        small true = omega arith
        small false = omega arith

live_lanes_remove_oldest : (k : LaneKey) (ls : List Lane) → live_lanes (map (λ l. if (same_key l.key k) (remove_oldest l) l) ls) ≤ live_lanes ls
unfolding live_lanes bit
live_lanes_remove_oldest k [] = omega arith
live_lanes_remove_oldest k (l ∷ ls) = go (same_key l.key k) (live_lanes_remove_oldest k ls)
  where
    go : (b : Bool) → live_lanes (map (λ m. if (same_key m.key k) (remove_oldest m) m) ls) ≤ live_lanes ls
        → if (is_live (if b (remove_oldest l) l)) 1 0 + live_lanes (map (λ m. if (same_key m.key k) (remove_oldest m) m) ls) ≤ if (is_live l) 1 0 + live_lanes ls
    go true h = omega (arith, live_remove_oldest l)
    go false h = omega arith

-- R
pub record Under (R : ℕ) (L : Ledger) (st : List Tick) : Type 0 where
  pub now_live : live_lanes L.lanes ≤ R
  pub later_live : after_calls L st ≤ R

pub under_most : (L : Ledger) (st : List Tick) → Under (most_live L st) L st
unfolding most_live
under_most L st = record { now_live = omega arith; later_live = omega arith }

pub under_passes : (R : ℕ) (L : Ledger) (t : Tick) (st : List Tick) → Under R L (t ∷ st) → Under R (note L t) st
unfolding after_calls note change_lane
under_passes R L (gives r k v) st u = record { now_live = omega (arith, live_lanes_remove_oldest k L.lanes); later_live = u.later_live }
under_passes R L (ends c a) st u = record { now_live = omega (arith, u.later_live); later_live = omega (arith, u.later_live) }

-- G: slots are only ever issued
add_registered_up : (a : Answer) (L : Ledger) → L.issued ≤ (add_registered a L).issued
unfolding add_registered
add_registered_up (Registered k) L = omega arith
add_registered_up Done L = omega arith
add_registered_up (Taken w f) L = omega arith
add_registered_up (Item v i) L = omega arith
add_registered_up (Items vs) L = omega arith
add_registered_up (Stopped n) L = omega arith
add_registered_up Empty L = omega arith
add_registered_up Disconnected L = omega arith
add_registered_up (Held n) L = omega arith
add_registered_up (Refused n) L = omega arith

apply_call_issued : (c : Call) (L : Ledger) → (apply_call c L).issued ≡ L.issued
unfolding apply_call change_lane
apply_call_issued (Receive r) L = refl
apply_call_issued (Sender (RegisterSender m)) L = refl
apply_call_issued (Sender (TrySend k v)) L = refl
apply_call_issued (Sender (TrySendUnsignaled k v)) L = refl
apply_call_issued (Sender (DropSender k)) L = refl
apply_call_issued (Control (Pause i)) L = refl
apply_call_issued (Control (Resume i)) L = refl
apply_call_issued (Control (CloseLane i)) L = refl
apply_call_issued (Control CloseReceiver) L = refl
apply_call_issued (Control ReleaseConsumed) L = refl
apply_call_issued (Control PollAllLanes) L = refl
apply_call_issued (Control CountHeld) L = refl

pub note_issued_up : (L : Ledger) (t : Tick) → L.issued ≤ (note L t).issued
unfolding note change_lane
note_issued_up L (gives r k v) = omega arith
note_issued_up L (ends c a) = go (accepted a)
  where
    go : (b : Bool) → L.issued ≤ (if b (apply_call c (add_registered a L)) L).issued
    go true = omega (arith, apply_call_issued c (add_registered a L), add_registered_up a L)
    go false = omega arith

pub ledger_issued_up : (L : Ledger) (ts : List Tick) → L.issued ≤ (ledger_after L ts).issued
unfolding ledger_after
ledger_issued_up L [] = omega arith
ledger_issued_up L (t ∷ ts) = omega (arith, note_issued_up L t, ledger_issued_up (note L t) ts)

pub groups_up : (L : Ledger) (ts : List Tick) → groups_at L ≤ groups_at (ledger_after L ts)
unfolding groups_at groups_in
groups_up L ts = omega (arith, ledger_issued_up L ts)
