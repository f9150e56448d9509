-- Batches that stopped, in runs: the words of what is claimed of them by calls and answers alone, and a lane that waits over two stops.
-- Assumes nothing.
use Rattle.std.specs.Prelude.{◌≡◌, refl, Bool, true, false, List, [], ◌∷◌, ℕ, take, drop}
use Rattle.model.specs.declared.Opening.{Opening}
use Rattle.model.specs.declared.SenderCall.TheVariants.{RegisterSender, TrySend}
use Rattle.model.specs.declared.ReceiveCall.TheVariants.{TryRecv, TryRecvFair, TryRecvFrom, TryRecvBatchInto, TryRecvBatchIntoWhile}
use Rattle.model.specs.declared.ControlCall.TheVariants.{CountHeld}
use Rattle.model.specs.declared.Call.{Call}
use Rattle.model.specs.declared.Call.TheVariants.{Sender, Receive, Control}
use Rattle.model.specs.declared.Refusal.TheVariants.{Full}
use Rattle.model.specs.declared.Answer.TheVariants.{Done, Registered, Taken, Item, Items, Stopped, Empty, Disconnected, Held, Refused}
use Rattle.model.specs.Runs.{Lent, accepted, Tick, gives, ends, handed, ticks, trace, same_key, count_ticks}
use Rattle.model.specs.Rules.{the_rules}
use Rattle.model.specs.Ledger.{HeldItem, Lane, at_opening, change_lane, add_item, remove_oldest, add_registered, apply_call, note, ledger_after, any_ordinary, waits_in, waits}
use Rattle.model.specs.Stretch.{ends_wait, ends_stretch, stretch, says_stopped, stopped}
use Rattle.model.specs.Stops.{has_bound, oldest_above, some_above, is_plain, of_plain, gives_above}
use Rattle.model.specs.Examples.Pairs.{Reads}
use Rattle.model.specs.Examples.Example.{key_at, id_on, id_at}
use Rattle.model.proofs.Examples.Calls.{compute}

-- ---- answers

-- one answer of each kind: one is a stop
stops_read :
    Reads says_stopped
    ((Done, false)
    ∷ (Registered (key_at 2 0), false)
    ∷ (Taken true 3, false)
    ∷ (Item 5 (id_at 0 0), false)
    ∷ (Items 0, false)
    ∷ (Stopped 0, true)
    ∷ (Stopped 2, true)
    ∷ (Empty, false)
    ∷ (Disconnected, false)
    ∷ (Held 1, false)
    ∷ (Refused Full, false)
    ∷ [])
unfolding says_stopped
stops_read = refl

-- ---- the oldest item of a lane, and of any

item : ℕ → HeldItem
item v = record { value = v; ordinary = true }

-- an item sent without a signal counts too
quiet_item : ℕ → HeldItem
quiet_item v = record { value = v; ordinary = false }

holding : Bool → Bool → List HeldItem → Lane
holding p c h = record { key = key_at 0 0; holds = h; paused = p; closed = c; dropped = true }

oldest_read :
    Reads (oldest_above 5)
    (([], false)
    ∷ (item 5 ∷ [], false)
    ∷ (item 6 ∷ [], true)
    ∷ (quiet_item 6 ∷ [], true)
    ∷ (item 5 ∷ item 6 ∷ [], false)
    ∷ (item 6 ∷ item 5 ∷ [], true)
    ∷ [])
unfolding oldest_above item quiet_item
oldest_read = refl

-- "an unpaused, unclosed lane's": paused, closed; one of two, whichever
some_read :
    let paused = true in let closed = true in
    Reads (some_above 5)
    (([], false)
    ∷ (holding false false (item 6 ∷ []) ∷ [], true)
    ∷ (holding false false (item 5 ∷ []) ∷ [], false)
    ∷ (holding paused false (item 6 ∷ []) ∷ [], false)
    ∷ (holding false closed (item 6 ∷ []) ∷ [], false)
    ∷ (holding false false [] ∷ holding false false (item 6 ∷ []) ∷ [], true)
    ∷ (holding false false (item 6 ∷ []) ∷ holding paused closed [] ∷ [], true)
    ∷ [])
unfolding some_above oldest_above holding item key_at
some_read = refl

-- ---- a lane that waits over two stops: its item is above the bound of both, and a plain receive takes it

opening : Opening
opening = record { capacity = 4; slots = 1; channel = 7; cursor = 0; generation = 0; number = 0 }

lent : Lent
lent = record { rings = 4; table = 536 }

stopping : Call
stopping = Receive (TryRecvBatchIntoWhile 4 5 4)

run : List Tick
run = trace the_rules (the_rules.opens opening lent).1 (Sender (RegisterSender 1) ∷ Sender (TrySend (key_at 0 0) 9) ∷ stopping ∷ stopping ∷ Receive TryRecv ∷ [])

compute_run : Unit {0}
unfolding compute opening lent stopping run key_at id_on id_at accepted handed ticks trace same_key count_ticks at_opening change_lane add_item remove_oldest add_registered apply_call note ledger_after any_ordinary waits_in waits ends_wait ends_stretch stretch says_stopped stopped
compute_run = tt

run_read :
    drop 2 run
    ≡ ends stopping (Stopped 0) ∷ ends stopping (Stopped 0) ∷ gives TryRecv (key_at 0 0) 9 ∷ ends (Receive TryRecv) (Item 9 (id_at 0 0)) ∷ []
unfolding compute_run
run_read = refl

waits_after : ℕ → Bool
waits_after n = waits (key_at 0 0) (ledger_after at_opening (take n run))

-- "A lane stopped by the rule still counts as waiting": from its send until its item is handed out
still_waits_read :
    Reads waits_after
    ((1, false)
    ∷ (2, true)
    ∷ (3, true)
    ∷ (4, true)
    ∷ (5, false)
    ∷ [])
unfolding compute_run waits_after
still_waits_read = refl

-- which things of a run are stops
stopped_read :
    Reads stopped
    ((gives (TryRecvBatchIntoWhile 4 5 4) (key_at 0 0) 5, false)
    ∷ (ends stopping (Stopped 0), true)
    ∷ (ends stopping (Items 4), false)
    ∷ (ends stopping Empty, false)
    ∷ (ends (Receive TryRecv) (Item 9 (id_at 0 0)), false)
    ∷ [])
unfolding compute_run
stopped_read = refl

-- a plain receive, and what it gives: the item above the bound, the bound itself
plain_read :
    Reads of_plain
    ((gives TryRecv (key_at 0 0) 9, true)
    ∷ (gives TryRecvFair (key_at 0 0) 9, false)
    ∷ (gives (TryRecvFrom (id_at 0 0)) (key_at 0 0) 9, false)
    ∷ (gives (TryRecvBatchInto 4 4) (key_at 0 0) 9, false)
    ∷ (gives (TryRecvBatchIntoWhile 4 9 4) (key_at 0 0) 9, false)
    ∷ (ends (Receive TryRecv) Empty, true)
    ∷ (ends (Receive TryRecvFair) Empty, false)
    ∷ (ends stopping (Stopped 0), false)
    ∷ (ends (Sender (RegisterSender 1)) (Registered (key_at 0 0)), false)
    ∷ [])
unfolding is_plain of_plain stopping
plain_read = refl

above_read :
    Reads (gives_above 5)
    ((gives TryRecv (key_at 0 0) 6, true)
    ∷ (gives TryRecv (key_at 0 0) 5, false)
    ∷ (ends (Receive TryRecv) (Item 6 (id_at 0 0)), false)
    ∷ [])
unfolding gives_above
above_read = refl

-- which calls have a bound
bound_read :
    Reads has_bound
    ((stopping, true)
    ∷ (Receive (TryRecvBatchInto 4 4), false)
    ∷ (Receive TryRecv, false)
    ∷ (Receive TryRecvFair, false)
    ∷ (Receive (TryRecvFrom (id_at 0 0)), false)
    ∷ (Sender (RegisterSender 1), false)
    ∷ (Control CountHeld, false)
    ∷ [])
unfolding has_bound stopping
bound_read = refl

-- its stretch goes on over both stops
stops_in_stretch : count_ticks stopped (stretch (key_at 0 0) (drop 2 run)) ≡ 2
unfolding compute_run
stops_in_stretch = refl
