-- Document 02, N6: what calls do to the held count, computed on one run; what the claims of specs/HeldCalls.antt force, whatever the rules are; and wrong
-- rules that break them.
-- Assumes nothing.
use Rattle.std.specs.Prelude.{◌≡◌, refl, Bool, true, false, not, List, [], ◌∷◌, map, ℕ, ◌+◌, length}
use Rattle.std.proofs.Math.Path.{ap}
use Rattle.std.proofs.Common.{◌∙◌, arith}
use Rattle.std.proofs.Math.ListN.{length-map}
use Rattle.model.specs.declared.SenderCall.{SenderCall}
use Rattle.model.specs.declared.SenderCall.TheVariants.{RegisterSender, TrySend, TrySendUnsignaled, DropSender}
use Rattle.model.specs.declared.ReceiveCall.{ReceiveCall}
use Rattle.model.specs.declared.ReceiveCall.TheVariants.{TryRecvFrom}
use Rattle.model.specs.declared.ControlCall.{ControlCall}
use Rattle.model.specs.declared.ControlCall.TheVariants.{Pause, Resume, CloseLane, ReleaseConsumed, PollAllLanes, CloseReceiver, CountHeld}
use Rattle.model.specs.declared.Call.{Call}
use Rattle.model.specs.declared.Call.TheVariants.{Sender, Receive, Control}
use Rattle.model.specs.declared.Refusal.{Refusal}
use Rattle.model.specs.declared.Refusal.TheVariants.{ReceiverClosed, OlderSenderLives, LaneClosed, Full, NoSuchLane}
use Rattle.model.specs.declared.Answer.{Answer}
use Rattle.model.specs.declared.Answer.TheVariants.{Done, Taken, Item, Items, Stopped, Empty, Disconnected, Held, Refused}
use Rattle.model.specs.Lists.{if, both, Each, from, total}
use Rattle.model.specs.State.{Slot, State, items_held}
use Rattle.model.specs.Turn.{retire_lane}
use Rattle.model.specs.Outcome.{Outcome, says}
use Rattle.model.specs.Runs.{all_runs, accepted, gives, handed, after_list}
use Rattle.model.specs.Sender.{try_send_unsignaled, drop_sender, sender_outcome}
use Rattle.model.specs.Receive.{receive_outcome}
use Rattle.model.specs.Control.{close_lane, control_outcome}
use Rattle.model.specs.Opening.{opened_state}
use Rattle.model.specs.Rules.{outcome, the_rules}
use Rattle.model.specs.Viewed.{Viewed, items_of, answer_of, view_after}
use Rattle.model.specs.ShutOut.{call_by, rules_by, receive_leaves_item, batch_by, first_moved}
use Rattle.model.specs.HeldCalls.{items_sent, items_discarded, HeldAfterCall, HeldIsSum}
use Rattle.model.specs.Examples.Example.{compute_examples, key_at, id_at, registers, sends, sends_unsignalled, drops, plain, fair, batch, batch_while, targeted, pauses, resumes, closes, polls_all, held, lane, gave}
use Rattle.model.proofs.Examples.Calls.{compute}

opened : State
opened = opened_state record { capacity = 4; slots = 3; channel = 7; cursor = 0; generation = 0; number = 0 }

-- what a call answers, how many items it sends, hands out and discards, and how many are held after it
abbrev Row : Type 0
Row = Answer × ℕ × ℕ × ℕ × ℕ

row_of : State → Call → Row
row_of s c =
    let o = (outcome s c).1 in
    (o.0, items_sent c o.0, length (handed the_rules s c), items_discarded s c o.0, items_held o.1)

rows : State → List Call → List Row
rows s [] = []
rows s (c ∷ cs) = row_of s c ∷ rows (outcome s c).1.1 cs

run : List (Call × Row)
run =
    (held, (Held 0, 0, 0, 0, 0))
    ∷ (registers, (lane 0 0, 0, 0, 0, 0))
    ∷ (registers, (lane 1 0, 0, 0, 0, 0))
    ∷ (registers, (lane 2 0, 0, 0, 0, 0))
    -- an unsignalled item counts, though a receive does not see it
    ∷ (sends_unsignalled 0 1, (Taken false 3, 1, 0, 0, 1))
    ∷ (plain, (Empty, 0, 0, 0, 1))
    ∷ (sends 0 2, (Taken true 2, 1, 0, 0, 2))
    ∷ (sends 0 3, (Taken false 1, 1, 0, 0, 3))
    ∷ (sends_unsignalled 0 4, (Taken false 0, 1, 0, 0, 4))
    ∷ (sends 0 5, (Refused Full, 0, 0, 0, 4))
    ∷ (sends_unsignalled 0 5, (Refused Full, 0, 0, 0, 4))
    ∷ (plain, (gave 1 0, 0, 1, 0, 3))
    ∷ (fair, (gave 2 0, 0, 1, 0, 2))
    ∷ (targeted 0, (gave 3 0, 0, 1, 0, 1))
    ∷ (sends 1 6, (Taken true 3, 1, 0, 0, 2))
    ∷ (sends 1 7, (Taken false 2, 1, 0, 0, 3))
    ∷ (pauses 1, (Done, 0, 0, 0, 3))
    ∷ (targeted 1, (gave 6 1, 0, 1, 0, 2))
    ∷ (resumes 1, (Done, 0, 0, 0, 2))
    ∷ (Control ReleaseConsumed, (Done, 0, 0, 0, 2))
    ∷ (polls_all, (Done, 0, 0, 0, 2))
    ∷ (sends 1 8, (Taken false 2, 1, 0, 0, 3))
    -- batches: of limit 0, of three items of two lanes, of none
    ∷ (batch 0 0, (Items 0, 0, 0, 0, 3))
    ∷ (batch 4 4, (Items 3, 0, 3, 0, 0))
    ∷ (batch 4 4, (Empty, 0, 0, 0, 0))
    -- and with a bound: of two items before the first above it, and of none
    ∷ (sends 0 1, (Taken true 3, 1, 0, 0, 1))
    ∷ (sends 0 2, (Taken false 2, 1, 0, 0, 2))
    ∷ (sends 1 9, (Taken true 3, 1, 0, 0, 3))
    ∷ (sends 1 3, (Taken false 2, 1, 0, 0, 4))
    ∷ (batch_while 4 5, (Stopped 2, 0, 2, 0, 2))
    ∷ (batch_while 4 5, (Stopped 0, 0, 0, 0, 2))
    -- lane 1 is closed with two items in its ring and two that were taken but not released
    ∷ (sends 0 6, (Taken true 3, 1, 0, 0, 3))
    ∷ (sends 1 4, (Taken false 1, 1, 0, 0, 4))
    ∷ (sends 1 5, (Taken false 0, 1, 0, 0, 5))
    ∷ (plain, (gave 9 1, 0, 1, 0, 4))
    ∷ (plain, (gave 3 1, 0, 1, 0, 3))
    ∷ (closes 1, (Done, 0, 0, 2, 1))
    ∷ (closes 1, (Refused NoSuchLane, 0, 0, 0, 1))
    ∷ (sends 1 7, (Refused LaneClosed, 0, 0, 0, 1))
    ∷ (registers, (Refused OlderSenderLives, 0, 0, 0, 1))
    ∷ (drops 1, (Done, 0, 0, 0, 1))
    -- its slot is issued again, and the old id closes nothing
    ∷ (registers, (lane 1 1, 0, 0, 0, 1))
    ∷ (Sender (TrySend (key_at 1 1) 8), (Taken true 3, 1, 0, 0, 2))
    ∷ (Sender (TrySend (key_at 1 1) 9), (Taken false 2, 1, 0, 0, 3))
    ∷ (closes 1, (Refused NoSuchLane, 0, 0, 0, 3))
    -- lane 2, found empty with its sender dropped, retires on the way to an item of lane 1
    ∷ (pauses 0, (Done, 0, 0, 0, 3))
    ∷ (drops 2, (Done, 0, 0, 0, 3))
    ∷ (fair, (Item 8 (id_at 1 1), 0, 1, 0, 2))
    ∷ (fair, (Item 9 (id_at 1 1), 0, 1, 0, 1))
    ∷ (registers, (lane 2 1, 0, 0, 0, 1))
    -- so does a lane where nothing is handed out, by a targeted receive and by a plain one
    ∷ (Sender (DropSender (key_at 2 1)), (Done, 0, 0, 0, 1))
    ∷ (Receive (TryRecvFrom (id_at 2 1)), (Disconnected, 0, 0, 0, 1))
    ∷ (Sender (DropSender (key_at 1 1)), (Done, 0, 0, 0, 1))
    ∷ (plain, (Empty, 0, 0, 0, 1))
    -- an empty paused lane retires where no sender lives, and lane 0, paused too, keeps its item
    ∷ (registers, (lane 1 2, 0, 0, 0, 1))
    ∷ (Control (Pause (id_at 1 2)), (Done, 0, 0, 0, 1))
    ∷ (Sender (DropSender (key_at 1 2)), (Done, 0, 0, 0, 1))
    ∷ (drops 0, (Done, 0, 0, 0, 1))
    ∷ (plain, (Empty, 0, 0, 0, 1))
    ∷ (Control (Pause (id_at 1 2)), (Refused NoSuchLane, 0, 0, 0, 1))
    -- the receiver is closed, and nothing is taken off
    ∷ (Control CloseReceiver, (Done, 0, 0, 0, 1))
    ∷ (targeted 0, (Refused ReceiverClosed, 0, 0, 0, 1))
    ∷ (closes 0, (Refused ReceiverClosed, 0, 0, 0, 1))
    ∷ (held, (Held 1, 0, 0, 0, 1))
    ∷ []

-- what held would answer after each of these calls
held_said : State → List Call → List Answer
held_said s [] = []
held_said s (c ∷ cs) = let u = (outcome s c).1.1 in (outcome u held).1.0 ∷ held_said u cs

compute_run : Unit {0}
unfolding compute compute_examples accepted handed items_sent items_discarded opened row_of rows held_said run
compute_run = tt

opened_holds_none : items_held opened ≡ 0
unfolding compute_run
opened_holds_none = refl

run_computed : rows opened (map (λ p. p.0) run) ≡ map (λ p. p.1) run
unfolding compute_run
run_computed = refl

held_computed : held_said opened (map (λ p. p.0) run) ≡ map (λ p. Held p.1.4) run
unfolding compute_run
held_computed = refl

-- ---- what is forced

-- Lane 0 has two items in its ring and two that were taken but not released, lane 1 is paused with one item, and lane 2 is empty with its sender dropped.
three : State
three =
    after_list the_rules opened
    (registers ∷ registers ∷ registers ∷ sends 0 1 ∷ sends 0 2 ∷ sends 0 3 ∷ sends_unsignalled 0 4 ∷ plain ∷ plain ∷ sends 1 5 ∷ pauses 1 ∷ drops 2 ∷ [])

-- the same, with the receiver closed
three_closed : State
three_closed = after_list the_rules three (Control CloseReceiver ∷ [])

compute_three : Unit {0}
unfolding compute_run after_list three three_closed
compute_three = tt

record HoldsThree (u : State) : Type 0 where
  in_all : items_held u ≡ 3
  in_lane_0 : length (u.slot_of 0).ring ≡ 2
  in_lane_1 : length (u.slot_of 1).ring ≡ 1
  unreleased : (u.slot_of 0).unreleased ≡ 2

three_hold : HoldsThree three × HoldsThree three_closed
unfolding compute_three
three_hold = (record { in_all = refl; in_lane_0 = refl; in_lane_1 = refl; unreleased = refl }, record { in_all = refl; in_lane_0 = refl; in_lane_1 = refl; unreleased = refl })

-- of any calls, on a state that stands for one of these
module _ (W : Viewed) (s : W.rules.State) (o : W.Ok s) (u : State) (h : HoldsThree u) (e : W.view s ≡ u) where
  abbrev after : Call → ℕ
  after c = items_held (view_after W s c)

  module _ (claim : HeldAfterCall W) where
    forced : (c : Call) → after c + length (handed W.rules s c) + items_discarded u c (answer_of W s c) ≡ 3 + items_sent c (answer_of W s c)
    unfolding HeldAfterCall
    forced c = rw (e, h.in_all) at (claim s o c)

    answered : (c : Call) (a : Answer) → answer_of W s c ≡ a → after c + length (handed W.rules s c) + items_discarded u c a ≡ 3 + items_sent c a
    answered c a f = rw f at (forced c)

    -- a send of either kind that is accepted, whatever it says of the signal and of free places; and one that is refused
    send_forced : (w : Bool) (n : ℕ) → (answer_of W s (sends 1 9) ≡ Taken w n → after (sends 1 9) ≡ 4) × (answer_of W s (sends_unsignalled 1 9) ≡ Taken w n → after (sends_unsignalled 1 9) ≡ 4)
    unfolding compute_examples handed items_sent items_discarded accepted
    send_forced w n = (λ f. omega (arith, answered (sends 1 9) (Taken w n) f), λ f. omega (arith, answered (sends_unsignalled 1 9) (Taken w n) f))

    refused_forced : (why : Refusal) → (answer_of W s (sends 0 9) ≡ Refused why → after (sends 0 9) ≡ 3) × (answer_of W s (sends_unsignalled 0 9) ≡ Refused why → after (sends_unsignalled 0 9) ≡ 3)
        × (answer_of W s (closes 0) ≡ Refused why → after (closes 0) ≡ 3)
    unfolding compute_examples handed items_sent items_discarded accepted
    refused_forced why = (
      λ f. omega (arith, answered (sends 0 9) (Refused why) f),
      λ f. omega (arith, answered (sends_unsignalled 0 9) (Refused why) f),
      λ f. omega (arith, answered (closes 0) (Refused why) f),
    )

    -- a receive of any kind, by the items that it hands out, whatever it answers and whichever lanes retire
    receive_forced : (r : ReceiveCall) → after (Receive r) + length (items_of W s r) ≡ 3
    unfolding handed items_sent items_discarded
    receive_forced r = omega (arith, forced (Receive r), length-map (items_of W s r) (λ g. gives r g.0 g.1))

    -- a close takes off what is in the ring, of a paused lane too, and not what was taken before
    close_forced : (answer_of W s (closes 0) ≡ Done → after (closes 0) ≡ 1) × (answer_of W s (closes 1) ≡ Done → after (closes 1) ≡ 2)
    unfolding compute_examples handed items_sent items_discarded accepted
    close_forced = (
      λ f. omega (arith, answered (closes 0) Done f, h.in_lane_0),
      λ f. omega (arith, answered (closes 1) Done f, h.in_lane_1),
    )

    -- no other call changes the number, whatever it answers
    others_forced : Each (λ c. after c ≡ 3) (registers ∷ drops 0 ∷ pauses 0 ∷ resumes 1 ∷ Control ReleaseConsumed ∷ polls_all ∷ Control CloseReceiver ∷ held ∷ [])
    unfolding compute_examples handed items_sent items_discarded Each
    others_forced = (
      omega (arith, forced registers),
      (
        omega (arith, forced (drops 0)),
        (
          omega (arith, forced (pauses 0)),
          (
            omega (arith, forced (resumes 1)),
            (
              omega (arith, forced (Control ReleaseConsumed)),
              (
                omega (arith, forced polls_all),
                (
                  omega (arith, forced (Control CloseReceiver)),
                  (
                    omega (arith, forced held),
                    tt,
                  ),
                ),
              ),
            ),
          ),
        ),
      ),
    )

  held_forced : HeldIsSum W → answer_of W s held ≡ Held 3
  unfolding compute_examples HeldIsSum
  held_forced claim = claim s o ∙ ap (λ (v : State). Held (items_held v)) e ∙ ap Held h.in_all

-- ---- wrong rules

-- The rules on the states to which they come from the opening.
abbrev on_runs : (State → SenderCall → Outcome) → (State → ReceiveCall → Outcome) → (State → ControlCall → Outcome) → Viewed
on_runs sending receiving controlling =
    let R = rules_by sending receiving controlling in
    record { rules = R; runs = all_runs R; view = λ s. s; Ok = λ s. (calls : List Call) × (after_list R opened calls ≡ s) }

-- an unsignalled send that is accepted and puts no item into the ring
posts_nothing : State → SenderCall → Outcome
posts_nothing s (TrySendUnsignaled k v) = says (try_send_unsignaled s k v).1.0 s
posts_nothing s (RegisterSender most) = sender_outcome s (RegisterSender most)
posts_nothing s (TrySend k v) = sender_outcome s (TrySend k v)
posts_nothing s (DropSender k) = sender_outcome s (DropSender k)

-- a dropped sender's lane retires at once, with its items
drop_retires : State → SenderCall → Outcome
drop_retires s (DropSender k) = let o = drop_sender s k in if (accepted o.1.0) (says Done (retire_lane k.slot o.1.1)) o
drop_retires s (RegisterSender most) = sender_outcome s (RegisterSender most)
drop_retires s (TrySend k v) = sender_outcome s (TrySend k v)
drop_retires s (TrySendUnsignaled k v) = sender_outcome s (TrySendUnsignaled k v)

-- a close that takes nothing off: the lane stays
closes_nothing : State → ControlCall → Outcome
closes_nothing s (CloseLane i) = says (close_lane s i).1.0 s
closes_nothing s (Pause i) = control_outcome s (Pause i)
closes_nothing s (Resume i) = control_outcome s (Resume i)
closes_nothing s ReleaseConsumed = control_outcome s ReleaseConsumed
closes_nothing s PollAllLanes = control_outcome s PollAllLanes
closes_nothing s CloseReceiver = control_outcome s CloseReceiver
closes_nothing s CountHeld = control_outcome s CountHeld

-- held by another count of what each slot has
counts_by : (Slot → ℕ) → State → ControlCall → Outcome
counts_by f s CountHeld = says (Held (total (λ x. f (s.slot_of x)) (from 0 s.issued))) s
counts_by f s (Pause i) = control_outcome s (Pause i)
counts_by f s (Resume i) = control_outcome s (Resume i)
counts_by f s (CloseLane i) = control_outcome s (CloseLane i)
counts_by f s ReleaseConsumed = control_outcome s ReleaseConsumed
counts_by f s PollAllLanes = control_outcome s PollAllLanes
counts_by f s CloseReceiver = control_outcome s CloseReceiver

compute_wrong : Unit {0}
unfolding compute_run after_list call_by receive_leaves_item batch_by first_moved posts_nothing drop_retires closes_nothing counts_by HeldAfterCall HeldIsSum
compute_wrong = tt

-- each by the calls to a state and the call there, after which too many items are held, or too few
posts_nothing_lem : HeldAfterCall (on_runs posts_nothing receive_outcome control_outcome) → ⊥
unfolding compute_wrong
posts_nothing_lem claim = omega (arith, claim _ (registers ∷ [], refl) (sends_unsignalled 0 5))

drop_retires_lem : HeldAfterCall (on_runs drop_retires receive_outcome control_outcome) → ⊥
unfolding compute_wrong
drop_retires_lem claim = omega (arith, claim _ (registers ∷ sends 0 5 ∷ [], refl) (drops 0))

closes_nothing_lem : HeldAfterCall (on_runs sender_outcome receive_outcome closes_nothing) → ⊥
unfolding compute_wrong
closes_nothing_lem claim = omega (arith, claim _ (registers ∷ sends 0 5 ∷ [], refl) (closes 0))

-- of specs/ShutOut.antt: receives that hand out items which stay in their rings
leaves_item : HeldAfterCall (on_runs sender_outcome receive_leaves_item control_outcome) → ⊥
unfolding compute_wrong
leaves_item claim = omega (arith, claim _ (registers ∷ sends 0 5 ∷ [], refl) plain)

moves_first : HeldAfterCall (on_runs sender_outcome (batch_by first_moved) control_outcome) → ⊥
unfolding compute_wrong
moves_first claim = omega (arith, claim _ (registers ∷ sends 0 5 ∷ sends 0 6 ∷ [], refl) (batch 2 2))

-- Lane 0 has an unsignalled item; lane 1 is paused with one item in its ring and one that was taken but not released; lane 2 was closed with an item.
counted : List Call
counted =
    registers ∷ registers ∷ registers ∷ sends 1 5 ∷ sends 1 6 ∷ pauses 1 ∷ targeted 1 ∷ sends 2 7 ∷ closes 2 ∷ sends_unsignalled 0 8 ∷ []

same_number : {m n : ℕ} → Held m ≡ Held n → m ≡ n
same_number e = cc

Untrue : (Slot → ℕ) → Type 0
Untrue f = HeldIsSum (on_runs sender_outcome receive_outcome (counts_by f)) → ⊥

-- no item at all; none that was sent unsignalled; none of a paused lane; those of closed lanes too; those that were taken but not released too
counts_untrue :
    Each Untrue
    ((λ l. 0)
    ∷ (λ l. if (both l.registered l.pending) (length l.ring) 0)
    ∷ (λ l. if (both l.registered (not l.paused)) (length l.ring) 0)
    ∷ (λ l. length l.ring)
    ∷ (λ l. if l.registered (length l.ring + l.unreleased) 0)
    ∷ [])
unfolding compute_wrong counted Untrue Each
counts_untrue = (
  λ claim. omega (arith, same_number (claim _ (counted, refl))),
  (
    λ claim. omega (arith, same_number (claim _ (counted, refl))),
    (
      λ claim. omega (arith, same_number (claim _ (counted, refl))),
      (
        λ claim. omega (arith, same_number (claim _ (counted, refl))),
        (
          λ claim. omega (arith, same_number (claim _ (counted, refl))),
          tt,
        ),
      ),
    ),
  ),
)
