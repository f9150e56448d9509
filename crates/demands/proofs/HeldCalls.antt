-- What a call does to the held count: an accepted send adds one, an item handed out takes one off, an accepted close takes off what the lane held.
-- Assumes nothing.
use mathlib.Core.Path.{◌≡◌, refl, ap, sym, ◌∙◌}
use mathlib.Core.Bool.{Bool, true, false}
use mathlib.Core.List.{List, [], ◌∷◌, ◌++◌, map}
use Prim.Native.Nat.{ℕ, ◌+◌, ◌<◌}
use native.Mathlib.Omega.{arith}
use lib.ListN.{length, length-append, length-map}
use lib.Dec.{eqb, leb}
use Rattle.model.specs.declared.LaneKey.{LaneKey}
use Rattle.model.specs.declared.LaneId.{LaneId}
use Rattle.model.specs.declared.SenderCall.{SenderCall}
use Rattle.model.specs.declared.SenderCall.TheVariants.{RegisterSender, TrySend, TrySendUnsignaled, DropSender}
use Rattle.model.specs.declared.ReceiveCall.{ReceiveCall}
use Rattle.model.specs.declared.ControlCall.{ControlCall}
use Rattle.model.specs.declared.ControlCall.TheVariants.{Pause, Resume, CloseLane, ReleaseConsumed, PollAllLanes, CloseReceiver, CountHeld}
use Rattle.model.specs.declared.Call.{Call}
use Rattle.model.specs.declared.Call.TheVariants.{Sender, Receive, Control}
use Rattle.model.specs.declared.Answer.{Answer}
use Rattle.model.specs.Lists.{if, either, both, without}
use Rattle.model.specs.State.{Slot, State, may_queue, items_held, has_lane}
use Rattle.model.specs.Changes.{with_queue, put, signalled, pushed, sender_dropped, popped, with_paused, credited, retired}
use Rattle.model.specs.Turn.{retire_lane, unreleased_after_one}
use Rattle.model.specs.Runs.{accepted, same_key, gives, ends, handed, ticks}
use Rattle.model.specs.Receive.{queue_lane_if}
use Rattle.model.specs.Demand2.{into}
use Rattle.model.specs.Sender.{issue_slot, sender_outcome, register_sender, try_send, try_send_unsignaled, drop_sender, clear_slots}
use Rattle.model.specs.Control.{control_outcome, pause, resume, close_lane, release_consumed, poll_all_lanes, close_receiver, count_held}
use Rattle.model.specs.Rules.{outcome, the_rules}
use Rattle.model.specs.Order.{Ordered}
use Rattle.model.specs.Viewed.{rules_viewed}
use Rattle.model.specs.HeldCalls.{items_sent, items_discarded, HeldAfterCall, HeldIsSum}
use Rattle.demands.proofs.Counting.{self, not_false}
use Rattle.demands.proofs.OrderKept.{front_registered}
use Rattle.demands.proofs.Quiet.{poll, poll_quiet, poll_ordered, release_all_quiet, settle_empty_quiet, trans}
use Rattle.demands.proofs.Moves.{Moves, stays_put, credits, registers_new, registers_old, sends, posts, drops_it, pauses_it, resumes, resumes_not, closes_it, polls_all, shuts_it, takes, stops, halts, aims, aims_none, Chain, stay, move, sender_move, control_move, call_chain, unless_law, has_lane_of_id}
use Rattle.demands.proofs.StopLaws.{halts_quiet}
use Rattle.demands.proofs.MovesKeepOrder.{has_lane_parts, move_ordered}
use Rattle.demands.proofs.Demand2.{queue_lane_slot, queue_lane_parts, give_item_slot}
use Rattle.demands.proofs.LedgerAgrees.{retire_lane_slot, retire_lane_issued, give_item_issued, queue_lane_more, again_put}
use Rattle.demands.proofs.Held.{ring_count, held_answer, count_alike, held_alike, held_quiet, held_put, held_put_alike, new_held, new_held_freed}

-- a ring of one item more, and of one less
count_more : (l m : Slot) (v : ℕ) → l.registered ≡ true → m.registered ≡ true → m.ring ≡ l.ring ++ (v ∷ []) → ring_count m ≡ ring_count l + 1
unfolding ring_count
count_more l m v r q e = rw (r, q, e, length-append l.ring (v ∷ []))

count_less : (l m : Slot) (v : ℕ) (vs : List ℕ) → l.registered ≡ true → m.registered ≡ true → l.ring ≡ v ∷ vs → m.ring ≡ vs → ring_count m + 1 ≡ ring_count l
unfolding ring_count
count_less l m v vs r q e f = rw (r, q, e, f) (omega arith)

-- a call that puts no item into a lane sends none
own_key : (k : LaneKey) → same_key k k ≡ true
unfolding same_key
own_key k = rw (self k.slot, self k.generation)

none_sent : (k : LaneKey) (v : ℕ) (b : Bool) → if (both b (same_key k k)) (v ∷ []) [] ≡ [] → ◌≡◌ {A = ℕ} (if b 1 0) 0
none_sent k v true e = absurd (omega (arith, ap length (rw (own_key k) at e)))
none_sent k v false e = refl

silent_none : (c : Call) (a : Answer) → ((k : LaneKey) → into k (ends c a) ≡ []) → items_sent c a ≡ 0
unfolding items_sent into
silent_none (Sender (TrySend k v)) a h = none_sent k v (accepted a) (h k)
silent_none (Sender (TrySendUnsignaled k v)) a h = none_sent k v (accepted a) (h k)
silent_none (Sender (RegisterSender m)) a h = refl
silent_none (Sender (DropSender k)) a h = refl
silent_none (Receive r) a h = refl
silent_none (Control c) a h = refl

-- a close takes off what the lane held
close_held : (s : State) (i : LaneId) → Ordered s → has_lane s i.key ≡ true
    → items_held (retire_lane i.key.slot (with_queue (without i.key.slot s.queue) s)) + length (s.slot_of i.key.slot).ring ≡ items_held s
unfolding ring_count
close_held s i o c =
    let x = i.key.slot in
    let p = has_lane_parts s i.key c in
    let here : ring_count (s.slot_of x) ≡ length (s.slot_of x).ring = rw p.0 in
    let gone : ring_count (retired (s.slot_of x)) ≡ 0 = refl in
    let h : items_held (retire_lane x (with_queue (without x s.queue) s)) + ring_count (s.slot_of x) ≡ items_held s + ring_count (retired (s.slot_of x)) =
    held_put s _ x (retired (s.slot_of x)) (λ y. retire_lane_slot x s _ y) (retire_lane_issued _ _) ((o.each_slot x).registered_issued p.0) in
    omega arith

-- the three things that can happen to the sum
same_held : (s u : State) (n : ℕ) → n ≡ 0 → items_held u ≡ items_held s → items_held u ≡ items_held s + n
same_held s u n z e = omega arith

one_more : (s u : State) (x : ℕ) (m : Slot) → ((y : ℕ) → u.slot_of y ≡ if (eqb x y) m (s.slot_of y)) → u.issued ≡ s.issued → x < s.issued
    → ring_count m ≡ ring_count (s.slot_of x) + 1 → items_held u ≡ items_held s + 1
one_more s u x m at i h e = omega (arith, held_put s u x m at i h)

one_less : (s u : State) (x : ℕ) (m : Slot) → ((y : ℕ) → u.slot_of y ≡ if (eqb x y) m (s.slot_of y)) → u.issued ≡ s.issued → x < s.issued
    → ring_count m + 1 ≡ ring_count (s.slot_of x) → items_held u + 1 ≡ items_held s
one_less s u x m at i h e = omega (arith, held_put s u x m at i h)

one_slot : (s u : State) (x : ℕ) (m : Slot) → ((y : ℕ) → u.slot_of y ≡ if (eqb x y) m (s.slot_of y)) → u.issued ≡ s.issued → m.registered ≡ (s.slot_of x).registered → m.ring ≡ (s.slot_of x).ring
    → items_held u ≡ items_held s + 0
one_slot s u x m at i r e = same_held s u 0 refl (held_put_alike s u x m at i (count_alike (s.slot_of x) m r e))

-- a move that ends a call; of a close only where its lane held nothing
ends_held : {s u : State} {c : Call} {a : Answer} → Ordered s → Moves s (ends c a) u → items_discarded s c a ≡ 0 → items_held u ≡ items_held s + items_sent c a
unfolding items_sent items_discarded accepted
ends_held o (stays_put s c a n) z = same_held s s _ (silent_none c a n.sends_none) refl
ends_held o (credits s c a n) z = same_held s _ _ (silent_none c a n.sends_none) (held_quiet s _ (release_all_quiet s))
ends_held o (registers_new s m lt) z = same_held s _ 0 refl (new_held s o)
ends_held o (registers_old s m x i l) z = same_held s _ 0 refl (new_held_freed s x o i)
ends_held o (sends s k v w free a r nf) z =
    let m = signalled (pushed v (s.slot_of k.slot)) in
    one_more s _ k.slot m (λ y. refl) refl ((o.each_slot k.slot).registered_issued r) (count_more (s.slot_of k.slot) m v r r refl)
ends_held o (posts s k v w free a r nf) z =
    let m = pushed v (s.slot_of k.slot) in
    one_more s _ k.slot m (λ y. refl) refl ((o.each_slot k.slot).registered_issued r) (count_more (s.slot_of k.slot) m v r r refl)
ends_held o (drops_it s k a) z = one_slot s _ k.slot (signalled (sender_dropped (s.slot_of k.slot))) (λ y. refl) refl refl refl
ends_held o (pauses_it s i c) z = one_slot s _ i.key.slot (with_paused true (credited (s.slot_of i.key.slot))) (λ y. refl) refl refl refl
ends_held o (resumes s i c p) z = one_slot s _ i.key.slot (signalled (with_paused false (s.slot_of i.key.slot))) (λ y. refl) refl refl refl
ends_held o (resumes_not s i c p) z = same_held s s 0 refl refl
ends_held o (closes_it s i c) z = omega (arith, z, close_held s i o c)
ends_held o (polls_all s) z = same_held s _ 0 refl (held_alike s _ refl (λ y. refl))
ends_held o (shuts_it s) z = same_held s _ 0 refl (held_alike s _ refl (λ y. refl))
ends_held o (stops f r s u a w e q k n) z = same_held s u 0 refl (held_quiet s u (trans (poll_quiet f s) q))
ends_held o (halts s m b n j y q e w) z = same_held s _ 0 refl (held_quiet s _ (halts_quiet s))
ends_held o (aims_none s i a c g n) z = same_held s _ 0 refl (held_quiet s _ (settle_empty_quiet i.key.slot (without i.key.slot s.queue) s g))

-- a move that hands out an item
gives_held : {s u : State} {r : ReceiveCall} {k : LaneKey} {v : ℕ} → Ordered s → Moves s (gives r k v) u → items_held u + 1 ≡ items_held s
gives_held o (takes f r s y v q vs w e g) =
    let p = poll f s in
    let back = either f (leb 63 (p.slot_of y).burst) in
    let m = popped vs (unreleased_after_one p y) (if back 0 ((p.slot_of y).burst + 1)) (p.slot_of y) in
    let po = poll_ordered f s o in
    let reg = front_registered p y q e po in
    one_less p _ y m (give_item_slot p y q vs back) (give_item_issued p y q vs back) ((po.each_slot y).registered_issued reg) (count_less (p.slot_of y) m v vs reg reg g refl)
    ∙ held_quiet s p (poll_quiet f s)
gives_held o (aims s i v vs c g) =
    let x = i.key.slot in
    let p = has_lane_parts s i.key c in
    let m = popped vs (unreleased_after_one s x) (s.slot_of x).burst (s.slot_of x) in
    let t = put x m s in
    let u = queue_lane_if (may_queue s x) x t in
    let b = queue_lane_parts (may_queue s x) x t in
    let at_x : t.slot_of x ≡ m = rw (self x) in
    one_less s u x (u.slot_of x) (λ y. queue_lane_slot (may_queue s x) x t y ∙ again_put x m s (u.slot_of x) y) (queue_lane_more (may_queue s x) x t).3 ((o.each_slot x).registered_issued p.0)
    (count_less (s.slot_of x) (u.slot_of x) v vs p.0 (b.0 ∙ ap (λ (l : Slot). l.registered) at_x ∙ p.0) g (b.2 ∙ ap (λ (l : Slot). l.ring) at_x))

-- the items of a receive, then its answer
chain_held : {s u : State} (r : ReceiveCall) (a : Answer) (l : List (LaneKey × ℕ)) → Ordered s → Chain s (map (λ g. gives r g.0 g.1) l ++ (ends (Receive r) a ∷ [])) u
    → items_held u + length l ≡ items_held s
unfolding items_sent items_discarded
chain_held r a [] o (move m (stay u)) = omega (arith, ends_held o m refl)
chain_held r a (g ∷ l) o (move m c) = omega (arith, gives_held o m, chain_held r a l (move_ordered o m) c)

-- calls that are no receives hand nothing out
pub sender_hands : (s : State) (c : SenderCall) → (sender_outcome s c).0 ≡ []
unfolding sender_outcome register_sender try_send try_send_unsignaled drop_sender issue_slot
sender_hands s (RegisterSender m) = unless_law (λ o. o.0 ≡ []) _ s _ (λ n. refl) (λ p. go (clear_slots s))
  where
    go : (f : List ℕ) → (issue_slot f s).0 ≡ []
    go [] = refl
    go (x ∷ f) = refl
sender_hands s (TrySend k v) = unless_law (λ o. o.0 ≡ []) _ s _ (λ n. refl) (λ p. refl)
sender_hands s (TrySendUnsignaled k v) = unless_law (λ o. o.0 ≡ []) _ s _ (λ n. refl) (λ p. refl)
sender_hands s (DropSender k) = unless_law (λ o. o.0 ≡ []) _ s _ (λ n. refl) (λ p. refl)

pub control_hands : (s : State) (c : ControlCall) → (control_outcome s c).0 ≡ []
unfolding control_outcome pause resume close_lane release_consumed poll_all_lanes close_receiver count_held
control_hands s (Pause i) = unless_law (λ o. o.0 ≡ []) _ s _ (λ n. refl) (λ p. refl)
control_hands s (Resume i) = unless_law (λ o. o.0 ≡ []) _ s _ (λ n. refl) (λ p. refl)
control_hands s (CloseLane i) = unless_law (λ o. o.0 ≡ []) _ s _ (λ n. refl) (λ p. refl)
control_hands s ReleaseConsumed = unless_law (λ o. o.0 ≡ []) _ s _ (λ n. refl) (λ p. refl)
control_hands s PollAllLanes = unless_law (λ o. o.0 ≡ []) _ s _ (λ n. refl) (λ p. refl)
control_hands s CloseReceiver = unless_law (λ o. o.0 ≡ []) _ s _ (λ n. refl) (λ p. refl)
control_hands s CountHeld = refl

-- a call that closes no lane and hands nothing out
none_handed : (s u : State) (n : ℕ) (l : List (LaneKey × ℕ)) → l ≡ [] → items_held u ≡ items_held s + n → items_held u + length l + 0 ≡ items_held s + n
none_handed s u n l e h = rw e (omega arith)

-- every call
pub call_held : (s : State) → Ordered s → (c : Call)
    → items_held (outcome s c).1.1 + length (outcome s c).0 + items_discarded s c (outcome s c).1.0 ≡ items_held s + items_sent c (outcome s c).1.0
unfolding outcome ticks handed items_sent items_discarded control_outcome close_lane accepted
call_held s o (Receive r) = let w = outcome s (Receive r) in omega (arith, chain_held r w.1.0 w.0 o (call_chain s (Receive r)))
call_held s o (Sender c) = none_handed s _ _ _ (sender_hands s c) (ends_held o (sender_move s c) refl)
call_held s o (Control (Pause i)) = none_handed s _ _ _ (control_hands s (Pause i)) (ends_held o (control_move s (Pause i)) refl)
call_held s o (Control (Resume i)) = none_handed s _ _ _ (control_hands s (Resume i)) (ends_held o (control_move s (Resume i)) refl)
call_held s o (Control ReleaseConsumed) = none_handed s _ _ _ (control_hands s ReleaseConsumed) (ends_held o (control_move s ReleaseConsumed) refl)
call_held s o (Control PollAllLanes) = none_handed s _ _ _ (control_hands s PollAllLanes) (ends_held o (control_move s PollAllLanes) refl)
call_held s o (Control CloseReceiver) = none_handed s _ _ _ (control_hands s CloseReceiver) (ends_held o (control_move s CloseReceiver) refl)
call_held s o (Control CountHeld) = none_handed s _ _ _ (control_hands s CountHeld) (ends_held o (control_move s CountHeld) refl)
call_held s o (Control (CloseLane i)) =
    unless_law (λ w. items_held w.1.1 + length w.0 + if (accepted w.1.0) (length (s.slot_of i.key.slot).ring) 0 ≡ items_held s + 0) _ s _ (λ n. omega arith)
    (λ p. let c = has_lane_of_id s i (not_false p.1.0) in omega (arith, close_held s i o c))

items_handed : (s : State) (c : Call) → length (handed the_rules s c) ≡ length (outcome s c).0
unfolding handed outcome
items_handed s (Receive r) = length-map (outcome s (Receive r)).0 (λ g. gives r g.0 g.1)
items_handed s (Sender c) = ap length (sym (sender_hands s c))
items_handed s (Control c) = ap length (sym (control_hands s c))

pub held_after_call : HeldAfterCall rules_viewed
unfolding HeldAfterCall
held_after_call s o c = rw (items_handed s c) (call_held s o.ordered c)

pub held_is_sum : HeldIsSum rules_viewed
unfolding HeldIsSum
held_is_sum s o = held_answer s
