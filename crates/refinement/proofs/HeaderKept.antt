-- No call changes a header word that none writes: first cursor, channel id, opening number, capacity, slots, first generation.
-- Of any words, in order or not.
-- Assumes nothing.
use Rattle.std.specs.Prelude.{Option, Some, None, Result, Ok, Err}
use mathlib.Core.Path.{◌≡◌, refl, ◌∙◌}
use mathlib.Core.Bool.{Bool, true, false}
use mathlib.Core.List.{List, []}
use Prim.Native.Nat.{ℕ, zero, suc, ◌-◌}
use lib.Dec.{eqb, ltb}
use lib.ListN.{length}
use Rattle.model.specs.declared.OpenedChannel.{OpenedChannel}
use Rattle.model.specs.declared.ReceiveCall.{ReceiveCall}
use Rattle.model.specs.declared.ReceiveCall.TheVariants.{TryRecv, TryRecvFair, TryRecvFrom, TryRecvBatchInto, TryRecvBatchIntoWhile}
use Rattle.model.specs.declared.Call.{Call}
use Rattle.model.specs.declared.Call.TheVariants.{Sender, Receive, Control}
use Rattle.model.specs.declared.Answer.TheVariants.{Items, Stopped, Empty}
use Rattle.model.specs.Lists.{either}
use Rattle.demands.proofs.Counting.{no}
use Rattle.demands.proofs.LaneIds.{channel_path}
use Rattle.lane.specs.declared.lane.Lane.{Lane}
use Rattle.lane.specs.declared.lane.LanePoll.{LanePoll}
use Rattle.lane.specs.declared.lane.EmptyLane.{EmptyLane}
use Rattle.yring.specs.Ring.{new_ring}
use Rattle.lane.specs.Lane.{reload_is_empty, refill, pop_targeted, poll, end_full_burst, move_chunk}
use Rattle.lane.specs.Table.{head, lane_at, put_lane}
use Rattle.lane.proofs.OrderLaws.{cond_holds}
use Rattle.queues.specs.Header.{issued, queue_front, queue_count, free_count, slots, budget, capacity, channel_id, opening_number, channel, first_cursor, first_generation, fast_slot, lane_count, living_count, held_count, set_budget, set_fast_slot, held_less}
use Rattle.queues.specs.Queue.{front_slot, rotate_left}
use Rattle.ready.specs.Ready.{collect_ready}
use Rattle.queues.proofs.QueueLaws.{head_rotated}
use Rattle.all_lanes.specs.AllLanes.{release_all}
use Rattle.control.specs.Control.{with_turn}
use Rattle.turns.specs.declared.turn.Took.{Took}
use Rattle.turns.specs.Turn.{front_lane, retire_if, settle_empty_front, meet_budget, rotate_if, turn_by, poll_front, after_turn, turns_within, turns}
use Rattle.turns.specs.Drained.{retire_empty_paused, retire_empty_paused_lanes, empty_or_drained, nothing_taken}
use Rattle.receive.specs.Receive.{else_take, take_from_window, fast_took, take_fast, take_if_popped, take_front_window, poll_loop, try_recv_refill, take_one, take_lone, take_fair, answer_one, try_recv, try_recv_fair}
use Rattle.turns.specs.Due.{collect_if_due}
use Rattle.receive_from.specs.Target.{settle_target, queue_target, keep_target, target_took, take_from, try_recv_from}
use Rattle.receive_batch.specs.Batch.{look_by, look_front, after_look, run_down_within, run_down, else_front, refresh_active, full_budget, chunk_size, gave_chunk, chunk_given, HandsAndTable, chunk_then, drained_within, drained, answer_items, batch_answer, batch_words}
use Rattle.receive_while.specs.While.{chunk_admitted, DrainedWhile, while_then, drained_while_within, drained_while, answer_while, while_answer, while_words}
use Rattle.refinement.specs.Runs.{receive_words, call_words}
use Rattle.store.proofs.HeaderWords.{place_of, Beside, beside, apart}
use Rattle.turns.proofs.FrontLaws.{head_left, head_met, head_gave}
use Rattle.refinement.proofs.HeaderSteps.{parts_write, Unwritten, KeptWord, NotHeld, At, at_by, at_put, at_head, at_held, at_pushed_back, at_removed, at_marked_if_idle, at_retired, at_slots, at_collected, unless_at, sender_at, control_at, at_release_all}
use Rattle.lane.specs.declared.consumer.Taken.{Taken}
use Rattle.std.specs.declared.ops.ControlFlow.{ControlFlow}
use Rattle.std.specs.declared.ops.ControlFlow.TheVariants.{Continue, Break}

-- of an answer with a table
abbrev TableAt : {A : Type 0} → KeptWord → A × List ℕ → Type 0
TableAt c o = At c o.1

module _ {c : KeptWord} where
  -- ---- turns

  at_retired_if : (dropped : Bool) (t : List ℕ) → At c t → (l : Lane) → At c (retire_if dropped t l)
  unfolding retire_if
  at_retired_if true t h l = at_retired t h l
  at_retired_if false t h l = h

  at_left : (t : List ℕ) → At c t → (found : EmptyLane) → At c (meet_budget (settle_empty_front t found))
  at_left t h found =
      at_by t h _
      (head_met (settle_empty_front t found) c.word (apart c.unwritten (place_of budget) refl)
      ∙ head_left t found c.word c.unwritten.in_header (apart c.unwritten (place_of queue_front) refl) (apart c.unwritten (place_of queue_count) refl)
      (apart c.unwritten (place_of free_count) refl) (apart c.unwritten (place_of lane_count) refl))

  at_turn : (t : List ℕ) → At c t → (p : Result LanePoll EmptyLane) → At c (turn_by t p).1
  unfolding turn_by
  at_turn t h (Ok p) =
      at_by t h _ (head_gave t p.rotate p.lane c.word c.unwritten.in_header (apart c.unwritten (place_of queue_front) refl) (apart c.unwritten (place_of budget) refl))
  at_turn t h (Err found) = at_left t h found

  at_front : (t r : List ℕ) (fair : Bool) → At c t → At c (poll_front t r fair).1
  unfolding poll_front
  at_front t r fair h =
      cond_holds (TableAt c) (eqb (queue_count t) 0) (Break None, t) _ (λ e. h)
      (λ e. at_turn t h (poll (new_ring (front_slot t) (capacity t)) r fair (front_lane t)))

  at_after : (u : ControlFlow (Option Took) (Unit {0}) × List ℕ) (more : Option Took × List ℕ) → At c u.1 → At c more.1 → At c (after_turn u more).1
  unfolding after_turn
  at_after (Break took, t) more h k = h
  at_after (Continue u, t) more h k = k

  at_turns_within : (n : ℕ) (t r : List ℕ) (fair : Bool) → At c t → At c (turns_within n t r fair).1
  unfolding turns_within
  at_turns_within zero t r fair h = h
  at_turns_within (suc n) t r fair h =
      let p = at_front t r fair h in
      at_after (poll_front t r fair) (turns_within n (poll_front t r fair).1 r fair) p (at_turns_within n (poll_front t r fair).1 r fair p)

  at_turns : (t r : List ℕ) (fair : Bool) → At c t → At c (turns t r fair).1
  unfolding turns
  at_turns t r fair h = at_turns_within (queue_count t) t r fair h

  -- ---- takes

  at_else : (o : Option Took × List ℕ) (more : List ℕ → Option Took × List ℕ) → At c o.1 → ((u : List ℕ) → At c u → At c (more u).1) → At c (else_take o more).1
  unfolding else_take
  at_else (Some took, t) more h f = h
  at_else (None, t) more h f = f t h

  at_from_window : (t : List ℕ) → At c t → (item : ℕ) (l : Lane) → At c (take_from_window t item l).1
  unfolding take_from_window
  at_from_window t h item l = at_head (put_lane t l) (at_put t h l) (place_of budget) (budget t - 1) refl

  at_fast_took : (t : List ℕ) → At c t → (p : Option Taken) → At c (fast_took t p).1
  unfolding fast_took
  at_fast_took t h (Some taken) = at_from_window t h taken.item taken.lane
  at_fast_took t h None = h

  at_if_popped : (t : List ℕ) → At c t → (p : Option Taken) → At c (take_if_popped t p).1
  unfolding take_if_popped
  at_if_popped t h (Some taken) = at_from_window (set_fast_slot t taken.lane.key.slot) (at_head t h (place_of fast_slot) taken.lane.key.slot refl) taken.item taken.lane
  at_if_popped t h None = h

  at_fast : (t r : List ℕ) → At c t → At c (take_fast t r).1
  unfolding take_fast
  at_fast t r h =
      cond_holds (TableAt c) (ltb (fast_slot t) (issued t)) _ (None, t)
      (λ e. cond_holds (TableAt c) (eqb (lane_at t (fast_slot t)).registered 1) _ (None, t) (λ f. at_fast_took t h _) (λ f. h)) (λ e. h)

  at_window : (t r : List ℕ) → At c t → At c (take_front_window t r).1
  unfolding take_front_window
  at_window t r h =
      cond_holds (TableAt c) (eqb (queue_count t) 0) (None, t) _ (λ e. h) (λ e. at_if_popped t h _)

  at_due : (t : List ℕ) → At c t → At c (collect_if_due t)
  unfolding collect_if_due
  at_due t h =
      cond_holds (At c) (eqb (budget t) 0) _ t
      (λ e. cond_holds (At c) (eqb (queue_count t) 0) t (set_budget (collect_ready false t) 64) (λ f. h) (λ f. at_head (collect_ready false t) (at_collected false t h) (place_of budget) 64 refl)) (λ e. h)

  at_poll_loop : (t r : List ℕ) → At c t → At c (poll_loop t r).1
  unfolding poll_loop
  at_poll_loop t r h = at_else (turns t r false) _ (at_turns t r false h) (λ u k. at_turns (collect_ready true u) r false (at_collected true u k))

  at_one : (t r : List ℕ) → At c t → At c (take_one t r).1
  unfolding take_one try_recv_refill
  at_one t r h =
      at_else (take_fast t r) _ (at_fast t r h)
      (λ u k. at_else (take_front_window (collect_if_due u) r) _ (at_window (collect_if_due u) r (at_due u k)) (λ v i. at_poll_loop v r i))

  at_lone : (t r : List ℕ) → At c t → At c (take_lone t r).1
  unfolding take_lone
  at_lone t r h =
      cond_holds (TableAt c) (eqb (queue_count t) 1) _ (None, t) (λ e. at_if_popped t h _) (λ e. h)

  at_fair : (t r : List ℕ) → At c t → At c (take_fair t r).1
  unfolding take_fair
  at_fair t r h =
      let p = at_head (collect_ready true t) (at_collected true t h) (place_of budget) 64 refl in
      at_else (take_lone (set_budget (collect_ready true t) 64) r) _ (at_lone (set_budget (collect_ready true t) 64) r p) (λ u k. at_turns u r true k)

  -- ---- nothing taken

  at_empty_paused : (t : List ℕ) → At c t → (x : ℕ) → At c (retire_empty_paused t x)
  unfolding retire_empty_paused
  at_empty_paused t h x =
      cond_holds (At c) (eqb (lane_at t x).registered 1) _ t
      (λ e. cond_holds (At c) (eqb (lane_at t x).paused 1) _ t (λ f. at_retired_if (reload_is_empty (lane_at t x)).empty t h (reload_is_empty (lane_at t x)).lane) (λ f. h)) (λ e. h)

  pub at_nothing : (t : List ℕ) → At c t → At c (nothing_taken t).1
  unfolding nothing_taken empty_or_drained retire_empty_paused_lanes
  at_nothing t h =
      cond_holds (TableAt c) (eqb (living_count t) 0) _ (Empty, t)
      (λ e. at_slots retire_empty_paused at_empty_paused (issued t) 0 t h) (λ e. h)

  at_answer : NotHeld c → (channel : OpenedChannel) (took : Option Took × List ℕ) → At c took.1 → At c (answer_one channel took).1
  unfolding answer_one
  at_answer n channel (Some took, t) h = at_held t h n _
  at_answer n channel (None, t) h = at_nothing t h

  -- ---- the targeted receive

  pub at_settled : (t : List ℕ) → At c t → (found : EmptyLane) → At c (settle_target t found).1
  unfolding settle_target
  at_settled t h found =
      at_retired_if found.disconnected _ (at_removed (put_lane t found.lane) (at_put t h found.lane) found.lane.key.slot) found.lane

  pub at_kept : (t : List ℕ) → At c t → (l : Lane) → At c (keep_target t l)
  unfolding keep_target queue_target
  at_kept t h l =
      let p = at_put t h l in
      let q = at_pushed_back _ (at_marked_if_idle _ (at_put t h (with_turn 1 1 0 l)) l) l.key.slot in
      cond_holds (At c) (eqb l.paused 0) _ (put_lane t l) (λ e. cond_holds (At c) (eqb l.queued 0) _ (put_lane t l) (λ f. q) (λ f. p)) (λ e. p)

  at_target : NotHeld c → (t r : List ℕ) → At c t → (x : ℕ) (p : Result Lane EmptyLane) → At c (target_took t r x p).1
  unfolding target_took
  at_target n t r h x (Err found) = at_settled t h found
  at_target n t r h x (Ok l) = at_held _ (at_kept t h (pop_targeted (new_ring x (capacity t)) r l).lane) n _

  -- ---- the batch

  at_look : (t : List ℕ) → At c t → (p : Result Lane EmptyLane) → At c (look_by t p).1
  unfolding look_by
  at_look t h (Ok l) = h
  at_look t h (Err found) = at_left t h found

  at_look_front : (t : List ℕ) → At c t → At c (look_front t).1
  unfolding look_front
  at_look_front t h =
      cond_holds (TableAt c) (eqb (queue_count t) 0) (Break None, t) _ (λ e. h) (λ e. at_look t h (refill (front_lane t)))

  at_after_look : (u : ControlFlow (Option Lane) (Unit {0}) × List ℕ) (more : Option Lane × List ℕ) → At c u.1 → At c more.1 → At c (after_look u more).1
  unfolding after_look
  at_after_look (Break front, t) more h k = h
  at_after_look (Continue u, t) more h k = k

  at_run_down_within : (n : ℕ) (t : List ℕ) → At c t → At c (run_down_within n t).1
  unfolding run_down_within
  at_run_down_within zero t h = h
  at_run_down_within (suc n) t h =
      let p = at_look_front t h in
      at_after_look (look_front t) (run_down_within n (look_front t).1) p (at_run_down_within n (look_front t).1 p)

  at_run_down : (t : List ℕ) → At c t → At c (run_down t).1
  unfolding run_down
  at_run_down t h = at_run_down_within (queue_count t) t h

  at_else_front : (o : Option Lane × List ℕ) (more : List ℕ → Option Lane × List ℕ) → At c o.1 → ((u : List ℕ) → At c u → At c (more u).1) → At c (else_front o more).1
  unfolding else_front
  at_else_front (Some l, t) more h f = h
  at_else_front (None, t) more h f = f t h

  at_refresh : (t : List ℕ) → At c t → At c (refresh_active t).1
  unfolding refresh_active
  at_refresh t h =
      at_else_front (run_down (collect_if_due t)) _ (at_run_down (collect_if_due t) (at_due t h)) (λ u k. at_run_down (collect_ready true u) (at_collected true u k))

  at_chunk : (t : List ℕ) → At c t → (n : ℕ) (l : Lane) → At c (chunk_given t n l)
  unfolding chunk_given gave_chunk rotate_if
  at_chunk t h n l =
      let e = end_full_burst (move_chunk (capacity t) n l) in
      let p = at_put t h e.lane in
      at_head (rotate_if e.ended (put_lane t e.lane))
      (cond_holds (At c) e.ended (rotate_left (put_lane t e.lane)) (put_lane t e.lane)
      (λ d. at_by (put_lane t e.lane) p _ (head_rotated (put_lane t e.lane) c.word c.unwritten.in_header (apart c.unwritten (place_of queue_front) refl))) (λ d. p))
      (place_of budget) (full_budget (budget t) - n) refl

  at_chunk_then : (f : Option Lane × List ℕ) (r : List ℕ) (left : ℕ) (more : List ℕ → ℕ → HandsAndTable) → At c f.1 → ((u : List ℕ) (m : ℕ) → At c u → At c (more u m).1)
      → At c (chunk_then f r left more).1
  unfolding chunk_then
  at_chunk_then (None, t) r left more h g = h
  at_chunk_then (Some l, t) r left more h g = g (chunk_given t (chunk_size t left l) l) (left - chunk_size t left l) (at_chunk t h (chunk_size t left l) l)

  at_drained_within : (n : ℕ) (t r : List ℕ) (left : ℕ) → At c t → At c (drained_within n t r left).1
  unfolding drained_within
  at_drained_within zero t r left h = h
  at_drained_within (suc n) t r left h =
      cond_holds (TableAt c) (eqb left 0) ([], t) _ (λ e. h)
      (λ e. at_chunk_then (refresh_active t) r left _ (at_refresh t h) (λ u m k. at_drained_within n u r m k))

  at_items : NotHeld c → (limit n : ℕ) (t : List ℕ) → At c t → At c (answer_items limit n t).1
  unfolding answer_items
  at_items e limit n t h =
      cond_holds (TableAt c) (eqb n 0) _ (Items n, held_less t n) (λ f. cond_holds (TableAt c) (eqb limit 0) (Items 0, t) (nothing_taken t) (λ g. h) (λ g. at_nothing t h)) (λ f. at_held t h e _)

  -- a batch up to its answer
  pub at_released : (t r : List ℕ) (limit : ℕ) → At c t → At c (release_all (drained t r limit).1)
  unfolding drained
  at_released t r limit h = at_release_all _ (at_drained_within limit t r limit h)

  at_batch : NotHeld c → (t r : List ℕ) (limit : ℕ) → At c t → At c (batch_answer t r limit).1
  unfolding batch_answer
  at_batch n t r limit h = at_items n limit (length (drained t r limit).0) (release_all (drained t r limit).1) (at_released t r limit h)

  at_while_then : (f : Option Lane × List ℕ) (r : List ℕ) (bound left : ℕ) (more : List ℕ → ℕ → DrainedWhile) → At c f.1 → ((u : List ℕ) (m : ℕ) → At c u → At c (more u m).1.1)
      → At c (while_then f r bound left more).1.1
  unfolding while_then
  at_while_then (None, t) r bound left more h g = h
  at_while_then (Some l, t) r bound left more h g =
      cond_holds (λ (d : DrainedWhile). At c d.1.1) (ltb (chunk_admitted t r bound (chunk_size t left l) l) (chunk_size t left l)) _ _
      (λ e. at_chunk t h (chunk_admitted t r bound (chunk_size t left l) l) l)
      (λ e. g (chunk_given t (chunk_admitted t r bound (chunk_size t left l) l) l) (left - chunk_admitted t r bound (chunk_size t left l) l) (at_chunk t h (chunk_admitted t r bound (chunk_size t left l) l) l))

  at_while_within : (n : ℕ) (t r : List ℕ) (bound left : ℕ) → At c t → At c (drained_while_within n t r bound left).1.1
  unfolding drained_while_within
  at_while_within zero t r bound left h = h
  at_while_within (suc n) t r bound left h =
      cond_holds (λ (d : DrainedWhile). At c d.1.1) (eqb left 0) (false, ([], t)) _ (λ e. h)
      (λ e. at_while_then (refresh_active t) r bound left _ (at_refresh t h) (λ u m k. at_while_within n u r bound m k))

  pub at_while_released : (t r : List ℕ) (limit bound : ℕ) → At c t → At c (release_all (drained_while t r limit bound).1.1)
  unfolding drained_while
  at_while_released t r limit bound h = at_release_all _ (at_while_within limit t r bound limit h)

  at_while : NotHeld c → (t r : List ℕ) (limit bound : ℕ) → At c t → At c (while_answer t r limit bound).1
  unfolding while_answer answer_while
  at_while n t r limit bound h =
      let d = drained_while t r limit bound in
      let u : List ℕ = release_all d.1.1 in
      let p = at_while_released t r limit bound h in
      cond_holds (TableAt c) d.0 (Stopped (length d.1.0), held_less u (length d.1.0)) _ (λ e. at_held u p n _) (λ e. at_items n limit (length d.1.0) u p)

  -- ---- every call

  receive_at : NotHeld c → (t r : List ℕ) (s : ReceiveCall) → At c t → At c (receive_words t r s).1
  unfolding receive_words try_recv try_recv_fair try_recv_from take_from batch_words while_words
  receive_at n t r TryRecv h = unless_at t h _ r _ (at_answer n (channel t) (take_one t r) (at_one t r h))
  receive_at n t r TryRecvFair h = unless_at t h _ r _ (at_answer n (channel t) (take_fair t r) (at_fair t r h))
  receive_at n t r (TryRecvFrom i) h = unless_at t h _ r _ (at_target n t r h i.key.slot (refill (lane_at t i.key.slot)))
  receive_at n t r (TryRecvBatchInto limit room) h = unless_at t h _ r _ (at_batch n t r limit h)
  receive_at n t r (TryRecvBatchIntoWhile limit bound room) h = unless_at t h _ r _ (at_while n t r limit bound h)

  call_at : NotHeld c → (t r : List ℕ) (s : Call) → At c t → At c (call_words t r s).1
  unfolding call_words
  call_at n t r (Sender s) h = sender_at t h n r s
  call_at n t r (Receive s) h = receive_at n t r s h
  call_at n t r (Control s) h = control_at t h n r s

-- ---- the same, without the value

-- what a table holds at such a word
abbrev pub kept_now : {j : ℕ} → Beside parts_write j → List ℕ → KeptWord
kept_now {j = j} n t = record { word = j; value = head t j; unwritten = n }

pub holds_now : {j : ℕ} (n : Beside parts_write j) (t : List ℕ) → At (kept_now n t) t
holds_now n t = record { holds = refl }

-- a word that no call writes is written by no part of one
no_part : {j : ℕ} → Unwritten j → Beside parts_write j
no_part {j = j} n = beside n.in_header (neither (eqb (place_of held_count) j) (parts_write j) n.not_one)
  where
    neither : (a b : Bool) → either a b ≡ false → b ≡ false
    neither true b e = absurd (no refl e)
    neither false b e = e

module _ {j : ℕ} (n : Beside parts_write j) (t r : List ℕ) where
  pub take_one_leaves : head (take_one t r).1 j ≡ head t j
  take_one_leaves = (at_one t r (holds_now n t)).holds

  pub take_fair_leaves : head (take_fair t r).1 j ≡ head t j
  take_fair_leaves = (at_fair t r (holds_now n t)).holds

pub call_leaves : {j : ℕ} → Unwritten j → (t r : List ℕ) (s : Call) → head (call_words t r s).1 j ≡ head t j
call_leaves n t r s = (call_at (apart n (place_of held_count) refl) t r s (holds_now (no_part n) t)).holds

-- ---- the words that no call writes

pub slots_unwritten : Unwritten (place_of slots)
slots_unwritten = beside refl refl

pub capacity_unwritten : Unwritten (place_of capacity)
capacity_unwritten = beside refl refl

pub channel_id_unwritten : Unwritten (place_of channel_id)
channel_id_unwritten = beside refl refl

pub opening_number_unwritten : Unwritten (place_of opening_number)
opening_number_unwritten = beside refl refl

pub first_cursor_unwritten : Unwritten (place_of first_cursor)
first_cursor_unwritten = beside refl refl

pub first_generation_unwritten : Unwritten (place_of first_generation)
first_generation_unwritten = beside refl refl

-- so a take leaves what names the opening
pub take_one_channel : (t r : List ℕ) → channel (take_one t r).1 ≡ channel t
take_one_channel t r = channel_path _ _ (take_one_leaves (no_part channel_id_unwritten) t r) (take_one_leaves (no_part opening_number_unwritten) t r)

pub take_fair_channel : (t r : List ℕ) → channel (take_fair t r).1 ≡ channel t
take_fair_channel t r = channel_path _ _ (take_fair_leaves (no_part channel_id_unwritten) t r) (take_fair_leaves (no_part opening_number_unwritten) t r)
