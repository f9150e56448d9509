-- Closing a lane does what the rules say, and leaves a store in order.
-- Assumes nothing.
use mathlib.Core.Path.{◌≡◌, refl, sym, ap, ◌∙◌, subst}
use mathlib.Core.List.{List}
use Prim.Native.Nat.{ℕ, ◌-◌, ◌<◌}
use native.Mathlib.Omega.{arith}
use Rattle.model.specs.declared.LaneId.{LaneId}
use Rattle.model.specs.declared.Answer.TheVariants.{Done}
use Rattle.model.specs.Lists as lists
use Rattle.model.specs.State.{State}
use Rattle.model.specs.Changes.{with_queue}
use Rattle.model.specs.Outcome.{says}
use Rattle.model.specs.Control as rules
use Rattle.model.specs.Turn as turns
use Rattle.demands.proofs.Counting.{without_own, without_other}
use Rattle.lane.specs.declared.lane.Lane.{Lane}
use Rattle.lane.specs.Table.{head, lane_at}
use Rattle.lane.proofs.TableLaws.{slot_of_lane, loaded_narrow}
use Rattle.queues.specs.Header.{issued, slots, free_count, lane_count}
use Rattle.queues.specs.Queue.{queue_of, remove}
use Rattle.queues.proofs.QueueLaws.{queue_frames, shaped_removed, head_removed, lane_removed}
use Rattle.store.specs.View.{view}
use Rattle.store.specs.Order.{Stores, StoreInOrder}
use Rattle.store.specs.Refusal.{id_verdict}
use Rattle.store.specs.Registry.{retired, retire_lane}
use Rattle.control.specs.Control.{close, close_lane}
use Rattle.store.proofs.ViewLaws.{view_removed, view_held_count}
use Rattle.store.proofs.RefusalLaws.{seen, id_verdict_lem, id_passes, refused_alike, unless_refused_case}
use Rattle.store.proofs.HeaderWords.{with_word}
use Rattle.store.proofs.StepLaws.{Step, step_start, step_removed}
use Rattle.store.proofs.StoreLaws.{lane_counted, room_in_free, Owes, stores_after_lem, windows_without}
use Rattle.store.proofs.RetireLaws.{view_retire_lane, step_retire_lane}
use Rattle.store.proofs.HeldLaws.{stores_held_count}

module _ (t r : List ℕ) (o : StoreInOrder t r) (x : ℕ) (h : x < issued t) (g : (lane_at t x).registered ≡ 1) where
  abbrev old : Lane
  old = lane_at t x

  abbrev out : List ℕ
  out = remove t x

  -- before its items are taken off the held count
  abbrev gone : List ℕ
  gone = retire_lane (remove t old.key.slot) old

  gone_is : gone ≡ retire_lane out (lane_at out x)
  gone_is = ap (λ (y : ℕ). retire_lane (remove t y) old) (slot_of_lane t x) ∙ ap (retire_lane out) (sym (lane_removed t x x))

  out_room : free_count out < slots out
  out_room = simp queue_frames (room_in_free t r o.stores x h g o.ordered)

  view_gone : view gone r ≡ turns.retire_lane x (with_queue (lists.without x (view t r).queue) (view t r))
  view_gone =
      ap (λ (u : List ℕ). view u r) gone_is
      ∙ view_retire_lane out r (shaped_removed t o.stores.shaped x) x (simp queue_frames h) out_room
      ∙ ap (turns.retire_lane x) (view_removed t r o.stores.shaped x)

  step_gone : Step t gone x (retired old) (lists.without x (queue_of t)) (with_word lane_count (lane_count out - 1) (head t))
  step_gone =
      subst (λ (u : List ℕ). Step t u x (retired old) (lists.without x (queue_of t)) (with_word lane_count (lane_count out - 1) (head t)))
      (sym (gone_is ∙ ap (retire_lane out) (lane_removed t x x)))
      (step_retire_lane (step_removed (step_start t r o.stores x) x) old (slot_of_lane t x) (loaded_narrow t x) h out_room)

  owes_gone : Owes t x (retired old) (lists.without x (queue_of t)) (with_word lane_count (lane_count out - 1) (head t))
  owes_gone =
      let f = o.stores.flags x h in
      record {
        flags = record {
          pending_flag = f.pending_flag;
          queued_flag = f.queued_flag;
          paused_flag = omega arith;
          registered_flag = omega arith;
          living_flag = f.living_flag;
        };
        order = λ e. absurd (omega arith);
        fast_below = o.stores.fast_below;
        once = omega (arith, without_own x (queue_of t));
        flagged = λ e. absurd (omega arith);
        rest = λ y n. without_other x y (queue_of t) n;
        window = λ e w. absurd (omega arith);
        windows = windows_without t r o.stores x;
        lane_count = omega (arith, head_removed t x 13 refl refl, g, lane_counted t r o.stores x h g);
        living_count = refl;
      }

  stores_gone : Stores gone r
  stores_gone = stores_after_lem t r gone r o.stores x h (retired old) _ _ step_gone owes_gone o.stores.rings_room

  view_closed : view (close t old) r ≡ turns.retire_lane x (with_queue (lists.without x (view t r).queue) (view t r))
  unfolding close
  view_closed = view_held_count gone r stores_gone.shaped _ ∙ view_gone

  stores_closed : Stores (close t old) r
  unfolding close
  stores_closed = stores_held_count gone r _ stores_gone

pub close_lane_alike : (t r : List ℕ) (i : LaneId) → StoreInOrder t r → seen (close_lane t r i) ≡ (rules.close_lane (view t r) i).1
unfolding close_lane rules.close_lane
close_lane_alike t r i o =
    refused_alike (id_verdict t i) _ t r (Done, close t (lane_at t i.key.slot), r) (says Done _) (id_verdict_lem t r i)
    (λ e. let k = (id_passes t i e).1 in ap (λ (s : State). (Done, s)) (view_closed t r o i.key.slot k.is_issued k.registered))

pub close_lane_keeps : (t r : List ℕ) (i : LaneId) → StoreInOrder t r → Stores (close_lane t r i).1 (close_lane t r i).2
unfolding close_lane
close_lane_keeps t r i o =
    unless_refused_case (λ w. Stores w.1 w.2) (id_verdict t i) t r (Done, close t (lane_at t i.key.slot), r) (λ why e. o.stores)
    (λ e. let k = (id_passes t i e).1 in stores_closed t r o i.key.slot k.is_issued k.registered)
