-- Resuming a lane does what the rules say, and leaves a store in order.
-- Assumes nothing.
use mathlib.Core.Path.{◌≡◌, refl, sym, ap, ◌∙◌, subst}
use mathlib.Core.Bool.{Bool, true, false, not}
use mathlib.Core.List.{List, [], ◌∷◌, ◌++◌}
use Prim.Native.Nat.{ℕ, suc, ◌<◌}
use native.Mathlib.Omega.{arith}
use borrow.Author.Tests.{eqb-true, eqb-false}
use Rattle.model.specs.declared.LaneId.{LaneId}
use Rattle.model.specs.declared.Answer.TheVariants.{Done}
use Rattle.model.specs.State.{Slot, State}
use Rattle.model.specs.Changes.{with_queue, put, with_flags, with_signal, with_paused, signalled}
use Rattle.model.specs.Outcome.{says}
use Rattle.model.specs.Control as rules
use Rattle.lane.specs.declared.lane.Lane.{Lane}
use Rattle.lane.specs.Table.{head, lane_at, put_lane}
use Rattle.lane.proofs.TableLaws.{frames, slot_of_lane, loaded_narrow}
use Rattle.queues.specs.Header.{Shaped, issued, slots, queue_count}
use Rattle.queues.specs.Queue.{queue_of, push_back}
use Rattle.queues.proofs.QueueLaws.{shaped_put_lane, length_queue}
use Rattle.store.specs.View.{flag, slot_at, view}
use Rattle.store.specs.Order.{Stores, StoreInOrder}
use Rattle.store.specs.Refusal.{id_verdict}
use Rattle.store.specs.Signal.{mark_if_idle}
use Rattle.control.specs.Control.{with_turn, resume_lane, resume}
use Rattle.store.proofs.ViewLaws.{slot_in, view_put_flags, view_pushed_back}
use Rattle.store.proofs.RefusalLaws.{seen, id_verdict_lem, id_passes, refused_alike, unless_refused_case}
use Rattle.store.proofs.StepLaws.{Step, step_start, step_put_lane, step_pushed_back}
use Rattle.store.proofs.StoreLaws.{Owes, stores_after_lem, windows_pushed_back}
use Rattle.store.proofs.SignalLaws.{idle_flag, marked_if, view_put_marked_if_idle, step_marked_if_idle}
use Rattle.store.proofs.SignalFrames.{shaped_marked_if_idle, head_marked_if_idle}
use Rattle.store.proofs.BackLaws.{back_own, back_other}
use Rattle.all_lanes.proofs.ControlBounds.{paused_unqueued, paused_room}
use Rattle.control.proofs.ResumeCases.{resumed_paused, resumed_unpaused}

-- a slot that is marked again, its flags as the lane's words have them
signalled_by : (s : Slot) (a b idle : Bool) → a ≡ s.registered → b ≡ s.living → idle ≡ not s.pending
    → marked_if idle (with_flags a b false (with_signal true s.marked s)) ≡ signalled (with_paused false s)
signalled_by s a b idle i j k = rw (i, j, k)

module _ (t r : List ℕ) (o : StoreInOrder t r) (x : ℕ) (h : x < issued t) (g : (lane_at t x).registered ≡ 1) where
  abbrev old : Lane
  old = lane_at t x

  abbrev new : Lane
  new = with_turn 1 1 0 old

  abbrev slot : Slot
  slot = (view t r).slot_of x

  abbrev stored : List ℕ
  stored = mark_if_idle (put_lane t new) old

  sees : slot ≡ slot_at t r x
  sees = slot_in t r x h

  shaped_new : Shaped (put_lane t new)
  shaped_new = shaped_put_lane t o.stores.shaped new

  view_stored : view stored r ≡ put x (signalled (with_paused false slot)) (view t r)
  unfolding slot_at
  view_stored =
      view_put_marked_if_idle (put_lane t new) r shaped_new old x (slot_of_lane t x) (simp frames h) _ (view t r)
      (view_put_flags t r o.stores.shaped x h new refl (loaded_narrow t x) refl refl refl refl)
      ∙ ap (λ (m : Slot). put x m (view t r))
      (signalled_by slot _ _ _ (sym (ap (λ (m : Slot). m.registered) sees)) (sym (ap (λ (m : Slot). m.living) sees))
      (idle_flag old.pending (o.stores.flags x h).pending_flag ∙ ap not (sym (ap (λ (m : Slot). m.pending) sees))))

  module _ (p : old.paused ≡ 1) where
    room : queue_count t < slots t
    room = paused_room t r o x h p

    resumed_is : resume_lane t old ≡ push_back stored x
    resumed_is = resumed_paused t old p ∙ ap (push_back stored) (slot_of_lane t x)

    view_resumed : view (resume_lane t old) r ≡ with_queue ((view t r).queue ++ (x ∷ [])) (put x (signalled (with_paused false slot)) (view t r))
    view_resumed =
        ap (λ (u : List ℕ). view u r) resumed_is
        ∙ view_pushed_back stored r (shaped_marked_if_idle (put_lane t new) old shaped_new) x (simp (head_marked_if_idle, frames) room)
        ∙ ap (λ (s : State). with_queue (s.queue ++ (x ∷ [])) s) view_stored

    step_resumed : Step t (resume_lane t old) x new (queue_of t ++ (x ∷ [])) (head t)
    step_resumed =
        let start = step_start t r o.stores x in
        subst (λ (u : List ℕ). Step t u x new (queue_of t ++ (x ∷ [])) (head t)) (sym resumed_is)
        (step_pushed_back (step_marked_if_idle (step_put_lane start new (slot_of_lane t x) (loaded_narrow t x) h) old (rw (slot_of_lane t x) h)) x (rw (length_queue t) room))

    owes_resumed : Owes t x new (queue_of t ++ (x ∷ [])) (head t)
    owes_resumed =
        let f = o.stores.flags x h in
        let k = o.stores.lanes x h g in
        let z = paused_unqueued t r o x h p in
        record {
          flags = record {
            pending_flag = omega arith;
            queued_flag = omega arith;
            paused_flag = omega arith;
            registered_flag = f.registered_flag;
            living_flag = f.living_flag;
          };
          order = λ e. record { cursors = k.cursors; counts = k.counts };
          fast_below = o.stores.fast_below;
          once = omega (arith, back_own x (queue_of t) z);
          flagged = λ e. sym (back_own x (queue_of t) z);
          rest = λ y n. back_other x y (queue_of t) n;
          window = λ e w. windows_pushed_back t r o.stores (suc x) x x (λ q. omega arith) h g w;
          windows = windows_pushed_back t r o.stores x x;
          lane_count = refl;
          living_count = refl;
        }

    stores_resumed : Stores (resume_lane t old) r
    stores_resumed = stores_after_lem t r (resume_lane t old) r o.stores x h new _ _ step_resumed owes_resumed o.stores.rings_room

  -- paused or not
  resumed_as_ruled : view (resume_lane t old) r ≡ rules.resume_if slot.paused x (view t r)
  unfolding rules.resume_if slot_at
  resumed_as_ruled = go (flag old.paused) refl
    where
      go : (b : Bool) → flag old.paused ≡ b → view (resume_lane t old) r ≡ rules.resume_if slot.paused x (view t r)
      go true e = view_resumed (eqb-true _ 1 e) ∙ ap (λ (c : Bool). rules.resume_if c x (view t r)) (sym (ap (λ (m : Slot). m.paused) sees ∙ e))
      go false e =
          ap (λ (u : List ℕ). view u r) (resumed_unpaused t old (eqb-false _ 1 e))
          ∙ ap (λ (c : Bool). rules.resume_if c x (view t r)) (sym (ap (λ (m : Slot). m.paused) sees ∙ e))

  resumed_stores : Stores (resume_lane t old) r
  resumed_stores = go (flag old.paused) refl
    where
      go : (b : Bool) → flag old.paused ≡ b → Stores (resume_lane t old) r
      go true e = stores_resumed (eqb-true _ 1 e)
      go false e = subst (λ (u : List ℕ). Stores u r) (sym (resumed_unpaused t old (eqb-false _ 1 e))) o.stores

pub resume_alike : (t r : List ℕ) (i : LaneId) → StoreInOrder t r → seen (resume t r i) ≡ (rules.resume (view t r) i).1
unfolding resume rules.resume
resume_alike t r i o =
    refused_alike (id_verdict t i) _ t r (Done, resume_lane t (lane_at t i.key.slot), r) (says Done _) (id_verdict_lem t r i)
    (λ e. let k = (id_passes t i e).1 in ap (λ (s : State). (Done, s)) (resumed_as_ruled t r o i.key.slot k.is_issued k.registered))

pub resume_keeps : (t r : List ℕ) (i : LaneId) → StoreInOrder t r → Stores (resume t r i).1 (resume t r i).2
unfolding resume
resume_keeps t r i o =
    unless_refused_case (λ w. Stores w.1 w.2) (id_verdict t i) t r (Done, resume_lane t (lane_at t i.key.slot), r) (λ why e. o.stores)
    (λ e. let k = (id_passes t i e).1 in resumed_stores t r o i.key.slot k.is_issued k.registered)
