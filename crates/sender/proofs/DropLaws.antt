-- Dropping a sender: what the rules see of the words after is the rules' step, and it leaves a store in order.
-- Assumes nothing.
use mathlib.Core.Path.{◌≡◌, refl, ap, ◌∙◌}
use mathlib.Core.Bool.{not}
use mathlib.Core.List.{List, [], ◌∷◌}
use Prim.Native.Nat.{ℕ, ◌+◌, ◌-◌, ◌<◌}
use native.Mathlib.Omega.{arith}
use Rattle.model.specs.declared.LaneKey.{LaneKey}
use Rattle.model.specs.declared.Refusal.TheVariants.{NoSuchSender}
use Rattle.model.specs.declared.Answer.TheVariants.{Done}
use Rattle.model.specs.State.{State, sender_lives}
use Rattle.model.specs.Changes as rules
use Rattle.model.specs.Changes.{put}
use Rattle.model.specs.Outcome.{says}
use Rattle.model.specs.Sender as rules_sender
use Rattle.lane.specs.declared.lane.Lane.{Lane}
use Rattle.lane.specs.Table.{head, lane_at, put_lane}
use Rattle.lane.proofs.TableLaws.{frames, slot_of_lane, loaded_narrow}
use Rattle.queues.specs.Header.{issued, budget, living_count}
use Rattle.queues.specs.Queue.{queue_of}
use Rattle.queues.proofs.QueueLaws.{shaped_put_lane}
use Rattle.store.specs.View.{slot_at, view}
use Rattle.store.specs.Order.{Stores, StoreInOrder}
use Rattle.store.specs.Refusal.{sender_verdict}
use Rattle.store.specs.Signal.{mark_if_idle}
use Rattle.sender.specs.Sender.{with_sender, drop_lane, drop_sender}
use Rattle.store.proofs.ViewLaws.{slot_in, view_put_flags, view_living_count}
use Rattle.store.proofs.RefusalLaws.{seen, unless_refused_case, refused_alike, sender_verdict_lem, Lives, sender_passes}
use Rattle.store.proofs.HeaderWords.{with_word}
use Rattle.store.proofs.StepLaws.{Step, step_start, step_put_lane, step_living_count}
use Rattle.store.proofs.StoreLaws.{living_counted, stores_after_lem, windows_kept}
use Rattle.store.proofs.SignalLaws.{idle_flag, view_put_marked_if_idle, step_marked_if_idle}

-- ---- of a living sender

module _ (t r : List ℕ) (k : LaneKey) (o : Stores t r) (p : Lives t k) where
  abbrev x : ℕ
  x = k.slot

  abbrev l : Lane
  l = lane_at t x

  abbrev s : State
  s = view t r

  is_issued : x < issued t
  is_issued = p.is_issued

  at : l.key.slot ≡ x
  at = slot_of_lane t x

  -- the lane without its sender
  abbrev left : Lane
  left = with_sender 1 0 l

  -- the table before the count
  abbrev u : List ℕ
  u = mark_if_idle (put_lane t left) l

  run : Step t u x left (queue_of t) (head t)
  run = step_marked_if_idle (step_put_lane (step_start t r o x) left at (loaded_narrow t x) is_issued) l (rw at is_issued)

  dropped_view : view (drop_lane t l) r ≡ put x (rules.signalled (rules.sender_dropped (s.slot_of x))) s
  unfolding drop_lane slot_at
  dropped_view =
      view_living_count u r run.shaped (living_count t - 1)
      ∙ view_put_marked_if_idle (put_lane t left) r (shaped_put_lane t o.shaped left) l x at (simp frames is_issued) _ s
      (view_put_flags t r o.shaped x is_issued left refl (loaded_narrow t x) refl refl refl refl)
      ∙ rw (slot_in t r x is_issued, idle_flag l.pending (o.flags x is_issued).pending_flag)

  dropped_stores : Stores (drop_lane t l) r
  unfolding drop_lane
  dropped_stores =
      let f = o.flags x is_issued in
      stores_after_lem t r _ r o x is_issued left (queue_of t) (with_word living_count (living_count t - 1) (head t)) (step_living_count run (living_count t - 1))
      (record {
        flags = record { pending_flag = omega arith; queued_flag = f.queued_flag; paused_flag = f.paused_flag; registered_flag = f.registered_flag; living_flag = omega arith };
        order = λ e. let i = o.lanes x is_issued e in record { cursors = i.cursors; counts = i.counts };
        fast_below = o.fast_below;
        once = o.named.once x;
        flagged = λ e. o.named.flagged x is_issued e;
        rest = λ y d. refl;
        window = λ e g. o.windows x is_issued e g;
        windows = windows_kept t r o x (budget t) (omega arith);
        lane_count = refl;
        living_count = one_less (living_count t) l.living p.living (living_counted t r o x is_issued p.living);
      })
      o.rings_room
    where
      one_less : (n a : ℕ) → a ≡ 1 → 0 < n → n - 1 + a ≡ n + 0
      one_less n a e h = omega arith

-- ---- the call

module _ (t r : List ℕ) (k : LaneKey) (o : StoreInOrder t r) where
  -- dropping a sender does what the rules say, and answers as they do
  pub drop_sender_alike : seen (drop_sender t r k) ≡ (rules_sender.drop_sender (view t r) k).1
  unfolding drop_sender rules_sender.drop_sender
  drop_sender_alike =
      refused_alike (sender_verdict t k) ((not (sender_lives (view t r) k), NoSuchSender) ∷ []) t r (Done, drop_lane t (lane_at t k.slot), r)
      (says Done (put k.slot (rules.signalled (rules.sender_dropped ((view t r).slot_of k.slot))) (view t r)))
      (sender_verdict_lem t r k) (λ e. ap (λ (z : State). (Done, z)) (dropped_view t r k o.stores (sender_passes t k e)))

  -- and leaves a store in order
  pub drop_sender_keeps : Stores (drop_sender t r k).1 (drop_sender t r k).2
  unfolding drop_sender
  drop_sender_keeps =
      unless_refused_case (λ z. Stores z.1 z.2) (sender_verdict t k) t r (Done, drop_lane t (lane_at t k.slot), r) (λ why e. o.stores)
      (λ e. dropped_stores t r k o.stores (sender_passes t k e))
