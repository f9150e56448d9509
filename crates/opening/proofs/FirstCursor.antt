-- "Every ring registered, in a freed slot too, starts with its cursors at the first cursor": an opening puts its cursor into the header, and
-- a registration puts the header's into its lane. That no call changes the header's is in crate refinement, proofs/FirstCursorKept.antt.
-- Assumes nothing.
use mathlib.Core.Path.{◌≡◌, refl}
use mathlib.Core.List.{List}
use Prim.Native.Nat.{ℕ}
use native.Mathlib.Omega.{arith}
use lib.ListN.{length}
use Rattle.model.specs.declared.LaneKey.{LaneKey}
use Rattle.model.specs.declared.Opening.{Opening}
use Rattle.model.specs.declared.Answer.TheVariants.{Done, Registered}
use Rattle.lane.specs.Lane.{new_lane}
use Rattle.lane.specs.Table.{HasRow, lane_at}
use Rattle.lane.proofs.TableLaws.{frames, has_row}
use Rattle.queues.specs.Header.{first_cursor}
use Rattle.store.specs.Refusal.{Verdict}
use Rattle.std.specs.Prelude.{Ok, Err}
use Rattle.store.specs.Order.{StoreInOrder}
use Rattle.store.specs.Words.{unless_refused}
use Rattle.opening.specs.Opening.{open_store}
use Rattle.sender.specs.Sender.{passed_over, lanes_verdict, slot_verdict, due_key, take_slot, register_lane, register_slot, register_sender}
use Rattle.opening.specs.FirstCursor.{StartsAt}
use Rattle.sender.proofs.SenderBounds.{free_issued, register_room, due_in, length_taken}
use Rattle.opening.proofs.OpeningLaws.{accepted, hd}

-- an accepted opening puts its cursor into the header
pub opening_puts_cursor : (o : Opening) (t r : List ℕ) → (open_store o t r).0 ≡ Done → first_cursor (open_store o t r).1 ≡ o.cursor
opening_puts_cursor o t r e = let a = accepted o t r e in rw a.leaves (hd o t r a e 10 refl)

module _ (t r : List ℕ) (o : StoreInOrder t r) (most : ℕ) where
  -- the slot that is due has its lane new, whether it is the next unused one or a freed one
  due_lane_new : (d : ℕ) → slot_verdict t d ≡ Ok (tt {0}) → lane_at (register_lane t d (due_key t d)) (due_key t d).slot ≡ new_lane (due_key t d) (first_cursor t)
  unfolding register_lane
  due_lane_new d e =
      let below = due_in t d o.stores.shaped (free_issued t r o) (register_room t r o d e).due in
      let row : HasRow (due_key t d).slot (length (take_slot t d)) = omega (arith, below, o.stores.shaped.room, length_taken t d) in
      simp (frames, has_row (take_slot t d) (due_key t d).slot row)

  -- an accepted registration leaves the lane of the key that it answers new
  pub registered_lane_new : (k : LaneKey) → (register_sender t r most).0 ≡ Registered k → lane_at (register_sender t r most).1 k.slot ≡ new_lane k (first_cursor t)
  unfolding register_sender register_slot unless_refused
  registered_lane_new k e = go (lanes_verdict t most) (slot_verdict t (passed_over t)) refl e
    where
      go : (v w : Verdict) → slot_verdict t (passed_over t) ≡ w → let d = passed_over t in let u = unless_refused v t r (unless_refused w t r (Registered (due_key t d), register_lane t d (due_key t d), r)) in
          u.0 ≡ Registered k → lane_at u.1 k.slot ≡ new_lane k (first_cursor t)
      go (Ok n) (Ok m) a b = let same : due_key t (passed_over t) ≡ k = cc in rw (← same) (due_lane_new (passed_over t) a)
      go (Ok n) (Err why) a b = let z : ◌≡◌ {A = ℕ} 0 1 = cc in absurd (omega arith)
      go (Err why) w a b = let z : ◌≡◌ {A = ℕ} 0 1 = cc in absurd (omega arith)

  -- so its tail, released head, head and known tail are the first cursor
  pub registered_starts : (k : LaneKey) → (register_sender t r most).0 ≡ Registered k → StartsAt (first_cursor t) (lane_at (register_sender t r most).1 k.slot)
  registered_starts k e =
      rw (registered_lane_new k e) (record { tail_there = refl; released_there = refl; head_there = refl; known_there = refl })
