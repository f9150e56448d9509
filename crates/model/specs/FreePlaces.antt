-- Document 02, N1, "Free places with every accepted send", by the calls and their answers alone. Claims about any rules; they are proved of document 01's.
-- Assumes nothing.
use Rattle.std.specs.Prelude.{◌≡◌, Bool, true, false, List, [], ◌∷◌, ◌++◌, map, ℕ, suc, ◌-◌, ◌<◌, ◌≤◌, length, eqb}
use Rattle.model.specs.declared.LaneKey.{LaneKey}
use Rattle.model.specs.declared.Opening.{Opening}
use Rattle.model.specs.declared.SenderCall.TheVariants.{RegisterSender, TrySend, TrySendUnsignaled}
use Rattle.model.specs.declared.Call.{Call}
use Rattle.model.specs.declared.Call.TheVariants.{Sender}
use Rattle.model.specs.declared.Refusal.TheVariants.{Full}
use Rattle.model.specs.declared.Answer.{Answer}
use Rattle.model.specs.declared.Answer.TheVariants.{Done, Registered, Taken, Item, Items, Stopped, Empty, Disconnected, Held, Refused}
use Rattle.model.specs.Runs.{Rules, RunsOf, all_runs, Tick, ends, trace, after_list}
use Rattle.model.specs.Opening.{next_power_of_two}
use Rattle.model.specs.Demand2.{values, into}

-- "An accepted send, ordinary or unsignalled": what is sent, and how.
pub data Send : Type 0 where
  ordinary unsignalled : ℕ → Send

-- Sent to the lane with this key.
unfoldable pub send_to : LaneKey → Send → Call
send_to k (ordinary v) = Sender (TrySend k v)
send_to k (unsignalled v) = Sender (TrySendUnsignaled k v)

-- The answer is that of an accepted send, and it says this number of free places.
unfoldable pub taken_with : ℕ → Answer → Bool
taken_with n (Taken w f) = eqb f n
taken_with n Done = false
taken_with n (Registered k) = false
taken_with n (Item v i) = false
taken_with n (Items m) = false
taken_with n (Stopped m) = false
taken_with n Empty = false
taken_with n Disconnected = false
taken_with n (Held m) = false
taken_with n (Refused r) = false

-- What a send answers that follows n others, where the send before these said F: the first F are taken, and each says one free place less than the one before;
-- those after them are refused 11, and so no others are (the last line follows from the first). With n = 0: F is 0 exactly if the next send is refused 11.
pub record TakesSoMany (F n : ℕ) (a : Answer) : Type 0 where
  pub taken_below : n < F → taken_with (F - suc n) a ≡ true
  pub full_from : F ≤ n → a ≡ Refused Full
  pub full_only_from : a ≡ Refused Full → F ≤ n

-- "how many further sends the ring would take with no other call between": wherever a send to a lane was accepted, `further` are any sends of either kind to the
-- same lane right after it, and `last` is one more. The claim is about all of `runs`.
unfoldable pub FreePlacesIn : (R : Rules) → RunsOf R → Type 0
FreePlacesIn R runs =
    (o : Opening) (lent : R.Stores) → (R.opens o lent).0 ≡ Done
    → (calls : List Call) (k : LaneKey) (first : Send) (further : List Send) (last : Send)
    → let sent = send_to k first ∷ map (send_to k) further in runs o lent (calls ++ (sent ++ (send_to k last ∷ [])))
    → let s = after_list R (R.opens o lent).1 calls in (w : Bool) (F : ℕ) → (R.step s (send_to k first)).0 ≡ Taken w F
    → TakesSoMany F (length further) (R.step (after_list R s sent) (send_to k last)).0

unfoldable pub FreePlaces : Rules → Type 0
FreePlaces R = FreePlacesIn R (all_runs R)

-- After t lane k has F free places: t is the end of an accepted send to it that said F, or of its registration, and F is then the capacity C.
pub data HasFree (C : ℕ) (k : LaneKey) : ℕ → Tick → Type 0 where
  sent : (m : Send) (w : Bool) (F : ℕ) → HasFree C k F (ends (send_to k m) (Taken w F))
  registered : (most : ℕ) → HasFree C k C (ends (Sender (RegisterSender most)) (Registered k))

-- More than was asked, of calls between: whatever happens since t, a send to the lane is refused 11 only if F sends to it were accepted meanwhile.
-- "a capacity [..] rounded up to a power of two C"
unfoldable pub NotFullBeforeIn : (R : Rules) → RunsOf R → Type 0
NotFullBeforeIn R runs =
    (o : Opening) (lent : R.Stores) → (R.opens o lent).0 ≡ Done
    → (calls : List Call) → runs o lent calls
    → (k : LaneKey) (F : ℕ) (t : Tick) → HasFree (next_power_of_two o.capacity) k F t
    → (last : Send) (before since rest : List Tick)
    → trace R (R.opens o lent).1 calls ≡ before ++ (t ∷ since ++ (ends (send_to k last) (Refused Full) ∷ rest))
    → F ≤ length (values (into k) since)

unfoldable pub NotFullBefore : Rules → Type 0
NotFullBefore R = NotFullBeforeIn R (all_runs R)
