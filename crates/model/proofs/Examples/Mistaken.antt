-- Rules of which a claim on lane ids does not hold (specs/ShutOut.antt), most by two computed runs, one with little in it and one with much, as in Miscounted.antt.
-- Assumes nothing.
use Rattle.std.specs.Prelude.{◌≡◌, ℕ, suc, ◌≤◌}
use Rattle.std.proofs.Math.Path.{refl}
use Rattle.std.proofs.Common.{ap, sym, ◌∙◌, subst, arith}
use mathlib.Core.List.{List, [], ◌∷◌, ◌++◌, append_assoc}
use Rattle.model.specs.declared.OpenedChannel.{OpenedChannel}
use Rattle.model.specs.declared.LaneId.{LaneId}
use Rattle.model.specs.declared.Opening.{Opening}
use Rattle.model.specs.declared.SenderCall.{SenderCall}
use Rattle.model.specs.declared.SenderCall.TheVariants.{TrySend, TrySendUnsignaled, DropSender}
use Rattle.model.specs.declared.ReceiveCall.{ReceiveCall}
use Rattle.model.specs.declared.ReceiveCall.TheVariants.{TryRecvFrom}
use Rattle.model.specs.declared.ControlCall.{ControlCall}
use Rattle.model.specs.declared.ControlCall.TheVariants.{Pause, Resume, CloseLane, ReleaseConsumed, CloseReceiver}
use Rattle.model.specs.declared.Call.{Call}
use Rattle.model.specs.declared.Call.TheVariants.{Sender, Receive, Control}
use Rattle.model.specs.declared.Answer.{Answer}
use Rattle.model.specs.declared.Answer.TheVariants.{Done, Registered, Item}
use Rattle.model.specs.State.{State}
use Rattle.model.specs.Outcome.{Outcome}
use Rattle.model.specs.Runs.{Lent, Rules, all_runs, accepted, Tick, ends, handed, ticks, trace, after_list}
use Rattle.model.specs.Rules.{the_rules}
use Rattle.model.specs.LaneIds.{NamesLane, ByLaneId, targets, pauses, resumes, closes, NamesNoLane, ThirteenExactly, ElseSixOrAccepted, RefusedById, ToldApart, OpeningsToldApartIn, OpeningsToldApart, OtherNumber, SavedOf, of_item, of_lane, SavedIdsRefusedIn}
use Rattle.model.specs.ShutOut.{call_by, rules_by, TakenFor, as_it_is, Otherwise, taking, own_refused, closed_accepted, receive_otherwise, control_otherwise, do_otherwise, number_ignored, upper_half_ignored, channel_ignored, for_no_lane, takes_ids, item_named, receive_naming, names_items, number_lost, sender_calls_lose_number, receives_lose_number, controls_lose_number}
use Rattle.model.specs.Examples.Example.{compute_examples, key_at, id_on, registers, plain, fair, batch, polls_all, held}
use Rattle.model.proofs.Examples.Calls.{compute}
use Rattle.model.proofs.Examples.FreePlaces.{untrue}
use Rattle.model.proofs.Examples.LaneIds.{not_accepted, not_of_a_lane}

-- ---- a call in a run

record EndsIn (R : Rules) (s : R.State) (calls : List Call) (c : Call) (a : Answer) : Type 0 where
  before : List Tick
  rest : List Tick
  run : trace R s calls ≡ before ++ (ends c a ∷ rest)

ends_in : (R : Rules) (s : R.State) (calls : List Call) (c : Call) (after : List Call)
    → EndsIn R s (calls ++ (c ∷ after)) c (R.step (after_list R s calls) c).0
unfolding ticks trace after_list
ends_in R s [] c after =
    let l = trace R (R.step s c).1 after in record { before = handed R s c; rest = l; run = append_assoc (handed R s c) (ends c _ ∷ []) l }
ends_in R s (d ∷ calls) c after =
    let p = ends_in R (R.step s d).1 calls c after in
    let t = ticks R s d in
    record { before = t ++ p.before; rest = p.rest; run = ap (λ (l : List Tick). t ++ l) p.run ∙ sym (append_assoc t p.before (ends c _ ∷ p.rest)) }

-- what a call answers after others, from an opening on
abbrev answer_after : (R : Rules) → Opening → R.Stores → List Call → Call → Answer
answer_after R o lent calls c = (R.step (after_list R (R.opens o lent).1 calls) c).0

told : (R : Rules) (o : Opening) (lent : R.Stores) → (R.opens o lent).0 ≡ Done → (calls : List Call) (c : Call) (after : List Call)
    → OpeningsToldApart R → ToldApart o c (answer_after R o lent calls c)
unfolding OpeningsToldApart OpeningsToldApartIn
told R o lent d calls c after h =
    let p = ends_in R (R.opens o lent).1 calls c after in h o lent d (calls ++ (c ∷ after)) tt p.before p.rest c _ p.run

-- the same opening again, with the next number
again : Opening → Opening
again o = record { capacity = o.capacity; slots = o.slots; channel = o.channel; cursor = o.cursor; generation = o.generation; number = suc o.number }

-- an id, saved from one opening, in a call after the next
saved : (R : Rules) (o next : Opening) (lent relent : R.Stores) → OtherNumber o next → (R.opens o lent).0 ≡ Done → (R.opens next relent).0 ≡ Done
    → (calls : List Call) (c : Call) (a : Answer) (i : LaneId) → answer_after R o lent calls c ≡ a → SavedOf o a i
    → (later : List Call) (d : Call) (after : List Call) → ByLaneId i d → SavedIdsRefusedIn R (all_runs R) → RefusedById (answer_after R next relent later d)
unfolding SavedIdsRefusedIn
saved R o next lent relent other p q calls c a i e s later d after b h =
    let first = subst (EndsIn R (R.opens o lent).1 (calls ++ (c ∷ [])) c) e (ends_in R (R.opens o lent).1 calls c []) in
    let second = ends_in R (R.opens next relent).1 later d after in
    h o next lent relent p q other (calls ++ (c ∷ [])) (later ++ (d ∷ after)) tt tt
    first.before first.rest c a i first.run s second.before second.rest d _ second.run b

-- ---- two runs

-- with little in it: one slot of capacity 1, channel 0 and number 0; its lane is registered, and little else
unfoldable pub tiny : Opening
tiny = record { capacity = 1; slots = 1; channel = 0; cursor = 0; generation = 0; number = 0 }

unfoldable pub tiny_lent : Lent
tiny_lent = record { rings = 1; table = 536 }

-- 2 ^ 63
abbrev top_bit : ℕ
top_bit = 9223372036854775808

-- unlike tiny in all but the channel, on other stores
unlike : Opening
unlike = record { capacity = 2; slots = 2; channel = 0; cursor = 5; generation = 1; number = top_bit }

more_lent : Lent
more_lent = record { rings = 4; table = 600 }

-- with much in it: cursors that pass 2^64, generations from 4 on, the last number but two; each call but the receiver's closing, other lanes' sends, refused calls,
-- a closed lane and a slot that is issued again. Lane (1, 5) is then paused, and holds two items; lane (0, 4) holds one
abbrev pub N : ℕ
N = 18446744073709551613

unfoldable pub opening : Opening
opening = record { capacity = 4; slots = 3; channel = 9; cursor = 18446744073709551613; generation = 4; number = N }

unfoldable pub lent : Lent
lent = record { rings = 12; table = 584 }

-- of these slots and generations, with opening number n
unfoldable pub id : ℕ → ℕ → ℕ → LaneId
id n x g = id_on 9 n x g

unfoldable pub paused : ℕ → LaneId
paused n = id n 1 5

unfoldable pub sends : ℕ → ℕ → ℕ → Call
sends x g v = Sender (TrySend (key_at x g) v)

unfoldable pub calls : ℕ → List Call
calls n =
    registers
    ∷ registers
    ∷ registers
    ∷ Sender (DropSender (key_at 1 4))
    ∷ plain
    ∷ registers
    ∷ sends 1 5 1
    ∷ Sender (TrySendUnsignaled (key_at 1 5) 2)
    ∷ sends 0 4 3
    ∷ fair
    ∷ batch 1 1
    ∷ sends 0 5 3
    ∷ plain
    ∷ polls_all
    ∷ held
    ∷ Control ReleaseConsumed
    ∷ Control (Pause (id n 2 4))
    ∷ Control (Resume (id n 2 4))
    ∷ Control (CloseLane (id n 2 4))
    ∷ Receive (TryRecvFrom (id n 2 4))
    ∷ plain
    ∷ sends 0 4 4
    ∷ sends 1 5 5
    ∷ sends 1 5 6
    ∷ Control (Pause (paused n))
    ∷ []

-- and after the call that counts
unfoldable pub after : List Call
after = sends 0 4 7 ∷ plain ∷ Sender (DropSender (key_at 0 4)) ∷ held ∷ []

compute_mistaken : Unit {0}
unfolding compute compute_examples again tiny tiny_lent unlike more_lent opening lent id paused sends calls after accepted handed ticks after_list call_by as_it_is taking own_refused closed_accepted receive_otherwise control_otherwise number_ignored channel_ignored for_no_lane item_named receive_naming number_lost
compute_mistaken = tt

-- one call of each run, of any rules with document 01's opening
module _ (sending : State → SenderCall → Outcome) (receiving : State → ReceiveCall → Outcome) (controlling : State → ControlCall → Outcome) where
  abbrev R : Rules
  R = rules_by sending receiving controlling

  in_tiny : (some : List Call) (c : Call) → OpeningsToldApart R → ToldApart tiny c (answer_after R tiny tiny_lent (registers ∷ some) c)
  unfolding compute_mistaken
  in_tiny some c t = told R tiny tiny_lent refl (registers ∷ some) c [] t

  in_much : (c : Call) → OpeningsToldApart R → ToldApart opening c (answer_after R opening lent (calls N) c)
  unfolding compute_mistaken
  in_much c t = told R opening lent refl (calls N) c after t

  -- "an id saved for the earlier patient", of an item of a plain and of a targeted receive
  saved_tiny : (d : Call) → ByLaneId (id_on 0 0 0 0) d → SavedIdsRefusedIn R (all_runs R)
      → answer_after R tiny tiny_lent (registers ∷ sends 0 0 0 ∷ []) plain ≡ Item 0 (id_on 0 0 0 0)
      → RefusedById (answer_after R (again tiny) tiny_lent (registers ∷ []) d)
  unfolding compute_mistaken
  saved_tiny d b t e = saved R tiny (again tiny) tiny_lent tiny_lent (λ z. omega (arith, z)) refl refl (registers ∷ sends 0 0 0 ∷ []) plain _ _ e (of_item 0 (id_on 0 0 0 0)) (registers ∷ []) d [] b t

  saved_much : (d : Call) → ByLaneId (paused N) d → SavedIdsRefusedIn R (all_runs R)
      → answer_after R opening lent (calls N) (Receive (TryRecvFrom (paused N))) ≡ Item 5 (paused N)
      → RefusedById (answer_after R (again opening) lent (calls (suc N)) d)
  unfolding compute_mistaken
  saved_much d b t e = saved R opening (again opening) lent lent (λ z. omega (arith, z)) refl refl (calls N) (Receive (TryRecvFrom (paused N))) _ _ e (of_item 5 (paused N)) (calls (suc N)) d after b t

  -- of a lane just registered, and in an opening with another number that differs in its top bit alone, all else different too
  saved_back : (d : Call) → ByLaneId (id_on 0 top_bit 0 1) d → SavedIdsRefusedIn R (all_runs R)
      → answer_after R unlike more_lent [] registers ≡ Registered (key_at 0 1)
      → RefusedById (answer_after R tiny tiny_lent (registers ∷ Sender (DropSender (key_at 0 0)) ∷ plain ∷ registers ∷ []) d)
  unfolding compute_mistaken
  saved_back d b t e = saved R unlike tiny more_lent tiny_lent (λ z. omega (arith, z)) refl refl [] registers _ _ e (of_lane (key_at 0 1)) (registers ∷ Sender (DropSender (key_at 0 0)) ∷ plain ∷ registers ∷ []) d [] b t

-- ---- ids taken for others, in one of the four calls by lane id

abbrev Claim : Type 1
Claim = (targeted paused resumed closed : TakenFor) → Type 0

abbrev ToldApartBy : Claim
ToldApartBy f g h k = OpeningsToldApart (takes_ids f g h k)

abbrev SavedRefusedBy : Claim
SavedRefusedBy f g h k = SavedIdsRefusedIn (takes_ids f g h k) (all_runs (takes_ids f g h k))

-- on any state
abbrev ThirteenBy : Claim
ThirteenBy f g h k = ThirteenExactly record { rules = takes_ids f g h k; runs = all_runs (takes_ids f g h k); view = λ s. s; Ok = λ s. Unit {0} }

-- wrong in one call, as f has it, and right in the other three
abbrev EachShutOut : {A : Type 0} → A → (A → A → A → A → Type 0) → A → Type 0
EachShutOut r claim f = (claim f r r r → ⊥) × (claim r f r r → ⊥) × (claim r r f r → ⊥) × (claim r r r f → ⊥)

-- the number of the next opening
tiny_next : {c : Call} {a : Answer} → ByLaneId (id_on 0 1 0 0) c → ToldApart tiny c a → RefusedById a
unfolding compute_mistaken
tiny_next b t = t.others_refused (id_on 0 1 0 0) b (λ q. omega (arith, ap (λ (x : OpenedChannel). x.opening) q))

number_ignored_tiny : EachShutOut as_it_is ToldApartBy number_ignored
unfolding compute_mistaken
number_ignored_tiny = (
  λ t. untrue (not_accepted (tiny_next targets (in_tiny _ _ _ [] _ t))),
  λ t. untrue (not_accepted (tiny_next pauses (in_tiny _ _ _ [] _ t))),
  λ t. untrue (not_accepted (tiny_next resumes (in_tiny _ _ _ [] _ t))),
  λ t. untrue (not_accepted (tiny_next closes (in_tiny _ _ _ [] _ t))),
)

-- a number that differs in its top bit alone
tiny_upper : {c : Call} {a : Answer} → ByLaneId (id_on 0 top_bit 0 0) c → ToldApart tiny c a → RefusedById a
unfolding compute_mistaken
tiny_upper b t = t.others_refused (id_on 0 top_bit 0 0) b (λ q. omega (arith, ap (λ (x : OpenedChannel). x.opening) q))

upper_half_ignored_tiny : EachShutOut as_it_is ToldApartBy upper_half_ignored
unfolding compute_mistaken upper_half_ignored
upper_half_ignored_tiny = (
  λ t. untrue (not_accepted (tiny_upper targets (in_tiny _ _ _ [] _ t))),
  λ t. untrue (not_accepted (tiny_upper pauses (in_tiny _ _ _ [] _ t))),
  λ t. untrue (not_accepted (tiny_upper resumes (in_tiny _ _ _ [] _ t))),
  λ t. untrue (not_accepted (tiny_upper closes (in_tiny _ _ _ [] _ t))),
)

-- the number of the opening before
much_last : {c : Call} {a : Answer} → ByLaneId (paused 18446744073709551612) c → ToldApart opening c a → RefusedById a
unfolding compute_mistaken
much_last b t = t.others_refused (paused 18446744073709551612) b (λ q. omega (arith, ap (λ (x : OpenedChannel). x.opening) q))

number_ignored_lem : EachShutOut as_it_is ToldApartBy number_ignored
unfolding compute_mistaken
number_ignored_lem = (
  λ t. untrue (not_accepted (much_last targets (in_much _ _ _ _ t))),
  λ t. untrue (not_accepted (much_last pauses (in_much _ _ _ _ t))),
  λ t. untrue (not_accepted (much_last resumes (in_much _ _ _ _ t))),
  λ t. untrue (not_accepted (much_last closes (in_much _ _ _ _ t))),
)

saved_id_taken_tiny : EachShutOut as_it_is SavedRefusedBy number_ignored
unfolding compute_mistaken
saved_id_taken_tiny = (
  λ t. untrue (not_accepted (saved_tiny _ _ _ _ targets t refl)),
  λ t. untrue (not_accepted (saved_tiny _ _ _ _ pauses t refl)),
  λ t. untrue (not_accepted (saved_tiny _ _ _ _ resumes t refl)),
  λ t. untrue (not_accepted (saved_tiny _ _ _ _ closes t refl)),
)

saved_id_taken : EachShutOut as_it_is SavedRefusedBy number_ignored
unfolding compute_mistaken
saved_id_taken = (
  λ t. untrue (not_accepted (saved_much _ _ _ _ targets t refl)),
  λ t. untrue (not_accepted (saved_much _ _ _ _ pauses t refl)),
  λ t. untrue (not_accepted (saved_much _ _ _ _ resumes t refl)),
  λ t. untrue (not_accepted (saved_much _ _ _ _ closes t refl)),
)

saved_id_taken_back : EachShutOut as_it_is SavedRefusedBy number_ignored
unfolding compute_mistaken
saved_id_taken_back = (
  λ t. untrue (not_accepted (saved_back _ _ _ _ targets t refl)),
  λ t. untrue (not_accepted (saved_back _ _ _ _ pauses t refl)),
  λ t. untrue (not_accepted (saved_back _ _ _ _ resumes t refl)),
  λ t. untrue (not_accepted (saved_back _ _ _ _ closes t refl)),
)

-- another channel, with this number
channel_ignored_tiny : EachShutOut as_it_is ToldApartBy channel_ignored
unfolding compute_mistaken
channel_ignored_tiny = (
  λ t. untrue (not_accepted (other targets (in_tiny _ _ _ [] _ t))),
  λ t. untrue (not_accepted (other pauses (in_tiny _ _ _ [] _ t))),
  λ t. untrue (not_accepted (other resumes (in_tiny _ _ _ [] _ t))),
  λ t. untrue (not_accepted (other closes (in_tiny _ _ _ [] _ t))),
)
  where
    other : {c : Call} {a : Answer} → ByLaneId (id_on 1 0 0 0) c → ToldApart tiny c a → RefusedById a
    other b t = t.others_refused (id_on 1 0 0 0) b (λ q. omega (arith, ap (λ (x : OpenedChannel). x.id) q))

channel_ignored_lem : EachShutOut as_it_is ToldApartBy channel_ignored
unfolding compute_mistaken
channel_ignored_lem = (
  λ t. untrue (not_accepted (other targets (in_much _ _ _ _ t))),
  λ t. untrue (not_accepted (other pauses (in_much _ _ _ _ t))),
  λ t. untrue (not_accepted (other resumes (in_much _ _ _ _ t))),
  λ t. untrue (not_accepted (other closes (in_much _ _ _ _ t))),
)
  where
    other : {c : Call} {a : Answer} → ByLaneId (id_on 8 N 1 5) c → ToldApart opening c a → RefusedById a
    other b t = t.others_refused (id_on 8 N 1 5) b (λ q. omega (arith, ap (λ (x : OpenedChannel). x.id) q))

-- no id known, though a lane has it
tiny_lane : State
tiny_lane = after_list the_rules (the_rules.opens tiny tiny_lent).1 (registers ∷ [])

none_known_tiny : EachShutOut as_it_is ThirteenBy for_no_lane
unfolding compute_mistaken ThirteenExactly tiny_lane
none_known_tiny = (
  λ t. not_of_a_lane there targets ((t tiny_lane tt _).0 refl),
  λ t. not_of_a_lane there pauses ((t tiny_lane tt _).0 refl),
  λ t. not_of_a_lane there resumes ((t tiny_lane tt _).0 refl),
  λ t. not_of_a_lane there closes ((t tiny_lane tt _).0 refl),
)
  where
    there : NamesLane tiny_lane (id_on 0 0 0 0)
    there = record { slot = 0; registered = refl; same = refl }

none_known : EachShutOut as_it_is ThirteenBy for_no_lane
unfolding compute_mistaken ThirteenExactly
none_known = (
  λ t. not_of_a_lane there targets ((t at tt _).0 refl),
  λ t. not_of_a_lane there pauses ((t at tt _).0 refl),
  λ t. not_of_a_lane there resumes ((t at tt _).0 refl),
  λ t. not_of_a_lane there closes ((t at tt _).0 refl),
)
  where
    at : State
    at = after_list the_rules (the_rules.opens opening lent).1 (calls N)

    there : NamesLane at (paused N)
    there = record { slot = 1; registered = refl; same = refl }

-- and the other way round: an id known, though no lane has it
too_many_known : EachShutOut as_it_is ThirteenBy number_ignored
unfolding compute_mistaken ThirteenExactly tiny_lane
too_many_known = (
  λ t. untrue (ap accepted ((t tiny_lane tt _).1 (none targets))),
  λ t. untrue (ap accepted ((t tiny_lane tt _).1 (none pauses))),
  λ t. untrue (ap accepted ((t tiny_lane tt _).1 (none resumes))),
  λ t. untrue (ap accepted ((t tiny_lane tt _).1 (none closes))),
)
  where
    none : {c : Call} → ByLaneId (id_on 0 1 0 0) c → NamesNoLane tiny_lane c
    none b = record { id = id_on 0 1 0 0; by_id = b; is_open = refl; no_lane = λ n. omega (arith, ap (λ (i : LaneId). i.channel.opening) n.same) }

-- ---- a lane's own id refused, and a call accepted though the receiver is closed, in one of the four

abbrev AcceptedBy : (targeted paused resumed closed : Otherwise) → Type 0
AcceptedBy f g h k = ElseSixOrAccepted record { rules = do_otherwise f g h k; runs = all_runs (do_otherwise f g h k); view = λ s. s; Ok = λ s. Unit {0} }

own_refused_lem : EachShutOut (taking as_it_is) AcceptedBy own_refused
unfolding compute_mistaken ElseSixOrAccepted tiny_lane
own_refused_lem = (
  λ t. untrue (sym ((t tiny_lane tt _ _ targets).accepts refl there)),
  λ t. untrue (sym ((t tiny_lane tt _ _ pauses).accepts refl there)),
  λ t. untrue (sym ((t tiny_lane tt _ _ resumes).accepts refl there)),
  λ t. untrue (sym ((t tiny_lane tt _ _ closes).accepts refl there)),
)
  where
    there : NamesLane tiny_lane (id_on 0 0 0 0)
    there = record { slot = 0; registered = refl; same = refl }

closed_accepted_lem : EachShutOut (taking as_it_is) AcceptedBy closed_accepted
unfolding compute_mistaken ElseSixOrAccepted tiny_lane
closed_accepted_lem = (
  λ t. untrue (ap accepted ((t shut tt (id_on 0 0 0 0) _ targets).six refl)),
  λ t. untrue (ap accepted ((t shut tt (id_on 0 0 0 0) _ pauses).six refl)),
  λ t. untrue (ap accepted ((t shut tt (id_on 0 0 0 0) _ resumes).six refl)),
  λ t. untrue (ap accepted ((t shut tt (id_on 0 0 0 0) _ closes).six refl)),
)
  where
    shut : State
    shut = after_list the_rules tiny_lane (Control CloseReceiver ∷ [])

-- ---- items whose ids have another number

itself : LaneId → LaneId
itself i = i

numbered : ℕ → LaneId → LaneId
numbered n i = record { channel = record { id = i.channel.id; opening = n }; key = i.key }

on_channel : ℕ → LaneId → LaneId
on_channel n i = record { channel = record { id = n; opening = i.channel.opening }; key = i.key }

compute_items : Unit {0}
unfolding compute_mistaken itself numbered on_channel
compute_items = tt

-- the next number, by a plain, a fair and a targeted receive
tiny_carries_of : (n : ℕ) {c : Call} → 1 ≤ n → ToldApart tiny c (Item 0 (id_on 0 n 0 0)) → ⊥
unfolding compute_items
tiny_carries_of n some t = omega (arith, ap (λ (x : OpenedChannel). x.opening) (t.items_carry 0 (id_on 0 n 0 0) refl))

tiny_carries : {c : Call} → ToldApart tiny c (Item 0 (id_on 0 1 0 0)) → ⊥
tiny_carries = tiny_carries_of 1 (omega arith)

plain_misnames_tiny : OpeningsToldApart (names_items (numbered 1) itself itself) → ⊥
unfolding compute_items
plain_misnames_tiny t = tiny_carries (in_tiny _ _ _ (sends 0 0 0 ∷ []) plain t)

-- one with another top bit
plain_misnames_upper_tiny : OpeningsToldApart (names_items (numbered top_bit) itself itself) → ⊥
unfolding compute_items
plain_misnames_upper_tiny t = tiny_carries_of top_bit (omega arith) (in_tiny _ _ _ (sends 0 0 0 ∷ []) plain t)

fair_misnames_tiny : OpeningsToldApart (names_items itself (numbered 1) itself) → ⊥
unfolding compute_items
fair_misnames_tiny t = tiny_carries (in_tiny _ _ _ (sends 0 0 0 ∷ []) fair t)

targeted_misnames_tiny : OpeningsToldApart (names_items itself itself (numbered 1)) → ⊥
unfolding compute_items
targeted_misnames_tiny t = tiny_carries (in_tiny _ _ _ (sends 0 0 0 ∷ []) (Receive (TryRecvFrom (id_on 0 0 0 0))) t)

plain_misplaces_tiny : OpeningsToldApart (names_items (on_channel 1) itself itself) → ⊥
unfolding compute_items
plain_misplaces_tiny t = omega (arith, ap (λ (x : OpenedChannel). x.id) ((in_tiny _ _ _ (sends 0 0 0 ∷ []) plain t).items_carry 0 (id_on 1 0 0 0) refl))

-- number 0
much_carries : {c : Call} {v : ℕ} (n x g : ℕ) → n ≤ 1 → ToldApart opening c (Item v (id n x g)) → ⊥
unfolding compute_items
much_carries {v = v} n x g small t = omega (arith, ap (λ (h : OpenedChannel). h.opening) (t.items_carry v (id n x g) refl))

plain_misnames : OpeningsToldApart (names_items (numbered 0) itself itself) → ⊥
unfolding compute_items
plain_misnames t = much_carries 0 0 4 (omega arith) (in_much _ _ _ plain t)

fair_misnames : OpeningsToldApart (names_items itself (numbered 0) itself) → ⊥
unfolding compute_items
fair_misnames t = much_carries 0 0 4 (omega arith) (in_much _ _ _ fair t)

targeted_misnames : OpeningsToldApart (names_items itself itself (numbered 0)) → ⊥
unfolding compute_items
targeted_misnames t = much_carries 0 1 5 (omega arith) (in_much _ _ _ (Receive (TryRecvFrom (paused N))) t)

-- ---- a number that is lost: by the registration, by a pause, by a batch of no items

sender_calls_lose_it_tiny : OpeningsToldApart sender_calls_lose_number → ⊥
unfolding compute_items
sender_calls_lose_it_tiny t = untrue (not_accepted (tiny_next pauses (in_tiny _ _ _ [] _ t)))

controls_lose_it_tiny : OpeningsToldApart controls_lose_number → ⊥
unfolding compute_items
controls_lose_it_tiny t = untrue (not_accepted (tiny_next resumes (in_tiny _ _ _ (Control (Pause (id_on 0 0 0 0)) ∷ []) _ t)))

receives_lose_it_tiny : OpeningsToldApart receives_lose_number → ⊥
unfolding compute_items
receives_lose_it_tiny t = tiny_carries (in_tiny _ _ _ (sends 0 0 0 ∷ batch 0 0 ∷ []) plain t)

-- and by all that is called in the other run
sender_calls_lose_it : OpeningsToldApart sender_calls_lose_number → ⊥
unfolding compute_items
sender_calls_lose_it t = much_carries 1 0 4 (omega arith) (in_much _ _ _ plain t)

controls_lose_it : OpeningsToldApart controls_lose_number → ⊥
unfolding compute_items
controls_lose_it t = much_carries 1 0 4 (omega arith) (in_much _ _ _ plain t)

receives_lose_it : OpeningsToldApart receives_lose_number → ⊥
unfolding compute_items
receives_lose_it t = much_carries 1 0 4 (omega arith) (in_much _ _ _ plain t)
