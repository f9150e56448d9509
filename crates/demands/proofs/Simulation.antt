-- Calls W that simulate the rules have the rules' runs: the same ticks, events and states. So demands 2 and 3, what is handed out and written as answered, the held
-- count, and that a closed lane gives nothing more, hold of them; what else does is in Carried.antt.
-- Assumes nothing.
use mathlib.Core.Path.{◌≡◌, refl, ap, sym, ◌∙◌, subst}
use mathlib.Core.List.{List, [], ◌∷◌, ◌++◌, map}
use Prim.Native.Nat.{ℕ, ◌<◌, ◌^◌}
use native.Mathlib.Omega.{arith}
use Rattle.model.specs.declared.LaneKey.{LaneKey}
use Rattle.model.specs.declared.Opening.{Opening}
use Rattle.model.specs.declared.SenderCall.TheVariants.{RegisterSender, TrySend, DropSender}
use Rattle.model.specs.declared.ReceiveCall.{ReceiveCall}
use Rattle.model.specs.declared.ReceiveCall.TheVariants.{TryRecv, TryRecvFair, TryRecvFrom, TryRecvBatchInto, TryRecvBatchIntoWhile}
use Rattle.model.specs.declared.Call.{Call}
use Rattle.model.specs.declared.Call.TheVariants.{Sender, Receive, Control}
use Rattle.model.specs.declared.Answer.TheVariants.{Done}
use Rattle.model.specs.Lists.{Each}
use Rattle.model.specs.State.{State, ring_of}
use Rattle.model.specs.Runs.{Tick, Rules, handed, ticks, trace, count_ticks, after_list}
use Rattle.model.specs.Rules.{the_rules}
use Rattle.model.specs.Viewed.{Viewed, rules_viewed}
use Rattle.model.specs.Events.{Event, budget_set, call_events, events_from, run_events}
use Rattle.model.specs.Demand2.{Demand2In, Demand2, shuts, values, out_of, into, HasRoom, HandsAsAnswered, HandsAsAnsweredIn}
use Rattle.model.specs.Demand3.{Demand3In, Demand3}
use Rattle.model.specs.EqualTurns.{EqualTurnsIn, EqualTurns}
use Rattle.model.specs.FreePlaces.{send_to, FreePlacesIn, FreePlaces}
use Rattle.model.specs.Closed.{NoneAfterCloseIn, NoneAfterClose}
use Rattle.model.specs.Held.{HeldAsCountedIn, HeldAsCounted}
use Rattle.model.specs.Stops.{StopsOnlyAtItemsIn, StopsOnlyAtItems, NextIsAboveIn, NextIsAbove, HandsOnlyAdmittedIn, HandsOnlyAdmitted}
use Rattle.model.specs.Wake.{NoLostWakeIn, NoLostWake, NothingWaitsIn, NothingWaits}
use Rattle.model.specs.Keys.{KeysNeverAgainIn, KeysNeverAgain, IssuedAsAnsweredIn, IssuedAsAnswered}
use Rattle.model.specs.FreePlaces.{NotFullBeforeIn, NotFullBefore}
use Rattle.model.specs.LaneIds.{OpeningsToldApartIn, OpeningsToldApart, SavedIdsRefusedIn}
use Rattle.model.specs.Renumbered.{renumbered_opening, renumbered_receive, renumbered_call, renumbered_tick, NumberOnlyTellsIdsIn, NumberOnlyTellsIds}
use Rattle.model.specs.RowWords.{AnswersAsBeforeIn, AnswersAsBefore}
use Rattle.model.specs.Simulation.{runs_that_fit, Simulation, numbers_of_call, Fits, CallFits}
use Rattle.demands.proofs.Demand2.{demand2}
use Rattle.demands.proofs.Demand3.{demand3}
use Rattle.demands.proofs.EqualTurns.{equal_turns}
use Rattle.demands.proofs.FreePlaces.{free_places_lem}
use Rattle.demands.proofs.Closed.{none_after_close}
use Rattle.demands.proofs.InOrder.{call_keeps_order, opening_in_order}
use Rattle.demands.proofs.Held.{held_as_counted}
use Rattle.demands.proofs.HandsAsAnswered.{hands_as_answered}
use Rattle.demands.proofs.Stops.{stops_only_at_items, next_is_above, hands_only_admitted}
use Rattle.demands.proofs.Wake.{no_lost_wake, nothing_waits}
use Rattle.demands.proofs.Keys.{keys_never_again, issued_as_answered}
use Rattle.demands.proofs.NotFull.{not_full_before}
use Rattle.demands.proofs.LaneIds.{openings_told_apart, saved_ids_refused}
use Rattle.demands.proofs.Renumbered.{number_only_tells_ids}
use Rattle.demands.proofs.RowWords.{answers_as_before}

-- two states are equal if their parts are, the slots one by one
pub state_path : (s u : State) → ((y : ℕ) → s.slot_of y ≡ u.slot_of y) → s.queue ≡ u.queue → s.free ≡ u.free → s.issued ≡ u.issued → s.budget ≡ u.budget → s.cursor ≡ u.cursor
    → s.is_open ≡ u.is_open → s.capacity ≡ u.capacity → s.slots ≡ u.slots → s.channel ≡ u.channel → s.first_generation ≡ u.first_generation → s ≡ u
state_path s u l q f i b c o k n h g =
    λ t. record { slot_of = λ y. l y t; queue = q t; free = f t; issued = i t; budget = b t; cursor = c t; is_open = o t; capacity = k t; slots = n t; channel = h t; first_generation = g t }

module _ (W : Viewed) (sim : Simulation W) where
  abbrev R : Rules
  R = W.rules

  pub same_handed : (s : R.State) (c : Call) → W.Ok s → handed R s c ≡ handed the_rules (W.view s) c
  unfolding handed
  same_handed s (Sender c) o = refl
  same_handed s (Control c) o = refl
  same_handed s (Receive r) o = rw (sim.hands_alike s r o)

  same_ticks : (s : R.State) (c : Call) → W.Ok s → ticks R s c ≡ ticks the_rules (W.view s) c
  unfolding ticks
  same_ticks s c o = rw (same_handed s c o, sim.answers_alike s c o)

  pub same_trace : (s : R.State) (cs : List Call) → W.Ok s → trace R s cs ≡ trace the_rules (W.view s) cs
  unfolding trace
  same_trace s [] o = refl
  same_trace s (c ∷ cs) o = rw (same_ticks s c o, same_trace (R.step s c).1 cs (sim.keeps_ok s c o), sim.leaves_alike s c o)

  pub same_after : (s : R.State) (cs : List Call) → W.Ok s → W.view (after_list R s cs) ≡ after_list the_rules (W.view s) cs
  unfolding after_list
  same_after s [] o = refl
  same_after s (c ∷ cs) o = same_after (R.step s c).1 cs (sim.keeps_ok s c o) ∙ ap (λ (x : State). after_list the_rules x cs) (sim.leaves_alike s c o)

  pub same_events : (s : R.State) (cs : List Call) → W.Ok s → events_from W s cs ≡ events_from rules_viewed (W.view s) cs
  unfolding events_from
  same_events s [] o = refl
  same_events s (c ∷ cs) o =
      ap (λ (es : List Event). call_events (W.view s) c ++ es)
      (same_events (R.step s c).1 cs (sim.keeps_ok s c o) ∙ ap (λ (x : State). events_from rules_viewed x cs) (sim.leaves_alike s c o))

  pub ok_after : (s : R.State) (cs : List Call) → W.Ok s → W.Ok (after_list R s cs)
  unfolding after_list
  ok_after s [] o = o
  ok_after s (c ∷ cs) o = ok_after (R.step s c).1 cs (sim.keeps_ok s c o)

  -- a run that is spoken of, from an accepted opening
  module _ (o : Opening) (lent : R.Stores) (d : (R.opens o lent).0 ≡ Done) where
    pub accepted_too : (the_rules.opens o (R.lengths lent)).0 ≡ Done
    accepted_too = sym (sim.opens_alike o lent) ∙ d

    module _ (calls : List Call) (f : W.runs o lent calls) where
      opened_ok : W.Ok (R.opens o lent).1
      opened_ok = sim.opens_ok o lent calls f d

      pub opened_trace : trace R (R.opens o lent).1 calls ≡ trace the_rules (the_rules.opens o (R.lengths lent)).1 calls
      opened_trace = same_trace (R.opens o lent).1 calls opened_ok ∙ ap (λ (x : State). trace the_rules x calls) (sim.opens_view o lent d)

      pub opened_after : W.view (after_list R (R.opens o lent).1 calls) ≡ after_list the_rules (the_rules.opens o (R.lengths lent)).1 calls
      opened_after = same_after (R.opens o lent).1 calls opened_ok ∙ ap (λ (x : State). after_list the_rules x calls) (sim.opens_view o lent d)

      pub opened_events : run_events W o lent calls ≡ run_events rules_viewed o (R.lengths lent) calls
      unfolding run_events
      opened_events =
          ap (λ (es : List Event). budget_set ∷ es)
          (same_events (R.opens o lent).1 calls opened_ok ∙ ap (λ (x : State). events_from rules_viewed x calls) (sim.opens_view o lent d))

      pub stays_ok : W.Ok (after_list R (R.opens o lent).1 calls)
      stays_ok = ok_after (R.opens o lent).1 calls opened_ok

  transfer3 : Demand3 the_rules → Demand3In R W.runs
  unfolding Demand3 Demand3In
  transfer3 h o lent d calls f before rest e = h o (R.lengths lent) (accepted_too o lent d) calls tt before rest (sym (opened_trace o lent d calls f) ∙ e)

  transfer_turns : EqualTurns the_rules → EqualTurnsIn R W.runs
  unfolding EqualTurns EqualTurnsIn
  transfer_turns h o lent d calls f before so_far rest e =
      h o (R.lengths lent) (accepted_too o lent d) calls tt before so_far rest (sym (opened_trace o lent d calls f) ∙ e)

  transfer_free : FreePlaces the_rules → FreePlacesIn R W.runs
  unfolding FreePlaces FreePlacesIn
  transfer_free h o lent d calls k first further last f w F e =
      let opened = (R.opens o lent).1 in
      let in_order = sim.opens_ok o lent _ f d in
      let s = after_list R opened calls in
      let sent = send_to k first ∷ map (send_to k) further in
      let there = ok_after opened calls in_order in
      let seen : W.view s ≡ after_list the_rules (the_rules.opens o (R.lengths lent)).1 calls =
      same_after opened calls in_order ∙ ap (λ (x : State). after_list the_rules x calls) (sim.opens_view o lent d)
      in rw (sim.answers_alike (after_list R s sent) (send_to k last) (ok_after s sent there), same_after s sent there, seen)
      (h o (R.lengths lent) (accepted_too o lent d) calls k first further last tt w F
      (ap (λ (x : State). (the_rules.step x (send_to k first)).0) (sym seen) ∙ sym (sim.answers_alike s (send_to k first) there) ∙ e))

  transfer_closed : NoneAfterClose the_rules → NoneAfterCloseIn R W.runs
  unfolding NoneAfterClose NoneAfterCloseIn
  transfer_closed h o lent d calls f before rest i e = h o (R.lengths lent) (accepted_too o lent d) calls tt before rest i (sym (opened_trace o lent d calls f) ∙ e)

  transfer_held : HeldAsCounted the_rules → HeldAsCountedIn R W.runs
  unfolding HeldAsCounted HeldAsCountedIn
  transfer_held h o lent d calls f before rest a e = h o (R.lengths lent) (accepted_too o lent d) calls tt before rest a (sym (opened_trace o lent d calls f) ∙ e)

  transfer_hands : HandsAsAnswered the_rules → HandsAsAnsweredIn R W.runs
  unfolding HandsAsAnswered HandsAsAnsweredIn
  transfer_hands h o lent d calls r f s e out room =
      let k = subst W.Ok e (ok_after (R.opens o lent).1 calls (sim.opens_ok o lent (calls ++ (Receive r ∷ [])) f d)) in
      rw (sim.answers_alike s (Receive r) k, sim.hands_alike s r k, sim.output_alike s r out room k) (h (W.view s) r out room)

  transfer2 : (ring : State → LaneKey → List ℕ) → Demand2 the_rules ring → Demand2In R W.runs (λ s. ring (W.view s))
  unfolding Demand2 Demand2In
  transfer2 ring h o lent d calls f k z =
      let t = opened_trace o lent d calls f in
      let end = opened_after o lent d calls f in
      let g = h o (R.lengths lent) (accepted_too o lent d) calls tt k (ap (count_ticks (shuts k)) (sym t) ∙ z) in
      ap (λ (l : List Tick). values (out_of k) l ++ ring (W.view (after_list R (R.opens o lent).1 calls)) k) t ∙ ap (λ (x : State). values (out_of k) (trace the_rules (the_rules.opens o (R.lengths lent)).1 calls) ++ ring x k) end ∙ g ∙ ap (values (into k)) (sym t)

pub words_none_after_close : (W : Viewed) → Simulation W → NoneAfterCloseIn W.rules W.runs
words_none_after_close W sim = transfer_closed W sim none_after_close

pub words_held_as_counted : (W : Viewed) → Simulation W → HeldAsCountedIn W.rules W.runs
words_held_as_counted W sim = transfer_held W sim held_as_counted

pub words_hands_as_answered : (W : Viewed) → Simulation W → HandsAsAnsweredIn W.rules W.runs
words_hands_as_answered W sim = transfer_hands W sim hands_as_answered

pub words_demand3 : (W : Viewed) → Simulation W → Demand3In W.rules W.runs
words_demand3 W sim = transfer3 W sim demand3

pub words_equal_turns : (W : Viewed) → Simulation W → EqualTurnsIn W.rules W.runs
words_equal_turns W sim = transfer_turns W sim equal_turns

pub words_free_places : (W : Viewed) → Simulation W → FreePlacesIn W.rules W.runs
words_free_places W sim = transfer_free W sim free_places_lem

pub words_demand2 : (W : Viewed) → Simulation W → Demand2In W.rules W.runs (λ s. ring_of (W.view s))
words_demand2 W sim = transfer2 W sim ring_of demand2

-- The rules simulate themselves: none of the fields stands in another's way.
pub rules_simulate : Simulation rules_viewed
rules_simulate = record {
  opens_alike = λ o lent. refl;
  opens_view = λ o lent d. refl;
  opens_ok = λ o lent calls f d. opening_in_order o lent d;
  shows_in_order = λ s k. k;
  answers_alike = λ s c k. refl;
  leaves_alike = λ s c k. refl;
  hands_alike = λ s r k. refl;
  output_alike = λ s r out room k. refl;
  keeps_ok = λ s c k. call_keeps_order s c k;
}

-- ---- which numbers fit

opening_at : ℕ → Opening
opening_at cursor = record { capacity = 4; slots = 2; channel = 7; cursor = cursor; generation = 0; number = 0 }

replayed : List Call
replayed = Sender (RegisterSender 2) ∷ Sender (TrySend record { slot = 0; generation = 0 } 11) ∷ Receive TryRecv ∷ Receive TryRecv ∷ Sender (DropSender record { slot = 0; generation = 0 }) ∷ Receive TryRecv ∷ []

-- The run of "Input [..]; 1 (2); 2 (0, 0, 11); 5; 5; 4 (0, 0); 5", which "begins with 0 (4, 2, 7, 0, 0, 0)", fits, and with the last first cursor, 2^64 - 1, too; with 2^64 it does not.
replayed_run_fits : runs_that_fit the_rules (opening_at 0) record { rings = 2048; table = 4096 } replayed
unfolding runs_that_fit opening_at
replayed_run_fits = omega arith

last_cursor_fits : runs_that_fit the_rules (opening_at 18446744073709551615) record { rings = 2048; table = 4096 } replayed
unfolding runs_that_fit opening_at
last_cursor_fits = omega arith

past_last_cursor_not : runs_that_fit the_rules (opening_at 18446744073709551616) record { rings = 2048; table = 4096 } replayed → ⊥
unfolding runs_that_fit opening_at
past_last_cursor_not h = omega (arith, h)

-- Of nothing else anything is asked: no opening is left out for another of its numbers, and no list of calls, whatever ids are in it.
any_numbers_fit : (R : Rules) (o : Opening) (lent : R.Stores) (calls : List Call) → o.cursor < 2 ^ 64 → runs_that_fit R o lent calls
unfolding runs_that_fit
any_numbers_fit R o lent calls h = h

-- numbers of a call to 2^64 - 1 fit, and 2^64 does not
top_fits : CallFits (Sender (RegisterSender 18446744073709551615))
unfolding Fits Each numbers_of_call
top_fits = (omega arith, tt)

past_top_not : CallFits (Sender (RegisterSender 18446744073709551616)) → ⊥
unfolding Fits Each numbers_of_call
past_top_not h = omega (arith, h.0)

-- ---- what is claimed beside the demands

-- a lane id is no part of the room for a batch
room_kept : (f : ℕ → ℕ) (r : ReceiveCall) (out : List ℕ) → HasRoom r out → HasRoom (renumbered_receive f r) out
unfolding HasRoom renumbered_receive
room_kept f TryRecv out room = room
room_kept f TryRecvFair out room = room
room_kept f (TryRecvFrom i) out room = room
room_kept f (TryRecvBatchInto limit n) out room = room
room_kept f (TryRecvBatchIntoWhile limit bound n) out room = room

module _ (W : Viewed) (sim : Simulation W) where
  transfer_wake : NoLostWake the_rules → NoLostWakeIn W.rules W.runs
  unfolding NoLostWake NoLostWakeIn
  transfer_wake h o lent d calls f before asleep rest c a t e =
      h o (W.rules.lengths lent) (accepted_too W sim o lent d) calls tt before asleep rest c a t (sym (opened_trace W sim o lent d calls f) ∙ e)

  transfer_stops : StopsOnlyAtItems the_rules → StopsOnlyAtItemsIn W.rules W.runs
  unfolding StopsOnlyAtItems StopsOnlyAtItemsIn
  transfer_stops h o lent d calls f before rest c n e =
      h o (W.rules.lengths lent) (accepted_too W sim o lent d) calls tt before rest c n (sym (opened_trace W sim o lent d calls f) ∙ e)

  transfer_next : NextIsAbove the_rules → NextIsAboveIn W.rules W.runs
  unfolding NextIsAbove NextIsAboveIn
  transfer_next h o lent d calls f before rest limit bound room n t e =
      h o (W.rules.lengths lent) (accepted_too W sim o lent d) calls tt before rest limit bound room n t (sym (opened_trace W sim o lent d calls f) ∙ e)

  transfer_admitted : HandsOnlyAdmitted the_rules → HandsOnlyAdmittedIn W.rules W.runs
  unfolding HandsOnlyAdmitted HandsOnlyAdmittedIn
  transfer_admitted h o lent d calls f before rest limit bound room k v e =
      h o (W.rules.lengths lent) (accepted_too W sim o lent d) calls tt before rest limit bound room k v (sym (opened_trace W sim o lent d calls f) ∙ e)

  transfer_waits : NothingWaits the_rules → NothingWaitsIn W.rules W.runs
  unfolding NothingWaits NothingWaitsIn
  transfer_waits h o lent d calls f before rest c a e =
      h o (W.rules.lengths lent) (accepted_too W sim o lent d) calls tt before rest c a (sym (opened_trace W sim o lent d calls f) ∙ e)

  transfer_keys : KeysNeverAgain the_rules → KeysNeverAgainIn W.rules W.runs
  unfolding KeysNeverAgain KeysNeverAgainIn
  transfer_keys h o lent d calls f before rest c k e =
      h o (W.rules.lengths lent) (accepted_too W sim o lent d) calls tt before rest c k (sym (opened_trace W sim o lent d calls f) ∙ e)

  transfer_told_apart : OpeningsToldApart the_rules → OpeningsToldApartIn W.rules W.runs
  unfolding OpeningsToldApart OpeningsToldApartIn
  transfer_told_apart h o lent d calls f before rest c a e =
      h o (W.rules.lengths lent) (accepted_too W sim o lent d) calls tt before rest c a (sym (opened_trace W sim o lent d calls f) ∙ e)

  transfer_before : AnswersAsBefore the_rules → AnswersAsBeforeIn W.rules W.runs
  unfolding AnswersAsBefore AnswersAsBeforeIn
  transfer_before h o lent =
      let R = W.rules in
      let g = h o (R.lengths lent) in
      record {
        still_accepted = λ e. sim.opens_alike o lent ∙ g.still_accepted e;
        same_run = λ d was e calls t. opened_trace W sim o lent d calls t ∙ g.same_run (accepted_too W sim o lent d) was e calls tt;
        same_output = λ d was e calls t r out room.
            sim.output_alike (after_list R (R.opens o lent).1 calls) r out room (stays_ok W sim o lent d calls t)
            ∙ ap (λ (s : State). the_rules.output s r out) (opened_after W sim o lent d calls t) ∙ g.same_output (accepted_too W sim o lent d) was e calls tt r out room;
      }

  transfer_renumbered : NumberOnlyTellsIds the_rules → NumberOnlyTellsIdsIn W.rules W.runs
  unfolding NumberOnlyTellsIds NumberOnlyTellsIdsIn
  transfer_renumbered h f apart o lent =
      let R = W.rules in
      let p = renumbered_opening f o in
      let g = h f apart o (R.lengths lent) in
      let e : (R.opens p lent).0 ≡ (R.opens o lent).0 = sim.opens_alike p lent ∙ g.same_opening ∙ sym (sim.opens_alike o lent) in
      record {
        same_opening = e;
        same_run = λ d calls t u.
            opened_trace W sim p lent (e ∙ d) (map (renumbered_call f) calls) u
            ∙ g.same_run (accepted_too W sim o lent d) calls tt tt ∙ ap (map (renumbered_tick f)) (sym (opened_trace W sim o lent d calls t));
        same_output = λ d calls t u r out room.
            let later = map (renumbered_call f) calls in
            let q = renumbered_receive f r in
            sim.output_alike (after_list R (R.opens p lent).1 later) q out (room_kept f r out room) (stays_ok W sim p lent (e ∙ d) later u)
            ∙ ap (λ (s : State). the_rules.output s q out) (opened_after W sim p lent (e ∙ d) later u)
            ∙ g.same_output (accepted_too W sim o lent d) calls tt tt r out room
            ∙ ap (λ (s : State). the_rules.output s r out) (sym (opened_after W sim o lent d calls t))
            ∙ sym (sim.output_alike (after_list R (R.opens o lent).1 calls) r out room (stays_ok W sim o lent d calls t));
      }

  transfer_not_full : NotFullBefore the_rules → NotFullBeforeIn W.rules W.runs
  unfolding NotFullBefore NotFullBeforeIn
  transfer_not_full h o lent d calls f k F t g last before since rest e =
      h o (W.rules.lengths lent) (accepted_too W sim o lent d) calls tt k F t g last before since rest (sym (opened_trace W sim o lent d calls f) ∙ e)

  transfer_issued : (issued_of : State → ℕ) → IssuedAsAnswered the_rules issued_of → IssuedAsAnsweredIn W.rules W.runs (λ s. issued_of (W.view s))
  unfolding IssuedAsAnswered IssuedAsAnsweredIn
  transfer_issued issued_of h o lent d calls f =
      rw (opened_trace W sim o lent d calls f, opened_after W sim o lent d calls f) (h o (W.rules.lengths lent) (accepted_too W sim o lent d) calls tt)

pub words_no_lost_wake : (W : Viewed) → Simulation W → NoLostWakeIn W.rules W.runs
words_no_lost_wake W sim = transfer_wake W sim no_lost_wake

pub words_stops_only_at_items : (W : Viewed) → Simulation W → StopsOnlyAtItemsIn W.rules W.runs
words_stops_only_at_items W sim = transfer_stops W sim stops_only_at_items

pub words_next_is_above : (W : Viewed) → Simulation W → NextIsAboveIn W.rules W.runs
words_next_is_above W sim = transfer_next W sim next_is_above

pub words_hands_only_admitted : (W : Viewed) → Simulation W → HandsOnlyAdmittedIn W.rules W.runs
words_hands_only_admitted W sim = transfer_admitted W sim hands_only_admitted

pub words_nothing_waits : (W : Viewed) → Simulation W → NothingWaitsIn W.rules W.runs
words_nothing_waits W sim = transfer_waits W sim nothing_waits

pub words_keys_never_again : (W : Viewed) → Simulation W → KeysNeverAgainIn W.rules W.runs
words_keys_never_again W sim = transfer_keys W sim keys_never_again

pub words_issued_as_answered : (W : Viewed) → Simulation W → IssuedAsAnsweredIn W.rules W.runs (λ s. (W.view s).issued)
words_issued_as_answered W sim = transfer_issued W sim (λ s. s.issued) issued_as_answered

pub words_not_full_before : (W : Viewed) → Simulation W → NotFullBeforeIn W.rules W.runs
words_not_full_before W sim = transfer_not_full W sim not_full_before

pub words_openings_told_apart : (W : Viewed) → Simulation W → OpeningsToldApartIn W.rules W.runs
words_openings_told_apart W sim = transfer_told_apart W sim openings_told_apart

pub words_saved_ids_refused : (W : Viewed) → Simulation W → SavedIdsRefusedIn W.rules W.runs
words_saved_ids_refused W sim = saved_ids_refused W.rules W.runs (words_openings_told_apart W sim)

pub words_number_only_tells_ids : (W : Viewed) → Simulation W → NumberOnlyTellsIdsIn W.rules W.runs
words_number_only_tells_ids W sim = transfer_renumbered W sim number_only_tells_ids

pub words_answers_as_before : (W : Viewed) → Simulation W → AnswersAsBeforeIn W.rules W.runs
words_answers_as_before W sim = transfer_before W sim answers_as_before
