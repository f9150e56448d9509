-- Document 02, N4: which slot a registration takes, when it is refused 8 or 9, and that else it does what it did before.
-- Assumes nothing.
use mathlib.Core.Path.{◌≡◌, refl, ap, sym, ◌∙◌, subst}
use mathlib.Core.Logic.{◌≢◌}
use mathlib.Core.Bool.{Bool, true, false, not}
use mathlib.Core.List.{List, [], ◌∷◌, ◌++◌}
use Prim.Native.Nat.{ℕ, ◌+◌, ◌≤◌, ◌<◌}
use native.Mathlib.Omega.{arith}
use borrow.Author.Tests.{leb-true, leb-false, lt-leb}
use lib.Dec.{eqb, leb}
use Rattle.model.specs.declared.LaneKey.{LaneKey}
use Rattle.model.specs.declared.SenderCall.TheVariants.{RegisterSender, TrySend, TrySendUnsignaled, DropSender}
use Rattle.model.specs.declared.ReceiveCall.TheVariants.{TryRecv, TryRecvFair, TryRecvFrom, TryRecvBatchInto, TryRecvBatchIntoWhile}
use Rattle.model.specs.declared.ControlCall.TheVariants.{Pause, Resume, CloseLane, ReleaseConsumed, PollAllLanes, CloseReceiver, CountHeld}
use Rattle.model.specs.declared.Call.{Call}
use Rattle.model.specs.declared.Call.TheVariants.{Sender, Receive, Control}
use Rattle.model.specs.declared.Refusal.{Refusal}
use Rattle.model.specs.declared.Refusal.TheVariants.{ReceiverClosed, AtCapacity, NoFreeSlot, OlderSenderLives}
use Rattle.model.specs.declared.Answer.{Answer}
use Rattle.model.specs.declared.Answer.TheVariants.{Done, Registered, Taken, Item, Items, Stopped, Empty, Disconnected, Held, Refused}
use Rattle.model.specs.Answers.{number}
use Rattle.model.specs.Lists.{both, either, non_empty, Each, count, without}
use Rattle.model.specs.State.{State, registered_lanes}
use Rattle.model.specs.Changes.{with_free, put, new_lane}
use Rattle.model.specs.Outcome.{Outcome, says, unless}
use Rattle.model.specs.Order.{InOrder}
use Rattle.model.specs.Runs.{accepted}
use Rattle.model.specs.Sender.{clear_slots, issue_slot, all_issued, register_sender, try_send, try_send_unsignaled, drop_sender, sender_outcome}
use Rattle.model.specs.Receive.{try_recv, try_recv_fair, try_recv_from, try_recv_batch_into, take_while, try_recv_batch_into_while, receive_outcome}
use Rattle.model.specs.Control.{pause, resume, close_lane, release_consumed, poll_all_lanes, close_receiver, count_held, control_outcome}
use Rattle.model.specs.Rules.{outcome}
use Rattle.model.specs.Viewed.{rules_viewed, rules_on_any_state}
use Rattle.model.specs.Registration.{LetPass, OlderLives, FirstClear, NoSlotLeft, RegistersInVain, TakesFirstClear, TakesNextUnused, EightExactly, NineExactly, RefusedOnlyInVain, issue_freed_last, freed_last_lives, register_freed_last, PassesOver, ElseAsBefore}
use Rattle.demands.proofs.Counting.{no}
use Rattle.demands.proofs.ClearSlots.{none_clear, all_live, first_clear, without_once}
use Rattle.demands.proofs.Moves.{unless_each}
use Rattle.demands.proofs.Demand1.{answer_one_accepted, answer_items_accepted, answer_while_accepted, take_from_accepted}

-- ---- small laws

both_none : (a : Bool) → both a false ≡ false
both_none true = refl
both_none false = refl

is_empty : {A : Type 0} (l : List A) → non_empty l ≡ false → l ≡ []
is_empty [] e = refl
is_empty (x ∷ l) e = absurd (no refl e)

has_some : {A : Type 0} (l : List A) → non_empty l ≡ true → l ≢ []
has_some [] e f = no e refl
has_some (x ∷ l) e f = let z : ◌≡◌ {A = ℕ} 0 1 = cc in omega arith

some_behind : (p : List ℕ) (x : ℕ) (q : List ℕ) → non_empty (p ++ (x ∷ q)) ≡ true
some_behind [] x q = refl
some_behind (y ∷ p) x q = refl

-- ---- a registration's answer: "The first that applies is given."

none_applies : (a b c d : Bool) (s : State) (r : Outcome) → a ≡ false → b ≡ false → c ≡ false → d ≡ false
    → unless ((a, ReceiverClosed) ∷ (b, AtCapacity) ∷ (c, NoFreeSlot) ∷ (d, OlderSenderLives) ∷ []) s r ≡ r
unfolding unless
none_applies a b c d s r e f g h = rw (e, f, g, h)

module _ (s : State) (most : ℕ) where
  data Said : Answer → Type 0 where
    six : s.is_open ≡ false → Said (Refused ReceiverClosed)
    seven : most ≤ registered_lanes s → Said (Refused AtCapacity)
    eight : LetPass s most → s.free ≡ [] → s.slots ≤ s.issued → Said (Refused NoFreeSlot)
    nine : LetPass s most → s.free ≢ [] → clear_slots s ≡ [] → s.slots ≤ s.issued → Said (Refused OlderSenderLives)
    takes : (k : LaneKey) → LetPass s most → (clear_slots s ≡ [] → s.slots ≤ s.issued → ⊥) → Said (Registered k)

  passes : s.is_open ≡ true → leb most (registered_lanes s) ≡ false → LetPass s most
  passes a b = record { is_open = a; below_most = omega (arith, leb-false most (registered_lanes s) b) }

  said : Said (register_sender s most).1.0
  unfolding register_sender issue_slot unless all_issued
  said = go s.is_open (leb most (registered_lanes s)) (non_empty s.free) (non_empty (clear_slots s)) (leb s.slots s.issued) refl refl refl refl refl
    where
      issued_slot : (f : List ℕ) → LetPass s most → (clear_slots s ≡ [] → s.slots ≤ s.issued → ⊥) → Said (issue_slot f s).1.0
      issued_slot [] p n = takes _ p n
      issued_slot (x ∷ f) p n = takes _ p n

      go : (a b f c i : Bool) → s.is_open ≡ a → leb most (registered_lanes s) ≡ b → non_empty s.free ≡ f → non_empty (clear_slots s) ≡ c
          → leb s.slots s.issued ≡ i
          → Said (unless ((not a, ReceiverClosed) ∷ (b, AtCapacity) ∷ (both (not f) i, NoFreeSlot) ∷ (both (not c) i, OlderSenderLives) ∷ []) s (issue_slot (clear_slots s) s)).1.0
      go false b f c i u v w x y = six u
      go true true f c i u v w x y = seven (leb-true most (registered_lanes s) v)
      go true false false false true u v w x y = eight (passes u v) (is_empty s.free w) (leb-true s.slots s.issued y)
      go true false false true true u v w x y = eight (passes u v) (is_empty s.free w) (leb-true s.slots s.issued y)
      go true false true false true u v w x y = nine (passes u v) (has_some s.free w) (is_empty (clear_slots s) x) (leb-true s.slots s.issued y)
      go true false true true true u v w x y = issued_slot (clear_slots s) (passes u v) (λ e h. has_some (clear_slots s) x e)
      go true false false false false u v w x y = issued_slot (clear_slots s) (passes u v) (λ e h. omega (arith, leb-false s.slots s.issued y))
      go true false false true false u v w x y = issued_slot (clear_slots s) (passes u v) (λ e h. omega (arith, leb-false s.slots s.issued y))
      go true false true false false u v w x y = issued_slot (clear_slots s) (passes u v) (λ e h. omega (arith, leb-false s.slots s.issued y))
      go true false true true false u v w x y = issued_slot (clear_slots s) (passes u v) (λ e h. omega (arith, leb-false s.slots s.issued y))

  -- ---- the slot that is taken

  let_through : LetPass s most → both (not (non_empty s.free)) (all_issued s) ≡ false → both (not (non_empty (clear_slots s))) (all_issued s) ≡ false
      → register_sender s most ≡ issue_slot (clear_slots s) s
  unfolding register_sender
  let_through p e f =
      none_applies (not s.is_open) (leb most (registered_lanes s)) _ _ s _ (ap not p.is_open) (lt-leb most (registered_lanes s) p.below_most) e f

  first_taken : (x : ℕ) (p q : List ℕ) → InOrder s → LetPass s most → FirstClear s p x q
      → register_sender s most ≡ says (Registered record { slot = x; generation = (s.slot_of x).generation + 1 }) (with_free (p ++ q) (put x (new_lane ((s.slot_of x).generation + 1) (s.slot_of x)) s))
  unfolding issue_slot
  first_taken x p q o l c =
      let f = first_clear s p x q c in
      let once : count x (p ++ (x ∷ q)) ≤ 1 = subst (λ (z : List ℕ). count x z ≤ 1) c.list (o.ordered.each_slot x).free_once in
      let left : without x s.free ≡ p ++ q = ap (without x) c.list ∙ without_once x p q once in
      let_through l (rw (c.list, some_behind p x q)) (rw f)
      ∙ ap (λ (z : List ℕ). issue_slot z s) f
      ∙ ap (λ (z : List ℕ). says (Registered record { slot = x; generation = (s.slot_of x).generation + 1 }) (with_free z (put x (new_lane ((s.slot_of x).generation + 1) (s.slot_of x)) s))) left

  next_taken : LetPass s most → Each (OlderLives s) s.free → s.issued < s.slots → register_sender s most ≡ issue_slot [] s
  unfolding all_issued
  next_taken l e h =
      let_through l (rw (lt-leb s.slots s.issued h) (both_none (not (non_empty s.free)))) (rw (lt-leb s.slots s.issued h) (both_none (not (non_empty (clear_slots s)))))
      ∙ ap (λ (z : List ℕ). issue_slot z s) (none_clear s e)

-- an empty list has no slot with an older sender
none_older : (s : State) → s.free ≡ [] → Each (OlderLives s) s.free
unfolding Each
none_older s e = subst (Each (OlderLives s)) (sym e) tt

-- ---- no other call answers 8 or 9

of_slots : Answer → Bool
of_slots (Refused r) = either (eqb (number r) 8) (eqb (number r) 9)
of_slots Done = false
of_slots (Registered k) = false
of_slots (Taken w f) = false
of_slots (Item v i) = false
of_slots (Items n) = false
of_slots (Stopped n) = false
of_slots Empty = false
of_slots Disconnected = false
of_slots (Held n) = false

accepted_other : (a : Answer) → accepted a ≡ true → of_slots a ≡ false
unfolding accepted of_slots
accepted_other (Refused r) e = absurd (no e refl)
accepted_other Done e = refl
accepted_other (Registered k) e = refl
accepted_other (Taken w f) e = refl
accepted_other (Item v i) e = refl
accepted_other (Items n) e = refl
accepted_other (Stopped n) e = refl
accepted_other Empty e = refl
accepted_other Disconnected e = refl
accepted_other (Held n) e = refl

module _ (s : State) where
  abbrev Other : Outcome → Type 0
  Other o = of_slots o.1.0 ≡ false

  data Kind (c : Call) : Type 0 where
    registers : (most : ℕ) → c ≡ Sender (RegisterSender most) → Kind c
    of_other : Other (outcome s c) → Kind c

  kind : (c : Call) → Kind c
  unfolding outcome sender_outcome try_send try_send_unsignaled drop_sender receive_outcome try_recv try_recv_fair try_recv_from try_recv_batch_into try_recv_batch_into_while control_outcome pause resume close_lane release_consumed poll_all_lanes close_receiver count_held of_slots number Each
  kind (Sender (RegisterSender most)) = registers most refl
  kind (Sender (TrySend k v)) = of_other (unless_each Other _ s _ (refl, (refl, (refl, tt))) refl)
  kind (Sender (TrySendUnsignaled k v)) = of_other (unless_each Other _ s _ (refl, (refl, (refl, tt))) refl)
  kind (Sender (DropSender k)) = of_other (unless_each Other _ s _ (refl, tt) refl)
  kind (Receive TryRecv) = of_other (unless_each Other _ s _ (refl, tt) (accepted_other _ (answer_one_accepted _ _)))
  kind (Receive TryRecvFair) = of_other (unless_each Other _ s _ (refl, tt) (accepted_other _ (answer_one_accepted _ _)))
  kind (Receive (TryRecvFrom i)) = of_other (unless_each Other _ s _ (refl, (refl, tt)) (accepted_other _ (take_from_accepted _ _ s)))
  kind (Receive (TryRecvBatchInto m n)) = of_other (unless_each Other _ s _ (refl, (refl, tt)) (accepted_other _ (answer_items_accepted m _ _)))
  kind (Receive (TryRecvBatchIntoWhile m b n)) = of_other (unless_each Other _ s _ (refl, (refl, tt)) (accepted_other _ (answer_while_accepted m (take_while b m s).0 _ _)))
  kind (Control (Pause i)) = of_other (unless_each Other _ s _ (refl, (refl, tt)) refl)
  kind (Control (Resume i)) = of_other (unless_each Other _ s _ (refl, (refl, tt)) refl)
  kind (Control (CloseLane i)) = of_other (unless_each Other _ s _ (refl, (refl, tt)) refl)
  kind (Control ReleaseConsumed) = of_other (unless_each Other _ s _ (refl, tt) refl)
  kind (Control PollAllLanes) = of_other (unless_each Other _ s _ (refl, tt) refl)
  kind (Control CloseReceiver) = of_other (unless_each Other _ s _ (refl, tt) refl)
  kind (Control CountHeld) = of_other refl

-- ---- the claims

abbrev parts : {o u : Outcome} → o ≡ u → (o.1.0 ≡ u.1.0) × (o.1.1 ≡ u.1.1)
parts e = (ap (λ (o : Outcome). o.1.0) e, ap (λ (o : Outcome). o.1.1) e)

pub takes_first_clear : TakesFirstClear rules_viewed
unfolding TakesFirstClear outcome sender_outcome
takes_first_clear s o most x p q l c = parts (first_taken s most x p q o l c)

pub takes_next_unused : TakesNextUnused rules_on_any_state
unfolding TakesNextUnused outcome sender_outcome issue_slot
takes_next_unused s any most l e h = parts (next_taken s most l e h)

pub refused_only_in_vain : RefusedOnlyInVain rules_on_any_state
unfolding RefusedOnlyInVain outcome sender_outcome
refused_only_in_vain s any most why l = go (said s most)
  where
    go : {a : Answer} → Said s most a → a ≡ Refused why → NoSlotLeft s
    go (six e) z = absurd (no l.is_open e)
    go (seven h) z = absurd (omega (arith, l.below_most))
    go (eight p e h) z = record { older_live = none_older s e; all_issued = h }
    go (nine p n e h) z = record { older_live = all_live s e; all_issued = h }
    go (takes k p n) z = let x : ◌≡◌ {A = ℕ} 0 1 = cc in absurd (omega arith)

-- what the answer to a call says, where it can only be a registration's
module _ (s : State) (c : Call) (r : Refusal) (P : Type 0) (one : of_slots (Refused r) ≡ true) where
  by_said : ((most : ℕ) → c ≡ Sender (RegisterSender most) → (a : Answer) → Said s most a → a ≡ Refused r → P) → (outcome s c).1.0 ≡ Refused r → P
  unfolding outcome sender_outcome
  by_said f = go (kind s c)
    where
      go : Kind s c → (outcome s c).1.0 ≡ Refused r → P
      go (registers most e) z = f most e _ (said s most) (sym (ap (λ (d : Call). (outcome s d).1.0) e) ∙ z)
      go (of_other o) z = absurd (no (ap of_slots z ∙ one) o)

module _ (s : State) where
  in_vain : (c : Call) (most : ℕ) → c ≡ Sender (RegisterSender most) → LetPass s most → Each (OlderLives s) s.free → s.slots ≤ s.issued → RegistersInVain s c
  in_vain c most e l n h = record { most = most; registers = e; let_pass = l; no_slot = record { older_live = n; all_issued = h } }

  eight_then : (c : Call) → (outcome s c).1.0 ≡ Refused NoFreeSlot → RegistersInVain s c × (s.free ≡ [])
  unfolding of_slots number
  eight_then c = by_said s c NoFreeSlot _ refl of
    where
      of : (most : ℕ) → c ≡ Sender (RegisterSender most) → (a : Answer) → Said s most a → a ≡ Refused NoFreeSlot → RegistersInVain s c × (s.free ≡ [])
      of most q _ (six e) z = let x : ◌≡◌ {A = ℕ} 0 1 = cc in absurd (omega arith)
      of most q _ (seven h) z = let x : ◌≡◌ {A = ℕ} 0 1 = cc in absurd (omega arith)
      of most q _ (eight p e h) z = (in_vain c most q p (none_older s e) h, e)
      of most q _ (nine p n e h) z = let x : ◌≡◌ {A = ℕ} 0 1 = cc in absurd (omega arith)
      of most q _ (takes k p n) z = let x : ◌≡◌ {A = ℕ} 0 1 = cc in absurd (omega arith)

  nine_then : (c : Call) → (outcome s c).1.0 ≡ Refused OlderSenderLives → RegistersInVain s c × (s.free ≢ [])
  unfolding of_slots number
  nine_then c = by_said s c OlderSenderLives _ refl of
    where
      of : (most : ℕ) → c ≡ Sender (RegisterSender most) → (a : Answer) → Said s most a → a ≡ Refused OlderSenderLives → RegistersInVain s c × (s.free ≢ [])
      of most q _ (six e) z = let x : ◌≡◌ {A = ℕ} 0 1 = cc in absurd (omega arith)
      of most q _ (seven h) z = let x : ◌≡◌ {A = ℕ} 0 1 = cc in absurd (omega arith)
      of most q _ (eight p e h) z = let x : ◌≡◌ {A = ℕ} 0 1 = cc in absurd (omega arith)
      of most q _ (nine p n e h) z = (in_vain c most q p (all_live s e) h, n)
      of most q _ (takes k p n) z = let x : ◌≡◌ {A = ℕ} 0 1 = cc in absurd (omega arith)

  -- where there is no slot
  vain_answer : (c : Call) (a : Answer) → (v : RegistersInVain s c) → ((b : Answer) → Said s v.most b → b ≡ a) → (outcome s c).1.0 ≡ a
  unfolding outcome sender_outcome
  vain_answer c a v f = ap (λ (d : Call). (outcome s d).1.0) v.registers ∙ f _ (said s v.most)

pub eight_exactly : EightExactly rules_on_any_state
unfolding EightExactly
eight_exactly s any c = (eight_then s c, λ v e. vain_answer s c _ v (go v e))
  where
    go : (v : RegistersInVain s c) → s.free ≡ [] → (b : Answer) → Said s v.most b → b ≡ Refused NoFreeSlot
    go v e _ (six u) = absurd (no v.let_pass.is_open u)
    go v e _ (seven h) = absurd (omega (arith, v.let_pass.below_most))
    go v e _ (eight p f h) = refl
    go v e _ (nine p n f h) = absurd (n e)
    go v e _ (takes k p n) = absurd (n (none_clear s v.no_slot.older_live) v.no_slot.all_issued)

pub nine_exactly : NineExactly rules_on_any_state
unfolding NineExactly
nine_exactly s any c = (nine_then s c, λ v e. vain_answer s c _ v (go v e))
  where
    go : (v : RegistersInVain s c) → s.free ≢ [] → (b : Answer) → Said s v.most b → b ≡ Refused OlderSenderLives
    go v e _ (six u) = absurd (no v.let_pass.is_open u)
    go v e _ (seven h) = absurd (omega (arith, v.let_pass.below_most))
    go v e _ (eight p f h) = absurd (e f)
    go v e _ (nine p n f h) = refl
    go v e _ (takes k p n) = absurd (n (none_clear s v.no_slot.older_live) v.no_slot.all_issued)

-- ---- what did not change

module _ (s : State) (most : ℕ) (distinct : (x : ℕ) → count x s.free ≤ 1) (never : PassesOver s most → ⊥) where
  abbrev Alike : (f c : List ℕ) → Type 0
  Alike f c =
      unless ((not s.is_open, ReceiverClosed) ∷ (leb most (registered_lanes s), AtCapacity) ∷ (both (not (non_empty f)) (all_issued s), NoFreeSlot)
      ∷ (both (not (non_empty c)) (all_issued s), OlderSenderLives) ∷ []) s (issue_slot c s)
      ≡ unless ((not s.is_open, ReceiverClosed) ∷ (leb most (registered_lanes s), AtCapacity) ∷ (both (not (non_empty f)) (leb s.slots s.issued), NoFreeSlot)
      ∷ (freed_last_lives f s, OlderSenderLives) ∷ []) s (issue_freed_last f s)

  -- no slot is free
  none_alike : Alike [] []
  unfolding unless all_issued issue_freed_last freed_last_lives
  none_alike = go (not s.is_open) (leb most (registered_lanes s)) (leb s.slots s.issued)
    where
      go : (a b i : Bool)
          → unless ((a, ReceiverClosed) ∷ (b, AtCapacity) ∷ (i, NoFreeSlot) ∷ (i, OlderSenderLives) ∷ []) s (issue_slot [] s)
          ≡ unless ((a, ReceiverClosed) ∷ (b, AtCapacity) ∷ (i, NoFreeSlot) ∷ (false, OlderSenderLives) ∷ []) s (issue_slot [] s)
      go true b i = refl
      go false true i = refl
      go false false true = refl
      go false false false = refl

  module _ (x : ℕ) (f : List ℕ) (e : s.free ≡ x ∷ f) where
    -- the slot freed last is clear
    clear_alike : (s.slot_of x).living ≡ false → Alike (x ∷ f) (clear_slots s)
    unfolding unless issue_slot issue_freed_last freed_last_lives Each
    clear_alike l =
        let c : FirstClear s [] x f = record { list = e; passed = no_slots; clear = l } in
        let once : count x ([] ++ (x ∷ f)) ≤ 1 = subst (λ (z : List ℕ). count x z ≤ 1) e (distinct x) in
        let left : without x s.free ≡ f = ap (without x) e ∙ without_once x [] f once in
        rw (first_clear s [] x f c, l, left)
      where
        no_slots : Each (OlderLives s) []
        no_slots = tt

    -- its older sender lives: a registration that is let pass finds no other slot
    lives_alike : (s.slot_of x).living ≡ true → Alike (x ∷ f) (clear_slots s)
    unfolding unless all_issued freed_last_lives
    lives_alike l = rw l (go s.is_open (leb most (registered_lanes s)) (non_empty (clear_slots s)) (leb s.slots s.issued) refl refl refl refl)
      where
        passes_over : s.is_open ≡ true → leb most (registered_lanes s) ≡ false → (NoSlotLeft s → ⊥) → ⊥
        passes_over a b n = never (record { let_pass = passes s most a b; freed_last = x; others = f; list = e; older_lives = l; some_left = n })

        go : (a b c i : Bool) → s.is_open ≡ a → leb most (registered_lanes s) ≡ b → non_empty (clear_slots s) ≡ c → leb s.slots s.issued ≡ i
            → unless ((not a, ReceiverClosed) ∷ (b, AtCapacity) ∷ (false, NoFreeSlot) ∷ (both (not c) i, OlderSenderLives) ∷ []) s (issue_slot (clear_slots s) s)
            ≡ unless ((not a, ReceiverClosed) ∷ (b, AtCapacity) ∷ (false, NoFreeSlot) ∷ (true, OlderSenderLives) ∷ []) s (issue_freed_last (x ∷ f) s)
        go false b c i u v w y = refl
        go true true c i u v w y = refl
        go true false false true u v w y = refl
        go true false true i u v w y = absurd (passes_over u v (λ n. has_some (clear_slots s) w (none_clear s n.older_live)))
        go true false false false u v w y = absurd (passes_over u v (λ n. omega (arith, n.all_issued, leb-false s.slots s.issued y)))

pub else_as_before : ElseAsBefore register_sender
unfolding register_sender register_freed_last
else_as_before s most distinct never = go s.free refl
  where
    of : (x : ℕ) (f : List ℕ) → s.free ≡ x ∷ f → (b : Bool) → (s.slot_of x).living ≡ b → Alike s most distinct never (x ∷ f) (clear_slots s)
    of x f e true l = lives_alike s most distinct never x f e l
    of x f e false l = clear_alike s most distinct never x f e l

    go : (f : List ℕ) → s.free ≡ f → Alike s most distinct never s.free (clear_slots s)
    go [] e =
        subst (λ (z : List ℕ). Alike s most distinct never z (clear_slots s)) (sym e)
        (subst (Alike s most distinct never []) (sym (none_clear s (none_older s e))) (none_alike s most distinct never))
    go (x ∷ f) e = subst (λ (z : List ℕ). Alike s most distinct never z (clear_slots s)) (sym e) (of x f e (s.slot_of x).living refl)
