-- Document 02, N4, "Pass over a slot whose old sender still lives": which slot a registration takes, what it leaves of the free list, when it is refused 8 or 9,
-- how the list is ordered, and that nothing else changed. `TakesFirstClear` is proved of the rules on states in order, the other claims on any state.
-- Assumes nothing.
use Rattle.std.specs.Prelude.{◌≡◌, ◌≢◌, Bool, true, false, not, List, [], ◌∷◌, ◌++◌, ℕ, suc, ◌+◌, ◌≤◌, ◌<◌, leb}
use Rattle.model.specs.declared.SenderCall.TheVariants.{RegisterSender, TrySend, TrySendUnsignaled, DropSender}
use Rattle.model.specs.declared.Call.{Call}
use Rattle.model.specs.declared.Call.TheVariants.{Sender, Receive, Control}
use Rattle.model.specs.declared.Refusal.{Refusal}
use Rattle.model.specs.declared.Refusal.TheVariants.{ReceiverClosed, AtCapacity, NoFreeSlot, OlderSenderLives}
use Rattle.model.specs.declared.Answer.TheVariants.{Registered, Refused}
use Rattle.model.specs.Lists.{both, non_empty, Each, count}
use Rattle.model.specs.State.{State, registered_lanes}
use Rattle.model.specs.Changes.{with_free, with_issued, put, new_lane}
use Rattle.model.specs.Outcome.{Outcome, says, unless}
use Rattle.model.specs.Sender.{issue_slot}
use Rattle.model.specs.Viewed.{Viewed, answer_of, view_after}

-- ---- the words of the request

-- Refusals 6 and 7 let a registration pass: the receiver is open, and the registered lanes are fewer than the most-lanes number.
pub record LetPass (s : State) (most : ℕ) : Type 0 where
  pub is_open : s.is_open ≡ true
  pub below_most : registered_lanes s < most

-- Slot x, of the free list, has a living older sender.
abbrev pub OlderLives : State → ℕ → Type 0
OlderLives s x = (s.slot_of x).living ≡ true

-- Slot x of the free list is "the first slot without a living older sender": those before it, p, are passed over, and q are the others.
pub record FirstClear (s : State) (p : List ℕ) (x : ℕ) (q : List ℕ) : Type 0 where
  pub list : s.free ≡ p ++ (x ∷ q)
  pub passed : Each (OlderLives s) p
  pub clear : (s.slot_of x).living ≡ false

-- There is no slot for a further lane: all free slots "have living older senders, and slot S - 1 has been issued".
pub record NoSlotLeft (s : State) : Type 0 where
  pub older_live : Each (OlderLives s) s.free
  pub all_issued : s.slots ≤ s.issued

-- Call c is a registration that 6 and 7 let pass, and for which there is no slot.
pub record RegistersInVain (s : State) (c : Call) : Type 0 where
  pub most : ℕ
  pub registers : c ≡ Sender (RegisterSender most)
  pub let_pass : LetPass s most
  pub no_slot : NoSlotLeft s

-- ---- of any calls W: what is set in below takes W first, as in `TakesFirstClear rules_viewed`

module _ (W : Viewed) where
  -- What is said of a registration on state s: of the rules' state that s stands for, the answer, and the rules' state that is left.
  -- It "takes the first slot without a living older sender", with generation + 1. "The slots passed over stay in the list in their order", as do the others, and
  -- nothing else changes.
  unfoldable pub TakesFirstClear : Type 0
  TakesFirstClear =
      (s : W.rules.State) → W.Ok s → let t = W.view s in (most x : ℕ) (p q : List ℕ) → LetPass t most → FirstClear t p x q
      → let c = Sender (RegisterSender most) in
      let g = (t.slot_of x).generation + 1 in
      (answer_of W s c ≡ Registered record { slot = x; generation = g }) × (view_after W s c ≡ with_free (p ++ q) (put x (new_lane g (t.slot_of x)) t))

  -- "failing that, the next unused slot", with the first generation; the free list is left as it is
  unfoldable pub TakesNextUnused : Type 0
  TakesNextUnused =
      (s : W.rules.State) → W.Ok s → let t = W.view s in (most : ℕ) → LetPass t most → Each (OlderLives t) t.free → t.issued < t.slots
      → let c = Sender (RegisterSender most) in
      let g = t.first_generation in
      (answer_of W s c ≡ Registered record { slot = t.issued; generation = g })
      × (view_after W s c ≡ with_issued (suc t.issued) (put t.issued (new_lane g (t.slot_of t.issued)) t))

  -- "refusal 8 only when the list is empty too": of all calls, exactly then
  unfoldable pub EightExactly : Type 0
  EightExactly =
      (s : W.rules.State) → W.Ok s → let t = W.view s in (c : Call)
      → (answer_of W s c ≡ Refused NoFreeSlot → RegistersInVain t c × (t.free ≡ []))
      × (RegistersInVain t c → t.free ≡ [] → answer_of W s c ≡ Refused NoFreeSlot)

  -- "Refusal 9 is given only when the free list is not empty, all its slots have living older senders, and slot S - 1 has been issued": exactly then
  unfoldable pub NineExactly : Type 0
  NineExactly =
      (s : W.rules.State) → W.Ok s → let t = W.view s in (c : Call)
      → (answer_of W s c ≡ Refused OlderSenderLives → RegistersInVain t c × (t.free ≢ []))
      × (RegistersInVain t c → t.free ≢ [] → answer_of W s c ≡ Refused OlderSenderLives)

  -- No registration "fails although other slots are free": one that 6 and 7 let pass is refused only where no free slot is clear and slot S - 1 has been issued.
  unfoldable pub RefusedOnlyInVain : Type 0
  RefusedOnlyInVain =
      (s : W.rules.State) → W.Ok s → let t = W.view s in (most : ℕ) (why : Refusal) → LetPass t most → answer_of W s (Sender (RegisterSender most)) ≡ Refused why
      → NoSlotLeft t

-- ---- the order of the free list

-- Whether a call is a registration.
unfoldable pub registering : Call → Bool
registering (Sender (RegisterSender most)) = true
registering (Sender (TrySend k v)) = false
registering (Sender (TrySendUnsignaled k v)) = false
registering (Sender (DropSender k)) = false
registering (Receive r) = false
registering (Control c) = false

-- The free list of u is that of s with slots on top of it, none of which has a lane in u.
pub record OnTop (s u : State) : Type 0 where
  pub freed : List ℕ
  pub list : u.free ≡ freed ++ s.free
  pub retired : Each (λ x. (u.slot_of x).registered ≡ false) freed

-- "most recently freed first": what a call frees it puts on top, and the list below stays as it is, in its order, whatever calls come; a drop of a sender moves
-- no slot. A registration takes one slot out, or none, by the claims above.
unfoldable pub FreedOnTop : Viewed → Type 0
FreedOnTop W = (s : W.rules.State) → W.Ok s → (c : Call) → registering c ≡ false → OnTop (W.view s) (view_after W s c)

-- ---- what did not change

-- A registration by document 01's words: "the one freed last is issued first, with generation + 1; else the next unused", refused 9 if "the slot due still has
-- a living older sender". The original does this, but for refusals 8 and 9, which it lacks.
unfoldable pub issue_freed_last : List ℕ → State → Outcome
issue_freed_last [] s = issue_slot [] s
issue_freed_last (x ∷ f) s =
    says (Registered record { slot = x; generation = (s.slot_of x).generation + 1 })
    (with_free f (put x (new_lane ((s.slot_of x).generation + 1) (s.slot_of x)) s))

unfoldable pub freed_last_lives : List ℕ → State → Bool
freed_last_lives [] s = false
freed_last_lives (x ∷ f) s = (s.slot_of x).living

unfoldable pub register_freed_last : State → ℕ → Outcome
register_freed_last s most =
    unless
    ((not s.is_open, ReceiverClosed) ∷ (leb most (registered_lanes s), AtCapacity)
    ∷ (both (not (non_empty s.free)) (leb s.slots s.issued), NoFreeSlot) ∷ (freed_last_lives s.free s, OlderSenderLives) ∷ [])
    s (issue_freed_last s.free s)

-- A registration passes a slot over: the slot freed last has a living older sender, and there is another for the lane.
pub record PassesOver (s : State) (most : ℕ) : Type 0 where
  pub let_pass : LetPass s most
  pub freed_last : ℕ
  pub others : List ℕ
  pub list : s.free ≡ freed_last ∷ others
  pub older_lives : OlderLives s freed_last
  pub some_left : NoSlotLeft s → ⊥

-- "A run is held against the Rust only up to the first slot passed over.": a registration, by any rule for it, that passes none over does what it did by document
-- 01's words. "Free slots are distinct" is of its list of a store in order.
abbrev pub ElseAsBefore : (State → ℕ → Outcome) → Type 0
ElseAsBefore register =
    (s : State) (most : ℕ) → ((x : ℕ) → count x s.free ≤ 1) → (PassesOver s most → ⊥) → register s most ≡ register_freed_last s most
