-- What the claims of specs/Registration.antt force, whatever the rules for senders are: the whole answer and state at small states, and no refusal 8 or 9 elsewhere.
-- A claim in weaker words would force less.
-- Assumes nothing.
use Rattle.std.specs.Prelude.{◌≡◌, Bool, true, false, List, [], ◌∷◌, ◌++◌, ℕ, ◌+◌, ◌≤◌, eqb}
use Rattle.std.proofs.Math.Path.{refl, ap}
use Rattle.std.proofs.Common.{sym, ◌∙◌, subst, arith, length-append}
use Rattle.std.proofs.Math.ListN.{length}
use Rattle.model.specs.declared.SenderCall.{SenderCall}
use Rattle.model.specs.declared.SenderCall.TheVariants.{RegisterSender, TrySend, DropSender}
use Rattle.model.specs.declared.ControlCall.{ControlCall}
use Rattle.model.specs.declared.ControlCall.TheVariants.{CloseLane, CloseReceiver}
use Rattle.model.specs.declared.Call.{Call}
use Rattle.model.specs.declared.Call.TheVariants.{Sender, Control}
use Rattle.model.specs.declared.Refusal.{Refusal}
use Rattle.model.specs.declared.Refusal.TheVariants.{AtCapacity, NoFreeSlot, OlderSenderLives}
use Rattle.model.specs.declared.Answer.{Answer}
use Rattle.model.specs.declared.Answer.TheVariants.{Refused}
use Rattle.model.specs.Lists.{if, Each, count}
use Rattle.model.specs.State.{State}
use Rattle.model.specs.Changes.{with_free, with_issued, put, new_lane}
use Rattle.model.specs.Outcome.{Outcome}
use Rattle.model.specs.Runs.{all_runs, after_list}
use Rattle.model.specs.Sender.{sender_outcome}
use Rattle.model.specs.Receive.{receive_outcome}
use Rattle.model.specs.Control.{control_outcome}
use Rattle.model.specs.Opening.{opened_state}
use Rattle.model.specs.Rules.{the_rules}
use Rattle.model.specs.Viewed.{Viewed}
use Rattle.model.specs.Registration.{LetPass, NoSlotLeft, RegistersInVain, TakesFirstClear, TakesNextUnused, EightExactly, NineExactly, RefusedOnlyInVain, registering, FreedOnTop, issue_freed_last, freed_last_lives, register_freed_last, PassesOver, ElseAsBefore}
use Rattle.model.specs.ShutOut.{call_by, rules_by}
use Rattle.model.specs.Examples.Example.{compute_examples, key_at, id_at, registers, sends, drops, closes, plain, lane}
use Rattle.model.proofs.Examples.Calls.{compute}

-- ---- five states

-- after these calls, with S slots and first generation 0
after : ℕ → List Call → State
after S calls = after_list the_rules (opened_state record { capacity = 1; slots = S; channel = 7; cursor = 0; generation = 0; number = 0 }) calls

-- Lane 4 is registered; the free list is 3, 2, 1, 0. The older senders of 3 and 2 live, and 2 held an item. Slot 1 was taken twice, its lane closed with an item,
-- and its sender dropped then; slot 0's lane was found empty. S slots, of which five are issued.
two_to_pass : ℕ → State
two_to_pass S =
    after S
    (registers ∷ registers ∷ closes 1 ∷ drops 1 ∷ registers ∷ registers ∷ registers ∷ registers ∷ drops 0 ∷ plain
    ∷ Sender (TrySend (key_at 1 1) 5) ∷ sends 2 5 ∷ Control (CloseLane (id_at 1 1)) ∷ closes 2 ∷ closes 3 ∷ Sender (DropSender (key_at 1 1)) ∷ [])

-- lane 2 is registered; the free list is 1, 0, both with living older senders; S slots
all_to_pass : ℕ → State
all_to_pass S = after S (registers ∷ registers ∷ registers ∷ closes 0 ∷ closes 1 ∷ [])

-- one lane and no free slot; S slots
none_free : ℕ → State
none_free S = after S (registers ∷ [])

-- the receiver closed
shut : State → State
shut s = after_list the_rules s (Control CloseReceiver ∷ [])

compute_states : Unit {0}
unfolding compute compute_examples after_list after two_to_pass all_to_pass none_free shut call_by Each issue_freed_last freed_last_lives register_freed_last
compute_states = tt

lists : ((two_to_pass 5).free ≡ 3 ∷ 2 ∷ 1 ∷ 0 ∷ []) × ((all_to_pass 3).free ≡ 1 ∷ 0 ∷ []) × ((all_to_pass 4).free ≡ 1 ∷ 0 ∷ []) × ((none_free 1).free ≡ [])
unfolding compute_states
lists = (refl, refl, refl, refl)

-- ---- what is forced

abbrev registers_for : ℕ → Call
registers_for most = Sender (RegisterSender most)

-- 6 and 7 let a registration pass: one lane is registered, and two may be
passes_two : LetPass (two_to_pass 5) 2 × LetPass (two_to_pass 6) 2
unfolding compute_states
passes_two = (record { is_open = refl; below_most = omega arith }, record { is_open = refl; below_most = omega arith })

passes_all : LetPass (all_to_pass 3) 2 × LetPass (all_to_pass 4) 2
unfolding compute_states
passes_all = (record { is_open = refl; below_most = omega arith }, record { is_open = refl; below_most = omega arith })

passes_none : LetPass (none_free 1) 2 × LetPass (none_free 2) 2
unfolding compute_states
passes_none = (record { is_open = refl; below_most = omega arith }, record { is_open = refl; below_most = omega arith })

-- all free slots have living older senders, and the last slot is issued
vain : RegistersInVain (all_to_pass 3) (registers_for 2)
unfolding compute_states
vain = record { most = 2; registers = refl; let_pass = passes_all.0; no_slot = record { older_live = (refl, (refl, tt)); all_issued = omega arith } }

vain_none : RegistersInVain (none_free 1) (registers_for 2)
unfolding compute_states
vain_none = record { most = 2; registers = refl; let_pass = passes_none.0; no_slot = record { older_live = tt; all_issued = omega arith } }

-- a clear slot in the list, with all slots issued, or an unused one
not_two : NoSlotLeft (two_to_pass 5) → ⊥
unfolding compute_states
not_two n = let e = n.older_live.1.1.0 in let z : ◌≡◌ {A = ℕ} 0 1 = cc in omega arith

not_unused : NoSlotLeft (all_to_pass 4) → ⊥
unfolding compute_states
not_unused n = omega (arith, n.all_issued)

-- the most-lanes number of a registration is its own
let_pass_of : {s : State} {most : ℕ} → RegistersInVain s (registers_for most) → LetPass s most
let_pass_of {s} {most} v = let e : v.most ≡ most = cc in subst (LetPass s) e v.let_pass

-- a drop is no registration
not_a_drop : {s : State} → RegistersInVain s (Sender (DropSender (key_at 9 9))) → ⊥
not_a_drop v = let e = v.registers in let z : ◌≡◌ {A = ℕ} 0 1 = cc in omega arith

-- one lane may be registered, and one is
one_already : (LetPass (all_to_pass 3) 1 → ⊥) × (LetPass (none_free 1) 1 → ⊥)
unfolding compute_states
one_already = (λ p. omega (arith, p.below_most), λ p. omega (arith, p.below_most))

not_open : (LetPass (shut (all_to_pass 3)) 2 → ⊥) × (LetPass (shut (none_free 1)) 2 → ⊥)
unfolding compute_states
not_open = (λ p. let z : ◌≡◌ {A = ℕ} 0 1 = cc in omega arith, λ p. let z : ◌≡◌ {A = ℕ} 0 1 = cc in omega arith)

-- lists that are none of another with more on top
swapped : (f : List ℕ) → 0 ∷ 1 ∷ [] ≡ f ++ (1 ∷ 0 ∷ []) → ⊥
swapped [] e = let z : ◌≡◌ {A = ℕ} 0 1 = cc in omega arith
swapped (x ∷ f) e = omega (arith, ap length e, length-append f (1 ∷ 0 ∷ []))

between : (f : List ℕ) → 1 ∷ 2 ∷ 0 ∷ [] ≡ f ++ (1 ∷ 0 ∷ []) → ⊥
between [] e = omega (arith, ap length e)
between (x ∷ []) e = let z : ◌≡◌ {A = ℕ} 2 1 = cc in omega arith
between (x ∷ y ∷ f) e = omega (arith, ap length e, length-append f (1 ∷ 0 ∷ []))

-- of any rules for senders
module _ (sending : State → SenderCall → Outcome) where
  abbrev W : Viewed
  W = let R = rules_by sending receive_outcome control_outcome in record { rules = R; runs = all_runs R; view = λ s. s; Ok = λ s. Unit {0} }

  abbrev says : State → ℕ → Answer
  says s most = (sending s (RegisterSender most)).1.0

  abbrev leaves : State → ℕ → State
  leaves s most = (sending s (RegisterSender most)).1.1

  -- two slots passed over, the third taken with the next generation, and all others stay in the list in their order
  first_clear_forced : TakesFirstClear W → let s = two_to_pass 6 in
      (says s 2 ≡ lane 1 2) × (leaves s 2 ≡ with_free (3 ∷ 2 ∷ 0 ∷ []) (put 1 (new_lane 2 (s.slot_of 1)) s))
  unfolding compute_states TakesFirstClear
  first_clear_forced claim = claim (two_to_pass 6) tt 2 1 (3 ∷ 2 ∷ []) (0 ∷ []) passes_two.1 record { list = refl; passed = (refl, (refl, tt)); clear = refl }

  -- the next unused slot, where all in the list are passed over
  next_unused_forced : TakesNextUnused W → (says (all_to_pass 4) 2 ≡ lane 3 0) × (leaves (all_to_pass 4) 2 ≡ with_issued 4 (put 3 (new_lane 0 ((all_to_pass 4).slot_of 3)) (all_to_pass 4)))
  unfolding compute_states TakesNextUnused
  next_unused_forced claim = claim (all_to_pass 4) tt 2 passes_all.1 (refl, (refl, tt)) (omega arith)

  -- and where there is none in it
  next_unused_forced_too : TakesNextUnused W → says (none_free 2) 2 ≡ lane 1 0
  unfolding compute_states TakesNextUnused
  next_unused_forced_too claim = (claim (none_free 2) tt 2 passes_none.1 tt (omega arith)).0

  nine_forced : NineExactly W → says (all_to_pass 3) 2 ≡ Refused OlderSenderLives
  unfolding compute_states NineExactly
  nine_forced claim = (claim (all_to_pass 3) tt (registers_for 2)).1 vain (λ e. omega (arith, ap length e))

  eight_forced : EightExactly W → says (none_free 1) 2 ≡ Refused NoFreeSlot
  unfolding compute_states EightExactly
  eight_forced claim = (claim (none_free 1) tt (registers_for 2)).1 vain_none refl

  -- no 9 with a clear slot, with an unused slot, with an empty list, ahead of 7 or of 6, or to another call
  nine_not : NineExactly W → Each (λ (a : Answer). a ≡ Refused OlderSenderLives → ⊥)
      (says (two_to_pass 5) 2 ∷ says (all_to_pass 4) 2 ∷ says (none_free 1) 2 ∷ says (all_to_pass 3) 1 ∷ says (shut (all_to_pass 3)) 2 ∷ (sending (all_to_pass 3) (DropSender (key_at 9 9))).1.0 ∷ [])
  unfolding compute_states NineExactly
  nine_not claim = (
    λ e. not_two ((claim (two_to_pass 5) tt (registers_for 2)).0 e).0.no_slot,
    (
      λ e. not_unused ((claim (all_to_pass 4) tt (registers_for 2)).0 e).0.no_slot,
      (
        λ e. ((claim (none_free 1) tt (registers_for 2)).0 e).1 refl,
        (
          λ e. one_already.0 (let_pass_of ((claim (all_to_pass 3) tt (registers_for 1)).0 e).0),
          (
            λ e. not_open.0 (let_pass_of ((claim (shut (all_to_pass 3)) tt (registers_for 2)).0 e).0),
            (
              λ e. not_a_drop ((claim (all_to_pass 3) tt (Sender (DropSender (key_at 9 9)))).0 e).0,
              tt,
            ),
          ),
        ),
      ),
    ),
  )

  -- no 8 with a free slot, though its older sender lives, with an unused slot, ahead of 7 or of 6, or to another call
  eight_not : EightExactly W → Each (λ (a : Answer). a ≡ Refused NoFreeSlot → ⊥)
      (says (all_to_pass 3) 2 ∷ says (none_free 2) 2 ∷ says (none_free 1) 1 ∷ says (shut (none_free 1)) 2 ∷ (sending (none_free 1) (DropSender (key_at 9 9))).1.0 ∷ [])
  unfolding compute_states EightExactly
  eight_not claim = (
    λ e. omega (arith, ap length ((claim (all_to_pass 3) tt (registers_for 2)).0 e).1),
    (
      λ e. omega (arith, ((claim (none_free 2) tt (registers_for 2)).0 e).0.no_slot.all_issued),
      (
        λ e. one_already.1 (let_pass_of ((claim (none_free 1) tt (registers_for 1)).0 e).0),
        (
          λ e. not_open.1 (let_pass_of ((claim (shut (none_free 1)) tt (registers_for 2)).0 e).0),
          (
            λ e. not_a_drop ((claim (none_free 1) tt (Sender (DropSender (key_at 9 9)))).0 e).0,
            tt,
          ),
        ),
      ),
    ),
  )

  -- no refusal where a free slot is clear or one is unused
  not_refused : RefusedOnlyInVain W → (why : Refusal) → (says (two_to_pass 5) 2 ≡ Refused why → ⊥) × (says (all_to_pass 4) 2 ≡ Refused why → ⊥)
  unfolding compute_states RefusedOnlyInVain
  not_refused claim why = (λ e. not_two (claim (two_to_pass 5) tt 2 why passes_two.0 e), λ e. not_unused (claim (all_to_pass 4) tt 2 why passes_all.1 e))

  -- a drop moves no slot: neither the one whose sender it is nor another
  drop_moves_none : FreedOnTop W → (sending (all_to_pass 3) (DropSender (key_at 0 0))).1.1.free ≡ 0 ∷ 1 ∷ [] → ⊥
  unfolding compute_states FreedOnTop registering
  drop_moves_none claim e = let o = claim (all_to_pass 3) tt (Sender (DropSender (key_at 0 0))) refl in swapped o.freed (sym e ∙ o.list)

-- of any control calls: a slot that is freed is not put below others
close_puts_on_top : (controlling : State → ControlCall → Outcome)
    → (let R = rules_by sender_outcome receive_outcome controlling in FreedOnTop record { rules = R; runs = all_runs R; view = λ s. s; Ok = λ s. Unit {0} })
    → (controlling (all_to_pass 3) (CloseLane (id_at 2 0))).1.1.free ≡ 1 ∷ 2 ∷ 0 ∷ [] → ⊥
unfolding compute_states FreedOnTop registering
close_puts_on_top controlling claim e = let o = claim (all_to_pass 3) tt (Control (CloseLane (id_at 2 0))) refl in between o.freed (sym e ∙ o.list)

-- ---- what is as it was before

-- slot 0 is free and clear, lane 1 registered
one_clear : State
one_clear = after 2 (registers ∷ registers ∷ drops 0 ∷ plain ∷ [])

distinct : (x : ℕ) → count x one_clear.free ≤ 1
unfolding compute_states one_clear
distinct x = go (eqb x 0)
  where
    go : (b : Bool) → if {A = ℕ} b 1 0 + 0 ≤ 1
    go true = omega arith
    go false = omega arith

-- a slot is passed over at these two states, and at none of the others
passed_at : PassesOver (two_to_pass 5) 2 × PassesOver (all_to_pass 4) 2
unfolding compute_states
passed_at = (
  record { let_pass = passes_two.0; freed_last = 3; others = 2 ∷ 1 ∷ 0 ∷ []; list = refl; older_lives = refl; some_left = not_two },
  record { let_pass = passes_all.1; freed_last = 1; others = 0 ∷ []; list = refl; older_lives = refl; some_left = not_unused },
)

not_passed_at : (PassesOver (all_to_pass 3) 2 → ⊥) × (PassesOver (all_to_pass 4) 1 → ⊥) × (PassesOver (none_free 2) 2 → ⊥) × (PassesOver one_clear 2 → ⊥)
unfolding compute_states one_clear
not_passed_at = (
  λ p. p.some_left vain.no_slot,
  λ p. omega (arith, p.let_pass.below_most),
  λ p. let z : ◌≡◌ {A = ℕ} 0 1 = cc in omega arith,
  λ p. clear_first p.freed_last p.others p.list p.older_lives,
)
  where
    clear_first : (x : ℕ) (l : List ℕ) → one_clear.free ≡ x ∷ l → (one_clear.slot_of x).living ≡ true → ⊥
    clear_first x l e h =
        let same : 0 ≡ x = cc in
        let f : (one_clear.slot_of 0).living ≡ true = subst (λ (y : ℕ). (one_clear.slot_of y).living ≡ true) (sym same) h in
        let z : ◌≡◌ {A = ℕ} 0 1 = cc in omega arith

-- by any rule for registrations: the answer and what is left where none is passed over
before_forced : (register : State → ℕ → Outcome) → ElseAsBefore register → let o = register one_clear 2 in
    (o.1.0 ≡ lane 0 1) × (o.1.1.free ≡ []) × ((o.1.1.slot_of 0).registered ≡ true) × ((o.1.1.slot_of 1).registered ≡ true)
unfolding compute_states one_clear
before_forced register claim =
    let e = claim one_clear 2 distinct not_passed_at.3 in
    (ap (λ (o : Outcome). o.1.0) e, ap (λ (o : Outcome). o.1.1.free) e, ap (λ (o : Outcome). (o.1.1.slot_of 0).registered) e, ap (λ (o : Outcome). (o.1.1.slot_of 1).registered) e)

-- document 01's registration: refused 9 where a slot is passed over now; else the one freed last, which leaves the list
before : ((register_freed_last (two_to_pass 5) 2).1.0 ≡ Refused OlderSenderLives) × ((register_freed_last (after_list the_rules (two_to_pass 5) (drops 3 ∷ [])) 2).1.0 ≡ lane 3 1)
    × ((register_freed_last (after_list the_rules (two_to_pass 5) (drops 3 ∷ [])) 2).1.1.free ≡ 2 ∷ 1 ∷ 0 ∷ [])
    × ((register_freed_last (none_free 2) 2).1.0 ≡ lane 1 0) × ((register_freed_last (none_free 1) 2).1.0 ≡ Refused NoFreeSlot) × ((register_freed_last (none_free 2) 1).1.0 ≡ Refused AtCapacity)
unfolding compute_states
before = (refl, refl, refl, refl, refl, refl)
