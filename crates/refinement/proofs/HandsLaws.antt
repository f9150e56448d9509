-- The rules' single receives hand out what their answer says, so words that answer alike hand out alike.
-- Assumes nothing.
use mathlib.Core.Path.{◌≡◌, refl, sym, ap, ◌∙◌}
use mathlib.Core.Bool.{Bool, true, false}
use mathlib.Core.List.{List, [], ◌∷◌}
use Prim.Native.Nat.{ℕ}
use lib.Dec.{leb}
use Rattle.model.specs.declared.LaneKey.{LaneKey}
use Rattle.model.specs.declared.LaneId.{LaneId}
use Rattle.model.specs.declared.Answer.{Answer}
use Rattle.model.specs.declared.Answer.TheVariants.{Empty, Disconnected, Refused}
use Rattle.model.specs.declared.Refusal.{Refusal}
use Rattle.model.specs.Lists.{if, from}
use Rattle.model.specs.State.{State, registered_lanes, living_senders}
use Rattle.model.specs.Outcome.{Outcome, says}
use Rattle.model.specs.Receive as rules
use Rattle.demands.proofs.Moves.{unless_law}
use Rattle.refinement.specs.Hands.{hands_of}
use Rattle.store.specs.Order.{StoreInOrder}
use Rattle.store.specs.View.{view}
use Rattle.store.specs.Words.{Words}
use Rattle.receive_from.specs.Target.{try_recv_from}
use Rattle.store.proofs.RefusalLaws.{seen}
use Rattle.refinement.proofs.TryRecvFromLaws.{try_recv_from_alike}

-- what is handed out is what is answered
abbrev pub Answers : Outcome → Type 0
Answers o = o.0 ≡ hands_of o.1.0

refused_answers : (s : State) (n : Refusal) → Answers ([], (Refused n, s))
unfolding hands_of
refused_answers s n = refl

nothing_taken_answers : (s : State) → Answers (rules.nothing_taken s)
unfolding hands_of rules.nothing_taken rules.empty_or_drained
nothing_taken_answers s = go (leb 1 (living_senders s)) (leb 1 (registered_lanes (rules.retire_empty_paused_lanes (from 0 s.issued) s)))
  where
    go : (b c : Bool) → Answers (if b (says Empty s) (says (if c Empty Disconnected) (rules.retire_empty_paused_lanes (from 0 s.issued) s)))
    go true c = refl
    go false true = refl
    go false false = refl

pub answer_one_answers : (l : List (LaneKey × ℕ)) (s : State) → Answers (rules.answer_one l s)
unfolding hands_of rules.answer_one
answer_one_answers [] s = nothing_taken_answers s
answer_one_answers (g ∷ l) s = refl

take_from_answers : (l : List ℕ) (x : ℕ) (s : State) → Answers (rules.take_from l x s)
unfolding hands_of rules.take_from
take_from_answers [] x s = go (s.slot_of x).living
  where
    go : (b : Bool) → [] ≡ hands_of (if b Empty Disconnected)
    go true = refl
    go false = refl
take_from_answers (v ∷ vs) x s = refl

-- the three single receives
module _ (s : State) where
  pub try_recv_answers : Answers (rules.try_recv s)
  unfolding rules.try_recv
  try_recv_answers = unless_law Answers _ s _ (refused_answers s) (λ p. answer_one_answers _ _)

  pub try_recv_fair_answers : Answers (rules.try_recv_fair s)
  unfolding rules.try_recv_fair
  try_recv_fair_answers = unless_law Answers _ s _ (refused_answers s) (λ p. answer_one_answers _ _)

  pub try_recv_from_answers : (i : LaneId) → Answers (rules.try_recv_from s i)
  unfolding rules.try_recv_from
  try_recv_from_answers i = unless_law Answers _ s _ (refused_answers s) (λ p. take_from_answers _ _ s)

-- words that answer as the rules do hand out what they hand out
pub hands_by_answer : (w : Words) (o : Outcome) → seen w ≡ o.1 → Answers o → hands_of w.0 ≡ o.0
hands_by_answer w o e a = ap (λ (z : Answer × State). hands_of z.0) e ∙ sym a

pub try_recv_from_hands : (t r : List ℕ) (i : LaneId) → StoreInOrder t r → hands_of (try_recv_from t r i).0 ≡ (rules.try_recv_from (view t r) i).0
try_recv_from_hands t r i o = hands_by_answer (try_recv_from t r i) (rules.try_recv_from (view t r) i) (try_recv_from_alike t r i o) (try_recv_from_answers (view t r) i)
