-- The plain receive does what the rules say, hands out what they hand out, and leaves a store in order.
-- Assumes nothing.
use Rattle.std.specs.Prelude.{Option, Some, None}
use mathlib.Core.Path.{◌≡◌, sym, ap, ◌∙◌}
use mathlib.Core.Bool.{not}
use mathlib.Core.List.{List, [], ◌∷◌}
use Prim.Native.Nat.{ℕ}
use Rattle.model.specs.declared.OpenedChannel.{OpenedChannel}
use Rattle.model.specs.declared.Answer.TheVariants.{Item}
use Rattle.model.specs.declared.Refusal.TheVariants.{ReceiverClosed}
use Rattle.model.specs.State.{State}
use Rattle.model.specs.Turn.{Took as RulesTook}
use Rattle.model.specs.Turn as rules_turn
use Rattle.model.specs.Receive as rules
use Rattle.queues.specs.Header.{channel}
use Rattle.turns.specs.declared.turn.Took.{Took}
use Rattle.store.specs.View.{view}
use Rattle.store.specs.Order.{InOrderButHeld}
use Rattle.store.specs.Refusal.{receiver_verdict}
use Rattle.store.specs.Words.{Words, with_rings}
use Rattle.refinement.specs.Hands.{hands_of}
use Rattle.receive.specs.Receive.{take_one, answer_one, try_recv}
use Rattle.store.proofs.ViewLaws.{view_held_count}
use Rattle.store.proofs.HeldLaws.{but_held_count}
use Rattle.store.proofs.RefusalLaws.{seen, receiver_verdict_lem, refused_alike, unless_refused_case}
use Rattle.refinement.proofs.NothingTakenLaws.{nothing_taken_alike, nothing_taken_keeps}
use Rattle.refinement.proofs.HandsLaws.{try_recv_answers, hands_by_answer}
use Rattle.refinement.proofs.TurnView.{TookAs}
use Rattle.refinement.proofs.TakeOneView.{take_one_alike}
use Rattle.refinement.proofs.HeaderKept.{take_one_channel}

-- ---- the answer to a take that is the rules'

pub answer_one_alike : (r : List ℕ) (c : OpenedChannel) (w : Option Took × List ℕ) (v : RulesTook) → TookAs r w v → channel w.1 ≡ c
    → seen (with_rings r (answer_one c w)) ≡ (rules.answer_one v.0 v.1).1
unfolding answer_one rules.answer_one view
answer_one_alike r c (Some took, u) v a e =
    ap (λ (s : State). (Item took.item (record { channel = c; key = took.key }), s)) (view_held_count u r a.in_order.stores.shaped _)
    ∙ ap (λ (n : OpenedChannel). (Item took.item (record { channel = n; key = took.key }), view u r)) (sym e)
    ∙ ap (λ (z : RulesTook). (rules.answer_one z.0 z.1).1) a.alike
answer_one_alike r c (None, u) v a e =
    nothing_taken_alike u r a.in_order ∙ ap (λ (z : RulesTook). (rules.answer_one z.0 z.1).1) a.alike

pub answer_one_keeps : (r : List ℕ) (c : OpenedChannel) (w : Option Took × List ℕ) (v : RulesTook) → TookAs r w v → InOrderButHeld (answer_one c w).1 r
unfolding answer_one
answer_one_keeps r c (Some took, u) v a = but_held_count u r _ a.in_order
answer_one_keeps r c (None, u) v a = nothing_taken_keeps u r a.in_order

-- ---- the call

module _ (t r : List ℕ) (o : InOrderButHeld t r) where
  pub try_recv_alike : seen (try_recv t r) ≡ (rules.try_recv (view t r)).1
  unfolding try_recv rules.try_recv view
  try_recv_alike =
      let w : RulesTook = rules_turn.take_one (view t r) in
      refused_alike (receiver_verdict t) ((not (view t r).is_open, ReceiverClosed) ∷ []) t r (with_rings r (answer_one (channel t) (take_one t r))) (rules.answer_one w.0 w.1)
      (receiver_verdict_lem t r) (λ e. answer_one_alike r (channel t) (take_one t r) w (take_one_alike t r o) (take_one_channel t r))

  pub try_recv_keeps : InOrderButHeld (try_recv t r).1 (try_recv t r).2
  unfolding try_recv
  try_recv_keeps =
      unless_refused_case (λ (w : Words). InOrderButHeld w.1 w.2) (receiver_verdict t) t r (with_rings r (answer_one (channel t) (take_one t r))) (λ why e. o)
      (λ e. answer_one_keeps r (channel t) (take_one t r) (rules_turn.take_one (view t r)) (take_one_alike t r o))

  -- what is handed out, read off the answer
  pub try_recv_hands : hands_of (try_recv t r).0 ≡ (rules.try_recv (view t r)).0
  try_recv_hands = hands_by_answer (try_recv t r) (rules.try_recv (view t r)) try_recv_alike (try_recv_answers (view t r))
