-- The fair receive does what the rules say, hands out what they hand out, and leaves a store in order.
-- Assumes nothing.
use mathlib.Core.Path.{◌≡◌}
use mathlib.Core.Bool.{not}
use mathlib.Core.List.{List, [], ◌∷◌}
use Prim.Native.Nat.{ℕ}
use Rattle.model.specs.declared.Refusal.TheVariants.{ReceiverClosed}
use Rattle.model.specs.Turn as rules_turn
use Rattle.model.specs.Receive as rules
use Rattle.queues.specs.Header.{channel}
use Rattle.store.specs.View.{view}
use Rattle.store.specs.Order.{InOrderButHeld}
use Rattle.store.specs.Refusal.{receiver_verdict}
use Rattle.store.specs.Words.{Words, with_rings}
use Rattle.refinement.specs.Hands.{hands_of}
use Rattle.receive.specs.Receive.{take_fair, answer_one, try_recv_fair}
use Rattle.store.proofs.RefusalLaws.{seen, receiver_verdict_lem, refused_alike, unless_refused_case}
use Rattle.refinement.proofs.HandsLaws.{try_recv_fair_answers, hands_by_answer}
use Rattle.refinement.proofs.TakeFairView.{take_fair_alike}
use Rattle.refinement.proofs.HeaderKept.{take_fair_channel}
use Rattle.refinement.proofs.TryRecvLaws.{answer_one_alike, answer_one_keeps}

module _ (t r : List ℕ) (o : InOrderButHeld t r) where
  pub try_recv_fair_alike : seen (try_recv_fair t r) ≡ (rules.try_recv_fair (view t r)).1
  unfolding try_recv_fair rules.try_recv_fair view
  try_recv_fair_alike =
      let w : rules_turn.Took = rules_turn.take_fair (view t r) in
      refused_alike (receiver_verdict t) ((not (view t r).is_open, ReceiverClosed) ∷ []) t r (with_rings r (answer_one (channel t) (take_fair t r))) (rules.answer_one w.0 w.1)
      (receiver_verdict_lem t r) (λ e. answer_one_alike r (channel t) (take_fair t r) w (take_fair_alike t r o) (take_fair_channel t r))

  pub try_recv_fair_keeps : InOrderButHeld (try_recv_fair t r).1 (try_recv_fair t r).2
  unfolding try_recv_fair
  try_recv_fair_keeps =
      unless_refused_case (λ (w : Words). InOrderButHeld w.1 w.2) (receiver_verdict t) t r (with_rings r (answer_one (channel t) (take_fair t r))) (λ why e. o)
      (λ e. answer_one_keeps r (channel t) (take_fair t r) (rules_turn.take_fair (view t r)) (take_fair_alike t r o))

  -- what is handed out, read off the answer
  pub try_recv_fair_hands : hands_of (try_recv_fair t r).0 ≡ (rules.try_recv_fair (view t r)).0
  try_recv_fair_hands = hands_by_answer (try_recv_fair t r) (rules.try_recv_fair (view t r)) try_recv_fair_alike (try_recv_fair_answers (view t r))
