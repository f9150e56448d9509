-- Every sender call, on a store in order, does what the rules say, answers as they do, and leaves `Stores`.
-- Assumes nothing.
use mathlib.Core.Path.{◌≡◌}
use mathlib.Core.List.{List}
use Prim.Native.Nat.{ℕ}
use Rattle.model.specs.declared.SenderCall.{SenderCall}
use Rattle.model.specs.declared.SenderCall.TheVariants.{RegisterSender, TrySend, TrySendUnsignaled, DropSender}
use Rattle.model.specs.Sender.{sender_outcome}
use Rattle.store.specs.View.{view}
use Rattle.store.specs.Order.{Stores, StoreInOrder}
use Rattle.sender.specs.Sender.{sender_words}
use Rattle.store.proofs.RefusalLaws.{seen}
use Rattle.sender.proofs.SendLaws.{try_send_alike, try_send_unsignaled_alike, try_send_keeps, try_send_unsignaled_keeps}
use Rattle.sender.proofs.DropLaws.{drop_sender_alike, drop_sender_keeps}
use Rattle.sender.proofs.RegisterLaws.{register_sender_alike, register_sender_keeps}

module _ (t r : List ℕ) (o : StoreInOrder t r) where
  pub sender_calls_alike : (c : SenderCall) → seen (sender_words t r c) ≡ (sender_outcome (view t r) c).1
  unfolding sender_words sender_outcome
  sender_calls_alike (RegisterSender most) = register_sender_alike t r o most
  sender_calls_alike (TrySend k v) = try_send_alike t r k v o
  sender_calls_alike (TrySendUnsignaled k v) = try_send_unsignaled_alike t r k v o
  sender_calls_alike (DropSender k) = drop_sender_alike t r k o

  pub sender_calls_keep : (c : SenderCall) → Stores (sender_words t r c).1 (sender_words t r c).2
  unfolding sender_words
  sender_calls_keep (RegisterSender most) = register_sender_keeps t r o most
  sender_calls_keep (TrySend k v) = try_send_keeps t r k v o
  sender_calls_keep (TrySendUnsignaled k v) = try_send_unsignaled_keeps t r k v o
  sender_calls_keep (DropSender k) = drop_sender_keeps t r k o
