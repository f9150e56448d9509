-- Closing the receiver does what the rules say, and leaves a store in order.
-- Assumes nothing.
use mathlib.Core.Path.{◌≡◌, refl, ap}
use mathlib.Core.Bool.{false}
use mathlib.Core.List.{List}
use Prim.Native.Nat.{ℕ}
use native.Mathlib.Omega.{arith}
use Rattle.model.specs.declared.Answer.TheVariants.{Done}
use Rattle.model.specs.State.{State, registered_lanes, living_senders}
use Rattle.model.specs.Changes.{with_open}
use Rattle.model.specs.Outcome.{says}
use Rattle.model.specs.Control as rules
use Rattle.lane.proofs.TableLaws.{frames}
use Rattle.queues.specs.Header.{alive, set_alive}
use Rattle.queues.proofs.QueueLaws.{header_in}
use Rattle.store.specs.View.{view}
use Rattle.store.specs.Order.{Stores, StoreInOrder}
use Rattle.store.specs.Refusal.{receiver_verdict}
use Rattle.control.specs.Control.{close_receiver}
use Rattle.store.proofs.ViewLaws.{view_alive}
use Rattle.store.proofs.RefusalLaws.{seen, receiver_verdict_lem, refused_alike, unless_refused_case}
use Rattle.store.proofs.HeaderStore.{stores_word}

pub close_receiver_alike : (t r : List ℕ) → StoreInOrder t r → seen (close_receiver t r) ≡ (rules.close_receiver (view t r)).1
unfolding close_receiver rules.close_receiver
close_receiver_alike t r o =
    refused_alike (receiver_verdict t) _ t r (Done, set_alive t 0, r) (says Done (with_open false (view t r))) (receiver_verdict_lem t r)
    (λ e. ap (λ (s : State). (Done, s)) (view_alive t r o.stores.shaped 0))

stores_closed : (t r : List ℕ) → Stores t r → Stores (set_alive t 0) r
unfolding registered_lanes living_senders
stores_closed t r o =
    let now = view_alive t r o.shaped 0 in
    stores_word t r alive 0 refl refl o (simp (frames, header_in t o.shaped) (omega arith)) (λ x h g w. simp frames (o.windows x h g w).within) (ap registered_lanes now) (ap living_senders now)

pub close_receiver_keeps : (t r : List ℕ) → StoreInOrder t r → Stores (close_receiver t r).1 (close_receiver t r).2
unfolding close_receiver
close_receiver_keeps t r o =
    unless_refused_case (λ w. Stores w.1 w.2) (receiver_verdict t) t r (Done, set_alive t 0, r) (λ why e. o.stores)
    (λ e. stores_closed t r o.stores)
