-- Document 02, N4, by the words of the table store: when a registration is refused 8 and when 9. The free list, `free_of t` (crates/queues/specs/Registry.antt),
-- has the slot freed last first. What a registration takes and leaves is said of the state that the words show (crates/model/specs/Registration.antt).
-- Assumes nothing.
use Rattle.std.specs.Prelude.{◌≡◌, ◌≢◌, List, [], ℕ, ◌≤◌, ◌<◌}
use Rattle.model.specs.declared.SenderCall.TheVariants.{RegisterSender}
use Rattle.model.specs.declared.Call.{Call}
use Rattle.model.specs.declared.Call.TheVariants.{Sender}
use Rattle.model.specs.declared.Refusal.TheVariants.{NoFreeSlot, OlderSenderLives}
use Rattle.model.specs.declared.Answer.TheVariants.{Refused}
use Rattle.model.specs.Lists.{Each}
use Rattle.lane.specs.Table.{lane_at}
use Rattle.queues.specs.Header.{issued, slots, alive, lane_count}
use Rattle.queues.specs.Registry.{free_of}
use Rattle.store.specs.Order.{StoreInOrder}
use Rattle.refinement.specs.Runs.{StoreCalls}

-- Call c is a registration that 6 and 7 let pass; all free slots "have living older senders, and slot S - 1 has been issued".
pub record InVain (t : List ℕ) (c : Call) : Type 0 where
  pub most : ℕ
  pub registers : c ≡ Sender (RegisterSender most)
  pub is_open : alive t ≡ 1
  pub below_most : lane_count t < most
  pub older_live : Each (λ x. (lane_at t x).living ≡ 1) (free_of t)
  pub all_issued : slots t ≤ issued t

-- Of any calls M on two stores in order. Stores that are not are refused 5 by the checked calls, `FiveExactly` (crates/fanring/specs/Demands.antt).
module _ (M : StoreCalls) where
  unfoldable pub EightByWords : Type 0
  EightByWords =
      (t r : List ℕ) → StoreInOrder t r → (c : Call)
      → ((M.words t r c).0 ≡ Refused NoFreeSlot → InVain t c × (free_of t ≡ [])) × (InVain t c → free_of t ≡ [] → (M.words t r c).0 ≡ Refused NoFreeSlot)

  unfoldable pub NineByWords : Type 0
  NineByWords =
      (t r : List ℕ) → StoreInOrder t r → (c : Call)
      → ((M.words t r c).0 ≡ Refused OlderSenderLives → InVain t c × (free_of t ≢ []))
      × (InVain t c → free_of t ≢ [] → (M.words t r c).0 ≡ Refused OlderSenderLives)
