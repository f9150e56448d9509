-- What marking an idle lane leaves as it was.
-- Assumes nothing.
use mathlib.Core.Path.{◌≡◌, refl}
use mathlib.Core.Bool.{true}
use mathlib.Core.List.{List}
use Prim.Native.Nat.{ℕ}
use lib.Dec.{eqb, ltb}
use Rattle.lane.specs.declared.lane.Lane.{Lane}
use Rattle.lane.specs.Table.{header_words, head}
use Rattle.lane.proofs.OrderLaws.{cond_holds}
use Rattle.lane.proofs.TableLaws.{frames}
use Rattle.queues.specs.Header.{Shaped}
use Rattle.ready.specs.Ready.{mark}
use Rattle.ready.proofs.MarkLaws.{marked_case, head_marked}
use Rattle.store.specs.Signal.{mark_if_idle}

module _ (t : List ℕ) (l : Lane) where
  pub marked_if_idle_is : (P : List ℕ → Type 0) → P (mark t l.key.slot) → P t → P (mark_if_idle t l)
  unfolding mark_if_idle
  marked_if_idle_is P p q = cond_holds P (eqb l.pending 0) (mark t l.key.slot) t (λ e. p) (λ e. q)

  pub head_marked_if_idle : (k : ℕ) → ltb k header_words ≡ true → head (mark_if_idle t l) k ≡ head t k
  head_marked_if_idle k p = marked_if_idle_is (λ u. head u k ≡ head t k) (head_marked t l.key.slot k p) refl

  pub shaped_marked_if_idle : Shaped t → Shaped (mark_if_idle t l)
  shaped_marked_if_idle s =
      marked_if_idle_is Shaped (marked_case t l.key.slot Shaped (λ e. simp frames s) (λ n. simp frames s)) s
