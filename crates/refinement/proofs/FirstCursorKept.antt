-- No call changes the header's first cursor, and so every ring registered in a run starts at the cursor that the opening was given.
-- Assumes nothing.
use mathlib.Core.Path.{◌≡◌, ◌∙◌}
use mathlib.Core.List.{List}
use Prim.Native.Nat.{ℕ}
use Rattle.model.specs.declared.SenderCall.TheVariants.{RegisterSender}
use Rattle.model.specs.declared.Call.{Call}
use Rattle.model.specs.declared.Call.TheVariants.{Sender}
use Rattle.queues.specs.Header.{first_cursor}
use Rattle.sender.specs.Sender.{sender_words}
use Rattle.opening.proofs.FirstCursor.{opening_puts_cursor, registered_starts}
use Rattle.refinement.specs.Runs.{call_words, StoreCalls, opened_stores, stores_after}
use Rattle.refinement.specs.RulesOnWords.{StaysInOrder, RingsStartAtFirstCursor}
use Rattle.refinement.proofs.HeaderKept.{call_leaves, first_cursor_unwritten}
use Rattle.refinement.proofs.AsInner.{AsInner, opened_in_order, stays_in_order, calls_leave}

pub call_keeps_cursor : (t r : List ℕ) (s : Call) → first_cursor (call_words t r s).1 ≡ first_cursor t
call_keeps_cursor = call_leaves first_cursor_unwritten

module _ (M : StoreCalls) (i : AsInner M) where
  pub rings_start_at_first_cursor : RingsStartAtFirstCursor M
  unfolding RingsStartAtFirstCursor StaysInOrder call_words sender_words
  rings_start_at_first_cursor x most k =
      let v = stores_after M x in
      let o = stays_in_order M i x in
      let here : first_cursor v.0 ≡ x.opening.cursor =
      calls_leave M i first_cursor_unwritten (opened_stores x) x.calls (opened_in_order x) ∙ opening_puts_cursor x.opening x.table x.rings x.accepted in
      rw (i.same_words v.0 v.1 o (Sender (RegisterSender most))) (rw here at (registered_starts v.0 v.1 o most k))
