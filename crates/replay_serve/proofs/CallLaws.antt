-- What crate `fanring`'s contracts name is the record's call: its answer, the stores and the output after it.
-- Assumes nothing.
use mathlib.Core.Path.{◌≡◌, refl, sym, ap, ◌∙◌}
use mathlib.Core.Bool.{Bool, true, false, cond}
use mathlib.Core.List.{List}
use Prim.Native.Nat.{ℕ}
use lib.ListN.{length}
use Rattle.model.specs.declared.Opening.{Opening}
use Rattle.model.specs.declared.SenderCall.{SenderCall}
use Rattle.model.specs.declared.ReceiveCall.{ReceiveCall}
use Rattle.model.specs.declared.ReceiveCall.TheVariants.{TryRecvBatchInto}
use Rattle.model.specs.declared.ControlCall.{ControlCall}
use Rattle.model.specs.declared.Call.{Call}
use Rattle.model.specs.declared.Call.TheVariants.{Sender, Receive, Control}
use Rattle.model.specs.declared.Answer.{Answer}
use Rattle.wire_record.specs.declared.record.Record.{Record}
use Rattle.wire_record.specs.Record.{room}
use Rattle.fanring.specs.Runs.{checked_words, checked_output, the_calls}
use Rattle.replay_serve.specs.declared.calls.Stores.{Stores}
use Rattle.replay_serve.specs.Calls.{answered}

-- a single receive leaves the output as it was, whether the stores are in order or not
pub either_way : (out : List ℕ) (b : Bool) → cond b out out ≡ out
either_way out true = refl
either_way out false = refl

-- written out, so that an opening on other stores is an equation that is false
pub open_answered : (t r out : List ℕ) {x : Record} {o : Opening} {w : Answer × List ℕ × List ℕ} → x ≡ Record.Open o → w ≡ (let v = the_calls.opens o (t, r) in (v.0, v.1.0, v.1.1))
    → ◌≡◌ {A = Answer × Stores} (w.0, record { table = w.1; rings = w.2; out = out }) (answered x (record { table = t; rings = r; out = out }))
unfolding answered
open_answered t r out f e =
    ap {B = Answer × Stores} (λ (w : Answer × List ℕ × List ℕ). (w.0, record { table = w.1; rings = w.2; out = out })) e
    ∙ ap (λ (x : Record). answered x (record { table = t; rings = r; out = out })) (sym f)

abbrev Words : Type 0
Words = Answer × List ℕ × List ℕ

-- the stores before a call, and those that words are with this output
abbrev before : List ℕ → List ℕ → List ℕ → Stores
before t r out = record { table = t; rings = r; out = out }

abbrev leaves : List ℕ → Words → Answer × Stores
leaves out w = (w.0, record { table = w.1; rings = w.2; out = out })

-- the arm of a match that was taken
as_called : (s : Stores) {x y : Call} {p : Answer × Stores} → x ≡ y → p ≡ answered (Record.Call y) s → p ≡ answered (Record.Call x) s
as_called s f e = e ∙ ap (λ (c : Call). answered (Record.Call c) s) (sym f)

pub sender_answered : (t r out : List ℕ) {x c : SenderCall} {w : Words} → x ≡ c → w ≡ checked_words t r (Sender c) → leaves out w ≡ answered (Record.Call (Sender x)) (before t r out)
unfolding answered
sender_answered t r out f e = as_called (before t r out) (ap Sender f) (ap (leaves out) e)

pub control_answered : (t r out : List ℕ) {x c : ControlCall} {w : Words} → x ≡ c → w ≡ checked_words t r (Control c) → leaves out w ≡ answered (Record.Call (Control x)) (before t r out)
unfolding answered
control_answered t r out f e = as_called (before t r out) (ap Control f) (ap (leaves out) e)

abbrev leaves_into : Answer × List ℕ × List ℕ × List ℕ → Answer × Stores
leaves_into w = (w.0, record { table = w.1; rings = w.2; out = w.3 })

-- what a batch's contract names: b is the batch, by the room that it is lent
abbrev batch_leaves : List ℕ → List ℕ → List ℕ → ReceiveCall → Answer × List ℕ × List ℕ × List ℕ
batch_leaves t r out b = let v = checked_words t r (Receive b) in (v.0, v.1, v.2, checked_output t r b out)

pub batch_answered : (t r out : List ℕ) {x : ReceiveCall} {limit asked : ℕ} {w : Answer × List ℕ × List ℕ × List ℕ} → x ≡ TryRecvBatchInto limit asked → length out ≡ room
    → w ≡ batch_leaves t r out (TryRecvBatchInto limit (length out)) → leaves_into w ≡ answered (Record.Call (Receive x)) (before t r out)
unfolding answered
batch_answered t r out {limit = limit} f l e =
    as_called (before t r out) (ap Receive f) (ap leaves_into (e ∙ ap (λ (n : ℕ). batch_leaves t r out (TryRecvBatchInto limit n)) l))
