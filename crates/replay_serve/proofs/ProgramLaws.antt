-- What is claimed of the records that the program answers (specs/Program.antt), proved.
-- Assumes nothing.
use mathlib.Core.Path.{◌≡◌, refl, ap, ◌∙◌}
use mathlib.Core.List.{List, [], ◌∷◌, map}
use Prim.Native.Nat.{ℕ}
use lib.ListN.{drop}
use Rattle.model.specs.declared.Opening.{Opening}
use Rattle.model.specs.declared.Call.{Call}
use Rattle.model.specs.declared.Call.TheVariants.{Sender, Receive, Control}
use Rattle.model.specs.declared.Refusal.{Refusal}
use Rattle.model.specs.declared.Refusal.TheVariants.{StoreNotInOrder}
use Rattle.model.specs.declared.Answer.{Answer}
use Rattle.model.specs.declared.Answer.TheVariants.{Done, Refused}
use Rattle.model.specs.Lists.{Each}
use Rattle.model.specs.Opening.{opened_state}
use Rattle.model.specs.Runs.{after_list}
use Rattle.wire_record.specs.declared.record.Record.{Record}
use Rattle.wire_record.specs.Record.{whole, parse}
use Rattle.wire_record.specs.Stream.{Reads, one}
use Rattle.store.specs.View.{view}
use Rattle.opening.proofs.OpeningLaws.{open_view}
use Rattle.order.specs.InOrder.{lengths_test, header_test, in_order}
use Rattle.fanring.specs.Checked.{checked}
use Rattle.fanring.specs.Runs.{checked_words, checked_output, the_calls}
use Rattle.fanring.proofs.Demands.{refusals_change_nothing}
use Rattle.replay_serve.specs.declared.calls.Stores.{Stores}
use Rattle.replay_serve.specs.Calls.{lent_call, called, answered, stores_after, started}
use Rattle.replay_serve.proofs.ReadLaws.{record_lends, record_fits}
use Rattle.replay_serve.specs.Program.{OpensNothing, BeforeOpening, Openings, CallsAsListed}

-- ---- before an opening

-- a table of zeros has no slots, so its stores are not in order
refused_unopened : (c : Call) → called started c ≡ (Refused StoreNotInOrder, started)
unfolding started checked_words checked_output checked in_order header_test lengths_test
refused_unopened (Sender c) = refl
refused_unopened (Receive c) = refl
refused_unopened (Control c) = refl

answered_unopened : (c : Call) → answered (Record.Call c) started ≡ (Refused StoreNotInOrder, started)
unfolding answered
answered_unopened c = refused_unopened (lent_call c)

open_refused : (o : Opening) (s : Stores) (why : Refusal) → (answered (Record.Open o) s).0 ≡ Refused why → answered (Record.Open o) s ≡ (Refused why, s)
unfolding answered
open_refused o s why e =
    ap {B = Answer × Stores} (λ (w : Answer × List ℕ × List ℕ). (w.0, record { table = w.1; rings = w.2; out = s.out }))
    (refusals_change_nothing.of_openings s.table s.rings o why e)

-- a record that is no accepted opening leaves the stores as they are
leaves_started : (r : Record) → OpensNothing r → (answered r started).1 ≡ started
leaves_started (Record.Open o) (why, e) = ap (λ (w : Answer × Stores). w.1) (open_refused o started why e)
leaves_started (Record.Call c) u = ap (λ (w : Answer × Stores). w.1) (answered_unopened c)

stay_started : (rs : List Record) → Each OpensNothing rs → stores_after rs started ≡ started
unfolding Each stores_after
stay_started [] u = refl
stay_started (r ∷ rs) (n, u) = ap (stores_after rs) (leaves_started r n) ∙ stay_started rs u

pub before_opening : BeforeOpening
before_opening = record { refused = answered_unopened; unchanged = stay_started }

-- ---- openings

opened_afresh : (o : Opening) (s : Stores) → (answered (Record.Open o) s).0 ≡ Done → let u = (answered (Record.Open o) s).1 in view u.table u.rings ≡ opened_state o
unfolding answered
opened_afresh o s e = open_view o s.table s.rings e

pub openings : Openings
openings = record { afresh = opened_afresh; refused = open_refused }

-- ---- calls

call_as_listed : (b : List ℕ) (c : Call) (n : ℕ) → parse b ≡ whole (Record.Call c) n → (s : Stores) → answered (Record.Call c) s ≡ called s c
unfolding answered
call_as_listed b c n e s = ap (called s) (record_lends b e)

abbrev as_records : List Call → List Record
as_records cs = map (λ (c : Call). Record.Call c) cs

calls_as_listed_from : (b rest : List ℕ) (cs : List Call) → Reads b (as_records cs) rest → (s : Stores) → let u = stores_after (as_records cs) s in ◌≡◌ {A = List ℕ × List ℕ} (u.table, u.rings) (after_list the_calls (s.table, s.rings) cs)
unfolding stores_after after_list
calls_as_listed_from b rest [] p s = refl
calls_as_listed_from b rest (c ∷ cs) (one {n = n} e p) s =
    ap {B = List ℕ × List ℕ} (λ (w : Answer × Stores). let u = stores_after (as_records cs) w.1 in (u.table, u.rings)) (call_as_listed b c n e s)
    ∙ calls_as_listed_from (drop n b) rest cs p (called s c).1

pub calls_as_listed : CallsAsListed
calls_as_listed = record { fit = λ b u r n e. record_fits b u e; of_one = call_as_listed; of_many = calls_as_listed_from }
