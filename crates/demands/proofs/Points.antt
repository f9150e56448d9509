-- A call that ends in a run: the calls before it, the state in which it is made, and what follows it.
-- Assumes nothing.
use mathlib.Core.Path.{◌≡◌, refl, ap, sym, ◌∙◌}
use mathlib.Core.List.{List, [], ◌∷◌, ◌++◌, map, tail, append_assoc}
use Prim.Native.Nat.{ℕ}
use native.Mathlib.Omega.{arith}
use Rattle.model.specs.declared.LaneKey.{LaneKey}
use Rattle.model.specs.declared.ReceiveCall.{ReceiveCall}
use Rattle.model.specs.declared.Call.{Call}
use Rattle.model.specs.declared.Call.TheVariants.{Sender, Receive, Control}
use Rattle.model.specs.declared.Answer.{Answer}
use Rattle.model.specs.State.{State}
use Rattle.model.specs.Runs.{Tick, gives, ends, handed, ticks, trace, after_list}
use Rattle.model.specs.Rules.{outcome, the_rules}
use Rattle.model.specs.Ledger.{Ledger, note, ledger_after}

-- it stands among the first ones, or after them
data Split (ts us before : List Tick) (x : Tick) (rest : List Tick) : Type 0 where
  later : (more : List Tick) → before ≡ ts ++ more → us ≡ more ++ (x ∷ rest) → Split ts us before x rest
  within : (more : List Tick) → ts ≡ before ++ (x ∷ more) → rest ≡ more ++ us → Split ts us before x rest

split : (ts us before : List Tick) (x : Tick) (rest : List Tick) → ts ++ us ≡ before ++ (x ∷ rest) → Split ts us before x rest
split [] us before x rest e = later before refl e
split (t ∷ ts) us [] x rest e = let h : t ≡ x = cc in within ts (ap (λ (y : Tick). y ∷ ts) h) (sym (ap tail e))
split (t ∷ ts) us (b ∷ before) x rest e = let h : t ≡ b = cc in go h (split ts us before x rest (ap tail e))
  where
    go : t ≡ b → Split ts us before x rest → Split (t ∷ ts) us (b ∷ before) x rest
    go h (later more p q) = later more (λ i. sym h i ∷ p i) q
    go h (within more p q) = within more (λ i. h i ∷ p i) q

not_there : (before : List Tick) (x : Tick) (more : List Tick) → [] ≡ before ++ (x ∷ more) → ⊥
not_there [] x more e = let z : ◌≡◌ {A = ℕ} 0 1 = cc in omega arith
not_there (b ∷ before) x more e = let z : ◌≡◌ {A = ℕ} 0 1 = cc in omega arith

-- a call's ticks end with the one in which it ends
record Last (hs : List Tick) (d : Call) (b : Answer) (before : List Tick) (c : Call) (a : Answer) (more : List Tick) : Type 0 where
  same_before : before ≡ hs
  same_call : d ≡ c
  same_answer : b ≡ a
  none_more : more ≡ []

alone : (d : Call) (b : Answer) (before : List Tick) (c : Call) (a : Answer) (more : List Tick) → ends d b ∷ [] ≡ before ++ (ends c a ∷ more) → Last [] d b before c a more
alone d b [] c a more e = record { same_before = refl; same_call = cc; same_answer = cc; none_more = sym (ap tail e) }
alone d b (x ∷ before) c a more e = absurd (not_there before (ends c a) more (ap tail e))

after_items : (r : ReceiveCall) (l : List (LaneKey × ℕ)) (d : Call) (b : Answer) (before : List Tick) (c : Call) (a : Answer) (more : List Tick)
    → map (λ g. gives r g.0 g.1) l ++ (ends d b ∷ []) ≡ before ++ (ends c a ∷ more) → Last (map (λ g. gives r g.0 g.1) l) d b before c a more
after_items r [] d b before c a more e = alone d b before c a more e
after_items r (g ∷ l) d b [] c a more e = let z : ◌≡◌ {A = ℕ} 0 1 = cc in absurd (omega arith)
after_items r (g ∷ l) d b (x ∷ before) c a more e =
    let h : gives r g.0 g.1 ≡ x = cc in
    let n = after_items r l d b before c a more (ap tail e) in
    record { same_before = λ i. sym h i ∷ n.same_before i; same_call = n.same_call; same_answer = n.same_answer; none_more = n.none_more }

last_tick : (s : State) (d : Call) (before : List Tick) (c : Call) (a : Answer) (more : List Tick) → ticks the_rules s d ≡ before ++ (ends c a ∷ more)
    → Last (handed the_rules s d) d (outcome s d).1.0 before c a more
unfolding ticks handed
last_tick s (Sender d) before c a more e = alone (Sender d) _ before c a more e
last_tick s (Control d) before c a more e = alone (Control d) _ before c a more e
last_tick s (Receive r) before c a more e = after_items r (the_rules.hands s r) (Receive r) _ before c a more e

-- `made` are the calls before it, `left` those after it
pub record EndsAt (s : State) (before rest : List Tick) (c : Call) (a : Answer) : Type 0 where
  pub made : List Call
  pub left : List Call
  pub so_far : before ≡ trace the_rules s made ++ handed the_rules (after_list the_rules s made) c
  pub answered : a ≡ (outcome (after_list the_rules s made) c).1.0
  pub goes_on : rest ≡ trace the_rules (outcome (after_list the_rules s made) c).1.1 left

pub ends_at : (calls : List Call) (s : State) (before rest : List Tick) (c : Call) (a : Answer) → trace the_rules s calls ≡ before ++ (ends c a ∷ rest) → EndsAt s before rest c a
unfolding trace after_list
ends_at [] s before rest c a e = absurd (not_there before (ends c a) rest e)
ends_at (d ∷ cs) s before rest c a e = go (split (ticks the_rules s d) _ before (ends c a) rest e) (λ b. ends_at cs u b rest c a)
  where
    u : State
    u = (outcome s d).1.1

    go : Split (ticks the_rules s d) (trace the_rules u cs) before (ends c a) rest → ((b : List Tick) → trace the_rules u cs ≡ b ++ (ends c a ∷ rest) → EndsAt u b rest c a) → EndsAt s before rest c a
    go (later more p q) ih =
        let n = ih more q in
        record { made = d ∷ n.made; left = n.left; so_far = p ∙ ap (λ (l : List Tick). ticks the_rules s d ++ l) n.so_far ∙ sym (append_assoc (ticks the_rules s d) _ _); answered = n.answered; goes_on = n.goes_on }
    go (within more p q) ih =
        let n = last_tick s d before c a more p in
        record {
          made = [];
          left = cs;
          so_far = n.same_before ∙ ap (handed the_rules s) n.same_call;
          answered = sym n.same_answer ∙ ap (λ (x : Call). (outcome s x).1.0) n.same_call;
          goes_on = q ∙ ap (λ (l : List Tick). l ++ trace the_rules u cs) n.none_more ∙ ap (λ (x : Call). trace the_rules (outcome s x).1.1 cs) n.same_call;
        }

pub after_append : (L : Ledger) (a b : List Tick) → ledger_after L (a ++ b) ≡ ledger_after (ledger_after L a) b
unfolding ledger_after
after_append L [] b = refl
after_append L (t ∷ a) b = after_append (note L t) a b
