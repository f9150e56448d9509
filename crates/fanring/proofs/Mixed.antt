-- A list that mixes checked and inner calls is the list of checked calls: from an accepted opening on the stores are in order before each call.
-- Assumes nothing.
use mathlib.Core.Path.{◌≡◌, refl, ap, sym, ◌∙◌}
use mathlib.Core.List.{List, [], ◌∷◌, ◌++◌, map}
use Prim.Native.Nat.{ℕ}
use Rattle.model.specs.declared.Call.{Call}
use Rattle.model.specs.declared.Call.TheVariants.{Sender, Receive, Control}
use Rattle.model.specs.Runs.{Tick, ends, handed, ticks, trace, after_list}
use Rattle.store.specs.Order.{StoreInOrder}
use Rattle.store.specs.Words.{Words}
use Rattle.refinement.specs.Runs.{lists_of, Run, opened_stores, stores_after}
use Rattle.refinement.specs.RulesOnWords.{StaysInOrder}
use Rattle.refinement.proofs.AsInner.{AsInner, inner_as_inner, words_keep, opened_in_order, stays_in_order}
use Rattle.fanring.specs.Runs.{checked_calls, the_calls}
use Rattle.fanring.specs.Mixed.{Way, as_checked, as_inner, calls_of, mixed_trace, mixed_after, MixedAs}
use Rattle.fanring.proofs.CheckedCalls.{checked_as_inner}

way_as_inner : (way : Way) → AsInner (calls_of way)
unfolding calls_of
way_as_inner as_checked = checked_as_inner
way_as_inner as_inner = inner_as_inner

module _ (way : Way) (w : List ℕ × List ℕ) (o : StoreInOrder w.0 w.1) where
  same_words : (c : Call) → (calls_of way).words w.0 w.1 c ≡ checked_calls.words w.0 w.1 c
  same_words c = (way_as_inner way).same_words w.0 w.1 o c ∙ sym (checked_as_inner.same_words w.0 w.1 o c)

  same_left : (c : Call) → ((lists_of (calls_of way)).step w c).1 ≡ (the_calls.step w c).1
  same_left c = ap (λ (a : Words). (a.1, a.2)) (same_words c)

  same_ticks : (c : Call) → ticks (lists_of (calls_of way)) w c ≡ ticks the_calls w c
  unfolding ticks handed
  same_ticks (Sender c) = ap (λ (a : Words). ends (Sender c) a.0 ∷ []) (same_words (Sender c))
  same_ticks (Control c) = ap (λ (a : Words). ends (Control c) a.0 ∷ []) (same_words (Control c))
  same_ticks (Receive c) = rw ((way_as_inner way).same_hands w.0 w.1 o c ∙ sym (checked_as_inner.same_hands w.0 w.1 o c), same_words (Receive c))

same_trace : (w : List ℕ × List ℕ) (ms : List (Way × Call)) → StoreInOrder w.0 w.1 → mixed_trace w ms ≡ trace the_calls w (map (λ m. m.1) ms)
unfolding mixed_trace trace
same_trace w [] o = refl
same_trace w (m ∷ ms) o =
    ap (λ (l : List Tick). l ++ mixed_trace ((lists_of (calls_of m.0)).step w m.1).1 ms) (same_ticks m.0 w o m.1)
    ∙ ap (λ (v : List ℕ × List ℕ). ticks the_calls w m.1 ++ mixed_trace v ms) (same_left m.0 w o m.1)
    ∙ ap (λ (l : List Tick). ticks the_calls w m.1 ++ l) (same_trace (the_calls.step w m.1).1 ms (words_keep checked_calls checked_as_inner w.0 w.1 o m.1))

same_after : (w : List ℕ × List ℕ) (ms : List (Way × Call)) → StoreInOrder w.0 w.1 → mixed_after w ms ≡ after_list the_calls w (map (λ m. m.1) ms)
unfolding mixed_after after_list
same_after w [] o = refl
same_after w (m ∷ ms) o =
    ap (λ (v : List ℕ × List ℕ). mixed_after v ms) (same_left m.0 w o m.1)
    ∙ same_after (the_calls.step w m.1).1 ms (words_keep checked_calls checked_as_inner w.0 w.1 o m.1)

pub mixed_as : (x : Run) (ms : List (Way × Call)) → map (λ m. m.1) ms ≡ x.calls → MixedAs x ms
unfolding StaysInOrder
mixed_as x ms e =
    let s = same_after (opened_stores x) ms (opened_in_order x) ∙ ap (after_list the_calls (opened_stores x)) e in
    let only = stores_after checked_calls x in
    let o = stays_in_order checked_calls checked_as_inner x in
    record {
      same_trace = same_trace (opened_stores x) ms (opened_in_order x) ∙ ap (trace the_calls (opened_stores x)) e;
      same_stores = s;
      same_output = λ way c out.
          ap (λ (w : List ℕ × List ℕ). (calls_of way).output w.0 w.1 c out) s
          ∙ (way_as_inner way).same_output only.0 only.1 o c out ∙ sym (checked_as_inner.same_output only.0 only.1 o c out);
    }
