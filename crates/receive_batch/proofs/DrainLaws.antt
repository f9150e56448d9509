-- Chunk after chunk: the loop's state is what was handed out so far and what the definition still hands out.
-- Assumes nothing.
use Rattle.std.specs.Prelude.{Option, Some, None}
use mathlib.Core.Path.{◌≡◌, refl, sym, ap, ap₂, ◌∙◌, subst}
use mathlib.Core.Bool.{Bool, true, false, cond}
use mathlib.Core.List.{List, [], ◌++◌, map, append-nil, append_assoc}
use Prim.Native.Nat.{ℕ, zero, suc, ◌+◌, ◌-◌, ◌≤◌, ◌<◌}
use native.Mathlib.Omega.{arith}
use borrow.Author.Tests.{eq-eqb, ne_eqb}
use lib.Dec.{eqb}
use lib.ListN.{length, length-append, length-map}
use Rattle.model.specs.declared.LaneKey.{LaneKey}
use Rattle.model.specs.Receive as rules
use Rattle.lane.specs.declared.lane.Lane.{Lane}
use Rattle.yring.specs.Lists.{tab, written}
use Rattle.yring.specs.Ring.{items}
use Rattle.turns.specs.Turn.{Turning}
use Rattle.turns.specs.Drained.{Idle}
use Rattle.receive_batch.specs.Batch.{refresh_active, Fronts, chunk_size, chunk_items, chunk_given, give_chunk, HandsAndTable, chunk_then, drained_within, drained, drain_into}
use Rattle.turns.proofs.FrontLaws.{Keeps, keeps_self, keeps_then}
use Rattle.receive_batch.proofs.LookLaws.{Searched, refresh_searched}
use Rattle.receive_batch.proofs.ChunkLaws.{chunk_least, chunk_some, chunk_filled, chunk_keeps}
use Rattle.receive_batch.proofs.OutputLaws.{output_none, output_chunk, length_output}

abbrev Handed : Type 0
Handed = List (LaneKey × ℕ)

length_tab : (n : ℕ) (f : ℕ → ℕ) → length (tab n f) ≡ n
length_tab zero f = refl
length_tab (suc n) f = ap suc (length_tab n (λ i. f (suc i)))

pub length_chunk : (t r : List ℕ) (n : ℕ) (l : Lane) → length (chunk_items t r n l) ≡ n
unfolding chunk_items items
length_chunk t r n l = length_tab n _

-- what a chunk hands out
abbrev pub chunk_handed : List ℕ → List ℕ → ℕ → Lane → List (LaneKey × ℕ)
chunk_handed t r n l = map (λ v. (l.key, v)) (chunk_items t r n l)

pub length_handed : (t r : List ℕ) (n : ℕ) (l : Lane) → length (chunk_handed t r n l) ≡ n
length_handed t r n l = length-map (chunk_items t r n l) (λ v. (l.key, v)) ∙ length_chunk t r n l

-- items handed out before
abbrev onto : Handed → HandsAndTable → HandsAndTable
onto l d = (l ++ d.0, d.1)

-- ---- the loop

pub record Draining (t₀ r out₀ : List ℕ) (limit : ℕ) (t out : List ℕ) (received : ℕ) : Type 0 where
  pub handed : List (LaneKey × ℕ)
  pub fuel : ℕ
  pub keeps : Keeps t₀ t
  pub within : received ≤ limit
  pub counted : length handed ≡ received
  pub enough : limit - received ≤ fuel
  pub long : length out ≡ length out₀
  pub wrote : out ≡ rules.written_to handed out₀
  pub rest : onto handed (drained_within fuel t r (limit - received)) ≡ drained t₀ r limit

pub draining_start : (t r out : List ℕ) (limit : ℕ) → Turning t → Draining t r out limit t out 0
unfolding drained
draining_start t r out limit k =
    record {
      handed = [];
      fuel = limit;
      keeps = keeps_self t k;
      within = omega arith;
      counted = refl;
      enough = omega arith;
      long = refl;
      wrote = sym (output_none out);
      rest = ap (λ (n : ℕ). drained_within limit t r n) (sub_zero limit);
    }
  where
    sub_zero : (n : ℕ) → n - 0 ≡ n
    sub_zero n = omega arith

-- one chunk of the definition
pub within_next : (n : ℕ) (t r : List ℕ) (left : ℕ) → 0 < left → drained_within (suc n) t r left ≡ chunk_then (refresh_active t) r left (λ u m. drained_within n u r m)
unfolding drained_within
within_next n t r left h = rw (ne_eqb left 0 (λ e. omega arith))

module _ {t₀ r out₀ : List ℕ} {limit : ℕ} {t out : List ℕ} {received : ℕ} (d : Draining t₀ r out₀ limit t out received) where
  -- the limit is reached
  pub draining_full : limit ≤ received → (received, t, out) ≡ drain_into t₀ r out₀ limit
  unfolding drain_into drained_within
  draining_full h = go d.fuel (limit - received) (omega (arith, h)) d.rest
    where
      ended : onto d.handed ([], t) ≡ drained t₀ r limit → (received, t, out) ≡ drain_into t₀ r out₀ limit
      ended e =
          let all : (d.handed, t) ≡ drained t₀ r limit = ap (λ (l : Handed). (l, t)) (sym (append-nil d.handed)) ∙ e in
          rw (← d.counted, d.wrote) (ap (λ (x : HandsAndTable). (length x.0, x.1, rules.written_to x.0 out₀)) all)

      go : (n left : ℕ) → left ≡ 0 → onto d.handed (drained_within n t r left) ≡ drained t₀ r limit → (received, t, out) ≡ drain_into t₀ r out₀ limit
      go zero left z e = ended e
      go (suc n) left z e = ended (rw (eq-eqb left 0 z) at e)

  module _ (h : received < limit) where
    fuel_some : (n : ℕ) → n ≡ d.fuel → n ≡ 0 → ⊥
    fuel_some n e z = omega (arith, d.enough, h)

    turning : Turning t
    turning = d.keeps.turning

    step : (n : ℕ) → suc n ≡ d.fuel → onto d.handed (chunk_then (refresh_active t) r (limit - received) (λ u m. drained_within n u r m)) ≡ drained t₀ r limit
    step n e =
        ap (onto d.handed) (sym (ap (λ (f : ℕ). drained_within f t r (limit - received)) (sym e) ∙ within_next n t r (limit - received) (omega (arith, h)))) ∙ d.rest

    -- nothing is queued and nothing is ready
    pub draining_none : (u : List ℕ) → (None, u) ≡ refresh_active t → (received, u, out) ≡ drain_into t₀ r out₀ limit
    unfolding drain_into chunk_then
    draining_none u e = go d.fuel refl
      where
        go : (n : ℕ) → n ≡ d.fuel → (received, u, out) ≡ drain_into t₀ r out₀ limit
        go zero z = absurd (fuel_some zero z refl)
        go (suc n) z =
            let s : onto d.handed ([], u) ≡ drained t₀ r limit =
            ap (λ (o : Option Lane × List ℕ). onto d.handed (chunk_then o r (limit - received) (λ u m. drained_within n u r m))) e ∙ step n z in
            let all : (d.handed, u) ≡ drained t₀ r limit = ap (λ (l : Handed). (l, u)) (sym (append-nil d.handed)) ∙ s in
            rw (← d.counted, d.wrote) (ap (λ (x : HandsAndTable). (length x.0, x.1, rules.written_to x.0 out₀)) all)

    -- a lane has items
    module _ (u : List ℕ) (l : Lane) (e : (Some l, u) ≡ refresh_active t) where
      searched : Searched t (Some l, u)
      searched = subst (Searched t) (sym e) (refresh_searched t turning)

      pub drain_front : Fronts u l
      drain_front = searched.reached

      pub drain_kept : Keeps t₀ u
      drain_kept = keeps_then d.keeps searched.keeps

      abbrev n : ℕ
      n = chunk_size u (limit - received) l

      pub drain_some : 0 < n
      drain_some = chunk_some u (limit - received) l (chunk_filled u l drain_front) (omega (arith, h))

      pub drain_within : received + n ≤ limit
      drain_within = omega (arith, (chunk_least u (limit - received) l).0, h)

      pub draining_next : limit ≤ length out₀ → (moved : ℕ) (v o : List ℕ) → (moved, v, o) ≡ give_chunk u r out received (limit - received) l
          → Draining t₀ r out₀ limit v o (received + moved)
      unfolding give_chunk chunk_then
      draining_next room moved v o g = go d.fuel refl
        where
          hs : Handed
          hs = chunk_handed u r n l

          moved_is : moved ≡ n
          moved_is = ap (λ (z : ℕ × List ℕ × List ℕ). z.0) g

          table_is : v ≡ chunk_given u n l
          table_is = ap (λ (z : ℕ × List ℕ × List ℕ). z.1) g

          output_is : o ≡ rules.written_to (d.handed ++ chunk_handed u r n l) out₀
          output_is =
              ap (λ (z : ℕ × List ℕ × List ℕ). z.2) g ∙ ap₂ (λ (a : List ℕ) (b : ℕ). written a b (chunk_items u r n l)) d.wrote (sym d.counted)
              ∙ output_chunk d.handed l.key (chunk_items u r n l) out₀ (omega (arith, d.counted, d.within, room))

          counted_is : length (d.handed ++ chunk_handed u r n l) ≡ received + n
          counted_is = length-append d.handed (chunk_handed u r n l) ∙ ap₂ ◌+◌ d.counted (length_handed u r n l)

          go : (f : ℕ) → f ≡ d.fuel → Draining t₀ r out₀ limit v o (received + moved)
          go zero z = absurd (fuel_some zero z refl)
          go (suc f) z =
              rw (moved_is, table_is)
              (record {
                handed = d.handed ++ chunk_handed u r n l;
                fuel = f;
                keeps = keeps_then drain_kept (chunk_keeps u l drain_front n (chunk_least u (limit - received) l).2);
                within = drain_within;
                counted = counted_is;
                enough = omega (arith, z, d.enough, drain_some, h);
                long = ap length output_is ∙ length_output (d.handed ++ chunk_handed u r n l) out₀ (omega (arith, counted_is, drain_within, room));
                wrote = output_is;
                rest = rest_is f z;
              })
            where
              left_is : limit - (received + n) ≡ limit - received - n
              left_is = omega arith

              rest_is : (f : ℕ) → suc f ≡ d.fuel → onto (d.handed ++ chunk_handed u r n l) (drained_within f (chunk_given u n l) r (limit - (received + n))) ≡ drained t₀ r limit
              rest_is f z =
                  let more : HandsAndTable = drained_within f (chunk_given u n l) r (limit - received - n) in
                  ap (λ (m : ℕ). onto (d.handed ++ chunk_handed u r n l) (drained_within f (chunk_given u n l) r m)) left_is
                  ∙ ap (λ (x : Handed). (x, more.1)) (append_assoc d.handed (chunk_handed u r n l) more.0)
                  ∙ ap (λ (o : Option Lane × List ℕ). onto d.handed (chunk_then o r (limit - received) (λ u m. drained_within f u r m))) e ∙ step f z

-- ---- what the whole leaves

drained_keeps_within : (n : ℕ) (t r : List ℕ) (left : ℕ) → Turning t → Keeps t (drained_within n t r left).1
unfolding drained_within chunk_then
drained_keeps_within zero t r left k = keeps_self t k
drained_keeps_within (suc n) t r left k = go (λ u m i. drained_keeps_within n u r m i) (eqb left 0)
  where
    by : (o : Option Lane × List ℕ) → Searched t o → ((u : List ℕ) (m : ℕ) → Turning u → Keeps u (drained_within n u r m).1)
        → Keeps t (chunk_then o r left (λ u m. drained_within n u r m)).1
    by (None, u) s ih = s.keeps
    by (Some l, u) s ih =
        let c = chunk_keeps u l s.reached (chunk_size u left l) (chunk_least u left l).2 in
        keeps_then (keeps_then s.keeps c) (ih (chunk_given u (chunk_size u left l) l) (left - chunk_size u left l) c.turning)

    go : ((u : List ℕ) (m : ℕ) → Turning u → Keeps u (drained_within n u r m).1) → (b : Bool)
        → Keeps t (cond b ([], t) (chunk_then (refresh_active t) r left (λ u m. drained_within n u r m))).1
    go ih true = keeps_self t k
    go ih false = by (refresh_active t) (refresh_searched t k) ih

pub drained_keeps : (t r : List ℕ) (limit : ℕ) → Turning t → Keeps t (drained t r limit).1
unfolding drained
drained_keeps t r limit k = drained_keeps_within limit t r limit k

-- a batch that asked for items and got none leaves no lane queued
pub drained_rests : (t r : List ℕ) (limit : ℕ) → Turning t → (limit ≡ 0 → ⊥) → length (drained t r limit).0 ≡ 0 → Idle (drained t r limit).1
unfolding drained chunk_then
drained_rests t r zero k h z = absurd (h refl)
drained_rests t r (suc limit) k h z =
    let e = within_next limit t r (suc limit) (omega arith) in
    subst (λ (d : HandsAndTable). Idle d.1) (sym e) (go (refresh_active t) (refresh_searched t k) (ap (λ (d : HandsAndTable). length d.0) (sym e) ∙ z))
  where
    go : (o : Option Lane × List ℕ) → Searched t o → length (chunk_then o r (suc limit) (λ u m. drained_within limit u r m)).0 ≡ 0
        → Idle (chunk_then o r (suc limit) (λ u m. drained_within limit u r m)).1
    go (None, u) s z = s.reached
    go (Some l, u) s z =
        let n = chunk_size u (suc limit) l in
        let some : 0 < n = chunk_some u (suc limit) l (chunk_filled u l s.reached) (omega arith) in
        absurd (omega (arith, z, some, length-append (chunk_handed u r n l) (drained_within limit (chunk_given u n l) r (suc limit - n)).0, length_handed u r n l))
