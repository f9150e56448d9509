-- Chunk after chunk, up to an item that is not admitted: the loop's state, as the batch's, and where it ends.
-- Assumes nothing.
use Rattle.std.specs.Prelude.{Option, Some, None}
use mathlib.Core.Path.{◌≡◌, refl, sym, ap, ap₂, ◌∙◌, subst}
use mathlib.Core.Bool.{Bool, true, false, cond}
use mathlib.Core.List.{List, [], ◌∷◌, ◌++◌, append-nil, append_assoc}
use Prim.Native.Nat.{ℕ, zero, suc, ◌+◌, ◌-◌, ◌≤◌, ◌<◌}
use native.Mathlib.Omega.{arith}
use borrow.Author.Tests.{eq-eqb, ne_eqb, ltb-false}
use lib.Dec.{leb, ltb}
use lib.ListN.{length, length-append}
use Rattle.model.specs.declared.LaneKey.{LaneKey}
use Rattle.model.specs.Receive as rules
use Rattle.lane.specs.declared.lane.Lane.{Lane}
use Rattle.yring.specs.Lists.{written}
use Rattle.yring.specs.Ring.{accepted_prefix}
use Rattle.receive_while.specs.declared.batch_while.Drained.{Drained}
use Rattle.turns.specs.Turn.{Turning}
use Rattle.receive_batch.specs.Batch.{refresh_active, Fronts, chunk_size, chunk_items, chunk_given}
use Rattle.receive_while.specs.While.{chunk_admitted, give_admitted, DrainedWhile, while_then, drained_while_within, drained_while, drain_while}
use Rattle.turns.proofs.FrontLaws.{Keeps, keeps_self, keeps_then}
use Rattle.receive_batch.proofs.LookLaws.{Searched, refresh_searched}
use Rattle.receive_batch.proofs.ChunkLaws.{chunk_least, chunk_some, chunk_filled, chunk_keeps}
use Rattle.receive_batch.proofs.OutputLaws.{output_none, output_chunk, length_output}
use Rattle.receive_batch.proofs.DrainLaws.{length_chunk, chunk_handed, length_handed}

abbrev Handed : Type 0
Handed = List (LaneKey × ℕ)

prefix_most : (b : ℕ) (l : List ℕ) → accepted_prefix b l ≤ length l
unfolding accepted_prefix
prefix_most b [] = omega arith
prefix_most b (v ∷ l) = go (leb v b) (prefix_most b l)
  where
    go : (c : Bool) → accepted_prefix b l ≤ length l → cond c (suc (accepted_prefix b l)) 0 ≤ suc (length l)
    go true h = omega arith
    go false h = omega arith

pub admitted_most : (t r : List ℕ) (bound n : ℕ) (l : Lane) → chunk_admitted t r bound n l ≤ n
unfolding chunk_admitted
admitted_most t r bound n l = omega (arith, prefix_most bound (chunk_items t r n l), length_chunk t r n l)

abbrev onto_while : Handed → DrainedWhile → DrainedWhile
onto_while l d = (d.0, (l ++ d.1.0, d.1.1))

-- what the loop leaves, with the output as it was
abbrev pub leaves : List ℕ → DrainedWhile → Drained × List ℕ × List ℕ
leaves out d = (record { received = length d.1.0; rejected = d.0 }, d.1.1, rules.written_to d.1.0 out)

pub record Admitting (t₀ r out₀ : List ℕ) (limit bound : ℕ) (t out : List ℕ) (received : ℕ) : Type 0 where
  pub handed : List (LaneKey × ℕ)
  pub fuel : ℕ
  pub keeps : Keeps t₀ t
  pub within : received ≤ limit
  pub counted : length handed ≡ received
  pub enough : limit - received ≤ fuel
  pub long : length out ≡ length out₀
  pub wrote : out ≡ rules.written_to handed out₀
  pub rest : onto_while handed (drained_while_within fuel t r bound (limit - received)) ≡ drained_while t₀ r limit bound

pub admitting_start : (t r out : List ℕ) (limit bound : ℕ) → Turning t → Admitting t r out limit bound t out 0
unfolding drained_while
admitting_start t r out limit bound k =
    record {
      handed = [];
      fuel = limit;
      keeps = keeps_self t k;
      within = omega arith;
      counted = refl;
      enough = omega arith;
      long = refl;
      wrote = sym (output_none out);
      rest = ap (λ (n : ℕ). drained_while_within limit t r bound n) (sub_zero limit);
    }
  where
    sub_zero : (n : ℕ) → n - 0 ≡ n
    sub_zero n = omega arith

pub within_next : (n : ℕ) (t r : List ℕ) (bound left : ℕ) → 0 < left → drained_while_within (suc n) t r bound left ≡ while_then (refresh_active t) r bound left (λ u m. drained_while_within n u r bound m)
unfolding drained_while_within
within_next n t r bound left h = rw (ne_eqb left 0 (λ e. omega arith))

module _ {t₀ r out₀ : List ℕ} {limit bound : ℕ} {t out : List ℕ} {received : ℕ} (d : Admitting t₀ r out₀ limit bound t out received) where
  -- it ends here, and has not stopped
  ended : (u : List ℕ) → onto_while d.handed (false, ([], u)) ≡ drained_while t₀ r limit bound → (record { received = received; rejected = false }, u, out) ≡ drain_while t₀ r out₀ limit bound
  unfolding drain_while
  ended u e =
      let all : (false, (d.handed, u)) ≡ drained_while t₀ r limit bound = ap (λ (l : Handed). (false, (l, u))) (sym (append-nil d.handed)) ∙ e in
      rw (← d.counted, d.wrote) (ap (leaves out₀) all)

  -- the limit is reached
  pub admitting_full : limit ≤ received → (record { received = received; rejected = false }, t, out) ≡ drain_while t₀ r out₀ limit bound
  unfolding drained_while_within
  admitting_full h = go d.fuel (limit - received) (omega (arith, h)) d.rest
    where
      go : (n left : ℕ) → left ≡ 0 → onto_while d.handed (drained_while_within n t r bound left) ≡ drained_while t₀ r limit bound → (record { received = received; rejected = false }, t, out) ≡ drain_while t₀ r out₀ limit bound
      go zero left z e = ended t e
      go (suc n) left z e = ended t (rw (eq-eqb left 0 z) at e)

  module _ (h : received < limit) where
    fuel_some : (n : ℕ) → n ≡ d.fuel → n ≡ 0 → ⊥
    fuel_some n e z = omega (arith, d.enough, h)

    turning : Turning t
    turning = d.keeps.turning

    step : (n : ℕ) → suc n ≡ d.fuel → onto_while d.handed (while_then (refresh_active t) r bound (limit - received) (λ u m. drained_while_within n u r bound m)) ≡ drained_while t₀ r limit bound
    step n e =
        ap (onto_while d.handed) (sym (ap (λ (f : ℕ). drained_while_within f t r bound (limit - received)) (sym e) ∙ within_next n t r bound (limit - received) (omega (arith, h)))) ∙ d.rest

    -- nothing is queued and nothing is ready
    pub admitting_none : (u : List ℕ) → (None, u) ≡ refresh_active t → (record { received = received; rejected = false }, u, out) ≡ drain_while t₀ r out₀ limit bound
    unfolding while_then
    admitting_none u e = go d.fuel refl
      where
        go : (n : ℕ) → n ≡ d.fuel → (record { received = received; rejected = false }, u, out) ≡ drain_while t₀ r out₀ limit bound
        go zero z = absurd (fuel_some zero z refl)
        go (suc n) z = ended u (ap (λ (o : Option Lane × List ℕ). onto_while d.handed (while_then o r bound (limit - received) (λ u m. drained_while_within n u r bound m))) e ∙ step n z)

    -- a lane has items
    module _ (u : List ℕ) (l : Lane) (e : (Some l, u) ≡ refresh_active t) where
      searched : Searched t (Some l, u)
      searched = subst (Searched t) (sym e) (refresh_searched t turning)

      pub admit_front : Fronts u l
      admit_front = searched.reached

      pub admit_kept : Keeps t₀ u
      admit_kept = keeps_then d.keeps searched.keeps

      abbrev n : ℕ
      n = chunk_size u (limit - received) l

      abbrev k : ℕ
      k = chunk_admitted u r bound n l

      admit_some : 0 < n
      admit_some = chunk_some u (limit - received) l (chunk_filled u l admit_front) (omega (arith, h))

      least : k ≤ n
      least = admitted_most u r bound n l

      within_limit : received + k ≤ limit
      within_limit = omega (arith, (chunk_least u (limit - received) l).0, h, least)

      module _ (room : limit ≤ length out₀) (m : Drained) (v o : List ℕ) (g : (m, v, o) ≡ give_admitted u r out received (limit - received) bound l) where
        count_is : m.received ≡ k
        unfolding give_admitted
        count_is = ap (λ (z : Drained × List ℕ × List ℕ). z.0.received) g

        stopped_is : m.rejected ≡ ltb k n
        unfolding give_admitted
        stopped_is = ap (λ (z : Drained × List ℕ × List ℕ). z.0.rejected) g

        table_is : v ≡ chunk_given u k l
        unfolding give_admitted
        table_is = ap (λ (z : Drained × List ℕ × List ℕ). z.1) g

        output_is : o ≡ rules.written_to (d.handed ++ chunk_handed u r k l) out₀
        unfolding give_admitted
        output_is =
            ap (λ (z : Drained × List ℕ × List ℕ). z.2) g ∙ ap₂ (λ (a : List ℕ) (b : ℕ). written a b (chunk_items u r k l)) d.wrote (sym d.counted)
            ∙ output_chunk d.handed l.key (chunk_items u r k l) out₀ (omega (arith, d.counted, d.within, room))

        counted_is : length (d.handed ++ chunk_handed u r k l) ≡ received + k
        counted_is = length-append d.handed (chunk_handed u r k l) ∙ ap₂ ◌+◌ d.counted (length_handed u r k l)

        pub admit_within : received + m.received ≤ limit
        admit_within = omega (arith, count_is, within_limit)

        pub admit_more : m.rejected ≡ false → 0 < m.received
        admit_more s = omega (arith, count_is, admit_some, ltb-false k n (sym stopped_is ∙ s))

        pub stop_long : length v ≡ length t₀
        stop_long = ap length table_is ∙ (keeps_then admit_kept (chunk_keeps u l admit_front k (omega (arith, least, (chunk_least u (limit - received) l).2)))).long

        pub stop_output_long : length o ≡ length out₀
        stop_output_long = ap length output_is ∙ length_output (d.handed ++ chunk_handed u r k l) out₀ (omega (arith, counted_is, within_limit, room))

        -- an item is not admitted
        pub admitting_stops : m.rejected ≡ true → (record { received = received + m.received; rejected = true }, v, o) ≡ drain_while t₀ r out₀ limit bound
        unfolding while_then drain_while
        admitting_stops s = go d.fuel refl
          where
            short : ltb k n ≡ true
            short = sym stopped_is ∙ s

            go : (f : ℕ) → f ≡ d.fuel → (record { received = received + m.received; rejected = true }, v, o) ≡ drain_while t₀ r out₀ limit bound
            go zero z = absurd (fuel_some zero z refl)
            go (suc f) z =
                let more : DrainedWhile = drained_while_within f (chunk_given u k l) r bound (limit - received - k) in
                let all : (true, (d.handed ++ chunk_handed u r k l, chunk_given u k l)) ≡ drained_while t₀ r limit bound =
                ap (λ (b : Bool). onto_while d.handed (cond b (true, (chunk_handed u r k l, chunk_given u k l)) (more.0, (chunk_handed u r k l ++ more.1.0, more.1.1)))) (sym short)
                ∙ ap (λ (p : Option Lane × List ℕ). onto_while d.handed (while_then p r bound (limit - received) (λ u m. drained_while_within f u r bound m))) e ∙ step f z in
                rw (count_is, table_is, output_is, ← counted_is) (ap (leaves out₀) all)

        pub admitting_next : m.rejected ≡ false → Admitting t₀ r out₀ limit bound v o (received + m.received)
        unfolding while_then
        admitting_next s = go d.fuel refl
          where
            whole : ltb k n ≡ false
            whole = sym stopped_is ∙ s

            go : (f : ℕ) → f ≡ d.fuel → Admitting t₀ r out₀ limit bound v o (received + m.received)
            go zero z = absurd (fuel_some zero z refl)
            go (suc f) z =
                rw (count_is, table_is)
                (record {
                  handed = d.handed ++ chunk_handed u r k l;
                  fuel = f;
                  keeps = keeps_then admit_kept (chunk_keeps u l admit_front k (omega (arith, least, (chunk_least u (limit - received) l).2)));
                  within = within_limit;
                  counted = counted_is;
                  enough = omega (arith, z, d.enough, admit_some, h, ltb-false k n whole);
                  long = ap length output_is ∙ length_output (d.handed ++ chunk_handed u r k l) out₀ (omega (arith, counted_is, within_limit, room));
                  wrote = output_is;
                  rest = rest_is f z;
                })
              where
                left_is : limit - (received + k) ≡ limit - received - k
                left_is = omega arith

                rest_is : (f : ℕ) → suc f ≡ d.fuel → onto_while (d.handed ++ chunk_handed u r k l) (drained_while_within f (chunk_given u k l) r bound (limit - (received + k))) ≡ drained_while t₀ r limit bound
                rest_is f z =
                    let more : DrainedWhile = drained_while_within f (chunk_given u k l) r bound (limit - received - k) in
                    ap (λ (j : ℕ). onto_while (d.handed ++ chunk_handed u r k l) (drained_while_within f (chunk_given u k l) r bound j)) left_is
                    ∙ ap (λ (x : Handed). (more.0, (x, more.1.1))) (append_assoc d.handed (chunk_handed u r k l) more.1.0)
                    ∙ ap (λ (b : Bool). onto_while d.handed (cond b (true, (chunk_handed u r k l, chunk_given u k l)) (more.0, (chunk_handed u r k l ++ more.1.0, more.1.1)))) (sym whole)
                    ∙ ap (λ (p : Option Lane × List ℕ). onto_while d.handed (while_then p r bound (limit - received) (λ u m. drained_while_within f u r bound m))) e ∙ step f z
