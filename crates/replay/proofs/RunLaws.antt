-- What the loop of `run` carries from one round to the next, and what a run comes to.
-- Assumes nothing.
use mathlib.Core.Path.{◌≡◌, refl, sym, ap, ◌∙◌, subst}
use mathlib.Core.List.{List, [], ◌∷◌, ◌++◌, append-nil}
use Prim.Native.Nat.{ℕ, ◌+◌, ◌-◌, ◌≤◌, ◌<◌, ◌^◌}
use native.Mathlib.Omega.{arith}
use lib.ListN.{take, drop, length-drop}
use lib.Seq.{length-take-le}
use Rattle.replay_serve.specs.declared.calls.Stores.{Stores}
use Rattle.replay_serve.specs.Calls.{started}
use Rattle.replay.specs.declared.place.Next.{Next}
use Rattle.replay.specs.declared.place.Next.TheVariants.{Read, Answer, End, Stop}
use Rattle.replay.specs.declared.place.Place.{Place}
use Rattle.std.specs.Prelude.{Ok, Err}
use Rattle.replay.specs.declared.failure.Failure.TheVariants.{WriteFailed, TurnsOver}
use Rattle.replay.specs.Rounds.{Round, Last, Rounds}
use Rattle.replay.specs.Place.{Sized, between, FetchedBy, Fetched, Flushed, RoundBy, Rounded}
use Rattle.replay.specs.Ran.{came_in, TurnsAdd, Outcome, EndsAs, Ran, RunsAnswer}
use Rattle.replay.proofs.RoundLaws.{no_end, parts_answered}
use Rattle.replay.proofs.PlaceLaws.{between_kept, between_more, TakenBy, taken_read}

turn_adds : {k : ℕ} {parts texts : List (List ℕ)} {s u : Stores} {b d x v : List ℕ} {p m q : Place} → Sized b → (p.next ≡ Stop → ⊥)
    → Rounds k parts texts s (between p.at p.have b) p.next → Fetched p b d m → Rounded m.next m s d u x v q
    → Rounds (k + 1) (parts ++ came_in p.next m.next (between p.have m.have d)) (texts ++ take q.end v ∷ []) u (between q.at q.have x) q.next
turn_adds {k} {parts} {texts} {s} {u} {b} {d} {x} {v} {p} {m} {q} z w c f r = go p.next refl f.takes c
  where
    j : Sized d
    j = f.long ∙ z

    rest : List ℕ
    rest = between q.at q.have x

    part : List ℕ
    part = between p.have m.have d

    here : between p.at p.have d ≡ between p.at p.have b
    here = between_kept p.at p.have b d p.in_buffer.0 f.kept

    -- where nothing came
    same : m.at ≡ p.at → m.have ≡ p.have → between m.at m.have d ≡ between p.at p.have b
    same g e = ap (λ (h : ℕ). between h m.have d) g ∙ ap (λ (h : ℕ). between p.at h d) e ∙ here

    -- where so many bytes came
    got : ℕ
    got = m.have - p.have

    longer : m.at ≡ p.at → p.have < m.have → between m.at m.have d ≡ between p.at p.have b ++ take got (drop p.have d)
    longer g h =
        let e : m.have ≡ p.have + got = omega (arith, h) in
        ap (λ (a : ℕ). between a m.have d) g
        ∙ ap (λ (a : ℕ). between p.at a d) e
        ∙ between_more p.at p.have got d p.in_buffer.0
        ∙ ap (λ (l : List ℕ). l ++ take got (drop p.have d)) here

    taken : (n : Next) → m.next ≡ n → m.at ≡ p.at → TakenBy n p m → RoundBy n s (between m.at m.have d) u rest (take q.end v) q.next
        → Rounds k parts texts s (between p.at p.have b) Read → Rounds (k + 1) (parts ++ came_in Read n part) (texts ++ take q.end v ∷ []) u rest q.next
    taken Read e g t r a = absurd t
    taken Answer e g t r a =
        Rounds.more a part
        (omega (arith, t, m.in_buffer, j, length-drop p.have d, length-take-le got (drop p.have d) (omega (arith, t, m.in_buffer, j, length-drop p.have d))))
        (subst (λ (l : List ℕ). Round s l u rest (take q.end v) q.next) (longer g t) r)
    taken End e g t r a = Rounds.end a (subst (λ (l : List ℕ). Last s l u rest (take q.end v) q.next) (same g t) r)
    taken Stop e g t r a = absurd t

    go : (n : Next) → p.next ≡ n → FetchedBy n p m → Rounds k parts texts s (between p.at p.have b) n
        → Rounds (k + 1) (parts ++ came_in n m.next part) (texts ++ take q.end v ∷ []) u rest q.next
    go Read e t a = let g = taken_read t in taken m.next refl g.at g.takes r.does a
    go Answer e t a =
        subst (λ (l : List (List ℕ)). Rounds (k + 1) l (texts ++ take q.end v ∷ []) u rest q.next) (sym (append-nil parts))
        (Rounds.again a
        (subst (λ (l : List ℕ). Round s l u rest (take q.end v) q.next) (same (ap (λ (h : Place). h.at) t) (ap (λ (h : Place). h.have) t))
        (subst (λ (n : Next). RoundBy n s (between m.at m.have d) u rest (take q.end v) q.next) (ap (λ (h : Place). h.next) t ∙ e) r.does)))
    go End e t a = absurd (no_end a)
    go Stop e t a = absurd (w e)

pub turns_add : TurnsAdd
turns_add = record { turn = turn_adds }

-- after so many turns of the loop; the place by its fields, as the loop has them
pub record Running (turns : ℕ) (s : Stores) (b : List ℕ) (next : Next) (at have end : ℕ) : Type 0 where
  pub parts : List (List ℕ)
  pub texts : List (List ℕ)
  pub rounds : Rounds turns parts texts s (between at have b) next
  pub in_buffer : (at ≤ have) × (have ≤ 65536)
  pub room : next ≡ Read → have < 65536
  pub goes : next ≡ Stop → ⊥
  pub written : end ≡ 0

pub running_start : {s : Stores} (b : List ℕ) → s ≡ started → Running 0 s b Read 0 0 0
running_start b e =
    record {
      parts = [];
      texts = [];
      rounds = subst (λ (x : Stores). Rounds 0 [] [] x [] Read) (sym e) Rounds.none;
      in_buffer = (omega arith, omega arith);
      room = λ r. omega arith;
      goes = λ r. (let z : ◌≡◌ {A = ℕ} 0 1 = cc in omega arith);
      written = refl;
    }

-- what a write leaves
flushed_rounds : {k : ℕ} {parts texts : List (List ℕ)} {s : Stores} (b : List ℕ) {p q : Place} → Flushed p q → Rounds k parts texts s (between p.at p.have b) p.next
    → Rounds k parts texts s (between q.at q.have b) q.next
flushed_rounds {k} {parts} {texts} {s} b {p} {q} f c =
    subst (λ (n : Next). Rounds k parts texts s (between q.at q.have b) n) (sym f.next)
    (subst (λ (l : List ℕ). Rounds k parts texts s l p.next) (sym (ap (λ (x : ℕ). between x q.have b) f.at ∙ ap (λ (x : ℕ). between p.at x b) f.have)) c)

-- a read and a round
module _ {turns : ℕ} {s u : Stores} {b d x v : List ℕ} {p m q : Place} (z : Sized b) (f : Fetched p b d m) (r : Rounded m.next m s d u x v q) (c : Running turns s b p.next p.at p.have p.end) where
  abbrev next_parts : List (List ℕ)
  next_parts = c.parts ++ came_in p.next m.next (between p.have m.have d)

  abbrev next_texts : List (List ℕ)
  next_texts = c.texts ++ take q.end v ∷ []

  next_rounds : Rounds (turns + 1) next_parts next_texts u (between q.at q.have x) q.next
  next_rounds = turn_adds z c.goes c.rounds f r

  -- and a write
  pub running_on : {w : Place} → Flushed q w → (w.next ≡ Stop → ⊥) → Running (turns + 1) u x w.next w.at w.have w.end
  running_on {w} g n = record { parts = next_parts; texts = next_texts; rounds = flushed_rounds x g next_rounds; in_buffer = w.in_buffer; room = w.room; goes = n; written = g.due }

  -- where the program ends after a round
  pub ran_stopped : {w : Place} → Flushed q w → w.next ≡ Stop → Ran (Ok tt) u
  ran_stopped g e = record { count = turns + 1; parts = next_parts; texts = next_texts; rest = between q.at q.have x; next = q.next; rounds = next_rounds; ends = sym g.next ∙ e }

  -- a write that failed leaves all that was due
  pub ran_unwritten : Sized v → 0 < q.end → Ran (Err WriteFailed) u
  ran_unwritten l h =
      record {
        count = turns + 1;
        parts = next_parts;
        texts = next_texts;
        rest = between q.at q.have x;
        next = q.next;
        rounds = next_rounds;
        ends = record { before = c.texts; text = take q.end v; last = refl; due = omega (arith, h, length-take-le q.end v (omega (arith, r.room, l))) };
      }

-- where it ends before one
module _ {turns : ℕ} {s : Stores} {b : List ℕ} {next : Next} {at have end : ℕ} (c : Running turns s b next at have end) where
  ran_so_far : {o : Outcome} → EndsAs o turns c.texts next → Ran o s
  ran_so_far e = record { count = turns; parts = c.parts; texts = c.texts; rest = between at have b; next = next; rounds = c.rounds; ends = e }

  pub turns_over : turns ≡ 2 ^ 64 - 1 → Ran (Err TurnsOver) s
  turns_over e = ran_so_far {o = Err TurnsOver} e

-- ---- the claims

stopped : {s : Stores} (r : Ran (Ok tt) s) → Rounds r.count r.parts r.texts s r.rest Stop
stopped {s} r = subst (λ (n : Next). Rounds r.count r.parts r.texts s r.rest n) r.ends r.rounds

pub runs_answer : RunsAnswer
runs_answer =
    record {
      lines = λ r c h. parts_answered.whole (stopped r) c h;
      stores = λ r. parts_answered.stores (stopped r);
      long = λ r. omega (arith, r.ends, parts_answered.few r.rounds);
    }
