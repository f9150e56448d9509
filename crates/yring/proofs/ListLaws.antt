-- Lists given by their items, runs of stores, and numbers round a ring.
-- Assumes nothing.
use Rattle.std.proofs.Common.{◌≡◌, ℕ, zero, suc, ◌+◌, ◌-◌, ◌%◌, ◌<◌, ◌≤◌, List, [], ◌∷◌, ◌++◌, length, get_or, take, drop, set, sym, refl, ap, ◌∙◌, ap₂, append_assoc, append-nil, suc-le-suc, le_of_suc-le-suc, not-suc-le-zero, add-zero, mod-lt, mod-eq_of_lt, zero-lt-suc, suc-add, zero-add, add-one, arith, length-append, length-set, take-append-drop, length-take-le, drop-cons, get_or-set_other, take-suc, get_or-set_same, drop-drop, take_at, drop_at}
use native.Mathlib.Nat.{mod-add-mod, mod-eq-sub-mod}
use native.Mathlib.Decide.{dec_lt}
use lib.Seq.{drop-append-add, set_at, append_snoc, length-sets, sets-eq}
use Rattle.yring.specs.Lists.{tab, written, scatter}

-- ---- a list by its items

pub length_tab : (n : ℕ) (f : ℕ → ℕ) → length (tab n f) ≡ n
length_tab zero f = refl
length_tab (suc n) f = ap suc (length_tab n (λ i. f (suc i)))

pub get_d_tab : (n : ℕ) (f : ℕ → ℕ) (i : ℕ) → i < n → get_or (tab n f) i 0 ≡ f i
get_d_tab zero f i h = absurd (not-suc-le-zero h)
get_d_tab (suc n) f zero h = refl
get_d_tab (suc n) f (suc i) h = get_d_tab n (λ k. f (suc k)) i (le_of_suc-le-suc h)

-- the same items, the same list
pub tab_ext : (n : ℕ) (f g : ℕ → ℕ) → ((i : ℕ) → i < n → f i ≡ g i) → tab n f ≡ tab n g
tab_ext zero f g h = refl
tab_ext (suc n) f g h = ap₂ ◌∷◌ (h zero (zero-lt-suc n)) (tab_ext n (λ i. f (suc i)) (λ i. g (suc i)) (λ i l. h (suc i) (suc-le-suc l)))

-- a list is given by its own items
pub tab_self : (l : List ℕ) → tab (length l) (λ i. get_or l i 0) ≡ l
tab_self [] = refl
tab_self (x ∷ l) = ap (λ (r : List ℕ). x ∷ r) (tab_self l)

-- the last item apart
pub tab_snoc : (n : ℕ) (f : ℕ → ℕ) → tab (suc n) f ≡ tab n f ++ (f n ∷ [])
tab_snoc zero f = refl
tab_snoc (suc n) f = ap (λ (l : List ℕ). f zero ∷ l) (tab_snoc n (λ i. f (suc i)))

pub tab_more : (n : ℕ) (f : ℕ → ℕ) → tab (n + 1) f ≡ tab n f ++ (f n ∷ [])
tab_more n f = ap (λ (k : ℕ). tab k f) (add-one n) ∙ tab_snoc n f

-- the first m items, then n more
pub tab_add : (m n : ℕ) (f : ℕ → ℕ) → tab (m + n) f ≡ tab m f ++ tab n (λ i. f (m + i))
tab_add zero n f = ap (λ (k : ℕ). tab k f) (zero-add n) ∙ tab_ext n f (λ i. f (0 + i)) (λ i l. ap f (sym (zero-add i)))
tab_add (suc m) n f =
    ap (λ (k : ℕ). tab k f) (suc-add m n)
    ∙ ap (λ (l : List ℕ). f zero ∷ l) (tab_add m n (λ i. f (suc i)))
    ∙ ap (λ (l : List ℕ). f zero ∷ (tab m (λ i. f (suc i)) ++ l)) (tab_ext n _ _ (λ i l. ap f (sym (suc-add m i))))

-- the first m items
pub take_tab : (m n : ℕ) (f : ℕ → ℕ) → m ≤ n → take m (tab n f) ≡ tab m f
take_tab m n f h =
    let e : m + (n - m) ≡ n = omega arith in
    (rw e at (ap (λ (l : List ℕ). take m l) (tab_add m (n - m) f))) ∙ take_at (tab m f) (tab (n - m) (λ i. f (m + i))) m (length_tab m f)

-- and those after them
pub drop_tab : (m n : ℕ) (f : ℕ → ℕ) → m ≤ n → drop m (tab n f) ≡ tab (n - m) (λ i. f (m + i))
drop_tab m n f h =
    let e : m + (n - m) ≡ n = omega arith in
    (rw e at (ap (λ (l : List ℕ). drop m l) (tab_add m (n - m) f))) ∙ drop_at (tab m f) (tab (n - m) (λ i. f (m + i))) m (length_tab m f)

-- the first item, and the rest
pub tab_pop : (n : ℕ) (f g : ℕ → ℕ) (x : ℕ) → 0 < n → f 0 ≡ x → ((i : ℕ) → i < n - 1 → f (suc i) ≡ g i) → tab n f ≡ x ∷ tab (n - 1) g
tab_pop zero f g x h e k = absurd (not-suc-le-zero h)
tab_pop (suc n) f g x h e k =
    let m : suc n - 1 ≡ n = omega arith in
    rw m (ap₂ ◌∷◌ e (tab_ext n (λ i. f (suc i)) g (λ i l. k i (omega arith))))

-- ---- words stored at chosen places

pub length_scatter : (ws t : List ℕ) (p : ℕ → ℕ) → length (scatter t p ws) ≡ length t
length_scatter [] t p = refl
length_scatter (w ∷ ws) t p = length_scatter ws (set t (p 0) w) (λ i. p (suc i)) ∙ length-set t (p 0) w

-- a place that is none of the chosen
pub scatter_out : (ws t : List ℕ) (p : ℕ → ℕ) (j : ℕ) → ((i : ℕ) → i < length ws → j ≡ p i → ⊥) → get_or (scatter t p ws) j 0 ≡ get_or t j 0
scatter_out [] t p j h = refl
scatter_out (w ∷ ws) t p j h =
    scatter_out ws (set t (p 0) w) (λ i. p (suc i)) j (λ i l. h (suc i) (suc-le-suc l))
    ∙ get_or-set_other t (p 0) j w 0 (h 0 (zero-lt-suc (length ws)))

-- a chosen place: all in range, and no two the same
pub scatter_in : (ws t : List ℕ) (p : ℕ → ℕ) → ((i : ℕ) → i < length ws → p i < length t) → ((i j : ℕ) → i < j → j < length ws → p i ≡ p j → ⊥)
    → (i : ℕ) → i < length ws → get_or (scatter t p ws) (p i) 0 ≡ get_or ws i 0
scatter_in [] t p r d i h = absurd (not-suc-le-zero h)
scatter_in (w ∷ ws) t p r d zero h =
    scatter_out ws (set t (p 0) w) (λ i. p (suc i)) (p 0) (λ i l. d 0 (suc i) (zero-lt-suc i) (suc-le-suc l))
    ∙ get_or-set_same t (p 0) w 0 (r 0 h)
scatter_in (w ∷ ws) t p r d (suc i) h =
    scatter_in ws (set t (p 0) w) (λ i. p (suc i)) (λ i l. rw (length-set t (p 0) w) (r (suc i) (suc-le-suc l)))
    (λ i j a b. d (suc i) (suc j) (suc-le-suc a) (suc-le-suc b)) i (le_of_suc-le-suc h)

-- one more word at the end
pub scatter_snoc : (ws t : List ℕ) (p : ℕ → ℕ) (w : ℕ) → scatter t p (ws ++ (w ∷ [])) ≡ set (scatter t p ws) (p (length ws)) w
scatter_snoc [] t p w = refl
scatter_snoc (x ∷ ws) t p w = scatter_snoc ws (set t (p 0) x) (λ i. p (suc i)) w

-- the word after the first i
pub scatter_step : (ws t : List ℕ) (p : ℕ → ℕ) (i : ℕ) → i < length ws
    → set (scatter t p (take i ws)) (p i) (get_or ws i 0) ≡ scatter t p (take (i + 1) ws)
scatter_step ws t p i h =
    let n : length (take i ws) ≡ i = length-take-le i ws (omega arith) in
    rw (add-one i, take-suc ws i 0 h) (sym (rw n at (scatter_snoc (take i ws) t p (get_or ws i 0))))

-- the words read back
pub tab_scatter : (ws t : List ℕ) (p : ℕ → ℕ) → ((i : ℕ) → i < length ws → p i < length t) → ((i j : ℕ) → i < j → j < length ws → p i ≡ p j → ⊥)
    → tab (length ws) (λ i. get_or (scatter t p ws) (p i) 0) ≡ ws
tab_scatter ws t p r d =
    tab_ext (length ws) (λ i. get_or (scatter t p ws) (p i) 0) (λ i. get_or ws i 0) (scatter_in ws t p r d) ∙ tab_self ws

-- ---- one store, seen through the items at chosen places

-- outside those places
pub tab_out : (t : List ℕ) (p : ℕ → ℕ) (n j v : ℕ) → ((i : ℕ) → i < n → p i ≡ j → ⊥) → tab n (λ i. get_or (set t j v) (p i) 0) ≡ tab n (λ i. get_or t (p i) 0)
tab_out t p n j v h = tab_ext n _ _ (λ i l. get_or-set_other t j (p i) v 0 (h i l))

-- at the place after the last of them
pub tab_push : (t : List ℕ) (p : ℕ → ℕ) (n v : ℕ) → p n < length t → ((i : ℕ) → i < n → p i ≡ p n → ⊥)
    → tab (n + 1) (λ i. get_or (set t (p n) v) (p i) 0) ≡ tab n (λ i. get_or t (p i) 0) ++ (v ∷ [])
tab_push t p n v r h =
    tab_more n (λ i. get_or (set t (p n) v) (p i) 0) ∙ ap₂ (λ (l : List ℕ) (x : ℕ). l ++ (x ∷ [])) (tab_out t p n (p n) v h) (get_or-set_same t (p n) v 0 r)

-- ---- a run written into a list

pub length_written : (o ws : List ℕ) (a : ℕ) → a + length ws ≤ length o → length (written o a ws) ≡ length o
length_written o ws a h = sym (ap length (sets-eq ws o a h)) ∙ length-sets o a ws

-- nothing written
pub written_none : (o : List ℕ) (a : ℕ) → written o a [] ≡ o
written_none o a = rw (add-zero a, append-nil (take a o)) (take-append-drop a o)

-- one word more
pub written_step : (o ws : List ℕ) (a v : ℕ) → a + length ws < length o
    → set (written o a ws) (a + length ws) v ≡ written o a (ws ++ (v ∷ []))
written_step o ws a v h =
    let n : length (ws ++ (v ∷ [])) ≡ length ws + 1 = length-append ws (v ∷ []) in
    let e : a + (length ws + 1) ≡ suc (a + length ws) = omega arith in
    let l : length (take a o ++ ws) ≡ a + length ws = length-append (take a o) ws ∙ ap (λ (k : ℕ). k + length ws) (length-take-le a o (omega arith)) in
    rw (n, e, drop-cons o (a + length ws) 0 h, set_at (take a o ++ ws) (get_or o (a + length ws) 0) (drop (suc (a + length ws)) o) v (a + length ws) l, ← append_assoc (take a o) ws (v ∷ []))
    (sym (append_snoc (take a o ++ ws) v (drop (suc (a + length ws)) o)))

-- a run written after a run
pub written_twice : (o ws vs : List ℕ) (a : ℕ) → a + length ws ≤ length o
    → written (written o a ws) (a + length ws) vs ≡ written o a (ws ++ vs)
written_twice o ws vs a h =
    let p : List ℕ = take a o ++ ws in
    let m : ℕ = length ws in
    let n : ℕ = length vs in
    let l : length p ≡ a + m = length-append (take a o) ws ∙ ap (λ (k : ℕ). k + m) (length-take-le a o (omega arith)) in
    let q : a + m + n ≡ a + (m + n) = omega arith in
    let x : drop (a + m + n) (p ++ drop (a + m) o) ≡ drop (a + (m + n)) o =
    (rw l at (drop-append-add p (drop (a + m) o) n)) ∙ drop-drop n (a + m) o ∙ ap (λ (k : ℕ). drop k o) q in
    rw (length-append ws vs, take_at p (drop (a + m) o) (a + m) l, x, append_assoc (take a o) ws vs)

-- ---- round a ring of m

-- fewer than m steps lead elsewhere
pub round : (m a d : ℕ) → d < m → (a + d) % m ≡ a % m → d ≡ 0
round m a d h e = go (dec_lt (a % m + d) m)
  where
    f : (a % m + d) % m ≡ a % m
    f = mod-add-mod a m d ∙ e

    go : Dec (a % m + d < m) → d ≡ 0
    go (yes l) = omega (arith, f, mod-eq_of_lt l)
    go (no n) =
        let g : m ≤ a % m + d = omega arith in
        let r : a % m < m = mod-lt a (omega arith) in
        let s : a % m + d - m < m = omega arith in
        omega (arith, f, mod-eq-sub-mod g, mod-eq_of_lt s)

-- two steps fewer than m apart lead to different places
pub apart : (m a i j : ℕ) → i < j → j - i < m → (a + i) % m ≡ (a + j) % m → ⊥
apart m a i j h l e =
    let s : a + j ≡ a + i + (j - i) = omega arith in
    let z : j - i ≡ 0 = round m (a + i) (j - i) l (ap (λ (x : ℕ). x % m) (sym s) ∙ sym e) in
    omega arith
