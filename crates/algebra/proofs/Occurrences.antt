-- How often a number stands in a list. Numbers below n of which none stands twice are at most n.
use Prim.Native.Nat.{ℕ, zero, suc, ◌+◌, ◌≤◌, ◌<◌}
use mathlib.Core.Path.{◌≡◌, refl, sym, ◌∙◌, ap, subst}
use mathlib.Core.Logic.{◌≢◌}
use mathlib.Core.Bool.{Bool, true, false, cond, not, ◌&&◌}
use mathlib.Core.List.{List, [], ◌∷◌, ◌++◌}
use native.Mathlib.Omega.{arith}
use lib.Dec.{eqb}
use lib.ListN.{length}
use Rattle.algebra.specs.Lists.{Each, end, ◌&◌, Distinct, empty, new, keep, count_from}
use Rattle.algebra.proofs.Lists.{each_imp, each_keep, keep-length}
use Rattle.algebra.proofs.Equal.{impossible, eqb_same, eqb-other, eqb-true, not-true}

-- 1 where i is j
abbrev pub one : ℕ → ℕ → ℕ
one i j = cond (eqb i j) 1 0

-- how often i stands in l
abbrev pub times : ℕ → List ℕ → ℕ
times i [] = 0
times i (j ∷ l) = one i j + times i l

one_same : (i : ℕ) → one i i ≡ 1
one_same i = rw (eqb_same i)

pub one_other : (i j : ℕ) → i ≢ j → one i j ≡ 0
one_other i j d = rw (eqb-other i j d)

pub times-keep : (t : ℕ → Bool) (i : ℕ) (l : List ℕ) → times i (keep t l) ≡ cond (t i) (times i l) 0
times-keep t i [] = go (t i)
  where
    go : (b : Bool) → ◌≡◌ {A = ℕ} 0 (cond b 0 0)
    go true = refl
    go false = refl
times-keep t i (j ∷ l) = go (t j) refl (eqb i j) refl (times-keep t i l)
  where
    go :
        (b : Bool) → t j ≡ b → (c : Bool) → eqb i j ≡ c → times i (keep t l) ≡ cond (t i) (times i l) 0
        → times i (cond b (j ∷ keep t l) (keep t l)) ≡ cond (t i) (cond c 1 0 + times i l) 0
    go true e true f h = let g : t i ≡ true = ap t (eqb-true i j f) ∙ e in rw (f, g) (ap suc_of (h ∙ rw g))
      where
        suc_of : ℕ → ℕ
        suc_of n = 1 + n
    go true e false f h = rw f (skip (times i l) (times i (keep t l)) (t i) h)
      where
        skip : (m n : ℕ) (b : Bool) → n ≡ cond b m 0 → 0 + n ≡ cond b (0 + m) 0
        skip m n true h = omega arith
        skip m n false h = omega arith
    go false e true f h = let g : t i ≡ false = ap t (eqb-true i j f) ∙ e in rw g (h ∙ rw g)
    go false e false f h = skip (times i l) (times i (keep t l)) (t i) h
      where
        skip : (m n : ℕ) (b : Bool) → n ≡ cond b m 0 → n ≡ cond b (0 + m) 0
        skip m n true h = omega arith
        skip m n false h = h

-- what holds of each element holds of one that stands in the list
pub each-times : {P : ℕ → Type 0} (i : ℕ) {l : List ℕ} → Each P l → 1 ≤ times i l → P i
each-times i end h = absurd (omega arith)
each-times {P} i (◌&◌ {a = j} {l = l} p ps) h = go (eqb i j) refl (λ k. each-times i ps k) h
  where
    go : (b : Bool) → eqb i j ≡ b → (1 ≤ times i l → P i) → 1 ≤ cond b 1 0 + times i l → P i
    go true e r h = subst P (sym (eqb-true i j e)) p
    go false e r h = r (omega arith)

-- `keep` makes a list shorter where it drops something
pub keep_shorter : (t : ℕ → Bool) (i : ℕ) (l : List ℕ) → t i ≡ false → 1 ≤ times i l → length (keep t l) < length l
keep_shorter t i [] f h = absurd (omega arith)
keep_shorter t i (j ∷ l) f h = go (eqb i j) refl (t j) refl (keep_shorter t i l f) h
  where
    go :
        (c : Bool) → eqb i j ≡ c → (b : Bool) → t j ≡ b → (1 ≤ times i l → length (keep t l) < length l) → 1 ≤ cond c 1 0 + times i l
        → length (cond b (j ∷ keep t l) (keep t l)) < suc (length l)
    go true e true g r h = let q : t i ≡ true = ap t (eqb-true i j e) ∙ g in impossible (cc)
    go true e false g r h = omega (arith, keep-length t l)
    go false e true g r h = let k : 1 ≤ times i l = omega arith in omega (arith, r k)
    go false e false g r h = let k : 1 ≤ times i l = omega arith in omega (arith, r k)

-- a list split in two and one element w, which goes to neither part, take no more than there was
pub shared : (i w c : ℕ) (s t : Bool) → (i ≡ w → (s ≡ false) × (t ≡ false) × (1 ≤ c)) → one i w + (cond s c 0 + cond (not s && t) c 0) ≤ c
shared i w c s t h = go (eqb i w) refl
  where
    part : (s t : Bool) → cond s c 0 + cond (not s && t) c 0 ≤ c
    part true t = omega arith
    part false true = omega arith
    part false false = omega arith

    go : (b : Bool) → eqb i w ≡ b → cond b 1 0 + (cond s c 0 + cond (not s && t) c 0) ≤ c
    go true e = let (p, q, r) = h (eqb-true i w e) in rw (p, q) (omega arith)
    go false e = omega (arith, part s t)

-- a list in which nothing stands twice
pub times_none : (i : ℕ) (l : List ℕ) → times i l ≡ 0 → Each (λ b. i ≢ b) l
times_none i [] e = end
times_none i (j ∷ l) e = apart & times_none i l (omega arith)
  where
    apart : i ≢ j
    apart q = let h : one i j ≡ 1 = rw q (one_same j) in omega arith

times_zero : (i : ℕ) {l : List ℕ} → Each (λ b. i ≢ b) l → times i l ≡ 0
times_zero i end = refl
times_zero i (◌&◌ {a = j} {l = l} n ns) = omega (arith, one_other i j n, times_zero i ns)

pub times-distinct : (l : List ℕ) → ((i : ℕ) → times i l ≤ 1) → Distinct l
times-distinct [] h = empty
times-distinct (j ∷ l) h = new (times_none j l first) (times-distinct l rest)
  where
    first : times j l ≡ 0
    first = omega (arith, h j, one_same j)

    rest : (i : ℕ) → times i l ≤ 1
    rest i = omega (arith, h i)

-- the numbers from i on: each once
times_below : (j i n : ℕ) → j < i → times j (count_from i n) ≡ 0
times_below j i zero h = refl
times_below j i (suc n) h = omega (arith, one_other j i (λ e. omega arith), times_below j (suc i) n (omega arith))

pub times-count : (j i n : ℕ) → times j (count_from i n) ≤ 1
times-count j i zero = omega arith
times-count j i (suc n) = go (eqb j i) refl (times-count j (suc i) n)
  where
    go : (b : Bool) → eqb j i ≡ b → times j (count_from (suc i) n) ≤ 1 → cond b 1 0 + times j (count_from (suc i) n) ≤ 1
    go true e r = let q : j ≡ i = eqb-true j i e in let l : j < suc i = omega arith in omega (arith, times_below j (suc i) n l)
    go false e r = omega arith

pub times_in : (j i n : ℕ) → i ≤ j → j < i + n → 1 ≤ times j (count_from i n)
times_in j i zero h k = absurd (omega arith)
times_in j i (suc n) h k = go (eqb j i) refl (times_in j (suc i) n)
  where
    go : (b : Bool) → eqb j i ≡ b → (suc i ≤ j → j < suc i + n → 1 ≤ times j (count_from (suc i) n)) → 1 ≤ cond b 1 0 + times j (count_from (suc i) n)
    go true e r = omega arith
    go false e r =
        let d : j ≢ i = (λ q. let y : eqb j i ≡ true = rw q (eqb_same i) in impossible (cc)) in
        let l : suc i ≤ j = omega arith in
        let m : j < suc i + n = omega arith in
        omega (arith, r l m)

pub times_++ : (i : ℕ) (l m : List ℕ) → times i (l ++ m) ≡ times i l + times i m
times_++ i [] m = omega arith
times_++ i (j ∷ l) m = omega (arith, times_++ i l m)

-- ---- numbers below n, none twice, are at most n

distinct-times : {l : List ℕ} → Distinct l → (i : ℕ) → times i l ≤ 1
distinct-times empty i = omega arith
distinct-times (new {a} {l} h d) i = go (eqb i a) refl (distinct-times d i)
  where
    go : (t : Bool) → eqb i a ≡ t → times i l ≤ 1 → cond t 1 0 + times i l ≤ 1
    go true e r = let q : times i l ≡ 0 = rw (eqb-true i a e) (times_zero a h) in omega arith
    go false e r = omega arith

-- the elements other than n
abbrev others : ℕ → List ℕ → List ℕ
others n l = keep (λ i. not (eqb n i)) l

others-length : (n : ℕ) (l : List ℕ) → length l ≡ length (others n l) + times n l
others-length n [] = omega arith
others-length n (i ∷ l) = go (eqb n i) (others-length n l)
  where
    go : (t : Bool) → length l ≡ length (others n l) + times n l → suc (length l) ≡ length (cond (not t) (i ∷ others n l) (others n l)) + (cond t 1 0 + times n l)
    go true e = omega arith
    go false e = omega arith

others-times : (n i : ℕ) (l : List ℕ) → times i (others n l) ≤ times i l
others-times n i l = go (not (eqb n i)) (times-keep (λ i. not (eqb n i)) i l)
  where
    go : (t : Bool) → times i (others n l) ≡ cond t (times i l) 0 → times i (others n l) ≤ times i l
    go true e = omega arith
    go false e = omega arith

others_below : (n : ℕ) {l : List ℕ} → Each (λ i. i < suc n) l → Each (λ i. i < n) (others n l)
others_below n h = each_imp below (each_keep (λ i. not (eqb n i)) h)
  where
    below : (i : ℕ) → (i < suc n) × (not (eqb n i) ≡ true) → i < n
    below i (l, e) = let d : n ≢ i = (λ q. let y : eqb n i ≡ true = rw q (eqb_same i) in let z : eqb n i ≡ false = not-true (eqb n i) e in impossible (cc)) in omega arith

pub at_most : (n : ℕ) (l : List ℕ) → ((i : ℕ) → times i l ≤ 1) → Each (λ i. i < n) l → length l ≤ n
at_most zero [] h ps = omega arith
at_most zero (i ∷ l) h (p & ps) = absurd (omega arith)
at_most (suc n) l h ps = omega (arith, others-length n l, h n, at_most n (others n l) (λ i. omega (arith, others-times n i l, h i)) (others_below n ps))

pub distinct-length : (n : ℕ) {l : List ℕ} → Distinct l → Each (λ i. i < n) l → length l ≤ n
distinct-length n {l} d h = at_most n l (distinct-times d) h
