-- The numbers that are on.
use Prim.Native.Nat.{ℕ, zero, suc, ◌+◌, ◌-◌, ◌<◌, ◌≤◌}
use native.Mathlib.Omega.{arith}
use native.Mathlib.Numerals.{add-one}
use native.Mathlib.Decide.{ℕ_discrete}
use mathlib.Core.Path.{◌≡◌, refl, ap, ◌∙◌}
use mathlib.Core.Bool.{Bool, true, false, cond}
use mathlib.Core.List.{List, [], ◌∷◌}
use borrow.Author.Tests.{eq-eqb, ne_eqb}
use Rattle.algebra.specs.Lists.{Each, end, ◌&◌}
use Rattle.rules.specs.Cut.{without}
use Rattle.vertices.specs.Vertices.{those, lowest_from}
use Rattle.vertices.proofs.Links.{NotIn, Once, here, there}

notin_cond : (i k : ℕ) (l : List ℕ) (t : Bool) → (k ≡ i → ⊥) → NotIn i l → NotIn i (cond t (k ∷ l) l)
notin_cond i k l true h nin = (h, nin)
notin_cond i k l false h nin = nin

once_cond : {i k : ℕ} {l : List ℕ} (t : Bool) → (k ≡ i → ⊥) → Once i l → Once i (cond t (k ∷ l) l)
once_cond true h o = there h o
once_cond false h o = o

without-cond : (i k : ℕ) (l l' : List ℕ) (t : Bool) → (k ≡ i → ⊥) → l' ≡ without i l → cond t (k ∷ l') l' ≡ without i (cond t (k ∷ l) l)
unfolding without
without-cond i k l l' true h e = rw (ne_eqb k i h, e)
without-cond i k l l' false h e = e

notin : (o : ℕ → Bool) (i k m : ℕ) → i < k → NotIn i (those o k m)
unfolding those
notin o i k zero h = tt
notin o i k (suc m) h = notin_cond i k _ (o k) (omega arith) (notin o i (suc k) m (omega arith))

pub once : (o : ℕ → Bool) (i k m : ℕ) → k ≤ i → i < k + m → o i ≡ true → Once i (those o k m)
unfolding those
once o i k zero h l e = absurd (omega arith)
once o i k (suc m) h l e = go (ℕ_discrete k i) (λ q. once o i (suc k) m q (omega arith) e)
  where
    go : Dec (k ≡ i) → (suc k ≤ i → Once i (those o (suc k) m)) → Once i (cond (o k) (k ∷ those o (suc k) m) (those o (suc k) m))
    go (yes q) ih = rw (ap o q ∙ e) (here q (notin o i (suc k) m (omega arith)))
    go (no q) ih = once_cond (o k) q (ih (omega arith))

module _ (o o' : ℕ → Bool) (i : ℕ) (off : o' i ≡ false) (others : (j : ℕ) → (j ≡ i → ⊥) → o' j ≡ o j) where
  those-same : (k m : ℕ) → i < k → those o' k m ≡ those o k m
  unfolding those
  those-same k zero l = refl
  those-same k (suc m) l = rw (others k (omega arith), those-same (suc k) m (omega arith))

  pub those-without : (k m : ℕ) → k ≤ i → i < k + m → o i ≡ true → those o' k m ≡ without i (those o k m)
  unfolding those without
  those-without k zero h l e = absurd (omega arith)
  those-without k (suc m) h l e = go (ℕ_discrete k i) (λ q. those-without (suc k) m q (omega arith) e)
    where
      go :
          Dec (k ≡ i) → (suc k ≤ i → those o' (suc k) m ≡ without i (those o (suc k) m))
          → cond (o' k) (k ∷ those o' (suc k) m) (those o' (suc k) m) ≡ without i (cond (o k) (k ∷ those o (suc k) m) (those o (suc k) m))
      go (yes q) ih = rw (ap o' q ∙ off, ap o q ∙ e, eq-eqb k i q) (those-same (suc k) m (omega arith))
      go (no q) ih = rw (others k q) (without-cond i k _ _ (o k) q (ih (omega arith)))

-- those that are on are on
pub each_on : (o : ℕ → Bool) (k m : ℕ) → Each (λ j. o j ≡ true) (those o k m)
unfolding those
each_on o k zero = end
each_on o k (suc m) = go (o k) refl (each_on o (suc k) m)
  where
    go : (t : Bool) → o k ≡ t → Each (λ j. o j ≡ true) (those o (suc k) m) → Each (λ j. o j ≡ true) (cond t (k ∷ those o (suc k) m) (those o (suc k) m))
    go true e h = e & h
    go false e h = h

-- the lowest that is on is the first of those that are
pub data Lowest (o : ℕ → Bool) (k m : ℕ) : Type 0 where
  none : lowest_from o k m ≡ k + m → those o k m ≡ [] → Lowest o k m
  some : (l : List ℕ) → those o k m ≡ lowest_from o k m ∷ l → lowest_from o k m < k + m → o (lowest_from o k m) ≡ true → Lowest o k m

pub lowest : (o : ℕ → Bool) (k m : ℕ) → Lowest o k m
unfolding those lowest_from
lowest o k zero = none (omega arith) refl
lowest o k (suc m) = go (o k) refl (lowest o (suc k) m)
  where
    go : (t : Bool) → o k ≡ t → Lowest o (suc k) m → Lowest o k (suc m)
    go true e w = some (those o (suc k) m) (rw e) (rw e (omega arith)) (rw e e)
    go false e (none a b) = none (rw e (omega arith)) (rw e b)
    go false e (some l a b d) = some l (rw e a) (rw e (omega arith)) (rw e d)

pub low_more : (o : ℕ → Bool) (i n : ℕ) → i < n → lowest_from o i (n - i) ≡ cond (o i) i (lowest_from o (i + 1) (n - (i + 1)))
unfolding lowest_from
low_more o i n h =
    let e : n - i ≡ suc (n - (i + 1)) = omega arith in
    rw (e, add-one i)

pub low_end : (o : ℕ → Bool) (i n : ℕ) → n ≤ i → lowest_from o i (n - i) ≡ i
unfolding lowest_from
low_end o i n h =
    let e : n - i ≡ 0 = omega arith in
    rw e
