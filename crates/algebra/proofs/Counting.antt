-- Laws of counting: n numbers from i on are n, within their bounds, and nothing stands twice; their first m are m numbers from i on.
use Prim.Native.Nat.{ℕ, zero, suc, ◌+◌, ◌≤◌, ◌<◌}
use mathlib.Core.Path.{◌≡◌, refl, sym, ap, ◌∙◌}
use mathlib.Core.Logic.{◌≢◌}
use mathlib.Core.List.{List, [], ◌∷◌, ◌++◌}
use native.Mathlib.Nat.{add-zero}
use native.Mathlib.Omega.{arith}
use lib.ListN.{length, take}
use Rattle.algebra.specs.Lists.{Each, end, ◌&◌, Distinct, empty, new, count_from}
use Rattle.algebra.proofs.Lists.{each_imp}

pub count-within : (i n : ℕ) → Each (λ j. (i ≤ j) × (j < i + n)) (count_from i n)
count-within i zero = end
count-within i (suc n) = here & each_imp later (count-within (suc i) n)
  where
    here : (i ≤ i) × (i < i + suc n)
    here = omega arith

    later : (j : ℕ) → (suc i ≤ j) × (j < suc i + n) → (i ≤ j) × (j < i + suc n)
    later j h = omega arith

pub count_below : (n : ℕ) → Each (λ i. i < n) (count_from 0 n)
count_below n = each_imp below (count-within 0 n)
  where
    below : (j : ℕ) → (0 ≤ j) × (j < 0 + n) → j < n
    below j h = omega arith

pub count-distinct : (i n : ℕ) → Distinct (count_from i n)
count-distinct i zero = empty
count-distinct i (suc n) = new (each_imp behind (count-within (suc i) n)) (count-distinct (suc i) n)
  where
    behind : (j : ℕ) → (suc i ≤ j) × (j < suc i + n) → i ≢ j
    behind j h = omega arith

pub count-length : (i n : ℕ) → length (count_from i n) ≡ n
count-length i zero = refl
count-length i (suc n) = ap suc (count-length (suc i) n)

-- the first numbers, and one number more
pub count-take : (i m n : ℕ) → m ≤ n → take m (count_from i n) ≡ count_from i m
count-take i zero n h = refl
count-take i (suc m) zero h = absurd (omega arith)
count-take i (suc m) (suc n) h = ap (λ (l : List ℕ). i ∷ l) (count-take (suc i) m n (omega arith))

pub count_more : (i n : ℕ) → count_from i (suc n) ≡ count_from i n ++ ((i + n) ∷ [])
count_more i zero = ap (λ (k : ℕ). k ∷ []) (sym (add-zero i))
count_more i (suc n) = ap (λ (l : List ℕ). i ∷ l) (count_more (suc i) n ∙ ap (λ (k : ℕ). count_from (suc i) n ++ (k ∷ [])) (omega arith))
