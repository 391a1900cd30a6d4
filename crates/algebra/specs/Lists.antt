-- Lists: what holds of each element, lists in which nothing stands twice, searches, counting, and the sum of numbers.
use Rattle.std.specs.Prelude.{ℕ, zero, suc, ◌+◌, Bool, false, cond, ◌||◌, ◌≢◌, List, [], ◌∷◌}
use Rattle.std.proofs.Math.Option.{Option, none, some}

infixr 50 ◌&◌
pub data Each {A : Type 0} (P : A → Type 0) : List A → Type 0 where
  end : Each P []
  ◌&◌ : {a : A} {l : List A} → P a → Each P l → Each P (a ∷ l)

pub data Distinct {A : Type 0} : List A → Type 0 where
  empty : Distinct []
  new : {a : A} {l : List A} → Each (λ b. a ≢ b) l → Distinct l → Distinct (a ∷ l)

-- some element passes the test
abbrev pub any : {A : Type 0} → (A → Bool) → List A → Bool
any f [] = false
any f (a ∷ l) = f a || any f l

-- the elements that pass the test
abbrev pub keep : {A : Type 0} → (A → Bool) → List A → List A
keep f [] = []
keep f (a ∷ l) = cond (f a) (a ∷ keep f l) (keep f l)

-- the list with element i changed
abbrev pub change : {A : Type 0} → (A → A) → ℕ → List A → List A
change c i [] = []
change c zero (a ∷ l) = c a ∷ l
change c (suc i) (a ∷ l) = a ∷ change c i l

abbrev pub or_else : {A : Type 0} → Option A → Option A → Option A
or_else (some a) m = some a
or_else none m = m

-- the first answer of f along a list
unfoldable pub first : {A B : Type 0} → (A → Option B) → List A → Option B
first f [] = none
first f (a ∷ rest) = or_else (f a) (first f rest)

-- n numbers from i on
abbrev pub count_from : ℕ → ℕ → List ℕ
count_from i zero = []
count_from i (suc n) = i ∷ count_from (suc i) n

unfoldable pub sum : List ℕ → ℕ
sum [] = 0
sum (n ∷ ns) = n + sum ns
