-- Laws of a list of refusals: what the number that it gives says of its rows, and back.
use Prim.Native.Nat.{ℕ, suc}
use mathlib.Core.Path.{◌≡◌, refl, sym, ◌∙◌, ap}
use mathlib.Core.Logic.{◌⊎◌, inl, inr, ◌≢◌}
use mathlib.Core.Bool.{Bool, true, false, ◌||◌}
use mathlib.Core.List.Memᴰ
use mathlib.Core.List.{List, [], ◌∷◌, ◌++◌, map, append-nil, Memᴰ}
use native.Mathlib.Omega.{arith}
use lib.Dec.{eqb}
use Rattle.algebra.proofs.Equal.{impossible, eqb_same, or-false}
use Rattle.rules.specs.Refusals.{Row, ◌gives◌, first_refusal}

-- a row that applies gives its number, and one that does not is passed
pub row_on : {t : Bool} (n : ℕ) (rows : List Row) → t ≡ true → first_refusal (t gives n ∷ rows) ≡ n
unfolding first_refusal
row_on n rows e = rw e

pub row_off : {t : Bool} (n : ℕ) (rows : List Row) → t ≡ false → first_refusal (t gives n ∷ rows) ≡ first_refusal rows
unfolding first_refusal
row_off n rows e = rw e

pub no_rows : first_refusal [] ≡ 0
unfolding first_refusal
no_rows = refl

-- a list that gives m passes the rows that give another number
skips : {m : ℕ} (t : Bool) (n : ℕ) (rows : List Row) → n ≢ m → first_refusal (t gives n ∷ rows) ≡ m → (t ≡ false) × (first_refusal rows ≡ m)
unfolding first_refusal
skips true n rows d h = absurd (d h)
skips false n rows d h = (refl, h)

-- a list that gives none passes all
pub passes : (t : Bool) (n : ℕ) (rows : List Row) → first_refusal (t gives suc n ∷ rows) ≡ 0 → (t ≡ false) × (first_refusal rows ≡ 0)
passes t n rows h = skips t (suc n) rows (omega arith) h

abbrev pub number_of : Row → ℕ
number_of (t gives n) = n

-- what a list gives is the number of a row, or 0
pub given_number : (rows : List Row) → Memᴰ (first_refusal rows) (0 ∷ map number_of rows)
unfolding first_refusal
given_number [] = Memᴰ.head refl
given_number (true gives k ∷ rows) = Memᴰ.tail (Memᴰ.head refl)
given_number (false gives k ∷ rows) = go (Memᴰ.cases_cons (given_number rows))
  where
    go : (first_refusal rows ≡ 0) ⊎ Memᴰ (first_refusal rows) (map number_of rows) → Memᴰ (first_refusal rows) (0 ∷ k ∷ map number_of rows)
    go (inl e) = Memᴰ.head e
    go (inr m) = Memᴰ.tail (Memᴰ.tail m)

-- ---- rows in front of others

-- some row has the number n
abbrev pub has : ℕ → List Row → Bool
has n [] = false
has n (t gives k ∷ rows) = eqb k n || has n rows

-- `rows` are the first of `all`, and `more` the others; none of the first has the number 0
pub record Front (rows more all : List Row) : Type 0 where
  pub whole : all ≡ rows ++ more
  pub numbered : has 0 rows ≡ false

first_gives : (rows more : List Row) (n : ℕ) → n ≡ first_refusal rows → n ≢ 0 → n ≡ first_refusal (rows ++ more)
unfolding first_refusal
first_gives [] more n e h = absurd (h e)
first_gives (true gives k ∷ rows) more n e h = e
first_gives (false gives k ∷ rows) more n e h = first_gives rows more n e h

first_none : (rows more : List Row) → first_refusal (rows ++ more) ≡ 0 → first_refusal rows ≡ 0
unfolding first_refusal
first_none [] more e = refl
first_none (true gives k ∷ rows) more e = e
first_none (false gives k ∷ rows) more e = first_none rows more e

first_skips : (n : ℕ) (rows more : List Row) → has n rows ≡ false → first_refusal (rows ++ more) ≡ n → first_refusal rows ≡ 0
unfolding first_refusal
first_skips n [] more h e = refl
first_skips n (true gives k ∷ rows) more h e = impossible (cc (eqb_same n, (or-false (eqb k n) (has n rows) h).0))
first_skips n (false gives k ∷ rows) more h e = first_skips n rows more (or-false (eqb k n) (has n rows) h).1 e

-- a row whose number is given, and which no later row has, applies
pub applies : (t : Bool) (n : ℕ) (rows : List Row) → has (suc n) rows ≡ false → first_refusal (t gives suc n ∷ rows) ≡ suc n → t ≡ true
unfolding first_refusal
applies true n rows h e = refl
applies false n rows h e = absurd (omega (arith, first_skips (suc n) rows [] h (ap first_refusal (append-nil rows) ∙ e)))

first_off : (rows more : List Row) → has 0 rows ≡ false → first_refusal rows ≡ 0 → first_refusal (rows ++ more) ≡ first_refusal more
unfolding first_refusal
first_off [] more h e = refl
first_off (true gives k ∷ rows) more h e = impossible (cc (eqb_same 0, (or-false (eqb k 0) (has 0 rows) h).0))
first_off (false gives k ∷ rows) more h e = first_off rows more (or-false (eqb k 0) (has 0 rows) h).1 e

module _ {rows more all : List Row} (f : Front rows more all) where
  -- what the first rows give, all of them give
  pub front_gives : {n : ℕ} → n ≡ first_refusal rows → n ≢ 0 → n ≡ first_refusal all
  front_gives {n} e d = first_gives rows more n e d ∙ ap first_refusal (sym f.whole)

  -- where all of them give none, the first do
  pub front_none : first_refusal all ≡ 0 → first_refusal rows ≡ 0
  front_none e = first_none rows more (ap first_refusal (sym f.whole) ∙ e)

  -- and so they do where all of them give a number that no first row has
  pub front_skips : (n : ℕ) → has n rows ≡ false → first_refusal all ≡ n → first_refusal rows ≡ 0
  front_skips n h e = first_skips n rows more h (ap first_refusal (sym f.whole) ∙ e)

  -- where the first give none, the others decide
  pub others_decide : first_refusal rows ≡ 0 → first_refusal all ≡ first_refusal more
  others_decide e = ap first_refusal f.whole ∙ first_off rows more f.numbered e
