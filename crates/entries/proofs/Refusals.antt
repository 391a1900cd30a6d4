-- A refusal has its own number, so what is reported tells what came of a call.
use mathlib.Core.Path.{◌≡◌, refl, sym, ap, ◌∙◌}
use Prim.Native.Nat.{ℕ}
use native.Mathlib.Omega.{arith}
use mathlib.Core.List.{[], ◌∷◌}
use lib.ListN.{get_or}
use Rattle.std.specs.Prelude.{Result, Ok, Err}
use Rattle.entries.specs.declared.Answer.{Answer}
use Rattle.entries.specs.declared.Refusal.{Refusal}
use Rattle.entries.specs.declared.Refusal.TheVariants.{OddCoordinates, TooFewPoints, TooManyPoints, OffGrid, EqualNeighbours, TooLittleRoom, NoEar, NotTriples, NoSuchPoint, TooManyTriangles, NotInForm, OnOneLine, AreaNotAboveZero}
use Rattle.entries.specs.Refusals.{number_of, answer_of}

-- the refusal of a number
abbrev refusal_of : ℕ → Refusal
refusal_of number =
    get_or
    (AreaNotAboveZero ∷ OddCoordinates ∷ TooFewPoints ∷ TooManyPoints ∷ OffGrid ∷ EqualNeighbours ∷ TooLittleRoom ∷ NoEar ∷ NotTriples ∷ NoSuchPoint ∷ TooManyTriangles ∷ NotInForm ∷ OnOneLine ∷ AreaNotAboveZero ∷ [])
    number AreaNotAboveZero

back : (r : Refusal) → refusal_of (number_of r) ≡ r
back OddCoordinates = refl
back TooFewPoints = refl
back TooManyPoints = refl
back OffGrid = refl
back EqualNeighbours = refl
back TooLittleRoom = refl
back NoEar = refl
back NotTriples = refl
back NoSuchPoint = refl
back TooManyTriangles = refl
back NotInForm = refl
back OnOneLine = refl
back AreaNotAboveZero = refl

pub number_one : (r s : Refusal) → number_of r ≡ number_of s → r ≡ s
number_one r s e = sym (back r) ∙ ap refusal_of e ∙ back s

-- no refusal has the number 0
pub number_above : (r : Refusal) → number_of r ≡ 0 → ⊥
number_above OddCoordinates e = omega (arith, e)
number_above TooFewPoints e = omega (arith, e)
number_above TooManyPoints e = omega (arith, e)
number_above OffGrid e = omega (arith, e)
number_above EqualNeighbours e = omega (arith, e)
number_above TooLittleRoom e = omega (arith, e)
number_above NoEar e = omega (arith, e)
number_above NotTriples e = omega (arith, e)
number_above NoSuchPoint e = omega (arith, e)
number_above TooManyTriangles e = omega (arith, e)
number_above NotInForm e = omega (arith, e)
number_above OnOneLine e = omega (arith, e)
number_above AreaNotAboveZero e = omega (arith, e)

-- what is reported tells what came of a call
pub result_one : (r s : Result ℕ Refusal) → answer_of r ≡ answer_of s → r ≡ s
result_one (Ok a) (Ok b) e = ap (λ (x : Answer). Ok x.count) e
result_one (Ok a) (Err s) e = absurd (number_above s (sym (ap (λ (x : Answer). x.number) e)))
result_one (Err r) (Ok b) e = absurd (number_above r (ap (λ (x : Answer). x.number) e))
result_one (Err r) (Err s) e = ap Err (number_one r s (ap (λ (x : Answer). x.number) e))
