-- Who wins among corners, by the rules' choice: a corner's number stands for it.
use Rattle.std.specs.Prelude.{ℕ, suc, ◌≡◌, false, List, [], ◌∷◌, Float}
use Rattle.std.specs.Float.Ieee.{is_nan}
use Rattle.algebra.specs.Rings.{Corner}
use Rattle.rules.specs.Ear.{Ear, pointed}
use Rattle.rules.specs.Cut.{Choice, nothing, best, better}

-- what two parts of the corners give together
unfoldable pub later : Choice ℕ → Choice ℕ → Choice ℕ
unfolding better
later b nothing = b
later b (best i f) = better b i (pointed f)

-- corner i alone, by its ear
abbrev pub leaf : ℕ → Ear → Choice ℕ
leaf i e = better nothing i e

-- a winner's pointiness is no NaN
pub data Number : Choice ℕ → Type 0 where
  no_one : Number nothing
  number : {i : ℕ} {f : Float} → is_nan f ≡ false → Number (best i f)

-- by the corner at each number
abbrev pub choice_of : (ℕ → Corner ℕ) → Choice ℕ → Choice (Corner ℕ)
choice_of corner nothing = nothing
choice_of corner (best i f) = best (corner i) f

-- `ring` is the n numbers from k on, but for some at which t has nobody
pub data Kept (t : ℕ → Choice ℕ) : ℕ → ℕ → List ℕ → Type 0 where
  end : {k : ℕ} → Kept t k 0 []
  kept : {k n : ℕ} {ring : List ℕ} → Kept t (suc k) n ring → Kept t k (suc n) (k ∷ ring)
  left_out : {k n : ℕ} {ring : List ℕ} → t k ≡ nothing → Kept t (suc k) n ring → Kept t k (suc n) ring
