-- What a text starts with: a digit, or a number up to where its digits end. A number's size is told up to 1025, the first off the grid.
use Rattle.std.specs.Prelude.{ℕ, ◌+◌, ◌<◌, min, ◌≡◌, List, ◌∷◌, ◌++◌, ℤ, Float}
use Rattle.rules.specs.Limits.{grid_edge}
use Rattle.rules.specs.Text.{digit, natural, decimal, Ends}
use Rattle.rules.specs.Lines.{coordinate}

-- the text is the digit d, and then the rest
pub record DigitRead (text : List ℕ) (d : ℕ) (rest : List ℕ) : Type 0 where
  pub small : d < 10
  pub is : text ≡ digit d ∷ rest

pub record NaturalRead (text : List ℕ) (value : ℕ) (rest : List ℕ) : Type 0 where
  pub n : ℕ
  pub is : text ≡ natural n ++ rest
  pub ends : Ends rest
  pub worth : value ≡ min n (grid_edge + 1)

unfoldable pub NoNatural : List ℕ → Type 0
NoNatural text = (n : ℕ) (rest : List ℕ) → text ≡ natural n ++ rest → Ends rest → ⊥

pub record NumberRead (text : List ℕ) (value : Float) (rest : List ℕ) : Type 0 where
  pub z : ℤ
  pub is : text ≡ decimal z ++ rest
  pub ends : Ends rest
  pub worth : value ≡ coordinate z

unfoldable pub NoNumber : List ℕ → Type 0
NoNumber text = (z : ℤ) (rest : List ℕ) → text ≡ decimal z ++ rest → Ends rest → ⊥
