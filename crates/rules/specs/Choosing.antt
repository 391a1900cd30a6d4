-- Document 01, "The cutter's steps": "take the ear of greatest pointiness, of equals the highest index", as a sentence on the corners of a ring.
use Rattle.std.specs.Prelude.{ℕ, ◌≤◌, ◌≡◌, true, Float}
use mathlib.Core.List.{List, Memᴰ}
use Rattle.std.specs.Float.Ieee.{le}
use Rattle.algebra.specs.Lists.{Each}
use Rattle.algebra.specs.Rings.{Corner}
use Rattle.rules.specs.Plane.{Pt}
use Rattle.rules.specs.Ear.{pointed, ear}

-- P holds of each ear among the corners and its pointiness
abbrev pub EachEar : List Pt → List (Corner ℕ) → (Corner ℕ → Float → Type 0) → Type 0
EachEar ps cs P = Each (λ d. (g : Float) → ear ps d ≡ pointed g → P d g) cs

-- c is one of the corners and an ear, and f is its pointiness; no ear's pointiness is greater, and of those where it is equal, none has a higher index
pub record Pointiest (ps : List Pt) (cs : List (Corner ℕ)) (c : Corner ℕ) (f : Float) : Type 0 where
  pub among : Memᴰ c cs
  pub is_ear : ear ps c ≡ pointed f
  pub greatest : EachEar ps cs (λ d g. le g f ≡ true)
  pub highest : EachEar ps cs (λ d g. le f g ≡ true → d.at ≤ c.at)
