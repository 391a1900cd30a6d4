-- Document 01, "Points and the grid": which floats are on the grid, which whole number each is, and a slice of coordinates as points.
use Rattle.std.specs.Prelude.{ℕ, ◌*◌, ◌/◌, ◌%◌, Bool, true, false, ◌&&◌, List, [], ◌∷◌, eqb, leb, ℤ, pos, neg_ℤ, Float}
use Rattle.std.specs.Float.{nan, inf, fin}
use Rattle.std.specs.Float.Ieee.{up, down}
use Rattle.rules.specs.Limits.{grid_edge}
use Rattle.rules.specs.Plane.{Pt}

-- n, or -n where s is true
abbrev pub signed : Bool → ℕ → ℤ
signed false n = pos n
signed true n = neg_ℤ (pos n)

-- a finite float's whole part, toward zero. Of a grid value it is the number itself, and 0 for both zeros
abbrev pub whole_of : Float → ℤ
whole_of nan = pos 0
whole_of (inf s) = pos 0
whole_of (fin s m e) = signed s (m * up e / down e)

-- a whole number from -1024 to 1024; minus zero is read as zero
abbrev pub on_grid : Float → Bool
on_grid nan = false
on_grid (inf s) = false
on_grid (fin s m e) = eqb (m * up e % down e) 0 && leb (m * up e / down e) grid_edge

-- the point that two coordinates are
abbrev pub point_of : Float → Float → Pt
point_of x y = record { x = whole_of x; y = whole_of y }

-- coordinates arrive as x and y in turn
unfoldable pub points_of : List Float → List Pt
points_of [] = []
points_of (x ∷ []) = []
points_of (x ∷ y ∷ rest) = point_of x y ∷ points_of rest
