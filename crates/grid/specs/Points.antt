-- Points and orientations of the code, as the rules' points and turns, and what is asked of coordinates and corner numbers.
use Rattle.std.specs.Prelude.{ℕ, zero, suc, ◌<◌, ◌≡◌, Bool, true, false, ◌&&◌, List, ℤ, pos, negsuc, length, Float}
use Rattle.algebra.specs.Lists.{Each}
use Rattle.rules.specs.Plane.{Pt}
use Rattle.rules.specs.Grid.{on_grid, point_of, points_of}
use Rattle.rules.specs.Refusals.{off_grid}
use Rattle.grid.specs.declared.point.Point.{Point}
use Rattle.grid.specs.declared.point_in_triangle.Orientation.{Orientation}
use Rattle.grid.specs.declared.point_in_triangle.Orientation.TheVariants.{Ccw, Cw, None}

unfoldable pub on_grid_pt : Point → Bool
on_grid_pt p = on_grid p.x && on_grid p.y

abbrev pub pt_of : Point → Pt
pt_of p = point_of p.x p.y

-- by the sign of a turn: plus is left, minus is right, zero is straight
abbrev pub orientation : ℤ → Orientation
orientation (pos zero) = None
orientation (pos (suc n)) = Ccw
orientation (negsuc n) = Cw

abbrev pub is_ccw : Orientation → Bool
is_ccw Ccw = true
is_ccw Cw = false
is_ccw None = false

abbrev pub is_cw : Orientation → Bool
is_cw Ccw = false
is_cw Cw = true
is_cw None = false
