-- A point is on the grid.
use mathlib.Core.Path.{◌≡◌, refl}
use mathlib.Core.Bool.{true}
use Rattle.grid.specs.declared.point.Point.{Point}
use Rattle.grid.specs.Points.{on_grid_pt}

pub is_on : (p : Point) → on_grid_pt p ≡ true
unfolding on_grid_pt
is_on p = rw (p.x_on_grid, p.y_on_grid) refl
