-- Coordinates on the grid as the points that they are.
use Rattle.std.specs.Prelude.{List}
use Rattle.rules.specs.Plane.{Pt}
use Rattle.rules.specs.Grid.{points_of}
use Rattle.grid.specs.declared.points.Points.{Points}

abbrev pub listed : Points → List Pt
listed points = points_of points.coords.now
