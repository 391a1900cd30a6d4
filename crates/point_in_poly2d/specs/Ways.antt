-- The way from a spot to a point.
use Rattle.std.specs.Prelude.{◌≡◌}
use Rattle.std.specs.Float.{binary32}
use Rattle.std.specs.Float.Ieee.{sub}
use Rattle.rules.specs.Plane.{Pt}
use Rattle.grid.specs.declared.point.Point.{Point}
use Rattle.grid.specs.declared.vector.Vector.{Vector}
use Rattle.grid.specs.Points.{pt_of}

-- d is the way from p to q as floats subtract
pub record Way (p : Point) (q : Pt) (d : Vector) : Type 0 where
  pub end : Point
  pub end_is : pt_of end ≡ q
  pub x_is : d.x ≡ sub binary32 end.x p.x
  pub y_is : d.y ≡ sub binary32 end.y p.y
