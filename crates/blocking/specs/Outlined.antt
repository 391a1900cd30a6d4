-- An outline's points one after the other and in strips.
use Rattle.std.specs.Prelude.{ℕ, ◌≤◌, ◌<◌, ◌≡◌, cond, List, map, ltb, length}
use Rattle.rules.specs.Limits.{most_points}
use Rattle.rules.specs.Plane.{Pt, point}
use Rattle.grid.specs.declared.point.Point.{Point}
use Rattle.grid.specs.Points.{pt_of}
use Rattle.blocking.specs.Strips.{Stripped}
use Rattle.blocking.specs.declared.places.Places.{Places}

-- which point stands at place k, if n are written: from n on, point 0
abbrev pub source : ℕ → ℕ → ℕ
source n k = cond (ltb k n) k 0

-- the first n of the points ps stand one after the other
pub record Flat (ps : List Pt) (n : ℕ) (points : List Point) : Type 0 where
  pub long : length points ≡ most_points
  pub at : (k : ℕ) → k < most_points → point (map pt_of points) k ≡ point ps (source n k)

-- there is room for the points
pub record Room (places : Places) : Type 0 where
  pub long : length places.points ≡ most_points
  pub strips : length places.strips.masks ≡ 65

-- the points ps stand there
pub record Outlined (ps : List Pt) (places : Places) : Type 0 where
  pub some : 0 < length ps
  pub small : length ps ≤ most_points
  pub flat : Flat ps (length ps) places.points
  pub stripped : Stripped ps places.strips.masks
