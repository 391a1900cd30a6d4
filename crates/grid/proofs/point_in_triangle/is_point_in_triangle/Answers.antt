-- `is_point_in_triangle` meets its contract: its two flags are those of `in_triangle_lem`.
use mathlib.Core.Path.{◌≡◌}
use mathlib.Core.Bool.{Bool, ◌||◌, and_comm}
use Rattle.grid.specs.Points.{pt_of}
use Rattle.grid.proofs.Triangle.{in_triangle_lem}
use Rattle.grid.proofs.point_in_triangle.is_point_in_triangle.Goals as goal

flags : {a b d a' b' d' : Bool} → a ≡ a' → b ≡ b' → d ≡ d' → ((a || b) || d) ≡ (a' || b' || d')
flags e f g = cc

pub returns : goal.returns
returns c =
    (rw (and_comm (c.is_cw.result || c.is_cw-2.result || c.is_cw-3.result) (c.is_ccw.result || c.is_ccw-2.result || c.is_ccw-3.result))
    (in_triangle_lem (pt_of c.args.p) (pt_of c.args.v1) (pt_of c.args.v2) (pt_of c.args.v3) _ _ _
    c.corner_direction-d1.ensures
    c.corner_direction-d2.ensures
    c.corner_direction-d3.ensures
    _ _
    (flags c.is_cw.ensures c.is_cw-2.ensures c.is_cw-3.ensures)
    (flags c.is_ccw.ensures c.is_ccw-2.ensures c.is_ccw-3.ensures)))
