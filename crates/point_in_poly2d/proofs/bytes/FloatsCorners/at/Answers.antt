use native.Mathlib.Omega.{arith}
use Rattle.point_in_poly2d.proofs.Words.{points_many}
use Rattle.point_in_poly2d.proofs.bytes.FloatsCorners.at.Goals as goal

pub point_at-requires : goal.point_at-requires
point_at-requires c = record { on_grid = c.args.self.now.on_grid; within = omega (arith, points_many c.args.self.now.bytes.now, c.requires) }
