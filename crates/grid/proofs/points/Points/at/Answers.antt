use Rattle.rules.proofs.Coordinates.{point_fits}
use Rattle.grid.proofs.points.Points.at.Goals as goal

pub point_at-requires : goal.point_at-requires
point_at-requires c = record { on_grid = c.args.self.now.on_grid; in_bounds = point_fits _ _ c.requires }
