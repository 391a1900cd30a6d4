use mathlib.Core.Path.{sym}
use Rattle.rules.proofs.Coordinates.{points-length}
use Rattle.grid.proofs.points.Points.count.Goals as goal

pub returns : goal.returns
returns c = sym (points-length _)
