use mathlib.Core.Path.{sym}
use Rattle.point_in_poly2d.proofs.Words.{points_many}
use Rattle.point_in_poly2d.proofs.bytes.FloatsCorners.count.Goals as goal

pub returns : goal.returns
returns c = sym (points_many c.args.self.now.bytes.now)
