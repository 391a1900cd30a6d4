-- `pointiness` meets its contract.
use Rattle.std.proofs.Common.{◌∙◌}
use Rattle.rules.specs.Plane.{minus}
use Rattle.grid.specs.Points.{pt_of}
use Rattle.root.proofs.Length.{pointiness_of}
use Rattle.root.proofs.pointiness.Goals as goal

pub returns : goal.returns
returns c =
    c.dot.ensures ∙ pointiness_of (minus (pt_of c.args.q) (pt_of c.args.p)) (minus (pt_of c.args.s) (pt_of c.args.p)) c.direction-v.ensures.x c.direction-v.ensures.y c.direction-w.ensures.x c.direction-w.ensures.y
