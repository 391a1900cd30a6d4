use Rattle.point_in_poly2d.proofs.Walks.{Walking}
use Rattle.point_in_poly2d.proofs.walk.Given as goal

abbrev pub invariant-loop-i : goal.invariant-loop-i
invariant-loop-i g l = let t = g.T.Test in Walking t.sums t.shown l.spot (g.C.Corners.points l.corners) l.seen l.d l.i
