use mathlib.Core.Path.{◌∙◌, ap}
use native.Mathlib.Omega.{arith}
use Rattle.rules.specs.Plane.{point}
use Rattle.grid.specs.Points.{pt_of}
use Rattle.point_in_poly2d.proofs.Walks.{way_to, walking_first, walking_more, walking_end, rule_is}
use Rattle.point_in_poly2d.proofs.walk.Goals as goal

pub loop-i-init : goal.loop-i-init
loop-i-init g c =
    walking_first _ _ _ _ _ (omega (arith, c.count-n.ensures, c.if-n-eq0.false)) (way_to c.args.spot c.at.result c.minus-d.result c.at.ensures c.minus-d.ensures.x c.minus-d.ensures.y) c.nothing-seen.ensures

pub loop-i-preserved : goal.loop-i-preserved
loop-i-preserved g c =
    let w = c.loop-i.invariant in
    let way = way_to c.args.spot c.at-in-loop-i.result c.minus-e.result {q = point (g.C.Corners.points c.args.corners.now) c.loop-i.i} c.at-in-loop-i.ensures c.minus-e.ensures.x c.minus-e.ensures.y in
    walking_more _ _ _ _ w (omega (arith, c.count-n.ensures, c.loop-i-test.true)) way (rw (c.edge.ensures _ _ _ w.way way) at c.with-seen.ensures)

pub returns : goal.returns
returns g c =
    let t = g.T.Test in
    c.told.ensures
    ∙ ap t.told (walking_end _ _ _ _ c.loop-i.invariant (omega (arith, c.count-n.ensures, c.loop-i-test.false)))
    ∙ rule_is t.sums t.shown t.rule t.told g.met.T.Test.of_all (pt_of c.args.spot) (g.C.Corners.points c.args.corners.now) (omega (arith, c.count-n.ensures, c.if-n-eq0.false))
