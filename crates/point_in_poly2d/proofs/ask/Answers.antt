use Rattle.std.proofs.lemmas.Result.{err_from_is_err_and}
use Rattle.point_in_poly2d.specs.Positions.{test_of}
use Rattle.point_in_poly2d.proofs.Asked.{outline_refused, spot_refused, test_tells}
use Rattle.point_in_poly2d.proofs.ask.Goals as goal

pub returns-in_err-points : goal.returns-in_err-points
returns-in_err-points c =
    let p = err_from_is_err_and c.from_residual.result c.from_residual.ensures.1 in
    rw (p.1, p.2) (outline_refused (test_of c.args.convex) c.args.x c.args.y c.args.coords.now _ c.in_err-points.ensures.number)

pub returns-in_err-spot : goal.returns-in_err-spot
returns-in_err-spot c =
    let p = err_from_is_err_and c.from_residual-in_err-spot.result c.from_residual-in_err-spot.ensures.1 in
    rw (p.1, p.2) (spot_refused (test_of c.args.convex) c.args.x c.args.y c.args.coords.now c.in_ok-points.ensures.number _ c.in_err-spot.ensures.number)

pub returns : goal.returns
returns c =
    let at = c.in_ok-spot.ensures.point in
    test_tells (test_of c.args.convex) c.args.x c.args.y c.args.coords.now c.in_ok-points.ensures.number c.in_ok-spot.ensures.number _
    (rw (at.0, at.1, c.in_ok-points.ensures.same) at c.told.ensures)
