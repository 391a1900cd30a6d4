use Rattle.std.proofs.lemmas.Result.{err_from_is_err_and}
use Rattle.words.specs.Bytes.{floats_of}
use Rattle.point_in_poly2d.specs.Positions.{test_of}
use Rattle.point_in_poly2d.proofs.Asked.{outline_refused, spot_refused, test_tells}
use Rattle.point_in_poly2d.proofs.bytes.ask.Goals as goal

pub returns-in_err-floats : goal.returns-in_err-floats
returns-in_err-floats c =
    let p = err_from_is_err_and c.from_residual.result c.from_residual.ensures.1 in
    rw (p.1, p.2) (outline_refused (test_of c.args.convex) c.args.x c.args.y (floats_of c.args.bytes.now) _ c.in_err-floats.ensures.number)

pub returns-in_err-spot : goal.returns-in_err-spot
returns-in_err-spot c =
    let p = err_from_is_err_and c.from_residual-in_err-spot.result c.from_residual-in_err-spot.ensures.1 in
    rw (p.1, p.2) (spot_refused (test_of c.args.convex) c.args.x c.args.y (floats_of c.args.bytes.now) c.in_ok-floats.ensures.number _ c.in_err-spot.ensures.number)

pub returns : goal.returns
returns c =
    let at = c.in_ok-spot.ensures.point in
    test_tells (test_of c.args.convex) c.args.x c.args.y (floats_of c.args.bytes.now) c.in_ok-floats.ensures.number c.in_ok-spot.ensures.number _
    (rw (at.0, at.1, c.in_ok-floats.ensures.same) at c.told.ensures)
