-- `triangulate_ear_clipping` meets its promise.
use mathlib.Core.Path.{sym}
use Rattle.std.proofs.lemmas.Result.{err_from_is_err_and}
use Rattle.rules.proofs.Accepted.{ready}
use Rattle.ear_clipping.proofs.Entry.{refused_early, cut_promised}
use Rattle.ear_clipping.proofs.triangulate_ear_clipping.Goals as goal

pub returns-in_err-points : goal.returns-in_err-points
returns-in_err-points c =
    let p = err_from_is_err_and c.from_residual.result c.from_residual.ensures.1 in
    rw (p.1, p.2) (refused_early _ _ _ c.in_err-points.ensures.number)

pub cut-requires-clause-at_least : goal.cut-requires-clause-at_least
cut-requires-clause-at_least c = rw c.in_ok-points.ensures.same (ready _ _ (sym c.in_ok-points.ensures.number)).outlines.at_least

pub cut-requires-clause-at_most : goal.cut-requires-clause-at_most
cut-requires-clause-at_most c = rw c.in_ok-points.ensures.same (ready _ _ (sym c.in_ok-points.ensures.number)).outlines.at_most

pub cut-requires-clause-room : goal.cut-requires-clause-room
cut-requires-clause-room c = rw c.in_ok-points.ensures.same (ready _ _ (sym c.in_ok-points.ensures.number)).fits

pub returns : goal.returns
returns c = cut_promised _ _ c.in_ok-points.ensures.number _ _ (rw c.in_ok-points.ensures.same at c.cut.ensures)
