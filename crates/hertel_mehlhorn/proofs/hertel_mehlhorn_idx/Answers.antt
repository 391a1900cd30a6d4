-- `hertel_mehlhorn_idx` meets its promise.
use mathlib.Core.Path.{sym}
use native.Mathlib.Omega.{arith}
use Rattle.std.proofs.lemmas.Result.{err_from_is_err_and}
use Rattle.rules.proofs.Accepted.{in_range}
use Rattle.entries.proofs.Refusals.{number_above}
use Rattle.hertel_mehlhorn.proofs.Entry.{refused, merged}
use Rattle.hertel_mehlhorn.proofs.hertel_mehlhorn_idx.Goals as goal

pub returns-in_err-points : goal.returns-in_err-points
returns-in_err-points c =
    let p = err_from_is_err_and c.from_residual.result c.from_residual.ensures.1 in
    rw (p.1, p.2) (refused _ _ _ _ _ c.in_err-points.ensures.number (number_above _))

pub merge-requires-clause-points : goal.merge-requires-clause-points
merge-requires-clause-points c = rw c.in_ok-points.ensures.same (in_range _ _ _ _ (sym c.in_ok-points.ensures.number)).outlines.at_most

pub merge-requires-clause-below : goal.merge-requires-clause-below
merge-requires-clause-below c = rw c.in_ok-points.ensures.same (in_range _ _ _ _ (sym c.in_ok-points.ensures.number)).below

pub merge-requires-clause-whole : goal.merge-requires-clause-whole
merge-requires-clause-whole c = (in_range _ _ _ _ (sym c.in_ok-points.ensures.number)).whole

pub merge-requires-clause-few : goal.merge-requires-clause-few
merge-requires-clause-few c = let r = in_range _ _ _ _ (sym c.in_ok-points.ensures.number) in omega (arith, r.whole, r.few)

pub merge-requires-clause-room : goal.merge-requires-clause-room
merge-requires-clause-room c = (in_range _ _ _ _ (sym c.in_ok-points.ensures.number)).fits

pub merge-requires-clause-places : goal.merge-requires-clause-places
merge-requires-clause-places c = (in_range _ _ _ _ (sym c.in_ok-points.ensures.number)).fits_lengths

pub returns : goal.returns
returns c = merged _ _ _ _ c.in_ok-points.ensures.number _ _ _ (rw c.in_ok-points.ensures.same at c.merge.ensures.written)
