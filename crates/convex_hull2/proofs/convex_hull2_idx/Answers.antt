-- `convex_hull2_idx` meets its promise.
use native.Mathlib.Omega.{arith}
use mathlib.Core.Path.{sym}
use Rattle.std.proofs.lemmas.Result.{err_from_is_err_and}
use Rattle.rules.specs.Limits.{most_points}
use Rattle.rules.proofs.Outlines.{outlined}
use Rattle.convex_hull2.proofs.Entry.{refused, on_line, short, answered}
use Rattle.convex_hull2.proofs.convex_hull2_idx.Goals as goal

pub returns-in_err-points : goal.returns-in_err-points
returns-in_err-points c =
    let p = err_from_is_err_and c.from_residual.result c.from_residual.ensures.1 in
    rw (p.1, p.2) (refused _ _ _ c.in_err-points.ensures.number)

pub counted-all-requires : goal.counted-all-requires
counted-all-requires c =
    let passed = outlined 2 most_points c.args.coords.now (sym c.in_ok-points.ensures.number) in
    rw (c.count.ensures, c.in_ok-points.ensures.same) passed.at_most

pub ends-requires-clause-some : goal.ends-requires-clause-some
ends-requires-clause-some c =
    let passed = outlined 2 most_points c.args.coords.now (sym c.in_ok-points.ensures.number) in
    rw c.in_ok-points.ensures.same (omega (arith, passed.at_least))

pub returns-in_default : goal.returns-in_default
returns-in_default c = on_line c.args.coords.now c.args.indices.now c.in_ok-points.ensures.number (rw c.in_ok-points.ensures.same at c.in_default.ensures)

pub returns-then-indices-count : goal.returns-then-indices-count
returns-then-indices-count c =
    short c.args.coords.now c.args.indices.now c.in_ok-points.ensures.number (rw c.in_ok-points.ensures.same at c.in-Some.ensures.0)
    (rw (c.count-2.ensures, c.in_ok-points.ensures.same) at c.if-indices-count.true)

pub invariant_of-cloud : goal.invariant_of-cloud
invariant_of-cloud c =
    let passed = outlined 2 most_points c.args.coords.now (sym c.in_ok-points.ensures.number) in
    record { few = rw c.in_ok-points.ensures.same passed.at_most }

pub returns : goal.returns
returns c =
    answered c.args.coords.now c.args.indices.now c.in_ok-points.ensures.number (rw c.in_ok-points.ensures.same at c.in-Some.ensures.0)
    (rw (c.count-2.ensures, c.in_ok-points.ensures.same) at c.if-indices-count.false) _ _ (rw c.in_ok-points.ensures.same at c.walk.ensures)
