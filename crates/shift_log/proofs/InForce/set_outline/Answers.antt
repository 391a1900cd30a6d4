-- `set_outline` meets its contract: a POLYGON line, a TRIANGLE line of three corners, or neither.
use Rattle.std.proofs.Common.{◌≡◌, ◌≢◌, rules, refl, Some}
use Rattle.shift_log.proofs.Meanings.{not_three}
use Rattle.shift_log.proofs.Steps.{step_many, step-polygon, step-triangle, step_eleven}
use Rattle.shift_log.proofs.InForce.set_outline.Goals as goal

pub returns-then-corners-gt-MOST_POINTS : goal.returns-then-corners-gt-MOST_POINTS
returns-then-corners-gt-MOST_POINTS c = step_many c.in-Some.ensures.outline c.if-corners-gt-MOST_POINTS.true

pub returns-in-Some : goal.returns-in-Some
returns-in-Some c = step-polygon c.in-Some.ensures.outline c.if-corners-gt-MOST_POINTS.false c.put.ensures

pub returns-then-eq : goal.returns-then-eq
returns-then-eq c =
    let three : c.read_outline-2.result ≡ Some 3 = search rules in
    step-triangle (rw three at c.read_outline-2.ensures.outline) refl c.put-then-eq.ensures

pub returns : goal.returns
returns c =
    let other : c.read_outline-2.result ≢ Some 3 = search rules in
    step_eleven c.requires c.in_default.ensures.no_outline (not_three _ _ _ c.read_outline-2.ensures.outline c.read_outline-2.ensures.no_outline other)
