-- `write_polygon` meets its promise.
use Rattle.std.proofs.Common.{◌≡◌, arith, sym, ap, length}
use Rattle.std.proofs.lemmas.Result.{err_from_is_err_and}
use Rattle.rules.specs.Limits.{most_points}
use Rattle.rules.specs.Grid.{points_of}
use Rattle.rules.specs.Refusals.{first_refusal}
use Rattle.rules.specs.Lines.{polygon_checks}
use Rattle.rules.proofs.Outlines.{Outlined, outlined}
use Rattle.entries.proofs.Refusals.{number_above}
use Rattle.wkt.proofs.WriteEntry.{not_an_outline, too_short, none_applies, line_room, counted, answered}
use Rattle.wkt.proofs.write.write_polygon.Goals as goal

pub returns-in_err-points : goal.returns-in_err-points
returns-in_err-points c =
    let p = err_from_is_err_and c.from_residual.result c.from_residual.ensures.1 in
    rw (p.1, p.2) (not_an_outline c.args.coords.now c.args.out.now c.in_err-points.ensures.number (number_above _))

pub overflow_mul-count : goal.overflow_mul-count
overflow_mul-count c =
    let outline : Outlined 1 most_points c.args.coords.now = outlined 1 most_points _ (sym c.in_ok-points.ensures.number) in
    omega (arith, outline.at_most, c.count.ensures, ap (λ cs. length (points_of cs)) c.in_ok-points.ensures.same)

pub overflow_add-count : goal.overflow_add-count
overflow_add-count c =
    let outline : Outlined 1 most_points c.args.coords.now = outlined 1 most_points _ (sym c.in_ok-points.ensures.number) in
    omega (arith, outline.at_most, c.count.ensures, ap (λ cs. length (points_of cs)) c.in_ok-points.ensures.same)

pub returns-then-out-count : goal.returns-then-out-count
returns-then-out-count c =
    too_short c.args.coords.now c.args.out.now c.in_ok-points.ensures.number (omega (arith, c.if-out-count.true, c.count.ensures, ap (λ cs. length (points_of cs)) c.in_ok-points.ensures.same))

pub write_outline-end-requires : goal.write_outline-end-requires
write_outline-end-requires c =
    let outline : Outlined 1 most_points c.args.coords.now = outlined 1 most_points _ (sym c.in_ok-points.ensures.number) in
    let none : first_refusal (polygon_checks c.args.coords.now (length c.args.out.now)) ≡ 0
    = none_applies c.args.coords.now c.args.out.now c.in_ok-points.ensures.number (omega (arith, c.if-out-count.false, c.count.ensures, ap (λ cs. length (points_of cs)) c.in_ok-points.ensures.same)) in
    rw c.in_ok-points.ensures.same (record { some = outline.at_least; at_most = outline.at_most; room = line_room c.args.coords.now c.args.out.now none })

pub overflow_cast-result : goal.overflow_cast-result
overflow_cast-result c =
    let none : first_refusal (polygon_checks c.args.coords.now (length c.args.out.now)) ≡ 0
    = none_applies c.args.coords.now c.args.out.now c.in_ok-points.ensures.number (omega (arith, c.if-out-count.false, c.count.ensures, ap (λ cs. length (points_of cs)) c.in_ok-points.ensures.same)) in
    omega (arith, counted c.args.coords.now c.args.out.now none (rw c.in_ok-points.ensures.same at c.write_outline-end.ensures))

pub returns : goal.returns
returns c =
    let none : first_refusal (polygon_checks c.args.coords.now (length c.args.out.now)) ≡ 0
    = none_applies c.args.coords.now c.args.out.now c.in_ok-points.ensures.number (omega (arith, c.if-out-count.false, c.count.ensures, ap (λ cs. length (points_of cs)) c.in_ok-points.ensures.same)) in
    answered c.args.coords.now c.args.out.now none (rw c.in_ok-points.ensures.same at c.write_outline-end.ensures)
