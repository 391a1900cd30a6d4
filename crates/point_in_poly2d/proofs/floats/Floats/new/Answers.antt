-- The rows that the number of coordinates decides, and the last.
use mathlib.Core.Path.{sym, ◌∙◌}
use mathlib.Core.List.{[]}
use Rattle.std.proofs.lemmas.Result.{err_from_is_err_and}
use Rattle.rules.specs.Limits.{most_points}
use Rattle.rules.proofs.Rows.{row_on, row_off, no_rows, front_gives, others_decide}
use Rattle.rules.proofs.Fronts.{count-front}
use Rattle.entries.proofs.Refusals.{number_above}
use Rattle.words.specs.Bytes.{floats_of}
use Rattle.words.proofs.Words.{floats-length}
use Rattle.point_in_poly2d.proofs.floats.Floats.new.Goals as goal

pub returns-in_err-check_count-clause-number : goal.returns-in_err-check_count-clause-number
returns-in_err-check_count-clause-number c =
    let floats = floats_of c.args.bytes.now in
    let p = err_from_is_err_and c.from_residual.result c.from_residual.ensures.1 in
    rw (p.1, p.2) (front_gives (count-front 0 most_points floats) (rw (floats-length c.args.bytes.now) c.in_err-check_count.ensures) (number_above _))

pub returns-then-off_grid-clause-number : goal.returns-then-off_grid-clause-number
returns-then-off_grid-clause-number c =
    let floats = floats_of c.args.bytes.now in
    sym (others_decide (count-front 0 most_points floats) (rw (floats-length c.args.bytes.now) (sym c.in_ok-check_count.ensures)) ∙ row_on 4 [] (sym c.if-off_grid.ensures))

pub returns-clause-number : goal.returns-clause-number
returns-clause-number c =
    let floats = floats_of c.args.bytes.now in
    sym (others_decide (count-front 0 most_points floats) (rw (floats-length c.args.bytes.now) (sym c.in_ok-check_count.ensures)) ∙ row_off 4 [] (sym c.if-off_grid.ensures) ∙ no_rows)
