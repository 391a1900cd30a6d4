-- `check_before_triangles` meets its contract: the outline's rows, and the number of indices.
use Prim.Native.Nat.{ℕ, ◌/◌, ◌%◌, ◌≤◌, ◌<◌}
use mathlib.Core.Path.{◌≡◌, sym, ◌∙◌, ap}
use mathlib.Core.Logic.{◌≢◌}
use mathlib.Core.Bool.{not}
use borrow.Author.Tests.{eq-eqb, ne_eqb, lt-ltb, le-ltb}
use Rattle.std.proofs.lemmas.Result.{err_from_is_err_and}
use Rattle.rules.specs.Limits.{most_triangles}
use Rattle.rules.specs.Refusals.{first_refusal, list_checks}
use Rattle.rules.proofs.Rows.{row_on, row_off, no_rows, front_gives, others_decide}
use Rattle.rules.proofs.Fronts.{list_front}
use Rattle.entries.proofs.Refusals.{number_above}
use Rattle.hertel_mehlhorn.proofs.check_before_triangles.Goals as goal

module _ (t : ℕ) where
  ragged : t % 3 ≢ 0 → first_refusal (list_checks t) ≡ 8
  unfolding list_checks
  ragged h = row_on 8 _ (ap not (ne_eqb (t % 3) 0 h))

  module _ (whole : t % 3 ≡ 0) where
    many : most_triangles < t / 3 → first_refusal (list_checks t) ≡ 10
    unfolding list_checks
    many h = row_off 8 _ (ap not (eq-eqb (t % 3) 0 whole)) ∙ row_on 10 _ (lt-ltb most_triangles (t / 3) h)

    few : t / 3 ≤ most_triangles → first_refusal (list_checks t) ≡ 0
    unfolding list_checks
    few h = row_off 8 _ (ap not (eq-eqb (t % 3) 0 whole)) ∙ row_off 10 _ (le-ltb most_triangles (t / 3) h) ∙ no_rows

pub returns-in_err-points-clause-number : goal.returns-in_err-points-clause-number
returns-in_err-points-clause-number c =
    let p = err_from_is_err_and c.from_residual.result c.from_residual.ensures.1 in
    rw (p.1, p.2) (front_gives (list_front c.args.coords.now c.args.indices) c.in_err-points.ensures.number (number_above _))

pub returns-then-indices-ne0-clause-number : goal.returns-then-indices-ne0-clause-number
returns-then-indices-ne0-clause-number c = sym (others_decide (list_front _ _) (sym c.in_ok-points.ensures.number) ∙ ragged _ c.if-indices-ne0.true)

pub returns-then-indices-gt-MOST_TRIANGLES-clause-number : goal.returns-then-indices-gt-MOST_TRIANGLES-clause-number
returns-then-indices-gt-MOST_TRIANGLES-clause-number c =
    sym (others_decide (list_front _ _) (sym c.in_ok-points.ensures.number) ∙ many _ c.if-indices-ne0.false c.if-indices-gt-MOST_TRIANGLES.true)

pub returns-clause-number : goal.returns-clause-number
returns-clause-number c = sym (others_decide (list_front _ _) (sym c.in_ok-points.ensures.number) ∙ few _ c.if-indices-ne0.false c.if-indices-gt-MOST_TRIANGLES.false)
