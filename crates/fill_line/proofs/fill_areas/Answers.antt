-- `fill_areas` meets its contract: what the line's cut refuses, or the merged areas as text.
use native.Mathlib.Omega.{arith}
use mathlib.Core.Path.{refl, sym}
use lib.Seq.{length-take-le}
use Rattle.std.proofs.lemmas.Result.{err_from_is_err_and}
use Rattle.rules.specs.Lines.{areas_for}
use Rattle.fill_line.proofs.Filling.{refused_fills, merged, text_fits, text-small, text-within, text-written, not_refused, areas_kept}
use Rattle.fill_line.proofs.fill_areas.Goals as goal

pub returns-in_err-cut-clause-fills : goal.returns-in_err-cut-clause-fills
returns-in_err-cut-clause-fills c =
    let p = err_from_is_err_and c.from_residual.result c.from_residual.ensures.1 in
    rw (p.1, p.2) (refused_fills areas_for _ _ _ c.in_err-cut.ensures.refused)

pub unwrap-count-requires : goal.unwrap-count-requires
unwrap-count-requires c = not_refused c.args.out.now c.in_ok-cut.cut.points.on_grid c.in_ok-cut.ensures.cut _ _ refl refl _ c.hertel_mehlhorn_idx-merged.ensures

pub slice_bounds-lengths-end : goal.slice_bounds-lengths-end
slice_bounds-lengths-end c =
    let m = merged c.args.out.now c.in_ok-cut.cut.points.on_grid c.in_ok-cut.ensures.cut _ _ refl refl refl _ c.unwrap-count.ensures c.hertel_mehlhorn_idx-merged.ensures in
    omega (arith, m.few, c.hertel_mehlhorn_idx-merged.auto.lengths)

pub slice_bounds-write_multipolygon-end-2 : goal.slice_bounds-write_multipolygon-end-2
slice_bounds-write_multipolygon-end-2 c =
    let m = merged c.args.out.now c.in_ok-cut.cut.points.on_grid c.in_ok-cut.ensures.cut _ _ refl refl refl _ c.unwrap-count.ensures c.hertel_mehlhorn_idx-merged.ensures in
    sym (length-take-le _ _ (omega (arith, m.few, c.hertel_mehlhorn_idx-merged.auto.lengths)))

pub write_multipolygon-end-requires : goal.write_multipolygon-end-requires
write_multipolygon-end-requires c =
    let on = c.in_ok-cut.cut.points.on_grid in
    let cut = c.in_ok-cut.ensures.cut in
    let s = (merged c.args.out.now on cut _ _ refl refl refl _ c.unwrap-count.ensures c.hertel_mehlhorn_idx-merged.ensures).stands in
    record { known = s.known; some = s.some; in_bounds = s.within; no_empty = s.filled_each; room = text_fits c.args.out.now on cut areas_for (areas_kept c.args.out.now on cut) s }

pub overflow_cast-result : goal.overflow_cast-result
overflow_cast-result c =
    let on = c.in_ok-cut.cut.points.on_grid in
    let cut = c.in_ok-cut.ensures.cut in
    let s = (merged c.args.out.now on cut _ _ refl refl refl _ c.unwrap-count.ensures c.hertel_mehlhorn_idx-merged.ensures).stands in
    omega (arith, text-small c.args.out.now on cut areas_for (areas_kept c.args.out.now on cut) s c.write_multipolygon-end.ensures)

pub returns : goal.returns
returns c =
    let on = c.in_ok-cut.cut.points.on_grid in
    let cut = c.in_ok-cut.ensures.cut in
    let s = (merged c.args.out.now on cut _ _ refl refl refl _ c.unwrap-count.ensures c.hertel_mehlhorn_idx-merged.ensures).stands in
    record {
      fills = text-written c.args.out.now on cut areas_for (areas_kept c.args.out.now on cut) s c.write_multipolygon-end.ensures;
      count_in_bounds = text-within c.args.out.now on cut areas_for (areas_kept c.args.out.now on cut) s c.write_multipolygon-end.ensures;
    }
