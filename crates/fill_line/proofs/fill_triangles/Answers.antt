-- `fill_triangles` meets its contract: what the line's cut refuses, or the triangles as text.
use native.Mathlib.Omega.{arith}
use mathlib.Core.Path.{refl, sym}
use lib.Seq.{length-take-le}
use Rattle.std.proofs.lemmas.Result.{err_from_is_err_and}
use Rattle.rules.specs.Entries.{triangles_for}
use Rattle.fill_line.proofs.Filling.{refused_fills, few, text_fits, text-small, text-within, text-written, triangles_kept, triangles_stand}
use Rattle.fill_line.proofs.fill_triangles.Goals as goal

pub returns-in_err-cut-clause-fills : goal.returns-in_err-cut-clause-fills
returns-in_err-cut-clause-fills c =
    let p = err_from_is_err_and c.from_residual.result c.from_residual.ensures.1 in
    rw (p.1, p.2) (refused_fills triangles_for _ _ _ c.in_err-cut.ensures.refused)

pub slice_bounds-lengths-end : goal.slice_bounds-lengths-end
slice_bounds-lengths-end c = few c.args.out.now c.in_ok-cut.cut.points.on_grid c.in_ok-cut.ensures.cut

pub slice_bounds-write_multipolygon-end : goal.slice_bounds-write_multipolygon-end
slice_bounds-write_multipolygon-end c = sym (length-take-le _ _ (few c.args.out.now c.in_ok-cut.cut.points.on_grid c.in_ok-cut.ensures.cut))

pub write_multipolygon-end-requires : goal.write_multipolygon-end-requires
write_multipolygon-end-requires c =
    let on = c.in_ok-cut.cut.points.on_grid in
    let cut = c.in_ok-cut.ensures.cut in
    let s = triangles_stand c.args.out.now on cut _ refl in
    record { known = s.known; some = s.some; in_bounds = s.within; no_empty = s.filled_each; room = text_fits c.args.out.now on cut triangles_for (triangles_kept c.args.out.now on cut) s }

pub overflow_cast-result : goal.overflow_cast-result
overflow_cast-result c =
    let on = c.in_ok-cut.cut.points.on_grid in
    let cut = c.in_ok-cut.ensures.cut in
    omega (arith, text-small c.args.out.now on cut triangles_for (triangles_kept c.args.out.now on cut) (triangles_stand c.args.out.now on cut _ refl) c.write_multipolygon-end.ensures)

pub returns : goal.returns
returns c =
    let on = c.in_ok-cut.cut.points.on_grid in
    let cut = c.in_ok-cut.ensures.cut in
    let s = triangles_stand c.args.out.now on cut _ refl in
    record {
      fills = text-written c.args.out.now on cut triangles_for (triangles_kept c.args.out.now on cut) s c.write_multipolygon-end.ensures;
      count_in_bounds = text-within c.args.out.now on cut triangles_for (triangles_kept c.args.out.now on cut) s c.write_multipolygon-end.ensures;
    }
