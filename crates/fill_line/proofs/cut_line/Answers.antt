-- `cut_line` meets its contract: the line is refused by the reader, or its coordinates are given to the cutter.
use native.Mathlib.Omega.{arith}
use mathlib.Core.Path.{sym}
use lib.ListN.{drop, length-append}
use lib.Seq.{length-take-le}
use Rattle.std.proofs.lemmas.Result.{err_from_is_err_and}
use Rattle.fill_line.proofs.Cutting.{not_read, read, lent_most, not_cut, cut_fits, on_grid, was_cut}
use Rattle.fill_line.proofs.cut_line.Goals as goal

pub returns-in_err-n-clause-refused : goal.returns-in_err-n-clause-refused
returns-in_err-n-clause-refused c =
    let p = err_from_is_err_and c.from_residual.result c.from_residual.ensures.1 in
    rw (p.1, p.2) (not_read _ _ _ _ c.requires.coords _ c.in_err-n.ensures)

pub lent-k-requires : goal.lent-k-requires
lent-k-requires c = let r = read _ c.args.room _ _ c.requires.coords _ c.in_ok-n.ensures in omega (arith, r.few, r.count)

pub slice_bounds-triangulate_ear_clipping-end : goal.slice_bounds-triangulate_ear_clipping-end
slice_bounds-triangulate_ear_clipping-end c =
    let r = read _ c.args.room _ _ c.requires.coords _ c.in_ok-n.ensures in
    omega (arith, r.few, r.count, c.requires.coords, c.read_polygon.auto)

pub slice_bounds-triangulate_ear_clipping-end-2 : goal.slice_bounds-triangulate_ear_clipping-end-2
slice_bounds-triangulate_ear_clipping-end-2 c =
    let r = read _ c.args.room _ _ c.requires.coords _ c.in_ok-n.ensures in
    sym (length-take-le _ _ (omega (arith, r.few, r.count, c.requires.coords, c.read_polygon.auto)))

pub slice_bounds-triangulate_ear_clipping-end-3 : goal.slice_bounds-triangulate_ear_clipping-end-3
slice_bounds-triangulate_ear_clipping-end-3 c =
    omega (arith, c.lent-k.ensures, lent_most c.in_ok-n.field-0 c.args.room, c.requires.indices)

pub slice_bounds-triangulate_ear_clipping-end-4 : goal.slice_bounds-triangulate_ear_clipping-end-4
slice_bounds-triangulate_ear_clipping-end-4 c =
    sym (length-take-le _ _ (omega (arith, c.lent-k.ensures, lent_most c.in_ok-n.field-0 c.args.room, c.requires.indices)))

pub returns-in_err-m-clause-refused : goal.returns-in_err-m-clause-refused
returns-in_err-m-clause-refused c =
    let p = err_from_is_err_and c.from_residual-in_err-m.result c.from_residual-in_err-m.ensures.1 in
    rw (p.1, p.2) (not_cut _ _ _ _ c.requires.coords (read _ _ _ _ c.requires.coords _ c.in_ok-n.ensures) _ c.args.indices.now _ c.lent-k.ensures c.requires.indices _ c.in_err-m.ensures)

pub slice_bounds-result-end : goal.slice_bounds-result-end
slice_bounds-result-end c =
    let r = read _ c.args.room _ _ c.requires.coords _ c.in_ok-n.ensures in
    sym (length-take-le _ _ (omega (arith, r.few, r.count, c.requires.coords, c.read_polygon.auto)))

pub slice_bounds-result-end-2 : goal.slice_bounds-result-end-2
slice_bounds-result-end-2 c =
    let fits = cut_fits _ _ _ _ c.requires.coords (read _ _ _ _ c.requires.coords _ c.in_ok-n.ensures) _ c.args.indices.now _ c.lent-k.ensures c.requires.indices c.in_ok-m.ensures in
    sym (length-take-le _ _ (omega (arith, fits, c.triangulate_ear_clipping.auto.indices, length-append c.triangulate_ear_clipping.new.indices (drop c.lent-k.result c.args.indices.now))))

pub invariant_of-result : goal.invariant_of-result
invariant_of-result c =
    record { on_grid = on_grid _ c.args.room _ _ c.requires.coords (read _ _ _ _ c.requires.coords _ c.in_ok-n.ensures) _ c.args.indices.now _ c.lent-k.ensures c.requires.indices c.in_ok-m.ensures }

pub returns-clause-cut : goal.returns-clause-cut
returns-clause-cut c =
    was_cut _ _ _ _ c.requires.coords (read _ _ _ _ c.requires.coords _ c.in_ok-n.ensures) _ c.args.indices.now _ c.lent-k.ensures c.requires.indices c.in_ok-m.ensures _ c.triangulate_ear_clipping.auto.indices
