-- `merge` meets its contract.
use native.Mathlib.Omega.{arith}
use mathlib.Core.Path.{refl, sym}
use lib.Seq.{length-take-le}
use Rattle.hasplight.proofs.Merging.{lent_to, corners_fit, lengths_fit, merge_kept}
use Rattle.hasplight.proofs.merge.Goals as goal

pub slice_bounds-out-end-2 : goal.slice_bounds-out-end-2
slice_bounds-out-end-2 c =
    let l = lent_to c.args.indices.now c.args.lengths.now c.requires c.least-room.ensures.value c.least-places.ensures.value refl refl c.from-a.ensures c.hertel_mehlhorn_idx.ensures in
    (corners_fit l _ c.corners.ensures).0

pub slice_bounds-write-end : goal.slice_bounds-write-end
slice_bounds-write-end c =
    let l = lent_to c.args.indices.now c.args.lengths.now c.requires c.least-room.ensures.value c.least-places.ensures.value refl refl c.from-a.ensures c.hertel_mehlhorn_idx.ensures in
    sym (length-take-le _ _ (corners_fit l _ c.corners.ensures).0)

pub write-requires : goal.write-requires
write-requires c =
    let l = lent_to c.args.indices.now c.args.lengths.now c.requires c.least-room.ensures.value c.least-places.ensures.value refl refl c.from-a.ensures c.hertel_mehlhorn_idx.ensures in
    let fits = corners_fit l _ c.corners.ensures in
    omega (arith, fits.1, length-take-le _ _ fits.0)

pub slice_bounds-sizes-end-2 : goal.slice_bounds-sizes-end-2
slice_bounds-sizes-end-2 c =
    let l = lent_to c.args.indices.now c.args.lengths.now c.requires c.least-room.ensures.value c.least-places.ensures.value refl refl c.from-a.ensures c.hertel_mehlhorn_idx.ensures in
    (lengths_fit l _ refl).0

pub slice_bounds-write-end-2 : goal.slice_bounds-write-end-2
slice_bounds-write-end-2 c =
    let l = lent_to c.args.indices.now c.args.lengths.now c.requires c.least-room.ensures.value c.least-places.ensures.value refl refl c.from-a.ensures c.hertel_mehlhorn_idx.ensures in
    sym (length-take-le _ _ (lengths_fit l _ refl).0)

pub write-requires-2 : goal.write-requires-2
write-requires-2 c =
    let l = lent_to c.args.indices.now c.args.lengths.now c.requires c.least-room.ensures.value c.least-places.ensures.value refl refl c.from-a.ensures c.hertel_mehlhorn_idx.ensures in
    let fits = lengths_fit l _ refl in
    omega (arith, fits.1, length-take-le _ _ fits.0)

pub returns : goal.returns
returns c =
    let l = lent_to c.args.indices.now c.args.lengths.now c.requires c.least-room.ensures.value c.least-places.ensures.value refl refl c.from-a.ensures c.hertel_mehlhorn_idx.ensures in
    merge_kept l _ _ c.corners.ensures refl c.write.ensures c.write-2.ensures
