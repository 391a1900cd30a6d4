-- `cut` meets its contract.
use native.Mathlib.Omega.{arith}
use mathlib.Core.Path.{refl, sym}
use lib.Seq.{length-take-le}
use Rattle.hasplight.proofs.Lending.{room_for, gives}
use Rattle.hasplight.proofs.Cutting.{cut_reports, cut_need}
use Rattle.hasplight.proofs.cut.Goals as goal

pub slice_bounds-out-end-2 : goal.slice_bounds-out-end-2
slice_bounds-out-end-2 c =
    (room_for (cut_reports _) (cut_need _ c.requires) c.args.indices.now _ _ _ c.least-room.ensures.value refl c.from-a.ensures c.triangulate_ear_clipping.ensures.number c.triangulate_ear_clipping.ensures.count c.triangulate_ear_clipping.ensures.indices _ c.tripled.ensures).0

pub slice_bounds-write-end : goal.slice_bounds-write-end
slice_bounds-write-end c =
    let fits = room_for (cut_reports _) (cut_need _ c.requires) c.args.indices.now _ _ _ c.least-room.ensures.value refl c.from-a.ensures c.triangulate_ear_clipping.ensures.number c.triangulate_ear_clipping.ensures.count c.triangulate_ear_clipping.ensures.indices _ c.tripled.ensures in
    sym (length-take-le _ _ fits.0)

pub write-requires : goal.write-requires
write-requires c =
    let fits = room_for (cut_reports _) (cut_need _ c.requires) c.args.indices.now _ _ _ c.least-room.ensures.value refl c.from-a.ensures c.triangulate_ear_clipping.ensures.number c.triangulate_ear_clipping.ensures.count c.triangulate_ear_clipping.ensures.indices _ c.tripled.ensures in
    omega (arith, fits.1, length-take-le _ _ fits.0)

pub returns : goal.returns
returns c =
    gives (cut_reports _) (cut_need _ c.requires) c.args.indices.now _ _ _ c.least-room.ensures.value refl c.from-a.ensures c.triangulate_ear_clipping.ensures.number c.triangulate_ear_clipping.ensures.count c.triangulate_ear_clipping.ensures.indices _ c.tripled.ensures c.write.ensures
