-- `hull` meets its contract.
use native.Mathlib.Omega.{arith}
use mathlib.Core.Path.{refl, sym}
use lib.Seq.{length-take-le}
use Rattle.hasplight.proofs.Lending.{room_for, gives}
use Rattle.hasplight.proofs.Hulling.{hull_reports, hull_need}
use Rattle.hasplight.proofs.hull.hull.Goals as goal

pub slice_bounds-out-end-2 : goal.slice_bounds-out-end-2
slice_bounds-out-end-2 c =
    (room_for (hull_reports _) (hull_need _ c.requires) c.args.indices.now _ _ _ c.least-room.ensures.value refl c.from-a.ensures c.convex_hull2_idx.ensures.number c.convex_hull2_idx.ensures.count c.convex_hull2_idx.ensures.indices _ refl).0

pub slice_bounds-write-end : goal.slice_bounds-write-end
slice_bounds-write-end c =
    let fits = room_for (hull_reports _) (hull_need _ c.requires) c.args.indices.now _ _ _ c.least-room.ensures.value refl c.from-a.ensures c.convex_hull2_idx.ensures.number c.convex_hull2_idx.ensures.count c.convex_hull2_idx.ensures.indices _ refl in
    sym (length-take-le _ _ fits.0)

pub write-requires : goal.write-requires
write-requires c =
    let fits = room_for (hull_reports _) (hull_need _ c.requires) c.args.indices.now _ _ _ c.least-room.ensures.value refl c.from-a.ensures c.convex_hull2_idx.ensures.number c.convex_hull2_idx.ensures.count c.convex_hull2_idx.ensures.indices _ refl in
    omega (arith, fits.1, length-take-le _ _ fits.0)

pub returns : goal.returns
returns c =
    gives (hull_reports _) (hull_need _ c.requires) c.args.indices.now _ _ _ c.least-room.ensures.value refl c.from-a.ensures c.convex_hull2_idx.ensures.number c.convex_hull2_idx.ensures.count c.convex_hull2_idx.ensures.indices _ refl c.write.ensures
