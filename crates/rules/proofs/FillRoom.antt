-- The writing of a plan fits the room that filling asks for.
use Prim.Native.Nat.{ℕ, ◌≤◌}
use mathlib.Core.Path.{◌≡◌, refl}
use mathlib.Core.Bool.{false, not}
use mathlib.Core.List.{List, [], ◌∷◌, map}
use native.Mathlib.Omega.{arith}
use lib.Dec.{leb}
use lib.IntN.{nat_abs}
use lib.ListN.{length, length-append, length-map}
use borrow.Author.Tests.{leb-true}
use Rattle.algebra.specs.Lists.{Each}
use Rattle.algebra.proofs.Lists.{each_at, each_imp, each_map, none_passes}
use Rattle.algebra.proofs.Equal.{not-false, or-false}
use Rattle.algebra.specs.Sums.{total, naturals}
use Rattle.rules.specs.Limits.{grid_edge}
use Rattle.rules.specs.Plane.{Pt, point}
use Rattle.rules.specs.Measure.{points}
use Rattle.rules.specs.Layout.{flatten}
use Rattle.rules.specs.Text.{multipolygon_line}
use Rattle.rules.specs.Lines.{off_corner, off_corners, fill_room}
use Rattle.rules.proofs.Layouts.{flat_size, few-pieces}
use Rattle.rules.proofs.GridSizes.{GridPoint}
use Rattle.rules.proofs.TextLengths.{multipolygon_short}
use Rattle.rules.proofs.Plans.{Plan}

pub corners-on_grid : (corners : List Pt) → off_corners corners ≡ false → Each GridPoint corners
unfolding off_corners
corners-on_grid corners e = each_imp on_grid_lem (none_passes off_corner corners e)
  where
    on_grid_lem : (p : Pt) → off_corner p ≡ false → GridPoint p
    on_grid_lem p h =
        let (a, b) = or-false (not (leb (nat_abs p.x) grid_edge)) (not (leb (nat_abs p.y) grid_edge)) h in
        record { x-small = leb-true (nat_abs p.x) grid_edge (not-false _ a); y-small = leb-true (nat_abs p.y) grid_edge (not-false _ b) }

-- how many corners there are in all
corners_in : (ps : List Pt) (rings : List (List ℕ)) → total naturals length (map (points ps) rings) ≡ length (flatten rings)
unfolding flatten
corners_in ps [] = refl
corners_in ps (t ∷ rings) = omega (arith, length-map t (point ps), length-append t (flatten rings), corners_in ps rings)

pub plan_fits : (ps : List Pt) (rings : List (List ℕ)) → Plan ps rings → off_corners ps ≡ false → length (multipolygon_line (map (points ps) rings)) ≤ fill_room (length ps)
plan_fits ps rings plan off =
    let grid = each_map (points ps) (each_imp (λ t h. each_map (point ps) (each_imp (λ i k. each_at _ ps i k (corners-on_grid ps off)) h)) plan.below) in
    omega (arith, multipolygon_short (map (points ps) rings) grid, length-map rings (points ps), corners_in ps rings, flat_size plan.three, few-pieces plan.three, plan.size)
