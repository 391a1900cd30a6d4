-- Which rows of each entry stand in front of which: an outline's in front of every entry's own.
use Prim.Native.Nat.{ℕ}
use mathlib.Core.Path.{refl}
use mathlib.Core.List.{List, [], ◌∷◌, ◌++◌}
use lib.Dec.{ltb}
use lib.ListN.{length}
use lib.Ieee.{Float}
use Rattle.rules.specs.Limits.{most_points}
use Rattle.rules.specs.Grid.{points_of}
use Rattle.rules.specs.Refusals.{◌gives◌, off_grid, equal_neighbours, area_not_above_zero, no_ear, short_to_cut, count_checks, outline_checks, ring_checks, before_cutting, cutter_checks, list_checks, before_triangles, triangle_checks, merger_checks, point_test_checks, cloud_checks, hull_checks}
use Rattle.rules.specs.Lines.{polygon_room, polygon_checks}
use Rattle.rules.proofs.Rows.{Front}

-- ---- an outline

pub count-front : (least most : ℕ) (cs : List Float) → Front (count_checks least most (length cs)) (off_grid cs gives 4 ∷ []) (outline_checks least most cs)
unfolding count_checks outline_checks
count-front least most cs = record { whole = refl; numbered = refl }

-- ---- the cutter

pub cutter-front : (cs : List Float) (room : ℕ) → Front (outline_checks 3 most_points cs) (ring_checks (points_of cs) (short_to_cut (points_of cs) room)) (before_cutting cs room)
unfolding count_checks outline_checks before_cutting
cutter-front cs room = record { whole = refl; numbered = refl }

pub thirteen_front :
    (cs : List Float) (room : ℕ)
    → Front (outline_checks 3 most_points cs ++ (equal_neighbours (points_of cs) gives 5 ∷ []))
    (area_not_above_zero (points_of cs) gives 13 ∷ short_to_cut (points_of cs) room gives 6 ∷ no_ear (points_of cs) gives 7 ∷ [])
    (cutter_checks cs room)
unfolding count_checks outline_checks before_cutting cutter_checks
thirteen_front cs room = record { whole = refl; numbered = refl }

pub seven_front : (cs : List Float) (room : ℕ) → Front (before_cutting cs room) (no_ear (points_of cs) gives 7 ∷ []) (cutter_checks cs room)
unfolding count_checks outline_checks before_cutting cutter_checks
seven_front cs room = record { whole = refl; numbered = refl }

-- ---- the merger

pub list_front : (cs : List Float) (indices : ℕ) → Front (outline_checks 0 most_points cs) (list_checks indices) (before_triangles cs indices)
unfolding count_checks outline_checks before_triangles
list_front cs indices = record { whole = refl; numbered = refl }

pub triangles-front :
    (cs : List Float) (triangles : List ℕ) (room room_for_lengths : ℕ)
    → Front (before_triangles cs (length triangles)) (triangle_checks (points_of cs) triangles room room_for_lengths) (merger_checks cs triangles room room_for_lengths)
unfolding count_checks outline_checks list_checks before_triangles merger_checks
triangles-front cs triangles room room_for_lengths = record { whole = refl; numbered = refl }

-- ---- the point tests

pub asked-front : (x y : Float) (cs : List Float) → Front (outline_checks 0 most_points cs) (off_grid (x ∷ y ∷ []) gives 4 ∷ []) (point_test_checks x y cs)
unfolding count_checks outline_checks point_test_checks
asked-front x y cs = record { whole = refl; numbered = refl }

-- ---- the hull

pub cloud_front : (cs : List Float) (room : ℕ) → Front (outline_checks 2 most_points cs) (cloud_checks (points_of cs) room) (hull_checks cs room)
unfolding count_checks outline_checks hull_checks
cloud_front cs room = record { whole = refl; numbered = refl }

-- ---- the writer of a POLYGON line

pub polygon-front : (cs : List Float) (room : ℕ) → Front (outline_checks 1 most_points cs) (ltb room (polygon_room (length (points_of cs))) gives 6 ∷ []) (polygon_checks cs room)
unfolding count_checks outline_checks polygon_checks
polygon-front cs room = record { whole = refl; numbered = refl }
