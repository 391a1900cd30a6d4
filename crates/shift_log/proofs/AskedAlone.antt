-- A point that is asked of what is in force, in the numbers that stand in the log: 4 where it is off the grid, and else what the test in force
-- says of it and the outline's corners. The outline itself is never the reason of a refusal.
use Prim.Native.Nat.{◌≤◌}
use native.Mathlib.Omega.{arith}
use mathlib.Core.Path.{◌≡◌, refl, ap, ap₂, ◌∙◌}
use mathlib.Core.Bool.{Bool, true, false}
use mathlib.Core.List.{List, [], ◌∷◌}
use mathlib.Core.Option.{some}
use lib.ListN.{length}
use lib.Ieee.{Float}
use Rattle.rules.specs.Limits.{most_points}
use Rattle.rules.specs.Plane.{Pt}
use Rattle.rules.specs.Grid.{points_of}
use Rattle.rules.specs.Refusals.{◌gives◌, first_refusal, point_test_checks}
use Rattle.rules.specs.Entries.{Asking, asking}
use Rattle.rules.specs.Lines.{coordinate, coordinates, off_corners}
use Rattle.rules.specs.Playback.{point, InForce, number, place, told, reply}
use Rattle.rules.proofs.Rows.{row_on, row_off, no_rows, others_decide}
use Rattle.rules.proofs.Fronts.{asked-front}
use Rattle.rules.proofs.Outlines.{Outlined, outline_none}
use Rattle.rules.proofs.FillRows.{even}
use Rattle.rules.proofs.Answers.{asking-number, asking-answered, asking_refused}
use Rattle.rules.proofs.Replies.{Sound, nothing-sound, outline_sound, convex-sound}
use Rattle.point_in_poly2d.specs.Positions.{test_of}
use Rattle.wkt.proofs.Corners.{off_grid_read, points_read, coordinates-length}
use Rattle.shift_log.proofs.Stepping.{asked_by}

-- the corners of what is in force
pub record Corners (s : InForce) : Type 0 where
  pub corners : List Pt
  pub is : s.coords ≡ coordinates corners
  pub few : length corners ≤ most_points
  pub on_grid : off_corners corners ≡ false

pub corners_of_lem : {s : InForce} → Sound s → Corners s
unfolding coordinates off_corners
corners_of_lem nothing-sound = record { corners = []; is = refl; few = omega arith; on_grid = refl }
corners_of_lem (outline_sound cs a b d) = record { corners = cs; is = refl; few = b; on_grid = d }
corners_of_lem (convex-sound cs a d) = record { corners = cs; is = refl; few = omega (arith, a); on_grid = d }

module _ (corners : List Pt) (few : length corners ≤ most_points) (on_grid_lem : off_corners corners ≡ false) (p : Pt) where
  outline : Outlined 0 most_points (coordinates corners)
  outline = record {
    even = rw (coordinates-length corners) (even (length corners));
    at_least = omega arith;
    at_most = omega (arith, ap length (points_read corners on_grid_lem));
    on_grid = off_grid_read corners ∙ on_grid_lem;
  }

  rows : first_refusal (point_test_checks (coordinate p.x) (coordinate p.y) (coordinates corners)) ≡ first_refusal (off_corners (p ∷ []) gives 4 ∷ [])
  unfolding coordinates
  rows =
      others_decide (asked-front (coordinate p.x) (coordinate p.y) (coordinates corners)) (outline_none outline)
      ∙ ap (λ (t : Bool). first_refusal (t gives 4 ∷ [])) (off_grid_read (p ∷ []))

  module _ (convex : Bool) where
    -- the question
    abbrev question : Asking
    question = asking (test_of convex) (coordinate p.x) (coordinate p.y) (coordinates corners)

    number_is : question.number ≡ first_refusal (off_corners (p ∷ []) gives 4 ∷ [])
    number_is = asking-number (test_of convex) (coordinate p.x) (coordinate p.y) (coordinates corners) ∙ rows

    answered : off_corners (p ∷ []) ≡ false → told question ≡ place (test_of convex p corners)
    unfolding points_of coordinates
    answered h =
        let q : points_of (coordinates (p ∷ [])) ≡ p ∷ [] = points_read (p ∷ []) h in
        ap told (asking-answered (test_of convex) (coordinate p.x) (coordinate p.y) (coordinates corners) (number_is ∙ row_off 4 [] h ∙ no_rows))
        ∙ ap₂ (λ (a : Pt) (l : List Pt). place (test_of convex a l)) (cc) (points_read corners on_grid_lem)

    refused : off_corners (p ∷ []) ≡ true → told question ≡ number 4
    refused h =
        let n : question.number ≡ 4 = number_is ∙ row_on 4 [] h in
        ap told (asking_refused (test_of convex) (coordinate p.x) (coordinate p.y) (coordinates corners) (λ z. omega (arith, n, z))) ∙ rw n refl

module _ (s : InForce) (c : Corners s) (p : Pt) where
  asks : reply s (some (point p)) ≡ told (asking (test_of s.convex) (coordinate p.x) (coordinate p.y) (coordinates c.corners))
  unfolding reply
  asks =
      ap told (asked_by s.convex (coordinate p.x) (coordinate p.y) s.coords)
      ∙ ap (λ (l : List Float). told (asking (test_of s.convex) (coordinate p.x) (coordinate p.y) l)) c.is

  pub point-told : off_corners (p ∷ []) ≡ false → reply s (some (point p)) ≡ place (test_of s.convex p c.corners)
  point-told h = asks ∙ answered c.corners c.few c.on_grid p s.convex h

  pub point-off : off_corners (p ∷ []) ≡ true → reply s (some (point p)) ≡ number 4
  point-off h = asks ∙ refused c.corners c.few c.on_grid p s.convex h
