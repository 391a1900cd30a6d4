-- There and back over the two entries: what was read of a line is written as the line again, and what was written is a line in form, of the
-- points that it was written of.
use Prim.Native.Nat.{ℕ, ◌*◌, ◌≤◌, ◌<◌}
use native.Mathlib.Omega.{arith}
use mathlib.Core.Path.{◌≡◌, refl, sym, ap, subst, ◌∙◌}
use mathlib.Core.Bool.{false}
use mathlib.Core.Logic.{◌≢◌}
use mathlib.Core.List.{List, [], ◌∷◌}
use lib.ListN.{length, take}
use lib.Ieee.{Float}
use borrow.Author.Tests.{le-ltb}
use Rattle.rules.specs.Limits.{most_points}
use Rattle.rules.specs.Plane.{Pt}
use Rattle.rules.specs.Grid.{points_of}
use Rattle.rules.specs.Refusals.{first_refusal}
use Rattle.rules.specs.Text.{polygon_line, InForm}
use Rattle.rules.specs.Lines.{Reads, coordinates, off_corners, polygon_room, polygon_checks, polygon_writer}
use Rattle.rules.proofs.Rows.{row_off, no_rows, others_decide}
use Rattle.rules.proofs.Fronts.{polygon-front}
use Rattle.rules.proofs.Outlines.{Outlined, outline_none}
use Rattle.rules.proofs.FillRows.{even}
use Rattle.rules.proofs.Answers.{writing-number, writing-answered}
use Rattle.rules.proofs.Layouts.{take-over}
use Rattle.rules.proofs.TextLines.{form_of, in_form_one, written_back}
use Rattle.entries.specs.declared.Answer.{Answer}
use Rattle.wkt.specs.Promise.{reading_of, PolygonPromise}
use Rattle.wkt.proofs.Corners.{off_grid_read, points_read, coordinates-length}
use Rattle.wkt.proofs.Outcomes.{Outcome, eleven, three, six, zero, outcome}
use Rattle.wkt.proofs.WriteEntry.{accepted, short}

-- ---- what was written

module _ {cs : List Float} {out text : List ℕ} {s : Answer} (wrote : PolygonPromise cs out s text) where
  number_is : s.number ≡ first_refusal (polygon_checks cs (length out))
  unfolding polygon_writer
  number_is = wrote.number ∙ writing-number (polygon_checks cs (length out)) (polygon_line (points_of cs)) out

  module _ (ok : s.number ≡ 0) where
    none : first_refusal (polygon_checks cs (length out)) ≡ 0
    none = sym number_is ∙ ok

    written-text : take s.count text ≡ polygon_line (points_of cs)
    unfolding polygon_writer
    written-text =
        rw (wrote.count, wrote.text, writing-answered (polygon_checks cs (length out)) (polygon_line (points_of cs)) out none) (take-over (polygon_line (points_of cs)) out)

    -- it is a line in form, whose corners are the points
    pub written_in_form : InForm (take s.count text) (points_of cs)
    written_in_form =
        let a = accepted cs out none in
        rw written-text (form_of (points_of cs) (λ e. omega (arith, a.at_least, ap length e)) (omega (arith, short cs out none, a.at_most)))

-- ---- what was read, written again

-- no row of the writer applies to the coordinates of corners on the grid, where there is room
none_applies : (corners : List Pt) → corners ≢ [] → length corners ≤ most_points → off_corners corners ≡ false → (room : ℕ) → polygon_room (length corners) ≤ room
    → first_refusal (polygon_checks (coordinates corners) room) ≡ 0
none_applies corners some few on_grid_lem room fits =
    let cs = coordinates corners in
    let n : length (points_of cs) ≡ length corners = ap length (points_read corners on_grid_lem) in
    let outline : Outlined 1 most_points cs = record {
      even = rw (coordinates-length corners) (even (length corners));
      at_least = omega (arith, not-empty corners some);
      at_most = omega arith;
      on_grid = off_grid_read corners ∙ on_grid_lem;
    } in
    others_decide (polygon-front cs room) (outline_none outline) ∙ row_off 6 [] (le-ltb room (polygon_room (length (points_of cs))) (omega arith)) ∙ no_rows
  where
    not-empty : (l : List Pt) → l ≢ [] → 0 < length l
    not-empty [] h = absurd (h refl)
    not-empty (p ∷ l) h = omega arith

module _ {line : List ℕ} {coords after : List Float} {r : Answer} (reads : Reads line coords (reading_of r after)) (ok : r.number ≡ 0) where
  record Given : Type 0 where
    corners : List Pt
    form : InForm line corners
    few : length corners ≤ most_points
    held : take (2 * r.count) after ≡ coordinates corners

  given : Given
  given = go (outcome reads)
    where
      go : Outcome line (length coords) (reading_of r after) → Given
      go (eleven h e) = absurd (omega arith)
      go (three f h e) = absurd (omega arith)
      go (six f h k e) = absurd (omega arith)
      go (zero {corners = corners} f few e n held) = record { corners = corners; form = f; few = few; held = ap (λ (k : ℕ). take (2 * k) after) n ∙ held }

  module _ {out text : List ℕ} {s : Answer} (wrote : PolygonPromise (take (2 * r.count) after) out s text) where
    -- the line is written, where any is
    pub same_line : s.number ≡ 0 → take s.count text ≡ line
    same_line done =
        let g = given in
        let off : off_corners g.corners ≡ false = sym (off_grid_read g.corners) ∙ (subst (λ (cs : List Float). Outlined 1 most_points cs) g.held (accepted _ out (none wrote done))).on_grid in
        written-text wrote done ∙ ap (λ (cs : List Float). polygon_line (points_of cs)) g.held ∙ ap polygon_line (points_read g.corners off) ∙ written_back line g.corners g.form

    -- and one is, where the corners are on the grid and there is room
    pub line-written : (corners : List Pt) → InForm line corners → off_corners corners ≡ false → polygon_room (length corners) ≤ length out → s.number ≡ 0
    line-written corners form on_grid_lem room =
        let same : given.corners ≡ corners = in_form_one line given.corners corners given.form form in
        let few : length corners ≤ most_points = subst (λ (l : List Pt). length l ≤ most_points) same given.few in
        number_is wrote
        ∙ ap (λ (cs : List Float). first_refusal (polygon_checks cs (length out))) (given.held ∙ ap coordinates same)
        ∙ none_applies corners form.some_corner few on_grid_lem (length out) room
