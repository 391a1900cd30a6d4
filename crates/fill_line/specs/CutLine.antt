-- A line whose outline is refused, or was read and cut.
use Rattle.std.specs.Prelude.{ℕ, ◌*◌, ◌≡◌, cond, List, ltb, length, Float}
use Rattle.rules.specs.Limits.{most_indices}
use Rattle.rules.specs.Plane.{Pt}
use Rattle.rules.specs.Grid.{points_of}
use Rattle.rules.specs.Layout.{flatten}
use Rattle.rules.specs.Refusals.{first_refusal}
use Rattle.rules.specs.Entries.{triangles_for}
use Rattle.rules.specs.Text.{InForm, NotInForm}
use Rattle.rules.specs.Lines.{fill_room, fill_checks}

-- how many indices are lent to the cutter for n corners: where there is no room for the text, none
abbrev pub lent_for : ℕ → ℕ → ℕ
lent_for n room = cond (ltb room (fill_room n)) 0 most_indices

pub data LineRefused (line : List ℕ) (room number : ℕ) : Type 0 where
  not_in_form : NotInForm line → number ≡ 11 → LineRefused line room number
  in_form : {corners : List Pt} → InForm line corners → number ≡ first_refusal (fill_checks corners room) → LineRefused line room number

-- its coordinates, and its triangles' indices
pub record LineCut (line : List ℕ) (room : ℕ) (coords : List Float) (indices : List ℕ) : Type 0 where
  pub corners : List Pt
  pub form : InForm line corners
  pub accepted : first_refusal (fill_checks corners room) ≡ 0
  pub size : length coords ≡ 2 * length corners
  pub points : points_of coords ≡ corners
  pub triangles : indices ≡ flatten (triangles_for corners)
