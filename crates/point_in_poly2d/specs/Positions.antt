-- What comes back of the point tests, and what it says.
use Rattle.std.specs.Prelude.{◌≡◌, Bool, true, false, List, Result, Ok, Err}
use Rattle.rules.specs.Plane.{Pt}
use Rattle.rules.specs.Border as Rules
use Rattle.rules.specs.Border.{outside, inside, border, position, convex_position}
use Rattle.rules.specs.Entries.{Asking}
use Rattle.entries.specs.declared.Refusal.{Refusal}
use Rattle.entries.specs.Refusals.{refused}
use Rattle.point_in_poly2d.specs.declared.Position.{Position}
use Rattle.point_in_poly2d.specs.declared.Position.TheVariants.{Outside, Inside, Border}

abbrev pub position_of : Position → Rules.Position
position_of Outside = outside
position_of Inside = inside
position_of Border = border

-- outside beside a refusal
abbrev pub answer_of : Result Position Refusal → Rules.Position
answer_of (Ok p) = position_of p
answer_of (Err r) = outside

-- the number and the answer are those of the rules
pub record Answered (asked : Asking) (result : Result Position Refusal) : Type 0 where
  pub number : refused result ≡ asked.number
  pub answer : answer_of result ≡ asked.answer

-- the convex test, or the outline test
abbrev pub test_of : Bool → Pt → List Pt → Rules.Position
test_of true = convex_position
test_of false = position
