-- The point tests' promise over the bytes.
use mathlib.Core.Path.{◌≡◌, ◌∙◌, ap}
use mathlib.Core.List.{List}
use Rattle.std.specs.Prelude.{Result}
use lib.Ieee.{Float}
use Rattle.rules.specs.Plane.{Pt}
use Rattle.rules.specs.Border.{Position, position_number}
use Rattle.rules.specs.Entries.{asking}
use Rattle.entries.specs.declared.Refusal.{Refusal}
use Rattle.entries.specs.Refusals.{refused}
use Rattle.point_in_poly2d.specs.Positions.{answer_of, Answered}
use Rattle.point_in_poly2d.specs.declared.Position as Inner
use Rattle.hasplight.specs.Promise.{PointGives}
use Rattle.hasplight.specs.declared.Verdict.{Verdict}

module _ (test : Pt → List Pt → Position) (x y : Float) (cs : List Float) where
  -- what is answered told as two numbers
  pub asked-told : (asked : Result Inner.Position Refusal) (r : Verdict) → Answered (asking test x y cs) asked → (r.number ≡ refused asked) × (r.answer ≡ position_number (answer_of asked)) → PointGives test x y cs r
  asked-told asked r is (i, j) = record { number = i ∙ is.number; answer = j ∙ ap position_number is.answer }
