-- The turns that a join would make.
use mathlib.Core.Path.{◌≡◌, refl, ◌∙◌, ap}
use Prim.Native.Nat.{ℕ}
use mathlib.Core.List.{List}
use denote.Enum.Bare.{sameb}
use Rattle.rules.specs.Plane.{Pt, turn, point, turns_right}
use Rattle.grid.specs.declared.point_in_triangle.Orientation.{Orientation}
use Rattle.grid.specs.declared.point_in_triangle.Orientation.TheVariants.{Ccw, Cw, None}
use Rattle.grid.specs.contracts.point_in_triangle.Orientation.{the_type}
use Rattle.grid.specs.Points.{orientation, is_cw}
use Rattle.grid.proofs.Turn.{cw_right}

is_clockwise : (d : Orientation) → sameb the_type d Cw ≡ is_cw d
is_clockwise Ccw = refl
is_clockwise Cw = refl
is_clockwise None = refl

pub turned : (ps : List Pt) (a b c : ℕ) {p q r : Pt} → p ≡ point ps a → q ≡ point ps b → r ≡ point ps c → {d : Orientation} → d ≡ orientation (turn p q r)
    → sameb the_type d Cw ≡ turns_right ps a b c
turned ps a b c {p} {q} {r} is_a is_b is_c {d} is = is_clockwise d ∙ ap is_cw is ∙ cw_right (turn p q r) ∙ rw (is_a, is_b, is_c)
