-- `same` meets its contract: on the grid, floats are equal where their whole numbers are.
use mathlib.Core.Path.{◌≡◌, refl, ◌∙◌}
use mathlib.Core.Bool.{Bool, true, ◌&&◌}
use lib.Ieee.{eq}
use Rattle.rules.specs.Plane.{same}
use Rattle.grid.specs.declared.point.Point.{Point}
use Rattle.grid.specs.Points.{on_grid_pt, pt_of}
use Rattle.grid.proofs.Value.{eq_is}
use Rattle.grid.proofs.OnGrid.{is_on}
use Rattle.grid.proofs.Turn.{pt_within}
use Rattle.grid.proofs.point.Point.same.Goals as goal

by_coordinates :
    (a b : Point) → on_grid_pt a ≡ true → on_grid_pt b ≡ true → {s t : Bool} → eq a.x b.x ≡ s → eq a.y b.y ≡ t → (s && t) ≡ same (pt_of a) (pt_of b)
by_coordinates a b ha hb e f =
    let A = pt_within a ha in
    let B = pt_within b hb in
    rw (← e, ← f, eq_is a.x b.x (pt_of a).x (pt_of b).x A.0.is B.0.is, eq_is a.y b.y (pt_of a).y (pt_of b).y A.1.is B.1.is)

pub returns-then-self-o : goal.returns-then-self-o
returns-then-self-o c =
    by_coordinates c.args.self c.args.o (is_on c.args.self) (is_on c.args.o) c.if-self-o.true refl

pub returns-else-self-o : goal.returns-else-self-o
returns-else-self-o c =
    c.if-self-o.false ∙ by_coordinates c.args.self c.args.o (is_on c.args.self) (is_on c.args.o) c.if-self-o.false refl
