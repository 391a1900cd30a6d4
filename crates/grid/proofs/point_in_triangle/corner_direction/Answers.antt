-- `corner_direction` meets its contract. What it computes is `cross_f`, which is a whole number whose sign tells the turn.
use mathlib.Core.Path.{◌≡◌}
use lib.Ieee.{of_bits}
use Rattle.rules.specs.Plane.{minus, cross}
use Rattle.grid.specs.Points.{pt_of}
use Rattle.grid.proofs.OnGrid.{is_on}
use Rattle.grid.proofs.Value.{Is}
use Rattle.grid.proofs.Turn.{cross-within, cross_f, is_left, is_right, is_straight}
use Rattle.grid.proofs.point_in_triangle.corner_direction.Goals as goal

pub returns-then-cross : goal.returns-then-cross
unfolding of_bits
returns-then-cross c =
    let computed : Is c.perp_dot-cross.result (cross (minus (pt_of c.args.p1) (pt_of c.args.p2)) (minus (pt_of c.args.p3) (pt_of c.args.p2))) = let is : c.perp_dot-cross.result ≡ cross_f c.args.p1 c.args.p2 c.args.p3 = cc in
    rw is (cross-within c.args.p1 c.args.p2 c.args.p3 (is_on c.args.p1) (is_on c.args.p2) (is_on c.args.p3)).is in
    is_left _ (pt_of c.args.p1) (pt_of c.args.p2) (pt_of c.args.p3) computed c.if-cross.true

pub returns-then-cross-2 : goal.returns-then-cross-2
unfolding of_bits
returns-then-cross-2 c =
    let computed : Is c.perp_dot-cross.result (cross (minus (pt_of c.args.p1) (pt_of c.args.p2)) (minus (pt_of c.args.p3) (pt_of c.args.p2))) = let is : c.perp_dot-cross.result ≡ cross_f c.args.p1 c.args.p2 c.args.p3 = cc in
    rw is (cross-within c.args.p1 c.args.p2 c.args.p3 (is_on c.args.p1) (is_on c.args.p2) (is_on c.args.p3)).is in
    is_right _ (pt_of c.args.p1) (pt_of c.args.p2) (pt_of c.args.p3) computed c.if-cross-2.true

pub returns-else-cross-2 : goal.returns-else-cross-2
unfolding of_bits
returns-else-cross-2 c =
    let computed : Is c.perp_dot-cross.result (cross (minus (pt_of c.args.p1) (pt_of c.args.p2)) (minus (pt_of c.args.p3) (pt_of c.args.p2))) = let is : c.perp_dot-cross.result ≡ cross_f c.args.p1 c.args.p2 c.args.p3 = cc in
    rw is (cross-within c.args.p1 c.args.p2 c.args.p3 (is_on c.args.p1) (is_on c.args.p2) (is_on c.args.p3)).is in
    is_straight _ (pt_of c.args.p1) (pt_of c.args.p2) (pt_of c.args.p3) computed c.if-cross.false c.if-cross-2.false
