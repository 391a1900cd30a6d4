-- The difference of two grid values with +0 added first, and the square of a side, bit for bit.
use mathlib.Core.Path.{◌≡◌}
use native.Mathlib.Nat.{le_trans}
use lib.Dec.{lit≤}
use lib.IntN.{ℤ, pos, ◌-ℤ◌}
use mathlib.Core.Bool.{false}
use lib.Ieee.{Float, fin, binary32, add, sub, mul, of_int}
use Rattle.rules.specs.Limits.{grid_edge}
use Rattle.rules.specs.Plane.{Pt}
use Rattle.rules.proofs.GridSizes.{product_small, Side, square_of}
use Rattle.grid.proofs.Value.{Within, of_int_is}
use Rattle.grid.proofs.Canon.{add_zero_canon, sub_canon, dot_self}

pub diff : {x y : Float} {a b : ℤ} → Within grid_edge x a → Within grid_edge y b → sub binary32 (add binary32 x (fin false 0 (pos 0))) y ≡ of_int binary32 (a -ℤ b)
diff {x} {y} {a} {b} i j = rw (add_zero_canon binary32 i.is) (sub_canon binary32 a (le_trans i.small (lit≤ tt)) j.is)

-- of two floats that are an integer's own
pub side_squares : {d : Pt} {dx dy : Float} → Side d → dx ≡ of_int binary32 d.x → dy ≡ of_int binary32 d.y → add binary32 (mul binary32 dx dx) (mul binary32 dy dy) ≡ of_int binary32 (square_of d)
side_squares {d} s e g =
    let X = s.x-small in
    let Y = s.y-small in
    rw (e, g)
    (dot_self binary32 (of_int_is binary32 d.x (le_trans X (lit≤ tt))) (of_int_is binary32 d.y (le_trans Y (lit≤ tt)))
    (le_trans (product_small d.x d.x X X) (lit≤ tt)) (le_trans (product_small d.y d.y Y Y) (lit≤ tt)))
