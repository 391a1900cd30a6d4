-- The square of a vector's length as a whole number: it is at most 2 ^ 23, and its float turns back into it.
use Rattle.std.proofs.Common.{◌≡◌, ◌^◌, ◌≤◌, false, T, pos, nat_abs, sym, ap, ◌∙◌, arith}
use lib.Ieee.{Float, fin, binary32, add, mul, div, of_int, in_unsigned, to_unsigned}
use Rattle.rules.specs.Root.{root, reciprocal, pointiness}
use Rattle.rules.specs.Plane.{Pt, minus}
use Rattle.rules.proofs.GridSizes.{Side, side, square_of, square_own, square_small}
use Rattle.rules.proofs.Pointiness.{reciprocal_is, pointiness_is}
use Rattle.grid.specs.declared.point.Point.{Point}
use Rattle.grid.specs.Points.{pt_of}
use Rattle.grid.proofs.OnGrid.{is_on}
use Rattle.grid.proofs.Value.{whole_back}
use Rattle.grid.proofs.Turn.{grid_point}
use Rattle.grid.proofs.Sides.{side_squares}

-- ---- a vector between grid points: the square of its length, and that its float turns back into it

side_of : (q p : Point) → Side (minus (pt_of q) (pt_of p))
side_of q p = side (grid_point q (is_on q)) (grid_point p (is_on p))

pub radicand_small : (q p : Point) → nat_abs (square_of (minus (pt_of q) (pt_of p))) ≤ 2 ^ 23
radicand_small q p = square_small (side_of q p)

pub radicand_back :
    (q p : Point) {dx dy x : Float} → dx ≡ of_int binary32 (minus (pt_of q) (pt_of p)).x → dy ≡ of_int binary32 (minus (pt_of q) (pt_of p)).y
    → x ≡ add binary32 (mul binary32 dx dx) (mul binary32 dy dy) → T (in_unsigned binary32 32 x) × (to_unsigned 32 x ≡ nat_abs (square_of (minus (pt_of q) (pt_of p))))
radicand_back q p {x} i j e =
    let d = minus (pt_of q) (pt_of p) in
    whole_back x (nat_abs (square_of d)) (e ∙ side_squares (side_of q p) i j ∙ ap (of_int binary32) (square_own d)) (omega (arith, radicand_small q p))

-- ---- what the rules make of the root of it

pub reciprocal_of : {len : Float} (d : Pt) → len ≡ root (nat_abs (square_of d)) → div binary32 (fin false 1 (pos 0)) len ≡ reciprocal d
reciprocal_of d e = ap (div binary32 (fin false 1 (pos 0))) e ∙ sym (reciprocal_is d)

pub pointiness_of :
    {vx vy wx wy : Float} (d e : Pt)
    → vx ≡ mul binary32 (of_int binary32 d.x) (reciprocal d) → vy ≡ mul binary32 (of_int binary32 d.y) (reciprocal d)
    → wx ≡ mul binary32 (of_int binary32 e.x) (reciprocal e) → wy ≡ mul binary32 (of_int binary32 e.y) (reciprocal e)
    → add binary32 (mul binary32 vx wx) (mul binary32 vy wy) ≡ pointiness d e
pointiness_of d e a b f g = rw (a, b, f, g) (sym (pointiness_is d e))
