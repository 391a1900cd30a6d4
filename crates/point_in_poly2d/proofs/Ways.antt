-- The ways from the asked point to the ends of an edge, as floats: what they and their products say of heights, of the turn, and of the edge itself.
use mathlib.Core.Path.{◌≡◌, ◌∙◌, ap, ap₂}
use mathlib.Core.Bool.{false, not, ◌&&◌}
use lib.Dec.{lit≤}
use lib.IntN.{pos, ◌-ℤ◌}
use lib.Signed.{lt_z, le_z}
use lib.Ieee.{Float, fin, binary32, add, sub, mul, lt, eq}
use Rattle.algebra.proofs.Order.{lt_z_eq, <ℤ→sub, sub→<ℤ}
use Rattle.rules.specs.Plane.{Pt, minus, turn, left, right}
use Rattle.rules.specs.Border.{on_edge}
use Rattle.rules.proofs.Turns.{turn_rotates}
use Rattle.grid.specs.declared.point.Point.{Point}
use Rattle.grid.specs.declared.vector.Vector.{Vector}
use Rattle.grid.specs.Points.{pt_of}
use Rattle.grid.proofs.Value.{Within, add-within, sub_within, mul-within, eq_is}
use Rattle.grid.proofs.OnGrid.{is_on}
use Rattle.grid.proofs.Turn.{pt_within, zero_is, above_zero, below_zero}
use Rattle.point_in_poly2d.specs.Ways.{Way}
use Rattle.point_in_poly2d.proofs.Dots.{dot, on_edge_by_dot}

-- ---- one way

module _ {p : Point} {a : Pt} {d : Vector} (u : Way p a d) where
  x-within : Within 2048 d.x (a.x -ℤ (pt_of p).x)
  x-within = rw (u.x_is, ← u.end_is) (sub_within binary32 (pt_within u.end (is_on u.end)).0 (pt_within p (is_on p)).0 (lit≤ tt))

  y-within : Within 2048 d.y (a.y -ℤ (pt_of p).y)
  y-within = rw (u.y_is, ← u.end_is) (sub_within binary32 (pt_within u.end (is_on u.end)).1 (pt_within p (is_on p)).1 (lit≤ tt))

  pub above_is : lt (fin false 0 (pos 0)) d.y ≡ lt_z (pt_of p).y a.y
  above_is = above_zero y-within.is ∙ lt_z_eq {a = pos 0} {b = a.y -ℤ (pt_of p).y} {c = (pt_of p).y} {d = a.y} sub→<ℤ <ℤ→sub

-- ---- the ways to both ends of an edge

module _ {p : Point} {a b : Pt} {d e : Vector} (u : Way p a d) (v : Way p b e) where
  turn-within : {t : Float} → t ≡ sub binary32 (mul binary32 d.x e.y) (mul binary32 d.y e.x) → Within 8388608 t (turn a b (pt_of p))
  turn-within i =
      rw (i, ← turn_rotates (pt_of p) a b)
      (sub_within binary32 (mul-within binary32 (x-within u) (y-within v) (lit≤ tt)) (mul-within binary32 (y-within u) (x-within v) (lit≤ tt)) (lit≤ tt))

  module _ {t : Float} (i : t ≡ sub binary32 (mul binary32 d.x e.y) (mul binary32 d.y e.x)) where
    pub left_is : lt (fin false 0 (pos 0)) t ≡ left a b (pt_of p)
    left_is = above_zero (turn-within i).is

    pub right_is : lt t (fin false 0 (pos 0)) ≡ right a b (pt_of p)
    right_is = below_zero (turn-within i).is

  -- the turn is straight and the ways' dot product isn't above zero
  pub on_edge_is : {t f : Float} → t ≡ sub binary32 (mul binary32 d.x e.y) (mul binary32 d.y e.x) → f ≡ add binary32 (mul binary32 d.x e.x) (mul binary32 d.y e.y)
      → (eq t (fin false 0 (pos 0)) && not (lt (fin false 0 (pos 0)) f)) ≡ on_edge (pt_of p) a b
  on_edge_is {t} {f} i j = ap₂ ◌&&◌ level (ap not dots) ∙ on_edge_by_dot a b (pt_of p)
    where
      level : eq t (fin false 0 (pos 0)) ≡ (le_z (turn a b (pt_of p)) (pos 0) && le_z (pos 0) (turn a b (pt_of p)))
      level = eq_is t (fin false 0 (pos 0)) (turn a b (pt_of p)) (pos 0) (turn-within i).is zero_is

      dots : lt (fin false 0 (pos 0)) f ≡ lt_z (pos 0) (dot (minus a (pt_of p)) (minus b (pt_of p)))
      dots =
          let w = add-within binary32 (mul-within binary32 (x-within u) (x-within v) (lit≤ tt)) (mul-within binary32 (y-within u) (y-within v) (lit≤ tt)) (lit≤ tt) in
          ap (lt (fin false 0 (pos 0))) j ∙ above_zero w.is
