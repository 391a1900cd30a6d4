-- What an edge shows of a spot, by the ways from the spot to its ends.
use mathlib.Core.Path.{◌≡◌, sym, ◌∙◌, ap, ap₂}
use mathlib.Core.Bool.{false, not, ◌&&◌, ◌||◌, and_assoc}
use lib.IntN.{ℤ, pos}
use lib.Signed.{lt_z}
use lib.Ieee.{Float, fin, binary32, add, sub, mul, lt, eq}
use Rattle.algebra.proofs.Order.{le_z_not_lt_z}
use Rattle.rules.specs.Plane.{Pt, turn, left, right}
use Rattle.rules.specs.Crossing.{perp, crossed}
use Rattle.rules.proofs.Turns.{perp-turn, below_neg, above_neg}
use Rattle.grid.specs.declared.point.Point.{Point}
use Rattle.grid.specs.declared.vector.Vector.{Vector}
use Rattle.grid.specs.Points.{pt_of}
use Rattle.point_in_poly2d.specs.Ways.{Way}
use Rattle.point_in_poly2d.specs.Edges.{crossing_of, sides_of}
use Rattle.point_in_poly2d.proofs.Ways.{above_is, left_is, right_is, on_edge_is}

module _ (p a b : Pt) where
  perp-left : lt_z (perp p a b) (pos 0) ≡ left a b p
  perp-left = ap (λ (z : ℤ). lt_z z (pos 0)) (perp-turn p a b) ∙ above_neg (turn a b p)

  perp-right : lt_z (pos 0) (perp p a b) ≡ right a b p
  perp-right = ap (lt_z (pos 0)) (perp-turn p a b) ∙ below_neg (turn a b p)

  -- by which of the edge's ends are above the spot, and on which side of it the spot is
  crossed_is : crossed p a b ≡ ((not (lt_z p.y a.y) && lt_z p.y b.y && left a b p) || (not (lt_z p.y b.y) && lt_z p.y a.y && right a b p))
  crossed_is =
      rw (le_z_not_lt_z a.y p.y, le_z_not_lt_z b.y p.y, perp-left, perp-right)
      (ap₂ ◌||◌ (sym (and_assoc (not (lt_z p.y a.y)) (lt_z p.y b.y) (left a b p))) (sym (and_assoc (not (lt_z p.y b.y)) (lt_z p.y a.y) (right a b p))))

module _ {p : Point} {a b : Pt} {d e : Vector} (u : Way p a d) (v : Way p b e) {t : Float} (is : t ≡ sub binary32 (mul binary32 d.x e.y) (mul binary32 d.y e.x)) where
  abbrev zero_float : Float
  zero_float = fin false 0 (pos 0)

  pub sides_shown : record { left = lt zero_float t; right = lt t zero_float } ≡ sides_of (pt_of p) (record { from = a; to = b })
  sides_shown = λ i. record { left = (left_is u v is ∙ sym (perp-left (pt_of p) a b)) i; right = (right_is u v is ∙ sym (perp-right (pt_of p) a b)) i }

  pub crossing_shown :
      {f : Float} → f ≡ add binary32 (mul binary32 d.x e.x) (mul binary32 d.y e.y)
      → record {
        odd = (not (lt zero_float d.y) && lt zero_float e.y && lt zero_float t) || (not (lt zero_float e.y) && lt zero_float d.y && lt t zero_float);
        touched = eq t zero_float && not (lt zero_float f);
      } ≡ crossing_of (pt_of p) (record { from = a; to = b })
  crossing_shown {f} h = λ i. record { odd = odd_is i; touched = on_edge_is u v is h i }
    where
      odd_is : ((not (lt zero_float d.y) && lt zero_float e.y && lt zero_float t) || (not (lt zero_float e.y) && lt zero_float d.y && lt t zero_float)) ≡ crossed (pt_of p) a b
      odd_is = rw (above_is u, above_is v, left_is u v is, right_is u v is) (sym (crossed_is (pt_of p) a b))
