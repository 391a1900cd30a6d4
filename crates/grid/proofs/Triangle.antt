-- The triangle test by the directions at its three sides, and points read from coordinates.
use mathlib.Core.Path.{◌≡◌, ◌∙◌, ap}
use mathlib.Core.Bool.{Bool, not, ◌&&◌, ◌||◌}
use Rattle.rules.specs.Plane.{Pt, turn, left, right, in_triangle}
use Rattle.rules.proofs.Turns.{turn_rotates}
use Rattle.grid.specs.declared.point_in_triangle.Orientation.{Orientation}
use Rattle.grid.specs.Points.{orientation, is_ccw, is_cw}
use Rattle.grid.proofs.Turn.{ccw_left, cw_right}

-- the direction that p, a, b take is that of a, b, p
side_left : (p a b : Pt) (d : Orientation) → d ≡ orientation (turn p a b) → is_ccw d ≡ left a b p
side_left p a b d e = ap is_ccw (e ∙ ap orientation (turn_rotates p a b)) ∙ ccw_left (turn a b p)

side_right : (p a b : Pt) (d : Orientation) → d ≡ orientation (turn p a b) → is_cw d ≡ right a b p
side_right p a b d e = ap is_cw (e ∙ ap orientation (turn_rotates p a b)) ∙ cw_right (turn a b p)

module _
    (p a b c : Pt) (d₁ d₂ d₃ : Orientation) (e₁ : d₁ ≡ orientation (turn p a b)) (e₂ : d₂ ≡ orientation (turn p b c)) (e₃ : d₃ ≡ orientation (turn p c a))
    (cw ccw : Bool) (has-cw : cw ≡ (is_cw d₁ || is_cw d₂ || is_cw d₃)) (has-ccw : ccw ≡ (is_ccw d₁ || is_ccw d₂ || is_ccw d₃)) where
  pub in_triangle_lem : not (ccw && cw) ≡ in_triangle a b c p
  in_triangle_lem =
      rw (has-cw, has-ccw, side_left p a b d₁ e₁, side_left p b c d₂ e₂, side_left p c a d₃ e₃, side_right p a b d₁ e₁, side_right p b c d₂ e₂, side_right p c a d₃ e₃)
