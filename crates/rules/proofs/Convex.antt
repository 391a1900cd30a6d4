-- The convex test at its limits: one corner says true for every point, and two corners say true on their whole line and nowhere else.
use mathlib.Core.Path.{◌≡◌, refl, sym, ◌∙◌, ap}
use mathlib.Core.Bool.{Bool, true, false, not, ◌&&◌, ◌||◌}
use mathlib.Core.List.{[], ◌∷◌}
use lib.IntN.{ℤ, pos, neg_ℤ}
use lib.Signed.{lt_z}
use Rattle.algebra.proofs.Equal.{impossible}
use Rattle.algebra.proofs.Order.{lin, neg_zero}
use Rattle.rules.specs.Plane.{Pt, turn}
use Rattle.rules.specs.Crossing.{perp, inside_convex}
use Rattle.rules.proofs.Turns.{below_neg, above_neg, perp_none, perp-turn, perp-back}

pub convex_none : (p : Pt) → inside_convex p [] ≡ false
unfolding inside_convex
convex_none p = refl

pub convex_one : (p a : Pt) → inside_convex p (a ∷ []) ≡ true
unfolding inside_convex
convex_one p a = ap (λ (z : ℤ). not ((lt_z (pos 0) z || false) && (lt_z z (pos 0) || false))) (perp_none p a)

-- both signs stand among z and -z, unless z is zero
abbrev one_side : ℤ → ℤ → Bool
one_side z w = not ((lt_z (pos 0) z || (lt_z (pos 0) w || false)) && (lt_z z (pos 0) || (lt_z w (pos 0) || false)))

zero_only : (z : ℤ) → one_side z (neg_ℤ z) ≡ true → z ≡ pos 0
zero_only z e = go (lt_z (pos 0) z) refl (lt_z z (pos 0)) refl (rw (above_neg z, below_neg z) at e)
  where
    go : (a : Bool) → lt_z (pos 0) z ≡ a → (b : Bool) → lt_z z (pos 0) ≡ b → not ((lt_z (pos 0) z || (lt_z z (pos 0) || false)) && (lt_z z (pos 0) || (lt_z (pos 0) z || false))) ≡ true → z ≡ pos 0
    go false h false k i = omega lin
    go true h true k i = impossible (cc)
    go true h false k i = impossible (cc)
    go false h true k i = impossible (cc)

convex_two_is : (p a b : Pt) → inside_convex p (a ∷ b ∷ []) ≡ one_side (perp p a b) (neg_ℤ (perp p a b))
unfolding inside_convex
convex_two_is p a b = ap (one_side (perp p a b)) (perp-back p a b)

pub convex_two→line : (p a b : Pt) → inside_convex p (a ∷ b ∷ []) ≡ true → turn a b p ≡ pos 0
convex_two→line p a b e = neg_zero (turn a b p) (sym (perp-turn p a b) ∙ zero_only (perp p a b) (sym (convex_two_is p a b) ∙ e))

pub line→convex_two : (p a b : Pt) → turn a b p ≡ pos 0 → inside_convex p (a ∷ b ∷ []) ≡ true
line→convex_two p a b e = convex_two_is p a b ∙ ap (λ (z : ℤ). one_side z (neg_ℤ z)) (perp-turn p a b ∙ ap neg_ℤ e)
