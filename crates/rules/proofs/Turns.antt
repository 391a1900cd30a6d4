-- Laws of turns and crossings: the ring solver's identities, and what they say of the tests.
use mathlib.Core.Path.{◌≡◌, refl, sym, ◌∙◌, ap, ap₂}
use mathlib.Core.Bool.{Bool, ◌&&◌, ◌||◌, or_comm}
use mathlib.Core.List.{List, [], ◌∷◌}
use lib.IntN.{ℤ, pos, neg_ℤ, ◌+ℤ◌}
use lib.Signed.{lt_z, le_z}
use Rattle.algebra.specs.Reify.{reify}
use Rattle.algebra.proofs.Solve.{ring}
use Rattle.algebra.proofs.Order.{lin, up_neg, dn_neg, lt_z_eq}
use Rattle.rules.specs.Plane.{Pt, cross, turn, right}
use Rattle.rules.specs.Crossing.{perp, upward, downward, crossed}

abbrev pub coordinates : List Pt → List ℤ
coordinates [] = []
coordinates (p ∷ l) = p.x ∷ p.y ∷ coordinates l

-- ---- turns

pub turn_rotates : (a b c : Pt) → turn a b c ≡ turn b c a
turn_rotates a b c = ring (coordinates (a ∷ b ∷ c ∷ [])) (search reify depth 12) (search reify depth 12) refl

pub right_rotates : (a b c : Pt) → right a b c ≡ right b c a
right_rotates a b c = ap (λ (z : ℤ). lt_z z (pos 0)) (turn_rotates a b c)

-- a triangle's doubled area is its turn
pub turn-edges : (a b c : Pt) → cross a b +ℤ (cross b c +ℤ (cross c a +ℤ pos 0)) ≡ turn a b c
turn-edges a b c = ring (coordinates (a ∷ b ∷ c ∷ [])) (search reify depth 12) (search reify depth 12) refl

pub turn_none : (a b : Pt) → turn a b a ≡ pos 0
turn_none a b = ring (coordinates (a ∷ b ∷ [])) (search reify depth 12) (search reify depth 12) refl

pub turn-same : (a b : Pt) → turn a a b ≡ pos 0
turn-same a b = ring (coordinates (a ∷ b ∷ [])) (search reify depth 12) (search reify depth 12) refl

pub turn_end : (a b : Pt) → turn a b b ≡ pos 0
turn_end a b = ring (coordinates (a ∷ b ∷ [])) (search reify depth 12) (search reify depth 12) refl

pub turn-back : (a b c : Pt) → turn b a c ≡ neg_ℤ (turn a b c)
turn-back a b c = ring (coordinates (a ∷ b ∷ c ∷ [])) (search reify depth 12) (search reify depth 12) refl

pub cross-back : (a b : Pt) → cross a b +ℤ cross b a ≡ pos 0
cross-back a b = ring (coordinates (a ∷ b ∷ [])) (search reify depth 12) (search reify depth 12) refl

pub below_neg : (z : ℤ) → lt_z (pos 0) (neg_ℤ z) ≡ lt_z z (pos 0)
below_neg z = lt_z_eq {a = pos 0} {b = neg_ℤ z} {c = z} {d = pos 0} (λ h. omega (lin, up_neg z, dn_neg z)) (λ h. omega (lin, up_neg z, dn_neg z))

pub above_neg : (z : ℤ) → lt_z (neg_ℤ z) (pos 0) ≡ lt_z (pos 0) z
above_neg z = lt_z_eq {a = neg_ℤ z} {b = pos 0} {c = pos 0} {d = z} (λ h. omega (lin, up_neg z, dn_neg z)) (λ h. omega (lin, up_neg z, dn_neg z))

-- ---- crossings: (p - a) x (b - a) is below zero where a, b, p turn left, and above where they turn right

pub perp-turn : (p a b : Pt) → perp p a b ≡ neg_ℤ (turn a b p)
perp-turn p a b = ring (coordinates (a ∷ b ∷ p ∷ [])) (search reify depth 12) (search reify depth 12) refl

pub perp_none : (p a : Pt) → perp p a a ≡ pos 0
perp_none p a = ring (coordinates (p ∷ a ∷ [])) (search reify depth 12) (search reify depth 12) refl

pub perp-back : (p a b : Pt) → perp p b a ≡ neg_ℤ (perp p a b)
perp-back p a b = ring (coordinates (a ∷ b ∷ p ∷ [])) (search reify depth 12) (search reify depth 12) refl

-- an edge is crossed upward where its reverse is crossed downward
up_down : (p a b : Pt) → downward p b a ≡ upward p a b
up_down p a b = ap (λ (t : Bool). le_z a.y p.y && (lt_z p.y b.y && t)) (ap (lt_z (pos 0)) (perp-back p a b) ∙ below_neg (perp p a b))

pub crossed-back : (p a b : Pt) → crossed p a b ≡ crossed p b a
crossed-back p a b = ap₂ (λ s t. s || t) (sym (up_down p a b)) (up_down p b a) ∙ or_comm (downward p b a) (upward p b a)
