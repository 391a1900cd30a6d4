-- How far a point is in the direction of a facet's normal, in floats: on the grid it is the whole number, at most 2^22 in size.
use mathlib.Core.Path.{◌≡◌, refl, sym, ◌∙◌}
use mathlib.Core.Logic.{◌≢◌}
use mathlib.Core.Bool.{Bool, true, false, not, ◌&&◌}
use lib.Dec.{lit≤}
use lib.IntN.{ℤ, pos, neg_ℤ, ◌-ℤ◌}
use lib.Signed.{lt_z, le_z}
use lib.Ieee.{Float, binary32, add, sub, mul, lt, eq, ne}
use Rattle.algebra.proofs.Equal.{impossible, and_true_l, and_true_r, not-true, not-false}
use Rattle.algebra.proofs.Order.{lin, at-, up_neg, dn_neg, lt_z_eq}
use Rattle.rules.specs.Plane.{Pt, turn, right}
use Rattle.rules.specs.Hull.{dot, normal}
use Rattle.hulls.proofs.Directions.{far_from}
use Rattle.grid.specs.declared.point.Point.{Point}
use Rattle.grid.specs.declared.vector.Vector.{Vector}
use Rattle.grid.specs.Points.{pt_of}
use Rattle.grid.proofs.OnGrid.{is_on}
use Rattle.grid.proofs.Value.{Is, Within, lt_is, eq_is, add-within, sub_within, mul-within}
use Rattle.grid.proofs.Turn.{pt_within}

-- a vector between two points of the grid, in floats
pub record Directed (n : Vector) (N : Pt) : Type 0 where
  pub x_is : Within 2048 n.x N.x
  pub y_is : Within 2048 n.y N.y

pub normal_directed :
    (a b : Point) (n : Vector) → n.x ≡ sub binary32 b.y a.y → n.y ≡ sub binary32 a.x b.x → {A B : Pt} → pt_of a ≡ A → pt_of b ≡ B → Directed n (normal A B)
normal_directed a b n e f p q =
    let A = pt_within a (is_on a) in
    let B = pt_within b (is_on b) in
    rw (← p, ← q) (record { x_is = rw e (sub_within binary32 B.1 A.1 (lit≤ tt)); y_is = rw f (sub_within binary32 A.0 B.0 (lit≤ tt)) })

-- v is the point p as a vector
pub far_is :
    {n : Vector} {N : Pt} → Directed n N → (p : Point) {v : Vector} → v.x ≡ p.x → v.y ≡ p.y → {P : Pt} → pt_of p ≡ P → {d : Float}
    → d ≡ add binary32 (mul binary32 n.x v.x) (mul binary32 n.y v.y) → Is d (dot N P)
far_is {n} {N} h p x y q e =
    let P = pt_within p (is_on p) in
    rw (e, x, y, ← q) (add-within binary32 (mul-within binary32 h.x_is P.0 (lit≤ tt)) (mul-within binary32 h.y_is P.1 (lit≤ tt)) (lit≤ tt)).is

-- n is the normal of the facet from a to b, and a is as far in its direction as the limit
pub record Facing (n : Vector) (limit : Float) (a b : Pt) : Type 0 where
  pub directed : Directed n (normal a b)
  pub limited : Is limit (dot (normal a b) a)

pub facing :
    (a b : Point) (n : Vector) {v : Vector} {limit : Float} → n.x ≡ sub binary32 b.y a.y → n.y ≡ sub binary32 a.x b.x → v.x ≡ a.x → v.y ≡ a.y
    → limit ≡ add binary32 (mul binary32 n.x v.x) (mul binary32 n.y v.y) → {A B : Pt} → pt_of a ≡ A → pt_of b ≡ B → Facing n limit A B
facing a b n e f x y l p q = let d = normal_directed a b n e f p q in record { directed = d; limited = far_is d a x y p l }

-- to see a facet is to be farther than its beginning, and to be on its line is to be as far
farther : (d e t : ℤ) → d -ℤ e ≡ neg_ℤ t → lt_z e d ≡ lt_z t (pos 0)
farther d e t i = lt_z_eq {a = e} {b = d} {c = t} {d = pos 0} (λ h. omega (lin, at- d e, up_neg t, dn_neg t)) (λ h. omega (lin, at- d e, up_neg t, dn_neg t))

as_far : (d e t : ℤ) → d -ℤ e ≡ neg_ℤ t → (le_z d e && le_z e d) ≡ true → t ≡ pos 0
as_far d e t i h =
    let p = and_true_l (le_z d e) (le_z e d) h in
    let q = and_true_r (le_z d e) (le_z e d) h in
    omega (lin, at- d e, up_neg t, dn_neg t)

not_as_far : (d e t : ℤ) → d -ℤ e ≡ neg_ℤ t → (le_z d e && le_z e d) ≡ false → t ≢ pos 0
not_as_far d e t i h z = go (le_z d e) (le_z e d) refl refl h
  where
    go : (s u : Bool) → le_z d e ≡ s → le_z e d ≡ u → (s && u) ≡ false → ⊥
    go true true p q h = impossible (cc)
    go true false p q h = omega (lin, at- d e, up_neg t, dn_neg t)
    go false u p q h = omega (lin, at- d e, up_neg t, dn_neg t)

ne_is : (x y : Float) → ne x y ≡ not (eq x y)
unfolding ne
ne_is x y = refl

module _ (a b p : Pt) {limit far : Float} (l : Is limit (dot (normal a b) a)) (f : Is far (dot (normal a b) p)) where
  pub sees_is : lt limit far ≡ right a b p
  sees_is = lt_is limit far (dot (normal a b) a) (dot (normal a b) p) l f ∙ farther (dot (normal a b) p) (dot (normal a b) a) (turn a b p) (far_from a b p)

  equal : eq far limit ≡ (le_z (dot (normal a b) p) (dot (normal a b) a) && le_z (dot (normal a b) a) (dot (normal a b) p))
  equal = eq_is far limit (dot (normal a b) p) (dot (normal a b) a) f l

  pub straight_is : ne far limit ≡ false → turn a b p ≡ pos 0
  straight_is e = as_far (dot (normal a b) p) (dot (normal a b) a) (turn a b p) (far_from a b p) (sym equal ∙ not-false (eq far limit) (sym (ne_is far limit) ∙ e))

  pub off_is : ne far limit ≡ true → turn a b p ≢ pos 0
  off_is e = not_as_far (dot (normal a b) p) (dot (normal a b) a) (turn a b p) (far_from a b p) (sym equal ∙ not-true (eq far limit) (sym (ne_is far limit) ∙ e))
