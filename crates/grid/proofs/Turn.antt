-- The cross product of two vectors between grid points, computed in floats, is the whole number; so a corner's direction is the sign of its turn.
use mathlib.Core.Path.{◌≡◌, refl, sym, ap, ◌∙◌, subst}
use Prim.Native.Nat.{ℕ, zero, suc, ◌+◌, ◌*◌, ◌/◌, ◌%◌}
use native.Mathlib.Nat.{mul-one, div-add-mod', add-zero}
use mathlib.Core.Bool.{true, false}
use lib.Dec.{T, leb, eqb, eqb→eq, lit≤, leb-suc-zero}
use native.Mathlib.Omega.{arith}
use borrow.Author.Tests.{lt-ltb}
use lib.IntN.{ℤ, pos, negsuc, neg_ℤ}
use mathlib.Core.List.{[], ◌∷◌}
use lib.Signed.{lt_z}
use lib.Ieee.{Float, nan, inf, fin, binary32, up, down, sub, mul, lt}
use lib.Ieee.Fits.{and_l, and_r}
use Rattle.algebra.specs.Reify.{reify}
use Rattle.algebra.proofs.Equal.{impossible, T→true}
use Rattle.algebra.proofs.Solve.{ring}
use Rattle.rules.specs.Limits.{grid_edge}
use Rattle.rules.specs.Plane.{Pt, minus, cross, turn}
use Rattle.rules.proofs.Turns.{coordinates}
use Rattle.rules.proofs.GridSizes.{GridPoint, coordinate-small}
use Rattle.grid.specs.declared.point.Point.{Point}
use Rattle.grid.specs.declared.point_in_triangle.Orientation.TheVariants.{Ccw, Cw, None}
use Rattle.rules.specs.Grid.{whole_of, on_grid}
use Rattle.grid.specs.Points.{on_grid_pt, pt_of, orientation, is_ccw, is_cw}
use Rattle.grid.proofs.Value.{Is, Within, lt_is, sub_within, mul-within}

-- a grid value is its whole number
pub grid_within : (x : Float) → T (on_grid x) → Within grid_edge x (whole_of x)
grid_within nan t = absurd t
grid_within (inf s) t = absurd t
grid_within (fin s m e) t =
    let q = m * up e / down e in
    let r : m * up e % down e ≡ 0 = eqb→eq (m * up e % down e) 0 (and_l (eqb (m * up e % down e) 0) (leb q grid_edge) t) in
    let v : m * up e * 1 ≡ q * down e = mul-one (m * up e) ∙ sym (div-add-mod' (m * up e) (down e)) ∙ ap (λ (x : ℕ). q * down e + x) r ∙ add-zero (q * down e) in
    record {
      is = record { s = s; n = q; value = (refl, v); whole = refl };
      small = coordinate-small (fin s m e) (T→true (on_grid (fin s m e)) t);
    }

-- a point's coordinates
pub pt_within : (p : Point) → on_grid_pt p ≡ true → Within grid_edge p.x (whole_of p.x) × Within grid_edge p.y (whole_of p.y)
unfolding on_grid_pt
pt_within p h =
    let t : T (on_grid_pt p) = subst T (sym h) tt in
    (grid_within p.x (and_l (on_grid p.x) (on_grid p.y) t), grid_within p.y (and_r (on_grid p.x) (on_grid p.y) t))

pub grid_point : (p : Point) → on_grid_pt p ≡ true → GridPoint (pt_of p)
grid_point p h = let w = pt_within p h in record { x-small = w.0.small; y-small = w.1.small }

-- the cross product of the vectors from o to a and from o to b, as the code computes it and in whole numbers
abbrev pub cross_f : Point → Point → Point → Float
cross_f a o b =
    sub binary32
    (mul binary32 (sub binary32 a.x o.x) (sub binary32 b.y o.y))
    (mul binary32 (sub binary32 a.y o.y) (sub binary32 b.x o.x))

pub cross-within : (a o b : Point) → on_grid_pt a ≡ true → on_grid_pt o ≡ true → on_grid_pt b ≡ true → Within 8388608 (cross_f a o b) (cross (minus (pt_of a) (pt_of o)) (minus (pt_of b) (pt_of o)))
cross-within a o b ha ho hb =
    let A = pt_within a ha in
    let O = pt_within o ho in
    let B = pt_within b hb in
    sub_within binary32
    (mul-within binary32 (sub_within binary32 A.0 O.0 (lit≤ tt)) (sub_within binary32 B.1 O.1 (lit≤ tt)) (lit≤ tt))
    (mul-within binary32 (sub_within binary32 A.1 O.1 (lit≤ tt)) (sub_within binary32 B.0 O.0 (lit≤ tt)) (lit≤ tt))
    (lit≤ tt)

-- the turn by the two sides that meet in its corner
turn-corner : (a b c : Pt) → turn a b c ≡ neg_ℤ (cross (minus a b) (minus c b))
turn-corner a b c = ring (coordinates (a ∷ b ∷ c ∷ [])) (search reify depth 12) (search reify depth 12) refl

-- ---- what the two tests of the sign say

pub zero_is : Is (fin false 0 (pos 0)) (pos 0)
zero_is = record { s = false; n = 0; value = (refl, refl); whole = refl }

-- a whole-number float against zero
pub above_zero : {t : Float} {z : ℤ} → Is t z → lt (fin false 0 (pos 0)) t ≡ lt_z (pos 0) z
above_zero {t} {z} i = lt_is (fin false 0 (pos 0)) t (pos 0) z zero_is i

pub below_zero : {t : Float} {z : ℤ} → Is t z → lt t (fin false 0 (pos 0)) ≡ lt_z z (pos 0)
below_zero {t} {z} i = lt_is t (fin false 0 (pos 0)) z (pos 0) i zero_is

turned_left : (z : ℤ) → lt_z z (pos 0) ≡ true → Ccw ≡ orientation (neg_ℤ z)
turned_left (pos zero) e = impossible (cc)
turned_left (pos (suc n)) e = impossible (cc (leb-suc-zero (suc n)))
turned_left (negsuc n) e = refl

turned_right : (z : ℤ) → lt_z (pos 0) z ≡ true → Cw ≡ orientation (neg_ℤ z)
turned_right (pos zero) e = impossible (cc)
turned_right (pos (suc n)) e = refl
turned_right (negsuc n) e = impossible (cc)

turned_none : (z : ℤ) → lt_z z (pos 0) ≡ false → lt_z (pos 0) z ≡ false → None ≡ orientation (neg_ℤ z)
turned_none (pos zero) e g = refl
turned_none (pos (suc n)) e g = impossible (cc (lt-ltb 0 (suc n) (omega arith)))
turned_none (negsuc n) e g = impossible (cc)

module _ (t : Float) (a b c : Pt) (i : Is t (cross (minus a b) (minus c b))) where
  pub is_left : lt t (fin false 0 (pos 0)) ≡ true → Ccw ≡ orientation (turn a b c)
  is_left e = turned_left (cross (minus a b) (minus c b)) (sym (below_zero i) ∙ e) ∙ ap orientation (sym (turn-corner a b c))

  pub is_right : lt (fin false 0 (pos 0)) t ≡ true → Cw ≡ orientation (turn a b c)
  is_right e = turned_right (cross (minus a b) (minus c b)) (sym (above_zero i) ∙ e) ∙ ap orientation (sym (turn-corner a b c))

  pub is_straight : lt t (fin false 0 (pos 0)) ≡ false → lt (fin false 0 (pos 0)) t ≡ false → None ≡ orientation (turn a b c)
  is_straight e g = turned_none (cross (minus a b) (minus c b)) (sym (below_zero i) ∙ e) (sym (above_zero i) ∙ g) ∙ ap orientation (sym (turn-corner a b c))

-- ---- what an orientation says of the turn

pub ccw_left : (z : ℤ) → is_ccw (orientation z) ≡ lt_z (pos 0) z
ccw_left (pos zero) = refl
ccw_left (pos (suc n)) = sym (lt-ltb 0 (suc n) (omega arith))
ccw_left (negsuc n) = refl

pub cw_right : (z : ℤ) → is_cw (orientation z) ≡ lt_z z (pos 0)
cw_right (pos zero) = refl
cw_right (pos (suc n)) = sym (leb-suc-zero (suc n))
cw_right (negsuc n) = refl
