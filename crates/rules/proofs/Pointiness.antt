-- An ear's pointiness is a finite number, at most 2^23 in size: the corner differs from its neighbours, as the turn is left, so both roots are at least 1
-- and their reciprocals at most 1; on the grid a product is then at most 2^22, and the sum of two at most 2^23.
use Prim.Native.Nat.{ℕ, ◌*◌, ◌^◌, ◌≤◌}
use mathlib.Core.Path.{◌≡◌, refl, sym, ap, ◌∙◌, subst}
use mathlib.Core.Logic.{◌≢◌}
use mathlib.Core.Bool.{Bool, true, false, cond}
use mathlib.Core.List.{List, [], ◌∷◌}
use native.Mathlib.Omega.{arith}
use native.Mathlib.Nat.{le_trans}
use lib.Dec.{lit≤}
use lib.IntN.{ℤ, pos, nat_abs}
use lib.Pow.{pow_pos, pow_mono}
use lib.Ieee.{Float, nan, inf, fin, binary32, up, down, add, mul, div, le, of_int, is_nan}
use lib.Ieee.Fits.{down_pos}
use lib.Ieee.Scale.{finite}
use Rattle.algebra.specs.Lists.{Each}
use Rattle.algebra.specs.Reify.{reify}
use Rattle.algebra.specs.Rings.{Corner}
use Rattle.algebra.proofs.Equal.{impossible}
use Rattle.algebra.proofs.Order.{lin}
use Rattle.algebra.proofs.Solve.{ring}
use Rattle.rules.specs.Plane.{Pt, minus, turn, left, point}
use Rattle.rules.specs.Grid.{points_of}
use Rattle.rules.specs.Ear.{is_ear, pointiness_at, none, pointed, ear}
use Rattle.rules.specs.Refusals.{off_grid}
use Rattle.rules.specs.Root.{nearest_root, scale, root, reciprocal, pointiness}
use Rattle.rules.proofs.Bounded.{Bounded, bounded_finite, int_bounded, mul_bounded, add_bounded, inverse_bounded}
use Rattle.rules.proofs.Ears.{ear-left}
use Rattle.rules.proofs.FloatOrder.{passed→le}
use Rattle.rules.proofs.GridSizes.{GridPoint, grid_points, grid_point_at, Side, side, square_of, square_small, square_some}
use Rattle.rules.proofs.Root.{root_exists, root_value}
use Rattle.rules.proofs.Scale.{scale_high}
use Rattle.rules.proofs.Turns.{coordinates}

-- ---- what the rules compute

pub reciprocal_is : (d : Pt) → reciprocal d ≡ div binary32 (fin false 1 (pos 0)) (root (nat_abs (square_of d)))
unfolding reciprocal
reciprocal_is d = refl

-- a length is the same both ways
pub reciprocal-back : (p q : Pt) → reciprocal (minus p q) ≡ reciprocal (minus q p)
reciprocal-back p q =
    let e : square_of (minus p q) ≡ square_of (minus q p) = ring (coordinates (p ∷ q ∷ [])) (search reify depth 12) (search reify depth 12) refl in
    reciprocal_is (minus p q) ∙ ap (λ (z : ℤ). div binary32 (fin false 1 (pos 0)) (root (nat_abs z))) e ∙ sym (reciprocal_is (minus q p))

pub pointiness_is :
    (d e : Pt) → pointiness d e
    ≡ add binary32 (mul binary32 (mul binary32 (of_int binary32 d.x) (reciprocal d)) (mul binary32 (of_int binary32 e.x) (reciprocal e)))
    (mul binary32 (mul binary32 (of_int binary32 d.y) (reciprocal d)) (mul binary32 (of_int binary32 e.y) (reciprocal e)))
unfolding pointiness
pointiness_is d e = refl

ear-pointiness : (t : Bool) (x f : Float) → cond t (pointed x) none ≡ pointed f → x ≡ f
ear-pointiness true x f e = cc
ear-pointiness false x f e = impossible (cc)

ear_is : (ps : List Pt) (c : Corner ℕ) (f : Float) → ear ps c ≡ pointed f → pointiness (minus (point ps c.before) (point ps c.at)) (minus (point ps c.after) (point ps c.at)) ≡ f
unfolding ear pointiness_at
ear_is ps c f e = ear-pointiness (is_ear ps c) (pointiness_at ps c) f e

-- ---- its size

reciprocal_bounded : (d : Pt) → 1 ≤ nat_abs (square_of d) → nat_abs (square_of d) ≤ 2 ^ 23 → Bounded 1 (reciprocal d)
reciprocal_bounded d p h =
    let m = nat_abs (square_of d) in
    let k = nearest_root (m * 4 ^ scale m) in
    let r = root_exists m p h in
    let j : scale m ≤ 23 = scale_high m (scale m) p r.scaled in
    subst (Bounded 1) (sym (reciprocal_is d)) (inverse_bounded (root m) k (2 ^ scale m) (pow_pos (scale m)) (le_trans (pow_mono j) r.low) (root_value m k (scale m) p h r).0)

-- a coordinate of the vector, scaled by the reciprocal, and a product of two such
scaled_bounded : (z : ℤ) (r : Float) → nat_abs z ≤ 2048 → Bounded 1 r → Bounded 2048 (mul binary32 (of_int binary32 z) r)
scaled_bounded z r h k = mul_bounded (of_int binary32 z) r 2048 1 (lit≤ tt) (int_bounded z 2048 (lit≤ tt) h) k

product_bounded : (x y : Float) → Bounded 2048 x → Bounded 2048 y → Bounded 4194304 (mul binary32 x y)
product_bounded x y h k = mul_bounded x y 2048 2048 (lit≤ tt) h k

pointiness_bounded : (d e : Pt) → Side d → Side e → 1 ≤ nat_abs (square_of d) → 1 ≤ nat_abs (square_of e) → Bounded (2 ^ 23) (pointiness d e)
pointiness_bounded d e h k some-d some-e =
    let r = reciprocal_bounded d some-d (square_small h) in
    let s = reciprocal_bounded e some-e (square_small k) in
    let xs = product_bounded _ _ (scaled_bounded d.x (reciprocal d) h.x-small r) (scaled_bounded e.x (reciprocal e) k.x-small s) in
    let ys = product_bounded _ _ (scaled_bounded d.y (reciprocal d) h.y-small r) (scaled_bounded e.y (reciprocal e) k.y-small s) in
    subst (Bounded (2 ^ 23)) (sym (pointiness_is d e)) (add_bounded _ _ 4194304 4194304 (lit≤ tt) xs ys)

-- ---- of an ear

turn-first : (a c : Pt) → turn a a c ≡ pos 0
turn-first a c = ring (coordinates (a ∷ c ∷ [])) (search reify depth 12) (search reify depth 12) refl

turn_last : (a b : Pt) → turn a b b ≡ pos 0
turn_last a b = ring (coordinates (a ∷ b ∷ [])) (search reify depth 12) (search reify depth 12) refl

before_differs : (a b c : Pt) → left a b c ≡ true → a ≢ b
before_differs a b c h e = let z : turn a b c ≡ pos 0 = rw (← e) (turn-first a c) in omega lin

after_differs : (a b c : Pt) → left a b c ≡ true → c ≢ b
after_differs a b c h e = let z : turn a b c ≡ pos 0 = rw e (turn_last a b) in omega lin

ear_bounded : (ps : List Pt) → Each GridPoint ps → (c : Corner ℕ) (f : Float) → ear ps c ≡ pointed f → Bounded (2 ^ 23) f
ear_bounded ps grid c f is_ear_lem =
    let q = point ps c.before in
    let p = point ps c.at in
    let s = point ps c.after in
    let l = ear-left ps c f is_ear_lem in
    let at = grid_point_at ps c.at grid in
    subst (Bounded (2 ^ 23)) (ear_is ps c f is_ear_lem)
    (pointiness_bounded (minus q p) (minus s p) (side (grid_point_at ps c.before grid) at) (side (grid_point_at ps c.after grid) at) (square_some q p (before_differs q p s l)) (square_some s p (after_differs q p s l)))

-- ---- the theorem: where all coordinates are on the grid it is finite, and so no NaN

pub ear_finite : (cs : List Float) → off_grid cs ≡ false → (c : Corner ℕ) (f : Float) → ear (points_of cs) c ≡ pointed f → finite f ≡ true
ear_finite cs grid c f is_ear_lem = bounded_finite (2 ^ 23) f (ear_bounded (points_of cs) (grid_points cs grid) c f is_ear_lem)

finite_number : (x : Float) → finite x ≡ true → is_nan x ≡ false
unfolding is_nan
finite_number nan h = impossible (cc)
finite_number (inf s) h = refl
finite_number (fin s m e) h = refl

pub ear-number : (cs : List Float) → off_grid cs ≡ false → (c : Corner ℕ) (f : Float) → ear (points_of cs) c ≡ pointed f → is_nan f ≡ false
ear-number cs grid c f is_ear_lem = finite_number f (ear_finite cs grid c f is_ear_lem)

-- and above -2^24
above-lowest : (x : Float) → Bounded (2 ^ 23) x → (t : Bool) → le x (fin true 1 (pos 24)) ≡ t → t ≡ false
unfolding le
above-lowest nan w t h = absurd w
above-lowest (inf s) w t h = absurd w
above-lowest (fin s m e) w false h = refl
above-lowest (fin false m e) w true h = let (a, b) = passed→le false (m * up e * 1) true (16777216 * down e) h in absurd (omega (arith, down_pos e))
above-lowest (fin true m e) w true h = let a = passed→le true (m * up e * 1) true (16777216 * down e) h in absurd (omega (arith, down_pos e))

pub ear-above : (cs : List Float) → off_grid cs ≡ false → (c : Corner ℕ) (f : Float) → ear (points_of cs) c ≡ pointed f → le f (fin true 1 (pos 24)) ≡ false
ear-above cs grid c f is_ear_lem = above-lowest f (ear_bounded (points_of cs) (grid_points cs grid) c f is_ear_lem) (le f (fin true 1 (pos 24))) refl
