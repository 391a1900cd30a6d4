-- Floats that hold whole numbers: sums, differences, products and comparisons of them are those of ℤ.
-- `HasValue x s n 1` says that the float x is finite, has the sign s and the size n. `Is x z` says that x is z in value, with a zero of either sign.
-- The two steps of each law: the operation is its `sum`, `round`, `below` or `level` at the whole numbers themselves (`add_at`, `mul_at`, `compared_at`), and that is the operation of ℤ.
use mathlib.Core.Path.{◌≡◌, refl, sym, ap, ◌∙◌}
use Prim.Native.Nat.{ℕ, zero, suc, ◌+◌, ◌-◌, ◌*◌, ◌^◌, ◌≤◌, ◌<◌, zero-le}
use native.Mathlib.Nat.{mul-one, mul_assoc, mul_comm, mul_right_comm, mul-mul-mul_comm, add-mul, mul-sub, mul-pos, mul-zero, zero-mul, zero-add, add_comm, le_trans, mul-le-mul, zero-lt-suc, mul-lt-mul_of_pos_right, mul-le-mul_right}
use native.Mathlib.Omega.{arith}
use mathlib.Core.Logic.{◌⊎◌, inl, inr}
use mathlib.Core.Bool.{Bool, true, false, not, cond, ◌&&◌, and-true, and-false, and_comm}
use lib.Dec.{T, eqb, ltb, le→leb, lt→ltb, leb-suc-suc, leb-suc-zero}
use lib.IntN.{ℤ, pos, negsuc, neg_ℤ, nat_abs, ◌+ℤ◌, ◌-ℤ◌, ◌*ℤ◌}
use lib.Signed.{lt_z, le_z}
use lib.Ieee.{Float, nan, inf, fin, Format, binary32, prec, up, down, unlike, below, round, sum, add, sub, neg, mul, div, lt, eq, level, of_int, in_float, in_unsigned, to_unsigned, in_signed, to_signed}
use lib.Ieee.Fits.{down_pos}
use lib.Ieee.Exact.{HasValue}
use lib.Ieee.Back.{round_whole, unsigned_back, positive_back, negative_back}
use lib.Ieee.Scale.{round_same}
use borrow.Author.Tests.{ltb-true, ltb-false, lt-ltb, le-ltb, eq-eqb, ne_eqb}
use Rattle.algebra.proofs.Order.{le_z_not_lt_z}
use Rattle.algebra.proofs.Sizes.{nat_abs_add, nat_abs_sub, nat_abs_mul}
use Rattle.rules.specs.Grid.{signed}
use Rattle.rules.proofs.GridSizes.{nat_abs_signed}

-- ---- two numbers are equal if neither is below the other

eqb_by_order : (a b : ℕ) → eqb a b ≡ (not (ltb b a) && not (ltb a b))
eqb_by_order a b = go (ltb b a) (ltb a b) refl refl
  where
    go : (t u : Bool) → ltb b a ≡ t → ltb a b ≡ u → eqb a b ≡ (not t && not u)
    go true u e f = ne_eqb a b (λ h. omega (arith, ltb-true b a e))
    go false true e f = ne_eqb a b (λ h. omega (arith, ltb-true a b f))
    go false false e f = eq-eqb a b (omega (arith, ltb-false b a e, ltb-false a b f))

both_zero : (a b : ℕ) → (eqb a b && eqb a 0) ≡ not (ltb 0 (a + b))
both_zero zero zero = refl
both_zero zero (suc b) = rw (ne_eqb 0 (suc b) (λ h. omega arith), lt-ltb 0 (0 + suc b) (omega arith))
both_zero (suc a) b = rw (ne_eqb (suc a) 0 (λ h. omega arith), lt-ltb 0 (suc a + b) (omega arith)) (and-false (eqb (suc a) b))

-- ---- the scale D of two fractions with one denominator goes out

ltb-scale : (a b D : ℕ) → 0 < D → ltb (a * D) (b * D) ≡ ltb a b
ltb-scale a b D p = go (ltb a b) refl
  where
    go : (t : Bool) → ltb a b ≡ t → ltb (a * D) (b * D) ≡ t
    go true e = lt-ltb (a * D) (b * D) (mul-lt-mul_of_pos_right (ltb-true a b e) p)
    go false e = le-ltb (a * D) (b * D) (mul-le-mul_right D (ltb-false a b e))

round_scale : (f : Format) (s : Bool) (a D : ℕ) → 0 < D → round f s (a * D) D ≡ round f s a 1
round_scale f s a D p = round_same f s (a * D) D a 1 p (zero-lt-suc 0) (mul-one (a * D))

sub-mul : (a b D : ℕ) → a * D - b * D ≡ (a - b) * D
sub-mul a b D = sym (mul_comm (a - b) D ∙ mul-sub D a b ∙ simp (mul_comm D a, mul_comm D b))

-- a sum that is a difference in size
apart_scale : (f : Format) (s t : Bool) (a b D : ℕ) → 0 < D
    → cond (ltb (a * D) (b * D)) (round f t (b * D - a * D) D) (round f (s && ltb (b * D) (a * D)) (a * D - b * D) D)
    ≡ cond (ltb a b) (round f t (b - a) 1) (round f (s && ltb b a) (a - b) 1)
apart_scale f s t a b D p =
    rw (ltb-scale a b D p, ltb-scale b a D p, sub-mul b a D, sub-mul a b D, round_scale f t (b - a) D p, round_scale f (s && ltb b a) (a - b) D p)

sum-scale : (f : Format) (s t : Bool) (a b D : ℕ) → 0 < D → sum f s (a * D) t (b * D) D ≡ sum f s a t b 1
unfolding sum
sum-scale f false false a b D p = ap (λ (x : ℕ). round f false x D) (sym (add-mul a b D)) ∙ round_scale f false (a + b) D p
sum-scale f true true a b D p = ap (λ (x : ℕ). round f true x D) (sym (add-mul a b D)) ∙ round_scale f true (a + b) D p
sum-scale f false true a b D p = apart_scale f false true a b D p
sum-scale f true false a b D p = apart_scale f true false a b D p

below_scale : (s t : Bool) (a b D : ℕ) → 0 < D → below s (a * D) t (b * D) ≡ below s a t b
below_scale false false a b D p = ltb-scale a b D p
below_scale false true a b D p = refl
below_scale true false a b D p = ap (λ (x : ℕ). ltb 0 x) (sym (add-mul a b D)) ∙ ap (λ (x : ℕ). ltb x ((a + b) * D)) (sym (zero-mul D)) ∙ ltb-scale 0 (a + b) D p
below_scale true true a b D p = ltb-scale b a D p

eqb-scale : (a b D : ℕ) → 0 < D → eqb (a * D) (b * D) ≡ eqb a b
eqb-scale a b D p = eqb_by_order (a * D) (b * D) ∙ rw (ltb-scale a b D p, ltb-scale b a D p) (sym (eqb_by_order a b))

level_scale : (s t : Bool) (a b D : ℕ) → 0 < D → level s (a * D) t (b * D) ≡ level s a t b
level_scale s t a b D p =
    let z : eqb (a * D) 0 ≡ eqb a 0 = ap (eqb (a * D)) (sym (zero-mul D)) ∙ eqb-scale a 0 D p in
    rw (eqb-scale a b D p, z)

-- ---- the operations at floats that hold whole numbers

-- the two numerators, over the product of the denominators
left_num : (x a de dd : ℕ) → x * 1 ≡ a * de → x * dd ≡ a * (de * dd)
left_num x a de dd h = ap (λ (z : ℕ). z * dd) (sym (mul-one x) ∙ h) ∙ mul_assoc a de dd

right_num : (y b de dd : ℕ) → y * 1 ≡ b * dd → y * de ≡ b * (de * dd)
right_num y b de dd h = ap (λ (z : ℕ). z * de) (sym (mul-one y) ∙ h) ∙ mul_right_comm b dd de ∙ mul_assoc b de dd

pub add_at : (f : Format) (x y : Float) (s t : Bool) (a b : ℕ) → HasValue x s a 1 → HasValue y t b 1 → add f x y ≡ sum f s a t b 1
unfolding add
add_at f nan y s t a b v w = absurd v
add_at f (inf u) y s t a b v w = absurd v
add_at f (fin u m e) nan s t a b v w = absurd w
add_at f (fin u m e) (inf z) s t a b v w = absurd w
add_at f (fin u m e) (fin z n d) s t a b v w =
    let D = down e * down d in
    rw (v.0, w.0, left_num (m * up e) a (down e) (down d) v.1, right_num (n * up d) b (down e) (down d) w.1)
    (sum-scale f s t a b D (mul-pos (down_pos e) (down_pos d)))

pub mul_at : (f : Format) (x y : Float) (s t : Bool) (a b : ℕ) → HasValue x s a 1 → HasValue y t b 1 → mul f x y ≡ round f (unlike s t) (a * b) 1
unfolding mul
mul_at f nan y s t a b v w = absurd v
mul_at f (inf u) y s t a b v w = absurd v
mul_at f (fin u m e) nan s t a b v w = absurd w
mul_at f (fin u m e) (inf z) s t a b v w = absurd w
mul_at f (fin u m e) (fin z n d) s t a b v w =
    rw (v.0, w.0)
    (round_same f (unlike s t) (m * up e * (n * up d)) (down e * down d) (a * b) 1 (mul-pos (down_pos e) (down_pos d)) (zero-lt-suc 0)
    (mul-one (m * up e * (n * up d)) ∙ simp (sym (mul-one (m * up e)) ∙ v.1, sym (mul-one (n * up d)) ∙ w.1) (mul-mul-mul_comm a (down e) b (down d))))

not_zero : (n : ℕ) → 0 < n → n ≡ 0 → ⊥
not_zero n p h = omega arith

-- a quotient of whole numbers is their fraction, rounded once
pub div-at : (f : Format) (x y : Float) (s t : Bool) (a b : ℕ) → 0 < b → HasValue x s a 1 → HasValue y t b 1 → div f x y ≡ round f (unlike s t) a b
unfolding div
div-at f nan y s t a b p v w = absurd v
div-at f (inf u) y s t a b p v w = absurd v
div-at f (fin u m e) nan s t a b p v w = absurd w
div-at f (fin u m e) (inf z) s t a b p v w = absurd w
div-at f (fin u m e) (fin z n d) s t a b p v w =
    let D = down e * down d in
    let P : 0 < D = mul-pos (down_pos e) (down_pos d) in
    let nz : eqb n 0 ≡ false = ne_eqb n 0 (λ h. not_zero (b * down d) (mul-pos p (down_pos d)) (sym w.1 ∙ ap (λ (x : ℕ). x * up d * 1) h ∙ ap (λ (x : ℕ). x * 1) (zero-mul (up d)))) in
    rw (v.0, w.0, nz, left_num (m * up e) a (down e) (down d) v.1, right_num (n * up d) b (down e) (down d) w.1)
    (round_same f (unlike s t) (a * D) (b * D) a b (mul-pos p P) p (mul_assoc a D b ∙ ap (λ (x : ℕ). a * x) (mul_comm D b)))

compared_at : (x y : Float) (s t : Bool) (a b : ℕ) → HasValue x s a 1 → HasValue y t b 1 → (lt x y ≡ below s a t b) × (eq x y ≡ level s a t b)
unfolding lt eq
compared_at nan y s t a b v w = absurd v
compared_at (inf u) y s t a b v w = absurd v
compared_at (fin u m e) nan s t a b v w = absurd w
compared_at (fin u m e) (inf z) s t a b v w = absurd w
compared_at (fin u m e) (fin z n d) s t a b v w =
    let D = down e * down d in
    let P : 0 < D = mul-pos (down_pos e) (down_pos d) in
    rw (v.0, w.0, left_num (m * up e) a (down e) (down d) v.1, right_num (n * up d) b (down e) (down d) w.1) (below_scale s t a b D P, level_scale s t a b D P)

-- ---- signs

pub signed-not : (s : Bool) (n : ℕ) → signed (not s) n ≡ neg_ℤ (signed s n)
signed-not false n = refl
signed-not true zero = refl
signed-not true (suc n) = refl

pub signed_mul : (s t : Bool) (a b : ℕ) → signed (unlike s t) (a * b) ≡ signed s a *ℤ signed t b
signed_mul false false a b = refl
signed_mul false true a zero = rw mul-zero
signed_mul false true a (suc b) = refl
signed_mul true false zero b = rw zero-mul
signed_mul true false (suc a) b = refl
signed_mul true true zero zero = refl
signed_mul true true zero (suc b) = rw zero-mul
signed_mul true true (suc a) zero = rw mul-zero
signed_mul true true (suc a) (suc b) = refl

-- ---- a sum is the integers' sum, rounded once: the one that is no integer's own float is -0, of two -0

-- both are -0
abbrev pub BothNeg0 : Bool → ℕ → Bool → ℕ → Type 0
BothNeg0 s a t b = (s ≡ true) × (a ≡ 0) × (t ≡ true) × (b ≡ 0)

resize : (f : Format) (s : Bool) (m n : ℕ) → m ≡ n → round f s m 1 ≡ round f s n 1
resize f s m n h = ap (λ (x : ℕ). round f s x 1) h

-- a - b, by which is the larger
pos_neg : (f : Format) (a b : ℕ) (t : Bool) → ltb a (suc b) ≡ t
    → cond t (round f true (suc b - a) 1) (round f false (a - suc b) 1) ≡ of_int f (cond t (negsuc (suc b - suc a)) (pos (a - suc b)))
unfolding of_int
pos_neg f a b true e = let h : a < suc b = ltb-true a (suc b) e in resize f true (suc b - a) (suc (suc b - suc a)) (omega arith)
pos_neg f a b false e = refl

-- -a + b, by two tests
neg_pos : (f : Format) (a b : ℕ) (t u : Bool) → ltb (suc a) b ≡ t → ltb b (suc a) ≡ u
    → cond t (round f false (b - suc a) 1) (round f u (suc a - b) 1) ≡ of_int f (cond u (negsuc (suc a - suc b)) (pos (b - suc a)))
unfolding of_int
neg_pos f a b true true e g =
    let h : suc a < b = ltb-true (suc a) b e in
    let k : b < suc a = ltb-true b (suc a) g in
    let no_way : ⊥ = omega arith in
    absurd no_way
neg_pos f a b true false e g = refl
neg_pos f a b false true e g = let k : b < suc a = ltb-true b (suc a) g in resize f true (suc a - b) (suc (suc a - suc b)) (omega arith)
neg_pos f a b false false e g =
    let h : b ≤ suc a = ltb-false (suc a) b e in
    let k : suc a ≤ b = ltb-false b (suc a) g in
    resize f false (suc a - b) (b - suc a) (omega arith)

pub sum_of_int : (f : Format) (s t : Bool) (a b : ℕ) → (sum f s a t b 1 ≡ of_int f (signed s a +ℤ signed t b)) ⊎ BothNeg0 s a t b
unfolding sum of_int
sum_of_int f false false a b = inl refl
sum_of_int f false true a zero = inl (rw leb-suc-zero (resize f false (a - 0) (a + 0) (omega arith)))
sum_of_int f false true a (suc b) = inl (pos_neg f a b (ltb a (suc b)) refl)
sum_of_int f true false zero zero = inl refl
sum_of_int f true false zero (suc b) = inl (rw (lt-ltb 0 (suc b) (omega arith)) (resize f false (suc b - 0) (0 + suc b) (omega arith)))
sum_of_int f true false (suc a) b = inl (neg_pos f a b (ltb (suc a) b) (ltb b (suc a)) refl refl)
sum_of_int f true true zero zero = inr (refl, refl, refl, refl)
sum_of_int f true true zero (suc b) = inl (rw (lt-ltb 0 (suc b) (omega arith)) (resize f true (0 + suc b) (suc (suc b - 1)) (omega arith)))
sum_of_int f true true (suc a) zero = inl (rw (lt-ltb 0 (suc a) (omega arith)) (resize f true (suc a + 0) (suc (suc a - 1)) (omega arith)))
sum_of_int f true true (suc a) (suc b) = inl (resize f true (suc a + suc b) (suc (suc (a + b))) (omega arith))

-- below is lt_z
pub below_is : (s t : Bool) (a b : ℕ) → below s a t b ≡ lt_z (signed s a) (signed t b)
below_is false false a b = refl
below_is false true a zero = sym (leb-suc-zero a)
below_is false true a (suc b) = refl
below_is true false zero b = rw zero-add
below_is true false (suc a) b = lt-ltb 0 (suc a + b) (omega arith)
below_is true true zero zero = refl
below_is true true zero (suc b) = leb-suc-zero (suc b)
below_is true true (suc a) zero = lt-ltb 0 (suc a) (omega arith)
below_is true true (suc a) (suc b) = leb-suc-suc (suc b) a

-- level is below neither way
level_is : (s t : Bool) (a b : ℕ) → level s a t b ≡ (not (below t b s a) && not (below s a t b))
level_is false false a b = and-true (eqb a b) ∙ eqb_by_order a b
level_is false true a b = both_zero a b ∙ rw (add_comm a b) (sym (and-true (not (ltb 0 (b + a)))))
level_is true false a b = both_zero a b
level_is true true a b = and-true (eqb a b) ∙ eqb_by_order a b ∙ and_comm (not (ltb b a)) (not (ltb a b))

-- ---- a float that is a whole number, with a zero of either sign

pub record Is (x : Float) (z : ℤ) : Type 0 where
  pub s : Bool
  pub n : ℕ
  pub value : HasValue x s n 1
  pub whole : signed s n ≡ z

unfoldable pub of_int_is : (f : Format) (z : ℤ) → nat_abs z ≤ 2 ^ prec f → Is (of_int f z) z
unfolding of_int
of_int_is f (pos n) h = record { s = false; n = n; value = round_whole f false n h; whole = refl }
of_int_is f (negsuc n) h = record { s = true; n = suc n; value = round_whole f true (suc n) h; whole = refl }

-- the test that a conversion to a float asks for
pub in_float_lem : (f : Format) (n : ℕ) → n ≤ 2 ^ prec f → T (in_float f (pos n))
unfolding in_float
in_float_lem f n h = le→leb n (2 ^ prec f) h

-- and back
pub whole_back : (x : Float) (n : ℕ) → x ≡ of_int binary32 (pos n) → n ≤ 2 ^ 24 → T (in_unsigned binary32 32 x) × (to_unsigned 32 x ≡ n)
whole_back x n e h = let w : n < 2 ^ 32 = omega arith in rw e (unsigned_back binary32 32 n (in_float_lem binary32 n h) w)

pub signed_back : (z : ℤ) → nat_abs z ≤ 2 ^ 24 → T (in_signed binary32 31 (of_int binary32 z)) × (to_signed 31 (of_int binary32 z) ≡ z)
unfolding in_float
signed_back (pos n) h = positive_back binary32 31 n (in_float_lem binary32 n h) (omega arith)
signed_back (negsuc n) h = negative_back binary32 31 n (lt→ltb n (2 ^ 24) (omega arith)) (omega arith)

neg_value : (x : Float) (s : Bool) (n : ℕ) → HasValue x s n 1 → HasValue (neg x) (not s) n 1
unfolding neg
neg_value nan s n v = v
neg_value (inf u) s n v = v
neg_value (fin u m e) s n v = (ap not v.0, v.1)

pub neg_is : (x : Float) (z : ℤ) → Is x z → Is (neg x) (neg_ℤ z)
neg_is x z i = record { s = not i.s; n = i.n; value = neg_value x i.s i.n i.value; whole = signed-not i.s i.n ∙ ap neg_ℤ i.whole }

-- -0 + -0
neg0 : (f : Format) → Is (sum f true 0 true 0 1) (pos 0 +ℤ pos 0)
unfolding sum
neg0 f = record { s = true; n = 0; value = round_whole f true 0 zero-le; whole = refl }

pub add_is : (f : Format) (x y : Float) (a b : ℤ) → Is x a → Is y b → nat_abs (a +ℤ b) ≤ 2 ^ prec f → Is (add f x y) (a +ℤ b)
add_is f x y a b i j h = go (sum_of_int f i.s j.s i.n j.n)
  where
    at : add f x y ≡ sum f i.s i.n j.s j.n 1
    at = add_at f x y i.s j.s i.n j.n i.value j.value

    go : (sum f i.s i.n j.s j.n 1 ≡ of_int f (signed i.s i.n +ℤ signed j.s j.n)) ⊎ BothNeg0 i.s i.n j.s j.n → Is (add f x y) (a +ℤ b)
    go (inl e) = rw (at, e, i.whole, j.whole) (of_int_is f (a +ℤ b) h)
    go (inr z) = rw (at, ← i.whole, ← j.whole, z.0, z.1, z.2, z.3) (neg0 f)

pub sub_is : (f : Format) (x y : Float) (a b : ℤ) → Is x a → Is y b → nat_abs (a -ℤ b) ≤ 2 ^ prec f → Is (sub f x y) (a -ℤ b)
unfolding sub
sub_is f x y a b i j h = add_is f x (neg y) a (neg_ℤ b) i (neg_is y b j) h

pub mul_is : (f : Format) (x y : Float) (a b : ℤ) → Is x a → Is y b → nat_abs (a *ℤ b) ≤ 2 ^ prec f → Is (mul f x y) (a *ℤ b)
mul_is f x y a b i j h =
    let size : nat_abs (a *ℤ b) ≡ i.n * j.n = rw (← i.whole, ← j.whole, nat_abs_mul, nat_abs_signed i.s i.n, nat_abs_signed j.s j.n) in
    let u = unlike i.s j.s in
    rw (mul_at f x y i.s j.s i.n j.n i.value j.value)
    (record { s = u; n = i.n * j.n; value = round_whole f u (i.n * j.n) (rw size at h); whole = signed_mul i.s j.s i.n j.n ∙ (cc (i.whole, j.whole)) })

pub lt_is : (x y : Float) (a b : ℤ) → Is x a → Is y b → lt x y ≡ lt_z a b
lt_is x y a b i j = (compared_at x y i.s j.s i.n j.n i.value j.value).0 ∙ below_is i.s j.s i.n j.n ∙ cc (i.whole, j.whole)

pub eq_is : (x y : Float) (a b : ℤ) → Is x a → Is y b → eq x y ≡ (le_z a b && le_z b a)
eq_is x y a b i j =
    (compared_at x y i.s j.s i.n j.n i.value j.value).1 ∙ level_is i.s j.s i.n j.n
    ∙ rw (below_is j.s i.s j.n i.n, below_is i.s j.s i.n j.n, i.whole, j.whole, le_z_not_lt_z a b, le_z_not_lt_z b a)

-- ---- the same with a bound on the size, which adds up and multiplies by itself

pub record Within (N : ℕ) (x : Float) (z : ℤ) : Type 0 where
  pub is : Is x z
  pub small : nat_abs z ≤ N

pub add-within : (f : Format) {M N : ℕ} {x y : Float} {a b : ℤ} → Within M x a → Within N y b → M + N ≤ 2 ^ prec f → Within (M + N) (add f x y) (a +ℤ b)
add-within f {M} {N} {x} {y} {a} {b} i j h =
    let k : nat_abs (a +ℤ b) ≤ M + N = omega (arith, nat_abs_add a b, i.small, j.small) in
    record { is = add_is f x y a b i.is j.is (le_trans k h); small = k }

pub sub_within : (f : Format) {M N : ℕ} {x y : Float} {a b : ℤ} → Within M x a → Within N y b → M + N ≤ 2 ^ prec f → Within (M + N) (sub f x y) (a -ℤ b)
sub_within f {M} {N} {x} {y} {a} {b} i j h =
    let k : nat_abs (a -ℤ b) ≤ M + N = omega (arith, nat_abs_sub a b, i.small, j.small) in
    record { is = sub_is f x y a b i.is j.is (le_trans k h); small = k }

pub mul-within : (f : Format) {M N : ℕ} {x y : Float} {a b : ℤ} → Within M x a → Within N y b → M * N ≤ 2 ^ prec f → Within (M * N) (mul f x y) (a *ℤ b)
mul-within f {M} {N} {x} {y} {a} {b} i j h =
    let k : nat_abs (a *ℤ b) ≤ M * N = rw nat_abs_mul (mul-le-mul i.small j.small) in
    record { is = mul_is f x y a b i.is j.is (le_trans k h); small = k }
