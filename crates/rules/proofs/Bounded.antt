-- Floats that are finite and at most a whole number in size: rounding keeps them so, and so do sums and products, each with its own bound.
use Prim.Native.Nat.{ℕ, zero, suc, ◌+◌, ◌-◌, ◌*◌, ◌/◌, ◌^◌, ◌≤◌, ◌<◌}
use mathlib.Core.Path.{◌≡◌, refl, sym, ◌∙◌, ap, subst}
use mathlib.Core.Bool.{Bool, true, false, cond, ◌&&◌, beq}
use native.Mathlib.Omega.{arith}
use native.Mathlib.Nat.{mul-pos, mul-le-mul, mul-mul-mul_comm, mul-le-mul_right, le_of_mul-le-mul_right, mul-one, mul_right_comm, mul_assoc, mul_comm, add-mul, zero-mul}
use lib.Dec.{T, eqb, ltb, lit<, lit≤}
use lib.IntN.{ℤ, pos, negsuc, nat_abs}
use lib.Count.{count_trailing_zeros}
use lib.Ieee.{Float, nan, inf, fin, Format, binary32, prec, emax, low, up, down, unlike, odd, round, units, minus as exponent, sum, add, mul, div, le, of_int}
use lib.Ieee.Back.{round_whole}
use lib.Ieee.Exact.{HasValue}
use lib.Ieee.Fits.{down_pos, round_is}
use lib.Ieee.Order.{drop, kept, round_mono}
use lib.Ieee.Scale.{finite}
use Rattle.algebra.proofs.Equal.{impossible, T→true, eqb-true}
use Rattle.rules.proofs.FloatOrder.{passed→le}

-- a finite float of size at most B
abbrev pub Bounded : ℕ → Float → Type 0
Bounded B nan = ⊥
Bounded B (inf s) = ⊥
Bounded B (fin s m e) = m * up e ≤ B * down e

pub bounded_finite : (B : ℕ) (x : Float) → Bounded B x → finite x ≡ true
bounded_finite B nan h = absurd h
bounded_finite B (inf s) h = absurd h
bounded_finite B (fin s m e) h = refl

-- ---- rounding

-- at most a float that is the whole number n
fin_bounded : (m : ℕ) (e : ℤ) (y : Float) (n : ℕ) → HasValue y false n 1 → T (le (fin false m e) y) → m * up e ≤ n * down e
unfolding le
fin_bounded m e nan n v h = absurd v
fin_bounded m e (inf t) n v h = absurd v
fin_bounded m e (fin true l d) n v h = impossible (cc v.0)
fin_bounded m e (fin false l d) n v h =
    let a : m * up e * down d ≤ l * up d * down e = passed→le false (m * up e * down d) false (l * up d * down e) (T→true _ h) in
    let b : l * up d ≡ n * down d = sym (mul-one (l * up d)) ∙ v.1 in
    let c : m * up e * down d ≤ n * down e * down d = subst (λ (x : ℕ). m * up e * down d ≤ x) (ap (λ (x : ℕ). x * down e) b ∙ mul_right_comm n (down d) (down e)) a in
    le_of_mul-le-mul_right c (down_pos d)

no_infinity : (y : Float) (n : ℕ) → HasValue y false n 1 → T (le (inf false) y) → ⊥
unfolding le
no_infinity nan n v h = v
no_infinity (inf t) n v h = v
no_infinity (fin t l d) n v h = h

odd_bounded : (d : ℕ) (s : Bool) (q k l : ℕ) (y : Float) (n : ℕ) → HasValue y false n 1 → T (le (odd d false q k l) y) → Bounded n (odd d s q k l)
unfolding odd
odd_bounded d s zero k l y n v h = fin_bounded zero (pos zero) y n v h
odd_bounded d s (suc q) k l y n v h = fin_bounded (suc q / 2 ^ count_trailing_zeros d (suc q)) (exponent (k + count_trailing_zeros d (suc q)) l) y n v h

units_bounded : (f : Format) (s : Bool) (q k : ℕ) (y : Float) (n : ℕ) → HasValue y false n 1 → T (le (units f false q k) y) → Bounded n (units f s q k)
unfolding units
units_bounded f s q k y n v = go (ltb (q * 2 ^ k) (2 ^ (low f + suc (emax f))))
  where
    go : (b : Bool) → T (le (cond b (odd (suc (prec f)) false q k (low f)) (inf false)) y) → Bounded n (cond b (odd (suc (prec f)) s q k (low f)) (inf s))
    go true h = odd_bounded (suc (prec f)) s q k (low f) y n v h
    go false h = absurd (no_infinity y n v h)

round_bounded : (s : Bool) (a c B : ℕ) → 0 < c → B ≤ 2 ^ 24 → a ≤ B * c → Bounded B (round binary32 s a c)
round_bounded s a c B p h k =
    let one : 0 < 1 = lit< tt in
    let q = kept 24 (a * 2 ^ low binary32) c in
    let j = drop 24 (a * 2 ^ low binary32) c in
    let l : T (le (round binary32 false a c) (round binary32 false B 1)) = round_mono binary32 a c B 1 p one (subst (λ (x : ℕ). x ≤ B * c) (sym (mul-one a)) k) in
    subst (Bounded B) (sym (round_is binary32 s a c))
    (units_bounded binary32 s q j (round binary32 false B 1) B (round_whole binary32 false B h) (subst (λ (x : Float). T (le x (round binary32 false B 1))) (round_is binary32 false a c) l))

-- ---- the operations

pub int_bounded : (z : ℤ) (B : ℕ) → B ≤ 2 ^ 24 → nat_abs z ≤ B → Bounded B (of_int binary32 z)
unfolding of_int
int_bounded (pos n) B h k = round_bounded false n 1 B (lit< tt) h (subst (λ (x : ℕ). n ≤ x) (sym (mul-one B)) k)
int_bounded (negsuc n) B h k = round_bounded true (suc n) 1 B (lit< tt) h (subst (λ (x : ℕ). suc n ≤ x) (sym (mul-one B)) k)

pub mul_bounded : (x y : Float) (A B : ℕ) → A * B ≤ 2 ^ 24 → Bounded A x → Bounded B y → Bounded (A * B) (mul binary32 x y)
unfolding mul
mul_bounded nan y A B h v w = absurd v
mul_bounded (inf s) y A B h v w = absurd v
mul_bounded (fin s m e) nan A B h v w = absurd w
mul_bounded (fin s m e) (inf t) A B h v w = absurd w
mul_bounded (fin s m e) (fin t n d) A B h v w =
    round_bounded (unlike s t) (m * up e * (n * up d)) (down e * down d) (A * B) (mul-pos (down_pos e) (down_pos d)) h
    (subst (λ (x : ℕ). m * up e * (n * up d) ≤ x) (mul-mul-mul_comm A (down e) B (down d)) (mul-le-mul v w))

sum_bounded : (s : Bool) (a : ℕ) (t : Bool) (b c A B : ℕ) → 0 < c → A + B ≤ 2 ^ 24 → a ≤ A * c → b ≤ B * c → Bounded (A + B) (sum binary32 s a t b c)
unfolding sum
sum_bounded s a t b c A B p h v w = go (beq s t) (ltb a b)
  where
    both : a + b ≤ (A + B) * c
    both = omega (arith, add-mul A B c)

    go : (u w : Bool) → Bounded (A + B) (cond u (round binary32 s (a + b) c) (cond w (round binary32 t (b - a) c) (round binary32 (s && ltb b a) (a - b) c)))
    go true w = round_bounded s (a + b) c (A + B) p h both
    go false true = round_bounded t (b - a) c (A + B) p h (omega (arith, both))
    go false false = round_bounded (s && ltb b a) (a - b) c (A + B) p h (omega (arith, both))

pub add_bounded : (x y : Float) (A B : ℕ) → A + B ≤ 2 ^ 24 → Bounded A x → Bounded B y → Bounded (A + B) (add binary32 x y)
unfolding add
add_bounded nan y A B h v w = absurd v
add_bounded (inf s) y A B h v w = absurd v
add_bounded (fin s m e) nan A B h v w = absurd w
add_bounded (fin s m e) (inf t) A B h v w = absurd w
add_bounded (fin s m e) (fin t n d) A B h v w =
    sum_bounded s (m * up e * down d) t (n * up d * down e) (down e * down d) A B (mul-pos (down_pos e) (down_pos d)) h
    (subst (λ (x : ℕ). m * up e * down d ≤ x) (mul_assoc A (down e) (down d)) (mul-le-mul_right (down d) v))
    (subst (λ (x : ℕ). n * up d * down e ≤ x) (mul_right_comm B (down d) (down e) ∙ mul_assoc B (down e) (down d)) (mul-le-mul_right (down e) w))

-- 1 divided by a float that is k / l, at least 1
pub inverse_bounded : (x : Float) (k l : ℕ) → 0 < l → l ≤ k → HasValue x false k l → Bounded 1 (div binary32 (fin false 1 (pos 0)) x)
unfolding div
inverse_bounded nan k l p h v = absurd v
inverse_bounded (inf s) k l p h v = absurd v
inverse_bounded (fin s n d) k l p h v = go (eqb n 0) refl
  where
    big : down d ≤ n * up d
    big = le_of_mul-le-mul_right (subst (λ (x : ℕ). down d * l ≤ x) (sym v.1) (subst (λ (x : ℕ). x ≤ k * down d) (mul_comm l (down d)) (mul-le-mul_right (down d) h))) p

    go : (b : Bool) → eqb n 0 ≡ b → Bounded 1 (cond b (cond (eqb 1 0) nan (inf (unlike false s))) (round binary32 (unlike false s) (1 * up (pos 0) * down d) (n * up d * down (pos 0))))
    go true e = let z : n * up d ≡ 0 = rw (eqb-true n 0 e, zero-mul (up d)) in absurd (omega (arith, big, down_pos d))
    go false e = round_bounded (unlike false s) (1 * up (pos 0) * down d) (n * up d * down (pos 0)) 1 (omega (arith, big, down_pos d)) (lit≤ tt) (omega (arith, big))
