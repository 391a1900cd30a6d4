-- The order of floats other than NaN: `le` holds of a float and itself, of any two one way or the other, and is transitive.
use Prim.Native.Nat.{ℕ, ◌*◌, ◌+◌, ◌≤◌, ◌<◌}
use mathlib.Core.Path.{◌≡◌, refl, sym, ◌∙◌}
use mathlib.Core.Bool.{Bool, true, false, ◌&&◌, ◌||◌}
use native.Mathlib.Omega.{arith}
use native.Mathlib.Nat.{eq_of_mul-eq-mul_right, zero-mul}
use lib.Dec.{eqb, ltb}
use lib.Ieee.{Float, nan, inf, fin, up, down, below, level, le, is_nan}
use lib.Ieee.Fits.{down_pos}
use lib.Ieee.Positive.{through}
use borrow.Author.Tests.{ltb-true, ltb-false}
use Rattle.algebra.proofs.Equal.{impossible, eqb_same, eqb-true, or-false}

-- ---- sizes with their signs, true for minus

-- ±a <= ±b: the test, and what it says of a and b
abbrev pub at_most : Bool → ℕ → Bool → ℕ → Bool
at_most s a t b = below s a t b || level s a t b

abbrev pub SignedLe : Bool → ℕ → Bool → ℕ → Type 0
SignedLe false a false b = a ≤ b
SignedLe false a true b = (a ≡ 0) × (b ≡ 0)
SignedLe true a false b = Unit {0}
SignedLe true a true b = b ≤ a

-- of one sign, e being the test that both are equal
same-passed : (a b : ℕ) (e z : Bool) → (e ≡ true → a ≡ b) → (ltb a b || (e && (true || z))) ≡ true → a ≤ b
same-passed a b true z same h = omega (arith, same refl)
same-passed a b false z same h = go (ltb a b) refl h
  where
    go : (t : Bool) → ltb a b ≡ t → (t || false) ≡ true → a ≤ b
    go true q h = omega (arith, ltb-true a b q)
    go false q h = impossible (cc)

same_le : (a b : ℕ) (e z : Bool) → (a ≡ b → e ≡ true) → a ≤ b → (ltb a b || (e && (true || z))) ≡ true
same_le a b e z same h = go (ltb a b) refl
  where
    go : (t : Bool) → ltb a b ≡ t → (t || (e && (true || z))) ≡ true
    go true q = refl
    go false q = let k : e ≡ true = same (omega (arith, ltb-false a b q)) in rw k

pub passed→le : (s : Bool) (a : ℕ) (t : Bool) (b : ℕ) → at_most s a t b ≡ true → SignedLe s a t b
passed→le false a false b h = same-passed a b (eqb a b) (eqb a 0) (eqb-true a b) h
passed→le false a true b h = go (eqb a b) refl (eqb a 0) refl h
  where
    go : (x : Bool) → eqb a b ≡ x → (y : Bool) → eqb a 0 ≡ y → (false || (x && (false || y))) ≡ true → (a ≡ 0) × (b ≡ 0)
    go true p true q h = (eqb-true a 0 q, omega (arith, eqb-true a b p, eqb-true a 0 q))
    go true p false q h = impossible (cc)
    go false p y q h = impossible (cc)
passed→le true a false b h = tt
passed→le true a true b h = same-passed b a (eqb a b) (eqb a 0) (λ q. sym (eqb-true a b q)) h

le→passed : (s : Bool) (a : ℕ) (t : Bool) (b : ℕ) → SignedLe s a t b → at_most s a t b ≡ true
le→passed false a false b h = same_le a b (eqb a b) (eqb a 0) (λ q. rw (q, eqb_same b)) h
le→passed false a true b h = rw (h.0, h.1)
le→passed true a false b h = go (ltb 0 (a + b)) refl
  where
    go : (t : Bool) → ltb 0 (a + b) ≡ t → (t || (eqb a b && (false || eqb a 0))) ≡ true
    go true q = refl
    go false q =
        let a0 : a ≡ 0 = omega (arith, ltb-false 0 (a + b) q) in
        let b0 : b ≡ 0 = omega (arith, ltb-false 0 (a + b) q) in
        rw (a0, b0)
le→passed true a true b h = same_le b a (eqb a b) (eqb a 0) (λ q. rw (q, eqb_same a)) h

failed→ge : (s : Bool) (a : ℕ) (t : Bool) (b : ℕ) → at_most s a t b ≡ false → SignedLe t b s a
failed→ge false a false b e = ltb-false a b (or-false (ltb a b) (eqb a b && (true || eqb a 0)) e).0
failed→ge false a true b e = tt
failed→ge true a false b e = let h = ltb-false 0 (a + b) (or-false (ltb 0 (a + b)) (eqb a b && (false || eqb a 0)) e).0 in (omega arith, omega arith)
failed→ge true a true b e = ltb-false b a (or-false (ltb b a) (eqb a b && (true || eqb a 0)) e).0

none_times : (x q : ℕ) → 0 < q → x * q ≡ 0 → x ≡ 0
none_times x q h e = eq_of_mul-eq-mul_right q h x 0 (e ∙ sym (zero-mul q))

under_none : (x q y p : ℕ) → 0 < q → y ≡ 0 → x * q ≤ y * p → x ≡ 0
under_none x q y p h e l = none_times x q h (let k : y * p ≡ 0 = rw (e, zero-mul p) in omega arith)

times_none : (x q : ℕ) → x ≡ 0 → x * q ≡ 0
times_none x q e = rw (e, zero-mul q)

-- from x / p over y / q to z / r
signed_trans : (s t u : Bool) (x y z p q r : ℕ) → 0 < p → 0 < q → 0 < r → SignedLe s (x * q) t (y * p) → SignedLe t (y * r) u (z * q) → SignedLe s (x * r) u (z * p)
signed_trans false false false x y z p q r P Q R h k = through x y z p q r Q h k
signed_trans false false true x y z p q r P Q R h k =
    let y0 = none_times y r R k.0 in
    (times_none x r (under_none x q y p Q y0 h), times_none z p (none_times z q Q k.1))
signed_trans false true false x y z p q r P Q R h k = let e = times_none x r (none_times x q Q h.0) in omega arith
signed_trans false true true x y z p q r P Q R h k = (times_none x r (none_times x q Q h.0), times_none z p (under_none z q y r Q (none_times y p P h.1) k))
signed_trans true t false x y z p q r P Q R h k = tt
signed_trans true false true x y z p q r P Q R h k = let e = times_none z p (none_times z q Q k.1) in omega arith
signed_trans true true true x y z p q r P Q R h k = through z y x r q p Q k h

-- ---- floats

pub le_refl : (x : Float) → is_nan x ≡ false → le x x ≡ true
unfolding le is_nan
le_refl nan n = impossible (cc)
le_refl (inf true) n = refl
le_refl (inf false) n = refl
le_refl (fin true m e) n = le→passed true (m * up e * down e) true (m * up e * down e) (omega arith)
le_refl (fin false m e) n = le→passed false (m * up e * down e) false (m * up e * down e) (omega arith)

pub le_total : (x y : Float) → is_nan x ≡ false → is_nan y ≡ false → le x y ≡ false → le y x ≡ true
unfolding le is_nan
le_total nan y p q h = impossible (cc)
le_total (inf s) nan p q h = impossible (cc)
le_total (fin s m e) nan p q h = impossible (cc)
le_total (inf true) (inf true) p q h = refl
le_total (inf true) (inf false) p q h = impossible (cc)
le_total (inf false) (inf true) p q h = refl
le_total (inf false) (inf false) p q h = refl
le_total (inf true) (fin t n d) p q h = impossible (cc)
le_total (inf false) (fin t n d) p q h = refl
le_total (fin s m e) (inf true) p q h = refl
le_total (fin s m e) (inf false) p q h = impossible (cc)
le_total (fin s m e) (fin t n d) p q h = le→passed t (n * up d * down e) s (m * up e * down d) (failed→ge s (m * up e * down d) t (n * up d * down e) h)

le_nan : (x : Float) → le x nan ≡ false
unfolding le
le_nan nan = refl
le_nan (inf s) = refl
le_nan (fin s m e) = refl

pub le_trans : (x y z : Float) → le x y ≡ true → le y z ≡ true → le x z ≡ true
unfolding le
le_trans nan y z h k = impossible (cc)
le_trans (inf true) y nan h k = sym (le_nan y) ∙ k
le_trans (inf true) y (inf true) h k = refl
le_trans (inf true) y (inf false) h k = refl
le_trans (inf true) y (fin u l c) h k = refl
le_trans (inf false) nan z h k = impossible (cc)
le_trans (inf false) (inf true) z h k = impossible (cc)
le_trans (inf false) (inf false) z h k = k
le_trans (inf false) (fin t n d) z h k = impossible (cc)
le_trans (fin s m e) nan z h k = impossible (cc)
le_trans (fin s m e) (inf true) z h k = impossible (cc)
le_trans (fin s m e) (inf false) nan h k = impossible (cc)
le_trans (fin s m e) (inf false) (inf true) h k = impossible (cc)
le_trans (fin s m e) (inf false) (inf false) h k = refl
le_trans (fin s m e) (inf false) (fin u l c) h k = impossible (cc)
le_trans (fin s m e) (fin t n d) nan h k = impossible (cc)
le_trans (fin s m e) (fin t n d) (inf true) h k = impossible (cc)
le_trans (fin s m e) (fin t n d) (inf false) h k = refl
le_trans (fin s m e) (fin t n d) (fin u l c) h k =
    le→passed s (m * up e * down c) u (l * up c * down e)
    (signed_trans s t u (m * up e) (n * up d) (l * up c) (down e) (down d) (down c) (down_pos e) (down_pos d) (down_pos c) (passed→le s (m * up e * down d) t (n * up d * down e) h) (passed→le t (n * up d * down c) u (l * up c * down d) k))
