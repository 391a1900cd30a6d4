-- Which bits are set: of a power of two, of what two numbers have both or have together, below the highest, and from the lowest on.
use Prim.Native.Nat.{ℕ, zero, suc, ◌+◌, ◌*◌, ◌-◌, ◌/◌, ◌%◌, ◌^◌, ◌≤◌, ◌<◌}
use native.Mathlib.Omega.{arith}
use native.Mathlib.Nat.{pow-suc, zero-div, one-mul, div-eq_of_lt, max-eq_left, lt_of_not-le}
use mathlib.Core.Path.{◌≡◌, refl, sym, ap, ◌∙◌}
use lib.Count.{count_trailing_zeros, under}
use lib.Dec.{lit<}
use lib.Bits.{bit_and, bit_or, and_shr, or_shr, and_step, or_step, or_comm}
use lib.Pow.{pow_mono, shl-shr, shl_exact, shr-shr, field, mod-mod-pow}
use Rattle.algebra.specs.Bits.{bit, Has}

pub has_one : (k : ℕ) → Has (2 ^ k) k
has_one k = rw one-mul at (ap (λ (n : ℕ). n % 2) (shl-shr 1 k))

-- a one that is shifted within 64 bits
pub one_shifted : (k : ℕ) → k < 64 → (1 * 2 ^ k) % 2 ^ 64 ≡ 2 ^ k
one_shifted k h = shl_exact 1 k 64 (lit< tt) (omega arith) ∙ one-mul (2 ^ k)

pub has_both : (a b k : ℕ) → Has a k → Has b k → Has (bit_and a b) k
has_both a b k p q = rw (and_shr a b k, and_step (a / 2 ^ k) (b / 2 ^ k), p, q) (omega arith)

pub has_left : (a b k : ℕ) → Has a k → Has (bit_or a b) k
has_left a b k p =
    let low : b / 2 ^ k % 2 ≤ 1 = omega arith in
    rw (or_shr a b k, or_step (a / 2 ^ k) (b / 2 ^ k), p, max-eq_left low) (omega arith)

pub has_right : (a b k : ℕ) → Has b k → Has (bit_or a b) k
has_right a b k p = rw (or_comm a b) (has_left b a k p)

-- a number below 2 ^ h has no bit from h on
pub has_below : (m h k : ℕ) → m < 2 ^ h → Has m k → k < h
has_below m h k l p =
    lt_of_not-le λ q.
    let far : 2 ^ h ≤ 2 ^ k = pow_mono q in
    let none : m / 2 ^ k ≡ 0 = div-eq_of_lt (omega arith) in
    omega arith

-- the remainder by 2 ^ h has the bits below h
pub has_rest : (m h k : ℕ) → k < h → Has m k → Has (m % 2 ^ h) k
has_rest m h k l p =
    let j = h - k - 1 in
    let e : h ≡ j + 1 + k = omega arith in
    let f : m % 2 ^ h / 2 ^ k ≡ m / 2 ^ k % 2 ^ (j + 1) = ap (λ (n : ℕ). m % 2 ^ n / 2 ^ k) e ∙ field m (j + 1) k in
    rw f (mod-mod-pow (m / 2 ^ k) j 1 ∙ p)

-- ---- shifted down

shifted_bit : (m g i : ℕ) → bit (m / 2 ^ g) i ≡ bit m (g + i)
shifted_bit m g i = ap (λ (x : ℕ). x % 2) (shr-shr m g i)

no-bit : (i : ℕ) → bit 0 i ≡ 0
no-bit i = ap (λ (x : ℕ). x % 2) (zero-div (2 ^ i))

half-bit : (m i : ℕ) → bit m (suc i) ≡ bit (m / 2) i
half-bit m i = let e : suc i ≡ 1 + i = omega arith in rw e (sym (ap (λ (x : ℕ). x % 2) (shr-shr m 1 i)))

-- where nothing is left of the m, no bit from there on is set
pub none_left : (m g i : ℕ) → m / 2 ^ g ≡ 0 → g ≤ i → bit m i ≡ 0
none_left m g i e h =
    let w : g + (i - g) ≡ i = omega arith in
    ap (bit m) (sym w) ∙ sym (shifted_bit m g (i - g)) ∙ ap (λ (x : ℕ). bit x (i - g)) e ∙ no-bit (i - g)

-- ---- the bits below the lowest that is set

trailing_bit : (k m i : ℕ) → i < count_trailing_zeros k m → bit m i ≡ 0
unfolding count_trailing_zeros
trailing_bit zero m i h = absurd (omega arith)
trailing_bit (suc k) m i h = go (m % 2) refl i h (trailing_bit k (m / 2))
  where
    go : (d : ℕ) → m % 2 ≡ d → (i : ℕ) → i < under d (count_trailing_zeros k (m / 2)) → ((j : ℕ) → j < count_trailing_zeros k (m / 2) → bit (m / 2) j ≡ 0) → bit m i ≡ 0
    go zero e zero h rec = omega arith
    go zero e (suc j) h rec = half-bit m j ∙ rec j (omega arith)
    go (suc d) e i h rec = absurd (omega arith)

pub trailing_below : (k j m : ℕ) → 0 < m → m < 2 ^ j → j ≤ k → count_trailing_zeros k m < j
unfolding count_trailing_zeros
trailing_below k zero m p h l = absurd (omega arith)
trailing_below zero (suc j) m p h l = absurd (omega arith)
trailing_below (suc k) (suc j) m p h l = go (m % 2) refl (trailing_below k j (m / 2))
  where
    go : (d : ℕ) → m % 2 ≡ d → (0 < m / 2 → m / 2 < 2 ^ j → j ≤ k → count_trailing_zeros k (m / 2) < j) → under d (count_trailing_zeros k (m / 2)) < suc j
    go zero e rec =
        let q = pow-suc 2 j in
        let a : 0 < m / 2 = omega arith in
        let b : m / 2 < 2 ^ j = omega (arith, q) in
        let r = rec a b (omega arith) in
        omega arith
    go (suc d) e rec = omega arith

-- those between, where what is left is shifted down to its lowest bit that is set
pub skipped_bit : (m g i : ℕ) → g ≤ i → i < g + count_trailing_zeros 64 (m / 2 ^ g) → bit m i ≡ 0
skipped_bit m g i h l =
    let w : g + (i - g) ≡ i = omega arith in
    ap (bit m) (sym w) ∙ sym (shifted_bit m g (i - g)) ∙ trailing_bit 64 (m / 2 ^ g) (i - g) (omega arith)
