-- The root by its bits: 149 - j in the exponent's field and k, whose leading digit adds one to it, is the f32 that is k / 2 ^ j.
use Rattle.std.proofs.Common.{◌≡◌, ℕ, suc, ◌+◌, ◌-◌, ◌*◌, ◌%◌, ◌^◌, ◌<◌, ◌≤◌, Bool, false, not, T, sym, refl, ap, ◌∙◌, mod-eq_of_lt, mul_assoc, mul-pos, mul_right_comm, arith, pow_pos, pow-add, le-ltb, ne_eqb}
use lib.Pow.{high, low}
use lib.Ieee.{Float, nan, inf, fin, binary32, odd, of_bits, of_fields, nan_bits, up, down}
use lib.Ieee.Bits.{of_bits-fits, nan_bits_above}
use lib.Ieee.Exact.{HasValue, odd_sign}
use borrow.Author.Tests.{lt-leb}
use Rattle.rules.specs.Root.{IsRoot, Scaled, Nearest, root}
use Rattle.rules.proofs.Floats.{value_unique}
use Rattle.rules.proofs.Root.{sentence, root_value}
use Rattle.rules.proofs.Scale.{scale_high}

-- ---- a pattern with the field x + 1 and the digits t

module _ (x t : ℕ) (h : x < 254) (s : t < 2 ^ 23) where
  abbrev written : ℕ
  written = suc x * 2 ^ 23 + t

  small : written ≤ 255 * 2 ^ 23
  small = omega arith

  rest : written % 2 ^ 31 ≡ written
  rest = mod-eq_of_lt (omega (arith, small))

  read : of_bits binary32 written ≡ odd 24 false (2 ^ 23 + t) x 149
  unfolding of_bits of_fields
  read = rw (lt-leb (2 ^ 31) written (omega (arith, small)), rest, high (suc x) 23 s, low (suc x) 23 s, ne_eqb (suc x) 255 (λ e. omega arith)) refl

  no_nan : nan_bits binary32 written ≡ false
  no_nan = nan_bits_above binary32 written ∙ rw rest (le-ltb (255 * 2 ^ 23) written small)

-- ---- what the steps to k and j found

pub record Parts (m k j : ℕ) : Type 0 where
  pub some : 0 < m
  pub most : m ≤ 2 ^ 23
  pub scaled : Scaled m j
  pub nearest : Nearest (m * 4 ^ j) k

pub parts : {m n k j : ℕ} → (m ≡ 0 → ⊥) → m ≤ 2 ^ 23 → Scaled m j → n ≡ m * 4 ^ j → Nearest n k → Parts m k j
parts d h s e n = record { some = omega arith; most = h; scaled = s; nearest = rw e at n }

scaled_up : (x : Float) (s : Bool) (a c d : ℕ) → HasValue x s a c → HasValue x s (a * d) (c * d)
scaled_up nan s a c d v = v
scaled_up (inf t) s a c d v = v
scaled_up (fin t m e) s a c d v = (v.0, sym (mul_assoc (m * up e) c d) ∙ ap (λ (x : ℕ). x * d) v.1 ∙ mul_right_comm a (down e) d)

module _ {m k j : ℕ} (p : Parts m k j) where
  is : IsRoot m k j
  is = sentence m k j p.most p.scaled p.nearest

  pub power_small : j ≤ 23
  power_small = scale_high m j p.some p.scaled

  pub digits_fit : k < 2 ^ 24
  digits_fit = omega (arith, is.high)

  abbrev x : ℕ
  x = 149 - j

  abbrev t : ℕ
  t = k - 2 ^ 23

  abbrev bits : ℕ
  bits = x * 8388608 + k

  field : x < 254
  field = omega arith

  digits : t < 2 ^ 23
  digits = omega (arith, digits_fit)

  same : bits ≡ written x t field digits
  same = omega (arith, is.low)

  pub bits_fit : bits < 2 ^ 32
  bits_fit = omega (arith, digits_fit)

  pub bits_no_nan : T (not (nan_bits binary32 bits))
  bits_no_nan = rw (same, no_nan x t field digits) tt

  value : HasValue (of_bits binary32 bits) false (k * 2 ^ x) (2 ^ j * 2 ^ x)
  value =
      let e : 2 ^ 23 + t ≡ k = omega (arith, is.low) in
      let f : j + x ≡ 149 = omega (arith, power_small) in
      let o : HasValue (odd 24 false k x 149) false (k * 2 ^ x) (2 ^ (j + x)) = rw f (odd_sign 24 false k x 149) in
      rw (same, read x t field digits, e, ← pow-add 2 j x) o

  pub pattern : of_bits binary32 bits ≡ root m
  pattern =
      let r = root_value m k j p.some p.most is in
      value_unique binary32 (of_bits binary32 bits) (root m) false (k * 2 ^ x) (2 ^ j * 2 ^ x) (mul-pos (pow_pos j) (pow_pos x)) (of_bits-fits binary32 bits) r.1 value
      (scaled_up (root m) false k (2 ^ j) (2 ^ x) r.0)
