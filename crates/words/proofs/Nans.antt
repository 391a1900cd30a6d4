-- Which bit patterns of an f32 are a NaN's.
use Prim.Native.Nat.{ℕ, ◌/◌, ◌%◌, ◌≤◌, ◌<◌}
use mathlib.Core.Path.{◌≡◌, refl, sym, ◌∙◌}
use mathlib.Core.Bool.{Bool, true, false, not, ◌&&◌}
use native.Mathlib.Omega.{arith}
use borrow.Author.Tests.{eq-eqb, ne_eqb}
use lib.Dec.{T, eqb, leb}
use lib.Ieee.{nan, binary32, of_fields, of_bits, nan_bits}

-- the exponent's field is all ones, and the digits' field is not 0
field : (b : ℕ) → 2139095040 < b % 2147483648 → b % 2147483648 / 8388608 ≡ 255
field b h = omega arith

digits : (b : ℕ) → 2139095040 < b % 2147483648 → b % 8388608 ≡ 0 → ⊥
digits b h e = omega arith

not_a_number : (s : Bool) (x t : ℕ) → x ≡ 255 → (t ≡ 0 → ⊥) → of_fields binary32 s x t ≡ nan
unfolding of_fields
not_a_number s x t e h = rw (e, ne_eqb t 0 h)

pub is_nan : (b : ℕ) → 2139095040 < b % 2147483648 → of_bits binary32 b ≡ nan
unfolding of_bits
is_nan b h = not_a_number (leb 2147483648 b) (b % 2147483648 / 8388608) (b % 8388608) (field b h) (digits b h)

pub is_number : (b : ℕ) → b % 2147483648 ≤ 2139095040 → T (not (nan_bits binary32 b))
unfolding nan_bits
is_number b h = go (eqb (b % 8388608) 0) refl
  where
    go : (t : Bool) → eqb (b % 8388608) 0 ≡ t → T (not (eqb (b % 2147483648 / 8388608) 255 && not t))
    go true e = both (eqb (b % 2147483648 / 8388608) 255)
      where
        both : (s : Bool) → T (not (s && false))
        both true = tt
        both false = tt
    go false e = rw (ne_eqb (b % 2147483648 / 8388608) 255 λ q. small (eqb_no (b % 8388608) e) q) tt
      where
        eqb_no : (n : ℕ) → eqb n 0 ≡ false → n ≡ 0 → ⊥
        eqb_no n f q = let z : true ≡ false = sym (eq-eqb n 0 q) ∙ f in let y : ◌≡◌ {A = ℕ} 0 1 = cc in omega arith

        small : (b % 8388608 ≡ 0 → ⊥) → b % 2147483648 / 8388608 ≡ 255 → ⊥
        small n q = n (omega arith)
