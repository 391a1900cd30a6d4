-- The size of an integer, `nat_abs`: of a negation, a sum, a difference, a product and a square. Only zero has none.
use Prim.Native.Nat.{zero, suc, ◌+◌, ◌*◌, ◌≤◌}
use mathlib.Core.Path.{◌≡◌, refl, ap}
use mathlib.Core.Logic.{◌⊎◌, inl, inr}
use native.Mathlib.Omega.{arith}
use lib.IntN.{ℤ, pos, negsuc, neg_ℤ, nat_abs, ◌+ℤ◌, ◌-ℤ◌, ◌*ℤ◌}
use Rattle.algebra.specs.Parts.{up, dn}
use Rattle.algebra.proofs.Order.{at+, up_or_dn}

-- its two parts, of which one is zero
nat_abs_parts : (z : ℤ) → nat_abs z ≡ up z + dn z
nat_abs_parts (pos n) = omega arith
nat_abs_parts (negsuc n) = omega arith

nat_abs_neg : (z : ℤ) → nat_abs (neg_ℤ z) ≡ nat_abs z
nat_abs_neg (pos zero) = refl
nat_abs_neg (pos (suc n)) = refl
nat_abs_neg (negsuc n) = refl

pub nat_abs_add : (a b : ℤ) → nat_abs (a +ℤ b) ≤ nat_abs a + nat_abs b
nat_abs_add a b = go (up_or_dn (a +ℤ b))
  where
    go : (up (a +ℤ b) ≡ 0) ⊎ (dn (a +ℤ b) ≡ 0) → nat_abs (a +ℤ b) ≤ nat_abs a + nat_abs b
    go (inl e) = omega (arith, nat_abs_parts a, nat_abs_parts b, nat_abs_parts (a +ℤ b), at+ a b)
    go (inr e) = omega (arith, nat_abs_parts a, nat_abs_parts b, nat_abs_parts (a +ℤ b), at+ a b)

pub nat_abs_sub : (a b : ℤ) → nat_abs (a -ℤ b) ≤ nat_abs a + nat_abs b
nat_abs_sub a b = rw (nat_abs_neg b) at (nat_abs_add a (neg_ℤ b))

pub nat_abs_mul : (a b : ℤ) → nat_abs (a *ℤ b) ≡ nat_abs a * nat_abs b
nat_abs_mul (pos a) (pos b) = refl
nat_abs_mul (pos a) (negsuc b) = nat_abs_neg (pos (a * suc b))
nat_abs_mul (negsuc a) (pos b) = nat_abs_neg (pos (suc a * b))
nat_abs_mul (negsuc a) (negsuc b) = refl

-- a square is no negative number
pub square_is : (z : ℤ) → z *ℤ z ≡ pos (nat_abs z * nat_abs z)
square_is (pos n) = refl
square_is (negsuc n) = refl

pub nat_abs_zero : (z : ℤ) → nat_abs z ≡ 0 → z ≡ pos 0
nat_abs_zero (pos n) e = ap pos e
nat_abs_zero (negsuc n) e = absurd (omega arith)
