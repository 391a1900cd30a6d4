-- Whole numbers as f32: a size up to 1025 of either sign, as the code makes it, and the size of a grid value, as the code takes it.
use mathlib.Core.Path.{◌≡◌, refl, sym, ap, subst, ◌∙◌}
use mathlib.Core.Bool.{true, false, false≢true}
use Prim.Native.Nat.{ℕ, suc, ◌+◌, ◌≤◌}
use native.Mathlib.Omega.{arith}
use lib.Dec.{T}
use lib.IntN.{ℤ, pos, negsuc, neg_ℤ, nat_abs, +ℤ_idl}
use lib.Signed.{lt_z}
use lib.Ieee.{Float, fin, binary32, of_bits, of_int, add, sub, lt, in_unsigned, to_unsigned, round}
use borrow.Author.Tests.{ltb-true}
use Rattle.rules.specs.Limits.{grid_edge}
use Rattle.rules.specs.Grid.{whole_of, on_grid}
use Rattle.grid.proofs.Value.{Is, Within, of_int_is, whole_back}
use Rattle.grid.proofs.Turn.{grid_within, below_zero}
use Rattle.grid.proofs.Canon.{sub_canon, add_zero_canon}

-- ---- the zero of the code

zero_float : of_bits binary32 0 ≡ of_int binary32 (pos 0)
unfolding of_bits of_int round
zero_float = refl

of_bits_zero : of_bits binary32 0 ≡ fin false 0 (pos 0)
unfolding of_bits
of_bits_zero = refl

-- a number taken from it
zero_minus : {x : Float} {z : ℤ} → Is x z → sub binary32 (of_bits binary32 0) x ≡ of_int binary32 (neg_ℤ z)
zero_minus {x} {z} i = ap (λ (y : Float). sub binary32 y x) zero_float ∙ sub_canon binary32 (pos 0) (omega arith) i ∙ ap (of_int binary32) (+ℤ_idl (neg_ℤ z))

-- ---- a size up to 1025

pub minus_float : (v : ℕ) → v ≤ grid_edge + 1 → sub binary32 (of_bits binary32 0) (of_int binary32 (pos v)) ≡ of_int binary32 (neg_ℤ (pos v))
minus_float v h = zero_minus (of_int_is binary32 (pos v) (omega arith))

-- ---- the size of a grid value

on_grid_lem : (x : Float) → on_grid x ≡ true → Within grid_edge x (whole_of x)
on_grid_lem x g = grid_within x (subst T (sym g) tt)

-- whether it is below zero, as the code tests it
pub below_test : (x : Float) → on_grid x ≡ true → lt x (of_bits binary32 0) ≡ lt_z (whole_of x) (pos 0)
below_test x g = ap (lt x) of_bits_zero ∙ below_zero (on_grid_lem x g).is

pub size_below : (x : Float) → on_grid x ≡ true → lt x (of_bits binary32 0) ≡ true
    → T (in_unsigned binary32 32 (sub binary32 (of_bits binary32 0) x)) × (to_unsigned 32 (sub binary32 (of_bits binary32 0) x) ≡ nat_abs (whole_of x))
size_below x g t = go (whole_of x) (on_grid_lem x g) (sym (below_test x g) ∙ t)
  where
    go : (z : ℤ) → Within grid_edge x z → lt_z z (pos 0) ≡ true → T (in_unsigned binary32 32 (sub binary32 (of_bits binary32 0) x)) × (to_unsigned 32 (sub binary32 (of_bits binary32 0) x) ≡ nat_abs z)
    go (pos n) w e = absurd (omega (arith, ltb-true n 0 e))
    go (negsuc n) w e = whole_back (sub binary32 (of_bits binary32 0) x) (suc n) (zero_minus w.is) (omega (arith, w.small))

pub size_above : (x : Float) → on_grid x ≡ true → lt x (of_bits binary32 0) ≡ false
    → T (in_unsigned binary32 32 (add binary32 x (of_bits binary32 0))) × (to_unsigned 32 (add binary32 x (of_bits binary32 0)) ≡ nat_abs (whole_of x))
size_above x g t = go (whole_of x) (on_grid_lem x g) (sym (below_test x g) ∙ t)
  where
    go : (z : ℤ) → Within grid_edge x z → lt_z z (pos 0) ≡ false → T (in_unsigned binary32 32 (add binary32 x (of_bits binary32 0))) × (to_unsigned 32 (add binary32 x (of_bits binary32 0)) ≡ nat_abs z)
    go (pos n) w e = whole_back (add binary32 x (of_bits binary32 0)) n (ap (add binary32 x) of_bits_zero ∙ add_zero_canon binary32 w.is) (omega (arith, w.small))
    go (negsuc n) w e = absurd (false≢true (sym e))
