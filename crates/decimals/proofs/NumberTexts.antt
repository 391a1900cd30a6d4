-- A number's text: its digits, and a minus before them if it is below zero.
use Prim.Native.Char.{code}
use Prim.Native.Nat.{ℕ, ◌/◌, ◌%◌, ◌≤◌, ◌<◌}
use native.Mathlib.Omega.{arith}
use mathlib.Core.Path.{◌≡◌, sym, ap, ◌∙◌}
use mathlib.Core.Bool.{true, false, false≢true}
use mathlib.Core.List.{[], ◌∷◌, ◌++◌}
use lib.IntN.{ℤ, pos, negsuc, nat_abs}
use lib.Signed.{lt_z}
use lib.Ieee.{Float, binary32, of_bits, add, sub, lt, to_unsigned}
use borrow.Author.Tests.{ltb-true}
use Rattle.rules.specs.Grid.{whole_of, on_grid}
use Rattle.rules.specs.Text.{bytes, digit, natural, decimal}
use Rattle.rules.proofs.TextNumbers.{natural_one, natural-split}
use Rattle.decimals.specs.declared.write.Text.{Text}
use Rattle.decimals.specs.Writes.{Takes}
use Rattle.decimals.proofs.Floats.{below_test, size_below, size_above}
use Rattle.decimals.proofs.Texts.{Partly, partly_none, partly_as}

-- all digits but the last, and the last
pub digits_first : {text : Text} (n : ℕ) → 10 ≤ n → Takes text (natural n) → Partly text text (natural n) (natural (n / 10) ++ (digit (n % 10) ∷ []))
digits_first n p h = partly_as (natural-split n p) (partly_none h)

-- or the last alone
pub digit_alone : {text : Text} (n : ℕ) → n < 10 → Takes text (natural n) → Partly text text (natural n) (digit (n % 10) ∷ [])
digit_alone n p h = let e : n ≡ n % 10 = omega arith in partly_as (natural_one n p ∙ ap (λ (d : ℕ). digit d ∷ []) e) (partly_none h)

pub fewer : (n : ℕ) → 10 ≤ n → n / 10 < n
fewer n p = omega arith

number-text : (z : ℤ) (n : ℕ) → n ≡ nat_abs z → (lt_z z (pos 0) ≡ true → decimal z ≡ code "-" ∷ natural n) × (lt_z z (pos 0) ≡ false → decimal z ≡ natural n)
unfolding decimal
number-text (pos k) n e = (λ t. absurd (omega (arith, ltb-true k 0 t)), λ t. ap natural (sym e))
number-text (negsuc k) n e = (λ t. ap (λ (m : ℕ). code "-" ∷ natural m) (sym e), λ t. absurd (false≢true (sym t)))

module _ {text : Text} (x : Float) (g : on_grid x ≡ true) (room : Takes text (decimal (whole_of x))) where
  pub minus_first : lt x (of_bits binary32 0) ≡ true → Partly text text (decimal (whole_of x)) (bytes "-" ++ natural (to_unsigned 32 (sub binary32 (of_bits binary32 0) x)))
  minus_first t = partly_as ((number-text (whole_of x) _ (size_below x g t).1).0 (sym (below_test x g) ∙ t)) (partly_none room)

  pub digits_only : lt x (of_bits binary32 0) ≡ false → Partly text text (decimal (whole_of x)) (natural (to_unsigned 32 (add binary32 x (of_bits binary32 0))))
  digits_only t = partly_as ((number-text (whole_of x) _ (size_above x g t).1).1 (sym (below_test x g) ∙ t)) (partly_none room)
