-- The number of leaves.
use Prim.Native.Nat.{ℕ, suc, ◌*◌, ◌/◌, ◌^◌, ◌≤◌, ◌<◌}
use native.Mathlib.Nat.{pow-suc}
use native.Mathlib.Omega.{arith}
use mathlib.Core.Path.{◌≡◌, refl, sym, ap, ◌∙◌}
use Rattle.std.proofs.Common.{lt_of_not-le}
use lib.Pow.{pow_mono}
use Rattle.winners.specs.Keys.{Power}

pub power_one : Power 1
power_one = record { exponent = 0; low = omega arith; is = refl }

pub power_small : (m : ℕ) → Power m → m ≤ 512
power_small m p = let h : 2 ^ p.exponent ≤ 2 ^ 9 = pow_mono p.low in omega (arith, p.is)

pub power : (k m : ℕ) → m ≡ 2 ^ k → m / 2 < 512 → Power m
power k m e h = record { exponent = k; low = omega (arith, small); is = e }
  where
    small : k < 10
    small = lt_of_not-le λ q. let far : 2 ^ 10 ≤ 2 ^ k = pow_mono q in omega (arith, e, h)

pub power_more : (m : ℕ) → m < 512 → Power m → Power (m * 2)
power_more m h p = power (suc p.exponent) (m * 2) (ap (λ (x : ℕ). x * 2) p.is ∙ sym (pow-suc 2 p.exponent)) (omega arith)
