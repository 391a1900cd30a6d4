-- The solver and `omega lin` at work: one line for a polynomial identity, one for a linear fact.
use mathlib.Core.Path.{◌≡◌, refl}
use mathlib.Core.List.{[], ◌∷◌}
use mathlib.Core.Bool.{true, not}
use lib.Dec.{T}
use lib.IntN.{ℤ, pos, ◌+ℤ◌, ◌-ℤ◌, ◌*ℤ◌}
use lib.Signed.{lt_z, ◌≤ℤ◌, ◌<ℤ◌}
use Rattle.algebra.specs.Reify.{reify}
use Rattle.algebra.proofs.Solve.{ring}
use Rattle.algebra.proofs.Order.{lin, at+, at-}

conjugates : (x y : ℤ) → (x +ℤ y) *ℤ (x -ℤ y) ≡ x *ℤ x -ℤ y *ℤ y
conjugates x y = ring (x ∷ y ∷ []) (search reify depth 12) (search reify depth 12) refl

literals : (x : ℤ) → (x +ℤ pos 3) *ℤ (x -ℤ pos 3) ≡ x *ℤ x -ℤ pos 9
literals x = ring (x ∷ []) (search reify depth 12) (search reify depth 12) refl

between : (x y z w : ℤ) → (x +ℤ z) ≤ℤ y → (y -ℤ w) <ℤ x → z <ℤ w
between x y z w h k = omega (lin, at+ x z, at- y w)

tested : (x y z : ℤ) → lt_z x y ≡ true → T (not (lt_z z y)) → x <ℤ z
tested x y z h k = omega lin
