-- Equal points: `same` says that two points are equal, both ways.
use mathlib.Core.Path.{◌≡◌, refl, subst}
use mathlib.Core.Logic.{◌≢◌}
use mathlib.Core.Bool.{Bool, true, false, ◌&&◌}
use lib.IntN.{ℤ}
use lib.Signed.{le_z, ≤ℤ_refl}
use Rattle.algebra.proofs.Equal.{impossible, T→true, and_true_l, and_true_r}
use Rattle.algebra.proofs.Order.{lin}
use Rattle.rules.specs.Plane.{Pt, same}

same_self : (a : Pt) → same a a ≡ true
same_self a = rw (T→true (le_z a.x a.x) (≤ℤ_refl a.x).le, T→true (le_z a.y a.y) (≤ℤ_refl a.y).le)

pub equal→same : (a b : Pt) → a ≡ b → same a b ≡ true
equal→same a b e = subst (λ (z : Pt). same a z ≡ true) e (same_self a)

both_ways : (x y : ℤ) → (le_z x y && le_z y x) ≡ true → x ≡ y
both_ways x y h =
    let p = and_true_l (le_z x y) (le_z y x) h in
    let q = and_true_r (le_z x y) (le_z y x) h in
    omega lin

pub same→equal : (a b : Pt) → same a b ≡ true → a ≡ b
same→equal a b h =
    let across = le_z a.x b.x && le_z b.x a.x in
    let along = le_z a.y b.y && le_z b.y a.y in
    let e = both_ways a.x b.x (and_true_l across along h) in
    let f = both_ways a.y b.y (and_true_r across along h) in
    λ i. record { x = e i; y = f i }

pub differ : (a b : Pt) → same a b ≡ false → a ≢ b
differ a b h e = impossible (cc (equal→same a b e, h))

pub apart→not_same : (a b : Pt) → a ≢ b → same a b ≡ false
apart→not_same a b h = go (same a b) refl
  where
    go : (t : Bool) → same a b ≡ t → t ≡ false
    go true e = absurd (h (same→equal a b e))
    go false e = refl
