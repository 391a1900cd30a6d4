-- A slice of coordinates as points: how many there are, which stands where, and what the grid check says of each coordinate.
use Prim.Native.Nat.{ℕ, zero, suc, ◌+◌, ◌*◌, ◌/◌, ◌≤◌, ◌<◌}
use native.Mathlib.Omega.{arith}
use mathlib.Core.Path.{◌≡◌, refl}
use mathlib.Core.Bool.{true, false, not}
use mathlib.Core.List.{List, [], ◌∷◌}
use lib.ListN.{length, get_or}
use lib.Ieee.{Float, nan}
use Rattle.algebra.specs.Lists.{any}
use Rattle.algebra.proofs.Equal.{or-false, not-false}
use Rattle.rules.specs.Grid.{on_grid, point_of, points_of}
use Rattle.rules.specs.Plane.{point}
use Rattle.rules.specs.Refusals.{off_grid}

pub points-length : (cs : List Float) → length (points_of cs) ≡ length cs / 2
unfolding points_of
points-length [] = refl
points-length (x ∷ []) = refl
points-length (x ∷ y ∷ cs) = rw (points-length cs) (halved (length cs))
  where
    halved : (n : ℕ) → suc (n / 2) ≡ suc (suc n) / 2
    halved n = omega arith

-- point number i stands at places i * 2 and i * 2 + 1
pub point_is : (cs : List Float) (i : ℕ) → i * 2 + 1 < length cs → point_of (get_or cs (i * 2) nan) (get_or cs (i * 2 + 1) nan) ≡ point (points_of cs) i
unfolding points_of
point_is [] i h = absurd (omega arith)
point_is (x ∷ []) i h = absurd (omega arith)
point_is (x ∷ y ∷ cs) zero h = refl
point_is (x ∷ y ∷ cs) (suc i) h =
    let e : suc i * 2 ≡ suc (suc (i * 2)) = omega arith in
    let f : suc (suc (i * 2)) + 1 ≡ suc (suc (i * 2 + 1)) = omega arith in
    rw (e, f) (point_is cs i (omega arith))

-- the number of points, as a loop over them compares it
pub within : (cs : List Float) (i : ℕ) → i < length cs / 2 → i < length (points_of cs)
within cs i h = omega (arith, points-length cs)

pub past : (cs : List Float) (i : ℕ) → length cs / 2 ≤ i → length (points_of cs) ≤ i
past cs i h = omega (arith, points-length cs)

pub point_fits : (cs : List Float) (i : ℕ) → i < length (points_of cs) → i * 2 + 1 < length cs
point_fits cs i h = omega (arith, points-length cs)

-- where none is off the grid, each is on it
pub grid_at : (cs : List Float) (k : ℕ) → off_grid cs ≡ false → k < length cs → on_grid (get_or cs k nan) ≡ true
unfolding off_grid
grid_at [] k g h = absurd (omega arith)
grid_at (x ∷ cs) zero g h = not-false (on_grid x) (or-false (not (on_grid x)) (any (λ c. not (on_grid c)) cs) g).0
grid_at (x ∷ cs) (suc k) g h = grid_at cs k (or-false (not (on_grid x)) (any (λ c. not (on_grid c)) cs) g).1 (omega arith)
