-- What cutting and merging keep of a ring besides the crossing parity: its doubled area, that no corner turns right, that neighbours are apart.
use Rattle.std.specs.Prelude.{◌≡◌, ◌≢◌, false, List, map, ℕ, ℤ, pos}
use Rattle.std.specs.Int.Signed.{lt_z}
use Rattle.algebra.specs.Lists.{Each}
use Rattle.algebra.specs.Sums.{integers}
use Rattle.algebra.specs.Rings.{Corner, edges, corners, around}
use Rattle.rules.specs.Plane.{Pt, cross, point, turns_right}

-- the points of a ring of corner numbers
abbrev pub points : List Pt → List ℕ → List Pt
points ps ring = map (point ps) ring

-- the doubled signed area, below zero where the ring goes clockwise
unfoldable pub area2 : List Pt → ℤ
area2 ring = around integers cross ring

-- a corner, or a triangle, that turns left or is straight
abbrev pub NotRight : List Pt → Corner ℕ → Type 0
NotRight ps c = turns_right ps c.before c.at c.after ≡ false

-- a ring whose doubled area isn't below zero
abbrev pub NotClockwise : List Pt → List ℕ → Type 0
NotClockwise ps ring = lt_z (area2 (points ps ring)) (pos 0) ≡ false

-- no corner of the ring turns right
abbrev pub NoneRight : List Pt → List ℕ → Type 0
NoneRight ps ring = Each (NotRight ps) (corners ring)

-- no two neighbours of the ring are equal points
abbrev pub Apart : List Pt → List ℕ → Type 0
Apart ps ring = Each (λ e. point ps e.from ≢ point ps e.to) (edges ring)
