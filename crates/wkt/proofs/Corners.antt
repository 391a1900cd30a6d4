-- What the coordinates that were read say of the corners in the text: which are off the grid, and the corners themselves where none is.
use Prim.Native.Nat.{ℕ, suc, ◌+◌, ◌*◌, ◌/◌, ◌%◌, ◌≤◌, ◌<◌, min}
use native.Mathlib.Nat.{mul-one, mul-mod_left, mul-div_left}
use native.Mathlib.Omega.{arith}
use mathlib.Core.Path.{◌≡◌, refl, sym, ap, ap₂, ◌∙◌}
use mathlib.Core.Bool.{Bool, true, false, not, ◌&&◌, ◌||◌, or_assoc}
use mathlib.Core.List.{List, [], ◌∷◌}
use lib.Dec.{leb}
use lib.ListN.{length}
use lib.IntN.{ℤ, pos, negsuc, neg_ℤ, nat_abs}
use lib.Ieee.{Float, nan, inf, fin, binary32, up, down}
use lib.Ieee.Fits.{down_pos}
use borrow.Author.Tests.{eq-eqb, le-leb, lt-leb, leb-true, leb-false}
use Rattle.algebra.specs.Lists.{Each, end, ◌&◌}
use Rattle.rules.specs.Limits.{grid_edge}
use Rattle.rules.specs.Plane.{Pt}
use Rattle.rules.specs.Grid.{signed, whole_of, on_grid, points_of}
use Rattle.rules.specs.Refusals.{off_grid}
use Rattle.rules.specs.Lines.{clamped, coordinate, coordinates, off_corners}
use Rattle.rules.proofs.GridSizes.{GridPoint, nat_abs_signed}
use Rattle.rules.proofs.FillRoom.{corners-on_grid}
use Rattle.grid.proofs.Value.{Is, of_int_is}

-- ---- one coordinate

-- a float that is a whole number: whether it is on the grid, and which it is
of_whole : (x : Float) (z : ℤ) → Is x z → (on_grid x ≡ leb (nat_abs z) grid_edge) × (whole_of x ≡ z)
of_whole nan z i = absurd i.value
of_whole (inf s) z i = absurd i.value
of_whole (fin t m e) z i =
    let a : m * up e ≡ i.n * down e = sym (mul-one (m * up e)) ∙ i.value.1 in
    let r : m * up e % down e ≡ 0 = ap (λ (k : ℕ). k % down e) a ∙ mul-mod_left i.n (down e) in
    let q : m * up e / down e ≡ i.n = ap (λ (k : ℕ). k / down e) a ∙ mul-div_left i.n (down_pos e) in
    let n : nat_abs z ≡ i.n = ap nat_abs (sym i.whole) ∙ nat_abs_signed i.s i.n in (
      ap₂ (λ (u v : Bool). u && v) (eq-eqb (m * up e % down e) 0 r) (ap (λ (k : ℕ). leb k grid_edge) (q ∙ sym n)),
      ap₂ signed i.value.0 q ∙ i.whole,
    )

-- clamping keeps whether a number is on the grid, and those that are
size_clamped : (z : ℤ) → nat_abs (clamped z) ≡ min (nat_abs z) (grid_edge + 1)
unfolding clamped
size_clamped (pos n) = refl
size_clamped (negsuc n) = nat_abs_signed true (min (suc n) (grid_edge + 1))

clamped-same : (z : ℤ) → nat_abs z ≤ grid_edge → clamped z ≡ z
unfolding clamped
clamped-same (pos n) h = let e : min n (grid_edge + 1) ≡ n = omega arith in ap pos e
clamped-same (negsuc n) h = let e : min (suc n) (grid_edge + 1) ≡ suc n = omega arith in ap (λ (k : ℕ). neg_ℤ (pos k)) e

read_is : (z : ℤ) → Is (coordinate z) (clamped z)
unfolding coordinate
read_is z = of_int_is binary32 (clamped z) (omega (arith, size_clamped z))

leb_min : (n : ℕ) → leb (min n (grid_edge + 1)) grid_edge ≡ leb n grid_edge
leb_min n = go (leb n grid_edge) refl
  where
    go : (t : Bool) → leb n grid_edge ≡ t → leb (min n (grid_edge + 1)) grid_edge ≡ t
    go true e = let h : n ≤ grid_edge = leb-true n grid_edge e in le-leb (min n (grid_edge + 1)) grid_edge (omega arith)
    go false e = let h : grid_edge < n = leb-false n grid_edge e in lt-leb (min n (grid_edge + 1)) grid_edge (omega arith)

grid_read : (z : ℤ) → on_grid (coordinate z) ≡ leb (nat_abs z) grid_edge
grid_read z = (of_whole (coordinate z) (clamped z) (read_is z)).0 ∙ ap (λ (k : ℕ). leb k grid_edge) (size_clamped z) ∙ leb_min (nat_abs z)

whole_read : (z : ℤ) → nat_abs z ≤ grid_edge → whole_of (coordinate z) ≡ z
whole_read z h = (of_whole (coordinate z) (clamped z) (read_is z)).1 ∙ clamped-same z h

-- ---- all of them

-- document 01's test for refusal 4 on the coordinates is the one on the numbers in the text
pub off_grid_read : (cs : List Pt) → off_grid (coordinates cs) ≡ off_corners cs
unfolding off_grid coordinates off_corners
off_grid_read [] = refl
off_grid_read (c ∷ cs) =
    ap₂ (λ (a b : Bool). not a || b) (grid_read c.x) (ap₂ (λ (a b : Bool). not a || b) (grid_read c.y) (off_grid_read cs))
    ∙ sym (or_assoc (not (leb (nat_abs c.x) grid_edge)) (not (leb (nat_abs c.y) grid_edge)) (off_corners cs))

-- and without it the coordinates are the corners
pub points_read : (cs : List Pt) → off_corners cs ≡ false → points_of (coordinates cs) ≡ cs
unfolding points_of coordinates
points_read cs h = go cs (corners-on_grid cs h)
  where
    go : (cs : List Pt) → Each GridPoint cs → points_of (coordinates cs) ≡ cs
    go [] end = refl
    go (c ∷ cs) (h & hs) = ap₂ ◌∷◌ (ap₂ (λ (x y : ℤ). record { x = x; y = y }) (whole_read c.x h.x-small) (whole_read c.y h.y-small)) (go cs hs)

pub coordinates-length : (cs : List Pt) → length (coordinates cs) ≡ 2 * length cs
unfolding coordinates
coordinates-length [] = refl
coordinates-length (c ∷ cs) = omega (arith, coordinates-length cs)
